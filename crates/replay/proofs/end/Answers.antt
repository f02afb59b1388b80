-- What was written is within the slice.
use Rattle.std.proofs.Common.{sym, ◌∙◌}
use lib.Seq.{length-take-le}
use Rattle.playback.proofs.Feeding.{count_fits}
use Rattle.replay.proofs.end.Goals as goal

pub slice_bounds-write_all-end : goal.slice_bounds-write_all-end
slice_bounds-write_all-end g c =
    let f = c.finish.ensures in count_fits _ _ _ c.finish.new.out c.in-Ok.n (sym c.in-Ok.is ∙ f.0) f.1

pub slice_bounds-write_all-end-in-Ok : goal.slice_bounds-write_all-end-in-Ok
slice_bounds-write_all-end-in-Ok g c =
    let f = c.finish.ensures in
    sym (length-take-le c.in-Ok.n c.finish.new.out (count_fits _ _ _ c.finish.new.out c.in-Ok.n (sym c.in-Ok.is ∙ f.0) f.1))
