-- The count is not beyond the slice that it is of (count_within).
use Rattle.std.proofs.Common.{sym}
use lib.Seq.{length-take-le}
use Rattle.wav.proofs.Parts.{bytes-length, count_within}
use Rattle.wav_out.proofs.Taking.give.Goals as goal

pub slice_bounds-write_all-end : goal.slice_bounds-write_all-end
slice_bounds-write_all-end g c =
    let e = c.write_part.ensures in
    rw (c.unwrap_or-wrote.ensures, e.0) (count_within _ _ _ _ _ (bytes-length _) e.1 c.write_part.auto.out)

pub slice_bounds-write_all-end-2 : goal.slice_bounds-write_all-end-2
slice_bounds-write_all-end-2 g c = sym (length-take-le _ _ (slice_bounds-write_all-end g c))
