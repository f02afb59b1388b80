-- Neither count is beyond the slice that it is of (count_within).
use Rattle.std.proofs.Common.{refl, sym}
use lib.Seq.{length-take-le}
use Rattle.wav.specs.Samples.{samples_of}
use Rattle.wav.proofs.Parts.{samples-length, count_within}
use Rattle.wav_in.proofs.give.Goals as goal
use Rattle.wav_in.proofs.give.Goals.{After-unwrap_or-count, After-unwrap_or-wrote}

pub slice_bounds-write_inputs-end : goal.slice_bounds-write_inputs-end
slice_bounds-write_inputs-end g c =
    let e = c.read_part.ensures in
    rw (c.unwrap_or-count.ensures, e.0) (count_within _ _ (samples_of c.args.bytes.now) _ _ (samples-length c.args.bytes.now) e.1 c.read_part.auto.out)

pub slice_bounds-write_inputs-end-2 : goal.slice_bounds-write_inputs-end-2
slice_bounds-write_inputs-end-2 g c = sym (length-take-le _ _ (slice_bounds-write_inputs-end g c))

pub slice_bounds-write_all-end : goal.slice_bounds-write_all-end
slice_bounds-write_all-end g c =
    let e = c.write_inputs.ensures in
    rw (c.unwrap_or-wrote.ensures, e.0) (count_within _ _ _ _ _ refl e.1 c.write_inputs.auto.out)

pub slice_bounds-write_all-end-2 : goal.slice_bounds-write_all-end-2
slice_bounds-write_all-end-2 g c = sym (length-take-le _ _ (slice_bounds-write_all-end g c))
