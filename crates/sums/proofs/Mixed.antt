-- An interpolator's step between decimator's steps, by computation.
use mathlib.Core.Path.{refl}
use Rattle.words.specs.Words.{word, wrap}
use Rattle.sums.specs.Machine.{pushed, integrated, summed, less, combed, differed, decimated_at, decimated, given_at, given}
use Rattle.sums.specs.Machine.{interpolated_at, interpolated}
use Rattle.sums.specs.State.{rows, put_rows, view, put, refusal_of, zeroed}
use Rattle.sums.specs.Calls.{new_state, rise_number, step_state, step_given, rise_state}
use Rattle.sums.specs.Moving.{last, moving}
use Rattle.sums.specs.Demands.{Between}

pub mixed : Between
unfolding new_state zeroed refusal_of step_state step_given decimated decimated_at given given_at rise_number rise_state interpolated
    interpolated_at view put rows put_rows integrated summed less pushed combed differed wrap word last moving
mixed = (refl, refl, refl, refl, refl)
