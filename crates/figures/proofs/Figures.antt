-- The bench figures, by computation.
use mathlib.Core.Path.{refl}
use Rattle.words.specs.Words.{word, wrap}
use Rattle.sums.specs.Machine.{
  pushed,
  integrated,
  summed,
  less,
  combed,
  differed,
  decimated_at,
  decimated,
  given_at,
  given,
  interpolated_at,
  interpolated,
  risen_at,
  risen,
}
use Rattle.sums.specs.State.{rows, put_rows, view, put, refusal_of, zeroed}
use Rattle.sums.specs.Calls.{new_state, resume_state, rate_state, clear_state, rise_number, step_state, step_given, rise_state, rise_given}
use Rattle.sums.specs.Runs.{outputs, risings}
use Rattle.sums.specs.Counted.{take_number_of, take_state, take_given}
use Rattle.text.specs.Numbers.{digits_from, leading_of, plain_of, number_of, spelt}
use Rattle.text.specs.Parts.{parted}
use Rattle.text.specs.Same.{same}
use Rattle.records.specs.Lines.{name_of, record_of}
use Rattle.records.specs.Sessions.{take_of, line_of}
use Rattle.playback.specs.Replays.{output_line, end_line, bad_line, replay_from, replay}
use Rattle.dsm.specs.Modulator.{accumulated, carries, combined, retaining, output, keeping, modulator_out, next_of}
use Rattle.unwrap.specs.Phases.{difference_of, turns_of}
use Rattle.figures.specs.Table.{unwrapper_after, computed, table, Figures}

pub all_right : Figures
unfolding computed table unwrapper_after outputs risings new_state resume_state zeroed refusal_of step_state step_given decimated
    decimated_at given given_at rise_number rise_state rise_given interpolated interpolated_at risen risen_at view put rows put_rows
    integrated summed less pushed combed differed wrap word replay replay_from output_line end_line bad_line line_of take_of record_of
    name_of same parted number_of plain_of leading_of digits_from spelt rate_state clear_state take_number_of take_state take_given accumulated carries combined
    retaining output keeping modulator_out next_of difference_of turns_of
all_right = refl
