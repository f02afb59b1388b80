-- A saved state can be resumed, in a customer's words; proved in proofs/Saving.
use Rattle.std.specs.Prelude.{◌≡◌, ◌<◌, ◌^◌, map, Ok}
use Rattle.std.specs.Int.{w64}
use Rattle.words.specs.Words.{wrap}
use Rattle.blocks.specs.Refusals.{answer}
use Rattle.sums.specs.Demands.{Contents}
use Rattle.recorder.specs.Calls.{push_number, pushed_of}
use Rattle.recorder.specs.declared.recorder.Recorder.{Recorder}
use Rattle.desk.specs.Saved.{load_of}
use Rattle.state_lines.specs.States.{state_line}

-- A recorder as the program holds it: its numbers are words of their types, and there are 8 integrators and 64 comb cells.
pub record Held (s : Recorder) : Type 0 where
  pub order : s.filter.order < 2 ^ 64
  pub delay : s.filter.delay < 2 ^ 64
  pub rate : s.filter.rate < 2 ^ 32
  pub countdown : s.filter.countdown < 2 ^ 32
  pub inputs : s.filter.inputs < 2 ^ 64
  pub hold : wrap w64 s.filter.hold ≡ s.filter.hold
  pub turns : wrap w64 s.turns.y ≡ s.turns.y
  pub integrators : map (wrap w64) s.filter.integrators ≡ s.filter.integrators
  pub combs : map (wrap w64) s.filter.combs ≡ s.filter.combs
  pub contents : Contents s.filter.integrators s.filter.combs

-- A state that is saved and resumed goes on as the recorder does whose plug is pulled and pushed back: the same turns and the same cells, and
-- its next N · M outputs are not to be believed (recorder, specs/Traces, `AfterPush`).
abbrev pub SavedResumes : Type 0
SavedResumes = (s : Recorder) → Held s → answer (push_number s) (tt {0}) ≡ Ok (tt {0}) → load_of (state_line s) ≡ Ok (pushed_of s)
