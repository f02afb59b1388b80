-- What comes out of a recorder, in a customer's words: the statements of the real calls, proved in proofs/Traces. Each cites demand 3, or 2,
-- on i64 (demands). R is rate + 1.
use Rattle.std.specs.Prelude.{◌≡◌, List, [], ◌++◌, ℕ, suc, ◌+◌, ◌*◌, eqb, leb, ℤ, pos, Result, Ok}
use Rattle.std.specs.Int.{w64}
use Rattle.std.proofs.Math.Option.{some}
use Rattle.std.proofs.Math.ListN.{get_elem?}
use Rattle.blocks.specs.declared.refusal.Refusal.{Refusal}
use Rattle.blocks.specs.Refusals.{answer}
use Rattle.unwrap.specs.declared.unwrapper.Unwrapper.{Unwrapper}
use Rattle.sums.specs.Calls.{rate_number}
use Rattle.sums.specs.Counted.{Numbered}
use Rattle.sums.specs.Demands.{Contents, Decimates}
use Rattle.shape.specs.declared.runs.Written.{Written}
use Rattle.cic.specs.Reading.{state_of}
use Rattle.demands.specs.Demands.{took_block, gave_block}
use Rattle.recorder.specs.declared.recorder.Recorder.{Recorder}
use Rattle.recorder.specs.Calls.{turns_from, opened_of, push_number, pushed_of, rated_of, took_of, took_answer, out_left}

-- Calls of `take`, each answered as its promise says: from the recorder s they took the words ws, gave ys and left t. A refused one takes
-- nothing and gives nothing.
pub data Recording : Recorder → List ℤ → List (Numbered ℤ) → Recorder → Type 0 where
  none : {s : Recorder} → Recording s [] [] s
  take : {s u t : Recorder} {ws : List ℤ} {ys : List (Numbered ℤ)} (us turns out left : List ℤ) (r : Result Written Refusal)
      → u ≡ took_of s us turns out → r ≡ took_answer s us turns out → left ≡ out_left s us turns out → Recording u ws ys t
      → Recording s (took_block r us ++ ws) (gave_block (suc s.filter.rate) r left ++ ys) t

-- What the outputs ys are to the turns xs of the words since then, where the first output is due after c words, the first u are not to be
-- believed and n words were taken before.
pub record Trace (N M rate c u n : ℕ) (xs : List ℤ) (ys : List (Numbered ℤ)) : Type 0 where
  -- They fall, are numbered and tell as documents 01 and 02 say, and where they are told 0 they are the moving sum of those turns alone.
  pub decimates : Decimates w64 N M rate c u n xs ys
  -- Which one is the first to be believed is known beforehand: told 0 are exactly those with the number n + c + u · R + 1 or a greater one.
  pub known : (k : ℕ) (y : Numbered ℤ) → get_elem? ys k ≡ some y → eqb y.told 0 ≡ leb (n + (c + u * suc rate + 1)) y.number

abbrev pub Traces : (N M rate c u n : ℕ) → Unwrapper → Recorder → Type 0
Traces N M rate c u n turns s =
    (ws : List ℤ) (ys : List (Numbered ℤ)) (t : Recorder) → Recording s ws ys t → Trace N M rate c u n (turns_from turns ws) ys

-- From the start every output is to be believed.
abbrev pub AfterOpen : Type 0
AfterOpen = (N M rate : ℕ) (s : Recorder) → opened_of N M rate ≡ Ok s → Traces N M rate 0 0 0 (record { y = pos 0 }) s

-- After the plug is pushed back, whatever the filter then holds, N · M outputs are not.
abbrev pub AfterPush : Type 0
AfterPush =
    (s : Recorder) → answer (push_number s) (tt {0}) ≡ Ok (tt {0}) → Contents s.filter.integrators s.filter.combs
    → let f = s.filter in
    Traces f.order f.delay f.rate f.countdown (f.order * f.delay) f.inputs s.turns (pushed_of s)

-- The same after a change of rate.
abbrev pub AfterRate : Type 0
AfterRate =
    (s : Recorder) (rate : ℕ) → answer (rate_number (state_of s.filter) rate) (tt {0}) ≡ Ok (tt {0}) → Contents s.filter.integrators s.filter.combs
    → let f = s.filter in
    Traces f.order f.delay rate f.countdown (f.order * f.delay) f.inputs s.turns (rated_of s rate)
