-- 01, 'Bench figures': T1 to T10, a single statement over one table. A further case is a further entry.
use Rattle.std.specs.Prelude.{◌≡◌, List, [], ◌∷◌, map, ℕ, ◌^◌, ℤ, pos, negsuc, length, replicate}
use Rattle.std.specs.Int.{w32}
use Rattle.sums.specs.Ops.{Ops}
use Rattle.sums.specs.Signed.{signed_ops}
use Rattle.sums.specs.Machine.{Output}
use Rattle.sums.specs.State.{State}
use Rattle.sums.specs.Calls.{new_state, resume_state}
use Rattle.sums.specs.Runs.{outputs, risings}
use Rattle.text.specs.Letters.{bytes}
use Rattle.playback.specs.Replays.{replay}
use Rattle.shaping.specs.Totals as Modulator
use Rattle.unwrap.specs.declared.unwrapper.Unwrapper.{Unwrapper}
use Rattle.unwrap.specs.Phases.{difference_of, sign_of, grown, turns_of}

abbrev pub i32 : Ops ℤ
i32 = signed_ops w32

-- A case as document 01 prints it: what goes in, then what comes out.
pub data Figure : Type 0 where
  -- from a state, inputs; outputs with the count that each is told
  decimator : State ℤ → List ℤ → List (Output ℤ) → Figure
  -- the program's input; its output
  program : List ℕ → List ℕ → Figure
  -- from a state, samples; outputs
  interpolator : State ℤ → List ℤ → List ℤ → Figure
  -- of order K from zero, inputs; outputs
  modulator : ℕ → List ℕ → List ℤ → Figure
  -- y, x; delta, sign
  difference : ℤ → ℤ → ℤ → ℤ → Figure
  -- from 0, inputs; y, count
  unwrapper : List ℤ → ℤ → ℤ → Figure

-- an unwrapper after its inputs
unfoldable pub unwrapper_after : Unwrapper → List ℤ → Unwrapper
unwrapper_after u [] = u
unwrapper_after u (x ∷ xs) = unwrapper_after (grown u x) xs

-- The case with what the rules give.
unfoldable pub computed : Figure → Figure
computed (decimator s xs ys) = decimator s xs (outputs i32 s xs)
computed (program input output) = program input (replay input)
computed (interpolator s xs ys) = interpolator s xs (risings i32 s (length ys) xs)
computed (modulator K xs ys) = modulator K xs (Modulator.modulated K xs)
computed (difference y x delta sign) = difference y x (difference_of y x).delta (sign_of (difference_of y x).wrap)
computed (unwrapper xs y count) = unwrapper xs (unwrapper_after (record { y = pos 0 }) xs).y
    (turns_of (unwrapper_after (record { y = pos 0 }) xs).y)

-- an output with the count it is told
abbrev pub told : ℤ → ℕ → Output ℤ
told v n = record { value = v; told = n }

unfoldable pub table : List Figure
table =
    -- T1 N 0, rate 0: input 7 gives 7.
    decimator (new_state i32 0 1 0) (pos 7 ∷ []) (told (pos 7) 0 ∷ [])
    -- T2 the whole case: `cic 1 1 1`, `x 3`, `x 5`, `x -2` gives `y 3 0`, `y 3 0`, `end 2`; the filter's part, then the bytes.
    ∷ decimator (new_state i32 1 1 1) (pos 3 ∷ pos 5 ∷ negsuc 1 ∷ []) (told (pos 3) 0 ∷ told (pos 3) 0 ∷ [])
    ∷ program
    (bytes "cic\t1\t1\t1\nx\t3\nx\t5\nx\t-2\n")
    (bytes "y\t3\t0\ny\t3\t0\nend\t2\n")
    -- T3 N 2, M 1, rate 1, inputs 1,0,0,0,0: outputs 1, 1, 0.
    ∷ decimator (new_state i32 2 1 1) (pos 1 ∷ pos 0 ∷ pos 0 ∷ pos 0 ∷ pos 0 ∷ [])
    (told (pos 1) 0 ∷ told (pos 1) 0 ∷ told (pos 0) 0 ∷ [])
    -- T4 N 1, rate 1, three inputs 2147483647: outputs 2147483647, -2.
    ∷ decimator (new_state i32 1 1 1) (replicate 3 (pos 2147483647)) (told (pos 2147483647) 0 ∷ told (negsuc 1) 0 ∷ [])
    -- T5 resume N 1, M 1, rate 1, countdown 0, integrator 100, cell 40; inputs 3, 5, -2: 63 told 1, 3 told 0.
    ∷ decimator (resume_state i32 1 1 1 (pos 100 ∷ replicate 7 (pos 0)) (pos 40 ∷ replicate 63 (pos 0)) (pos 0) 0)
    (pos 3 ∷ pos 5 ∷ negsuc 1 ∷ []) (told (pos 63) 1 ∷ told (pos 3) 0 ∷ [])
    -- T6 interpolator N 1, rate 1, samples 4 and 6: 4, 8, 10, 12.
    ∷ interpolator (new_state i32 1 1 1) (pos 4 ∷ pos 6 ∷ []) (pos 4 ∷ pos 8 ∷ pos 10 ∷ pos 12 ∷ [])
    -- T7 K 1, x 2^31: 0, 1, 0, 1. T8 K 2, same x: 0, 1, 1, 0.
    ∷ modulator 1 (replicate 4 (2 ^ 31)) (pos 0 ∷ pos 1 ∷ pos 0 ∷ pos 1 ∷ [])
    ∷ modulator 2 (replicate 4 (2 ^ 31)) (pos 0 ∷ pos 1 ∷ pos 1 ∷ pos 0 ∷ [])
    -- T9 `overflowing_sub`(-2147483648, 2147483647): 1, sign 1.
    ∷ difference (negsuc 2147483647) (pos 2147483647) (pos 1) (pos 1)
    -- T10 unwrap from 0: 2147483647, then -2147483648: y 2147483648, count 1.
    ∷ unwrapper (pos 2147483647 ∷ negsuc 2147483647 ∷ []) (pos 2147483648) (pos 1)
    ∷ []

-- The rules give every figure of the table.
abbrev pub Figures : Type 0
Figures = map computed table ≡ table
