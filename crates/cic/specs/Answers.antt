-- What a maker and the settled part answer, by the number (0: accepted) and the value. What steps, blocks and questions answer stands in the
-- crates lent and shape.
use Rattle.std.specs.Prelude.{◌≡◌, ℕ, Result}
use Rattle.std.specs.Result.{result_unwrap_or}
use Rattle.blocks.specs.declared.refusal.Refusal.{Refusal}
use Rattle.blocks.specs.Refusals.{answer}
use Rattle.sums.specs.Ops.{Ops}
use Rattle.sums.specs.Counted.{Counted, blank_counted}
pub use Rattle.lent.specs.Answers.{answer_output, output_of, out_of, interpolated_of, sample_of}
use Rattle.cic.specs.declared.state.Cic.{Cic}
use Rattle.cic.specs.Reading.{cic_of}

-- A maker.
abbrev pub made_of : {A : Type 0} → ℕ → Counted A → Result (Cic A) Refusal
made_of number c = answer number (cic_of c)

-- 01: a refused maker gives its number and an all-zero state with M 1, which `Cic::blank` is: c is what the rule gives, also where it is refused,
-- and what the answer gives where the blank state stands for a refused one's.
abbrev pub Makes : {A : Type 0} → Ops A → ℕ → Counted A → Result (Cic A) Refusal → Type 0
Makes o number c r = (r ≡ made_of number c) × (result_unwrap_or r (cic_of (blank_counted o)) ≡ cic_of c)
