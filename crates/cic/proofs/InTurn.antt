-- A block gives what its steps in turn would give, and its settled part is what they would have told 0.
use Rattle.std.proofs.Common.{◌≡◌, ℕ, zero, suc, List, [], ◌∷◌, ◌++◌, length, drop, refl, sym, ap, ◌∙◌, arith, le-ltb, ne_eqb, length-append}
use Rattle.std.specs.Prelude.{Ok, ℤ}
use Rattle.std.specs.Int.{Width}
use Rattle.std.proofs.Math.Option.{Option, none, some}
use Rattle.blocks.specs.Refusals.{answer}
use Rattle.blocks.specs.Blocks.{unless}
use Rattle.sums.specs.Ops.{Ops}
use Rattle.sums.specs.Signed.{signed_ops}
use Rattle.sums.specs.Runs.{needed, join, values, first_told, over, settled_number, settled_part}
use Rattle.sums.specs.Counted.{Numbered, take_number, block_number, plain, first_number, take_given, taken_outputs, taken_after}
use Rattle.sums.specs.Counted.{block_state, block_out}
use Rattle.sums.specs.Demands.{believed}
use Rattle.sums.proofs.Steps.{Fit}
use Rattle.sums.proofs.Numbering.{block_room, taken-length}
use Rattle.sums.proofs.Blocks.{values_length}
use Rattle.sums.proofs.Believed as sums
use Rattle.shape.specs.Answers.{block_wrote}
use Rattle.lent.specs.Answers.{out_of, step_out}
use Rattle.cic.specs.declared.state.Cic.{Cic}
use Rattle.cic.specs.Reading.{state_of, counted_of}
use Rattle.cic.specs.InTurn.{stepped, in_turn, output_of, outputs_in_turn}

-- the promise of a step, on a refused state too, is the rule's
one : {A : Type 0} (k : ℕ) (g : Option (Numbered A)) (l : List (Numbered A))
    → output_of (out_of k (unless k none g)) ++ l ≡ join (unless k none g) l
unfolding answer
one zero none l = refl
one zero (some y) l = refl
one (suc k) g l = rw (ne_eqb (suc k) 0 (λ e. omega arith))

module _ {A : Type 0} (o : Ops A) where
  pub outputs_is : (s : Cic A) (xs : List A) → outputs_in_turn o s xs ≡ taken_outputs o (counted_of s) xs
  unfolding outputs_in_turn taken_outputs take_given
  outputs_is s [] = refl
  outputs_is s (x ∷ xs) =
      ap (λ l. output_of (step_out o (counted_of s) x) ++ l) (outputs_is (stepped o s x) xs) ∙ one (take_number (counted_of s) 1) _ _

  in_turn_is : (s : Cic A) (xs : List A) → counted_of (in_turn o s xs) ≡ taken_after o (counted_of s) xs
  unfolding in_turn taken_after
  in_turn_is s [] = refl
  in_turn_is s (x ∷ xs) = in_turn_is (stepped o s x) xs

module _ {A : Type 0} (o : Ops A) (s : Cic A) (f : Fit (state_of s)) (xs out : List A) (e : block_number (counted_of s) xs out ≡ 0) where
  pub block-count : needed (length xs) s.countdown s.rate ≡ length (outputs_in_turn o s xs)
  block-count = sym (ap length (outputs_is o s xs) ∙ taken-length o (counted_of s) f xs (block_room (counted_of s) xs out e))

  pub block-state : block_state o (counted_of s) xs out ≡ counted_of (in_turn o s xs)
  unfolding block_state
  block-state = rw (e, in_turn_is o s xs)

  pub block-answer : block_wrote o (counted_of s) xs out
      ≡ Ok (record {
        count = length (outputs_in_turn o s xs);
        told = first_told (plain (outputs_in_turn o s xs));
        number = first_number (outputs_in_turn o s xs);
      })
  unfolding answer
  block-answer = rw (e, block-count, outputs_is o s xs)

  pub block_out_law : block_out o (counted_of s) xs out ≡ over (values (plain (outputs_in_turn o s xs))) out
  unfolding block_out
  block_out_law = rw (e, outputs_is o s xs)

  -- the settled part of the block
  pub settled_number_law : settled_number (block_out o (counted_of s) xs out) (length (plain (outputs_in_turn o s xs))) ≡ 0
  unfolding settled_number
  settled_number_law =
      let ys = plain (outputs_in_turn o s xs) in let p = values ys in let l = length-append p (drop (length p) out) in
      rw (block_out_law, le-ltb (length (over p out)) (length ys) (omega (arith, l, values_length ys)))

-- of the words, by their width
module _ (w : Width) (s : Cic ℤ) (f : Fit (state_of s)) (xs out : List ℤ) (e : block_number (counted_of s) xs out ≡ 0) where
  pub settled_part_law : let ys = plain (outputs_in_turn (signed_ops w) s xs) in
      settled_part (block_out (signed_ops w) (counted_of s) xs out) (length ys) (first_told ys) ≡ believed ys
  settled_part_law = rw (outputs_is (signed_ops w) s xs) (sums.settled_part_law (signed_ops w) (counted_of s) f xs out e)
