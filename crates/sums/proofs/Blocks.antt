-- The loop over a decimator's block, said by what is left to run: from input i and state s. A turn is a jump to a later input j and a
-- state t with at most one output on the way.
use mathlib.Core.Path.{◌≡◌, refl, sym, ap, ◌∙◌}
use mathlib.Core.List.{List, [], ◌∷◌, ◌++◌, append-nil}
use mathlib.Core.Option.{Option, none, some}
use Prim.Native.Nat.{ℕ, suc, ◌+◌, ◌<◌, ◌≤◌}
use native.Mathlib.Numerals.{add-one}
use native.Mathlib.Omega.{arith}
use lib.ListN.{length, take, drop, set, length-set, take-append-drop, drop_of_length-le}
use lib.Seq.{drop-set-lt, take-suc-set, append_snoc, length-take-le, drop-drop}
use Rattle.sums.specs.Ops.{Ops}
use Rattle.sums.specs.Machine.{Output}
use Rattle.sums.specs.State.{State}
use Rattle.sums.specs.Runs.{needed, join, values, over, outputs, after}
use Rattle.sums.proofs.Steps.{Fit}
use Rattle.sums.proofs.Counts.{outputs-length}

pub values_length : {A : Type 0} (l : List (Output A)) → length (values l) ≡ length l
values_length [] = refl
values_length (y ∷ l) = ap suc (values_length l)

-- from input i of xs and state s to input j and state t, with the output g on the way, if any
pub record Jump {A : Type 0} (o : Ops A) (xs : List A) (s : State A) (i : ℕ) (t : State A) (g : Option (Output A)) (j : ℕ) : Type 0 where
  pub states : after o s (drop i xs) ≡ after o t (drop j xs)
  pub outs : outputs o s (drop i xs) ≡ join g (outputs o t (drop j xs))
  pub within : j ≤ length xs
  pub fit : Fit t

-- the loop: s₀ and out₀ as the block began; s, out, the count k of outputs written and the input i as they are
pub record Held {A : Type 0} (o : Ops A) (xs out₀ out : List A) (s₀ s : State A) (k i : ℕ) : Type 0 where
  pub within : i ≤ length xs
  pub same : length out ≡ length out₀
  pub room : k + length (outputs o s (drop i xs)) ≤ length out
  pub states : after o s₀ xs ≡ after o s (drop i xs)
  pub outs : values (outputs o s₀ xs) ≡ take k out ++ values (outputs o s (drop i xs))
  pub kept : drop k out ≡ drop k out₀
  pub fit : Fit s

module _ {A : Type 0} (o : Ops A) (xs out₀ : List A) (s₀ : State A) where
  pub held_start : Fit s₀ → needed (length xs) s₀.countdown s₀.rate ≤ length out₀ → Held o xs out₀ out₀ s₀ s₀ 0 0
  held_start f h = record {
    within = omega arith;
    same = refl;
    room = omega (arith, outputs-length o s₀ f xs);
    states = refl;
    outs = refl;
    kept = refl;
    fit = f;
  }

  module _ (out : List A) (s t : State A) (k i j : ℕ) (g : Option (Output A)) (a : Held o xs out₀ out s₀ s k i)
      (jump : Jump o xs s i t g j) where
    -- nothing came out
    pub held_none : g ≡ none → Held o xs out₀ out s₀ t k j
    held_none e =
        let left : outputs o s (drop i xs) ≡ outputs o t (drop j xs) = jump.outs ∙ ap (λ q. join q (outputs o t (drop j xs))) e in
        record {
          within = jump.within;
          same = a.same;
          room = rw left at a.room;
          states = a.states ∙ jump.states;
          outs = rw left at a.outs;
          kept = a.kept;
          fit = jump.fit;
        }

    -- one output came, and is written at k
    module _ (y : Output A) (e : g ≡ some y) where
      left_one : outputs o s (drop i xs) ≡ y ∷ outputs o t (drop j xs)
      left_one = jump.outs ∙ ap (λ q. join q (outputs o t (drop j xs))) e

      pub held-room : k < length out
      held-room = let more : k + suc (length (outputs o t (drop j xs))) ≤ length out = rw left_one at a.room in omega arith

      dropped : (l : List A) → drop 1 (drop k l) ≡ drop (suc k) l
      dropped l = drop-drop 1 k l ∙ ap (λ n. drop n l) (add-one k)

      pub held_one : (v : A) → v ≡ y.value → Held o xs out₀ (set out k v) s₀ t (k + 1) j
      held_one v ev =
          let more : k + suc (length (outputs o t (drop j xs))) ≤ length out = rw left_one at a.room in
          record {
            within = jump.within;
            same = length-set out k v ∙ a.same;
            room = rw length-set (omega arith);
            states = a.states ∙ jump.states;
            outs = a.outs ∙ ap (λ l. take k out ++ values l) left_one
                ∙ rw (add-one k, take-suc-set out k v held-room, ev)
                (sym (append_snoc (take k out) y.value (values (outputs o t (drop j xs)))));
            kept = rw (add-one k, drop-set-lt (suc k) out k v (omega arith)) (sym (dropped out) ∙ ap (drop 1) a.kept ∙ dropped out₀);
            fit = jump.fit;
          }

  -- the end: every input is read
  module _ (out : List A) (s : State A) (k i : ℕ) (a : Held o xs out₀ out s₀ s k i) (h : length xs ≤ i) where
    done : drop i xs ≡ []
    done = drop_of_length-le xs h

    outs_end : values (outputs o s₀ xs) ≡ take k out
    unfolding outputs
    outs_end = a.outs ∙ ap (λ l. take k out ++ values (outputs o s l)) done ∙ append-nil (take k out)

    pub end_state : s ≡ after o s₀ xs
    unfolding after
    end_state = sym (a.states ∙ ap (after o s) done)

    counted : k ≡ length (values (outputs o s₀ xs))
    counted = sym (ap length outs_end ∙ length-take-le k out (omega (arith, a.room)))

    pub end_count : k ≡ length (outputs o s₀ xs)
    end_count = counted ∙ values_length (outputs o s₀ xs)

    pub end_out : out ≡ over (values (outputs o s₀ xs)) out₀
    end_out = sym (rw (← counted, outs_end, ← a.kept) (take-append-drop k out))
