-- The three ways in which a one-to-one block call ends, and that its promise leaves no other.
use mathlib.Core.Path.{◌≡◌, sym, ◌∙◌}
use mathlib.Core.List.{List}
use Prim.Native.Nat.{ℕ}
use borrow.Author.Rules.{rules}
use borrow.Author.Tests.{eq-eqb, ne_eqb}
use lib.ListN.{length}
use Rattle.std.specs.Prelude.{Result, Ok, Err}
use Rattle.blocks.specs.declared.refusal.Refusal.{Refusal}
use Rattle.blocks.specs.Refusals.{refusal_at, answer}
use Rattle.blocks.proofs.Refusals.{refused_too}
use Rattle.blocks.specs.Scan.{scan, ends}
use Rattle.blocks.specs.Blocks.{unless, Blocked, BlockSettled}

pub kept : {A : Type 0} (k : ℕ) (a b : A) → (k ≡ 0 → ⊥) → a ≡ unless k a b
kept k a b h = rw (ne_eqb k 0 h)

pub came : {A : Type 0} (k : ℕ) (a b : A) → k ≡ 0 → b ≡ unless k a b
came k a b e = rw (eq-eqb k 0 e)

-- what is refused has a number
pub never : {V : Type 0} (k : ℕ) (v : V) (r : Refusal) → ◌≡◌ {A = Result V Refusal} (Err r) (answer k v) → k ≡ 0 → ⊥
unfolding answer
never k v r e z = search (rules, e, z)

module _ {S A B : Type 0} (k : ℕ) (out : S → A → B) (next : S → A → S) (s : S) (xs : List A) (ys : List B) where
  pub unlike : (length xs ≡ length ys → ⊥) → Blocked k out next s xs ys s (Err Refusal.Lengths) ys
  unfolding answer refusal_at
  unlike h = let t = ne_eqb (length xs) (length ys) h in record { verdict = rw t; state = rw t; written = rw t }

  -- r is the filter's own refusal, of whatever value it was asked for
  pub own : {V : Type 0} (v : V) (r : Refusal) → length xs ≡ length ys → ◌≡◌ {A = Result V Refusal} (Err r) (answer k v)
      → Blocked k out next s xs ys s (Err r) ys
  own v r h e =
      let t = eq-eqb (length xs) (length ys) h in
      let b = never k v r e in
      record {
        verdict = rw t (refused_too k v tt r e);
        state = rw t (kept k s (ends out next s xs) b);
        written = rw t (kept k ys (scan out next s xs) b);
      }

  pub taken : (t : S) (zs : List B) → length xs ≡ length ys → k ≡ 0 → t ≡ ends out next s xs → zs ≡ scan out next s xs
      → Blocked k out next s xs ys t (Ok tt) zs
  unfolding answer
  taken t zs h e p q =
      let l = eq-eqb (length xs) (length ys) h in
      let z = eq-eqb k 0 e in
      record { verdict = rw (l, e); state = rw (l, z) p; written = rw (l, z) q }

-- the promise gives each of the three results an equation
pub settled : BlockSettled
settled S A B k out next s t u xs ys zs ws v w p q = (
  p.state ∙ sym q.state,
  (p.verdict ∙ sym q.verdict, p.written ∙ sym q.written),
)
