-- What a byte does by whether it ends the line, and that the bytes of a part are taken in turn.
use native.Mathlib.Omega.{arith}
use native.Mathlib.Numerals.{add-one}
use mathlib.Core.Path.{◌≡◌, refl, sym, ap, ◌∙◌}
use mathlib.Core.Bool.{Bool, true, false, not, cond, true≢false, false≢true}
use mathlib.Core.List.{List, [], ◌∷◌, ◌++◌, append_assoc, append-nil}
use mathlib.Core.Option.{some, none}
use Prim.Native.Nat.{ℕ, suc, ◌+◌, ◌≤◌, ◌<◌}
use lib.ListN.{length, take, drop, get_or, set, drop_of_length-le}
use lib.Seq.{length-take-le, take-suc-set, drop-cons}
use borrow.Author.Tests.{eq-eqb, ne_eqb, lt-ltb, le-ltb}
use Rattle.text.specs.Letters.{newline}
use Rattle.text.specs.Writing.{Wrote}
use Rattle.text.proofs.Putting.{wrote-same, wrote-length, nothing, then}
use Rattle.std.specs.Prelude.{ℤ, Result, Err}
use Rattle.blocks.specs.declared.refusal.Refusal.{Refusal}
use Rattle.coefficients.specs.declared.parts.Place.{Place}
use Rattle.coefficient_lines.specs.Lines.{line_bits, answer_bytes, refused_line}
use Rattle.coefficient_lines.specs.Parts.{Standing, one_more, is_accepted, ended_by, byte_after, byte_given, part_after, part_given}
use Rattle.coefficient_lines.specs.Parts.{last_given}
use Rattle.coefficients.specs.Places.{standing_of}

-- ---- a byte

module _ (p : Place) (line : List ℕ) (b : ℕ) where
  abbrev line_at : List ℕ
  line_at = take p.len line

  pub ends-newline : (q : Result ℤ Refusal) → b ≡ newline → q ≡ line_bits line_at → ended_by line_at b ≡ some q
  ends-newline q e f = rw (eq-eqb b newline e, f)

  pub ends-long : (b ≡ newline → ⊥) → p.len ≡ 64 → length line ≡ 64 → ended_by line_at b ≡ some (Err Refusal.LongLine)
  ends-long e f g =
      let n : length line_at ≡ 64 = length-take-le p.len line (omega arith) ∙ f in
      rw (ne_eqb b newline e, le-ltb (length line_at) 64 (omega arith))

  goes_on_law : (b ≡ newline → ⊥) → p.len < 64 → length line ≡ 64 → ended_by line_at b ≡ none
  goes_on_law e f g =
      let n : length line_at ≡ p.len = length-take-le p.len line (omega arith) in
      rw (ne_eqb b newline e, lt-ltb (length line_at) 64 (omega arith))

  abbrev ended : Result ℤ Refusal → Place
  ended q = record { len = 0; lines = one_more p.lines; going = is_accepted q }

  pub ended-place : (q : Result ℤ Refusal) (r : Place) (line' : List ℕ) → ended_by line_at b ≡ some q → r ≡ ended q
      → standing_of r line' ≡ byte_after (standing_of p line) b
  unfolding byte_after
  ended-place q r line' e f = rw (e, f)

  pub ended-given : (q : Result ℤ Refusal) → ended_by line_at b ≡ some q → answer_bytes (one_more p.lines) q ≡ byte_given (standing_of p line) b
  unfolding byte_given
  ended-given q e = rw e

  abbrev longer : Place
  longer = record { len = p.len + 1; lines = p.lines; going = true }

  module _ (e : b ≡ newline → ⊥) (f : p.len < 64) (g : length line ≡ 64) where
    pub longer-place : standing_of longer (set line p.len b) ≡ byte_after (standing_of p line) b
    unfolding byte_after
    longer-place = rw (goes_on_law e f g) (rw (add-one, take-suc-set line p.len b (omega arith)))

    pub longer-given : byte_given (standing_of p line) b ≡ []
    unfolding byte_given
    longer-given = rw (goes_on_law e f g)

-- ---- a part

pub not_on : (t : Bool) → not t ≡ true → t ≡ false
not_on false h = refl
not_on true h = absurd (false≢true h)

pub not_off : (t : Bool) → not t ≡ false → t ≡ true
not_off true h = refl
not_off false h = absurd (true≢false h)

module _ (s : Standing) (b : ℕ) (bs : List ℕ) (h : s.going ≡ true) where
  given_on : part_given s (b ∷ bs) ≡ byte_given s b ++ part_given (byte_after s b) bs
  unfolding part_given
  given_on = ap (λ (t : Bool). cond t (byte_given s b ++ part_given (byte_after s b) bs) []) h

  after_on : part_after s (b ∷ bs) ≡ part_after (byte_after s b) bs
  unfolding part_after
  after_on = ap (λ (t : Bool). cond t (part_after (byte_after s b) bs) s) h

-- the first i bytes were taken from s₀, which left s, and w bytes were written
pub record Along (s₀ : Standing) (part o : List ℕ) (s : Standing) (i w : ℕ) (o' : List ℕ) : Type 0 where
  pub ws : List ℕ
  pub wrote : Wrote o 0 ws w o'
  pub given : part_given s₀ part ≡ ws ++ part_given s (drop i part)
  pub after : part_after s₀ part ≡ part_after s (drop i part)
  pub same : length o' ≡ length o

pub along-start : (s : Standing) (part o : List ℕ) → Along s part o s 0 0 o
along-start s part o = record { ws = []; wrote = nothing o 0; given = refl; after = refl; same = refl }

module _ (s₀ : Standing) (part o : List ℕ) (s : Standing) (i w : ℕ) (o₁ : List ℕ) (g : Along s₀ part o s i w o₁) where
  -- one byte more
  pub along-byte : (t : Standing) (w' : ℕ) (o₂ : List ℕ) → i < length part → s.going ≡ true → w' ≤ length o
      → t ≡ byte_after s (get_or part i 0) → Wrote o₁ w (byte_given s (get_or part i 0)) w' o₂ → Along s₀ part o t (i + 1) w' o₂
  along-byte t w' o₂ h e k f x =
      let b = get_or part i 0 in let rest = drop (suc i) part in
      let front : drop i part ≡ b ∷ rest = drop-cons part i 0 h in
      let y : Wrote o 0 (g.ws ++ byte_given s b) w' o₂ = then (omega arith) g.wrote x in
      record {
        ws = g.ws ++ byte_given s b;
        wrote = y;
        given = g.given ∙ ap (λ (x : List ℕ). g.ws ++ x) (ap (part_given s) front ∙ given_on s b rest e)
            ∙ rw (f, add-one, append_assoc);
        after = g.after ∙ ap (part_after s) front ∙ after_on s b rest e ∙ rw (f, add-one);
        same = wrote-length (omega (arith, y.next)) y;
      }

  -- where the program stops, and where the part is over
  module _ (over : (part_given s (drop i part) ≡ []) × (part_after s (drop i part) ≡ s)) where
    pub part-place : s ≡ part_after s₀ part
    part-place = sym (g.after ∙ over.1)

    pub part-given : Wrote o 0 (part_given s₀ part) w o₁
    part-given = wrote-same (sym (g.given ∙ rw over.0 (append-nil g.ws))) g.wrote

pub over-part : (s : Standing) (part : List ℕ) (i : ℕ) → length part ≤ i
    → (part_given s (drop i part) ≡ []) × (part_after s (drop i part) ≡ s)
unfolding part_given part_after
over-part s part i h = (rw (drop_of_length-le part h), rw (drop_of_length-le part h))

-- ---- the end of the input

module _ (p : Place) (line : List ℕ) (within : p.len ≤ length line) where
  size : length (take p.len line) ≡ p.len
  size = length-take-le p.len line within

  pub last_stopped : p.going ≡ false → last_given (standing_of p line) ≡ []
  unfolding last_given
  last_stopped h = rw h

  pub last_empty : p.going ≡ true → p.len ≡ 0 → last_given (standing_of p line) ≡ []
  unfolding last_given
  last_empty h e = rw (h, eq-eqb (length (take p.len line)) 0 (size ∙ e))

  pub last_cut : p.going ≡ true → (p.len ≡ 0 → ⊥) → last_given (standing_of p line) ≡ refused_line (one_more p.lines) 77
  unfolding last_given
  last_cut h e = rw (h, ne_eqb (length (take p.len line)) 0 (λ z. e (sym size ∙ z)))
