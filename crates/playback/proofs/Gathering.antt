-- Lines that are samples: found at a place, gathered one after the other, and their outputs written one after the other.
use native.Mathlib.Omega.{arith}
use native.Mathlib.Numerals.{add-one}
use mathlib.Core.Path.{◌≡◌, refl, sym, ap, ◌∙◌}
use mathlib.Core.Bool.{Bool}
use mathlib.Core.List.{List, [], ◌∷◌, ◌++◌, append_assoc, append-nil}
use Prim.Native.Nat.{ℕ, suc, ◌+◌, ◌-◌, ◌*◌, ◌≤◌, ◌<◌}
use lib.IntN.{ℤ, pos}
use lib.ListN.{length, take, drop, get_or, set, length-drop, take-append-drop}
use lib.Seq.{drop-cons, drop-drop, take-suc-set, length-take-le}
use Rattle.text.specs.Letters.{byte, tab, newline}
use Rattle.text.specs.Numbers.{number_of, capped}
use Rattle.text.specs.Parts.{parted, count, end_of}
use Rattle.text.specs.Writing.{Wrote}
use Rattle.text.proofs.Parting.{before-plain, parted-plain, end_at, end_part}
use Rattle.text.proofs.Numerals.{number-count}
use Rattle.text.proofs.Putting.{nothing, then, wrote-same as rewritten}
use Rattle.std.specs.Prelude.{None}
use Rattle.text.specs.Same.{same}
use Rattle.words.specs.Words.{wrap}
use Rattle.records.specs.Lines.{name_of, word_range, number_number, value_of, record_of}
use Rattle.records.specs.Inner.Fields.{integer_of}
use Rattle.records.specs.Sessions.{width_of}
use Rattle.playback.specs.Replays.{output_line}
use Rattle.playback.specs.Inner.Advances as Advances
use Rattle.playback.specs.Inner.Advances.{SampleLine, finds, Sampled, Gathers, output_lines}
use Rattle.playback.specs.declared.samples.Found.{Found}
use Rattle.records.specs.declared.parse.Integer.{Integer}
use Rattle.records.specs.declared.parse.Record.TheVariants.{Sample}
use Rattle.records.proofs.Parsing.{integer_capped}

-- a line more at the end
pub sampled-more : {wide : Bool} {bs mid : List ℕ} {xs : List ℤ} → Sampled wide bs xs mid → (line rest : List ℕ) (x : ℤ)
    → mid ≡ line ++ (newline ∷ rest) → count newline line ≡ 0 → length line ≤ 64 → record_of wide line ≡ Sample x
    → Sampled wide bs (xs ++ (x ∷ [])) rest
sampled-more Advances.none line rest x e plain short reads = rw e (Advances.more line plain short reads Advances.none)
sampled-more (Advances.more l p s r on) line rest x e plain short reads = Advances.more l p s r
    (sampled-more on line rest x e plain short reads)

-- `x`, a tab and a field that is a number of the word
number_some : (wide : Bool) (field : List ℕ) → number_number (word_range wide) (number_of field) ≡ 0 → number_of field ≡ None → ⊥
number_some wide field e w = let k : ◌≡◌ {A = ℕ} 75 0 = sym (ap (number_number (word_range wide)) w) ∙ e in omega arith

field_some : (wide : Bool) (field : List ℕ) → number_number (word_range wide) (number_of field) ≡ 0 → 1 ≤ length field
unfolding number_of
field_some wide [] e = absurd (omega arith)
field_some wide (b ∷ l) e = omega arith

x_record : (wide : Bool) (field : List ℕ) → number_number (word_range wide) (number_of field) ≡ 0
    → record_of wide (byte "x" ∷ tab ∷ field) ≡ Sample (value_of (number_of field))
unfolding record_of parted name_of same
x_record wide field e =
    let p : parted tab field ≡ field ∷ [] = parted-plain tab field (number-count tab refl (λ z. omega arith) field
    (number_some wide field e)) in
    rw (p, e)

module _ (wide : Bool) (l : List ℕ) (at end : ℕ) (long : at + 4 ≤ length l) (first : get_or l at 0 ≡ byte "x")
    (second : get_or l (at + 1) 0 ≡ tab) (ends : end ≡ end_of newline l (at + 2)) (more : end < length l) (near : end - (at + 2) ≤ 62)
    (v : Integer) (reads : v ≡ integer_of wide (capped (number_of (take (end - (at + 2)) (drop (at + 2) l)))))
    (good : v.number ≡ 0) where
  field : List ℕ
  field = take (end - (at + 2)) (drop (at + 2) l)

  is : v ≡ integer_of wide (number_of field)
  unfolding field
  is = reads ∙ integer_capped wide (number_of (take (end - (at + 2)) (drop (at + 2) l)))

  field_good : number_number (word_range wide) (number_of field) ≡ 0
  field_good = sym (ap (λ (i : Integer). i.number) is) ∙ good

  field_value : value_of (number_of field) ≡ v.value
  field_value = sym (ap (λ (i : Integer). i.value) is ∙ rw field_good)

  field_plain : count newline field ≡ 0
  unfolding field
  field_plain = rw ends (ap (count newline) (end_part newline l (at + 2) (omega arith)) ∙ before-plain newline (drop (at + 2) l))

  behind_field : drop (at + 2) l ≡ field ++ (newline ∷ drop (end + 1) l)
  unfolding field
  behind_field =
      let e : at + 2 + (end - (at + 2)) ≡ end = omega (arith, ends) in
      let q : suc end ≡ end + 1 = omega arith in
      let n : get_or l end 0 ≡ newline = rw ends (end_at newline l (at + 2) (omega arith) (rw ends at more)) in
      sym (take-append-drop (end - (at + 2)) (drop (at + 2) l))
      ∙ ap (λ (k : List ℕ). take (end - (at + 2)) (drop (at + 2) l) ++ k) (drop-drop (end - (at + 2)) (at + 2) l
      ∙ ap (λ (j : ℕ). drop j l) e ∙ drop-cons l end 0 more ∙ ap (λ (b : ℕ). b ∷ drop (suc end) l) n
      ∙ ap (λ (j : ℕ). newline ∷ drop j l) q)

  length_field : length field ≡ end - (at + 2)
  unfolding field
  length_field = length-take-le (end - (at + 2)) (drop (at + 2) l) (omega (arith, length-drop (at + 2) l))

  two : drop at l ≡ byte "x" ∷ tab ∷ drop (at + 2) l
  two =
      let e : suc (suc at) ≡ at + 2 = omega arith in
      let f : suc at ≡ at + 1 = omega arith in
      drop-cons l at 0 (omega arith) ∙ ap (λ (b : ℕ). b ∷ drop (suc at) l) first
      ∙ ap (λ (k : List ℕ). byte "x" ∷ k) (drop-cons l (suc at) 0 (omega arith)
      ∙ ap (λ (j : ℕ). get_or l j 0 ∷ drop (suc (suc at)) l) f ∙ ap (λ (b : ℕ). b ∷ drop (suc (suc at)) l) second
      ∙ ap (λ (j : ℕ). tab ∷ drop j l) e)

  pub sample-found : SampleLine wide l at v.value (end + 1)
  unfolding count
  sample-found = record {
    line = byte "x" ∷ tab ∷ field;
    here = two ∙ ap (λ (k : List ℕ). byte "x" ∷ tab ∷ k) behind_field;
    plain = field_plain;
    short = omega (arith, length_field);
    reads = x_record wide field field_good ∙ ap Sample field_value;
    far = omega (arith, length_field, field_some wide field field_good);
    inside = omega arith;
  }

-- the loop that gathers
module _ (wide : Bool) (l : List ℕ) (from : ℕ) where
  pub gathers_start : (samples : List ℤ) → from ≤ length l → Gathers wide l from samples 0 from
  gathers_start samples h = record { few = omega arith; far = omega arith; inside = h; lines = Advances.none }

  pub gathers_on : (samples : List ℤ) (n i next : ℕ) (x : ℤ) → n < 512 → n < length samples → Gathers wide l from samples n i
      → SampleLine wide l i x next → Gathers wide l from (set samples n x) (n + 1) next
  gathers_on samples n i next x h k g s =
      let e : take (n + 1) (set samples n x) ≡ take n samples ++ (x ∷ []) = rw add-one (take-suc-set samples n x k) in
      record {
        few = omega arith;
        far = omega (arith, g.far, s.far);
        inside = s.inside;
        lines = rw e (sampled-more g.lines s.line (drop next l) x s.here s.plain s.short s.reads);
      }

-- the loop that writes: what is done and what is left
pub record Writing (wide : Bool) (o : List ℕ) (at : ℕ) (ys : List ℤ) (told : ℕ) (o' : List ℕ) (w i : ℕ) : Type 0 where
  pub small : i ≤ length ys
  pub done : List ℕ
  pub left : output_lines wide told ys ≡ done ++ output_lines wide (told - i) (drop i ys)
  pub wrote : Wrote o at done w o'
  pub near : w ≤ at + 26 * i

module _ (wide : Bool) (o : List ℕ) (at : ℕ) (ys : List ℤ) (told : ℕ) (inside : at ≤ length o) where
  pub writing_start : Writing wide o at ys told o at 0
  writing_start =
      let z : told - 0 ≡ told = omega arith in
      record { small = omega arith; done = []; left = rw z refl; wrote = nothing o at; near = omega arith }

  pub writing_on : (o₁ o₂ : List ℕ) (w₁ w₂ i : ℕ) (y : ℤ) → i < length ys → y ≡ wrap (width_of wide) (get_or ys i (pos 0))
      → Writing wide o at ys told o₁ w₁ i
      → Wrote o₁ w₁ (output_line y (told - i)) w₂ o₂ → w₂ ≤ w₁ + 26 → Writing wide o at ys told o₂ w₂ (i + 1)
  unfolding output_lines
  writing_on o₁ o₂ w₁ w₂ i y h e r w n =
      let d : drop i ys ≡ get_or ys i (pos 0) ∷ drop (i + 1) ys = rw add-one (drop-cons ys i (pos 0) h) in
      let m : told - i - 1 ≡ told - (i + 1) = omega arith in
      let s : output_lines wide (told - i) (drop i ys) ≡ output_line y (told - i) ++ output_lines wide (told - (i + 1))
      (drop (i + 1) ys) =
      rw (d, e) (ap (λ (u : ℕ). output_line (wrap (width_of wide) (get_or ys i (pos 0))) (told - i) ++ output_lines wide u
      (drop (i + 1) ys)) m) in
      record {
        small = omega arith;
        done = r.done ++ output_line y (told - i);
        left = r.left ∙ ap (λ (l : List ℕ). r.done ++ l) s ∙ sym (append_assoc r.done (output_line y (told - i)) _);
        wrote = then inside r.wrote w;
        near = omega (arith, r.near);
      }

  pub writing_done : (o₁ : List ℕ) (w i : ℕ) → length ys ≤ i → Writing wide o at ys told o₁ w i → Wrote o at (output_lines wide told ys) w o₁
  unfolding output_lines
  writing_done o₁ w i h r =
      let e : drop i ys ≡ [] = by_length (drop i ys) (length-drop i ys ∙ omega arith) in
      rewritten (sym (r.left ∙ rw e (append-nil r.done))) r.wrote
    where
      by_length : (l : List ℤ) → length l ≡ 0 → l ≡ []
      by_length [] h = refl
      by_length (y ∷ l) h = absurd (omega arith)

pub found_is : (wide : Bool) (l : List ℕ) (at : ℕ) (r : Found) (x : ℤ) (next : ℕ) → finds wide l at r → r ≡ Found.Sample x next
    → SampleLine wide l at x next
found_is wide l at (Found.Sample y m) x next s e = let p : y ≡ x = cc in let q : m ≡ next = cc in rw (p, q) at s
found_is wide l at Found.Other x next s e = let z : ◌≡◌ {A = ℕ} 0 1 = cc in absurd (omega arith)
