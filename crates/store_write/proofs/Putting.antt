-- Fields put one after the other into a buffer that has room.
use native.Mathlib.Omega.{arith}
use native.Mathlib.Numerals.{add-one}
use mathlib.Core.Path.{◌≡◌, refl, sym, ap, ◌∙◌}
use mathlib.Core.List.{List, [], ◌∷◌, ◌++◌, map-append, append_assoc, append-nil}
use Prim.Native.Nat.{ℕ, zero, suc, ◌+◌, ◌-◌, ◌*◌, ◌/◌, ◌%◌, ◌≤◌, ◌<◌, ◌^◌}
use lib.IntN.{ℤ, pos}
use lib.ListN.{length, length-append, take, get_or, replicate}
use lib.Seq.{take_all, take-suc, length-take-le}
use mir.Syntax.{w32}
use mir.Val.{SFits}
use Rattle.text.specs.Letters.{bytes}
use Rattle.text.specs.Numbers.{decimal_of, signed_of}
use Rattle.text.specs.Parts.{joined_by}
use Rattle.text.specs.Ranges.{texts}
use Rattle.text.specs.Writing.{Puts, Wrote}
use Rattle.text.proofs.Putting.{nothing, then, then_puts, written, wrote-length, wrote-same}
use Rattle.text.proofs.Spelling.{decimal_most, signed-most}
use Rattle.settings_text.specs.Fields.{hex_of, hexes_of, nibbles_of}
use Rattle.settings_text.specs.Lines.{fields_of, record_line}
use Rattle.entries.specs.Entries.{setting_by}
use Rattle.store_write.specs.Writing.{Ended, Fielded, body_of, kind_word, sections, tabs}
use Rattle.entries.specs.declared.settings.Kind.TheVariants as kinds
use Rattle.entries.specs.declared.settings.Kind.{Kind}

pub tabs-append : (fs gs : List (List ℕ)) → tabs (fs ++ gs) ≡ tabs fs ++ tabs gs
unfolding tabs
tabs-append [] gs = refl
tabs-append (f ∷ fs) gs = ap (λ (l : List ℕ). (9 ∷ f) ++ l) (tabs-append fs gs) ∙ sym (append_assoc (9 ∷ f) (tabs fs) (tabs gs))

pub joined-tabs : (f : List ℕ) (fs : List (List ℕ)) → joined_by 9 (f ∷ fs) ≡ f ++ tabs fs
unfolding joined_by tabs
joined-tabs f [] = sym (append-nil f)
joined-tabs f (g ∷ fs) = ap (λ (l : List ℕ). f ++ (9 ∷ l)) (joined-tabs g fs)

-- a tab and a field
pub one_field : (o : List ℕ) (at : ℕ) (f : List ℕ) (most r : ℕ) (o₁ : List ℕ) (q : ℕ) (o₂ : List ℕ) → at + most ≤ length o
    → length f + 1 ≤ most
    → Puts o at (9 ∷ []) r o₁ → Puts o₁ r f q o₂ → Fielded o at (f ∷ []) most q o₂
unfolding tabs
one_field o at f most r o₁ q o₂ room few a b =
    let w = written o at (9 ∷ []) r o₁ (omega arith) a in
    let v : Wrote o at ((9 ∷ []) ++ f) q o₂ = then_puts (omega arith) w b in
    let e : (9 ∷ []) ++ f ≡ (9 ∷ f) ++ [] = sym (append-nil (9 ∷ f)) in
    record { wrote = wrote-same e v; high = omega (arith, v.next); long = wrote-length (omega arith) v }

pub natural-most : (n : ℕ) → n < 2 ^ 32 → length (decimal_of n) + 1 ≤ 11
natural-most n h = let k = decimal_most n h in omega arith

pub integer_most : (v : ℤ) → SFits w32 v → length (signed_of v) + 1 ≤ 12
integer_most v h = let k = signed-most v h in omega arith

pub no_fields : (o : List ℕ) (at : ℕ) → Fielded o at [] 0 at o
unfolding tabs
no_fields o at = record { wrote = nothing o at; high = omega arith; long = refl }

pub more-fields : {o o₁ o₂ : List ℕ} {at m r n q : ℕ} (fs gs : List (List ℕ)) → at ≤ length o → Fielded o at fs m r o₁
    → Fielded o₁ r gs n q o₂ → Fielded o at (fs ++ gs) (m + n) q o₂
more-fields fs gs h a b =
    record {
      wrote = wrote-same (sym (tabs-append fs gs)) (then h a.wrote b.wrote);
      high = omega
          (arith, a.high, b.high);
      long = b.long ∙ a.long;
    }

pub integers_on : (o : List ℕ) (at : ℕ) (a : List ℤ) (i : ℕ) (o₁ : List ℕ) (r : ℕ) (o₂ : List ℕ) (q : ℕ) (v : ℤ) → at ≤ length o
    → i < length a → v ≡ get_or a i (pos 0)
    → Fielded o at (texts (take i a)) (12 * i) r o₁ → Fielded o₁ r (signed_of v ∷ []) 12 q o₂ → Fielded o at
    (texts (take (i + 1) a)) (12 * (i + 1)) q o₂
integers_on o at a i o₁ r o₂ q v h l e p s =
    let m : 12 * i + 12 ≡ 12 * (i + 1) = omega arith in
    let t : texts (take i a) ++ (signed_of v ∷ []) ≡ texts (take (i + 1) a) =
    sym (ap texts (ap (λ (k : ℕ). take k a) (add-one i) ∙ take-suc a i (pos 0) l) ∙ map-append signed_of (take i a)
    (get_or a i (pos 0) ∷ []) ∙ ap (λ (z : ℤ). texts (take i a) ++ (signed_of z ∷ [])) (sym e)) in
    let x = more-fields (texts (take i a)) (signed_of v ∷ []) h p s in
    rw (← m, ← t) x

pub integers_done : (o : List ℕ) (at : ℕ) (a : List ℤ) (k i r : ℕ) (o₁ : List ℕ) → i ≡ k → Fielded o at (texts (take i a))
    (12 * i) r o₁ → Fielded o at (texts (take k a)) (12 * k) r o₁
integers_done o at a k i r o₁ e p = rw (← e) p

-- nibbles so far
pub record Hexing (o : List ℕ) (at k m : ℕ) (o' : List ℕ) (next left i : ℕ) : Type 0 where
  pub done : List ℕ
  pub counted : length done ≡ i
  pub few : i ≤ k
  pub is : hexes_of k m ≡ done ++ hexes_of (k - i) left
  pub wrote : Wrote o at done next o'

pub hexing_none : (o : List ℕ) (at k m : ℕ) → Hexing o at k m o at m 0
hexing_none o at k m =
    let z : k - 0 ≡ k = omega arith in record { done = []; counted = refl; few = omega arith; is = rw z; wrote = nothing o at }

module _ (o : List ℕ) (at k m : ℕ) (o' : List ℕ) (next left i : ℕ) (room : at + k ≤ length o) (h : Hexing o at k m o' next left i) where
  pub hexing_long : length o' ≡ length o
  hexing_long = wrote-length (omega (arith, h.counted, h.few)) h.wrote

  pub hexing_on : (b r : ℕ) (o₂ : List ℕ) → i < k → b ≡ hex_of (left % 16) → Puts o' next (b ∷ []) r o₂ → Hexing o at k m o₂ r
      (left / 16) (i + 1)
  unfolding hexes_of
  hexing_on b r o₂ l e p =
      let z : k - i ≡ suc (k - (i + 1)) = omega arith in
      let c = h.counted in
      let n = h.wrote.next in
      let w : Wrote o at (h.done ++ (b ∷ [])) r o₂ = then_puts (omega arith) h.wrote p in
      record {
        done = h.done ++ (b ∷ []);
        counted = length-append h.done (b ∷ []) ∙ omega arith;
        few = omega arith;
        is = h.is ∙ rw (z, e) (sym (append_assoc h.done (hex_of (left % 16) ∷ []) (hexes_of (k - (i + 1)) (left / 16))));
        wrote = w;
      }

  pub hexing_done : k ≤ i → Ended o at (hexes_of k m) k next o'
  unfolding hexes_of
  hexing_done l =
      let z : k - i ≡ 0 = omega arith in
      let e : h.done ≡ hexes_of k m = sym (h.is ∙ rw z (append-nil h.done)) in
      record { wrote = wrote-same e h.wrote; high = omega (arith, h.wrote.next, h.counted, h.few); long = hexing_long }

pub dash_field : (o : List ℕ) (at k m r : ℕ) (o₁ : List ℕ) → k ≡ 0 → Fielded o at ((bytes "-") ∷ []) 2 r o₁ → Fielded o at
    (nibbles_of k m ∷ []) 10 r o₁
unfolding nibbles_of
dash_field o at zero m r o₁ e p = record { wrote = p.wrote; high = omega (arith, p.high); long = p.long }
dash_field o at (suc k) m r o₁ e p = absurd (omega arith)

pub hexes_field : (o : List ℕ) (at k m r : ℕ) (o₁ : List ℕ) (q : ℕ) (o₂ : List ℕ) → at + 10 ≤ length o → k ≤ 8 → (k ≡ 0 → ⊥)
    → Puts o at (9 ∷ []) r o₁ → Ended o₁ r (hexes_of k m) k q o₂ → Fielded o at (nibbles_of k m ∷ []) 10 q o₂
unfolding nibbles_of tabs
hexes_field o at zero m r o₁ q o₂ room few d a b = absurd (d refl)
hexes_field o at (suc k) m r o₁ q o₂ room few d a b =
    let w = written o at (9 ∷ []) r o₁ (omega arith) a in
    let l = wrote-length (omega arith) w in
    let n = w.next in
    let v : Wrote o at ((9 ∷ []) ++ hexes_of (suc k) m) q o₂ = then (omega arith) w b.wrote in
    let e : (9 ∷ []) ++ hexes_of (suc k) m ≡ (9 ∷ hexes_of (suc k) m) ++ [] = sym (append-nil (9 ∷ hexes_of (suc k) m)) in
    record { wrote = wrote-same e v; high = omega (arith, b.high); long = b.long ∙ l }

pub wider : {o o₁ bs : List ℕ} {at m n r : ℕ} → Ended o at bs m r o₁ → m ≤ n → Ended o at bs n r o₁
wider p h = record { wrote = p.wrote; high = omega (arith, p.high); long = p.long }

-- a line whole
pub fields_are : (name : List ℕ) (kind : Kind) (a : List ℤ) → sections kind ≤ 8 → length a ≡ 8 → fields_of (setting_by name kind a)
    ≡ kind_word kind ∷ name ∷ body_of kind a
unfolding fields_of setting_by
fields_are name (kinds.Cic n m rate) a h l = refl
fields_are name (kinds.Dither f) a h l = let e : take 8 a ≡ a = take_all 8 a (omega arith) in rw e
fields_are name (kinds.Wdf k arch) a h l =
    let z : k - 8 ≡ 0 = omega arith in
    let e : take k a ++ replicate (k - 8) (pos 0) ≡ take k a = rw z (append-nil (take k a)) in
    let n : length (take k a) ≡ k = length-take-le k a (omega arith) in
    rw (e, n)

pub whole-line : (o : List ℕ) (at : ℕ) (name : List ℕ) (kind : Kind) (a : List ℤ) (n x : ℕ) (o₁ : List ℕ) (y : ℕ) (o₂ : List ℕ)
    (z : ℕ) (o₃ : List ℕ) (r : ℕ) (o₄ : List ℕ)
    → at + 141 ≤ length o → sections kind ≤ 8 → length a ≡ 8 → n ≤ 17
    → Ended o at (kind_word kind) 6 x o₁ → Fielded o₁ x (name ∷ []) n y o₂ → Fielded o₂ y (body_of kind a) 117 z o₃ → Puts o₃ z (10 ∷ []) r o₄
    → Ended o at (record_line (setting_by name kind a) ++ (10 ∷ [])) 141 r o₄
unfolding record_line
whole-line o at name kind a n x o₁ y o₂ z o₃ r o₄ room few l short p q s t =
    let a1 = p.high in
    let a2 = p.long in
    let b1 = q.high in
    let b2 = q.long in
    let c1 = s.high in
    let c2 = s.long in
    let fs : Fielded o₁ x (name ∷ body_of kind a) (n + 117) z o₃ = more-fields (name ∷ []) (body_of kind a) (omega arith) q s in
    let w = then (omega arith) p.wrote fs.wrote in
    let u = written o₃ z (10 ∷ []) r o₄ (omega arith) t in
    let v = then (omega arith) w u in
    let m = u.next in
    let e : kind_word kind ++ tabs (name ∷ body_of kind a) ≡ joined_by 9 (fields_of (setting_by name kind a)) =
    sym (ap (joined_by 9) (fields_are name kind a few l) ∙ joined-tabs (kind_word kind) (name ∷ body_of kind a)) in
    record {
      wrote = wrote-same (ap (λ (k : List ℕ). k ++ (10 ∷ [])) e) v;
      high = omega arith;
      long = wrote-length (omega arith) u
          ∙ c2 ∙ b2 ∙ a2;
    }

pub bytes-ended : (o : List ℕ) (at : ℕ) (bs : List ℕ) (most r : ℕ) (o₁ : List ℕ) → at + most ≤ length o → length bs ≤ most
    → Puts o at bs r o₁ → Ended o at bs most r o₁
bytes-ended o at bs most r o₁ room few p =
    let w = written o at bs r o₁ (omega arith) p in
    record { wrote = w; high = omega (arith, w.next); long = wrote-length (omega arith) w }
