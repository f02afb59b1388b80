-- A replay byte by byte: bytes that make the line longer, the byte that ends it, and a replay that has stopped.
use native.Mathlib.Omega.{arith}
use mathlib.Core.Path.{◌≡◌, refl, sym, ap, ◌∙◌}
use mathlib.Core.Bool.{Bool, true, false, cond}
use mathlib.Core.List.{List, [], ◌∷◌, ◌++◌, append_assoc, append-nil}
use Prim.Native.Nat.{ℕ, suc, ◌≤◌, ◌<◌}
use lib.Dec.{eqb}
use lib.ListN.{length, length-append}
use borrow.Author.Tests.{ne_eqb, lt-ltb, eqb-false}
use Rattle.text.specs.Letters.{newline}
use Rattle.text.specs.Parts.{count}
use Rattle.text.specs.Writing.{Wrote}
use Rattle.text.proofs.Putting.{nothing, then, wrote-same}
use Rattle.playback.specs.Places.{
  Place,
  counted_up,
  reply_bytes,
  line_ends,
  end_taken,
  ended,
  longer,
  step_place,
  step_bytes,
  fed_of,
  bytes_of,
}
use Rattle.playback.specs.Inner.Advances.{Arrives}

-- the wrote-same place with another line
abbrev pub lined : Place → List ℕ → Place
lined p l = record { session = p.session; lines = p.lines; outputs = p.outputs; line = l; going = p.going }

picked : {A : Type 0} (b c : Bool) (x y : A) → b ≡ c → cond b x y ≡ cond c x y
picked b c x y e = rw e

-- a stopped replay takes no byte
module _ (p : Place) (h : p.going ≡ false) where
  stays : (b : ℕ) → step_place p b ≡ p
  unfolding step_place
  stays b = picked p.going false _ p h

  mute : (b : ℕ) → step_bytes p b ≡ []
  unfolding step_bytes
  mute b = picked p.going false _ [] h

  pub stopped_place : (bs : List ℕ) → fed_of p bs ≡ p
  unfolding fed_of
  stopped_place [] = refl
  stopped_place (b ∷ bs) = ap (λ (q : Place). fed_of q bs) (stays b) ∙ stopped_place bs

  pub stopped_bytes : (bs : List ℕ) → bytes_of p bs ≡ []
  unfolding bytes_of
  stopped_bytes [] = refl
  stopped_bytes (b ∷ bs) = ap (λ (l : List ℕ). l ++ bytes_of (step_place p b) bs) (mute b)
      ∙ ap (λ (q : Place). bytes_of q bs) (stays b) ∙ stopped_bytes bs

-- a byte of a replay that goes on
module _ (p : Place) (g : p.going ≡ true) (b : ℕ) where
  pub step-ends : line_ends p.line b ≡ true → step_place p b ≡ ended p (end_taken p.session p.line b)
  unfolding step_place
  step-ends e = picked p.going true _ p g ∙ picked (line_ends p.line b) true _ (longer p b) e

  pub bytes_end : line_ends p.line b ≡ true → step_bytes p b
      ≡ reply_bytes (counted_up p.lines 1) (end_taken p.session p.line b).reply
  unfolding step_bytes
  bytes_end e = picked p.going true _ [] g ∙ picked (line_ends p.line b) true _ [] e

  pub step_on : line_ends p.line b ≡ false → step_place p b ≡ longer p b
  unfolding step_place
  step_on e = picked p.going true _ p g ∙ picked (line_ends p.line b) false _ (longer p b) e

  pub bytes_on : line_ends p.line b ≡ false → step_bytes p b ≡ []
  unfolding step_bytes
  bytes_on e = picked p.going true _ [] g ∙ picked (line_ends p.line b) false _ [] e

-- bytes without a newline
no_newline : (b : ℕ) (l : List ℕ) → count newline (b ∷ l) ≡ 0 → (b ≡ newline → ⊥) × (count newline l ≡ 0)
unfolding count
no_newline b l h = by (eqb b newline) refl h
  where
    by : (t : Bool) → eqb b newline ≡ t → cond t (suc (count newline l)) (count newline l) ≡ 0 → (b ≡ newline → ⊥) × (count newline l ≡ 0)
    by true e k = absurd (omega arith)
    by false e k = (eqb-false b newline e, k)

pub stays_open : (l : List ℕ) (b : ℕ) → (b ≡ newline → ⊥) → length l < 64 → line_ends l b ≡ false
stays_open l b n h = rw (ne_eqb b newline n, lt-ltb (length l) 64 h)

-- bytes that make the line longer
pub plain-place : (taken cs : List ℕ) (p : Place) → p.going ≡ true → count newline taken ≡ 0 → length (p.line ++ taken) ≤ 64
    → fed_of p (taken ++ cs) ≡ fed_of (lined p (p.line ++ taken)) cs
unfolding fed_of
plain-place [] cs p g n h = ap (λ (l : List ℕ). fed_of (lined p l) cs) (sym (append-nil p.line))
plain-place (b ∷ taken) cs p g n h =
    let m = no_newline b taken n in
    let e : (p.line ++ (b ∷ [])) ++ taken ≡ p.line ++ (b ∷ taken) = append_assoc p.line (b ∷ []) taken in
    let k : line_ends p.line b ≡ false = stays_open p.line b m.0 (omega (arith, length-append p.line (b ∷ taken))) in
    ap (λ (q : Place). fed_of q (taken ++ cs)) (step_on p g b k)
    ∙ plain-place taken cs (longer p b) g m.1 (rw e h)
    ∙ ap (λ (l : List ℕ). fed_of (lined p l) cs) e

pub plain-bytes : (taken cs : List ℕ) (p : Place) → p.going ≡ true → count newline taken ≡ 0 → length (p.line ++ taken) ≤ 64
    → bytes_of p (taken ++ cs) ≡ bytes_of (lined p (p.line ++ taken)) cs
unfolding bytes_of
plain-bytes [] cs p g n h = ap (λ (l : List ℕ). bytes_of (lined p l) cs) (sym (append-nil p.line))
plain-bytes (b ∷ taken) cs p g n h =
    let m = no_newline b taken n in
    let e : (p.line ++ (b ∷ [])) ++ taken ≡ p.line ++ (b ∷ taken) = append_assoc p.line (b ∷ []) taken in
    let k : line_ends p.line b ≡ false = stays_open p.line b m.0 (omega (arith, length-append p.line (b ∷ taken))) in
    ap (λ (l : List ℕ). l ++ bytes_of (step_place p b) (taken ++ cs)) (bytes_on p g b k)
    ∙ ap (λ (q : Place). bytes_of q (taken ++ cs)) (step_on p g b k)
    ∙ plain-bytes taken cs (longer p b) g m.1 (rw e h)
    ∙ ap (λ (l : List ℕ). bytes_of (lined p l) cs) e

-- and the byte that ends it
module _ (taken : List ℕ) (b : ℕ) (cs : List ℕ) (p : Place) (l : List ℕ) (g : p.going ≡ true) (n : count newline taken ≡ 0)
    (e : l ≡ p.line ++ taken) (h : length l ≤ 64) (k : line_ends l b ≡ true) where
  pub line-place : fed_of p (taken ++ (b ∷ cs)) ≡ fed_of (ended p (end_taken p.session l b)) cs
  unfolding fed_of
  line-place =
      plain-place taken (b ∷ cs) p g n (rw (sym e) h)
      ∙ ap (λ (x : List ℕ). fed_of (lined p x) (b ∷ cs)) (sym e)
      ∙ ap (λ (q : Place). fed_of q cs) (step-ends (lined p l) g b k)

  pub line-bytes : bytes_of p (taken ++ (b ∷ cs)) ≡ reply_bytes (counted_up p.lines 1) (end_taken p.session l b).reply ++ bytes_of
      (ended p (end_taken p.session l b)) cs
  unfolding bytes_of
  line-bytes =
      plain-bytes taken (b ∷ cs) p g n (rw (sym e) h)
      ∙ ap (λ (x : List ℕ). bytes_of (lined p x) (b ∷ cs)) (sym e)
      ∙ ap (λ (q : Place). step_bytes (lined p l) b ++ bytes_of q cs) (step-ends (lined p l) g b k)
      ∙ ap (λ (x : List ℕ). x ++ bytes_of (ended p (end_taken p.session l b)) cs) (bytes_end (lined p l) g b k)

-- turns one after the other
pub runs_none : (p : Place) (bs o : List ℕ) (at : ℕ) → Arrives p bs o at p bs at o
runs_none p bs o at = record { place = refl; text = []; bytes = refl; wrote = nothing o at }

pub runs_then : {p q r : Place} {bs cs ds o o₁ o₂ : List ℕ} {at w₁ w₂ : ℕ} → at ≤ length o → Arrives p bs o at q cs w₁ o₁
    → Arrives q cs o₁ w₁ r ds w₂ o₂ → Arrives p bs o at r ds w₂ o₂
runs_then {p} {q} {r} {bs} {cs} {ds} h x y = record {
  place = x.place ∙ y.place;
  text = x.text ++ y.text;
  bytes = x.bytes ∙ ap (λ (l : List ℕ). x.text ++ l) y.bytes ∙ sym (append_assoc x.text y.text (bytes_of r ds));
  wrote = then h x.wrote y.wrote;
}

-- a stopped replay leaves the rest
pub runs_stopped : (p : Place) (bs o : List ℕ) (at : ℕ) → p.going ≡ false → Arrives p bs o at p [] at o
runs_stopped p bs o at h = record {
  place = stopped_place p h bs ∙ sym (stopped_place p h []);
  text = [];
  bytes = stopped_bytes p h bs ∙ sym (stopped_bytes p h []);
  wrote = nothing o at;
}

-- at the end of the input nothing is left
pub runs_end : (p : Place) (bs o : List ℕ) (at : ℕ) (q : Place) (w : ℕ) (o' : List ℕ) → Arrives p bs o at q [] w o'
    → (fed_of p bs ≡ q) × Wrote o at (bytes_of p bs) w o'
unfolding fed_of bytes_of
runs_end p bs o at q w o' r = (r.place, wrote-same (sym (r.bytes ∙ append-nil r.text)) r.wrote)
