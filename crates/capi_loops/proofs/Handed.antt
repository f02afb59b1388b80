-- A call handed on: refused, it leaves the lent fields; else they are what the call left.
use mathlib.Core.Path.{◌≡◌, refl, sym, ap, ◌∙◌}
use mathlib.Core.Bool.{Bool, true, false, cond}
use mathlib.Core.List.{List}
use Prim.Native.Nat.{ℕ, zero, suc}
use lib.Dec.{eqb}
use lib.ListN.{length}
use lib.IntN.{ℤ}
use Rattle.std.specs.Prelude.{Result, Ok, Err}
use Rattle.blocks.specs.declared.refusal.Refusal.{Refusal}
use Rattle.blocks.specs.Refusals.{number_of, refusal_at, answer, number_in}
use Rattle.blocks.specs.Blocks.{Blocked, lengths_number}
use Rattle.blocks.proofs.Refusals.{taken_number}
use Rattle.blocks.proofs.Ways.{never, kept}
use Rattle.unwrap.specs.declared.clamp_wrap.ClampWrap.{ClampWrap}
use Rattle.unwrap.specs.Phases.{clamp_out, clamp_next}
use Rattle.pll.specs.declared.PLL.{PLL}
use Rattle.pll.specs.declared.PLLState.{PLLState}
use Rattle.pll.specs.Loops.{tracked_phase, tracked_next}
use Rattle.rpll.specs.declared.RPLL.{RPLL}
use Rattle.rpll.specs.declared.RPLLConfig.{RPLLConfig}
use Rattle.rpll.specs.Loops.{config_number}
use Rattle.rpll.specs.Blocks.{block_number, LoopBlocked}
use Rattle.capi_loops.specs.States.{Fields, clamp_at, wrap_number, pll_in, fields_of}
use Rattle.capi_loops.specs.Calls.{Clamps, Tracks}

-- a number that is none or stands in the table
abbrev pub Named : ℕ → Type 0
Named k = number_in {A = Unit {0}} (answer k tt) ≡ k

either : (b : Bool) (k l : ℕ) → Named k → Named l → Named (cond b k l)
either true k l h g = h
either false k l h g = g

named : (k : ℕ) {A : Type 0} (v : A) → Named k → number_in (answer k v) ≡ k
unfolding answer
named zero v h = refl
named (suc k) v h = h

none_named : Named 0
unfolding answer
none_named = refl

lengths_named : {A B : Type 0} (k : ℕ) (xs : List A) (ys : List B) → Named k → Named (lengths_number k xs ys)
unfolding answer refusal_at
lengths_named k xs ys h = either (eqb (length xs) (length ys)) k 31 h refl

config_named : (c : RPLLConfig) → Named (config_number c)
unfolding answer refusal_at config_number
config_named c =
    either _ 60 _ refl (either _ 61 _ refl (either _ 62 0 refl refl))

block_named : (c : RPLLConfig) (there : List Bool) (xs ys fs : List ℤ) → Named (block_number c there xs ys fs)
block_named c there xs ys fs =
    lengths_named _ there xs (lengths_named _ xs ys (lengths_named _ ys fs (config_named c)))

-- a block that was refused gives its number
module _ {S A B : Type 0} (out : S → A → B) (next : S → A → S) (s t : S) (xs : List A) (ys zs : List B) (r : Result (Unit {0}) Refusal)
    (b : Blocked 0 out next s xs ys t r zs) where
  number-is : number_in r ≡ lengths_number 0 xs ys
  number-is = ap number_in b.verdict ∙ lengths_named 0 xs ys none_named

-- s is the state gathered from the lent fields
module _ (x0 : ℤ) (clamp : ℕ) (xs ys zs : List ℤ) (s t : ClampWrap) (es : s ≡ clamp_at x0 clamp) where
  pub clamps_not : (r : Refusal) → Blocked 0 clamp_out clamp_next s xs ys t (Err r) zs → Clamps x0 clamp xs ys x0 clamp zs (number_of r)
  clamps_not r a =
      let b = rw es at a in
      let f = never (lengths_number 0 xs ys) tt r b.verdict in
      record { answer = number-is _ _ _ _ _ _ _ _ b; x0_left = kept _ _ _ f; clamp_left = kept _ _ _ f; written = b.written }

  pub clamps : (u : ℤ) (w : ℕ) → Blocked 0 clamp_out clamp_next s xs ys t (Ok tt) zs → u ≡ t.x0 → w ≡ wrap_number t.clamp
      → Clamps x0 clamp xs ys u w zs 0
  clamps u w a eu ew =
      let b = rw es at a in
      let n = taken_number (lengths_number 0 xs ys) tt tt b.verdict in
      let e = rw n at b.state in
      record {
        answer = sym n;
        x0_left = rw n (eu ∙ ap (λ (q : ClampWrap). q.x0) e);
        clamp_left = rw n (ew ∙ ap (λ (q : ClampWrap). wrap_number q.clamp) e);
        written = b.written;
      }

-- and q and w are the coefficients and the state
module _ (p q : PLL) (s : Fields) (xs ys zs : List ℤ) (w t : PLLState) (ep : q ≡ p) (es : w ≡ pll_in s) where
  pub tracks_not : (r : Refusal) → Blocked 0 (tracked_phase q) (tracked_next q) w xs ys t (Err r) zs → Tracks p s xs ys s zs (number_of r)
  tracks_not r a =
      let b = rw (ep, es) at a in
      let f = never (lengths_number 0 xs ys) tt r b.verdict in
      record { answer = number-is _ _ _ _ _ _ _ _ b; state = kept _ _ _ f; written = b.written }

  pub tracks : (u : Fields) → Blocked 0 (tracked_phase q) (tracked_next q) w xs ys t (Ok tt) zs → u ≡ fields_of t → Tracks p s xs ys u zs 0
  tracks u a eu =
      let b = rw (ep, es) at a in
      let n = taken_number (lengths_number 0 xs ys) tt tt b.verdict in
      record { answer = sym n; state = rw n (eu ∙ ap fields_of (rw n at b.state)); written = b.written }

module _ (c d : RPLLConfig) (s p t u : RPLL) (there : List Bool) (xs ys fs zs gs : List ℤ) (v : Result (Unit {0}) Refusal) (r : ℕ) (ec : d ≡ c)
    (es : p ≡ s) (b : LoopBlocked d p there xs ys fs u v zs gs) (f : r ≡ number_in v) where
  pub number_left : r ≡ block_number c there xs ys fs
  number_left = let h = rw (ec, es) at b in f ∙ ap number_in h.verdict ∙ block_named c there xs ys fs

  pub locks_all : t ≡ u → LoopBlocked c s there xs ys fs t (answer r tt) zs gs
  locks_all e =
      let h = rw (ec, es) at b in
      record {
        verdict = ap (λ (k : ℕ). answer k tt) number_left;
        state = e ∙ h.state;
        phases = h.phases;
        frequencies = h.frequencies;
      }
