-- An entry's numbers are its record's.
use native.Mathlib.Omega.{arith}
use native.Mathlib.Nat.{pow-le-pow_right}
use mathlib.Core.Path.{◌≡◌, refl, ap}
use mathlib.Core.Bool.{Bool, true, false, cond, ◌&&◌, ◌||◌}
use mathlib.Core.List.{List, [], ◌∷◌, map}
use Prim.Native.Nat.{ℕ, zero, suc, ◌*◌, ◌%◌, ◌^◌, ◌≤◌, ◌<◌}
use lib.Dec.{ltb, eqb}
use lib.IntN.{ℤ, pos, negsuc}
use lib.ListN.{length, get_or}
use lib.Signed.{lt_z}
use mir.Syntax.{w32}
use mir.Val.{SFits}
use borrow.Author.Tests.{leb-true, lt-ltb, ltb-true, ltb-false, eqb-true}
use Rattle.std.specs.Prelude.{Result, Ok, Err}
use Rattle.blocks.specs.declared.refusal.Refusal.{Refusal}
use Rattle.blocks.specs.Refusals.{answer}
use Rattle.blocks.proofs.Refusals.{taken_number}
use Rattle.words.specs.Words.{wrap}
use Rattle.words.proofs.Reading.{wrap_is}
use Rattle.sums.specs.State.{refusal_of}
use Rattle.sums.specs.Calls.{new_number}
use Rattle.wdf.specs.Calls.{sections_number, holds_retired}
use Rattle.wdf.specs.Calls as wdf
use Rattle.text.specs.Ranges.{signed, unsigned, lies, all_lie}
use Rattle.text.proofs.Ranges.{two}
use Rattle.settings_text.specs.Fields.{is_name}
use Rattle.settings_text.specs.Lines.{Setting, Cic, Wdf, Dither, wdf_number, crossed, dither_number, formed, form_of, record_name, parameters}
use Rattle.settings_text.specs.Stores.{or_else, record_number}
use Rattle.settings_text.specs.declared.version.Version.{Version}
use Rattle.settings_text.specs.declared.version.Version.TheVariants.{One, Two}
use Rattle.settings_text.proofs.Lines.{fitting}
use Rattle.entries.specs.Entries.{pad_to, eight, entry_of, kind_number, name_bytes, number_for}
use Rattle.entries.proofs.Arrays.{name_back}

-- a coefficient of i32 is its word
lies-fits : (z : ℤ) → lies signed z ≡ true → SFits w32 z
lies-fits (pos v) h = let k = leb-true v 2147483647 h in record { sfits = omega arith }
lies-fits (negsuc v) h = let k = leb-true (suc v) 2147483648 h in record { sfits = omega arith }

pub kept : (z : ℤ) → lies signed z ≡ true → wrap w32 z ≡ z
kept z h = wrap_is w32 z (lies-fits z h)

-- and so are as many as there are words
pub words_whole : (k : ℕ) (cs : List ℤ) → length cs ≡ k → all_lie signed cs ≡ true → map (wrap w32) (pad_to k (map (wrap w32) cs)) ≡ cs
words_whole zero [] l h = refl
words_whole zero (z ∷ cs) l h = absurd (omega arith)
words_whole (suc k) [] l h = absurd (omega arith)
words_whole (suc k) (z ∷ cs) l h =
    let p = two (lies signed z) (all_lie signed cs) h in
    rw (kept z p.0, kept z p.0) (ap (λ (x : List ℤ). z ∷ x) (words_whole k cs (omega arith) p.1))

-- the numbers of a `dither` record that form 2 has a line for
pub record Eight (name : List ℕ) (f : ℕ) (cs : List ℤ) : Type 0 where
  pub named : is_name name ≡ true
  pub whole : map (wrap w32) (eight cs) ≡ cs

pub eight_words : (v : Version) (name : List ℕ) (f : ℕ) (cs : List ℤ) → formed v (Dither name f cs) ≡ true → Eight name f cs
unfolding formed
eight_words One name f cs h = absurd (let z : ◌≡◌ {A = ℕ} 0 1 = cc in omega arith)
eight_words Two name f cs h =
    let a = two (is_name name) (all_lie unsigned (pos f ∷ []) && (eqb (length cs) 8 && all_lie signed cs)) h in
    let b = two (all_lie unsigned (pos f ∷ [])) (eqb (length cs) 8 && all_lie signed cs) a.1 in
    let c = two (eqb (length cs) 8) (all_lie signed cs) b.1 in
    record { named = a.0; whole = words_whole 8 cs (eqb-true (length cs) 8 c.0) c.1 }

-- more than 8 sections: the nibbles don't matter
many : (v : Version) (k a b : ℕ) → 8 < k → wdf_number v k a ≡ wdf_number v k b
unfolding sections_number wdf.new_number
many One k a b h = rw (lt-ltb 8 k h)
many Two k a b h = rw (lt-ltb 8 k h)

-- an entry's numbers are its record's
kind_kept : (v : Version) (s : Setting) → fitting s ≡ true → formed v s ≡ true → kind_number v (entry_of s).kind (map (wrap w32) (entry_of s).a)
    ≡ parameters v s
unfolding entry_of parameters
kind_kept v (Cic name n m rate) h g = refl
kind_kept v (Dither name f cs) h g = ap (dither_number f) (eight_words v name f cs g).whole
kind_kept v (Wdf name arch cs) h g = by (ltb 8 (length cs)) refl
  where
    by : (t : Bool) → ltb 8 (length cs) ≡ t → wdf_number v (length cs) (arch % 2 ^ 32) ≡ wdf_number v (length cs) arch
    by true e = many v (length cs) (arch % 2 ^ 32) arch (ltb-true _ _ e)
    by false e =
        let k : length cs ≤ 8 = ltb-false 8 (length cs) e in
        let b = ltb-true arch (16 ^ length cs) h in
        let p : 16 ^ length cs ≤ 16 ^ 8 = pow-le-pow_right (omega arith) k in
        let m : arch % 2 ^ 32 ≡ arch = omega arith in
        ap (wdf_number v (length cs)) m

pub entry-name : (s : Setting) → name_bytes (entry_of s).name ≡ record_name s
unfolding entry_of
entry-name (Cic name n m rate) = name_back name
entry-name (Wdf name arch cs) = name_back name
entry-name (Dither name f cs) = name_back name

pub number-kept : (v : Version) (k : ℕ) (last : List ℕ) (s : Setting) → fitting s ≡ true → formed v s ≡ true
    → number_for v k last (name_bytes (entry_of s).name) (entry_of s).kind (map (wrap w32) (entry_of s).a) ≡ record_number (form_of v) k last s
unfolding number_for record_number form_of
number-kept v k last s h g = rw (entry-name s, kind_kept v s h g)

-- the last of the numbers that refuse a new `cic`
pub rate_left : (n m r : ℕ) → (new_number n m r ≡ 0 → ⊥) → (new_number n m r ≡ 10 → ⊥) → (new_number n m r ≡ 11 → ⊥) → new_number n m r ≡ 12
unfolding refusal_of
rate_left n m r h i j = by (ltb 8 n) (eqb m 0 || ltb 8 m) (ltb 65535 r) (ltb (n * m) 0) refl h i j
  where
    by : (a b t u : Bool) → ltb (n * m) 0 ≡ u → (cond {A = ℕ} a 10 (cond b 11 (cond t 12 (cond u 15 0))) ≡ 0 → ⊥)
        → (cond {A = ℕ} a 10 (cond b 11 (cond t 12 (cond u 15 0))) ≡ 10 → ⊥)
        → (cond {A = ℕ} a 10 (cond b 11 (cond t 12 (cond u 15 0))) ≡ 11 → ⊥) → cond {A = ℕ} a 10 (cond b 11 (cond t 12 (cond u 15 0))) ≡ 12
    by true b t u f h i j = absurd (i refl)
    by false true t u f h i j = absurd (j refl)
    by false false true u f h i j = refl
    by false false false false f h i j = absurd (h refl)
    by false false false true f h i j = absurd (let z = ltb-true (n * m) 0 f in omega arith)

-- an answer by the first number that isn't 0
module _ (k j : ℕ) where
  pub refused_first : (e : Refusal) → ◌≡◌ {A = Result (Unit {0}) Refusal} (Err e) (answer k tt)
      → ◌≡◌ {A = Result (Unit {0}) Refusal} (Err e) (answer (or_else k j) tt)
  unfolding answer
  refused_first e h = by k h
    where
      by : (k : ℕ) → ◌≡◌ {A = Result (Unit {0}) Refusal} (Err e) (answer k tt)
          → ◌≡◌ {A = Result (Unit {0}) Refusal} (Err e) (answer (or_else k j) tt)
      by zero h = cc
      by (suc k) h = h

  pub taken_first : ◌≡◌ {A = Result (Unit {0}) Refusal} (Ok tt) (answer k tt) → or_else k j ≡ j
  taken_first h = rw (taken_number k tt tt h)

-- the limits are the last two
pub crossed-last : (k : ℕ) (a : List ℤ) → length a ≡ suc (suc k) → crossed a ≡ lt_z (get_or a (suc k) (pos 0)) (get_or a k (pos 0))
crossed-last k [] h = absurd (omega arith)
crossed-last k (c ∷ []) h = absurd (omega arith)
crossed-last zero (lower ∷ upper ∷ []) h = refl
crossed-last zero (c ∷ lower ∷ upper ∷ rest) h = absurd (omega arith)
crossed-last (suc k) (lower ∷ upper ∷ []) h = absurd (omega arith)
crossed-last (suc k) (c ∷ lower ∷ upper ∷ rest) h = crossed-last k (lower ∷ upper ∷ rest) (omega arith)
