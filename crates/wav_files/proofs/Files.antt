-- Writing what was read gives the same bytes: a header equals the one that its rate and size give, a pair of bytes is its sample's.
use native.Mathlib.Omega.{arith}
use mathlib.Core.Path.{◌≡◌, refl, sym, ap, ◌∙◌}
use mathlib.Core.Bool.{Bool, true, false, cond, ◌&&◌}
use mathlib.Core.List.{List, [], ◌∷◌, ◌++◌}
use Prim.Native.Nat.{ℕ, ◌+◌, ◌*◌, ◌/◌, ◌%◌, ◌<◌}
use lib.Dec.{eqb}
use lib.IntN.{ℤ, pos, negsuc}
use lib.ListN.{length, take, drop, length-drop, take-append-drop}
use borrow.Author.Tests.{eq-eqb, eqb-true, leb-true}
use mir.Syntax.{w16}
use mir.Val.{SFits}
use Rattle.words.specs.Words.{word, wrap}
use Rattle.words.proofs.Reading.{word_is, word_fits, word-wrap, wrap-word, wrap_is}
use Rattle.text.specs.Same.{same}
use Rattle.text.proofs.Sameness.{same_eq, same_self}
use Rattle.wav.specs.Bytes.{little, little_in, Bytes, more}
use Rattle.wav.specs.Header.{header_of, may_be, rate_in, size_in, is_header, tells, head_of}
use Rattle.wav.specs.Samples.{data_of, sample_in, samples_of, in_i16, all_in_i16}
use Rattle.wav_files.specs.Files.{SameBytes, SameHeader, SameSamples, EvenCuts, AnyCuts, no_part, part, again, SameParts}
use Rattle.std.specs.Prelude.{Err}
use Rattle.wav.specs.declared.header.Recording.{Recording}
use Rattle.blocks.specs.declared.refusal.Refusal.{Refusal}
use Rattle.wav.proofs.Headers.{ranges}

-- the bytes of two bytes' sample are these
pair : (lo hi : ℕ) → lo < 256 → hi < 256 → little 2 (word w16 (sample_in lo hi)) ≡ lo ∷ hi ∷ []
pair lo hi h k =
    let n = lo + 256 * hi in
    let e : word w16 (sample_in lo hi) ≡ n = word-wrap w16 (pos n) ∙ word_is w16 n (record { fits = omega arith }) in
    let a : n % 256 ≡ lo = omega arith in
    let q : n / 256 ≡ hi = omega arith in
    let b : n / 256 % 256 ≡ hi = rw q (omega arith) in
    ap (little 2) e ∙ ap (λ (m : ℕ). m ∷ n / 256 % 256 ∷ []) a ∙ ap (λ (m : ℕ). lo ∷ m ∷ []) b

bytes-again : (bs : List ℕ) → Bytes bs → length bs % 2 ≡ 0 → data_of (samples_of bs) ≡ bs
bytes-again [] y e = refl
bytes-again (lo ∷ []) y e = absurd (omega arith)
bytes-again (lo ∷ hi ∷ bs) (more h (more k y)) e =
    ap (λ (l : List ℕ). l ++ data_of (samples_of bs)) (pair lo hi h k)
    ∙ ap (λ (l : List ℕ). lo ∷ hi ∷ l) (bytes-again bs y (omega arith))

pub same-samples : SameSamples
same-samples [] h = refl
same-samples (x ∷ xs) h = by (in_i16 x) refl (same-samples xs) h
  where
    fits : (x : ℤ) → in_i16 x ≡ true → SFits w16 x
    fits (pos n) e = record { sfits = let k = leb-true n 32767 e in omega arith }
    fits (negsuc n) e = record { sfits = let k = leb-true n 32767 e in omega arith }

    one : in_i16 x ≡ true → sample_in (word w16 x % 256) (word w16 x / 256 % 256) ≡ x
    one e =
        let f = fits x e in
        let u : word w16 x % 256 + 256 * (word w16 x / 256 % 256) ≡ word w16 x = omega (arith, (word_fits w16 x).fits) in
        ap (λ (n : ℕ). wrap w16 (pos n)) u ∙ wrap-word w16 x ∙ wrap_is w16 x f

    by : (t : Bool) → in_i16 x ≡ t → (all_in_i16 xs ≡ true → samples_of (data_of xs) ≡ xs) → (t && all_in_i16 xs) ≡ true
        → samples_of (data_of (x ∷ xs)) ≡ x ∷ xs
    by true e f k = ap (λ (y : ℤ). y ∷ samples_of (data_of xs)) (one e) ∙ ap (λ (l : List ℤ). x ∷ l) (f k)
    by false e f k = cc

pub even_cuts : EvenCuts
even_cuts [] b e = refl
even_cuts (lo ∷ []) b e = absurd (omega arith)
even_cuts (lo ∷ hi ∷ a) b e = ap (λ (l : List ℤ). sample_in lo hi ∷ l) (even_cuts a b (omega arith))

pub any_cuts : AnyCuts
any_cuts [] ys = refl
any_cuts (x ∷ xs) ys = rw (any_cuts xs ys)

pub same_parts : SameParts
same_parts [] no_part = refl
same_parts (p ∷ ps) (part y e rest) =
    ap (λ (l : List ℕ). l ++ again ps) (bytes-again p y e) ∙ ap (λ (l : List ℕ). p ++ l) (same_parts ps rest)

-- what a header call that is not refused tells
record Told (bs : List ℕ) (len rate size : ℕ) : Type 0 where
  header : take 44 bs ≡ header_of rate size
  length' : len ≡ 44 + size
  may : may_be rate size ≡ true

told : (bs : List ℕ) (len rate size : ℕ) → head_of bs len ≡ tells rate size → Told bs len rate size
unfolding is_header
told bs len rate size e = by (may_be r n) refl (eqb len (44 + n)) refl (same (take 44 bs) (header_of r n)) refl e
  where
    r : ℕ
    r = rate_in bs

    n : ℕ
    n = size_in bs

    by : (t : Bool) → may_be r n ≡ t → (u : Bool) → eqb len (44 + n) ≡ u → (v : Bool) → same (take 44 bs) (header_of r n) ≡ v
        → cond (t && (u && v)) (tells r n) (Err Refusal.FileForm) ≡ tells rate size → Told bs len rate size
    by true a true l true s k =
        let g : ◌≡◌ {A = Recording} (record { rate = r; size = n }) (record { rate = rate; size = size }) = cc in
        let p = ap (λ (t : Recording). t.rate) g in
        let q = ap (λ (t : Recording). t.size) g in
        record {
          header = same_eq _ _ s ∙ ap (λ (m : ℕ). header_of m n) p ∙ ap (header_of rate) q;
          length' = eqb-true _ _ l ∙ ap (λ (m : ℕ). 44 + m) q;
          may = rw (p, q) at a;
        }
    by true a true l false s k = cc
    by true a false l v s k = cc
    by false a u l v s k = cc

pub same_bytes : SameBytes
same_bytes file rate size y e =
    let t = told file (length file) rate size e in
    let n : length (drop 44 file) % 2 ≡ 0 = omega (arith, length-drop 44 file, t.length', (ranges rate size t.may).even) in
    ap (λ (l : List ℕ). header_of rate size ++ l) (bytes-again (drop 44 file) y n)
    ∙ ap (λ (l : List ℕ). l ++ drop 44 file) (sym t.header) ∙ take-append-drop 44 file

-- the number of four bytes of a number is that number
four_back : (n : ℕ) → n < 4294967296 → little_in (little 4 n) ≡ n
four_back n h = omega arith

pub same_header : SameHeader
unfolding is_header header_of
same_header rate size rest h =
    let g = ranges rate size h in
    let r : rate_in (header_of rate size ++ rest) ≡ rate = four_back rate (omega arith) in
    let s : size_in (header_of rate size ++ rest) ≡ size = four_back size (omega arith) in
    rw (r, s, h, eq-eqb (44 + size) (44 + size) refl, same_self (header_of rate size))
