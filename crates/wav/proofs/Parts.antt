-- Samples and their bytes, one more with each turn.
use native.Mathlib.Omega.{arith}
use native.Mathlib.Numerals.{add-one}
use mathlib.Core.Path.{◌≡◌, refl, sym, ap, ◌∙◌}
use mathlib.Core.Bool.{Bool, true, false, ◌&&◌}
use mathlib.Core.List.{List, [], ◌∷◌, ◌++◌}
use Prim.Native.Nat.{ℕ, zero, suc, ◌+◌, ◌*◌, ◌/◌, ◌%◌, ◌≤◌, ◌<◌}
use lib.IntN.{ℤ, pos, negsuc}
use lib.ListN.{length, take, drop, get_or, set, length-append, length-drop}
use lib.Seq.{take-suc, take_all, length-take-le, paste, paste-suc}
use borrow.Author.Tests.{leb-true}
use mir.Syntax.{w16}
use mir.Val.{SFits}
use Rattle.std.specs.Simd.{first_chunks}
use Rattle.words.specs.Words.{word}
use Rattle.text.specs.Writing.{overlaid}
use Rattle.text.proofs.Putting.{put-put, put_one, length-put}
use Rattle.std.specs.Result.{result_unwrap_or}
use Rattle.blocks.specs.Refusals.{answer}
use Rattle.blocks.specs.Blocks.{unless}
use Rattle.wav.specs.Bytes.{little}
use Rattle.wav.proofs.Headers.{put_front}
use Rattle.wav.specs.Samples.{data_of, sample_in, samples_of, in_i16, all_in_i16}

-- the number of samples, and each of them
pub samples-length : (bs : List ℕ) → length (samples_of bs) ≡ length bs / 2
samples-length [] = refl
samples-length (a ∷ []) = refl
samples-length (a ∷ b ∷ bs) = let h = samples-length bs in omega arith

pub samples_at : (bs : List ℕ) (i : ℕ) → i < length bs / 2
    → get_or (samples_of bs) i (pos 0) ≡ sample_in (get_or bs (2 * i) 0) (get_or bs (2 * i + 1) 0)
samples_at [] i h = absurd (omega arith)
samples_at (a ∷ []) i h = absurd (omega arith)
samples_at (a ∷ b ∷ bs) zero h = refl
samples_at (a ∷ b ∷ bs) (suc i) h =
    let p : 2 * suc i ≡ suc (suc (2 * i)) = omega arith in
    let q : 2 * suc i + 1 ≡ suc (suc (2 * i + 1)) = omega arith in
    rw (q, p) (samples_at bs i (omega arith))

-- a pair of bytes is the two at its place
pub pair_at : (bs : List ℕ) (k i : ℕ) (d : List ℕ) → k ≡ length bs / 2 → i < k
    → get_or (first_chunks 2 k bs) i d ≡ get_or bs (2 * i) 0 ∷ get_or bs (2 * i + 1) 0 ∷ []
pair_at bs zero i d e h = absurd (omega arith)
pair_at [] (suc k) i d e h = absurd (omega arith)
pair_at (a ∷ []) (suc k) i d e h = absurd (omega arith)
pair_at (a ∷ b ∷ bs) (suc k) zero d e h = refl
pair_at (a ∷ b ∷ bs) (suc k) (suc i) d e h =
    let p : 2 * suc i ≡ suc (suc (2 * i)) = omega arith in
    let q : 2 * suc i + 1 ≡ suc (suc (2 * i + 1)) = omega arith in
    rw (q, p) (pair_at bs k i d (omega arith) (omega arith))

-- what is within i16 fits 16 bits
pub fits16 : (x : ℤ) → in_i16 x ≡ true → SFits w16 x
fits16 (pos n) e = record { sfits = let k = leb-true n 32767 e in omega arith }
fits16 (negsuc n) e = record { sfits = let k = leb-true n 32767 e in omega arith }

-- one of samples that are all within i16
pub fits_at : (xs : List ℤ) (i : ℕ) → i < length xs → all_in_i16 xs ≡ true → in_i16 (get_or xs i (pos 0)) ≡ true
fits_at [] i h k = absurd (omega arith)
fits_at (x ∷ xs) i h k = by (in_i16 x) refl (fits_at xs) i h k
  where
    by : (t : Bool) → in_i16 x ≡ t → ((i : ℕ) → i < length xs → all_in_i16 xs ≡ true → in_i16 (get_or xs i (pos 0)) ≡ true) → (i : ℕ) → i < suc (length xs)
        → (t && all_in_i16 xs) ≡ true → in_i16 (get_or (x ∷ xs) i (pos 0)) ≡ true
    by true e f zero h k = e
    by true e f (suc i) h k = f i (omega arith) k
    by false e f i h k = cc

pub bytes-length : (xs : List ℤ) → length (data_of xs) ≡ 2 * length xs
bytes-length [] = refl
bytes-length (x ∷ xs) = let h = bytes-length xs in omega arith

pub bytes-append : (xs ys : List ℤ) → data_of (xs ++ ys) ≡ data_of xs ++ data_of ys
bytes-append [] ys = refl
bytes-append (x ∷ xs) ys = rw (bytes-append xs ys)

and_true : (a : Bool) → (a && true) ≡ a
and_true true = refl
and_true false = refl

-- all of a list's front, one sample more
pub fit_on : (xs : List ℤ) (i : ℕ) → i < length xs → all_in_i16 (take (i + 1) xs) ≡ (all_in_i16 (take i xs) && in_i16 (get_or xs i (pos 0)))
fit_on xs i h =
    let e : take (i + 1) xs ≡ take i xs ++ (get_or xs i (pos 0) ∷ []) = rw add-one (take-suc xs i (pos 0) h) in
    ap all_in_i16 e ∙ fit_append (take i xs) (get_or xs i (pos 0))
  where
    and_assoc : (a b c : Bool) → (a && (b && c)) ≡ ((a && b) && c)
    and_assoc true b c = refl
    and_assoc false b c = refl

    fit_append : (l : List ℤ) (x : ℤ) → all_in_i16 (l ++ (x ∷ [])) ≡ (all_in_i16 l && in_i16 x)
    fit_append [] x = and_true (in_i16 x)
    fit_append (y ∷ l) x = ap (λ (b : Bool). in_i16 y && b) (fit_append l x) ∙ and_assoc (in_i16 y) (all_in_i16 l) (in_i16 x)

-- two bytes put
pub put_two : (o : List ℕ) (at u : ℕ) → at + 2 ≤ length o
    → set (set o at (u % 256)) (at + 1) (u / 256 % 256) ≡ overlaid o at (little 2 u)
put_two o at u h =
    let a = put_one o at (u % 256) (omega arith) in
    let n = length-put o at (u % 256 ∷ []) (omega arith) in
    ap (λ (l : List ℕ). set l (at + 1) (u / 256 % 256)) a
    ∙ put_one (overlaid o at (u % 256 ∷ [])) (at + 1) (u / 256 % 256) (omega arith)
    ∙ put-put o at (u % 256 ∷ []) (u / 256 % 256 ∷ []) (omega arith)

pub write_on : (o : List ℕ) (xs : List ℤ) (i : ℕ) → i < length xs
    → overlaid (overlaid o 0 (data_of (take i xs))) (2 * i) (little 2 (word w16 (get_or xs i (pos 0))))
    ≡ overlaid o 0 (data_of (take (i + 1) xs))
write_on o xs i h =
    let l : length (take i xs) ≡ i = length-take-le i xs (omega arith) in
    let n : 2 * i ≡ 0 + length (data_of (take i xs)) = omega (arith, bytes-length (take i xs)) in
    let t : take (i + 1) xs ≡ take i xs ++ (get_or xs i (pos 0) ∷ []) = rw add-one (take-suc xs i (pos 0) h) in
    ap (λ (k : ℕ). overlaid (overlaid o 0 (data_of (take i xs))) k (little 2 (word w16 (get_or xs i (pos 0))))) n
    ∙ put-put o 0 (data_of (take i xs)) (little 2 (word w16 (get_or xs i (pos 0)))) (omega arith)
    ∙ ap (overlaid o 0) (sym (ap data_of t ∙ bytes-append (take i xs) (get_or xs i (pos 0) ∷ [])))

pub write_done : (o : List ℕ) (xs : List ℤ) (i : ℕ) → length xs ≤ i
    → overlaid o 0 (data_of (take i xs)) ≡ data_of xs ++ drop (2 * length xs) o
write_done o xs i h = rw (take_all i xs h, put_front, bytes-length)

pub read_on : (o : List ℤ) (bs : List ℕ) (i : ℕ) (x : ℤ) → length bs / 2 ≤ length o → i < length bs / 2
    → x ≡ sample_in (get_or bs (2 * i) 0) (get_or bs (2 * i + 1) 0) → set (paste o 0 (samples_of bs) i) i x ≡ paste o 0 (samples_of bs) (i + 1)
read_on o bs i x h k e =
    let n = samples-length bs in
    let z : 0 + i ≡ i = omega arith in
    let p : set (paste o 0 (samples_of bs) i) (0 + i) (get_or (samples_of bs) i (pos 0)) ≡ paste o 0 (samples_of bs) (suc i) =
    paste-suc o 0 (samples_of bs) i (pos 0) (omega arith) (omega arith) in
    ap (λ (y : ℤ). set (paste o 0 (samples_of bs) i) i y) (e ∙ sym (samples_at bs i k))
    ∙ ap (λ (j : ℕ). set (paste o 0 (samples_of bs) i) j (get_or (samples_of bs) i (pos 0))) (sym z)
    ∙ p ∙ ap (paste o 0 (samples_of bs)) (sym (add-one i))

pub read_done : (o : List ℤ) (bs : List ℕ) (i : ℕ) → i ≡ length bs / 2 → paste o 0 (samples_of bs) i ≡ samples_of bs ++ drop (length bs / 2) o
read_done o bs i h =
    let z : 0 + length bs / 2 ≡ length bs / 2 = omega arith in
    let t = take_all (length bs / 2) (samples_of bs) (omega (arith, samples-length bs)) in
    rw (h, z, t)

-- a count is within the slice that was lent, since that keeps its length
pub count_within : {A : Type 0} (k n : ℕ) (front old new : List A) → length front ≡ n → new ≡ unless k old (front ++ drop n old)
    → length new ≡ length old → result_unwrap_or (answer k n) 0 ≤ length new
unfolding answer
count_within zero n front old new f e l =
    omega (arith, f, l, simp (length-append, length-drop) at (ap length e))
count_within (suc k) n front old new f e l = omega arith
