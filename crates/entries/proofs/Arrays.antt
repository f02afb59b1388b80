-- What an entry's arrays hold: a name in its 16 bytes, coefficients as words.
use native.Mathlib.Omega.{arith}
use mathlib.Core.Path.{◌≡◌, refl, sym, ap, ◌∙◌}
use mathlib.Core.List.{List, [], ◌∷◌, map, append-nil}
use Prim.Native.Nat.{ℕ, zero, suc, ◌-◌, ◌≤◌, ◌<◌, ◌^◌}
use lib.IntN.{ℤ, pos}
use lib.ListN.{length, take, get_or, replicate}
use lib.Seq.{take_all, take_at}
use lib.Signed.{mag}
use mir.Syntax.{w32}
use mir.Val.{to_z, of_z, hbits}
use Rattle.words.proofs.Reading.{read, wrap_is}
use Rattle.words.specs.Words.{wrap}
use Rattle.entries.specs.Entries.{name_bytes, padded, whole_name}
use Rattle.entries.specs.declared.settings.Name.{Name}

pub name_back : (l : List ℕ) → name_bytes (padded l) ≡ l
name_back l = take_at l (replicate (16 - length l) 0) (length l) refl

pub whole-name : (n : Name) → n.len ≤ 16 → whole_name n ≡ name_bytes n
whole-name n h = let z : n.len - 16 ≡ 0 = omega arith in rw z (append-nil (name_bytes n))

-- of a longer one all 16 are taken
pub all_held : (l : List ℕ) (k : ℕ) → length l ≡ 16 → 16 < k → take 16 l ≡ take k l
all_held l k e h = take_all 16 l (omega arith) ∙ sym (take_all k l (omega arith))

-- an array of structs in a field stands under `map` in what owning it tells
pub unmapped : (X Y : Type 0) (g : X → Y) (l : List X) (n : ℕ) → length (map g l) ≡ n → length l ≡ n
unmapped X Y g [] n e = e
unmapped X Y g (x ∷ l) zero e = absurd (omega arith)
unmapped X Y g (x ∷ l) (suc n) e = ap suc (unmapped X Y g l n (omega arith))

-- coefficients are words
pub wrapped_length : (a : List ℤ) → length (map (wrap w32) a) ≡ length a
wrapped_length [] = refl
wrapped_length (z ∷ a) = ap suc (wrapped_length a)

wrapped_at : (a : List ℤ) (i : ℕ) → i < length a → get_or (map (wrap w32) a) i (pos 0) ≡ wrap w32 (get_or a i (pos 0))
wrapped_at [] i h = absurd (omega arith)
wrapped_at (z ∷ a) zero h = refl
wrapped_at (z ∷ a) (suc i) h = wrapped_at a i (omega arith)

pub read_wrapped : (a : List ℤ) (i : ℕ) → i < length a → mag (get_or a i (pos 0)) < 2 ^ hbits w32 → to_z w32
    (of_z w32 (get_or a i (pos 0))) ≡ get_or (map (wrap w32) a) i (pos 0)
read_wrapped a i h m = read w32 (get_or a i (pos 0)) m ∙ sym (wrapped_at a i h ∙ wrap_is w32 (get_or a i (pos 0)) (record { sfits = m }))
