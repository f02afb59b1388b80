-- 02, A11: what the scaling satisfies.
use Rattle.std.specs.Prelude.{◌≡◌, ℕ, ℤ, ◌≤ℤ◌, Ok}
use Rattle.unwrap.specs.Scales.{wide_value, scaled_of}

-- It is monotone in hi · 2 ^ 32 + lo at each shift.
abbrev pub Monotone : Type 0
Monotone = (shift : ℕ) (lo hi lo' hi' y y' : ℤ) → wide_value lo hi ≤ℤ wide_value lo' hi'
    → scaled_of lo hi shift ≡ Ok y → scaled_of lo' hi' shift ≡ Ok y' → y ≤ℤ y'
