-- 01, 'What must change shape': order and delay are numbers in the state over fixed arrays, 8 integrators and one flat array of 64 comb
-- cells.
use Rattle.std.specs.Prelude.{Bool, true, false, cond, ◌||◌, List, [], ◌∷◌, ◌++◌, ℕ, zero, suc, ◌*◌, ltb, eqb, take, drop, replicate}
use Rattle.sums.specs.Ops.{Ops}
use Rattle.sums.specs.Machine.{Machine}

pub record State (A : Type 0) : Type 0 where
  pub order : ℕ
  pub delay : ℕ
  pub rate : ℕ
  pub countdown : ℕ
  pub unsettled : ℕ
  pub hold : A
  pub integrators : List A
  pub combs : List A

-- Line j is the first M cells of row j, and a row has 8: the lines of the first n rows,
unfoldable pub rows : {A : Type 0} → ℕ → ℕ → List A → List (List A)
rows M zero cells = []
rows M (suc n) cells = take M cells ∷ rows M n (drop 8 cells)

-- and lines put back into their rows, every other cell kept.
unfoldable pub put_rows : {A : Type 0} → ℕ → List (List A) → List A → List A
put_rows M [] cells = cells
put_rows M (line ∷ rest) cells = line ++ (drop M (take 8 cells) ++ put_rows M rest (drop 8 cells))

-- The state as the rules read it: cells beyond N and M never matter.
unfoldable pub view : {A : Type 0} → State A → Machine A
view s = record {
  integrators = take s.order s.integrators;
  lines = rows s.delay s.order s.combs;
  hold = s.hold;
  rate = s.rate;
  countdown = s.countdown;
  unsettled = s.unsettled;
}

-- The state after the rules have made m of it: cells beyond N and M are kept.
unfoldable pub put : {A : Type 0} → State A → Machine A → State A
put s m = record {
  order = s.order;
  delay = s.delay;
  rate = m.rate;
  countdown = m.countdown;
  unsettled = m.unsettled;
  hold = m.hold;
  integrators = m.integrators ++ drop s.order s.integrators;
  combs = put_rows s.delay m.lines s.combs;
}

-- 01, 'Refusal numbers': 10 order above 8; 11 comb delay 0 or above 8; 12 rate above 65,535; 13 countdown above 65,535;
-- 15 unsettled count above N · M. The tests run in ascending number; 0: none fails.
unfoldable pub refusal_of : ℕ → ℕ → ℕ → ℕ → ℕ → ℕ
refusal_of order delay rate countdown unsettled =
    cond (ltb 8 order) 10
    (cond (eqb delay 0 || ltb 8 delay) 11
    (cond (ltb 65535 rate) 12
    (cond (ltb 65535 countdown) 13
    (cond (ltb (order * delay) unsettled) 15 0))))

abbrev pub refusal : {A : Type 0} → State A → ℕ
refusal s = refusal_of s.order s.delay s.rate s.countdown s.unsettled

-- All cells, hold, countdown and unsettled count zero.
unfoldable pub zeroed : {A : Type 0} → Ops A → ℕ → ℕ → ℕ → State A
zeroed o order delay rate = record {
  order = order;
  delay = delay;
  rate = rate;
  countdown = 0;
  unsettled = 0;
  hold = o.nil;
  integrators = replicate 8 o.nil;
  combs = replicate 64 o.nil;
}

-- What a refused maker gives: an all-zero state with M 1.
abbrev pub blank : {A : Type 0} → Ops A → State A
blank o = zeroed o 0 1 0
