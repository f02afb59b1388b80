-- A block with the coefficients carried beside the state is the block of the state (blocks Carried).
use Rattle.std.proofs.Common.{◌≡◌, ℤ, List, Bool, true, false, refl, ap, ◌∙◌, nat_eq}
use Rattle.std.specs.Prelude.{Result, cond}
use Rattle.blocks.specs.declared.refusal.Refusal.{Refusal}
use Rattle.blocks.specs.Blocks.{Blocked, lengths_number, unless}
use Rattle.blocks.specs.Scan.{ends}
use Rattle.blocks.proofs.Carried.{carried_ends, carried_scan}
use Rattle.pll.specs.declared.PLL.{PLL}
use Rattle.pll.specs.declared.PLLState.{PLLState}
use Rattle.pll.specs.declared.Tracking.{Tracking}
use Rattle.pll.specs.Loops.{tracked_phase, tracked_next}

abbrev gives : Tracking → ℤ → ℤ
gives t x = tracked_phase t.pll t.state x

abbrev after : Tracking → ℤ → Tracking
after t x = record { pll = t.pll; state = tracked_next t.pll t.state x }

abbrev beside : PLL → PLLState → Tracking
beside p s = record { pll = p; state = s }

state_of : (p : PLL) (s t : PLLState) (b : Bool) → (cond b (beside p t) (beside p s)).state ≡ cond b t s
state_of p s t true = refl
state_of p s t false = refl

pub carried : (p : PLL) (s : PLLState) (xs ys : List ℤ) (t : Tracking) (r : Result (Unit {0}) Refusal) (zs : List ℤ)
    → Blocked 0 gives after (beside p s) xs ys t r zs → Blocked 0 (tracked_phase p) (tracked_next p) s xs ys t.state r zs
carried p s xs ys t r zs b =
    let e = carried_ends (tracked_phase p) (tracked_next p) gives after (beside p) (λ u x. refl) (λ u x. refl) s xs in
    let f = carried_scan (tracked_phase p) (tracked_next p) gives after (beside p) (λ u x. refl) (λ u x. refl) s xs in
    record {
      verdict = b.verdict;
      state = ap (λ (u : Tracking). u.state) (b.state ∙ ap (unless (lengths_number 0 xs ys) (beside p s)) e)
          ∙ state_of p s (ends (tracked_phase p) (tracked_next p) s xs) (nat_eq (lengths_number 0 xs ys) 0);
      written = b.written ∙ ap (unless (lengths_number 0 xs ys) ys) f;
    }
