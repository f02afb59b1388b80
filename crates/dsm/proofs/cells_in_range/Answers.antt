use Rattle.std.proofs.Common.{◌≡◌, ℕ, ◌-◌, min, Bool, true, false, ltb, ltb-true, ltb-false, List, length, take, ℤ, pos, get_or, refl, sym, ap, ◌∙◌, add-one, arith, rules, SFits}
use Rattle.std.proofs.lemmas.List.{take_all}
use mir.Syntax.{w16}
use Rattle.words.proofs.Reading.{read}
use Rattle.dsm.specs.Modulator.{inside}
use Rattle.dsm.proofs.Ranges.{inside_turn, inside-none}
use Rattle.dsm.proofs.cells_in_range.Goals as goal

-- more cells than there are: all of them
used : (n m : ℕ) (l : List ℤ) → length l ≡ 8 → m ≡ min n 8 → take n l ≡ take m l
used n m l e h = pick (ltb 8 n) refl
  where
    pick : (t : Bool) → ltb 8 n ≡ t → take n l ≡ take m l
    pick true t = let more = ltb-true 8 n t in take_all n l (omega arith) ∙ sym (take_all m l (omega arith))
    pick false t = let few = ltb-false 8 n t in ap (λ (k : ℕ). take k l) (omega arith)

pub returns-then-not-in_range : goal.returns-then-not-in_range
returns-then-not-in_range c =
    let i = c.loop-i.i in let cells = c.args.c.now in let n = c.min-i-end.result in
    let fits : SFits w16 (get_or cells i (pos 0)) = search rules in
    let f : inside i (get_or cells i (pos 0)) ≡ false =
    sym (rw (read w16 (get_or cells i (pos 0)) fits.sfits) at c.in_range.ensures) ∙ c.if-not-in_range.true in
    rw (used (c.args.order - 1) n cells (omega arith) (rw c.saturating_sub.ensures at c.min-i-end.ensures)) (sym (inside_turn n i cells false (omega arith) (omega arith) c.loop-i.invariant f))

pub loop-i-preserved : goal.loop-i-preserved
loop-i-preserved c =
    let i = c.loop-i.i in let cells = c.args.c.now in
    let fits : SFits w16 (get_or cells i (pos 0)) = search rules in
    let f : inside i (get_or cells i (pos 0)) ≡ true =
    sym (rw (read w16 (get_or cells i (pos 0)) fits.sfits) at c.in_range.ensures) ∙ c.if-not-in_range.false in
    rw add-one (inside_turn c.min-i-end.result i cells true (omega arith) (omega arith) c.loop-i.invariant f)

pub returns : goal.returns
returns c =
    let cells = c.args.c.now in let n = c.min-i-end.result in
    rw (used (c.args.order - 1) n cells (omega arith) (rw c.saturating_sub.ensures at c.min-i-end.ensures)) (sym (c.loop-i.invariant ∙ inside-none n c.loop-i.i cells (omega arith)))
