use Rattle.std.proofs.Common.{ℕ, length, ◌+◌, ◌-◌, ◌≤◌, Option, sym, ap, ◌∙◌, arith, drop, length-drop}
use lib.ListN.{take}
use lib.Seq.{take_all}
use Rattle.std.specs.Option.{unwrap_or}
use Rattle.text.proofs.Parting.{end_past, first-length}
use Rattle.text.proofs.parts.part_end.Goals as goal

pub returns-then-text-from : goal.returns-then-text-from
returns-then-text-from c = let a = c.args in sym (end_past a.sep a.text.now a.from (omega (arith, c.if-text-from.true)))

pub returns : goal.returns
returns c =
    let a = c.args in
    let k = length a.text.now - a.from in
    let n : length (drop a.from a.text.now) ≤ k = simp length-drop (omega arith) in
    let m = take_all k (drop a.from a.text.now) n in
    let g = rw m at (c.unwrap_or.ensures ∙ ap (λ (r : Option ℕ). unwrap_or r (length (take k (drop a.from a.text.now)))) c.first.ensures) in
    ap (λ (k : ℕ). a.from + k) (g ∙ first-length a.sep (drop a.from a.text.now))
