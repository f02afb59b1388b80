-- Three numbers one behind the other.
use borrow.Author.Rules.{rules}
use native.Mathlib.Omega.{arith}
use mathlib.Core.List.{[], ◌∷◌}
use Rattle.text.specs.Numbers.{decimal_of}
use Rattle.store_write.proofs.Putting.{more-fields}
use Rattle.store_write.proofs.writing.put_cic.Statement.{statement}
use Rattle.store_write.proofs.writing.put_cic.Tie as tie

put-natural-requires-2 : tie.Need-put_natural-y-requires
put-natural-requires-2 c κs =
    let at-put-natural : tie.After-put_natural-x = search in
    let begin : tie.Start = search in
    let h = at-put-natural.put_natural-x.ensures.high in
    let l = at-put-natural.put_natural-x.ensures.long in
    let p = begin.requires in
    omega arith

put-natural-requires-3 : tie.Need-put_natural-requires
put-natural-requires-3 c κs =
    let at-put-natural : tie.After-put_natural-x = search in
    let at-put-natural2 : tie.After-put_natural-y = search in
    let begin : tie.Start = search in
    let h = at-put-natural.put_natural-x.ensures.high in
    let l = at-put-natural.put_natural-x.ensures.long in
    let i = at-put-natural2.put_natural-y.ensures.high in
    let m = at-put-natural2.put_natural-y.ensures.long in
    let p = begin.requires in
    omega arith

returns : tie.Need-returns
returns c =
    let begin : tie.Start = search in
    let at-put-natural : tie.After-put_natural-x = search in
    let at-put-natural2 : tie.After-put_natural-y = search in
    let at-put-natural3 : tie.After-put_natural = search in
    let p = begin.requires in
    let h = at-put-natural.put_natural-x.ensures.high in
    let l = at-put-natural.put_natural-x.ensures.long in
    let a = begin.args in
    more-fields (decimal_of a.n ∷ []) (decimal_of a.m ∷ decimal_of a.rate ∷ []) (omega arith) at-put-natural.put_natural-x.ensures
    (more-fields (decimal_of a.m ∷ []) (decimal_of a.rate ∷ []) (omega arith) at-put-natural2.put_natural-y.ensures
    at-put-natural3.put_natural.ensures)

pub put_cic_spec : {M : Type 1} → statement M
put_cic_spec =
    tie.close (tie.spec (λ c κs. search rules) put-natural-requires-2 put-natural-requires-3 (λ c. search rules) returns)
