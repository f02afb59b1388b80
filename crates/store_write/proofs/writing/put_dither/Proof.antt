-- F, and eight numbers.
use borrow.Author.Rules.{rules}
use native.Mathlib.Omega.{arith}
use mathlib.Core.List.{[], ◌∷◌, map}
use lib.ListN.{take}
use mir.Syntax.{w32}
use Rattle.words.specs.Words.{wrap}
use Rattle.text.specs.Numbers.{decimal_of}
use Rattle.text.specs.Ranges.{texts}
use Rattle.store_write.proofs.Putting.{more-fields, wider}
use Rattle.store_write.proofs.writing.put_dither.Statement.{statement}
use Rattle.store_write.proofs.writing.put_dither.Tie as tie

put-integers-requires : tie.Need-put_integers-requires
put-integers-requires c κs =
    let at-put-natural : tie.After-put_natural-x = search in
    let begin : tie.Start = search in
    let h = at-put-natural.put_natural-x.ensures.high in
    let l = at-put-natural.put_natural-x.ensures.long in
    let p = begin.requires in
    (omega arith, omega arith)

returns : tie.Need-returns
returns c =
    let begin : tie.Start = search in
    let at-put-natural : tie.After-put_natural-x = search in
    let at-put-integers : tie.After-put_integers = search in
    let p = begin.requires in
    let h = at-put-natural.put_natural-x.ensures.high in
    let l = at-put-natural.put_natural-x.ensures.long in
    let a = begin.args in
    wider
    (more-fields (decimal_of a.f ∷ []) (texts (take 8 (map (wrap w32) a.a.now))) (omega arith) at-put-natural.put_natural-x.ensures
    at-put-integers.put_integers.ensures) (omega arith)

pub put_dither_spec : {M : Type 1} → statement M
put_dither_spec =
    tie.close (tie.spec (λ c κs. search rules) put-integers-requires (λ c. search rules) returns)
