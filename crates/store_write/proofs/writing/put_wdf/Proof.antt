-- The number of sections, the nibbles, and as many coefficients.
use borrow.Author.Rules.{rules}
use native.Mathlib.Omega.{arith}
use mathlib.Core.List.{[], ◌∷◌, map}
use lib.ListN.{take}
use mir.Syntax.{w32}
use Rattle.words.specs.Words.{wrap}
use Rattle.text.specs.Numbers.{decimal_of}
use Rattle.text.specs.Ranges.{texts}
use Rattle.settings_text.specs.Fields.{nibbles_of}
use Rattle.store_write.proofs.Putting.{more-fields, wider}
use Rattle.store_write.proofs.writing.put_wdf.Statement.{statement}
use Rattle.store_write.proofs.writing.put_wdf.Tie as tie

put-nibbles-requires : tie.Need-put_nibbles-y-requires
put-nibbles-requires c κs =
    let at-put-natural : tie.After-put_natural-x = search in
    let begin : tie.Start = search in
    let h = at-put-natural.put_natural-x.ensures.high in
    let l = at-put-natural.put_natural-x.ensures.long in
    let p = begin.requires.0 in
    (omega arith, begin.requires.1)

put-integers-requires : tie.Need-put_integers-requires
put-integers-requires c κs =
    let at-put-natural : tie.After-put_natural-x = search in
    let at-put-nibbles : tie.After-put_nibbles-y = search in
    let begin : tie.Start = search in
    let h = at-put-natural.put_natural-x.ensures.high in
    let l = at-put-natural.put_natural-x.ensures.long in
    let i = at-put-nibbles.put_nibbles-y.ensures.high in
    let m = at-put-nibbles.put_nibbles-y.ensures.long in
    let p = begin.requires.0 in
    let q = begin.requires.1 in
    (omega arith, q)

returns : tie.Need-returns
returns c =
    let begin : tie.Start = search in
    let at-put-natural : tie.After-put_natural-x = search in
    let at-put-nibbles : tie.After-put_nibbles-y = search in
    let at-put-integers : tie.After-put_integers = search in
    let p = begin.requires.0 in
    let q = begin.requires.1 in
    let h = at-put-natural.put_natural-x.ensures.high in
    let l = at-put-natural.put_natural-x.ensures.long in
    let a = begin.args in
    let cs = texts (take a.k (map (wrap w32) a.a.now)) in
    wider
    (more-fields (decimal_of a.k ∷ []) (nibbles_of a.k a.m ∷ cs) (omega arith) at-put-natural.put_natural-x.ensures
    (more-fields (nibbles_of a.k a.m ∷ []) cs (omega arith) at-put-nibbles.put_nibbles-y.ensures
    at-put-integers.put_integers.ensures)) (omega arith)

pub put_wdf_spec : {M : Type 1} → statement M
put_wdf_spec =
    tie.close (tie.spec (λ c. search rules) (λ c κs. search rules) put-nibbles-requires put-integers-requires
    (λ c. search rules) returns)
