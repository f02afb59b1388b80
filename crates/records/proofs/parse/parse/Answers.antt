-- By the name, then by how many tabs there are: each is a field more.
use Rattle.std.proofs.Common.{sym, ◌∙◌, arith}
use lib.Seq.{length-take-le}
use Rattle.text.specs.Letters.{tab}
use Rattle.text.proofs.Parting.{end_high}
use Rattle.records.proofs.Parsing.{unknown, miscounted, formed, counts}
use Rattle.records.proofs.parse.parse.Goals as goal

pub slice_bounds-named-end : goal.slice_bounds-named-end
slice_bounds-named-end c =
    let a = c.args in let p = c.part_end-e in
    sym (length-take-le p.result a.line.now (rw p.ensures (end_high tab a.line.now 0 (omega arith))))

pub returns-then-not-known : goal.returns-then-not-known
returns-then-not-known c =
    let a = c.args in let p = c.part_end-e in let n = c.named-name in
    c.bad_field.ensures ∙ unknown a.wide a.line.now p.result p.ensures n.result n.ensures (sym c.known.ensures ∙ c.if-not-known.true)

pub returns-then-separators-wanted : goal.returns-then-separators-wanted
returns-then-separators-wanted c =
    let a = c.args in let p = c.part_end-e in let n = c.named-name in
    c.bad_field-then-separators-wanted.ensures ∙ miscounted a.wide a.line.now p.result p.ensures n.result n.ensures _ _
    c.separators.ensures c.wanted.ensures (sym c.known.ensures ∙ c.if-not-known.false) c.if-separators-wanted.true

pub named_record-requires : goal.named_record-requires
named_record-requires c =
    let a = c.args in let p = c.part_end-e in let n = c.named-name in
    counts a.wide a.line.now p.result p.ensures n.result n.ensures _ _ c.separators.ensures c.wanted.ensures
    (sym c.known.ensures ∙ c.if-not-known.false) c.if-separators-wanted.false

pub returns : goal.returns
returns c =
    let a = c.args in let p = c.part_end-e in let n = c.named-name in
    c.named_record.ensures ∙ formed a.wide a.line.now p.result p.ensures n.result n.ensures _ _ c.separators.ensures c.wanted.ensures
    (sym c.known.ensures ∙ c.if-not-known.false) c.if-separators-wanted.false
