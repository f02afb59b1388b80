-- The first letter that it is; each before it is another.
use mathlib.Core.Path.{sym}
use borrow.Author.Tests.{eq-eqb, ne_eqb}
use Rattle.desk.specs.Lines.{kind_of}
use Rattle.desk.proofs.lines.kind_of.Statement.{statement}
use Rattle.desk.proofs.lines.kind_of.Tie as tie

returns : tie.Need-returns-then-letter-eq119
unfolding kind_of
returns c =
    sym (rw (eq-eqb _ _ c.if-letter-eq119.true))

returns-2 : tie.Need-returns-then-letter-eq111
unfolding kind_of
returns-2 c =
    let e1 : tie.Else-letter-eq119 = search in
    sym (rw (ne_eqb _ _ e1.if-letter-eq119.false, eq-eqb _ _ c.if-letter-eq111.true))

returns-3 : tie.Need-returns-then-letter-eq114
unfolding kind_of
returns-3 c =
    let e1 : tie.Else-letter-eq119 = search in
    let e2 : tie.Else-letter-eq111 = search in
    sym (rw (ne_eqb _ _ e1.if-letter-eq119.false, ne_eqb _ _ e2.if-letter-eq111.false, eq-eqb _ _ c.if-letter-eq114.true))

returns-4 : tie.Need-returns-then-letter-eq112
unfolding kind_of
returns-4 c =
    let e1 : tie.Else-letter-eq119 = search in
    let e2 : tie.Else-letter-eq111 = search in
    let e3 : tie.Else-letter-eq114 = search in
    sym (rw (ne_eqb _ _ e1.if-letter-eq119.false, ne_eqb _ _ e2.if-letter-eq111.false, ne_eqb _ _ e3.if-letter-eq114.false, eq-eqb _ _ c.if-letter-eq112.true))

returns-5 : tie.Need-returns-then-letter-eq113
unfolding kind_of
returns-5 c =
    let e1 : tie.Else-letter-eq119 = search in
    let e2 : tie.Else-letter-eq111 = search in
    let e3 : tie.Else-letter-eq114 = search in
    let e4 : tie.Else-letter-eq112 = search in
    sym (rw (ne_eqb _ _ e1.if-letter-eq119.false, ne_eqb _ _ e2.if-letter-eq111.false, ne_eqb _ _ e3.if-letter-eq114.false, ne_eqb _ _ e4.if-letter-eq112.false, eq-eqb _ _ c.if-letter-eq113.true))

returns-6 : tie.Need-returns-then-letter-eq115
unfolding kind_of
returns-6 c =
    let e1 : tie.Else-letter-eq119 = search in
    let e2 : tie.Else-letter-eq111 = search in
    let e3 : tie.Else-letter-eq114 = search in
    let e4 : tie.Else-letter-eq112 = search in
    let e5 : tie.Else-letter-eq113 = search in
    sym (rw (ne_eqb _ _ e1.if-letter-eq119.false, ne_eqb _ _ e2.if-letter-eq111.false, ne_eqb _ _ e3.if-letter-eq114.false, ne_eqb _ _ e4.if-letter-eq112.false, ne_eqb _ _ e5.if-letter-eq113.false, eq-eqb _ _ c.if-letter-eq115.true))

returns-7 : tie.Need-returns
unfolding kind_of
returns-7 c =
    let e1 : tie.Else-letter-eq119 = search in
    let e2 : tie.Else-letter-eq111 = search in
    let e3 : tie.Else-letter-eq114 = search in
    let e4 : tie.Else-letter-eq112 = search in
    let e5 : tie.Else-letter-eq113 = search in
    let e6 : tie.Else-letter-eq115 = search in
    sym (rw (ne_eqb _ _ e1.if-letter-eq119.false, ne_eqb _ _ e2.if-letter-eq111.false, ne_eqb _ _ e3.if-letter-eq114.false, ne_eqb _ _ e4.if-letter-eq112.false, ne_eqb _ _ e5.if-letter-eq113.false, ne_eqb _ _ e6.if-letter-eq115.false))

pub kind_of_spec : {M : Type 1} → statement M
kind_of_spec = tie.close (tie.spec returns returns-2 returns-3 returns-4 returns-5 returns-6 returns-7)
