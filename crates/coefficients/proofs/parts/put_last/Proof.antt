-- Nothing after a refusal or a whole line; else the refusal (Stepping).
use mathlib.Core.Path.{sym}
use native.Mathlib.Omega.{arith}
use borrow.Author.Rules.{rules}
use Rattle.text.proofs.Putting.{wrote-same, wrote-length, nothing}
use Rattle.coefficients.proofs.Stepping.{not_on, not_off, last_stopped, last_empty, last_cut}
use Rattle.coefficients.proofs.parts.put_last.Statement.{statement}
use Rattle.coefficients.proofs.parts.put_last.Tie as tie

returns : tie.Need-returns-then-not-p
returns c =
    let begin : tie.Start = search in
    let a = begin.args in
    let e = last_stopped a.p a.line.now begin.requires.0 (not_on a.p.going c.if-not-p.true) in
    (wrote-same (sym e) (nothing a.out.now 0), omega arith)

returns-2 : tie.Need-returns-then-p-eq0
returns-2 c =
    let begin : tie.Start = search in
    let going : tie.Else-not-p = search in
    let a = begin.args in
    let e = last_empty a.p a.line.now begin.requires.0 (not_off a.p.going going.if-not-p.false) c.if-p-eq0.true in
    (wrote-same (sym e) (nothing a.out.now 0), omega arith)

returns-3 : tie.Need-returns
returns-3 c =
    let begin : tie.Start = search in
    let going : tie.Else-not-p = search in
    let cut : tie.Else-p-eq0 = search in
    let at_count : tie.After-count_up-number = search in
    let at-put : tie.After-put_answer = search in
    let a = begin.args in
    let e = last_cut a.p a.line.now begin.requires.0 (not_off a.p.going going.if-not-p.false) cut.if-p-eq0.false in
    let x = rw at_count.count_up-number.ensures at at-put.put_answer.ensures in
    let k = wrote-length (omega (arith, x.0.next, x.1, begin.requires.1)) x.0 in
    (wrote-same (sym e) x.0, omega (arith, x.1, begin.requires.1))

pub put_last_spec : {M : Type 1} → statement M
put_last_spec =
    tie.close (tie.spec returns returns-2 (λ c κs. search rules) (λ c κs. search rules) (λ c. search rules) returns-3)
