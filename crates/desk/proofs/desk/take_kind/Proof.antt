-- By the kind.
use mathlib.Core.Path.{sym, ap, ◌∙◌}
use mir.Syntax.{w32}
use Rattle.words.proofs.Reading.{read}
use Rattle.desk.specs.declared.lines.Kind.{Kind}
use Rattle.desk.specs.Desks.{kind_taken}
use borrow.Author.Rules.{rules}
use Rattle.desk.proofs.desk.take_kind.Statement.{statement}
use Rattle.desk.proofs.desk.take_kind.Tie as tie

returns : tie.Need-returns-in-Word
unfolding kind_taken
returns c =
    let w : tie.In-Word = search in
    let p : tie.Start = search in
    let a = p.args in
    let u : tie.After-u32_as_i32 = search in
    (rw (read w32 u.u32_as_i32.result u.u32_as_i32.type_inv, u.u32_as_i32.ensures) at c.word.ensures) ∙ ap (λ (k : Kind). kind_taken a.d k a.number a.argument) (sym w.in-Word.is)

returns-2 : tie.Need-returns-in-Open
unfolding kind_taken
returns-2 c =
    let w : tie.In-Open = search in
    let p : tie.Start = search in
    let a = p.args in
    c.open.ensures ∙ ap (λ (k : Kind). kind_taken a.d k a.number a.argument) (sym w.in-Open.is)

returns-3 : tie.Need-returns-in-Rate
unfolding kind_taken
returns-3 c =
    let w : tie.In-Rate = search in
    let p : tie.Start = search in
    let a = p.args in
    c.rate.ensures ∙ ap (λ (k : Kind). kind_taken a.d k a.number a.argument) (sym w.in-Rate.is)

returns-4 : tie.Need-returns-in-Pull
unfolding kind_taken
returns-4 c =
    let w : tie.In-Pull = search in
    let p : tie.Start = search in
    let a = p.args in
    c.pull.ensures ∙ ap (λ (k : Kind). kind_taken a.d k a.number a.argument) (sym w.in-Pull.is)

returns-5 : tie.Need-returns-in-Push
unfolding kind_taken
returns-5 c =
    let w : tie.In-Push = search in
    let p : tie.Start = search in
    let a = p.args in
    c.push.ensures ∙ ap (λ (k : Kind). kind_taken a.d k a.number a.argument) (sym w.in-Push.is)

returns-6 : tie.Need-returns-in-Save
unfolding kind_taken
returns-6 c =
    let w : tie.In-Save = search in
    let p : tie.Start = search in
    let a = p.args in
    c.save.ensures ∙ ap (λ (k : Kind). kind_taken a.d k a.number a.argument) (sym w.in-Save.is)

returns-7 : tie.Need-returns-in-Unknown
unfolding kind_taken
returns-7 c =
    let w : tie.In-Unknown = search in
    let p : tie.Start = search in
    let a = p.args in
    c.refused.ensures ∙ ap (λ (k : Kind). kind_taken a.d k a.number a.argument) (sym w.in-Unknown.is)

pub take_kind_spec : {M : Type 1} → statement M
take_kind_spec = tie.close (tie.spec (λ c. search rules) (λ c κs. search rules) (λ c κs. search rules) (λ c. search rules) (λ c κs. search rules) (λ c. search rules) (λ c κs. search rules) (λ c. search rules) (λ c κs. search rules) (λ c. search rules) (λ c κs. search rules) (λ c. search rules) (λ c κs. search rules) (λ c. search rules) (λ c κs. search rules) returns returns-2 returns-3 returns-4 returns-5 returns-6 returns-7)
