-- By the reply; nothing is written where there is none.
use mathlib.Core.Path.{◌≡◌, ◌∙◌, sym, ap}
use mathlib.Core.Bool.{true, false}
use Prim.Native.Nat.{ℕ}
use native.Mathlib.Omega.{arith}
use mir.Syntax.{w64}
use mir.ValLaws.{to_z-of_z}
use borrow.Author.Rules.{rules}
use Rattle.playback.specs.Places.{goes_on, reply_bytes}
use Rattle.playback.specs.Inner.Advances.{line_room}
use Rattle.records.specs.declared.session.Reply.TheVariants.{Output}
use Rattle.playback.proofs.Answering.{short}
use Rattle.text.proofs.Putting.{wrote-same, nothing}
use Rattle.playback.proofs.answers.put_reply.Goals as goal

pub returns-in-Silent : goal.returns-in-Silent
returns-in-Silent c =
    let a = c.args in
    (wrote-same (sym (ap (reply_bytes a.line) c.in-Silent.is)) (nothing a.out.now a.at), omega arith, λ z. omega arith)

pub put_output-requires : goal.put_output-requires
put_output-requires c =
    let d = short c.in-Output.y.told in
    omega (arith, c.requires)

pub returns-in-Output : goal.returns-in-Output
returns-in-Output c =
    let a = c.args in
    let y = to_z-of_z w64 c.in-Output.y.value (search rules) in
    let p = rw y at c.put_output.ensures in
    let g : line_room a.reply ≡ line_room (Output c.in-Output.y) = ap line_room c.in-Output.is in
    let d = short c.in-Output.y.told in
    (wrote-same (sym (ap (reply_bytes a.line) c.in-Output.is)) p.0, omega (arith, p.1), λ z. omega (arith, p.1))

pub returns-in-Bad : goal.returns-in-Bad
returns-in-Bad c =
    let a = c.args in
    let p = c.put_bad.ensures in (
      wrote-same (sym (ap (reply_bytes a.line) c.in-Bad.is)) p.0,
      omega (arith, p.1),
      λ z. let e : false ≡ true = sym (ap goes_on c.in-Bad.is) ∙ z in let n : ◌≡◌ {A = ℕ} 0 1 = cc in absurd (omega arith),
    )
