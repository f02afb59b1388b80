-- Refused, or the words' turns go through the filter's block (Calling).
use Rattle.std.proofs.Common.{rules, ◌≡◌, refl}
use Rattle.std.specs.Prelude.{Ok, Err}
use Rattle.recorder.proofs.Calling.{take_short, take_out, take-through, take-refused}
use Rattle.recorder.proofs.recorder.Recorder.take.Goals as goal

pub returns-then-turns-n : goal.returns-then-turns-n
returns-then-turns-n c = let a = c.args in take_short a.self.now a.words.now a.turns.now a.out.now c.if-turns-n.true

pub returns-then-not-plugged : goal.returns-then-not-plugged
returns-then-not-plugged c = let a = c.args in take_out a.self.now a.words.now a.turns.now a.out.now c.if-turns-n.false c.if-not-plugged.true

pub returns-in_err-wrote : goal.returns-in_err-wrote
returns-in_err-wrote c =
    let a = c.args in let u = c.unwrap_words in let d = c.decimate_block in let r = c.in_err-wrote in
    let e : c.from_residual.result ≡ Err r.field-0.0 = search rules in
    rw e (take-refused a.self.now a.words.now a.turns.now a.out.now c.if-turns-n.false c.if-not-plugged.false u.new.turns u.ensures.1
    d.new.self (Err r.field-0.0) d.new.out r.ensures.0 r.ensures.1 r.ensures.2 r.field-0.0 refl)

pub returns : goal.returns
returns c =
    let a = c.args in let u = c.unwrap_words in let d = c.decimate_block in let r = c.in_ok-wrote in
    take-through a.self.now a.words.now a.turns.now a.out.now c.if-turns-n.false c.if-not-plugged.false u.new.turns u.ensures.1
    d.new.self (Ok r.wrote) d.new.out r.ensures.0 r.ensures.1 r.ensures.2 r.wrote refl u.new.unwrapper u.ensures.0
