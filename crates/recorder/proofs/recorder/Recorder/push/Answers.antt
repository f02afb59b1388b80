-- The resume's answer by its number.
use Rattle.std.proofs.Common.{rules, ◌≡◌, ℕ, ne_eqb, eq-eqb, w64, to_z, of_z}
use Rattle.std.specs.Prelude.{Err}
use Rattle.blocks.proofs.Refusals.{accepted, refused_too, taken_number, taken_value}
use Rattle.shape.proofs.Ways.{never}
use Rattle.recorder.specs.Calls.{push_number, pushed_of}
use Rattle.recorder.proofs.recorder.Recorder.push.Goals as goal

pub returns-in_err-filter : goal.returns-in_err-filter
unfolding pushed_of
returns-in_err-filter c =
    let r = c.in_err-filter in let e : c.from_residual.result ≡ Err r.field-0.0 = search rules in
    let k : ℕ = push_number c.args.self.now in
    (rw (ne_eqb k 0 (never k _ r.field-0.0 r.ensures.0)), rw e (refused_too k _ tt r.field-0.0 r.ensures.0))

pub returns : goal.returns
unfolding pushed_of
returns c =
    let f = c.in_ok-filter in let k : ℕ = push_number c.args.self.now in
    let held : to_z w64 (of_z w64 c.args.self.now.filter.hold) ≡ c.args.self.now.filter.hold = search rules in
    let is = (rw held at f.ensures).0 in
    let z : k ≡ 0 = taken_number k _ f.filter is in
    (rw (taken_value k _ f.filter is, eq-eqb k 0 z), accepted k tt z)
