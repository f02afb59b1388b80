use Rattle.std.proofs.Common.{rules, ◌≡◌, ap}
use Rattle.std.specs.Prelude.{Err}
use Rattle.blocks.proofs.Refusals.{accepted, refused_too, taken_number, taken_value}
use Rattle.recorder.specs.Calls.{opened, opened_of}
use Rattle.recorder.proofs.recorder.Recorder.open.Goals as goal

pub returns-in_err-filter : goal.returns-in_err-filter
unfolding opened_of
returns-in_err-filter c =
    let r = c.in_err-filter in let e : c.from_residual.result ≡ Err r.field-0.0 = search rules in
    rw e (refused_too _ _ _ r.field-0.0 r.ensures.0, ap opened r.ensures.1)

pub returns : goal.returns
unfolding opened_of
returns c =
    let f = c.in_ok-filter in
    (rw (taken_value _ _ f.filter f.ensures.0) (accepted _ _ (taken_number _ _ f.filter f.ensures.0)), ap opened f.ensures.1)
