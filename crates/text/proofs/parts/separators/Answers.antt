use Rattle.std.proofs.Common.{◌≡◌, ◌==◌, sym, ◌∙◌, rules}
use Rattle.std.specs.List.{count_by}
use Rattle.text.proofs.Parting.{count-count_by}
use Rattle.text.proofs.parts.separators.Goals as goal

pub returns : goal.returns
returns c =
    let a = c.args in
    let e : c.count.result ≡ count_by (λ b. b == a.sep) a.text.now = search rules in
    e ∙ sym (count-count_by a.sep a.text.now)
