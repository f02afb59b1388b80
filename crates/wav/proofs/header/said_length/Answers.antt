-- The four bytes at 40 are the data size, where there are 44 bytes.
use Rattle.std.proofs.Common.{arith, ℕ, ◌+◌, ap, ◌∙◌}
use borrow.Author.Tests.{le-leb}
use Rattle.wav.specs.Bytes.{little_in}
use Rattle.wav.proofs.Headers.{four_in}
use Rattle.wav.proofs.header.said_length.Goals as goal

pub returns-in-Some : goal.returns-in-Some
returns-in-Some c =
    let f = c.in-Some.ensures.cases in
    let e = c.from.ensures ∙ c.four.ensures ∙ ap little_in (four_in c.in-Some.head.now c.args.bytes.now 40 f (omega arith)) in
    rw (le-leb _ _ f.enough) (ap (λ (n : ℕ). 44 + n) e)
