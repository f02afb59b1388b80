-- The two bytes are 16 bits, and these are read with their sign.
use Rattle.std.proofs.Common.{arith, ◌≡◌, ◌+◌, ◌*◌, ℕ, pos, Fits, ap, ◌∙◌}
use mir.Syntax.{w16, w32}
use Rattle.words.specs.Words.{wrap}
use Rattle.words.proofs.Reading.{read, wrap-bits}
use Rattle.wav.proofs.samples.sample.Goals as goal

pub returns : goal.returns
returns c =
    let lo = c.args.lo in
    let hi = c.args.hi in
    let n : lo + hi * 256 ≡ lo + 256 * hi = omega arith in
    let f : Fits w16 (lo + hi * 256) = record { fits = omega arith } in
    read w32 c.from.result c.from.type_inv ∙ c.from.ensures ∙ read w16 c.from_le_bytes.result c.from_le_bytes.type_inv ∙ c.from_le_bytes.ensures
    ∙ wrap-bits w16 (lo + hi * 256) f ∙ ap (λ (k : ℕ). wrap w16 (pos k)) n
