-- Sums modulo 2^64 and words of them keep the rounded quotient (Rounding).
use Rattle.std.proofs.Common.{◌≡◌, rules, w32, w64, SFits, ap, ◌∙◌}
use Rattle.words.specs.Words.{word}
use Rattle.words.proofs.Reading.{read, bits-word}
use Rattle.rpll.proofs.Rounding.{locked}
use Rattle.rpll.proofs.frequency_lock.Goals as goal

pub returns : goal.returns
returns c =
    let a = c.args in
    let dx : c.from-2.result ≡ a.dx = rw (read w32 a.dx c.ranges.dx.sfits) at c.from-2.ensures in
    let fits : SFits w64 c.from-2.result = search rules in
    let bits : c.cast_unsigned.result ≡ word w64 a.dx =
    (rw (read w64 c.from-2.result fits.sfits) at c.cast_unsigned.ensures) ∙ bits-word w64 c.from-2.result fits ∙ ap (word w64) dx in
    rw c.from.ensures (locked a.ff a.dx a.dt2 a.shift c.cast_unsigned.result c.requires.0 c.requires.1 bits)
