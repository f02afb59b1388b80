-- An accepted configuration is what both loops ask for (Ranges); their answers are the new frequencies.
use Rattle.std.proofs.Common.{◌≡◌, rules, w32, SFits, ◌∙◌}
use Rattle.words.specs.Words.{word}
use Rattle.words.proofs.Reading.{read, bits-word}
use Rattle.words.proofs.Std.{sub_bits}
use Rattle.rpll.proofs.Ranges.{accepted}
use Rattle.rpll.proofs.Coasting.{joined}
use Rattle.rpll.proofs.RPLLConfig.take.Goals as goal

pub frequency_lock-ff-requires : goal.frequency_lock-ff-requires
frequency_lock-ff-requires c =
    let a = accepted c.args.self c.requires in rw (c.from-dt2.ensures, c.from.ensures) (a.frequency_above, a.frequency_small)

pub phase_error-dy-requires : goal.phase_error-dy-requires
phase_error-dy-requires c =
    let a = accepted c.args.self c.requires in
    rw (c.from-dt2.ensures, c.from-2.ensures) (a.dt2_small, a.phase_above, a.phase_small)

pub returns : goal.returns
returns c =
    let s = c.args.s.now in
    let x = c.args.x in
    let dy = c.phase_error-dy.result in
    let last : SFits w32 s.x = search rules in
    let phase : SFits w32 s.y = search rules in
    let fits : SFits w32 dy = search rules in
    let bits : c.cast_unsigned.result ≡ word w32 dy =
    (rw (read w32 dy fits.sfits) at c.cast_unsigned.ensures) ∙ bits-word w32 dy fits in
    rw (
      bits,
      joined c.frequency_lock-ff.result dy,
      c.phase_error-dy.ensures,
      c.frequency_lock-ff.ensures,
      sub_bits w32 x s.x c.ranges.x last,
      read w32 x c.ranges.x.sfits,
      read w32 s.y phase.sfits,
      c.from-dt2.ensures,
      c.from.ensures,
      c.from-2.ensures,
    )
