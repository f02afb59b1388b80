-- The frequency's bits added as they are read (Coasting).
use Rattle.std.proofs.Common.{refl, pos, rules, w32, Fits}
use Rattle.words.proofs.Reading.{wrap-bits}
use Rattle.words.proofs.Std.{add_bits}
use Rattle.rpll.proofs.Coasting.{added}
use Rattle.rpll.proofs.RPLL.advance.Goals as goal

pub returns : goal.returns
returns c =
    let s = c.args.self.now in
    let f : Fits w32 s.f = search rules in
    rw (
      add_bits w32 s.y c.cast_signed.result (search rules) (search rules),
      c.cast_signed.ensures,
      wrap-bits w32 s.f f,
      added s.y (pos s.f),
    ) refl
