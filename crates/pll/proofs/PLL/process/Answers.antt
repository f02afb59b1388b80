-- Each value of the code is read back as its number, from the last to the first; together they are the definition.
use Rattle.std.proofs.Common.{refl, rules, w32, w64, SFits}
use lib.Signed.{shr_z, mag_shr}
use mir.ValLaws.{sfits_le}
use Rattle.words.proofs.Reading.{read}
use Rattle.words.proofs.Std.{add_bits}
use Rattle.pll.specs.Loops.{tracked_phase, tracked_next}
use Rattle.pll.proofs.PLL.process.Goals as goal

pub returns : goal.returns
unfolding tracked_phase tracked_next
returns c =
    let s = c.args.state.now in
    let p = c.predict-y in
    let q = c.process-z0 in
    let l = c.lead_lag-f0 in
    let held : SFits w32 q.result = search rules in
    let half : SFits w32 (shr_z q.result 2) = sfits_le (mag_shr q.result 2) held in
    let y0 : SFits w32 s.y0 = search rules in
    let f0 : SFits w64 s.f0 = search rules in
    rw (
      add_bits w64 p.new.self.f l.result (search rules) (search rules),
      read w64 l.result l.type_inv,
      l.ensures,
      read w32 q.result held.sfits,
      read w32 (shr_z q.result 2) half.sfits,
      add_bits w32 (shr_z q.result 2) p.new.self.z0 half (search rules),
      q.ensures.1,
      q.ensures.0,
      add_bits w32 c.args.x p.result c.ranges.x (search rules),
      read w32 p.result p.type_inv,
      p.ensures.0,
      p.ensures.1,
      read w32 s.y0 y0.sfits,
      read w64 s.f0 f0.sfits,
    ) (refl, refl)
