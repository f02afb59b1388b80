-- A pair is its two sections (InPairs).
use borrow.Author.Rules.{rules}
use mathlib.Core.Path.{◌≡◌, sym, ◌∙◌}
use lib.ListN.{drop}
use mir.Syntax.{w32}
use Rattle.words.proofs.Reading.{read}
use Rattle.sections.specs.declared.pairs.Two.{Two}
use Rattle.sections.specs.Lent.{list_of}
use Rattle.sections.specs.Pairs.{paired}
use Rattle.sections.proofs.InPairs.{given, by_code, two_turn, alike}
use Rattle.sections.proofs.turns.turn_two.Statement.{statement}
use Rattle.sections.proofs.turns.turn_two.Tie as tie

returns : tie.Need-returns
returns c =
    let s : tie.Start = search in let tz : tie.After-struct_told-1 = search in let ta : tie.After-struct_told-2-1 = search in
    let g0 : tie.After-through-p = search in let tp : tie.After-struct_told-3-1 = search in
    let a = s.args in let m = a.architecture in let z = a.z in let cs = list_of a.a in
    let zs = tz.struct_told-1.given in let cf = ta.struct_told-2-1.given in let ps = tp.struct_told-3-1.given in
    let p : Two = g0.through-p.result in
    let e : p ≡ paired m (given a.x z.e0 z.e1 cs) =
    by_code m a.code (given a.x z.e0 z.e1 cs) p s.requires
    s.ranges.x.sfits zs.0.1 zs.1.0.1 cf.0.1 cf.1.0.1 g0.through-p.ensures in
    let t = two_turn m cs a.x z.e0 z.e1 (drop 2 (list_of z)) p e in (
      read w32 p.back ps.0.1 ∙ sym t.0,
      alike (read w32 p.cell ps.1.0.1) (read w32 p.on ps.1.1.0.1)
          (read w32 z.e2 zs.1.1.0.1) (read w32 z.e3 zs.1.1.1.0.1) (read w32 z.e4 zs.1.1.1.1.0.1)
          (read w32 z.e5 zs.1.1.1.1.1.0.1) (read w32 z.e6 zs.1.1.1.1.1.1.0.1) (read w32 z.e7 zs.1.1.1.1.1.1.1.0.1)
          ∙ sym t.1,
    )

pub turn_two_spec : {M : Type 1} → statement M
turn_two_spec = tie.close (tie.spec (λ c κs. search rules) returns)
