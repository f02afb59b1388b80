-- Pairs in turn are the sections (InPairs).
use borrow.Author.Rules.{rules}
use mathlib.Core.Path.{◌≡◌, sym, ap, ◌∙◌}
use Prim.Native.Nat.{◌/◌}
use lib.ListN.{drop}
use mir.Syntax.{w32}
use Rattle.words.proofs.Reading.{read}
use Rattle.sections.specs.declared.pairs.Two.{Two}
use Rattle.sections.specs.declared.pairs.Codes.{Codes}
use Rattle.sections.specs.Lent.{list_of}
use Rattle.sections.specs.Pairs.{paired}
use Rattle.sections.proofs.InPairs.{given, by_code, four_turn, six_turn, eight_turn, alike}
use Rattle.sections.proofs.turns.turn_eight.Statement.{statement}
use Rattle.sections.proofs.turns.turn_eight.Tie as tie

returns : tie.Need-returns-then-architecture-lt65536
returns c =
    let tq = c.before.before in let n = tq.before.before in let g1 = n.before in let tp = g1.before.before.before in
    let g0 = tp.before in let ta = g0.before in let tz = ta.before in let s = tz.before in
    let a = s.args in let m = a.architecture in let z = a.z in let cs = list_of a.a in
    let zs = tz.struct_told-1.given in let cf = ta.struct_told-2-1.given in let ps = tp.struct_told-3-1.given in
    let p : Two = g0.through_at-p.result in let q : Two = g1.through_at-q.result in
    let e : p ≡ paired m (given a.x z.e0 z.e1 cs) =
    by_code m a.k.k0 (given a.x z.e0 z.e1 cs) g0.through_at-p.result (ap (λ (v : Codes). v.k0) s.requires)
    s.ranges.x.sfits zs.0.1 zs.1.0.1 cf.0.1 cf.1.0.1 g0.through_at-p.ensures in
    let f : q ≡ paired (m / 256) (given p.on z.e2 z.e3 (drop 2 cs)) =
    by_code (m / 256) a.k.k1 (given p.on z.e2 z.e3 (drop 2 cs)) g1.through_at-q.result (ap (λ (v : Codes). v.k1) s.requires)
    ps.1.1.0.1 zs.1.1.0.1 zs.1.1.1.0.1 cf.1.1.0.1 cf.1.1.1.0.1 g1.through_at-q.ensures in
    let qs = tq.struct_told-then-architecture-lt65536-2-1.given in
    let t = four_turn m cs a.x z.e0 z.e1 z.e2 z.e3 z.e4 z.e5 z.e6 z.e7 p q e f n.if-architecture-lt65536.true in (
      read w32 p.back ps.0.1 ∙ sym t.0,
      alike (read w32 p.cell ps.1.0.1) (read w32 q.back qs.0.1) (read w32 q.cell qs.1.0.1) (read w32 q.on qs.1.1.0.1)
          (read w32 z.e4 zs.1.1.1.1.0.1) (read w32 z.e5 zs.1.1.1.1.1.0.1) (read w32 z.e6 zs.1.1.1.1.1.1.0.1)
          (read w32 z.e7 zs.1.1.1.1.1.1.1.0.1) ∙ sym t.1,
    )

returns-2 : tie.Need-returns-then-architecture-lt16777216
returns-2 c =
    let tr = c.before.before in let n = tr.before.before.before in let g2 = n.before in
    let tq = g2.before.before.before in let g1 = tq.before.before in let tp = g1.before.before.before in
    let g0 = tp.before in let ta = g0.before in let tz = ta.before in let s = tz.before in
    let a = s.args in let m = a.architecture in let z = a.z in let cs = list_of a.a in
    let zs = tz.struct_told-1.given in let cf = ta.struct_told-2-1.given in let ps = tp.struct_told-3-1.given in
    let p : Two = g0.through_at-p.result in let q : Two = g1.through_at-q.result in
    let e : p ≡ paired m (given a.x z.e0 z.e1 cs) =
    by_code m a.k.k0 (given a.x z.e0 z.e1 cs) g0.through_at-p.result (ap (λ (v : Codes). v.k0) s.requires)
    s.ranges.x.sfits zs.0.1 zs.1.0.1 cf.0.1 cf.1.0.1 g0.through_at-p.ensures in
    let f : q ≡ paired (m / 256) (given p.on z.e2 z.e3 (drop 2 cs)) =
    by_code (m / 256) a.k.k1 (given p.on z.e2 z.e3 (drop 2 cs)) g1.through_at-q.result (ap (λ (v : Codes). v.k1) s.requires)
    ps.1.1.0.1 zs.1.1.0.1 zs.1.1.1.0.1 cf.1.1.0.1 cf.1.1.1.0.1 g1.through_at-q.ensures in
    let qs = tq.struct_told-6-1.given in let rs = tr.struct_told-then-architecture-lt16777216-3-1.given in let r : Two = g2.through_at-r.result in
    let g : r ≡ paired (m / 65536) (given q.on z.e4 z.e5 (drop 4 cs)) =
    by_code (m / 65536) a.k.k2 (given q.on z.e4 z.e5 (drop 4 cs)) g2.through_at-r.result (ap (λ (v : Codes). v.k2) s.requires)
    qs.1.1.0.1 zs.1.1.1.1.0.1 zs.1.1.1.1.1.0.1 cf.1.1.1.1.0.1 cf.1.1.1.1.1.0.1 g2.through_at-r.ensures in
    let t = six_turn m cs a.x z.e0 z.e1 z.e2 z.e3 z.e4 z.e5 z.e6 z.e7 p q e f r g n.if-architecture-lt16777216.true in (
      read w32 p.back ps.0.1 ∙ sym t.0,
      alike (read w32 p.cell ps.1.0.1) (read w32 q.back qs.0.1) (read w32 q.cell qs.1.0.1) (read w32 r.back rs.0.1)
          (read w32 r.cell rs.1.0.1) (read w32 r.on rs.1.1.0.1) (read w32 z.e6 zs.1.1.1.1.1.1.0.1)
          (read w32 z.e7 zs.1.1.1.1.1.1.1.0.1) ∙ sym t.1,
    )

returns-3 : tie.Need-returns
returns-3 c =
    let g3 = c.before.before.before.before.before in let tr = g3.before.before.before in let g2 = tr.before.before in
    let tq = g2.before.before.before in let g1 = tq.before.before in let tp = g1.before.before.before in
    let g0 = tp.before in let ta = g0.before in let tz = ta.before in let s = tz.before in
    let a = s.args in let m = a.architecture in let z = a.z in let cs = list_of a.a in
    let zs = tz.struct_told-1.given in let cf = ta.struct_told-2-1.given in let ps = tp.struct_told-3-1.given in
    let p : Two = g0.through_at-p.result in let q : Two = g1.through_at-q.result in
    let e : p ≡ paired m (given a.x z.e0 z.e1 cs) =
    by_code m a.k.k0 (given a.x z.e0 z.e1 cs) g0.through_at-p.result (ap (λ (v : Codes). v.k0) s.requires)
    s.ranges.x.sfits zs.0.1 zs.1.0.1 cf.0.1 cf.1.0.1 g0.through_at-p.ensures in
    let f : q ≡ paired (m / 256) (given p.on z.e2 z.e3 (drop 2 cs)) =
    by_code (m / 256) a.k.k1 (given p.on z.e2 z.e3 (drop 2 cs)) g1.through_at-q.result (ap (λ (v : Codes). v.k1) s.requires)
    ps.1.1.0.1 zs.1.1.0.1 zs.1.1.1.0.1 cf.1.1.0.1 cf.1.1.1.0.1 g1.through_at-q.ensures in
    let qs = tq.struct_told-6-1.given in let rs = tr.struct_told-9-1.given in let ss = c.before.struct_told-15-1.given in
    let r : Two = g2.through_at-r.result in let u : Two = g3.through_at-s.result in
    let g : r ≡ paired (m / 65536) (given q.on z.e4 z.e5 (drop 4 cs)) =
    by_code (m / 65536) a.k.k2 (given q.on z.e4 z.e5 (drop 4 cs)) g2.through_at-r.result (ap (λ (v : Codes). v.k2) s.requires)
    qs.1.1.0.1 zs.1.1.1.1.0.1 zs.1.1.1.1.1.0.1 cf.1.1.1.1.0.1 cf.1.1.1.1.1.0.1 g2.through_at-r.ensures in
    let h : u ≡ paired (m / 16777216) (given r.on z.e6 z.e7 (drop 6 cs)) =
    by_code (m / 16777216) a.k.k3 (given r.on z.e6 z.e7 (drop 6 cs)) g3.through_at-s.result (ap (λ (v : Codes). v.k3) s.requires)
    rs.1.1.0.1 zs.1.1.1.1.1.1.0.1 zs.1.1.1.1.1.1.1.0.1 cf.1.1.1.1.1.1.0.1 cf.1.1.1.1.1.1.1.0.1 g3.through_at-s.ensures in
    let t = eight_turn m cs a.x z.e0 z.e1 z.e2 z.e3 z.e4 z.e5 z.e6 z.e7 p q e f r g u h in (
      read w32 p.back ps.0.1 ∙ sym t.0,
      alike (read w32 p.cell ps.1.0.1) (read w32 q.back qs.0.1) (read w32 q.cell qs.1.0.1) (read w32 r.back rs.0.1)
          (read w32 r.cell rs.1.0.1)
          (read w32 u.back ss.0.1) (read w32 u.cell ss.1.0.1) (read w32 u.on ss.1.1.0.1) ∙ sym t.1,
    )

pub turn_eight_spec : {M : Type 1} → statement M
turn_eight_spec =
    tie.close (tie.spec (λ c κs. search rules) (λ c κs. search rules) returns (λ c κs. search rules) returns-2
    (λ c κs. search rules) returns-3)
