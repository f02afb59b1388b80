use Rattle.std.proofs.Common.{◌≡◌, ◌+◌, ◌-◌, ℤ, get_or, pos, of_z, to_z, w32, SFits, length, ◌∙◌, refl, arith, rules}
use mir.ValLaws.{to_z-of_z}
use Rattle.adapters.specs.declared.tpa.Ports.{Ports}
use Rattle.sections.specs.Sections.{sections_of, passed}
use Rattle.wdf.proofs.Passes.{section, begin, onward, finish}
use Rattle.wdf.proofs.filter.pass.Goals as goal

pub returns-then-sections-eq0 : goal.returns-then-sections-eq0
unfolding sections_of passed
returns-then-sections-eq0 c = rw (c.if-sections-eq0.true, to_z-of_z w32 c.args.x c.ranges.x) (refl, refl)

pub loop-i-init : goal.loop-i-init
loop-i-init c =
    let a = c.args in let p : Ports = c.section-head.result in
    let f : SFits w32 (get_or a.z.now 0 (pos 0)) = search rules in
    let g : SFits w32 (get_or a.a.now 0 (pos 0)) = search rules in
    let h : SFits w32 p.1 = search rules in
    let l : length a.z.now ≡ 8 = search rules in
    let e : p ≡ section a.architecture 0 a.a.now a.z.now (to_z w32 (of_z w32 a.x)) =
    rw (c.section-head.ensures, to_z-of_z w32 (get_or a.z.now 0 (pos 0)) f, to_z-of_z w32 (get_or a.a.now 0 (pos 0)) g) in
    rw (to_z-of_z w32 p.1 h)
    (begin (a.sections - 1) a.architecture a.a.now a.z.now (to_z w32 (of_z w32 a.x)) (omega arith) p e)

pub loop-i-preserved : goal.loop-i-preserved
loop-i-preserved c =
    let a = c.args in let l = c.loop-i in let p : Ports = c.section-p.result in
    let f : SFits w32 (get_or l.z (l.i + 1) (pos 0)) = search rules in
    let g : SFits w32 (get_or a.a.now (l.i + 1) (pos 0)) = search rules in
    let k : SFits w32 p.0 = search rules in
    let h : SFits w32 p.1 = search rules in
    let z : length a.z.now ≡ 8 = search rules in
    let e : p ≡ section l.left (l.i + 1) a.a.now l.z (to_z w32 l.going-bits) =
    rw (c.section-p.ensures, to_z-of_z w32 (get_or l.z (l.i + 1) (pos 0)) f, to_z-of_z w32 (get_or a.a.now (l.i + 1) (pos 0)) g) in
    rw (to_z-of_z w32 p.0 k, to_z-of_z w32 p.1 h)
    (onward (a.sections - 1) a.architecture a.a.now a.z.now (to_z w32 (of_z w32 a.x)) (omega arith)
    c.section-head.result.0 l.z (to_z w32 l.going-bits) l.left l.i l.invariant p c.loop-i-test.true e)

pub returns : goal.returns
returns c =
    let a = c.args in let l = c.loop-i in
    let y : ℤ = c.section-head.result.0 in
    let k : SFits w32 y = search rules in
    let z : length a.z.now ≡ 8 = search rules in
    let n : a.sections - 1 + 1 ≡ a.sections = omega arith in
    let f = finish (a.sections - 1) a.architecture a.a.now a.z.now (to_z w32 (of_z w32 a.x)) (omega arith)
    y l.z (to_z w32 l.going-bits) l.left l.i l.invariant c.loop-i-test.false in
    let b = to_z-of_z w32 a.x c.ranges.x in
    (to_z-of_z w32 y k ∙ rw (n, b) at l.invariant.answer, rw (n, b) at f)
