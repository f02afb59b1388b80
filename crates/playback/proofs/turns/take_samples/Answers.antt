-- The lines that were gathered are one block of the filter (Blocks); where none may be taken the turn does nothing.
use Rattle.std.proofs.Common.{◌≡◌, ◌≤◌, ℤ, List, length, take, refl, sym, ap, ◌∙◌, arith, rules, length-drop}
use lib.Seq.{length-take-le}
use Rattle.text.proofs.Putting.{wrote-same}
use Rattle.playback.specs.Inner.Advances.{output_lines}
use Rattle.playback.proofs.Blocks.{turn_same, all_ready, block-few, block-most, turn_block}
use Rattle.playback.proofs.turns.take_samples.Goals as goal

pub returns-then-not-ready : goal.returns-then-not-ready
returns-then-not-ready c =
    let a = c.args in
    turn_same a.r a.input.now a.out.now a.from a.at c.requires.0 c.requires.1 c.requires.2

pub slice_bounds-decimate_block-end-2 : goal.slice_bounds-decimate_block-end-2
slice_bounds-decimate_block-end-2 c =
    let g = c.gather-g in
    let enough : g.result.count ≤ length g.new.samples = omega (arith, g.ensures.few, g.auto.samples, c.requires.3) in
    sym (length-take-le g.result.count g.new.samples enough)

pub returns-in_default : goal.returns-in_default
returns-in_default c =
    let a = c.args in
    turn_same a.r a.input.now a.out.now a.from a.at c.requires.0 c.requires.1 c.requires.2

pub put_outputs-end-requires : goal.put_outputs-end-requires
put_outputs-end-requires c =
    let a = c.args in
    let g = c.gather-g in
    let d = c.decimate_block in
    let enough : g.result.count ≤ length g.new.samples = omega (arith, g.ensures.few, g.auto.samples, c.requires.3) in
    let long8 : length a.r.session.filter.integrators ≡ 8 = search rules in
    let long64 : length a.r.session.filter.combs ≡ 64 = search rules in
    let few = block-few a.r.session.wide a.r.session.filter g.new.samples a.given.now g.result.count
    enough long8 long64 d.new.self d.ensures.0 c.in-Ok.w c.in-Ok.ensures.1 in
    let most = block-most a.r.session.wide a.r.session.filter g.new.samples a.given.now g.result.count
    enough long8 long64 d.new.self d.ensures.0 c.in-Ok.w c.in-Ok.ensures.1 in
    let ready = all_ready a.r.going a.r.session.opened a.r.len (sym c.ready.ensures ∙ c.if-not-ready.false) in
    let fits = c.requires.2.fits ready.0 in (
      most,
      omega (arith, few, g.ensures.few, d.auto.out, c.requires.4),
      omega (arith, few, fits, g.ensures.far, g.ensures.inside, length-drop a.from a.input.now),
    )

pub returns : goal.returns
returns c =
    let a = c.args in
    let g = c.gather-g in
    let d = c.decimate_block in
    let p = c.put_outputs-end in
    let w = c.in-Ok.w in
    let enough : g.result.count ≤ length g.new.samples = omega (arith, g.ensures.few, g.auto.samples, c.requires.3) in
    let long8 : length a.r.session.filter.integrators ≡ 8 = search rules in
    let long64 : length a.r.session.filter.combs ≡ 64 = search rules in
    let lines : a.r.lines ≤ 18446744073709551615 = search rules in
    let outs : a.r.outputs ≤ 18446744073709551615 = search rules in
    let ready = all_ready a.r.going a.r.session.opened a.r.len (sym c.ready.ensures ∙ c.if-not-ready.false) in
    turn_block a.r.session.wide a.r.session.filter g.new.samples a.given.now g.result.count enough long8 long64
    d.new.self d.ensures.0 w c.in-Ok.ensures.1
    a.r refl refl a.input.now a.out.now a.from a.at ready.1 ready.0 ready.2 lines outs c.requires.2 g.result.next g.ensures
    c.after_block.result c.after_block.ensures.0 c.after_block.ensures.1 p.result p.new.out p.auto.out
    (wrote-same (ap (λ (l : List ℤ). output_lines a.r.session.wide w.told (take w.count l)) d.ensures.2) p.ensures.0)
    p.ensures.1
