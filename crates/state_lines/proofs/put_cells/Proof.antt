-- Cell by cell (Cells).
use Prim.Native.Nat.{◌-◌}
use lib.IntN.{pos}
use lib.ListN.{length, get_or}
use mir.Syntax.{w64}
use borrow.Author.Rules.{rules}
use Rattle.words.proofs.Reading.{read}
use Rattle.state_lines.proofs.Cells.{Putting, put-none, put_on, put_all}
use Rattle.state_lines.proofs.put_cells.Statement.{statement}
use Rattle.state_lines.proofs.put_cells.Tie as tie

abbrev invariant-loop : tie.invariant-loop-i
invariant-loop out₀ at cells check next₀ c₀ i₀ out next c i = Putting out₀ at cells check next c i out

abbrev decreases-loop : tie.decreases-loop-i
decreases-loop out₀ at cells check next₀ c₀ i₀ out next c i = length cells - i

loop-holds : tie.Need-loop-i-init invariant-loop decreases-loop
loop-holds c =
    let b : tie.Start invariant-loop decreases-loop = search in
    put-none b.args.out.now b.args.at b.args.cells.now b.args.check b.requires

loop-again : tie.Need-loop-i-preserved invariant-loop decreases-loop
loop-again c =
    let b : tie.Start invariant-loop decreases-loop = search in
    let l : tie.At-loop-i invariant-loop decreases-loop = search in
    let h : tie.In-loop-i invariant-loop decreases-loop = search in
    let g : tie.After-i64_as_u64-arg-1 invariant-loop decreases-loop = search in
    let w : tie.After-i64_as_u64-word invariant-loop decreases-loop = search in
    let p : tie.After-put_word-next invariant-loop decreases-loop = search in
    let k : tie.After-checked-c invariant-loop decreases-loop = search in
    let a = b.args in
    let t = l.loop-i in
    let x = get_or a.cells.now t.i (pos 0) in
    put_on a.out.now a.at a.cells.now a.check t.next t.c t.i t.out t.invariant _ _ _ _ _ h.loop-i-test.true
    (read w64 x g.i64_as_u64-arg-1.given) w.i64_as_u64-word.ensures p.put_word-next.ensures k.checked-c.ensures

same_length : tie.Need-shape_of-out invariant-loop decreases-loop
same_length c = c.before.loop-i.invariant.long

returns : tie.Need-returns invariant-loop decreases-loop
returns c =
    let b : tie.Start invariant-loop decreases-loop = search in
    let a = b.args in
    let t = c.before.loop-i in
    let q = put_all a.out.now a.at a.cells.now a.check t.next t.c t.i t.out t.invariant c.loop-i-test.false in
    record { wrote = q.0; checked = q.1 }

pub put_cells_spec : {M : Type 1} → statement M
put_cells_spec =
    tie.close (tie.spec invariant-loop decreases-loop loop-holds (λ c. search rules) (λ c. search rules) (λ c κs. search rules) (λ c κs. search rules)
    (λ c κs. search rules) (λ c. search rules) (λ c. search rules) loop-again same_length returns)
