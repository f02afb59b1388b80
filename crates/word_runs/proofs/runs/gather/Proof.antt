-- The words so far and those of the rest are the whole (Gathering).
use mathlib.Core.Path.{◌≡◌, sym, ◌∙◌}
use native.Mathlib.Omega.{arith}
use Prim.Native.Nat.{◌-◌, ◌+◌}
use lib.ListN.{length}
use mir.Syntax.{w32}
use mir.ValLaws.{to_z-of_z}
use borrow.Author.Rules.{rules}
use Rattle.word_runs.proofs.Gathering.{Gathering, started, gathered, gathered_on, none-short, none_other, none_full}
use Rattle.word_runs.proofs.runs.gather.Statement.{statement}
use Rattle.word_runs.proofs.runs.gather.Tie as tie

abbrev invariant-loop : tie.invariant-loop-k
invariant-loop input number words₀ head₀ n₀ at₀ k₀ words head n at k = Gathering input number words₀ words head n at k

abbrev decreases-loop : tie.decreases-loop-k
decreases-loop input number words₀ head₀ n₀ at₀ k₀ words head n at k = length words₀ - k

loop-holds : tie.Need-loop-k-init invariant-loop decreases-loop
loop-holds c =
    let b : tie.Start invariant-loop decreases-loop = search in
    started b.args.input.now b.args.number b.args.words.now _ c.letters-head.ensures

sub-if1 : tie.Need-overflow_sub-input invariant-loop decreases-loop
sub-if1 c = let l : tie.At-loop-k invariant-loop decreases-loop = search in search (rules, l.loop-k.invariant.inside)

same_length : tie.Need-shape_of-words-then-input-at-lt18 invariant-loop decreases-loop
same_length c = let l : tie.At-loop-k invariant-loop decreases-loop = search in l.loop-k.invariant.long

returns : tie.Need-returns-then-input-at-lt18 invariant-loop decreases-loop
returns c =
    let l : tie.At-loop-k invariant-loop decreases-loop = search in
    let b : tie.Start invariant-loop decreases-loop = search in
    let p = l.loop-k in
    gathered _ _ _ _ _ _ _ _ p.invariant (none-short _ p.n p.at b.args.input.now p.invariant.inside c.if-input-at-lt18.true)

add-end : tie.Need-overflow_add-end invariant-loop decreases-loop
add-end c = let l : tie.At-loop-k invariant-loop decreases-loop = search in search (rules, l.loop-k.invariant.inside)

part-word-in-end : tie.Need-slice_bounds-word_in-end invariant-loop decreases-loop
part-word-in-end c = let l : tie.At-loop-k invariant-loop decreases-loop = search in search (rules, l.loop-k.invariant.inside)

word-in-requires : tie.Need-word_in-found-requires invariant-loop decreases-loop
word-in-requires c κs = let l : tie.At-loop-k invariant-loop decreases-loop = search in l.loop-k.invariant.letters

same-length-2 : tie.Need-shape_of-words-in_default invariant-loop decreases-loop
same-length-2 c = let l : tie.At-loop-k invariant-loop decreases-loop = search in l.loop-k.invariant.long

returns-2 : tie.Need-returns-in_default invariant-loop decreases-loop
returns-2 c =
    let l : tie.At-loop-k invariant-loop decreases-loop = search in
    let w : tie.After-word_in-found invariant-loop decreases-loop = search in
    let p = l.loop-k in
    let e : p.at + 18 - p.at ≡ 18 = omega arith in
    gathered _ _ _ _ _ _ _ _ p.invariant (none_other _ p.n _ (sym (rw e at w.word_in-found.ensures) ∙ c.in_default.is))

mul-x : tie.Need-offset_bounds-words-k invariant-loop decreases-loop
mul-x c = let l : tie.At-loop-k invariant-loop decreases-loop = search in search (rules, l.loop-k.invariant.long, l.loop-k.invariant.room)

slice-set-from-x : tie.Need-bounds-words-k invariant-loop decreases-loop
slice-set-from-x c =
    let l : tie.At-loop-k invariant-loop decreases-loop = search in
    let h : tie.In-loop-k invariant-loop decreases-loop = search in
    omega (arith, l.loop-k.invariant.long, h.loop-k-test.true)

next-head-requires : tie.Need-next_head-head-requires invariant-loop decreases-loop
next-head-requires c κs = let l : tie.At-loop-k invariant-loop decreases-loop = search in l.loop-k.invariant.letters

loop-less : tie.Need-loop-k-smaller invariant-loop decreases-loop
loop-less c =
    let l : tie.At-loop-k invariant-loop decreases-loop = search in
    let h : tie.In-loop-k invariant-loop decreases-loop = search in
    omega (arith, l.loop-k.invariant.long, h.loop-k-test.true)

loop-again : tie.Need-loop-k-preserved invariant-loop decreases-loop
loop-again c =
    let l : tie.At-loop-k invariant-loop decreases-loop = search in
    let h : tie.In-loop-k invariant-loop decreases-loop = search in
    let w : tie.After-word_in-found invariant-loop decreases-loop = search in
    let f : tie.In-Word invariant-loop decreases-loop = search in
    let i : tie.Else-input-at-lt18 invariant-loop decreases-loop = search in
    let d : tie.After-next_head-head invariant-loop decreases-loop = search in
    let b : tie.Start invariant-loop decreases-loop = search in
    let p = l.loop-k in
    let x = f.in-Word.x in
    let e : p.at + 18 - p.at ≡ 18 = omega arith in
    let y = to_z-of_z w32 x (record { sfits = omega arith }) in
    rw (y, c.add_u32-n.ensures)
    (gathered_on b.args.input.now b.args.number b.args.words.now p.words p.head p.n p.at p.k p.invariant x _
    (omega (arith, p.invariant.long, h.loop-k-test.true)) i.if-input-at-lt18.false (sym (rw e at w.word_in-found.ensures) ∙ f.in-Word.is) d.next_head-head.ensures)

same-length-3 : tie.Need-shape_of-words invariant-loop decreases-loop
same-length-3 c = c.before.loop-k.invariant.long

returns-3 : tie.Need-returns invariant-loop decreases-loop
returns-3 c =
    let p = c.before.loop-k in
    gathered _ _ _ _ _ _ _ _ p.invariant (none_full _ p.n _ (omega (arith, p.invariant.long, c.loop-k-test.false)))

pub gather_spec : {M : Type 1} → statement M
gather_spec =
    tie.close (tie.spec invariant-loop decreases-loop (λ c. search rules) (λ c κs. search rules) loop-holds sub-if1 same_length returns add-end (λ c. search rules)
    (λ c. search rules) part-word-in-end word-in-requires (λ c. search rules) (λ c. search rules) same-length-2 returns-2 mul-x slice-set-from-x
    next-head-requires (λ c κs. search rules) (λ c. search rules) loop-less loop-again same-length-3 returns-3)
