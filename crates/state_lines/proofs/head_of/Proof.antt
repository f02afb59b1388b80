-- Each number is the word of its reading (Cells).
use mathlib.Core.Path.{◌∙◌}
use native.Mathlib.Omega.{arith}
use Prim.Native.Nat.{◌<◌, ◌^◌}
use mir.Syntax.{w32, w64}
use mir.Val.{Fits}
use borrow.Author.Rules.{rules}
use Rattle.words.proofs.Reading.{read}
use Rattle.state_lines.proofs.Cells.{head_cells}
use Rattle.state_lines.proofs.head_of.Statement.{statement}
use Rattle.state_lines.proofs.head_of.Tie as tie

abbrev start-at : tie.After-u64_as_i64-3 → tie.Start
start-at c = search

rate-fits : (p : tie.Start) → p.args.r.filter.rate < 2 ^ 64
rate-fits p = let f : Fits w32 p.args.r.filter.rate = search rules in let g = f.fits in omega arith

countdown-fits : (p : tie.Start) → p.args.r.filter.countdown < 2 ^ 64
countdown-fits p = let f : Fits w32 p.args.r.filter.countdown = search rules in let g = f.fits in omega arith

inputs-fits : (p : tie.Start) → p.args.r.filter.inputs < 2 ^ 64
inputs-fits p = let f : Fits w64 p.args.r.filter.inputs = search rules in f.fits

returns : tie.Need-returns
returns c =
    let p : tie.Start = search in
    let a : tie.After-u64_as_i64 = search in
    let b : tie.After-u64_as_i64-2 = search in
    let d : tie.After-u64_as_i64-3 = search in
    let e : tie.After-u64_as_i64-4 = search in
    let g : tie.After-u64_as_i64-5 = search in
    let t : tie.After-struct_told-1 = search in
    let u : tie.After-struct_told-2-1 = search in
    head_cells p.args.r _ _ _ _ _ _ _
    (read w64 a.u64_as_i64.result a.u64_as_i64.type_inv ∙ a.u64_as_i64.ensures)
    (read w64 b.u64_as_i64-2.result b.u64_as_i64-2.type_inv ∙ b.u64_as_i64-2.ensures)
    (read w64 d.u64_as_i64-3.result d.u64_as_i64-3.type_inv ∙ d.u64_as_i64-3.ensures)
    (read w64 e.u64_as_i64-4.result e.u64_as_i64-4.type_inv ∙ e.u64_as_i64-4.ensures)
    (read w64 g.u64_as_i64-5.result g.u64_as_i64-5.type_inv ∙ g.u64_as_i64-5.ensures)
    (read w64 p.args.r.filter.hold t.struct_told-1.given.1.1.1.1.1.1.0.1)
    (read w64 p.args.r.turns.y u.struct_told-2-1.given.0.1) (omega arith) (omega arith) (rate-fits (start-at d)) (countdown-fits (start-at d))
    (inputs-fits (start-at d))

pub head_of_spec : {M : Type 1} → statement M
head_of_spec =
    tie.close (tie.spec (λ c κs. search rules) (λ c κs. search rules) (λ c. search rules) (λ c κs. search rules) (λ c. search rules)
    (λ c κs. search rules) (λ c κs. search rules) returns)
