-- Where there is room, the line's bytes are put (Cells).
use mathlib.Core.Path.{◌≡◌, ap, ◌∙◌}
use native.Mathlib.Omega.{arith}
use lib.ListN.{length}
use borrow.Author.Rules.{rules}
use Rattle.text.proofs.Putting.{puts, puts_none, puts_same}
use Rattle.state_lines.specs.States.{state_line}
use Rattle.state_lines.proofs.Cells.{head_long, line_is, state-long}
use Rattle.state_lines.proofs.put_state.Statement.{statement}
use Rattle.state_lines.proofs.put_state.Tie as tie

module _ (p : tie.Start) where
  long8 : length p.args.r.filter.integrators ≡ 8
  long8 = search rules

  long64 : length p.args.r.filter.combs ≡ 64
  long64 = search rules

  all-long : length (state_line p.args.r) ≡ 1282
  all-long = state-long p.args.r long8 long64

returns : tie.Need-returns-then-n-lt1282
returns c = let p : tie.Start = search in puts_none p.args.out.now p.args.at _ (omega (arith, all-long p))

returns-2 : tie.Need-returns-then-n-at
returns-2 c = let p : tie.Start = search in puts_none p.args.out.now p.args.at _ (omega (arith, all-long p))

put-line-requires : tie.Need-put_line-requires
put-line-requires c κs =
    let p : tie.Start = search in
    let h : tie.After-head_of-head = search in
    let n = head_long p.args.r h.head_of-head.result h.head_of-head.ensures in
    omega (arith, long8 p, long64 p)

returns-3 : tie.Need-returns
returns-3 c =
    let p : tie.Start = search in
    let h : tie.After-head_of-head = search in
    let l : tie.After-put_line = search in
    let g = line_is p.args.r h.head_of-head.result h.head_of-head.ensures in
    let n = ap length g ∙ all-long p in
    puts_same g (puts p.args.out.now p.args.at _ _ _ (omega arith) l.put_line.ensures)

pub put_state_spec : {M : Type 1} → statement M
put_state_spec =
    tie.close (tie.spec returns returns-2 (λ c κs. search rules) (λ c. search rules) (λ c. search rules) (λ c. search rules) put-line-requires
    (λ c. search rules) returns-3)
