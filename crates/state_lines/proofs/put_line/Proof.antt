-- The bytes one behind the other (Cells).
use borrow.Author.Rules.{rules}
use Rattle.state_lines.proofs.Cells.{line-put, room_1, room_2, room_3}
use Rattle.state_lines.proofs.put_line.Statement.{statement}
use Rattle.state_lines.proofs.put_line.Tie as tie

put-cells-requires : tie.Need-put_cells-a-requires
put-cells-requires c κs =
    let p : tie.Start = search in
    let b : tie.After-put_byte-first = search in
    room_1 _ _ p.args.at _ _ _ p.requires b.put_byte-first.ensures

put-cells-requires-2 : tie.Need-put_cells-b-requires
put-cells-requires-2 c κs =
    let p : tie.Start = search in
    let b : tie.After-put_byte-first = search in
    let h : tie.After-put_cells-a = search in
    room_2 _ _ _ p.args.at _ _ _ _ _ p.requires b.put_byte-first.ensures h.put_cells-a.ensures

put-cells-requires-3 : tie.Need-put_cells-c-requires
put-cells-requires-3 c κs =
    let p : tie.Start = search in
    let b : tie.After-put_byte-first = search in
    let h : tie.After-put_cells-a = search in
    let i : tie.After-put_cells-b = search in
    room_3 _ _ _ _ p.args.at _ _ _ _ _ _ p.requires b.put_byte-first.ensures h.put_cells-a.ensures i.put_cells-b.ensures

-- the places before the last cells
abbrev byte_at : tie.After-put_cells-b → tie.After-put_byte-first
byte_at c = search

abbrev cells_at : tie.After-put_cells-b → tie.After-put_cells-a
cells_at c = search

abbrev start-at : tie.After-put_cells-b → tie.Start
start-at c = search

returns : tie.Need-returns
returns c =
    let k : tie.After-put_cells-c = search in
    let i : tie.After-put_cells-b = search in
    let w : tie.After-put_word-end = search in
    let e : tie.After-put_byte = search in
    line-put _ _ _ _ _ _ _ (start-at i).args.at _ _ _ _ _ _ _ _ _ (start-at i).requires (byte_at i).put_byte-first.ensures (cells_at i).put_cells-a.ensures
    i.put_cells-b.ensures k.put_cells-c.ensures w.put_word-end.ensures e.put_byte.ensures

pub put_line_spec : {M : Type 1} → statement M
put_line_spec =
    tie.close (tie.spec (λ c κs. search rules) put-cells-requires put-cells-requires-2 put-cells-requires-3 (λ c κs. search rules)
    (λ c κs. search rules) (λ c. search rules) returns)
