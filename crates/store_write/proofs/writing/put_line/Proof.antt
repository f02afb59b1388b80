-- The kind's word, the name, the body and a newline are the line (whole-line).
use borrow.Author.Rules.{rules}
use native.Mathlib.Omega.{arith}
use mathlib.Core.Path.{◌≡◌, sym, ◌∙◌}
use mathlib.Core.List.{map}
use mir.Syntax.{w32}
use Prim.Native.Nat.{◌+◌, ◌≤◌}
use lib.ListN.{length}
use lib.Seq.{length-take-le}
use Rattle.words.specs.Words.{wrap}
use Rattle.entries.specs.Entries.{name_bytes}
use Rattle.entries.proofs.Arrays.{whole-name, wrapped_length}
use Rattle.store_write.proofs.Putting.{whole-line}
use Rattle.store_write.proofs.writing.put_line.Statement.{statement}
use Rattle.store_write.proofs.writing.put_line.Tie as tie

array-share-prefix-bytes : tie.Need-slice_bounds-bytes-end
array-share-prefix-bytes c =
    let begin : tie.Start = search in
    let l : length begin.args.entry.name.bytes ≡ 16 = search rules in
    let s = begin.requires.2 in
    omega arith

slice-aggregate-put-text : tie.Need-slice_bounds-put_text-end
slice-aggregate-put-text c =
    let begin : tie.Start = search in
    let l : length begin.args.entry.name.bytes ≡ 16 = search rules in
    let s = begin.requires.2 in
    let h : begin.args.entry.name.len ≤ length begin.args.entry.name.bytes = omega arith in
    sym (length-take-le _ _ h)

put-text-requires : tie.Need-put_text-y-requires
put-text-requires c κs =
    let begin : tie.Start = search in
    let l : length begin.args.entry.name.bytes ≡ 16 = search rules in
    let at-put-kind : tie.After-put_kind-x = search in
    let s = begin.requires.2 in
    let p = begin.requires.0 in
    let h : begin.args.entry.name.len ≤ length begin.args.entry.name.bytes = omega arith in
    let n = length-take-le begin.args.entry.name.len begin.args.entry.name.bytes h in
    let a1 = at-put-kind.put_kind-x.ensures.high in
    let a2 = at-put-kind.put_kind-x.ensures.long in
    omega arith

put-body-requires : tie.Need-put_body-z-requires
put-body-requires c κs =
    let begin : tie.Start = search in
    let l : length begin.args.entry.name.bytes ≡ 16 = search rules in
    let k : length begin.args.entry.a ≡ 8 = search rules in
    let at-put-text : tie.After-put_text-y = search in
    let at-put-kind : tie.After-put_kind-x = search in
    let s = begin.requires.2 in
    let p = begin.requires.0 in
    let h : begin.args.entry.name.len ≤ length begin.args.entry.name.bytes = omega arith in
    let n = length-take-le begin.args.entry.name.len begin.args.entry.name.bytes h in
    let a1 = at-put-kind.put_kind-x.ensures.high in
    let a2 = at-put-kind.put_kind-x.ensures.long in
    let b1 = at-put-text.put_text-y.ensures.high in
    let b2 = at-put-text.put_text-y.ensures.long in
    (omega arith, begin.requires.1)

returns : tie.Need-returns
returns c =
    let begin : tie.Start = search in
    let l : length begin.args.entry.name.bytes ≡ 16 = search rules in
    let k : length begin.args.entry.a ≡ 8 = search rules in
    let at-put-byte : tie.After-put_byte = search in
    let at-put-body : tie.After-put_body-z = search in
    let at-put-text : tie.After-put_text-y = search in
    let at-put-kind : tie.After-put_kind-x = search in
    let s = begin.requires.2 in
    let h : begin.args.entry.name.len ≤ length begin.args.entry.name.bytes = omega arith in
    let n = length-take-le begin.args.entry.name.len begin.args.entry.name.bytes h in
    rw (whole-name begin.args.entry.name s)
    (whole-line begin.args.out.now begin.args.at (name_bytes begin.args.entry.name) begin.args.entry.kind
    (map (wrap w32) begin.args.entry.a) (length (name_bytes begin.args.entry.name) + 1) _ _ _ _ _ _ _ _ begin.requires.0
    begin.requires.1 (wrapped_length begin.args.entry.a ∙ k) (omega arith) at-put-kind.put_kind-x.ensures
    at-put-text.put_text-y.ensures at-put-body.put_body-z.ensures at-put-byte.put_byte.ensures)

pub put_line_spec : {M : Type 1} → statement M
put_line_spec =
    tie.close (tie.spec (λ c κs. search rules) array-share-prefix-bytes slice-aggregate-put-text put-text-requires
    put-body-requires (λ c κs. search rules) (λ c. search rules) returns)
