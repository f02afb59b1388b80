-- Each number is read as it is (InPairs `eight_cells`).
use Rattle.std.proofs.Common.{◌≡◌, ◌∙◌, length, w32, SFits, rules}
use mir.ValLaws.{to_z-of_z}
use Rattle.sections.proofs.InPairs.{alike, at, eight_cells}
use Rattle.sections.proofs.runs.eight_of.Goals as goal

pub returns : goal.returns
returns c =
    let l = c.args.l in
    let h : length l ≡ 8 = search rules in
    let f0 : SFits w32 (at l 0) = search rules in
    let f1 : SFits w32 (at l 1) = search rules in
    let f2 : SFits w32 (at l 2) = search rules in
    let f3 : SFits w32 (at l 3) = search rules in
    let f4 : SFits w32 (at l 4) = search rules in
    let f5 : SFits w32 (at l 5) = search rules in
    let f6 : SFits w32 (at l 6) = search rules in
    let f7 : SFits w32 (at l 7) = search rules in
    alike (to_z-of_z w32 (at l 0) f0) (to_z-of_z w32 (at l 1) f1) (to_z-of_z w32 (at l 2) f2) (to_z-of_z w32 (at l 3) f3)
    (to_z-of_z w32 (at l 4) f4) (to_z-of_z w32 (at l 5) f5) (to_z-of_z w32 (at l 6) f6) (to_z-of_z w32 (at l 7) f7)
    ∙ eight_cells l h
