use Rattle.std.proofs.Common.{◌≡◌, ◌≤◌, ◌-◌, length, List, ℕ, sym, ◌∙◌, arith, drop, length-drop}
use lib.ListN.{take}
use lib.Seq.{take_all}
use Rattle.text.specs.Numbers.{leading_of}
use Rattle.text.proofs.Numerals.{number_minus, some_minus, none_minus}
use Rattle.text.proofs.numbers.parsed.Goals as goal

-- the field behind its first byte
behind : (s : List ℕ) → take (length s - 1) (drop 1 s) ≡ drop 1 s
behind s = let n : length (drop 1 s) ≤ length s - 1 = simp length-drop (omega arith) in take_all (length s - 1) (drop 1 s) n

pub returns-in_err-size : goal.returns-in_err-size
returns-in_err-size c =
    let s = c.args.field.now in
    c.from_residual.ensures
    ∙ sym (rw (number_minus s (omega (arith, c.if-field-eq0.false)) c.if-field-eq45.true)
    (none_minus (leading_of (drop 1 s)) (rw (behind s) at (sym c.leading.ensures ∙ c.in_err-size.was))))

pub returns-then-field-eq45 : goal.returns-then-field-eq45
returns-then-field-eq45 c =
    let s = c.args.field.now in
    sym (rw (number_minus s (omega (arith, c.if-field-eq0.false)) c.if-field-eq45.true)
    (some_minus (leading_of (drop 1 s)) c.in_ok-size.size (rw (behind s) at (sym c.leading.ensures ∙ c.in_ok-size.was))))
