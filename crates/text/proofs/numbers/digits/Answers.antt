use Rattle.std.proofs.Common.{◌≡◌, ◌+◌, ◌-◌, ◌*◌, ℕ, min, sym, ap, ◌∙◌, arith, drop, rules, slice_index}
use Rattle.text.specs.Numbers.{cap, capped_size, digits_from}
use Rattle.text.proofs.Numerals.{cuts, no_digit, digit, over}
use Rattle.text.proofs.numbers.digits.Goals as goal

pub returns-then-not-is_ascii_digit : goal.returns-then-not-is_ascii_digit
returns-then-not-is_ascii_digit c =
    let l = c.loop-b in
    sym (l.invariant.2 ∙ ap capped_size (no_digit c.args.s.now l.b-index l.v c.loop-b-test.true
    (sym c.is_ascii_digit.ensures.value ∙ c.if-not-is_ascii_digit.true)))

pub loop-b-preserved : goal.loop-b-preserved
loop-b-preserved c =
    let l = c.loop-b in let s = c.args.s.now in
    let more = l.v * 10 + (slice_index s l.b-index - 48) in
    let e : c.grown-v.result ≡ min more cap = rw c.from.ensures at c.grown-v.ensures in (
      omega (arith, c.loop-b-test.true),
      omega (arith, e),
      l.invariant.2
          ∙ ap capped_size (digit s l.b-index l.v c.loop-b-test.true (sym c.is_ascii_digit.ensures.value ∙ c.if-not-is_ascii_digit.false))
          ∙ cuts (drop (l.b-index + 1) s) more
          ∙ ap (λ (k : ℕ). capped_size (digits_from k (drop (l.b-index + 1) s))) (sym e),
    )

pub returns : goal.returns
returns c =
    let l = c.loop-b in
    sym (l.invariant.2 ∙ ap capped_size (over c.args.s.now l.b-index l.v c.loop-b-test.false)
    ∙ search (rules, l.invariant.1))
