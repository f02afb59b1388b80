use Rattle.std.proofs.Common.{rules, ◌+◌, ◌*◌, ℕ, sym, ap, ◌∙◌, arith, drop, slice_index}
use Rattle.text.specs.Hex.{hex_from}
use Rattle.text.proofs.HexDigits.{digit_none, digit_some, no_digit, hex_on, hex_over, grown}
use Rattle.words.proofs.Std.{casts}
use Rattle.word_runs.specs.Inner.{eight_of}
use Rattle.word_runs.proofs.Reading.{eight-bits}
use Rattle.word_runs.proofs.runs.eight_digits.Goals as goal

pub returns-in_default : goal.returns-in_default
returns-in_default c =
    let l = c.loop-byte in let s = c.args.digits.now in
    let h = digit_none (slice_index s l.byte-index) (sym c.digit_of.ensures ∙ c.in_default.is) in
    sym (ap eight_of (l.invariant.3 ∙ no_digit s l.byte-index l.v c.loop-byte-test.true h))

pub loop-byte-preserved : goal.loop-byte-preserved
loop-byte-preserved c =
    let l = c.loop-byte in let s = c.args.digits.now in
    let d = c.in-Some.d in
    let f = digit_some (slice_index s l.byte-index) d (sym c.digit_of.ensures ∙ c.in-Some.is) in (
      omega (arith, c.loop-byte-test.true),
      l.invariant.1,
      grown l.v d l.byte-index l.invariant.2 (omega (arith, f.0, f.1)),
      l.invariant.3 ∙ hex_on s l.byte-index l.v c.loop-byte-test.true f.0
          ∙ ap (λ (x : ℕ). hex_from (l.v * 16 + x) (drop (l.byte-index + 1) s)) (sym f.1),
    )

pub returns : goal.returns
returns c =
    let l = c.loop-byte in let s = c.args.digits.now in
    let k = eight-bits l.v l.byte-index (omega (arith, c.loop-byte-test.false, l.invariant.0, l.invariant.1)) l.invariant.2 in
    let e = ap eight_of (l.invariant.3 ∙ hex_over s l.byte-index l.v c.loop-byte-test.false) in
    search (rules, casts, k, e)
