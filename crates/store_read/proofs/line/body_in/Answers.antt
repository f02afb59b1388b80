-- By the word: each kind reads its own fields, and form 1 has no `dither`.
use Rattle.std.proofs.Common.{◌≡◌, true, false, refl, sym, ◌∙◌}
use Rattle.text.specs.Letters.{bytes}
use Rattle.text.specs.Same.{same}
use Rattle.settings_text.specs.Lines.{kind_in, dither_in}
use Rattle.store_read.proofs.line.body_in.Goals as goal

pub returns-then-same_bytes : goal.returns-then-same_bytes
unfolding kind_in
returns-then-same_bytes c = λ name.
    let a : same c.args.word.now (bytes "cic") ≡ true = sym c.same_bytes.ensures ∙ c.if-same_bytes.true in
    rw a (c.cic.ensures name)

pub returns-then-same_bytes-2 : goal.returns-then-same_bytes-2
unfolding kind_in
returns-then-same_bytes-2 c = λ name.
    let a : same c.args.word.now (bytes "cic") ≡ false = sym c.same_bytes.ensures ∙ c.if-same_bytes.false in
    let b : same c.args.word.now (bytes "wdf") ≡ true = sym c.same_bytes-2.ensures ∙ c.if-same_bytes-2.true in
    rw (a, b) (c.wdf.ensures name)

pub returns-then-not-same_bytes : goal.returns-then-not-same_bytes
unfolding kind_in
returns-then-not-same_bytes c = λ name.
    let a : same c.args.word.now (bytes "cic") ≡ false = sym c.same_bytes.ensures ∙ c.if-same_bytes.false in
    let b : same c.args.word.now (bytes "wdf") ≡ false = sym c.same_bytes-2.ensures ∙ c.if-same_bytes-2.false in
    let d : same c.args.word.now (bytes "dither") ≡ false = sym c.same_bytes-3.ensures ∙ c.if-not-same_bytes.true in
    rw (a, b, d) refl

pub returns-in-One : goal.returns-in-One
unfolding kind_in dither_in
returns-in-One c = λ name.
    let a : same c.args.word.now (bytes "cic") ≡ false = sym c.same_bytes.ensures ∙ c.if-same_bytes.false in
    let b : same c.args.word.now (bytes "wdf") ≡ false = sym c.same_bytes-2.ensures ∙ c.if-same_bytes-2.false in
    let d : same c.args.word.now (bytes "dither") ≡ true = sym c.same_bytes-3.ensures ∙ c.if-not-same_bytes.false in
    rw (a, b, d, c.in-One.is) refl

pub returns-in-Two : goal.returns-in-Two
unfolding kind_in
returns-in-Two c = λ name.
    let a : same c.args.word.now (bytes "cic") ≡ false = sym c.same_bytes.ensures ∙ c.if-same_bytes.false in
    let b : same c.args.word.now (bytes "wdf") ≡ false = sym c.same_bytes-2.ensures ∙ c.if-same_bytes-2.false in
    let d : same c.args.word.now (bytes "dither") ≡ true = sym c.same_bytes-3.ensures ∙ c.if-not-same_bytes.false in
    rw (a, b, d, c.in-Two.is) (c.dither.ensures name)
