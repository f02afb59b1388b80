-- Field by field: the word, the name, then what the word wants.
use Rattle.std.proofs.Common.{◌≡◌, true, false, refl, sym, ◌∙◌}
use borrow.Author.Tests.{le-leb, lt-leb}
use Rattle.settings_text.specs.Fields.{is_name}
use Rattle.settings_text.specs.Lines.{record_in}
use Rattle.settings_text.proofs.Names.{name-short}
use Rattle.store_read.proofs.Ends.{read_whole, read_none}
use Rattle.store_read.proofs.line.record_in.Goals as goal

pub returns-then-line-gt-LONGEST : goal.returns-then-line-gt-LONGEST
unfolding record_in
returns-then-line-gt-LONGEST c = rw (lt-leb _ _ c.if-line-gt-LONGEST.true) refl

pub returns-in_err-behind : goal.returns-in_err-behind
unfolding record_in
returns-in_err-behind c =
    rw (c.from_residual.ensures, le-leb _ _ c.if-line-gt-LONGEST.false, c.cut.ensures, c.in_err-behind.was) refl

pub returns-then-not-is_name : goal.returns-then-not-is_name
unfolding record_in
returns-then-not-is_name c =
    let n : is_name c.cut-2.result.0.now ≡ false = sym c.is_name.ensures ∙ c.if-not-is_name.true in
    rw (le-leb _ _ c.if-line-gt-LONGEST.false, c.cut.ensures, c.in_ok-behind.was, c.cut-2.ensures, n) refl

pub returns-in_err-read : goal.returns-in_err-read
unfolding record_in
returns-in_err-read c =
    let n : is_name c.cut-2.result.0.now ≡ true = sym c.is_name.ensures ∙ c.if-not-is_name.false in
    rw (c.from_residual-in_err-read.ensures, le-leb _ _ c.if-line-gt-LONGEST.false, c.cut.ensures, c.in_ok-behind.was, c.cut-2.ensures, n)
    (read_none _ _ _ _ (c.in_err-read.ensures c.cut-2.result.0.now))

pub name_of-requires : goal.name_of-requires
name_of-requires c = name-short _ (sym c.is_name.ensures ∙ c.if-not-is_name.false)

pub returns : goal.returns
unfolding record_in
returns c =
    let n : is_name c.cut-2.result.0.now ≡ true = sym c.is_name.ensures ∙ c.if-not-is_name.false in
    rw (c.name_of.ensures, le-leb _ _ c.if-line-gt-LONGEST.false, c.cut.ensures, c.in_ok-behind.was, c.cut-2.ensures, n)
    (read_whole _ _ _ _ c.in_ok-read.read (c.in_ok-read.ensures c.cut-2.result.0.now))
