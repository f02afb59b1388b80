-- The number by its tests, and the made header put at the front.
use Rattle.std.proofs.Common.{ℕ, List, ◌++◌, length, drop, refl, ap, sym, ◌∙◌}
use lib.Seq.{length-take-le}
use borrow.Author.Tests.{le-leb}
use Rattle.std.proofs.lemmas.Result.{err_from_is_err_and}
use Rattle.blocks.specs.Refusals.{answer, refusal_at}
use Rattle.wav.specs.Header.{head_number}
use Rattle.wav.proofs.Headers.{made_ok, made_err, header_length}
use Rattle.wav.proofs.header.write_header.Goals as goal

pub returns-in_err-made : goal.returns-in_err-made
unfolding head_number answer refusal_at
returns-in_err-made c =
    let p = err_from_is_err_and c.from_residual.result c.from_residual.ensures.1 in
    let g = made_err c.args.rate c.args.size _ c.in_err-made.ensures in
    rw (p.1, p.2, g.1, le-leb _ _ c.if-out-lt44.false, g.0) (refl, refl)

pub copy_from_slice-requires : goal.copy_from_slice-requires
copy_from_slice-requires c =
    let g = made_ok c.args.rate c.args.size c.in_ok-made.made c.in_ok-made.ensures in
    length-take-le 44 c.args.out.now c.if-out-lt44.false ∙ sym (ap length g.1 ∙ header_length c.args.rate c.args.size)

pub returns : goal.returns
unfolding head_number answer refusal_at
returns c =
    let g = made_ok c.args.rate c.args.size c.in_ok-made.made c.in_ok-made.ensures in
    let e = ap (λ (l : List ℕ). l ++ drop 44 c.args.out.now) (c.copy_from_slice.ensures.after ∙ g.1) in
    rw (le-leb _ _ c.if-out-lt44.false, g.0) (refl, e)
