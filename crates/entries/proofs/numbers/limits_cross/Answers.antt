-- The seventh and the eighth of eight words.
use Rattle.std.proofs.Common.{◌≡◌, ◌<◌, ◌^◌, map, length, arith, rules, sym, ◌∙◌}
use lib.Signed.{mag}
use lib.ListN.{get_or}
use lib.IntN.{pos}
use mir.Syntax.{w32}
use mir.Val.{hbits}
use Rattle.words.specs.Words.{wrap}
use Rattle.entries.proofs.Numbering.{crossed-last}
use Rattle.entries.proofs.Arrays.{read_wrapped, wrapped_length}
use Rattle.entries.proofs.numbers.limits_cross.Goals as goal

pub returns : goal.returns
returns c =
    let a = c.args.a.now in
    let l : length a ≡ 8 = search rules in
    let u : mag (get_or a 7 (pos 0)) < 2 ^ hbits w32 = search rules in
    let v : mag (get_or a 6 (pos 0)) < 2 ^ hbits w32 = search rules in
    rw (read_wrapped a 7 (omega arith) u, read_wrapped a 6 (omega arith) v)
    (sym (crossed-last 6 (map (wrap w32) a) (wrapped_length a ∙ l)))
