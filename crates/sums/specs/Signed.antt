-- 01: all sums are modulo 2 ^ w, read as signed. Beside them the whole numbers, whose sums are exact.
use Rattle.std.specs.Prelude.{ℤ, pos, ◌+ℤ◌, ◌-ℤ◌}
use Rattle.std.specs.Int.{Width}
use Rattle.words.specs.Words.{wrap}
use Rattle.sums.specs.Ops.{Ops}

abbrev pub signed_ops : Width → Ops ℤ
signed_ops w = record { add = λ a b. wrap w (a +ℤ b); sub = λ a b. wrap w (a -ℤ b); nil = pos 0 }

abbrev pub exact_ops : Ops ℤ
exact_ops = record { add = ◌+ℤ◌; sub = ◌-ℤ◌; nil = pos 0 }
