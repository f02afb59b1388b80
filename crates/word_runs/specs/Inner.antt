-- What private functions promise one another: no caller cites it.
use Rattle.std.proofs.Math.Option.{Option, none, some}
use Rattle.std.specs.Prelude.{ℕ, ℤ, pos}
use Rattle.std.specs.Int.{w32}
use Rattle.words.specs.Words.{wrap}
use Rattle.std.specs.Prelude as std
use Rattle.std.specs.Prelude.{Some, None}
use Rattle.word_runs.specs.declared.runs.Found.{Found}
use Rattle.word_runs.specs.declared.runs.Found.TheVariants.{Word, Other}

abbrev pub found_of : Option ℤ → Found
found_of none = Other
found_of (some x) = Word x

-- eight digits alone
abbrev pub eight_of : std.Option ℕ → Found
eight_of (Some v) = Word (wrap w32 (pos v))
eight_of None = Other
