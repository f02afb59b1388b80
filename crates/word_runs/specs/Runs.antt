-- Words in turn at the front of an input: records of 18 bytes that are words, each with the number that is next.
use Rattle.std.specs.Prelude.{cond, List, [], ◌∷◌, ℕ, zero, suc, eqb, ℤ, pos, ◌+ℤ◌, take, drop}
use Rattle.std.proofs.Math.Option.{Option, none, some}
use Rattle.std.specs.Int.{w32}
use Rattle.words.specs.Words.{word, wrap}
use Rattle.desk.specs.Lines.{record_of}
use Rattle.desk.specs.declared.lines.Kind.TheVariants.{Word, Open, Rate, Pull, Push, Save, Unknown}
use Rattle.desk.specs.declared.lines.Record.{Record}
use Rattle.desk.specs.declared.lines.Record.TheVariants.{Is, Bad}

-- the word of a record that is the word with the number n
abbrev pub word_in : ℕ → Record → Option ℤ
word_in n (Is Word number argument) = cond (eqb number n) (some (wrap w32 (pos argument))) none
word_in n (Is Open number argument) = none
word_in n (Is Rate number argument) = none
word_in n (Is Pull number argument) = none
word_in n (Is Push number argument) = none
word_in n (Is Save number argument) = none
word_in n (Is Unknown number argument) = none
word_in n (Bad k) = none

-- numbers go on modulo 2 ^ 32
abbrev pub next_number : ℕ → ℕ
next_number n = word w32 (pos n +ℤ pos 1)

-- The words in turn, the first with the number n, at most so many; the first record that isn't the next word ends them.
abbrev pub and_on : Option ℤ → List ℤ → List ℤ
and_on none rest = []
and_on (some x) rest = x ∷ rest

unfoldable pub run_of : ℕ → ℕ → List ℕ → List ℤ
run_of zero n input = []
run_of (suc most) n input = and_on (word_in n (record_of (take 18 input))) (run_of most (next_number n) (drop 18 input))
