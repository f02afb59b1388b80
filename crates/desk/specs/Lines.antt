-- A line of 18 bytes: a letter, 16 hex digits and the newline. The digits are two numbers of 32 bits: the number of a word, or of the words so
-- far, and an argument.
use Rattle.std.specs.Prelude.{cond, List, ℕ, ◌/◌, ◌%◌, eqb, length, get_or, take, drop}
use Rattle.blocks.specs.declared.refusal.Refusal.{Refusal}
use Rattle.text.specs.Letters.{byte, newline}
use Rattle.text.specs.Hex.{pattern_of}
use Rattle.std.specs.Prelude as std
use Rattle.std.specs.Prelude.{Some, None}
use Rattle.desk.specs.declared.lines.Kind.{Kind}
use Rattle.desk.specs.declared.lines.Kind.TheVariants.{Word, Open, Rate, Pull, Push, Save, Unknown}
use Rattle.desk.specs.declared.lines.Record.{Record}
use Rattle.desk.specs.declared.lines.Record.TheVariants.{Is, Bad}

unfoldable pub kind_of : ℕ → Kind
kind_of b =
    cond (eqb b (byte "w")) Word
    (cond (eqb b (byte "o")) Open
    (cond (eqb b (byte "r")) Rate
    (cond (eqb b (byte "p")) Pull
    (cond (eqb b (byte "q")) Push
    (cond (eqb b (byte "s")) Save Unknown)))))

-- 75: a digit is none
abbrev pub bits_record : Kind → std.Option ℕ → Record
bits_record kind (Some v) = Is kind (v / 4294967296) (v % 4294967296)
bits_record kind None = Bad Refusal.Malformed

-- 72: the line isn't ended by its newline after 17 bytes
unfoldable pub record_of : List ℕ → Record
record_of line =
    cond (eqb (length line) 18)
    (cond (eqb (get_or line 17 0) newline) (bits_record (kind_of (get_or line 0 0)) (pattern_of (take 16 (drop 1 line)))) (Bad Refusal.LongLine))
    (Bad Refusal.LongLine)
