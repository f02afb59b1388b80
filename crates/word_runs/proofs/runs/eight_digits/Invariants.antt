-- What is left to read: the digits so far gave v, below 2 ^ (4 i) (text HexDigits).
use Rattle.std.proofs.Common.{◌≡◌, ◌*◌, ◌^◌, ◌<◌, ◌≤◌, length, drop}
use Rattle.text.specs.Hex.{hex_from}
use Rattle.word_runs.proofs.runs.eight_digits.Given as goal

abbrev pub invariant-loop-byte : goal.invariant-loop-byte
invariant-loop-byte l =
    (l.byte-index ≤ length l.digits) × (length l.digits ≡ 8) × (l.v < 2 ^ (4 * l.byte-index))
    × (hex_from 0 l.digits ≡ hex_from l.v (drop l.byte-index l.digits))
