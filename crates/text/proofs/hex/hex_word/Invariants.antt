-- The digits so far gave v, below 2 ^ (4 i), so that the word is that of v and the rest.
use Rattle.std.proofs.Common.{◌≡◌, ◌*◌, ◌^◌, ◌<◌, ◌≤◌, length, drop}
use Rattle.text.specs.Hex.{hex_from}
use Rattle.text.proofs.hex.hex_word.Given as goal

abbrev pub invariant-loop-byte : goal.invariant-loop-byte
invariant-loop-byte l =
    (l.byte-index ≤ length l.field) × (length l.field ≡ 16) × (l.v < 2 ^ (4 * l.byte-index))
    × (hex_from 0 l.field ≡ hex_from l.v (drop l.byte-index l.field))
