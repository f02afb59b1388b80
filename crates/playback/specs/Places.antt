-- The replay byte by byte, as a part of the input leaves it: what the driver promises. specs/Replays is what it comes to.
use Rattle.std.specs.Prelude.{◌≡◌, Bool, true, false, cond, List, [], ◌∷◌, ◌++◌, ℕ, ◌+◌, ◌-◌, ◌*◌, min, ltb, eqb, length, take, drop, replicate, Result}
use Rattle.blocks.specs.declared.refusal.Refusal.{Refusal}
use Rattle.blocks.specs.Refusals.{answer}
use Rattle.blocks.specs.Blocks.{unless}
use Rattle.text.specs.Letters.{newline}
use Rattle.records.specs.Sessions.{kept_words, refuse, line_of}
use Rattle.playback.specs.Replays.{output_line, end_line, bad_line, unopened}
use Rattle.records.specs.declared.session.Session.{Session}
use Rattle.records.specs.declared.session.Reply.{Reply}
use Rattle.records.specs.declared.session.Taken.{Taken}
use Rattle.playback.specs.declared.driver.Replay.{Replay}

-- Where a replay stands: its filter, the lines and outputs so far, the next line so far, and whether it goes on.
pub record Place : Type 0 where
  pub session : Session
  pub lines : ℕ
  pub outputs : ℕ
  pub line : List ℕ
  pub going : Bool

-- A count is held in 64 bits and stays at its greatest: an input that could bring it there has 2 ^ 64 bytes.
abbrev pub counted_up : ℕ → ℕ → ℕ
counted_up n by = min (n + by) 18446744073709551615

-- what an answer writes, how many outputs it gives, and whether the replay goes on
abbrev pub reply_bytes : ℕ → Reply → List ℕ
reply_bytes line Reply.Silent = []
reply_bytes line (Reply.Output y) = output_line y.value y.told
reply_bytes line (Reply.Bad f) = bad_line line f.number f.place

abbrev pub given_by : Reply → ℕ
given_by Reply.Silent = 0
given_by (Reply.Output y) = 1
given_by (Reply.Bad f) = 0

abbrev pub goes_on : Reply → Bool
goes_on Reply.Silent = true
goes_on (Reply.Output y) = true
goes_on (Reply.Bad f) = false

-- A newline ends the line. Any other byte makes it longer, but where it has 64 bytes already: a line over 64 bytes is refused at its 65th.
abbrev pub line_ends : List ℕ → ℕ → Bool
line_ends line b = cond (eqb b newline) true (cond (ltb (length line) 64) false true)

abbrev pub end_taken : Session → List ℕ → ℕ → Taken
end_taken s line b = cond (eqb b newline) (line_of kept_words s line) (refuse s 72)

abbrev pub ended : Place → Taken → Place
ended p t = record {
  session = t.session;
  lines = counted_up p.lines 1;
  outputs = counted_up p.outputs (given_by t.reply);
  line = [];
  going = goes_on t.reply;
}

abbrev pub longer : Place → ℕ → Place
longer p b = record { session = p.session; lines = p.lines; outputs = p.outputs; line = p.line ++ (b ∷ []); going = p.going }

-- a byte: where it leaves the replay, and what it gives out. A replay that has stopped takes no further byte.
unfoldable pub step_place : Place → ℕ → Place
step_place p b = cond p.going (cond (line_ends p.line b) (ended p (end_taken p.session p.line b)) (longer p b)) p

unfoldable pub step_bytes : Place → ℕ → List ℕ
step_bytes p b = cond p.going (cond (line_ends p.line b)
    (reply_bytes (counted_up p.lines 1) (end_taken p.session p.line b).reply) []) []

-- a part of the input
unfoldable pub fed_of : Place → List ℕ → Place
fed_of p [] = p
fed_of p (b ∷ bs) = fed_of (step_place p b) bs

unfoldable pub bytes_of : Place → List ℕ → List ℕ
bytes_of p [] = []
bytes_of p (b ∷ bs) = step_bytes p b ++ bytes_of (step_place p b) bs

-- the end of the input
unfoldable pub finish_bytes : Place → List ℕ
finish_bytes p = cond p.going (cond (eqb (length p.line) 0) (end_line p.outputs) (bad_line (counted_up p.lines 1) 77 0)) []

-- before the first byte
abbrev pub start : Place
start = record { session = unopened; lines = 0; outputs = 0; line = []; going = true }

-- A `Replay` read as a place, and back: of its 64 bytes the first `len` are the line, the others 0.
abbrev pub place_of : Replay → Place
place_of r = record { session = r.session; lines = r.lines; outputs = r.outputs; line = take r.len r.line; going = r.going }

abbrev pub replay_of : Place → Replay
replay_of p = record {
  session = p.session;
  lines = p.lines;
  outputs = p.outputs;
  line = p.line ++ replicate (64 - length p.line) 0;
  len = length p.line;
  going = p.going;
}

-- 20: the output slice is shorter than an answer may need, 44 bytes, or than a part may. A line gives at most 7 bytes out for
-- each of its own (`x`, a tab, a digit and the newline: 26 bytes, since no output tells more than 64), of which 64 may have come before
-- the part, and a refusal at most 40.
abbrev pub answer_number : List ℕ → ℕ
answer_number out = cond (ltb (length out) 44) 20 0

abbrev pub feed_number : List ℕ → List ℕ → ℕ
feed_number input out = cond (ltb (length out) (7 * length input + 492)) 20 0

-- the front of a lent slice is written and the rest stays as it was; where the call has a number, all of it stays
abbrev pub front_written : ℕ → List ℕ → List ℕ → List ℕ
front_written number bytes out = unless number out (bytes ++ drop (length bytes) out)

abbrev pub written : ℕ → List ℕ → Result ℕ Refusal
written number bytes = answer number (length bytes)

-- what a call that writes to the front of a lent slice answers, how many bytes or a refusal, and leaves there
abbrev pub Writes : ℕ → List ℕ → List ℕ → Result ℕ Refusal → List ℕ → Type 0
Writes number bytes out r left = (r ≡ written number bytes) × (left ≡ front_written number bytes out)

-- a part of the input: the replay after it, and what was written; a refused part changes nothing
abbrev pub fed : Replay → List ℕ → List ℕ → Replay
fed r input out = unless (feed_number input out) r (replay_of (fed_of (place_of r) input))

abbrev pub PartFed : Replay → List ℕ → List ℕ → Result ℕ Refusal → Replay → List ℕ → Type 0
PartFed r input out w after left =
    (after ≡ fed r input out) × (w ≡ written (feed_number input out) (bytes_of (place_of r) input))
    × (left ≡ front_written (feed_number input out) (bytes_of (place_of r) input) out)

-- An input in parts: what they give out one after the other, and then the end.
unfoldable pub concatenated : List (List ℕ) → List ℕ
concatenated [] = []
concatenated (part ∷ rest) = part ++ concatenated rest

unfoldable pub in_parts : Replay → List (List ℕ) → List ℕ
in_parts r [] = finish_bytes (place_of r)
in_parts r (part ∷ rest) = bytes_of (place_of r) part ++ in_parts (replay_of (fed_of (place_of r) part)) rest
