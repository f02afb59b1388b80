-- 02, A1: `cic` and `cic64` go over the same rules with words of 32 and of 64 bits. The filter that a session keeps computes with words
-- of 64 bits for either. Read in the session's word it is the filter of that word: sums and differences modulo 2 ^ 64 are right modulo
-- 2 ^ 32 too.
use Rattle.std.specs.Prelude.{◌≡◌, List, map, ℕ, ℤ}
use Rattle.words.specs.Words.{wrap}
use Rattle.sums.specs.State.{State}
use Rattle.sums.specs.Counted.{Counted}
use Rattle.cic.specs.Reading.{counted_of, cic_of}
use Rattle.records.specs.Sessions.{width_of, own_words, kept_words, line_of}
use Rattle.records.specs.declared.session.Session.{Session}
use Rattle.records.specs.declared.session.Taken.{Taken}

-- each word of a state read through φ; its numbers stay
abbrev pub through_state : (ℤ → ℤ) → State ℤ → State ℤ
through_state φ s = record {
  order = s.order;
  delay = s.delay;
  rate = s.rate;
  countdown = s.countdown;
  unsettled = s.unsettled;
  hold = φ s.hold;
  integrators = map φ s.integrators;
  combs = map φ s.combs;
}

abbrev pub through : (ℤ → ℤ) → Counted ℤ → Counted ℤ
through φ c = record { state = through_state φ c.state; inputs = c.inputs }

-- a session, its filter read in its word
abbrev pub seen : Session → Session
seen s = record {
  opened = s.opened;
  wide = s.wide;
  filter = cic_of (through (wrap (width_of s.wide)) (counted_of s.filter));
}

abbrev pub seen_taken : Taken → Taken
seen_taken t = record { session = seen t.session; reply = t.reply }

-- Whatever the session and the line: the filter that is kept answers it, and is seen after it, as the rules over the session's word say.
abbrev pub InItsWord : Type 0
InItsWord = (s : Session) (line : List ℕ) → line_of own_words (seen s) line ≡ seen_taken (line_of kept_words s line)
