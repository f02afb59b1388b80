-- A recorder's state as a line: `c`, 79 words and their check value, each as 16 hex digits, and the newline: 1282 bytes.
use Rattle.std.specs.Prelude.{List, [], ◌∷◌, ◌++◌, map, ℕ}
use Rattle.std.specs.Int.{w64}
use Rattle.words.specs.Words.{word}
use Rattle.text.specs.Letters.{byte, newline}
use Rattle.recorder.specs.declared.recorder.Recorder.{Recorder}
use Rattle.desk.specs.Saved.{check_from}
use Rattle.hex_letters.specs.Letters.{letters_of}

-- The words are order, delay, rate, countdown, number of inputs, hold, turns, the integrators and the comb cells,
abbrev pub head_words : Recorder → List ℕ
head_words s =
    let f = s.filter in
    f.order ∷ f.delay ∷ f.rate ∷ f.countdown ∷ f.inputs ∷ word w64 f.hold ∷ word w64 s.turns.y ∷ []

abbrev pub state_words : Recorder → List ℕ
state_words s = head_words s ++ (map (word w64) s.filter.integrators ++ map (word w64) s.filter.combs)

-- each as 16 digits,
unfoldable pub spelled : List ℕ → List ℕ
spelled [] = []
spelled (w ∷ ws) = letters_of 16 w ++ spelled ws

-- then their check value.
unfoldable pub state_line : Recorder → List ℕ
state_line s = byte "c" ∷ ((spelled (state_words s) ++ letters_of 16 (check_from 1 (state_words s))) ++ (newline ∷ []))
