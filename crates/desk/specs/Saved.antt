-- A recorder's state as a line: `c`, 79 words and their check value, each as 16 hex digits, and the newline: 1282 bytes.
use Rattle.std.specs.Prelude.{Bool, true, false, cond, ◌||◌, List, [], ◌∷◌, map, ℕ, zero, suc, ◌+◌, ◌*◌, eqb, ltb, ℤ, pos, ◌+ℤ◌, ◌*ℤ◌, length, get_or, take, drop, Result, Ok, Err}
use Rattle.std.specs.Int.{w64}
use Rattle.words.specs.Words.{word, wrap}
use Rattle.blocks.specs.declared.refusal.Refusal.{Refusal}
use Rattle.text.specs.Letters.{newline}
use Rattle.text.specs.Hex.{pattern_of}
use Rattle.std.specs.Prelude as std
use Rattle.std.specs.Prelude.{Some, None}
use Rattle.sums.specs.Calls.{resume_number}
use Rattle.sums.specs.Counted.{resume_counted}
use Rattle.unwrap.specs.declared.unwrapper.Unwrapper.{Unwrapper}
use Rattle.cic.specs.declared.state.Cic.{Cic}
use Rattle.cic.specs.Answers.{made_of}
use Rattle.recorder.specs.Calls.{word_ops}
use Rattle.recorder.specs.declared.recorder.Recorder.{Recorder}

-- The check value: from 1 on, times a fixed odd number plus the next word, modulo 2 ^ 64. Where one word alone is changed, it is another: odd
-- numbers have an inverse modulo 2 ^ 64.
abbrev pub next_check : ℕ → ℕ → ℕ
next_check c w = word w64 (pos (word w64 (pos c *ℤ pos 6364136223846793005)) +ℤ pos w)

unfoldable pub check_from : ℕ → List ℕ → ℕ
check_from c [] = c
check_from c (w ∷ ws) = check_from (next_check c w) ws

-- The words are order, delay, rate, countdown, number of inputs, hold, turns, the integrators and the comb cells, then the check value.
-- The words of a line read back: word i stands at 16 i + 1.
abbrev pub pattern_at : List ℕ → ℕ → std.Option ℕ
pattern_at line i = pattern_of (take 16 (drop (16 * i + 1) line))

abbrev pub value_of : std.Option ℕ → ℕ
value_of (Some v) = v
value_of None = 0

abbrev pub is_wrong : std.Option ℕ → Bool
is_wrong (Some v) = false
is_wrong None = true

unfoldable pub words_at : List ℕ → ℕ → ℕ → List ℕ
words_at line i zero = []
words_at line i (suc n) = value_of (pattern_at line i) ∷ words_at line (suc i) n

unfoldable pub any_wrong : List ℕ → ℕ → ℕ → Bool
any_wrong line i zero = false
any_wrong line i (suc n) = is_wrong (pattern_at line i) || any_wrong line (suc i) n

abbrev pub word_at : List ℕ → ℕ → ℕ
word_at line i = value_of (pattern_at line i)

abbrev pub cells_at : List ℕ → ℕ → ℕ → List ℤ
cells_at line i n = map (λ (v : ℕ). wrap w64 (pos v)) (words_at line i n)

-- The state that the words tell: the decimator is resumed, the plug in. 76: rate or countdown is no u32; then the numbers of resume.
abbrev pub resumed_by : Unwrapper → Result (Cic ℤ) Refusal → Result Recorder Refusal
resumed_by turns (Ok f) = Ok (record { plugged = true; turns = turns; filter = f })
resumed_by turns (Err k) = Err k

unfoldable pub state_loaded : List ℕ → Result Recorder Refusal
state_loaded line =
    cond (ltb 4294967295 (word_at line 2)) (Err Refusal.OutOfRange)
    (cond (ltb 4294967295 (word_at line 3)) (Err Refusal.OutOfRange)
    (resumed_by (record { y = wrap w64 (pos (word_at line 6)) })
    (made_of (resume_number (word_at line 0) (word_at line 1) (word_at line 2) (word_at line 3))
    (resume_counted word_ops (word_at line 0) (word_at line 1) (word_at line 2) (cells_at line 7 8) (cells_at line 15 64)
    (wrap w64 (pos (word_at line 5))) (word_at line 3) (word_at line 4)))))

-- 72: another length; 75: a digit is none; 86: another check value
unfoldable pub load_of : List ℕ → Result Recorder Refusal
load_of line =
    cond (eqb (length line) 1282)
    (cond (eqb (get_or line 1281 0) newline)
    (cond (any_wrong line 0 80) (Err Refusal.Malformed)
    (cond (eqb (word_at line 79) (check_from 1 (words_at line 0 79))) (state_loaded line) (Err Refusal.CheckValue)))
    (Err Refusal.LongLine))
    (Err Refusal.LongLine)
