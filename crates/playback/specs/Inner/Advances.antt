-- The driver's inner calls: a run of `x` lines taken as one block, and the bytes up to a line's end.
use Rattle.std.specs.Prelude.{◌≡◌, Bool, true, List, [], ◌∷◌, ◌++◌, ℕ, ◌+◌, ◌-◌, ◌*◌, ◌≤◌, ◌<◌, ℤ, length, get_or, take, drop}
use Rattle.text.specs.Letters.{newline}
use Rattle.text.specs.Numbers.{decimal_of}
use Rattle.text.specs.Parts.{count}
use Rattle.text.specs.Writing.{Wrote}
use Rattle.words.specs.Words.{wrap}
use Rattle.records.specs.Lines.{record_of}
use Rattle.records.specs.Sessions.{width_of}
use Rattle.playback.specs.Replays.{output_line}
use Rattle.playback.specs.Places.{Place, counted_up, reply_bytes, goes_on, line_ends, ended, fed_of, bytes_of, place_of}
use Rattle.records.specs.declared.parse.Record.TheVariants.{Sample}
use Rattle.playback.specs.declared.samples.Found.{Found}
use Rattle.records.specs.declared.session.Taken.{Taken}
use Rattle.records.specs.declared.session.Reply.{Reply}
use Rattle.cic.specs.declared.state.Cic.{Cic}
use Rattle.playback.specs.declared.driver.Replay.{Replay}

-- At a place of l stands a whole line that is the sample x, within the word, and the next line starts at `next`.
pub record SampleLine (wide : Bool) (l : List ℕ) (at : ℕ) (x : ℤ) (next : ℕ) : Type 0 where
  pub line : List ℕ
  pub here : drop at l ≡ line ++ (newline ∷ drop next l)
  pub plain : count newline line ≡ 0
  pub short : length line ≤ 64
  pub reads : record_of wide line ≡ Sample x
  pub far : at + 4 ≤ next
  pub inside : next ≤ length l

abbrev pub finds : Bool → List ℕ → ℕ → Found → Type 0
finds wide l at (Found.Sample x next) = SampleLine wide l at x next
finds wide l at Found.Other = Unit

-- bs begins with whole lines that are the samples xs, within the word, and goes on with rest.
pub data Sampled : Bool → List ℕ → List ℤ → List ℕ → Type 0 where
  none : {wide : Bool} {bs : List ℕ} → Sampled wide bs [] bs
  more : (line : List ℕ) {bs rest : List ℕ} {wide : Bool} {x : ℤ} {xs : List ℤ} → count newline line ≡ 0 → length line ≤ 64
      → record_of wide line ≡ Sample x → Sampled wide bs xs rest → Sampled wide (line ++ (newline ∷ bs)) (x ∷ xs) rest

-- The lines of l from one place to the next are the first n samples.
pub record Gathers (wide : Bool) (l : List ℕ) (from : ℕ) (samples : List ℤ) (n next : ℕ) : Type 0 where
  pub few : n ≤ 512
  pub far : from + 4 * n ≤ next
  pub inside : next ≤ length l
  pub lines : Sampled wide (drop from l) (take n samples) (drop next l)

-- the output lines of a block that told this count: each output read in the word, and told one less than the one before, not below 0
unfoldable pub output_lines : Bool → ℕ → List ℤ → List ℕ
output_lines wide told [] = []
output_lines wide told (y ∷ ys) = output_line (wrap (width_of wide) y) told ++ output_lines wide (told - 1) ys

-- the most bytes of an answer after which the replay goes on: `y`, a tab, a value of 20, a tab, the count and a newline
abbrev pub line_room : Reply → ℕ
line_room Reply.Silent = 0
line_room (Reply.Output y) = 24 + length (decimal_of y.told)
line_room (Reply.Bad f) = 0

-- a place after a block of `x` lines: its filter, and so many lines and outputs more
abbrev pub after_block : Place → Bool → Cic ℤ → ℕ → ℕ → Place
after_block p wide filter lines outputs = record {
  session = record { opened = true; wide = wide; filter = filter };
  lines = counted_up p.lines lines;
  outputs = counted_up p.outputs outputs;
  line = p.line;
  going = p.going;
}

-- The bytes of the input from one place to i, none of them a newline, were put behind the line so far, which is now l.
-- The next byte, if there is one, ends the line.
pub record Collects (before input : List ℕ) (from : ℕ) (l : List ℕ) (n i : ℕ) : Type 0 where
  pub taken : List ℕ
  pub plain : count newline taken ≡ 0
  pub here : drop from input ≡ taken ++ drop i input
  pub line : l ≡ before ++ taken
  pub size : length l ≡ n
  pub small : n ≤ 64
  pub low : from ≤ i
  pub high : i ≤ length input
  pub ends : i < length input → line_ends l (get_or input i 0) ≡ true

-- From place p with bs to come, the replay came to place q with cs to come, and what it gave out was put into o.
pub record Arrives (p : Place) (bs o : List ℕ) (at : ℕ) (q : Place) (cs : List ℕ) (r : ℕ) (o' : List ℕ) : Type 0 where
  pub place : fed_of p bs ≡ fed_of q cs
  pub text : List ℕ
  pub bytes : bytes_of p bs ≡ text ++ bytes_of q cs
  pub wrote : Wrote o at text r o'

-- The line t was taken: the replay after it, and its answer put into o.
pub record Answers (r : Replay) (t : Taken) (o : List ℕ) (at : ℕ) (a : Replay) (w : ℕ) (o' : List ℕ) : Type 0 where
  pub place : place_of a ≡ ended (place_of r) t
  pub none : a.len ≡ 0
  pub most : w ≤ at + 44
  pub few : goes_on t.reply ≡ true → w ≤ at + line_room t.reply
  pub wrote : Wrote o at (reply_bytes (counted_up r.lines 1) t.reply) w o'

-- There is room for whatever bs may give out.
pub record Room (p : Place) (bs o : List ℕ) (at : ℕ) : Type 0 where
  pub within : at ≤ length o
  pub fits : p.going ≡ true → at + 7 * (length p.line + length bs) + 44 ≤ length o

-- A turn of the driver: from r, the input from `from` on and the output at a place to t, `next` and r'.
pub record Advances (r : Replay) (input : List ℕ) (from : ℕ) (o : List ℕ) (at : ℕ) (t : Replay) (next w : ℕ) (o' : List ℕ) : Type 0 where
  pub runs : Arrives (place_of r) (drop from input) o at (place_of t) (drop next input) w o'
  pub room : Room (place_of t) (drop next input) o' w
  pub low : from ≤ next
  pub high : next ≤ length input
  pub small : t.len ≤ 64
