-- A line that gives an output has at least 3 bytes, `x`, a tab and a digit, and an output that a step gives tells at most 64, so that its
-- line has at most 26. So no line gives more than 7 bytes out for each of its own, the newline too.
use native.Mathlib.Omega.{arith}
use mathlib.Core.Path.{◌≡◌, refl, sym, ap, ◌∙◌}
use mathlib.Core.Bool.{Bool, true, false, cond}
use mathlib.Core.List.{List, [], ◌∷◌}
use mathlib.Core.Option.{Option, none, some, some-injective}
use Prim.Native.Nat.{ℕ, zero, suc, ◌+◌, ◌*◌, ◌≤◌}
use lib.Dec.{eqb, ltb}
use lib.IntN.{ℤ}
use lib.ListN.{length}
use borrow.Author.Tests.{ne_eqb}
use Rattle.text.specs.Letters.{tab, newline}
use Rattle.text.specs.Numbers.{number_of}
use Rattle.text.specs.Parts.{parted}
use Rattle.text.proofs.Parting.{parted-total, total}
use Rattle.text.proofs.Spelling.{spelt-most}
use Rattle.cic.specs.declared.state.Cic.{Cic}
use Rattle.blocks.specs.Blocks.{unless}
use Rattle.sums.specs.Machine.{Output}
use Rattle.sums.specs.State.{refusal}
use Rattle.sums.specs.Calls.{new_number, rate_number, step_given}
use Rattle.sums.specs.Counted.{Counted, Numbered, take_number, with_number, new_counted, rate_counted, clear_counted, take_state, take_given}
use Rattle.sums.proofs.Steps.{told-most}
use Rattle.cic.specs.Reading.{counted_of, cic_of}
use Rattle.text.specs.Same.{same}
use Rattle.records.specs.Lines.{
  name_of,
  is_known,
  kinds_of,
  wanted_of,
  unknown_record,
  wrong_count,
  fields_fault,
  named_record,
  held_record,
  shaped_of,
  fields_record,
  record_of,
}
use Rattle.records.specs.Sessions.{kept_words, refuse, told_by, ordered, sampled, take_of, line_of}
use Rattle.playback.specs.Places.{end_taken}
use Rattle.playback.specs.Inner.Advances.{line_room}
use Rattle.records.specs.declared.parse.Name.{Name}
use Rattle.records.specs.declared.parse.Record.{Record}
use Rattle.records.specs.declared.parse.Record.TheVariants.{Open, Rate, Sample, Clear, Bad}
use Rattle.records.specs.declared.session.Session.{Session}
use Rattle.records.specs.declared.session.Taken.{Taken}
use Rattle.sums.specs.Ops.{Ops}
use Rattle.sums.specs.Signed.{signed_ops}
use Rattle.std.specs.Int.{w64}

-- the words that are kept
abbrev word_ops : Ops ℤ
word_ops = signed_ops w64

abbrev is_sample : Record → Bool
is_sample (Sample v) = true
is_sample (Open wide n m rate) = false
is_sample (Rate rate) = false
is_sample Clear = false
is_sample (Bad f) = false

-- only a sample gives an output
told_none : (s : Session) (wide : Bool) (f : Cic ℤ) (v : ℕ) → line_room (told_by s wide f v).reply ≡ 0
told_none s wide f zero = refl
told_none s wide f (suc k) = refl

ordered-none : (s : Session) (wide : Bool) (number : ℕ) (t : Counted ℤ) → line_room (ordered s wide number t).reply ≡ 0
ordered-none s wide number t = told_none s wide (cic_of t) number

either : (b : Bool) (x y : Taken) → line_room x.reply ≡ 0 → line_room y.reply ≡ 0 → line_room (cond b x y).reply ≡ 0
either true x y h k = h
either false x y h k = k

take_none : (s : Session) (r : Record) → is_sample r ≡ false → line_room (take_of kept_words s r).reply ≡ 0
unfolding take_of
take_none s (Open wide n m rate) e =
    let t = new_counted word_ops n m rate in
    either s.opened (refuse s 71) (ordered s wide (new_number n m rate) t) refl (ordered-none s wide (new_number n m rate) t)
take_none s (Rate rate) e =
    let f = counted_of s.filter in
    either s.opened (ordered s s.wide (rate_number f.state rate) (rate_counted word_ops f rate)) (refuse s 71)
    (ordered-none s s.wide (rate_number f.state rate) (rate_counted word_ops f rate)) refl
take_none s (Sample v) e = cc
take_none s Clear e =
    let f = counted_of s.filter in
    either s.opened (ordered s s.wide (refusal f.state) (clear_counted word_ops f)) (refuse s 71)
    (ordered-none s s.wide (refusal f.state) (clear_counted word_ops f)) refl
take_none s (Bad f) e = refl

-- and its line has at most 26 bytes
sampled-most : (s : Session) (k : ℕ) (t : Counted ℤ) (g : Option (Numbered ℤ)) → ((y : Numbered ℤ) → g ≡ some y → y.told ≤ 64)
    → line_room (sampled s k t g).reply ≤ 26
sampled-most s zero t (some y) h = omega (arith, spelt-most 1 20 y.told (omega (arith, h y refl)))
sampled-most s zero t none h = omega arith
sampled-most s (suc k) t g h = omega arith

-- what the step tells, numbered
numbered_most : (n : ℕ) (g : Option (Output ℤ)) → ((y : Output ℤ) → g ≡ some y → y.told ≤ 64)
    → (z : Numbered ℤ) → with_number n g ≡ some z → z.told ≤ 64
numbered_most n none h z e = let c : ◌≡◌ {A = ℕ} 0 1 = cc in absurd (omega arith)
numbered_most n (some y) h z e =
    omega (arith, h y refl, ap (λ (q : Numbered ℤ). q.told) (some-injective _ z e))

unless-most : (k : ℕ) (g : Option (Numbered ℤ)) → ((z : Numbered ℤ) → g ≡ some z → z.told ≤ 64)
    → (z : Numbered ℤ) → unless k none g ≡ some z → z.told ≤ 64
unless-most zero g h z e = h z e
unless-most (suc k) g h z e = let c : none ≡ some z = rw (ne_eqb (suc k) 0 (λ q. omega arith)) at e in
    let d : ◌≡◌ {A = ℕ} 0 1 = cc in absurd (omega arith)

taken-most : (f : Counted ℤ) (v : ℤ) (z : Numbered ℤ) → take_given word_ops f v ≡ some z → z.told ≤ 64
unfolding take_given
taken-most f v z e =
    unless-most (take_number f 1) (with_number (suc f.inputs) (step_given word_ops f.state v))
    (numbered_most (suc f.inputs) (step_given word_ops f.state v) (told-most word_ops f.state v)) z e

either_most : (b : Bool) (x y : Taken) → line_room x.reply ≤ 26 → line_room y.reply ≤ 26 → line_room (cond b x y).reply ≤ 26
either_most true x y h k = h
either_most false x y h k = k

take-most : (s : Session) (r : Record) → line_room (take_of kept_words s r).reply ≤ 26
unfolding take_of
take-most s (Open wide n m rate) = omega (arith, take_none s (Open wide n m rate) refl)
take-most s (Rate rate) = omega (arith, take_none s (Rate rate) refl)
take-most s (Sample v) =
    let f = counted_of s.filter in
    let step = sampled s (take_number f 1) (take_state word_ops f v) (take_given word_ops f v) in
    either_most s.opened step (refuse s 71)
    (sampled-most s (take_number f 1) (take_state word_ops f v) (take_given word_ops f v) (taken-most f v)) (omega arith)
take-most s Clear = omega (arith, take_none s Clear refl)
take-most s (Bad f) = omega arith

-- which line is a sample
tested : (b : Bool) (r q : Record) → is_sample r ≡ false → is_sample q ≡ false → is_sample (cond b r q) ≡ false
tested true r q h k = h
tested false r q h k = k

never : {A : Type 0} → true ≡ false → A
never e = let z : ◌≡◌ {A = ℕ} 0 1 = cc in absurd (omega arith)

module _ (wide : Bool) where
  x_field : (name : List ℕ) (fs : List (List ℕ)) → name_of name ≡ Name.X → is_sample (shaped_of wide Name.X fs) ≡ true
      → 4 ≤ total tab (name ∷ fs)
  unfolding total name_of same number_of
  x_field [] fs n e = let z : ◌≡◌ {A = Name} Name.Unknown Name.X = n in let k : ◌≡◌ {A = ℕ} 0 1 = cc in absurd (omega arith)
  x_field (a ∷ name) [] n e = never (sym e)
  x_field (a ∷ name) ([] ∷ []) n e = never (sym e)
  x_field (a ∷ name) ((b ∷ f) ∷ []) n e = omega arith
  x_field (a ∷ name) (f ∷ g ∷ gs) n e =
      let m : is_sample (shaped_of wide Name.X (f ∷ g ∷ gs)) ≡ false = rw (ne_eqb (length (f ∷ g ∷ gs)) 1 (λ z. omega arith)) in
      never (sym e ∙ m)

  other_name : (k : Name) (fs : List (List ℕ)) → is_sample (named_record k fs) ≡ false → is_sample (shaped_of wide k fs) ≡ false
  other_name k fs h =
      let fault = fields_fault wide 2 (kinds_of k) fs in
      let some = eqb (length fs) (wanted_of k) in
      tested (is_known k) (cond some (held_record wide k fs) (Bad wrong_count)) (Bad unknown_record)
      (tested some (held_record wide k fs) (Bad wrong_count)
      (tested (eqb fault.number 0) (named_record k fs) (Bad fault) h refl) refl) refl

  shaped_long : (k : Name) (name : List ℕ) (fs : List (List ℕ)) → name_of name ≡ k → is_sample (shaped_of wide k fs) ≡ true
      → 4 ≤ total tab (name ∷ fs)
  shaped_long Name.Cic name fs n e = never (sym e ∙ other_name Name.Cic fs refl)
  shaped_long Name.Cic64 name fs n e = never (sym e ∙ other_name Name.Cic64 fs refl)
  shaped_long Name.Rate name fs n e = never (sym e ∙ other_name Name.Rate fs refl)
  shaped_long Name.X name fs n e = x_field name fs n e
  shaped_long Name.Clear name fs n e = never (sym e ∙ other_name Name.Clear fs refl)
  shaped_long Name.Unknown name fs n e = never (sym e ∙ other_name Name.Unknown fs refl)

  fields-long : (ps : List (List ℕ)) → is_sample (fields_record wide ps) ≡ true → 4 ≤ total tab ps
  fields-long [] e = never (sym e)
  fields-long (name ∷ fs) e = shaped_long (name_of name) name fs refl e

  sample-long : (l : List ℕ) → is_sample (record_of wide l) ≡ true → 3 ≤ length l
  unfolding record_of
  sample-long l e = omega (arith, fields-long (parted tab l) e, parted-total tab l)

line-given : (s : Session) (l : List ℕ) → line_room (line_of kept_words s l).reply ≤ 7 * (length l + 1)
unfolding line_of
line-given s l = by (ltb 64 (length l))
  where
    record_given : (b : Bool) → is_sample (record_of s.wide l) ≡ b
        → line_room (take_of kept_words s (record_of s.wide l)).reply ≤ 7 * (length l + 1)
    record_given true e = omega (arith, sample-long s.wide l e, take-most s (record_of s.wide l))
    record_given false e = omega (arith, take_none s (record_of s.wide l) e)

    by : (t : Bool) → line_room (cond t (refuse s 72) (take_of kept_words s (record_of s.wide l))).reply ≤ 7 * (length l + 1)
    by true = omega arith
    by false = record_given (is_sample (record_of s.wide l)) refl

pub end_given_law : (s : Session) (l : List ℕ) (b : ℕ) → line_room (end_taken s l b).reply ≤ 7 * (length l + 1)
end_given_law s l b = by (eqb b newline)
  where
    by : (t : Bool) → line_room (cond t (line_of kept_words s l) (refuse s 72)).reply ≤ 7 * (length l + 1)
    by true = line-given s l
    by false = omega arith
