-- A number's judgement is 0, 75 or 76, and the first that isn't 0 is told with its place; a line's answer goes by its record.
use native.Mathlib.Omega.{arith}
use mathlib.Core.Path.{◌≡◌, refl}
use mathlib.Core.Bool.{Bool, true, false, cond, ◌||◌}
use mathlib.Core.List.{List, [], ◌∷◌}
use mathlib.Core.Option.{Option, none, some}
use Prim.Native.Nat.{ℕ, zero, suc, ◌+◌, ◌*◌, ◌≤◌}
use lib.Dec.{leb, ltb, eqb}
use lib.IntN.{ℤ}
use lib.ListN.{length}
use borrow.Author.Tests.{eqb-false}
use Rattle.blocks.specs.Blocks.{unless}
use Rattle.sums.specs.Ops.{Ops}
use Rattle.sums.specs.State.{refusal_of, refusal}
use Rattle.sums.specs.Calls.{new_number, rate_number}
use Rattle.sums.specs.Counted.{
  Counted,
  Numbered,
  most_inputs,
  take_number_of,
  take_number,
  new_counted,
  rate_counted,
  clear_counted,
  take_state,
  take_given,
}
use Rattle.text.specs.Numbers.{number_of}
use Rattle.text.specs.Ranges.{Range}
use Rattle.text.specs.declared.numbers.Number.{Number}
use Rattle.text.specs.declared.numbers.Number.TheVariants.{Plus, Minus}
use Rattle.std.specs.Prelude as std
use Rattle.std.specs.Prelude.{Some, None}
use Rattle.records.specs.Lines.{
  Kind,
  kinds_of,
  range_of,
  number_number,
  fault_at,
  fields_fault,
  named_record,
  held_record,
  or_else,
  record_of,
}
use Rattle.records.specs.Sessions.{refuse, ordered, sampled, filter_of, making, rating, clearing, stepping, take_of, line_of}
use Rattle.records.specs.Told.{Tells, unopened, long, unknown, miscounted, malformed, outside, parameter, LineTold, NoSeventy}
use Rattle.records.proofs.EachLine.{each_line}
use Rattle.records.specs.declared.parse.Name.{Name}
use Rattle.records.specs.declared.parse.Fault.{Fault}
use Rattle.records.specs.declared.parse.Record.{Record}
use Rattle.records.specs.declared.parse.Record.TheVariants.{Open, Rate, Sample, Clear, Bad}
use Rattle.records.specs.declared.session.Session.{Session}
use Rattle.records.specs.declared.session.Reply.{Reply}
use Rattle.records.specs.declared.session.Taken.{Taken}

-- a fault is told unless it is none
abbrev Told : Fault → Type 0
Told f = (f.number ≡ 0 → ⊥) → Tells f

number-told : (r : Range) (n : std.Option Number) (place : ℕ) → 2 ≤ place → Told (fault_at (number_number r n) place)
number-told r (Some (Plus v)) place h = by (leb v r.most)
  where
    by : (t : Bool) → Told (fault_at (cond t 0 76) place)
    by true z = absurd (z refl)
    by false z = outside place h
number-told r (Some (Minus v)) place h = by (eqb v 0) (leb v r.least)
  where
    by : (s t : Bool) → Told (fault_at (cond s 75 (cond t 0 76)) place)
    by true t z = malformed place h
    by false true z = absurd (z refl)
    by false false z = outside place h
number-told r None place h = λ z. malformed place h

first-told : (p : ℕ) (place : ℕ) (rest : Fault) → Told (fault_at p place) → Told rest → Told (unless p (fault_at p place) rest)
first-told p place rest h k = by (eqb p 0)
  where
    by : (t : Bool) → Told (cond t rest (fault_at p place))
    by true = k
    by false = h

fields_told : (wide : Bool) (place : ℕ) → 2 ≤ place → (ks : List Kind) (fs : List (List ℕ)) → Told (fields_fault wide place ks fs)
fields_told wide place h [] fs = λ z. absurd (z refl)
fields_told wide place h (k ∷ ks) [] = λ z. absurd (z refl)
fields_told wide place h (k ∷ ks) (f ∷ fs) =
    first-told (number_number (range_of wide k) (number_of f)) place (fields_fault wide (place + 1) ks fs)
    (number-told (range_of wide k) (number_of f) place h) (fields_told wide (place + 1) (omega arith) ks fs)

-- a record's fault is told
abbrev Says : Record → Type 0
Says (Bad f) = Tells f
Says (Open wide n m rate) = Unit
Says (Rate rate) = Unit
Says (Sample v) = Unit
Says Clear = Unit

else_says : (f : Fault) (r : Record) → Told f → Says r → Says (or_else f r)
else_says f r h k = by (eqb f.number 0) refl
  where
    by : (t : Bool) → eqb f.number 0 ≡ t → Says (cond t r (Bad f))
    by true e = k
    by false e = h (eqb-false _ _ e)

named_says : (name : Name) (fs : List (List ℕ)) → Says (named_record name fs)
named_says Name.Cic fs = tt
named_says Name.Cic64 fs = tt
named_says Name.Rate fs = tt
named_says Name.X fs = tt
named_says Name.Clear fs = tt
named_says Name.Unknown fs = unknown

held_says : (wide : Bool) (name : Name) (fs : List (List ℕ)) → Says (held_record wide name fs)
held_says wide name fs =
    else_says (fields_fault wide 2 (kinds_of name) fs) (named_record name fs) (fields_told wide 2 (omega arith) (kinds_of name) fs)
    (named_says name fs)

-- a line's answer: what is wrong with its form, 71, 72, or the filter's own number, of which none is above 16
abbrev Answers : Reply → Type 0
Answers (Reply.Bad f) = Tells f
Answers Reply.Silent = Unit
Answers (Reply.Output y) = Unit

few : (b : Bool) (x y : ℕ) → x ≤ 16 → y ≤ 16 → cond b x y ≤ 16
few true x y h k = h
few false x y h k = k

refusal-few : (order delay rate countdown unsettled : ℕ) → refusal_of order delay rate countdown unsettled ≤ 16
unfolding refusal_of
refusal-few order delay rate countdown unsettled =
    few (ltb 8 order) _ _ (omega arith) (few (eqb delay 0 || ltb 8 delay) _ _ (omega arith) (few (ltb 65535 rate) _ _ (omega arith)
    (few (ltb 65535 countdown) _ _ (omega arith) (few (ltb (order * delay) unsettled) _ _ (omega arith) (omega arith)))))

take-few : (k inputs more : ℕ) → k ≤ 16 → take_number_of k inputs more ≤ 16
unfolding take_number_of
take-few k inputs more h = few (eqb k 0) _ _ (few (ltb most_inputs (inputs + more)) _ _ (omega arith) (omega arith)) h

either : (b : Bool) (x y : Taken) → Answers x.reply → Answers y.reply → Answers (cond b x y).reply
either true x y h k = h
either false x y h k = k

ordered_answers : (s : Session) (wide : Bool) (number : ℕ) (t : Counted ℤ) → number ≤ 16 → Answers (ordered s wide number t).reply
ordered_answers s wide zero t h = tt
ordered_answers s wide (suc k) t h = parameter (suc k) h

sampled_answers : (s : Session) (number : ℕ) (t : Counted ℤ) (given : Option (Numbered ℤ)) → number ≤ 16
    → Answers (sampled s number t given).reply
sampled_answers s zero t none h = tt
sampled_answers s zero t (some y) h = tt
sampled_answers s (suc k) t given h = parameter (suc k) h

module _ (words : Bool → Ops ℤ) (s : Session) where
  take_answers : (r : Record) → Says r → Answers (take_of words s r).reply
  unfolding take_of
  take_answers (Bad f) h = h
  take_answers (Open wide n m rate) h =
      either s.opened (refuse s 71) (making words s wide n m rate) unopened
      (ordered_answers s wide (new_number n m rate) (new_counted (words wide) n m rate) (refusal-few n m rate 0 0))
  take_answers (Rate rate) h =
      let f = filter_of s in
      either s.opened (rating words s rate) (refuse s 71)
      (ordered_answers s s.wide (rate_number f.state rate) (rate_counted (words s.wide) f rate) (refusal-few _ _ _ _ _)) unopened
  take_answers (Sample v) h =
      let f = filter_of s in
      either s.opened (stepping words s v) (refuse s 71)
      (sampled_answers s (take_number f 1) (take_state (words s.wide) f v) (take_given (words s.wide) f v)
      (take-few (refusal f.state) f.inputs 1 (refusal-few _ _ _ _ _))) unopened
  take_answers Clear h =
      let f = filter_of s in
      either s.opened (clearing words s) (refuse s 71)
      (ordered_answers s s.wide (refusal f.state) (clear_counted (words s.wide) f) (refusal-few _ _ _ _ _)) unopened

  line_answers : (line : List ℕ) → Says (record_of s.wide line) → Answers (line_of words s line).reply
  unfolding line_of
  line_answers line h =
      let r = record_of s.wide line in either (ltb 64 (length line)) (refuse s 72) (take_of words s r) long (take_answers r h)

says : (r : Reply) (f : Fault) → r ≡ Reply.Bad f → Answers r → Tells f
says r f e h = rw e at h

pub line-told : LineTold
line-told words s line f e =
    says (line_of words s line).reply f e
    (line_answers words s line (each_line Says s.wide unknown miscounted (held_says s.wide) line))

tells_none : {f : Fault} → Tells f → f.number ≡ 70 → ⊥
tells_none unopened z = omega arith
tells_none long z = omega arith
tells_none unknown z = omega arith
tells_none miscounted z = omega arith
tells_none (malformed place h) z = omega arith
tells_none (outside place h) z = omega arith
tells_none (parameter number h) z = omega arith

pub no_seventy : NoSeventy
no_seventy words s line f e = tells_none (line-told words s line f e)
