-- What a record does, case by case.
use mathlib.Core.Path.{◌≡◌, refl, sym, ap, ◌∙◌}
use mathlib.Core.List.{List, [], ◌∷◌}
use lib.IntN.{ℤ, pos}
use lib.ListN.{get_or}
use borrow.Author.Tests.{eq-eqb, ne_eqb}
use Rattle.std.specs.Prelude.{Result, Ok, Err}
use Rattle.blocks.specs.declared.refusal.Refusal.{Refusal}
use Rattle.shape.specs.declared.runs.Written.{Written}
use Rattle.recorder.specs.Calls.{took_of, took_answer, out_left}
use Rattle.recorder.specs.declared.recorder.Recorder.{Recorder}
use Rattle.desk.specs.Desks.{refuse, keep, refuse_or, word_taken, step_taken}
use Rattle.desk.specs.declared.desk.Desk.{Desk}
use Rattle.desk.specs.declared.desk.Reply.TheVariants as Reply
use Rattle.desk.specs.declared.desk.Taken.{Taken}

pub event-refused : (d : Desk) (k : Refusal) (a : Result (Unit {0}) Refusal) (t : Taken) → ◌≡◌ {A = Result (Unit {0}) Refusal} (Err k) a
    → refuse d k ≡ refuse_or d a t
event-refused d k a t e = ap (λ (m : Result (Unit {0}) Refusal). refuse_or d m t) e

pub event_done : (d : Desk) (u : Unit {0}) (a : Result (Unit {0}) Refusal) (t : Taken) → ◌≡◌ {A = Result (Unit {0}) Refusal} (Ok u) a
    → t ≡ refuse_or d a t
event_done d u a t e = ap (λ (m : Result (Unit {0}) Refusal). refuse_or d m t) e

module _ (d : Desk) (r : Recorder) (v : ℤ) (q : Result Written Refusal) (w : Written) (e : q ≡ Ok w) where
  pub word_silent : w.count ≡ 0 → keep r Reply.Silent ≡ word_taken d r (v ∷ []) q
  word_silent z = sym (ap (word_taken d r (v ∷ [])) e ∙ rw (eq-eqb w.count 0 z))

  pub word-output : (w.count ≡ 0 → ⊥)
      → keep r (Reply.Output (record { value = v; told = w.told; number = w.number })) ≡ word_taken d r (v ∷ []) q
  word-output z = sym (ap (word_taken d r (v ∷ [])) e ∙ rw (ne_eqb w.count 0 z))

-- of the slice the first element alone is looked at
word_left : (d : Desk) (r : Recorder) (left : List ℤ) (q : Result Written Refusal)
    → word_taken d r (get_or left 0 (pos 0) ∷ []) q ≡ word_taken d r left q
word_left d r left (Ok w) = refl
word_left d r left (Err k) = refl

pub step_is : (d : Desk) (x : ℤ) (t : Recorder) (q : Result Written Refusal) (left : List ℤ) (v : ℤ) (r : Taken)
    → t ≡ took_of d.recorder (x ∷ []) (pos 0 ∷ []) (pos 0 ∷ []) → q ≡ took_answer d.recorder (x ∷ []) (pos 0 ∷ []) (pos 0 ∷ [])
    → left ≡ out_left d.recorder (x ∷ []) (pos 0 ∷ []) (pos 0 ∷ []) → v ≡ get_or left 0 (pos 0)
    → r ≡ word_taken d t (v ∷ []) q → r ≡ step_taken d x
step_is d x t q left v r a b l c w =
    w ∙ ap (λ (u : ℤ). word_taken d t (u ∷ []) q) c ∙ word_left d t left q ∙ rw (a, b, l)
