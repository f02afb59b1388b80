-- What a line does, case by case.
use mathlib.Core.Path.{◌≡◌, refl, sym, ap, ap₂, ◌∙◌}
use mathlib.Core.Bool.{Bool, true, false, cond}
use mathlib.Core.List.{List}
use mathlib.Core.Option.{Option, none, some}
use Prim.Native.Nat.{ℕ, zero, suc, ◌≤◌, ◌<◌}
use lib.IntN.{ℤ}
use lib.ListN.{length}
use mir.Syntax.{w32, w64}
use mir.Val.{SFits}
use borrow.Author.Tests.{lt-ltb, le-ltb}
use Rattle.words.specs.Words.{wrap}
use Rattle.words.proofs.Reading.{wrap_is}
use Rattle.sums.specs.Counted.{Counted, Numbered, take_number, take_state, take_given}
use Rattle.std.specs.Prelude.{Result, Ok, Err, Some, None}
use Rattle.std.specs.Prelude as std
use Rattle.blocks.specs.declared.refusal.Refusal.{Refusal}
use Rattle.blocks.specs.Refusals.{answer, number_of, number_in}
use Rattle.blocks.proofs.Refusals.{taken_number, taken_value}
use Rattle.sums.specs.Signed.{signed_ops}
use Rattle.shape.proofs.Ways.{never}
use Rattle.shape.proofs.Known.{Known, known, known_take, known_refusal}
use Rattle.lent.specs.declared.steps.Output as declared
use Rattle.lent.specs.Answers.{answer_output, output_of, step_out}
use Rattle.cic.specs.Reading.{counted_of, cic_of}
use Rattle.cic.specs.declared.state.Cic.{Cic}
use Rattle.records.specs.Lines.{record_of}
use Rattle.records.specs.Sessions.{
  width_of,
  shown,
  kept_words,
  refuse,
  kept,
  told_by,
  ordered,
  sampled,
  take_of,
  line_of,
}
use Rattle.records.specs.declared.parse.Record.{Record}
use Rattle.records.specs.declared.session.Session.{Session}
use Rattle.records.specs.declared.session.Reply.{Reply}
use Rattle.records.specs.declared.session.Taken.{Taken}

-- what the code reads
pub read_wide : (wide : Bool) (v : ℤ) → wide ≡ true → SFits w64 v → v ≡ wrap (width_of wide) v
read_wide true v e h = sym (wrap_is w64 v h)
read_wide false v e h = cc

pub read_narrow : (wide : Bool) (v : ℤ) → wide ≡ false → wrap w32 v ≡ wrap (width_of wide) v
read_narrow true v e = cc
read_narrow false v e = refl

-- what is shown of a step's output, if any
abbrev pub shown_reply : Bool → std.Option (declared.Output ℤ) → Reply
shown_reply wide (Some y) = Reply.Output (shown wide y)
shown_reply wide None = Reply.Silent

-- the filter's calls, by what they left and answered
pub told_as : (s : Session) (wide : Bool) (k : ℕ) (t : Counted ℤ) (f : Cic ℤ) (r : Taken) (n : ℕ) → counted_of f ≡ t → n ≡ k
    → r ≡ told_by s wide f n → r ≡ ordered s wide k t
told_as s wide k t f r n e p h = h ∙ ap₂ (λ (c : Counted ℤ) (m : ℕ). told_by s wide (cic_of c) m) e p

module _ (s : Session) (wide : Bool) (k : ℕ) (t : Counted ℤ) where
  pub made-taken : (f : Cic ℤ) → ◌≡◌ {A = Result (Cic ℤ) Refusal} (Ok f) (answer k (cic_of t)) → kept wide f Reply.Silent ≡ ordered s wide k t
  made-taken f e = ap₂ (told_by s wide) (taken_value k (cic_of t) f e) (sym (taken_number k (cic_of t) f e))

  -- refused by a number that is a refusal's
  pub refused-by : {A : Type 0} (v : A) → Known k → (r : Refusal) → ◌≡◌ {A = Result A Refusal} (Err r) (answer k v)
      → refuse s (number_of r) ≡ ordered s wide k t
  unfolding answer
  refused-by v p r e = by k refl
    where
      by : (n : ℕ) → n ≡ k → refuse s (number_of r) ≡ told_by s wide (cic_of t) k
      by zero z = absurd (never k v r e (sym z))
      by (suc n) z = rw (← z) (ap (refuse s) (ap number_in e ∙ known k v p ∙ sym z))

-- a step of the filter, by what it answered
module _ (s : Session) (x : ℤ) (f : Cic ℤ) where
  abbrev given : Counted ℤ
  given = counted_of s.filter

  abbrev number : ℕ
  number = take_number given 1

  abbrev of_step : Taken
  of_step = sampled s number (take_state (signed_ops w64) given x) (take_given (signed_ops w64) given x)

  module _ (e : counted_of f ≡ take_state (signed_ops w64) given x) where
    taken_by : (n : ℕ) (g : Option (Numbered ℤ)) (o : std.Option (declared.Output ℤ)) → n ≡ 0 → output_of g ≡ o
        → kept s.wide f (shown_reply s.wide o) ≡ sampled s n (take_state (signed_ops w64) given x) g
    taken_by n none o z h = rw (z, ← h) (ap (λ (c : Counted ℤ). kept s.wide (cic_of c) Reply.Silent) e)
    taken_by n (some y) o z h = rw (z, ← h)
        (ap (λ (c : Counted ℤ). kept s.wide (cic_of c) (Reply.Output (shown s.wide (answer_output y)))) e)

    pub step-taken : (o : std.Option (declared.Output ℤ))
        → ◌≡◌ {A = Result (std.Option (declared.Output ℤ)) Refusal} (Ok o) (step_out (signed_ops w64) given x)
        → kept s.wide f (shown_reply s.wide o) ≡ of_step
    step-taken o h =
        taken_by number (take_given (signed_ops w64) given x) o (taken_number number _ o h) (sym (taken_value number _ o h))

  pub step-refused : (r : Refusal)
      → ◌≡◌ {A = Result (std.Option (declared.Output ℤ)) Refusal} (Err r) (step_out (signed_ops w64) given x)
      → refuse s (number_of r) ≡ of_step
  step-refused r e = by number refl
    where
      by : (n : ℕ) → n ≡ number → refuse s (number_of r) ≡ of_step
      by zero z = absurd (never number _ r e (sym z))
      by (suc n) z = rw (← z) (ap (refuse s) (ap number_in e ∙ known number _ (known_take _ _ _ (known_refusal _ _ _ _ _)) ∙ sym z))

pub takes : (s : Session) (r x : Record) (t : Taken) → r ≡ x → t ≡ take_of kept_words s x → t ≡ take_of kept_words s r
takes s r x t e w = w ∙ ap (take_of kept_words s) (sym e)

pub is_true : {A : Type 0} (b : Bool) (x y : A) → b ≡ true → x ≡ cond b x y
is_true b x y e = sym (rw e)

pub is_false : {A : Type 0} (b : Bool) (x y : A) → b ≡ false → y ≡ cond b x y
is_false b x y e = sym (rw e)

pub line-long : (s : Session) (l : List ℕ) (t : Taken) → 64 < length l → t ≡ refuse s 72 → t ≡ line_of kept_words s l
unfolding line_of
line-long s l t h w = w ∙ sym (rw (lt-ltb _ _ h))

pub line-short : (s : Session) (l : List ℕ) (r : Record) (t : Taken) → length l ≤ 64 → r ≡ record_of s.wide l → t ≡ take_of kept_words s r
    → t ≡ line_of kept_words s l
unfolding line_of
line-short s l r t h p w = w ∙ ap (take_of kept_words s) p ∙ sym (rw (le-ltb _ _ h))
