-- 02, A2: what a line may be refused with, whatever it says and whatever came before it. 70 is no longer given.
use Rattle.std.specs.Prelude.{◌≡◌, Bool, List, ℕ, ◌≤◌, ℤ}
use Rattle.sums.specs.Ops.{Ops}
use Rattle.records.specs.Lines.{fault_at}
use Rattle.records.specs.Sessions.{line_of}
use Rattle.records.specs.declared.parse.Fault.{Fault}
use Rattle.records.specs.declared.session.Session.{Session}
use Rattle.records.specs.declared.session.Reply.TheVariants as Reply

-- The field's place in the line (the record's name is 1), for 75 and 76; for every other number it is 0.
pub data Tells : Fault → Type 0 where
  unopened : Tells (fault_at 71 0)
  long : Tells (fault_at 72 0)
  unknown : Tells (fault_at 73 0)
  miscounted : Tells (fault_at 74 0)
  malformed : (place : ℕ) → 2 ≤ place → Tells (fault_at 75 place)
  outside : (place : ℕ) → 2 ≤ place → Tells (fault_at 76 place)
  parameter : (number : ℕ) → number ≤ 16 → Tells (fault_at number 0)

-- A line whose answer is a refusal, over the words of either record.
abbrev pub LineTold : Type 0
LineTold = (words : Bool → Ops ℤ) (s : Session) (line : List ℕ) (f : Fault) → (line_of words s line).reply ≡ Reply.Bad f → Tells f

abbrev pub NoSeventy : Type 0
NoSeventy = (words : Bool → Ops ℤ) (s : Session) (line : List ℕ) (f : Fault) → (line_of words s line).reply ≡ Reply.Bad f → f.number ≡ 70 → ⊥
