-- What refuses a record, a list, a text or a move has a row in docs/REFUSALS.md: its number and its refusal tell each other.
use Rattle.std.proofs.Common.{◌≡◌, ℕ, zero, suc, List, [], ◌∷◌, Bool, true, false, cond, refl, ap, subst, arith, ◌∙◌}
use Rattle.std.proofs.Math.Option.{Option, none, some}
use lib.Dec.{leb, ltb, eqb}
use lib.IntN.{ℤ}
use lib.ListN.{length}
use Rattle.blocks.specs.Refusals.{number_of, refusal_at, answer, number_in}
use Rattle.blocks.specs.Blocks.{unless}
use Rattle.sums.specs.State.{refusal_of}
use Rattle.sums.specs.Calls.{new_number}
use Rattle.wdf.specs.Calls.{sections_number}
use Rattle.wdf.specs.Calls as wdf
use Rattle.text.specs.Letters.{newline}
use Rattle.text.specs.Order.{precedes}
use Rattle.text.specs.Parts.{parted}
use Rattle.text.specs.Same.{same}
use Rattle.settings_text.specs.Lines.{Setting, Cic, Wdf, Dither, form_of, parameters, dither_number, crossed}
use Rattle.settings_text.specs.Moves.{Moved, Text, Refused, move, moved_by, placed_text, placed}
use Rattle.settings_text.specs.Stores.{Found, Good, Bad, or_else, record_number, listed_number, list_from, list_number, refused_at, judged, line_then, lines_in, opened_by, read_of}
use Rattle.settings_text.proofs.Stores.{numbered}
use Rattle.settings_text.specs.declared.version.Version.{Version}
use Rattle.settings_text.specs.declared.version.Version.TheVariants.{One, Two}

-- k is 0 or the number of a row
pub record Known (k : ℕ) : Type 0 where
  pub back : number_in {A = Unit {0}} (answer k tt) ≡ k

pub none_known : Known 0
unfolding answer
none_known = record { back = refl }

known_10 : Known 10
unfolding answer refusal_at
known_10 = record { back = refl }

known_11 : Known 11
unfolding answer refusal_at
known_11 = record { back = refl }

known_12 : Known 12
unfolding answer refusal_at
known_12 = record { back = refl }

known_13 : Known 13
unfolding answer refusal_at
known_13 = record { back = refl }

known_15 : Known 15
unfolding answer refusal_at
known_15 = record { back = refl }

pub known_20 : Known 20
unfolding answer refusal_at
known_20 = record { back = refl }

known_40 : Known 40
unfolding answer refusal_at
known_40 = record { back = refl }

known_41 : Known 41
unfolding answer refusal_at
known_41 = record { back = refl }

known_50 : Known 50
unfolding answer refusal_at
known_50 = record { back = refl }

known_51 : Known 51
unfolding answer refusal_at
known_51 = record { back = refl }

known_53 : Known 53
unfolding answer refusal_at
known_53 = record { back = refl }

known_80 : Known 80
unfolding answer refusal_at
known_80 = record { back = refl }

pub known_81 : Known 81
unfolding answer refusal_at
known_81 = record { back = refl }

known_82 : Known 82
unfolding answer refusal_at
known_82 = record { back = refl }

pub known_83 : Known 83
unfolding answer refusal_at
known_83 = record { back = refl }

pub known_84 : Known 84
unfolding answer refusal_at
known_84 = record { back = refl }

-- a number that isn't 0 is that of its refusal
pub number_back : (k : ℕ) → Known k → (k ≡ 0 → ⊥) → number_of (refusal_at k) ≡ k
unfolding answer
number_back zero h n = absurd (n refl)
number_back (suc k) h n = h.back

-- numbers chosen among such numbers
pub chosen : (b : Bool) (k j : ℕ) → Known k → Known j → Known (cond b k j)
chosen true k j p q = p
chosen false k j p q = q

pub first_of : (k j : ℕ) → Known k → Known j → Known (or_else k j)
first_of zero j p q = q
first_of (suc k) j p q = p

rows_known : (n m r c u : ℕ) → Known (refusal_of n m r c u)
unfolding refusal_of
rows_known n m r c u =
    chosen _ _ _ known_10 (chosen _ _ _ known_11 (chosen _ _ _ known_12 (chosen _ _ _ known_13 (chosen _ _ _ known_15 none_known))))

new_known : (n m r : ℕ) → Known (new_number n m r)
new_known n m r = rows_known n m r 0 0

sections_known : (k arch : ℕ) → Known (sections_number k arch)
unfolding sections_number
sections_known k arch = chosen _ _ _ known_50 (chosen _ _ _ none_known known_51)

current_known : (k arch : ℕ) → Known (wdf.new_number k arch)
unfolding wdf.new_number
current_known k arch = chosen _ _ _ (chosen _ _ _ known_53 none_known) (sections_known k arch)

dither_known : (f : ℕ) (cs : List ℤ) → Known (dither_number f cs)
unfolding dither_number
dither_known f cs = chosen _ _ _ (chosen _ _ _ known_41 none_known) known_40

parameters_known : (v : Version) (s : Setting) → Known (parameters v s)
unfolding parameters
parameters_known One (Cic name n m r) = new_known n m r
parameters_known Two (Cic name n m r) = first_of _ _ (new_known n m 0) (chosen _ _ _ none_known known_12)
parameters_known One (Wdf name arch cs) = sections_known (length cs) arch
parameters_known Two (Wdf name arch cs) = current_known (length cs) arch
parameters_known One (Dither name f cs) = dither_known f cs
parameters_known Two (Dither name f cs) = dither_known f cs

module _ (v : Version) where
  record_known : (k : ℕ) (last : List ℕ) (s : Setting) → Known (record_number (form_of v) k last s)
  unfolding record_number form_of
  record_known k last s = chosen _ _ _ known_83 (chosen _ _ _ (parameters_known v s) known_82)

  listed_known : (k : ℕ) (last : List ℕ) (s : Setting) → Known (listed_number (form_of v) k last s)
  unfolding listed_number
  listed_known k last s = chosen _ _ _ (record_known k last s) known_81

  from_known : (k : ℕ) (last : List ℕ) (ss : List Setting) → Known (list_from (form_of v) k last ss)
  unfolding list_from
  from_known k last [] = none_known
  from_known k last (s ∷ ss) = first_of _ _ (listed_known k last s) (from_known (suc k) ((form_of v).record_name s) ss)

  pub list_known : (ss : List Setting) → Known (list_number (form_of v) ss)
  list_known ss = from_known 0 [] ss

-- what refuses a text
abbrev pub FoundKnown : Found Setting → Type 0
FoundKnown (Good ss) = Unit {0}
FoundKnown (Bad line k) = Known k

module _ (v : Version) where
  judged_known : (k j : ℕ) (s : Setting) (rest : Found Setting) → Known j → FoundKnown rest → FoundKnown (judged (form_of v) k j s rest)
  judged_known k zero s (Good ss) p h = tt
  judged_known k zero s (Bad line n) p h = h
  judged_known k (suc j) s rest p h = p

  then_known : (k : ℕ) (last : List ℕ) (x : Option Setting) (rest : Setting → Found Setting) → ((s : Setting) → FoundKnown (rest s))
      → FoundKnown (line_then (form_of v) k last x rest)
  then_known k last none rest h = known_81
  then_known k last (some s) rest h =
      judged_known k (record_number (form_of v) k last s) s (rest s) (record_known v k last s) (h s)

  ended_known : (b : Bool) (k : ℕ) → FoundKnown (cond b (Good []) (refused_at (form_of v) k 81))
  ended_known true k = tt
  ended_known false k = known_81

  lines_known : (k : ℕ) (last : List ℕ) (lines : List (List ℕ)) → FoundKnown (lines_in (form_of v) k last lines)
  unfolding lines_in
  lines_known k last [] = known_81
  lines_known k last (rest ∷ []) = ended_known (eqb (length rest) 0) k
  lines_known k last (line ∷ next ∷ rest) =
      then_known k last ((form_of v).record_in line) (λ s. lines_in (form_of v) (suc k) ((form_of v).record_name s) (next ∷ rest))
      (λ s. lines_known (suc k) ((form_of v).record_name s) (next ∷ rest))

  opened_known : (b : Bool) (x : Found Setting) → FoundKnown x → FoundKnown (cond b x (Bad 1 80))
  opened_known true x h = h
  opened_known false x h = known_80

  parts_known : (parts : List (List ℕ)) → FoundKnown (opened_by (form_of v) parts)
  unfolding opened_by
  parts_known [] = known_80
  parts_known (first ∷ []) = known_80
  parts_known (first ∷ next ∷ rest) =
      opened_known (same first (form_of v).heading) (lines_in (form_of v) 0 [] (next ∷ rest)) (lines_known 0 [] (next ∷ rest))

  pub read_known : (text : List ℕ) → FoundKnown (read_of (form_of v) text)
  unfolding read_of
  read_known text = parts_known (parted newline text)

-- so the number that a text is refused by is that of its refusal
pub read_row : (v : Version) (text : List ℕ) (line k : ℕ) → read_of (form_of v) text ≡ Bad line k → number_of (refusal_at k) ≡ k
read_row v text line k e =
    number_back k (subst FoundKnown e (read_known v text)) (λ z. numbered (form_of v) text line (e ∙ ap (Bad line) z))

-- and the one that a move is
module _ (from to : Version) (place : Setting → Option Setting) (text : List ℕ) (line k : ℕ) where
  pub move_row : move (form_of from) (form_of to) place text ≡ Refused line k → number_of (refusal_at k) ≡ k
  unfolding move
  move_row e = by (read_of (form_of from) text) refl e
    where
      off : (y : Option (List Setting)) → placed_text (form_of from) (form_of to) place y ≡ Refused line k → number_of (refusal_at k) ≡ k
      off none e = let q : 84 ≡ k = cc in rw (← q) (number_back 84 known_84 (λ z. absurd (omega arith)))
      off (some ts) e = cc

      by : (x : Found Setting) → read_of (form_of from) text ≡ x → moved_by (form_of from) (form_of to) place x ≡ Refused line k
          → number_of (refusal_at k) ≡ k
      by (Good ss) f e = off (placed place ss) e
      by (Bad l n) f e = let q : n ≡ k = cc in rw (← q) (read_row from text l n f)
