-- The replay byte by byte is the replay line by line, and an input may come in any parts.
use native.Mathlib.Omega.{arith}
use mathlib.Core.Path.{◌≡◌, refl, sym, ap, ◌∙◌}
use mathlib.Core.Bool.{Bool, true, false, cond}
use mathlib.Core.List.{List, [], ◌∷◌, ◌++◌, append_assoc, append-nil}
use Prim.Native.Nat.{ℕ, suc, ◌+◌, ◌^◌, ◌≤◌, ◌<◌}
use lib.Dec.{eqb, ltb}
use lib.ListN.{length, length-append}
use lib.Seq.{take-append_seam}
use borrow.Author.Tests.{ne_eqb, lt-ltb, le-ltb, eqb-false, ltb-true, ltb-false}
use Rattle.text.specs.Letters.{newline}
use Rattle.text.specs.Parts.{parted, onto}
use Rattle.text.proofs.Parting.{parted-first}
use Rattle.records.specs.Sessions.{own_words, kept_words, refuse, line_of}
use Rattle.playback.specs.Replays.{end_line, bad_line, answered, closing, replay_from, replay}
use Rattle.playback.specs.Places.{
  Place,
  counted_up,
  reply_bytes,
  given_by,
  goes_on,
  line_ends,
  end_taken,
  ended,
  step_place,
  step_bytes,
  fed_of,
  bytes_of,
  finish_bytes,
  start,
  place_of,
  replay_of,
  concatenated,
  in_parts,
}
use Rattle.records.specs.declared.session.Session.{Session}
use Rattle.records.specs.declared.session.Reply.{Reply}
use Rattle.records.specs.declared.session.Taken.{Taken}
use Rattle.playback.specs.declared.driver.Replay.{Replay}
use Rattle.playback.proofs.Seeing.{replay-seen, seen-unopened}
use Rattle.playback.proofs.Running.{stopped_place, stopped_bytes, step-ends, bytes_end, step_on, bytes_on, stays_open}

-- all that comes of bs and then the end, from a place
abbrev pub wholly : Place → List ℕ → List ℕ
wholly p bs = bytes_of p bs ++ finish_bytes (fed_of p bs)

abbrev at : Session → ℕ → ℕ → List ℕ → Place
at s n k l = record { session = s; lines = n; outputs = k; line = l; going = true }

abbrev top : ℕ
top = 18446744073709551615

-- a line so far in front of the first part
abbrev prefixed : List ℕ → List (List ℕ) → List (List ℕ)
prefixed l [] = l ∷ []
prefixed l (p ∷ ps) = (l ++ p) ∷ ps

prefixed_more : (l : List ℕ) (b : ℕ) (ps : List (List ℕ)) → prefixed l (onto b ps) ≡ prefixed (l ++ (b ∷ [])) ps
prefixed_more l b [] = refl
prefixed_more l b (p ∷ ps) = ap (λ (x : List ℕ). x ∷ ps) (sym (append_assoc l (b ∷ []) p))

-- the end of the input
closes : (s : Session) (n k : ℕ) (l : List ℕ) → length l ≤ 64 → n + length l ≤ top → finish_bytes (at s n k l) ≡ closing n k l
unfolding finish_bytes
closes s n k l h c = by (eqb (length l) 0) refl
  where
    by : (t : Bool) → eqb (length l) 0 ≡ t → cond t (end_line k) (bad_line (counted_up n 1) 77 0)
        ≡ cond t (end_line k) (bad_line (suc n) (cond (ltb 64 (length l)) 72 77) 0)
    by true e = refl
    by false e =
        let z = eqb-false (length l) 0 e in
        let m : counted_up n 1 ≡ suc n = omega arith in
        rw (m, le-ltb 64 (length l) h)

-- a stopped replay gives nothing more
stopped : (p : Place) (bs : List ℕ) → p.going ≡ false → wholly p bs ≡ []
unfolding finish_bytes
stopped p bs h = rw (stopped_bytes p h bs, stopped_place p h bs) (last p.going h)
  where
    last : (g : Bool) → g ≡ false → cond g (cond (eqb (length p.line) 0) (end_line p.outputs)
        (bad_line (counted_up p.lines 1) 77 0)) [] ≡ []
    last g e = rw e

wholly_step : (p : Place) (b : ℕ) (bs : List ℕ) → wholly p (b ∷ bs) ≡ step_bytes p b ++ wholly (step_place p b) bs
unfolding bytes_of fed_of
wholly_step p b bs = append_assoc (step_bytes p b) (bytes_of (step_place p b) bs) (finish_bytes (fed_of (step_place p b) bs))

-- a line is ended by the reply t
module _ (s : Session) (n k : ℕ) (l : List ℕ) (bs : List ℕ) (room : suc n + length bs ≤ top) (more : suc k + length bs ≤ top) where
  line_on : (t : Taken) (rest : ℕ → List ℕ)
      → ((j : ℕ) → j + length bs ≤ top → wholly (at t.session (suc n) j []) bs ≡ rest j)
      → reply_bytes (counted_up n 1) t.reply ++ wholly (ended (at s n k l) t) bs ≡ answered t.reply (suc n) k rest
  line_on t rest on = by t.reply
    where
      lines : counted_up n 1 ≡ suc n
      lines = omega arith

      same_k : counted_up k 0 ≡ k
      same_k = omega arith

      more_k : counted_up k 1 ≡ suc k
      more_k = omega arith

      by : (r : Reply) → reply_bytes (counted_up n 1) r ++ wholly (record
          { session = t.session; lines = counted_up n 1; outputs = counted_up k (given_by r); line = []; going = goes_on r }) bs
          ≡ answered r (suc n) k rest
      by Reply.Silent = rw (lines, same_k) (on k (omega arith))
      by (Reply.Output y) = rw (lines, more_k) (ap (λ (x : List ℕ). reply_bytes (suc n) (Reply.Output y) ++ x)
          (on (suc k) (omega arith)))
      by (Reply.Bad f) =
          ap (λ (x : List ℕ). bad_line (counted_up n 1) f.number f.place ++ x) (stopped _ bs refl)
          ∙ append-nil (bad_line (counted_up n 1) f.number f.place)
          ∙ ap (λ (j : ℕ). bad_line j f.number f.place) lines

-- a line over 64 bytes
long-line : (s : Session) (n k : ℕ) (line : List ℕ) (ps : List (List ℕ)) → 64 < length line → replay_from kept_words s n k (line ∷ ps)
    ≡ bad_line (suc n) 72 0
unfolding replay_from line_of
long-line s n k line [] h = rw (ne_eqb (length line) 0 (λ z. omega arith), lt-ltb 64 (length line) h)
long-line s n k line (p ∷ ps) h = rw (lt-ltb 64 (length line) h)

line_first : (s : Session) (n k : ℕ) (line : List ℕ) (bs : List ℕ)
    → replay_from kept_words s n k (line ∷ parted newline bs) ≡ answered (line_of kept_words s line).reply (suc n) k
    (λ j. replay_from kept_words (line_of kept_words s line).session (suc n) j (parted newline bs))
unfolding replay_from
line_first s n k line bs = rw (parted-first newline bs)

prefixed_none : (bs : List ℕ) → prefixed [] (parted newline bs) ≡ parted newline bs
prefixed_none bs = rw (parted-first newline bs)

-- what a byte adds to what the rest gives
module _ (b : ℕ) (bs : List ℕ) (s : Session) (n k : ℕ) (l : List ℕ) (h : length l ≤ 64) (c : n + length l + suc (length bs) ≤ top)
    (d : k + length l + suc (length bs) ≤ top)
    (on : (s : Session) (n k : ℕ) (l : List ℕ) → length l ≤ 64 → n + length l + length bs ≤ top → k + length l + length bs ≤ top
    → wholly (at s n k l) bs ≡ replay_from kept_words s n k (prefixed l (parted newline bs))) where
  line-ended : line_ends l b ≡ true → (t : Taken) → end_taken s l b ≡ t → wholly (at s n k l) (b ∷ bs)
      ≡ reply_bytes (counted_up n 1) t.reply ++ wholly (ended (at s n k l) t) bs
  line-ended e t q =
      wholly_step (at s n k l) b bs
      ∙ ap (λ (x : List ℕ). x ++ wholly (step_place (at s n k l) b) bs) (bytes_end (at s n k l) refl b e)
      ∙ ap (λ (p : Place). reply_bytes (counted_up n 1) (end_taken s l b).reply ++ wholly p bs) (step-ends (at s n k l) refl b e)
      ∙ ap (λ (x : Taken). reply_bytes (counted_up n 1) x.reply ++ wholly (ended (at s n k l) x) bs) q

  at_newline : eqb b newline ≡ true → wholly (at s n k l) (b ∷ bs) ≡ replay_from kept_words s n k ((l ++ []) ∷ parted newline bs)
  at_newline e =
      let t = line_of kept_words s l in
      let rest : ℕ → List ℕ = λ j. replay_from kept_words t.session (suc n) j (parted newline bs) in
      line-ended (rw e) t (rw e)
      ∙ line_on s n k l bs (omega arith) (omega arith) t rest (λ j m. on t.session (suc n) j [] (omega arith) (omega arith)
      (omega arith) ∙ ap (replay_from kept_words t.session (suc n) j) (prefixed_none bs))
      ∙ sym (line_first s n k l bs)
      ∙ ap (λ (x : List ℕ). replay_from kept_words s n k (x ∷ parted newline bs)) (sym (append-nil l))

  at_longer : eqb b newline ≡ false → length l < 64 → wholly (at s n k l) (b ∷ bs)
      ≡ replay_from kept_words s n k (prefixed l (onto b (parted newline bs)))
  at_longer e g =
      let f : line_ends l b ≡ false = stays_open l b (eqb-false b newline e) g in
      let m : length (l ++ (b ∷ [])) ≡ length l + 1 = length-append l (b ∷ []) in
      wholly_step (at s n k l) b bs
      ∙ ap (λ (x : List ℕ). x ++ wholly (step_place (at s n k l) b) bs) (bytes_on (at s n k l) refl b f)
      ∙ ap (λ (p : Place). wholly p bs) (step_on (at s n k l) refl b f)
      ∙ on s n k (l ++ (b ∷ [])) (omega arith) (omega arith) (omega arith)
      ∙ ap (replay_from kept_words s n k) (sym (prefixed_more l b (parted newline bs)))

  at_65th : eqb b newline ≡ false → 64 ≤ length l → wholly (at s n k l) (b ∷ bs)
      ≡ replay_from kept_words s n k (prefixed l (onto b (parted newline bs)))
  at_65th e g =
      let m : counted_up n 1 ≡ suc n = omega arith in
      line-ended (rw (e, le-ltb (length l) 64 g)) (refuse s 72) (rw e)
      ∙ ap (λ (x : List ℕ). bad_line (counted_up n 1) 72 0 ++ x) (stopped (ended (at s n k l) (refuse s 72)) bs refl)
      ∙ append-nil (bad_line (counted_up n 1) 72 0) ∙ ap (λ (j : ℕ). bad_line j 72 0) m
      ∙ sym (long (parted newline bs))
    where
      long : (ps : List (List ℕ)) → replay_from kept_words s n k (prefixed l (onto b ps)) ≡ bad_line (suc n) 72 0
      long [] = long-line s n k (l ++ (b ∷ [])) [] (omega (arith, length-append l (b ∷ [])))
      long (p ∷ ps) = long-line s n k (l ++ (b ∷ p)) ps (omega (arith, length-append l (b ∷ p)))

  at_byte : wholly (at s n k l) (b ∷ bs) ≡ replay_from kept_words s n k (prefixed l (parted newline (b ∷ bs)))
  unfolding parted
  at_byte = by (eqb b newline) refl
    where
      other : (t : Bool) → ltb (length l) 64 ≡ t → eqb b newline ≡ false → wholly (at s n k l) (b ∷ bs)
          ≡ replay_from kept_words s n k (prefixed l (onto b (parted newline bs)))
      other true g e = at_longer e (ltb-true (length l) 64 g)
      other false g e = at_65th e (ltb-false (length l) 64 g)

      by : (t : Bool) → eqb b newline ≡ t → wholly (at s n k l) (b ∷ bs)
          ≡ replay_from kept_words s n k (prefixed l (cond t ([] ∷ parted newline bs) (onto b (parted newline bs))))
      by true e = at_newline e
      by false e = other (ltb (length l) 64) refl e

from_place : (bs : List ℕ) (s : Session) (n k : ℕ) (l : List ℕ) → length l ≤ 64 → n + length l + length bs ≤ top
    → k + length l + length bs ≤ top
    → wholly (at s n k l) bs ≡ replay_from kept_words s n k (prefixed l (parted newline bs))
unfolding bytes_of fed_of parted replay_from
from_place [] s n k l h c d = closes s n k l h (omega arith) ∙ ap (closing n k) (sym (append-nil l))
from_place (b ∷ bs) s n k l h c d = at_byte b bs s n k l h c d (from_place bs)

-- The replay of a whole input of fewer than 2 ^ 64 bytes, no count of which goes past 64 bits.
pub whole : (input : List ℕ) → length input < 2 ^ 64 → wholly start input ≡ replay input
unfolding replay
whole input h = from_place input start.session 0 0 [] (omega arith) (omega arith) (omega arith)
    ∙ ap (replay_from kept_words start.session 0 0) (prefixed_none input)
    ∙ replay-seen start.session 0 0 (parted newline input)
    ∙ ap (λ (s : Session). replay_from own_words s 0 0 (parted newline input)) seen-unopened

-- parts one after the other
fed-append : (a b : List ℕ) (p : Place) → fed_of p (a ++ b) ≡ fed_of (fed_of p a) b
unfolding fed_of
fed-append [] b p = refl
fed-append (x ∷ a) b p = fed-append a b (step_place p x)

bytes-append : (a b : List ℕ) (p : Place) → bytes_of p (a ++ b) ≡ bytes_of p a ++ bytes_of (fed_of p a) b
unfolding bytes_of fed_of
bytes-append [] b p = refl
bytes-append (x ∷ a) b p = ap (λ (l : List ℕ). step_bytes p x ++ l) (bytes-append a b (step_place p x))
    ∙ sym (append_assoc (step_bytes p x) (bytes_of (step_place p x) a) _)

wholly_append : (a b : List ℕ) (p : Place) → wholly p (a ++ b) ≡ bytes_of p a ++ wholly (fed_of p a) b
wholly_append a b p =
    rw (fed-append a b p, bytes-append a b p) (append_assoc (bytes_of p a) (bytes_of (fed_of p a) b) (finish_bytes (fed_of (fed_of p a) b)))

-- what a part leaves is read back as it was
place-back : (p : Place) → place_of (replay_of p) ≡ p
place-back p = ap (λ (l : List ℕ). record {
  session = p.session;
  lines = p.lines;
  outputs = p.outputs;
  line = l;
  going = p.going;
}) (take-append_seam p.line _)

in_parts_law : (parts : List (List ℕ)) (r : Replay) → in_parts r parts ≡ wholly (place_of r) (concatenated parts)
unfolding in_parts concatenated bytes_of fed_of
in_parts_law [] r = refl
in_parts_law (part ∷ rest) r =
    ap (λ (l : List ℕ). bytes_of (place_of r) part ++ l) (in_parts_law rest (replay_of (fed_of (place_of r) part))
    ∙ ap (λ (p : Place). wholly p (concatenated rest)) (place-back (fed_of (place_of r) part)))
    ∙ sym (wholly_append part (concatenated rest) (place_of r))

-- However an input of fewer than 2 ^ 64 bytes is cut, its parts and its end together give what the whole input gives.
pub parts : (ps : List (List ℕ)) → length (concatenated ps) < 2 ^ 64 → in_parts (replay_of start) ps ≡ replay (concatenated ps)
parts ps h = in_parts_law ps (replay_of start) ∙ ap (λ (p : Place). wholly p (concatenated ps)) (place-back start) ∙ whole (concatenated ps) h
