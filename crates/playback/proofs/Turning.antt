-- The driver's turns: how each one ends, and that there is room for what it gives out.
use native.Mathlib.Omega.{arith}
use native.Mathlib.Numerals.{add-one}
use mathlib.Core.Path.{◌≡◌, refl, sym, ap, ◌∙◌}
use mathlib.Core.Bool.{Bool, true, false, cond}
use mathlib.Core.List.{List, [], ◌∷◌, ◌++◌, append_assoc, append-nil}
use Prim.Native.Nat.{ℕ, suc, ◌+◌, ◌-◌, ◌*◌, ◌/◌, ◌≤◌, ◌<◌}
use lib.Dec.{eqb, ltb}
use lib.ListN.{
  length,
  take,
  drop,
  get_or,
  set,
  replicate,
  length-append,
  length-take,
  length-drop,
  length-set,
  length-replicate,
  replicate-append-replicate,
  take-append-drop,
  drop_of_length-le,
}
use lib.Seq.{set_at, drop-cons, drop-drop, take-suc, take-suc-set, take_all, length-take-le, drop-length, get_or-drop}
use borrow.Author.Tests.{ne_eqb, lt-ltb, le-ltb, ltb-true, ltb-false}
use Rattle.text.specs.Letters.{newline}
use Rattle.text.specs.Parts.{count}
use Rattle.text.proofs.Parting.{count-append}
use Rattle.text.proofs.Putting.{nothing}
use Rattle.playback.specs.Replays.{end_line, bad_line}
use Rattle.playback.specs.Places.{
  Place,
  counted_up,
  reply_bytes,
  given_by,
  goes_on,
  line_ends,
  end_taken,
  ended,
  fed_of,
  bytes_of,
  finish_bytes,
  place_of,
  replay_of,
}
use Rattle.playback.specs.Inner.Advances.{Collects, Answers, Room, Advances, line_room}
use Rattle.records.specs.declared.session.Taken.{Taken}
use Rattle.playback.specs.declared.driver.Replay.{Replay}
use Rattle.playback.proofs.Lengths.{end_given_law}
use Rattle.playback.proofs.Running.{lined, plain-place, plain-bytes, line-place, line-bytes, runs_then, runs_stopped}

-- the loop that fills the line
module _ (line₀ input : List ℕ) (len from : ℕ) where
  pub record Filling (line : List ℕ) (n i : ℕ) : Type 0 where
    pub low : from ≤ i
    pub high : i ≤ length input
    pub small : n ≤ 64
    pub same_length : length line ≡ 64
    pub text : take n line ≡ take len line₀ ++ take (i - from) (drop from input)
    pub plain : count newline (take (i - from) (drop from input)) ≡ 0

  pub filling_start : len ≤ 64 → from ≤ length input → length line₀ ≡ 64 → Filling line₀ len from
  unfolding count
  filling_start h k e =
      let z : from - from ≡ 0 = omega arith in
      record {
        low = omega arith;
        high = k;
        small = h;
        same_length = e;
        text = rw z (sym (append-nil (take len line₀)));
        plain = rw z refl;
      }

  taken_more : (i : ℕ) → from ≤ i → i < length input → take (i + 1 - from) (drop from input)
      ≡ take (i - from) (drop from input) ++ (get_or input i 0 ∷ [])
  taken_more i h k =
      let e : i + 1 - from ≡ suc (i - from) = omega arith in
      let f : from + (i - from) ≡ i = omega arith in
      rw e (take-suc (drop from input) (i - from) 0 (omega (arith, length-drop from input))
      ∙ ap (λ (b : ℕ). take (i - from) (drop from input) ++ (b ∷ [])) (get_or-drop from input (i - from) 0
      ∙ ap (λ (j : ℕ). get_or input j 0) f))

  pub filling_on : (line : List ℕ) (n i : ℕ) → i < length input → (get_or input i 0 ≡ newline → ⊥) → (n ≡ 64 → ⊥) → Filling line n i
      → Filling (set line n (get_or input i 0)) (n + 1) (i + 1)
  unfolding count
  filling_on line n i h k m f =
      let b = get_or input i 0 in
      let t = taken_more i f.low h in
      record {
        low = omega (arith, f.low);
        high = omega arith;
        small = omega (arith, f.small);
        same_length = length-set line n b ∙ f.same_length;
        text = rw (add-one n) (take-suc-set line n b (omega (arith, f.small, f.same_length))
            ∙ ap (λ (l : List ℕ). l ++ (b ∷ [])) f.text ∙ append_assoc (take len line₀) _ (b ∷ []))
            ∙ ap (λ (l : List ℕ). take len line₀ ++ l) (sym t);
        plain = rw t (count-append newline (take (i - from) (drop from input)) (b ∷ []) ∙ rw (f.plain, ne_eqb b newline k));
      }

  fills : (line : List ℕ) (n i : ℕ) → Filling line n i → (i < length input → line_ends (take n line) (get_or input i 0) ≡ true)
      → Collects (take len line₀) input from (take n line) n i
  fills line n i f e =
      let q : from + (i - from) ≡ i = omega (arith, f.low) in
      record {
        taken = take (i - from) (drop from input);
        plain = f.plain;
        here = sym (take-append-drop (i - from) (drop from input))
            ∙ ap (λ (l : List ℕ). take (i - from) (drop from input) ++ l) (drop-drop (i - from) from input
            ∙ ap (λ (j : ℕ). drop j input) q);
        line = f.text;
        size = length-take-le n line (omega (arith, f.small, f.same_length));
        small = f.small;
        low = f.low;
        high = f.high;
        ends = e;
      }

  pub filled_newline : (line : List ℕ) (n i : ℕ) → get_or input i 0 ≡ newline → Filling line n i
      → Collects (take len line₀) input from (take n line) n i
  filled_newline line n i e f = fills line n i f (λ h. rw e)

  pub filled_full : (line : List ℕ) (n i : ℕ) → (get_or input i 0 ≡ newline → ⊥) → n ≡ 64 → Filling line n i
      → Collects (take len line₀) input from (take n line) n i
  filled_full line n i k e f =
      let s : length (take n line) ≡ n = length-take-le n line (omega (arith, f.same_length)) in
      fills line n i f (λ h. rw (ne_eqb (get_or input i 0) newline k, le-ltb (length (take n line)) 64 (omega arith)))

  pub filled_over : (line : List ℕ) (n i : ℕ) → length input ≤ i → Filling line n i → Collects (take len line₀) input from (take n line) n i
  filled_over line n i h f = fills line n i f (λ k. absurd (omega arith))

-- how a turn over bytes ends
module _ (r : Replay) (input o : List ℕ) (from at : ℕ) where
  pub turn_stopped : r.going ≡ false → r.len ≤ 64 → from ≤ length input → Room (place_of r) (drop from input) o at
      → Advances r input from o at r (length input) at o
  turn_stopped g s h room = record {
    runs = rw (drop-length input) (runs_stopped (place_of r) (drop from input) o at g);
    room = record { within = room.within; fits = λ e. let z : ◌≡◌ {A = ℕ} 0 1 = cc in absurd (omega arith) };
    low = h;
    high = omega arith;
    small = s;
  }

  module _ (g : r.going ≡ true) (room : Room (place_of r) (drop from input) o at) (line : List ℕ) (n i : ℕ)
      (f : Collects (take r.len r.line) input from (take n line) n i) where
    filled_length : length (take n line) ≡ length (take r.len r.line) + length f.taken
    filled_length = ap length f.line ∙ length-append (take r.len r.line) f.taken

    short : length ((place_of r).line ++ f.taken) ≤ 64
    short = rw (sym f.line) (omega (arith, f.size, f.small))

    left_length : length (drop from input) ≡ length f.taken + length (drop i input)
    left_length = ap length f.here ∙ length-append f.taken (drop i input)

    pub turn_over : length input ≤ i → (t : Replay) → place_of t ≡ lined (place_of r) (take n line) → t.len ≤ 64
        → Advances r input from o at t i at o
    turn_over h t e s =
        let d : length (drop i input) ≡ 0 = length-drop i input ∙ omega arith in
        record {
          runs = record {
            place = ap (fed_of (place_of r)) f.here ∙ plain-place f.taken (drop i input) (place_of r) g f.plain short
                ∙ ap (λ (l : List ℕ). fed_of (lined (place_of r) l) (drop i input)) (sym f.line)
                ∙ ap (λ (p : Place). fed_of p (drop i input)) (sym e);
            text = [];
            bytes = ap (bytes_of (place_of r)) f.here ∙ plain-bytes f.taken (drop i input) (place_of r) g f.plain short
                ∙ ap (λ (l : List ℕ). bytes_of (lined (place_of r) l) (drop i input)) (sym f.line)
                ∙ ap (λ (p : Place). bytes_of p (drop i input)) (sym e);
            wrote = nothing o at;
          };
          room = record {
            within = room.within;
            fits = λ z. let k : length (place_of t).line ≡ length (take n line) = ap (λ (p : Place). length p.line) e in omega
                (arith, room.fits g, filled_length, left_length, k);
          };
          low = f.low;
          high = f.high;
          small = s;
        }

    pub turn_ends : (h : i < length input) (t : Taken) → t ≡ end_taken r.session (take n line) (get_or input i 0)
        → (a : Replay) (w : ℕ) (o' : List ℕ) → length o' ≡ length o
        → Answers r t o at a w o' → Advances r input from o at a (i + 1) w o'
    turn_ends h t e a w o' lo s =
        let b = get_or input i 0 in
        let l = take n line in
        let cs = drop (i + 1) input in
        let d : drop i input ≡ b ∷ cs = rw (add-one i) (drop-cons input i 0 h) in
        let here : drop from input ≡ f.taken ++ (b ∷ cs) = f.here ∙ ap (λ (k : List ℕ). f.taken ++ k) d in
        let q : place_of a ≡ ended (place_of r) (end_taken r.session l b) = s.place ∙ ap (ended (place_of r)) e in
        let small : length l ≤ 64 = omega (arith, f.size, f.small) in
        record {
          runs = record {
            place = ap (fed_of (place_of r)) here ∙ line-place f.taken b cs (place_of r) l g f.plain f.line small (f.ends h)
                ∙ ap (λ (p : Place). fed_of p cs) (sym q);
            text = reply_bytes (counted_up r.lines 1) t.reply;
            bytes = ap (bytes_of (place_of r)) here ∙ line-bytes f.taken b cs (place_of r) l g f.plain f.line small (f.ends h)
                ∙ ap (λ (x : Taken). reply_bytes (counted_up r.lines 1) x.reply ++ bytes_of
                (ended (place_of r) (end_taken r.session l b)) cs) (sym e)
                ∙ ap (λ (p : Place). reply_bytes (counted_up r.lines 1) t.reply ++ bytes_of p cs) (sym q);
            wrote = s.wrote;
          };
          room = record {
            within = omega (arith, s.most, room.fits g);
            fits = λ z.
                let k : goes_on t.reply ≡ true = sym (ap (λ (p : Place). p.going) s.place) ∙ z in
                let m : length (place_of a).line ≡ 0 = ap (λ (p : Place). length p.line) s.place in
                let u : line_room t.reply ≡ line_room (end_taken r.session l b).reply = ap (λ (x : Taken). line_room x.reply) e in
                let v : length (drop i input) ≡ suc (length cs) = ap length d in
                omega (arith, room.fits g, s.few k, end_given_law r.session l b, filled_length, left_length);
          };
          low = omega (arith, f.low);
          high = omega arith;
          small = omega (arith, s.none);
        }

pub answered-place : (r : Replay) (t : Taken) (lines outputs : ℕ) (going : Bool) → lines ≡ counted_up r.lines 1 → outputs
    ≡ counted_up r.outputs (given_by t.reply) → going ≡ goes_on t.reply
    → ◌≡◌ {A = Place} (record { session = t.session; lines = lines; outputs = outputs; line = []; going = going }) (ended (place_of r) t)
answered-place r t lines outputs going e f g =
    ap (λ (x : ℕ). record { session = t.session; lines = x; outputs = outputs; line = []; going = going }) e
    ∙ ap (λ (x : ℕ). record { session = t.session; lines = counted_up r.lines 1; outputs = x; line = []; going = going }) f
    ∙ ap (λ (x : Bool). record {
      session = t.session;
      lines = counted_up r.lines 1;
      outputs = counted_up r.outputs (given_by t.reply);
      line = [];
      going = x;
    }) g

-- the test for room
pub short_test : (len n : ℕ) → 492 ≤ len → ltb ((len - 492) / 7) n ≡ ltb len (7 * n + 492)
short_test len n h = by (ltb len (7 * n + 492)) refl
  where
    by : (t : Bool) → ltb len (7 * n + 492) ≡ t → ltb ((len - 492) / 7) n ≡ t
    by true e = let k = ltb-true len (7 * n + 492) e in lt-ltb ((len - 492) / 7) n (omega arith)
    by false e = let k = ltb-false len (7 * n + 492) e in le-ltb ((len - 492) / 7) n (omega arith)

-- no more than 64 bytes of a line are kept
pub clip_place : (r : Replay) → length r.line ≡ 64 → 64 < r.len
    → place_of (record { session = r.session; lines = r.lines; outputs = r.outputs; line = r.line; len = 64; going = r.going })
    ≡ place_of r
clip_place r e h =
    ap (λ (l : List ℕ). record { session = r.session; lines = r.lines; outputs = r.outputs; line = l; going = r.going })
    (take_all 64 r.line (omega arith) ∙ sym (take_all r.len r.line (omega arith)))

pub turns_then : {r r₁ r₂ : Replay} {input o o₁ o₂ : List ℕ} {from j k at w₁ w₂ : ℕ} → at ≤ length o
    → Advances r input from o at r₁ j w₁ o₁ → Advances r₁ input j o₁ w₁ r₂ k w₂ o₂ → Advances r input from o at r₂ k w₂ o₂
turns_then h x y = record {
  runs = runs_then h x.runs y.runs;
  room = y.room;
  low = omega (arith, x.low, y.low);
  high = y.high;
  small = y.small;
}

-- zeros behind a line
module _ (l : List ℕ) (len i : ℕ) (low : len ≤ i) (whole : length l ≡ 64) where
  pub pad_start : i ≡ len → l ≡ take len l ++ (replicate (i - len) 0 ++ drop i l)
  pad_start e =
      let z : i - len ≡ 0 = omega arith in
      rw z (sym (take-append-drop len l) ∙ ap (λ (j : ℕ). take len l ++ drop j l) (sym e))

  pub pad_on : (a : List ℕ) → i < 64 → a ≡ take len l ++ (replicate (i - len) 0 ++ drop i l) → set a i 0
      ≡ take len l ++ (replicate (i + 1 - len) 0 ++ drop (i + 1) l)
  pad_on a h e =
      let k = i - len in
      let p : List ℕ = take len l ++ replicate k 0 in
      let n : length p ≡ i = length-append (take len l) (replicate k 0)
      ∙ (omega (arith, length-take-le len l (omega arith), length-replicate {A = ℕ} k 0)) in
      let d : drop i l ≡ get_or l i 0 ∷ drop (i + 1) l = rw (add-one i) (drop-cons l i 0 (omega arith)) in
      let m : k + 1 ≡ i + 1 - len = omega arith in
      let s : replicate k 0 ++ (0 ∷ drop (i + 1) l) ≡ replicate (i + 1 - len) 0 ++ drop (i + 1) l =
      sym (append_assoc (replicate k 0) (0 ∷ []) (drop (i + 1) l))
      ∙ ap (λ (x : List ℕ). x ++ drop (i + 1) l) (replicate-append-replicate k 1 0 ∙ ap (λ (j : ℕ). replicate j 0) m) in
      ap (λ (x : List ℕ). set x i 0) (e ∙ sym (append_assoc (take len l) (replicate k 0) (drop i l)) ∙ ap (λ (x : List ℕ). p ++ x) d)
      ∙ set_at p (get_or l i 0) (drop (i + 1) l) 0 i n
      ∙ append_assoc (take len l) (replicate k 0) (0 ∷ drop (i + 1) l)
      ∙ ap (λ (x : List ℕ). take len l ++ x) s

  pub pad_end : (a : List ℕ) → i ≡ 64 → a ≡ take len l ++ (replicate (i - len) 0 ++ drop i l) → a ≡ take len l ++ replicate (64 - len) 0
  pad_end a h e =
      let d : drop i l ≡ [] = drop_of_length-le l {i = i} (omega arith) in
      e ∙ ap (λ (x : List ℕ). take len l ++ (replicate (i - len) 0 ++ x)) d
      ∙ ap (λ (x : List ℕ). take len l ++ x) (append-nil (replicate (i - len) 0)) ∙ ap (λ (j : ℕ). take len l ++ replicate (j - len) 0) h

pub tidy_is : (r : Replay) (line : List ℕ) → r.len ≤ 64 → length r.line ≡ 64 → line
    ≡ take r.len r.line ++ replicate (64 - r.len) 0
    → ◌≡◌ {A = Replay} (record {
      session = r.session;
      lines = r.lines;
      outputs = r.outputs;
      line = line;
      len = r.len;
      going
          = r.going;
    }) (replay_of (place_of r))
tidy_is r line h e p =
    let n : r.len ≡ length (take r.len r.line) = sym (length-take-le r.len r.line (omega arith)) in
    ap (λ (x : List ℕ). record { session = r.session; lines = r.lines; outputs = r.outputs; line = x; len = r.len; going = r.going }) p
    ∙ ap (λ (x : ℕ). record {
      session = r.session;
      lines = r.lines;
      outputs = r.outputs;
      line = take r.len r.line ++ replicate (64 - x) 0;
      len = x;
      going = r.going;
    }) n

-- the end of the input
chosen : {A : Type 0} (b : Bool) (x y : A) (c : Bool) → b ≡ c → cond c x y ≡ cond b x y
chosen b x y c e = sym (rw e)

module _ (r : Replay) where
  pub finish_stopped : r.going ≡ false → [] ≡ finish_bytes (place_of r)
  unfolding finish_bytes
  finish_stopped g = chosen r.going _ [] false g

  pub finish_end : r.going ≡ true → r.len ≡ 0 → end_line r.outputs ≡ finish_bytes (place_of r)
  unfolding finish_bytes
  finish_end g e = inner ∙ chosen r.going (cond (eqb (length (take r.len r.line)) 0) (end_line r.outputs)
      (bad_line (counted_up r.lines 1) 77 0)) [] true g
    where
      inner : end_line r.outputs ≡ cond (eqb (length (take r.len r.line)) 0) (end_line r.outputs)
          (bad_line (counted_up r.lines 1) 77 0)
      inner = chosen (eqb (length (take r.len r.line)) 0) (end_line r.outputs) (bad_line (counted_up r.lines 1) 77 0) true
          (ap (λ (n : ℕ). eqb (length (take n r.line)) 0) e)

  pub finish_bad : (n : ℕ) → r.going ≡ true → length r.line ≡ 64 → (r.len ≡ 0 → ⊥) → n ≡ counted_up r.lines 1 → bad_line n 77 0
      ≡ finish_bytes (place_of r)
  unfolding finish_bytes
  finish_bad n g w e l =
      ap (λ (k : ℕ). bad_line k 77 0) l
      ∙ chosen (eqb (length (take r.len r.line)) 0) (end_line r.outputs) (bad_line (counted_up r.lines 1) 77 0) false
      (ne_eqb _ _ (λ z. e (empty z)))
      ∙ chosen r.going (cond (eqb (length (take r.len r.line)) 0) (end_line r.outputs)
      (bad_line (counted_up r.lines 1) 77 0)) [] true g
    where
      empty : length (take r.len r.line) ≡ 0 → r.len ≡ 0
      empty z = omega (arith, length-take r.len r.line)

-- a turn takes a byte at least
pub progress : (n i j k : ℕ) → i < n → i ≤ j → j ≤ k → k ≤ n → (j < n → j < k) → n - k < n - i
progress n i j k h a b c on = by (ltb j n) refl
  where
    by : (t : Bool) → ltb j n ≡ t → n - k < n - i
    by true e = omega (arith, on (ltb-true j n e))
    by false e = let m = ltb-false j n e in omega arith
