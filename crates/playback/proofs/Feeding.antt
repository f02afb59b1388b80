-- A part of the input, and a whole input: how each call ends.
use native.Mathlib.Omega.{arith}
use mathlib.Core.Path.{◌≡◌, sym, ap, ◌∙◌}
use mathlib.Core.Bool.{Bool, true, false}
use mathlib.Core.List.{List, [], ◌++◌}
use Prim.Native.Nat.{ℕ, zero, suc, ◌+◌, ◌*◌, ◌^◌, ◌≤◌, ◌<◌}
use lib.Dec.{ltb}
use lib.ListN.{length, drop, length-take, length-append}
use lib.Seq.{drop-length}
use borrow.Author.Tests.{ltb-false, le-ltb}
use Rattle.text.specs.Writing.{Wrote}
use Rattle.text.proofs.Putting.{then, wrote-same}
use Rattle.playback.specs.Replays.{replay}
use Rattle.playback.specs.Places.{Place, fed_of, bytes_of, finish_bytes, start, place_of, replay_of, feed_number, front_written, written, PartFed}
use Rattle.playback.specs.Inner.Advances.{Room, Advances}
use Rattle.playback.specs.declared.driver.Replay.{Replay}
use Rattle.std.specs.Prelude.{Result, Ok, Err}
use Rattle.blocks.specs.declared.refusal.Refusal.{Refusal}
use Rattle.blocks.specs.Refusals.{answer}
use Rattle.playback.proofs.Answering.{refused_20, done}
use Rattle.playback.proofs.Running.{runs_end}
use Rattle.playback.proofs.Wholes.{wholly, whole}

module _ (input out : List ℕ) (short : Bool) (is : short ≡ ltb (length out) (7 * length input + 492)) where
  pub too_short : short ≡ true → feed_number input out ≡ 20
  too_short e = rw (sym is ∙ e)

  pub long_enough : short ≡ false → feed_number input out ≡ 0
  long_enough e = rw (sym is ∙ e)

  pub room_for : short ≡ false → (r : Replay) → r.len ≤ 64 → Room (place_of r) input out 0
  room_for e r h =
      let k = ltb-false (length out) (7 * length input + 492) (sym is ∙ e) in
      record { within = omega arith; fits = λ g. omega (arith, length-take r.len r.line) }

-- a part that was refused or taken
module _ (r : Replay) (input out : List ℕ) where
  pub feed_refused : feed_number input out ≡ 20 → PartFed r input out (Err Refusal.ShortOutput) r out
  feed_refused e = let w = refused_20 (feed_number input out) (bytes_of (place_of r) input) out e in (sym (rw e), w.0, w.1)

  -- a run to the end of the part
  module _ (first last : Replay) (here : place_of first ≡ place_of r) (next w : ℕ) (o' : List ℕ)
      (t : Advances first input 0 out 0 last next w o') (all : next ≡ length input) where
    ran_all : (fed_of (place_of r) input ≡ place_of last) × Wrote out 0 (bytes_of (place_of r) input) w o'
    ran_all =
        let e : drop next input ≡ [] = ap (λ (j : ℕ). drop j input) all ∙ drop-length input in
        let q = runs_end (place_of first) input out 0 (place_of last) w o' (rw e at t.runs) in
        (ap (λ (p : Place). fed_of p input) (sym here) ∙ q.0, wrote-same (ap (λ (p : Place). bytes_of p input) here) q.1)

    pub feed_done : feed_number input out ≡ 0 → (tidy : Replay) → tidy ≡ replay_of (place_of last) → PartFed r input out (Ok w) tidy o'
    feed_done e tidy q =
        let d = done (feed_number input out) (bytes_of (place_of r) input) out o' w e ran_all.1 in
        let p : tidy ≡ replay_of (fed_of (place_of r) input) = q ∙ ap replay_of (sym ran_all.0) in (p ∙ sym (rw e), d.0, d.1)

    -- and then the end of the input
    pub ran_whole : place_of r ≡ start → length input < 2 ^ 64 → (n : ℕ) (o'' : List ℕ)
        → Wrote o' w (finish_bytes (place_of last)) n o'' → Wrote out 0 (replay input) n o''
    ran_whole s h n o'' f =
        let a : bytes_of (place_of r) input ++ finish_bytes (place_of last) ≡ wholly start input =
        ap (λ (p : Place). bytes_of (place_of r) input ++ finish_bytes p) (sym ran_all.0) ∙ ap (λ (p : Place). wholly p input) s in
        wrote-same (a ∙ whole input h) (then (omega arith) ran_all.1 f)

-- for callers: what was written is within the slice, and a part for which there is room is taken
pub count_fits : (number : ℕ) (bs o o' : List ℕ) (n : ℕ) → Ok n ≡ written number bs → o' ≡ front_written number bs o → n ≤ length o'
unfolding answer
count_fits zero bs o o' n e q =
    let p : n ≡ length bs = cc in omega (arith, p, ap length q, length-append bs (drop (length bs) o))
count_fits (suc k) bs o o' n e q = absurd (let z : ◌≡◌ {A = ℕ} 0 1 = cc in omega arith)

pub feed_takes : (r : Replay) (input out : List ℕ) (n : ℕ) (after : Replay) (left : List ℕ)
    → 7 * length input + 492 ≤ length out → PartFed r input out (Ok n) after left
    → (after ≡ replay_of (fed_of (place_of r) input)) × (n ≡ length (bytes_of (place_of r) input)) × (n ≤ length left)
unfolding answer
feed_takes r input out n after left h f =
    let z : feed_number input out ≡ 0 = rw (le-ltb (length out) (7 * length input + 492) h) in
    let e : ◌≡◌ {A = Result ℕ Refusal} (Ok n) (Ok (length (bytes_of (place_of r) input))) = f.1 ∙ rw z in
    let m : n ≡ length (bytes_of (place_of r) input) = cc in
    (f.0 ∙ rw z, m, count_fits (feed_number input out) (bytes_of (place_of r) input) out left n f.1 f.2)

pub never_short : (r : Replay) (input out : List ℕ) (e : Refusal) (after : Replay) (left : List ℕ)
    → 7 * length input + 492 ≤ length out → PartFed r input out (Err e) after left → ⊥
unfolding answer
never_short r input out e after left h f =
    let z : feed_number input out ≡ 0 = rw (le-ltb (length out) (7 * length input + 492) h) in
    let d : ◌≡◌ {A = Result ℕ Refusal} (Err e) (Ok (length (bytes_of (place_of r) input))) = f.1 ∙ rw z in
    absurd (let o : ◌≡◌ {A = ℕ} 0 1 = cc in omega arith)
