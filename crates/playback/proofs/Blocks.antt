-- A turn over `x` lines: the block of the filter that they are, and the replay after it.
use native.Mathlib.Omega.{arith}
use mathlib.Core.Path.{◌≡◌, refl, sym, ap, ◌∙◌}
use mathlib.Core.Bool.{Bool, true, false, ◌&&◌}
use mathlib.Core.List.{List, [], ◌∷◌, ◌++◌}
use mathlib.Core.Option.{Option, none, some}
use Prim.Native.Nat.{ℕ, suc, ◌+◌, ◌-◌, ◌*◌, ◌≤◌, ◌<◌}
use lib.Dec.{eqb}
use lib.IntN.{ℤ}
use lib.ListN.{length, get_or, take, drop, length-drop}
use lib.Seq.{length-take-le, take-append_seam}
use borrow.Author.Tests.{eqb-true}
use Rattle.text.specs.Writing.{Wrote}
use Rattle.text.proofs.Putting.{wrote-same}
use Rattle.sums.specs.Machine.{Output}
use Rattle.sums.specs.State.{State}
use Rattle.sums.specs.Calls.{step_state, step_given}
use Rattle.sums.specs.Runs.{needed, join, values, first_told, outputs, after}
use Rattle.sums.specs.Counted.{most_inputs, block_number, plain, first_number, taken_outputs, block_state, block_out}
use Rattle.sums.proofs.Refusals.{owed_most}
use Rattle.sums.proofs.Steps.{Fit, fitted}
use Rattle.sums.proofs.Counts.{outputs-length, outputs-told}
use Rattle.sums.proofs.Blocks.{values_length}
use Rattle.sums.proofs.Numbering.{block_accepts, block_room, taken-after, plain-taken}
use Rattle.cic.specs.Reading.{state_of, counted_of, cic_of}
use Rattle.std.specs.Prelude.{Result, Ok}
use Rattle.blocks.specs.declared.refusal.Refusal.{Refusal}
use Rattle.blocks.proofs.Refusals.{taken_number, taken_value}
use Rattle.shape.specs.Answers.{block_wrote}
use Rattle.cic.specs.declared.state.Cic.{Cic}
use Rattle.shape.specs.declared.runs.Written.{Written}
use Rattle.playback.specs.Places.{Place, counted_up, fed_of, bytes_of, place_of}
use Rattle.playback.specs.Inner.Advances.{Gathers, output_lines, Room, Advances, after_block}
use Rattle.records.specs.declared.session.Session.{Session}
use Rattle.playback.specs.declared.driver.Replay.{Replay}
use Rattle.playback.proofs.Running.{runs_none}
use Rattle.playback.proofs.Batches.{between, filter_at, ran, batch_place, batch_bytes}
use Rattle.sums.specs.Ops.{Ops}
use Rattle.sums.specs.Signed.{signed_ops}
use Rattle.std.specs.Int.{w64}

-- the words that are kept
abbrev word_ops : Ops ℤ
word_ops = signed_ops w64

-- a turn that does nothing
pub turn_same : (r : Replay) (input o : List ℕ) (from at : ℕ) → r.len ≤ 64 → from ≤ length input
    → Room (place_of r) (drop from input) o at → Advances r input from o at r from at o
turn_same r input o from at s h room = record {
  runs = runs_none (place_of r) (drop from input) o at;
  room = room;
  low = omega arith;
  high = h;
  small = s;
}

-- where a block may be taken
pub all_ready : (going opened : Bool) (len : ℕ) → (going && (opened && eqb len 0)) ≡ true → (going ≡ true) × (opened ≡ true) × (len ≡ 0)
all_ready true true len e = (refl, refl, eqb-true len 0 e)
all_ready true false len e = let z : ◌≡◌ {A = ℕ} 0 1 = cc in absurd (omega arith)
all_ready false opened len e = let z : ◌≡◌ {A = ℕ} 0 1 = cc in absurd (omega arith)

join-few : (g : Option (Output ℤ)) (l : List (Output ℤ)) → length (join g l) ≤ suc (length l)
join-few (some y) l = omega arith
join-few none l = omega arith

outputs-few : (s : State ℤ) (xs : List ℤ) → length (outputs word_ops s xs) ≤ length xs
unfolding outputs
outputs-few s [] = omega arith
outputs-few s (x ∷ xs) = omega (
  arith,
  join-few (step_given word_ops s x) (outputs word_ops (step_state word_ops s x) xs),
  outputs-few (step_state word_ops s x) xs,
)

place_is : (s : Session) (n k len : ℕ) (line : List ℕ) (b : Bool) → s.opened ≡ true → b ≡ true → len ≡ 0
    → ◌≡◌ {A = Place} (record { session = s; lines = n; outputs = k; line = take len line; going = b })
    (between s.wide (counted_of s.filter) n k)
place_is s n k len line b o e z =
    ap (λ (x : Bool). record { session = s; lines = n; outputs = k; line = take len line; going = x }) e
    ∙ ap (λ (x : ℕ). record { session = s; lines = n; outputs = k; line = take x line; going = true }) z
    ∙ ap (λ (x : Bool). record {
      session = record { opened = x; wide = s.wide; filter = s.filter };
      lines = n;
      outputs = k;
      line = [];
      going = true;
    }) o

-- the count told with the first output is the one found, where there is an output
first-lines : (wide : Bool) (ys : List (Output ℤ)) (u : ℕ) → ((d : Output ℤ) → 0 < length ys → (get_or ys 0 d).told ≡ u - 0)
    → output_lines wide (first_told ys) (values ys) ≡ output_lines wide u (values ys)
unfolding output_lines
first-lines wide [] u h = refl
first-lines wide (y ∷ ys) u h =
    let e : y.told ≡ u = omega (arith, h y (omega arith)) in
    ap (λ (n : ℕ). output_lines wide n (values (y ∷ ys))) e

first-most : (ys : List (Output ℤ)) (u : ℕ) → u ≤ 64 → ((d : Output ℤ) → 0 < length ys → (get_or ys 0 d).told ≡ u - 0)
    → (t : ℕ) → t ≡ first_told ys → t ≤ 64
first-most [] u m h t e = omega arith
first-most (y ∷ ys) u m h t e = omega (arith, h y (omega arith))

-- the block of the first n samples
module _ (wide : Bool) (filter : Cic ℤ) (samples given : List ℤ) (n : ℕ) (enough : n ≤ length samples)
    (long8 : length filter.integrators ≡ 8) (long64 : length filter.combs ≡ 64) (left : Cic ℤ)
    (is : counted_of left ≡ block_state word_ops (counted_of filter) (take n samples) given) (w : Written)
    (wrote : ◌≡◌ {A = Result Written Refusal} (Ok w) (block_wrote word_ops (counted_of filter) (take n samples) given)) where
  abbrev k : ℕ
  k = w.count

  abbrev u : ℕ
  u = w.told

  answer : let ys = taken_outputs word_ops (counted_of filter) (take n samples) in
      w ≡ record { count = needed (length (take n samples)) filter.countdown filter.rate; told = first_told (plain ys); number = first_number ys }
  answer = taken_value _ _ w wrote

  number_is : block_number (counted_of filter) (take n samples) given ≡ 0
  number_is = taken_number _ _ w wrote

  fit : Fit (state_of filter)
  fit = fitted (state_of filter) (block_accepts (counted_of filter) (take n samples) given number_is) long8 long64

  may : filter.inputs + length (take n samples) ≤ most_inputs
  may = block_room (counted_of filter) (take n samples) given number_is

  plain_is : plain (taken_outputs word_ops (counted_of filter) (take n samples)) ≡ outputs word_ops (state_of filter) (take n samples)
  plain_is = plain-taken word_ops (counted_of filter) fit (take n samples) may

  count_is : k ≡ length (outputs word_ops (state_of filter) (take n samples))
  count_is = ap (λ (x : Written). x.count) answer ∙ sym (outputs-length word_ops (state_of filter) fit (take n samples))

  pub block-few : k ≤ n
  block-few = omega (arith, count_is, outputs-few (state_of filter) (take n samples), length-take-le n samples enough)

  state_is : left ≡ cic_of (filter_at (after word_ops (state_of filter) (take n samples)) (filter.inputs + length (take n samples)))
  unfolding block_state
  state_is = ap cic_of is ∙ rw (number_is, taken-after word_ops (counted_of filter) fit (take n samples) may)

  values_are : take k (block_out word_ops (counted_of filter) (take n samples) given)
      ≡ values (outputs word_ops (state_of filter) (take n samples))
  unfolding block_out
  values_are =
      let ys = outputs word_ops (state_of filter) (take n samples) in
      let e : k ≡ length (values ys) = count_is ∙ sym (values_length ys) in
      rw (number_is, plain_is, e) (take-append_seam (values ys) _)

  told_is : u ≡ first_told (outputs word_ops (state_of filter) (take n samples))
  told_is = ap (λ (x : Written). x.told) answer ∙ ap first_told plain_is

  pub block-most : u ≤ 64
  block-most =
      let f = state_of filter in
      first-most (outputs word_ops f (take n samples)) f.unsettled
      (owed_most f.order f.delay f.rate f.countdown f.unsettled fit.good)
      (λ d b. outputs-told word_ops f fit (take n samples) 0 d b) u told_is

  text_is : output_lines wide u (take k (block_out word_ops (counted_of filter) (take n samples) given))
      ≡ output_lines wide filter.unsettled (values (outputs word_ops (state_of filter) (take n samples)))
  text_is = rw (values_are, told_is) (first-lines wide (outputs word_ops (state_of filter) (take n samples)) filter.unsettled
      (λ d b. outputs-told word_ops (state_of filter) fit (take n samples) 0 d b))

  after_is : (a b : ℕ) → ◌≡◌ {A = Place} (record {
    session = record { opened = true; wide = wide; filter = left };
    lines = counted_up a n;
    outputs = counted_up b k;
    line = [];
    going = true;
  }) (ran wide (state_of filter) filter.inputs (take n samples) a b)
  after_is a b =
      let m : n ≡ length (take n samples) = sym (length-take-le n samples enough) in
      let later = filter_at (after word_ops (state_of filter) (take n samples)) (filter.inputs + length (take n samples)) in
      ap (λ (f : Cic ℤ). record {
        session = record { opened = true; wide = wide; filter = f };
        lines = counted_up a n;
        outputs = counted_up b k;
        line = [];
        going = true;
      }) state_is
      ∙ ap (λ (x : ℕ). between wide later (counted_up a x) (counted_up b k)) m
      ∙ ap (λ (x : ℕ). between wide later (counted_up a (length (take n samples))) (counted_up b x)) count_is

  module _ (r : Replay) (of : r.session.filter ≡ filter) (word : r.session.wide ≡ wide) (input o : List ℕ) (from at : ℕ)
      (opened : r.session.opened ≡ true)
      (going : r.going ≡ true) (none : r.len ≡ 0)
      (lines : r.lines ≤ 18446744073709551615) (outs : r.outputs ≤ 18446744073709551615)
      (room : Room (place_of r) (drop from input) o at) (next : ℕ) (g : Gathers wide input from samples n next) where
    here : place_of r ≡ between wide (counted_of filter) r.lines r.outputs
    here = place_is r.session r.lines r.outputs r.len r.line r.going opened going none
        ∙ ap (λ (b : Bool). between b (counted_of r.session.filter) r.lines r.outputs) word
        ∙ ap (λ (f : Cic ℤ). between wide (counted_of f) r.lines r.outputs) of

    pub turn_block : (t : Replay) → place_of t ≡ after_block (place_of r) wide left n k → t.len ≡ r.len → (w : ℕ) (o' : List ℕ)
        → length o' ≡ length o → Wrote o at (output_lines wide u (take k (block_out word_ops (counted_of filter) (take n samples) given))) w o'
        → w ≤ at + 26 * k
        → Advances r input from o at t next w o'
    turn_block t e z w o' lo wr near =
        let i : place_of t ≡ after_block (between wide (counted_of filter) r.lines r.outputs) wide left n k = e
        ∙ ap (λ (p : Place). after_block p wide left n k) here in
        let q : place_of t ≡ ran wide (state_of filter) filter.inputs (take n samples) r.lines r.outputs =
        i ∙ after_is r.lines r.outputs in
        record {
          runs = record {
            place = ap (λ (x : Place). fed_of x (drop from input)) here
                ∙ batch_place wide g.lines (state_of filter) fit filter.inputs r.lines r.outputs may lines outs
                ∙ ap (λ (x : Place). fed_of x (drop next input)) (sym q);
            text = output_lines wide filter.unsettled (values (outputs word_ops (state_of filter) (take n samples)));
            bytes = ap (λ (x : Place). bytes_of x (drop from input)) here
                ∙ batch_bytes wide g.lines (state_of filter) fit filter.inputs r.lines r.outputs may lines outs
                ∙ ap (λ (x : Place). output_lines wide filter.unsettled (values (outputs word_ops (state_of filter) (take n samples)))
                ++ bytes_of x (drop next input)) (sym q);
            wrote = wrote-same text_is wr;
          };
          room = record {
            within = omega (arith, room.fits going, block-few, g.far, g.inside, length-drop from input);
            fits = λ y. let m : length (place_of t).line ≡ 0 = ap (λ (x : Place). length x.line) i in omega
                (arith, room.fits going, block-few, g.far, g.inside, length-drop from input, length-drop next input);
          };
          low = omega (arith, g.far);
          high = g.inside;
          small = omega arith;
        }
