-- A call handed on: what it leaves in the lent fields and the number that is answered, from what the call of the same name promises.
use mathlib.Core.Path.{◌≡◌, refl, sym, ap, ap₂, ◌∙◌}
use mathlib.Core.List.{List, ◌++◌, append_assoc}
use mathlib.Core.Bool.{Bool, true, false, cond}
use Prim.Native.Nat.{ℕ, zero, suc, ◌-◌, ◌+◌, ◌≤◌, ◌<◌, max}
use lib.Dec.{eqb, eqb-suc-zero}
use native.Mathlib.Omega.{arith}
use lib.ListN.{length, take, drop, length-append, length-drop, take-append-drop}
use lib.Seq.{length-take-le, take_at, drop_at}
use borrow.Author.Tests.{ne_eqb, lt-ltb, le-ltb}
use Rattle.std.specs.Prelude.{Result, Ok, Err, Option, Some, None}
use Rattle.blocks.specs.declared.refusal.Refusal.{Refusal}
use Rattle.blocks.specs.Refusals.{answer, number_in, number_of, refusal_at}
use Rattle.blocks.proofs.Refusals.{taken_number, taken_value}
use Rattle.blocks.proofs.Ways.{kept, came, never}
use Rattle.blocks.specs.Blocks.{unless}
use Rattle.sums.specs.Ops.{Ops}
use Rattle.sums.specs.State.{refusal, refusal_of}
use Rattle.sums.specs.Calls.{new_number, resume_number, rate_number, current_at}
use Rattle.sums.specs.Runs.{fill_out, settled_number, settled_part}
use Rattle.sums.specs.Counted.{Counted, new_counted, resume_counted, rate_counted, clear_counted, settle_counted, take_state, rise_counted}
use Rattle.sums.specs.Counted.{block_state, block_out, fill_counted}
use Rattle.shape.specs.declared.runs.Written.{Written}
use Rattle.shape.specs.Answers.{block_wrote, block_read}
use Rattle.cic.specs.declared.state.Cic.{Cic}
use Rattle.lent.specs.declared.state.LentCic.{LentCic}
use Rattle.lent.specs.declared.steps.Output as declared
use Rattle.lent.specs.Reading.{counted}
use Rattle.lent.specs.Answers.{step_out, rise_out, sample_of, interpolated_of}
use Rattle.cic.specs.Reading.{state_of, counted_of, cic_of, numbers_of}
use Rattle.cic.specs.Answers.{made_of}
use Rattle.cic_calls.specs.Lent.{lent, numbers, output}
use Rattle.cic_calls.proofs.Kept.{Leaves, leaves_as, leaves}
use Rattle.cic_calls.specs.Answers.{out_number, wrote_number, wrote_or, read_number, read_or}
use Rattle.cic_calls.specs.Answers.{interpolated_number, interpolated_or}
use Rattle.cic_calls.specs.Calls.{New, Resume, SetRate, Clear, SettleInterpolate, Decimate, DecimateBlock}
use Rattle.cic_calls.specs.Calls.{Interpolate, InterpolateBlock, GetInterpolate, Settles}

-- a number that docs/REFUSALS.md has, or none
abbrev pub Told : ℕ → Type 0
Told k = number_in {A = Unit {0}} (answer k tt) ≡ k

-- it is told whatever the value would be
told : {A : Type 0} (k : ℕ) (v : A) → Told k → number_in (answer k v) ≡ k
unfolding answer
told zero v h = refl
told (suc k) v h = h

either : (b : Bool) (j k : ℕ) → Told j → Told k → Told (cond b j k)
either true j k h i = h
either false j k h i = i

none-told : Told 0
unfolding answer
none-told = refl

row-10 : Told 10
unfolding answer refusal_at
row-10 = refl

row-11 : Told 11
unfolding answer refusal_at
row-11 = refl

row-12 : Told 12
unfolding answer refusal_at
row-12 = refl

row-13 : Told 13
unfolding answer refusal_at
row-13 = refl

row-15 : Told 15
unfolding answer refusal_at
row-15 = refl

-- the numbers that a state, a maker and another rate are refused by
pub state_told : (order delay rate countdown unsettled : ℕ) → Told (refusal_of order delay rate countdown unsettled)
unfolding refusal_of
state_told order delay rate countdown unsettled =
    either _ 10 _ row-10 (either _ 11 _ row-11 (either _ 12 _ row-12 (either _ 13 _ row-13 (either _ 15 0 row-15 none-told))))

module _ {A : Type 0} (o : Ops A) where
  -- a call that changes a filter: p was gathered of the fields s, u was left, and t stands in the fields
  module _ (s p u t : Cic A) (v : Result (Unit {0}) Refusal) (r : ℕ) (ep : p ≡ s) (et : t ≡ u) (f : r ≡ number_in v) where
    changed : (k : ℕ) (d : Counted A) → Told k → (counted_of u ≡ d) × (v ≡ answer k tt) → (r ≡ k) × (t ≡ cic_of d)
    changed k d h e = (f ∙ ap number_in e.1 ∙ h, et ∙ ap cic_of e.0)

    pub set_rate : (rate : ℕ) → (counted_of u ≡ rate_counted o (counted_of p) rate) × (v ≡ answer (rate_number (state_of p) rate) tt)
        → SetRate o s rate t r
    set_rate rate e =
        let d = changed _ _ (state_told s.order s.delay (max s.rate rate) s.countdown s.unsettled) (rw ep at e) in record { answer = d.0; filter = d.1 }

    pub clear : (counted_of u ≡ clear_counted o (counted_of p)) × (v ≡ answer (refusal (state_of p)) tt) → Clear o s t r
    clear e =
        let d = changed _ _ (state_told s.order s.delay s.rate s.countdown s.unsettled) (rw ep at e) in record { answer = d.0; filter = d.1 }

    pub settle : (x : A) → (counted_of u ≡ settle_counted o (counted_of p) x) × (v ≡ answer (refusal (state_of p)) tt)
        → SettleInterpolate o s x t r
    settle x e =
        let d = changed _ _ (state_told s.order s.delay s.rate s.countdown s.unsettled) (rw ep at e) in record { answer = d.0; filter = d.1 }

  -- a maker: what it made comes, or the caller's filter stays
  comes : (k : ℕ) (s v m t : Cic A) → ◌≡◌ {A = Result (Cic A) Refusal} (Ok m) (answer k v) → t ≡ m → (0 ≡ k) × (t ≡ unless k s v)
  comes k s v m t e f =
      let z = taken_number k v m e in (sym z, f ∙ taken_value k v m e ∙ came k s v z)

  stays : (k : ℕ) (s v : Cic A) (q : Refusal) → Told k → ◌≡◌ {A = Result (Cic A) Refusal} (Err q) (answer k v)
      → (number_of q ≡ k) × (s ≡ unless k s v)
  stays k s v q h e = (ap number_in e ∙ told k v h, kept k s v (never k v q e))

  module _ (order delay rate : ℕ) (s : Cic A) where
    pub new_done : (m t : Cic A) → Ok m ≡ made_of (new_number order delay rate) (new_counted o order delay rate) → t ≡ m
        → New o order delay rate s t 0
    new_done m t e f = let d = comes _ s _ m t e f in record { answer = d.0; filter = d.1 }

    pub new_not : (q : Refusal) (r : ℕ) → Err q ≡ made_of (new_number order delay rate) (new_counted o order delay rate) → r ≡ number_of q
        → New o order delay rate s s r
    new_not q r e f =
        let d = stays _ s _ q (state_told order delay rate 0 0) e in record { answer = f ∙ d.0; filter = d.1 }

  -- what resuming makes of a filter
  abbrev pub resumed_of : Cic A → Result (Cic A) Refusal
  resumed_of s = made_of (resume_number s.order s.delay s.rate s.countdown)
      (resume_counted o s.order s.delay s.rate s.integrators s.combs s.hold s.countdown s.inputs)

  module _ (s p : Cic A) (ep : p ≡ s) where
    pub resume_done : (m t : Cic A) → Ok m ≡ resumed_of p → t ≡ m → Resume o s t 0
    resume_done m t e f = let d = comes _ s _ m t (rw ep at e) f in record { answer = d.0; filter = d.1 }

    pub resume_not : (q : Refusal) (r : ℕ) → Err q ≡ resumed_of p → r ≡ number_of q → Resume o s s r
    resume_not q r e f =
        let d = stays _ s _ q (state_told s.order s.delay s.rate s.countdown 0) (rw ep at e) in record { answer = f ∙ d.0; filter = d.1 }

-- parts that are the same
held : {A : Type 0} (a b d c u n a' b' d' u' : ℕ) (h h' : A) (i k : List A) → a ≡ a' → b ≡ b' → d ≡ d' → u ≡ u' → h ≡ h'
    → lent a b d c u n h i k ≡ lent a' b' d' c u' n h' i k
held a b d c u n a' b' d' u' h h' i k ea eb ed eu eh = rw (ea, eb, ed, eu, eh)

-- an output by its fields
same-output : {A : Type 0} (w : declared.Output A) (v : A) (t n : ℕ) → w.value ≡ v → w.told ≡ t → w.number ≡ n → w ≡ output v t n
same-output w v t n ev et en = rw (← ev, ← et, ← en)

same-given : {A : Type 0} (w y : declared.Output A) → ◌≡◌ {A = Result (Option (declared.Output A)) Refusal} (Ok (Some w)) (Ok (Some y)) → y ≡ w
same-given w y e = cc

not_nothing : {A : Type 0} (y : declared.Output A) → ◌≡◌ {A = Result (Option (declared.Output A)) Refusal} (Ok None) (Ok (Some y)) → ⊥
not_nothing y e = let z : ◌≡◌ {A = ℕ} 0 1 = cc in omega arith

not_refused : {A : Type 0} (r : Refusal) (y : declared.Output A) → ◌≡◌ {A = Result (Option (declared.Output A)) Refusal} (Err r) (Ok (Some y)) → ⊥
not_refused r y e = let z : ◌≡◌ {A = ℕ} 0 1 = cc in omega arith

-- the count told, by the count left and the answer
told_is : (t u r : ℕ) → u ≡ t - 1 → r ≡ cond (eqb t 0) 1 2 → t ≡ cond (eqb r 2) (u + 1) 0
told_is zero u r e f = rw f
told_is (suc t) u r e f =
    let g : r ≡ 2 = f ∙ rw (eqb-suc-zero t) in
    rw g (omega arith)

-- The decimator's step on lent arrays, by what it gives: the numbers p of the filter s go in, and the numbers m and the arrays i and k are left.
module _ {A : Type 0} (o : Ops A) (s : Cic A) (p m : LentCic A) (i k : List A) (ep : p ≡ numbers_of s) (x : A) (a : Result (Option (declared.Output A)) Refusal)
    (e : (counted m i k ≡ take_state o (counted p s.integrators s.combs) x)
    × (a ≡ step_out o (counted p s.integrators s.combs) x)) where
  steps : (counted m i k ≡ take_state o (counted_of s) x) × (a ≡ step_out o (counted_of s) x)
  steps = rw ep at e

  left : (b : Result (Option (declared.Output A)) Refusal) → a ≡ b → Leaves b (counted_of s) (counted m i k)
  left b f = leaves_as b _ _ _ _ (sym f ∙ steps.1) steps.0 (leaves o (counted_of s) x)

  made_by : (b : Result (Option (declared.Output A)) Refusal) (r : ℕ) (t : Cic A) → a ≡ b → t ≡ cic_of (counted m i k) → r ≡ out_number b
      → ((y : declared.Output A) → b ≡ Ok (Some y) → y ≡ output t.hold (cond (eqb r 2) (t.unsettled + 1) 0) t.inputs) → Decimate o s x t r
  made_by b r t f g n h = record {
    answer = n ∙ ap out_number (sym f ∙ steps.1);
    filter = g ∙ ap cic_of steps.0;
    stands = λ y q. h y (sym f ∙ steps.1 ∙ q);
  }

  pub decimate-given : (c u n : ℕ) (h : A) (w : declared.Output A) (r : ℕ) → a ≡ Ok (Some w)
      → numbers m.order m.delay m.rate c u n h ≡ m → r ≡ cond (eqb w.told 0) 1 2
      → Decimate o s x (lent s.order s.delay s.rate c u n h i k) r
  decimate-given c u n h w r f g e =
      let l = left _ f in
      let a = l.1 in
      made_by (Ok (Some w)) r _ f
      (held _ _ _ c u n m.order m.delay m.rate u h h i k (sym l.0.order) (sym l.0.delay) (sym l.0.rate) refl refl
      ∙ ap (λ (q : LentCic A). cic_of (counted q i k)) g) e
      (λ y q. same-given w y q ∙ same-output w h _ n (a.value ∙ sym (ap (λ (q : LentCic A). q.hold) g))
      (told_is w.told u r (ap (λ (q : LentCic A). q.unsettled) g ∙ a.lowered ∙ ap (λ (z : ℕ). z - 1) (sym a.told)) e)
      (a.number ∙ sym (ap (λ (q : LentCic A). q.inputs) g)))

  pub decimate_nothing : a ≡ Ok None
      → Decimate o s x (lent s.order s.delay s.rate m.countdown s.unsettled m.inputs s.hold i k) 0
  decimate_nothing f =
      let l = left _ f in
      made_by (Ok None) 0 _ f
      (held _ _ _ m.countdown _ m.inputs m.order m.delay m.rate m.unsettled _ m.hold i k
      (sym l.0.order) (sym l.0.delay) (sym l.0.rate) (sym l.1) (sym l.2)) refl
      (λ y q. absurd (not_nothing y q))

  pub decimate-refused : (q : Refusal) (r : ℕ) → a ≡ Err q → r ≡ number_of q
      → Decimate o s x (lent s.order s.delay s.rate s.countdown s.unsettled s.inputs s.hold i k) r
  decimate-refused q r f g =
      let l = left _ f in
      let arrays : lent s.order s.delay s.rate s.countdown s.unsettled s.inputs s.hold i k ≡ s =
      ap₂ (λ (a b : List A). lent s.order s.delay s.rate s.countdown s.unsettled s.inputs s.hold a b)
      (ap (λ (q : Counted A). q.state.integrators) l) (ap (λ (q : Counted A). q.state.combs) l) in
      made_by (Err q) r _ f (arrays ∙ ap cic_of (sym l)) g (λ y z. absurd (not_refused q y z))

-- A call on lent arrays: the numbers p of the filter s go in, the numbers m and the arrays i and k are left, and n stands in the fields.
module _ {A : Type 0} (o : Ops A) (s : Cic A) (p m n : LentCic A) (i k : List A) (ep : p ≡ numbers_of s) (f : n ≡ m) where
  pub decimate_block : (xs out left : List A) (v w : Written) (a : Result Written Refusal) (r : ℕ)
      → (counted m i k ≡ block_state o (counted p s.integrators s.combs) xs out)
      × (a ≡ block_wrote o (counted p s.integrators s.combs) xs out)
      × (left ≡ block_out o (counted p s.integrators s.combs) xs out)
      → w ≡ wrote_or a v → r ≡ wrote_number a → DecimateBlock o s xs out v (cic_of (counted n i k)) left w r
  decimate_block xs out left v w a r e g h =
      let u = rw ep at e in
      record {
        answer = h ∙ ap wrote_number u.1;
        filter = ap (λ (q : LentCic A). cic_of (counted q i k)) f ∙ ap cic_of u.0;
        wrote = u.2;
        told = g ∙ ap (λ (q : Result Written Refusal). wrote_or q v) u.1;
      }

  pub interpolate : (x : Option A) (y z : A) (a : Result A Refusal) (r : ℕ)
      → (counted m i k ≡ rise_counted o (counted p s.integrators s.combs) (sample_of x))
      × (a ≡ rise_out o (counted p s.integrators s.combs) (sample_of x))
      → z ≡ interpolated_or a y → r ≡ interpolated_number a → Interpolate o s x y (cic_of (counted n i k)) z r
  interpolate x y z a r e g h =
      let w = rw ep at e in
      record {
        answer = h ∙ ap interpolated_number w.1;
        filter = ap (λ (q : LentCic A). cic_of (counted q i k)) f ∙ ap cic_of w.0;
        output = g ∙ ap (λ (q : Result A Refusal). interpolated_or q y) w.1;
      }

  pub interpolate_block : (xs out left : List A) (v w : ℕ) (a : Result ℕ Refusal) (r : ℕ)
      → (counted m i k ≡ fill_counted o (counted p s.integrators s.combs) xs out)
      × (a ≡ block_read (counted p s.integrators s.combs).state xs out)
      × (left ≡ fill_out o (counted p s.integrators s.combs).state xs out)
      → w ≡ read_or a v → r ≡ read_number a → InterpolateBlock o s xs out v (cic_of (counted n i k)) left w r
  interpolate_block xs out left v w a r e g h =
      let u = rw ep at e in
      record {
        answer = h ∙ ap read_number u.1;
        filter = ap (λ (q : LentCic A). cic_of (counted q i k)) f ∙ ap cic_of u.0;
        wrote = u.2;
        count = g ∙ ap (λ (q : Result ℕ Refusal). read_or q v) u.1;
      }

pub get-interpolate : {A : Type 0} (o : Ops A) (s p : Cic A) (y z : A) (a : Result A Refusal) (r : ℕ) → p ≡ s
    → a ≡ interpolated_of (refusal (state_of p)) (current_at o (state_of p) p.order) → z ≡ interpolated_or a y → r ≡ interpolated_number a
    → GetInterpolate o s y z r
get-interpolate o s p y z a r ep e g h =
    let u = rw ep at e in
    record {
      answer = h ∙ ap interpolated_number u ∙ told _ _ (state_told s.order s.delay s.rate s.countdown s.unsettled);
      output = g ∙ ap (λ (q : Result _ Refusal). interpolated_or q y) u;
    }

-- the first w elements less t of them stand at the end of the first w
last_of_law : {A : Type 0} (l : List A) (w t : ℕ) → w ≤ length l
    → take (length (drop t (take w l))) (drop (w - length (drop t (take w l))) l) ≡ drop t (take w l)
last_of_law l w t h =
    let p = take t (take w l) in
    let s = drop t (take w l) in
    let rest = drop w l in
    let front : p ++ s ≡ take w l = take-append-drop t (take w l) in
    let whole : l ≡ p ++ (s ++ rest) = sym (take-append-drop w l) ∙ ap (λ (r : List _). r ++ rest) (sym front) ∙ append_assoc p s rest in
    let n : length p ≡ w - length s = omega (arith, length-append p s, ap length front, length-take-le w l h) in
    ap (λ (r : List _). take (length s) (drop (w - length s) r)) whole ∙ ap (take (length s)) (drop_at p (s ++ rest) (w - length s) n)
    ∙ take_at s rest (length s) refl

pub fits : {A : Type 0} (out part : List A) (written told : ℕ) → written ≤ length out → part ≡ settled_part out written told → length part ≤ written
unfolding settled_number settled_part
fits out part written told h e =
    let is : part ≡ drop told (take written out) = rw (le-ltb (length out) written h) at e in
    rw is (omega (arith, length-drop told (take written out), length-take-le written out h))

pub settles_not : {A : Type 0} (out : List A) (written told i n : ℕ) → length out < written → Settles out written told i n i n 20
unfolding settled_number
settles_not out written told i n h =
    let k = lt-ltb (length out) written h in
    record { answer = rw k; first = rw k; count = rw k; part = λ z. absurd (omega arith) }

pub settles : {A : Type 0} (out part : List A) (written told i n : ℕ) → written ≤ length out → part ≡ settled_part out written told
    → Settles out written told i n (written - length part) (length part) 0
unfolding settled_number settled_part
settles out part written told i n h e =
    let k = le-ltb (length out) written h in
    let is : part ≡ drop told (take written out) = rw k at e in
    record {
      answer = rw k;
      first = rw k (ap (λ (p : List _). written - length p) is);
      count = rw k (ap length is);
      part = λ z. rw (k, is) (last_of_law out written told h);
    }
