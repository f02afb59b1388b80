-- A run of `x` lines is a block of the filter: the same outputs, told the same counts, the same state, the same counts.
use native.Mathlib.Omega.{arith}
use mathlib.Core.Path.{◌≡◌, refl, sym, ap, ◌∙◌}
use mathlib.Core.Logic.{⊎_elim}
use mathlib.Core.Bool.{Bool, true}
use mathlib.Core.List.{List, [], ◌∷◌, ◌++◌, append_assoc}
use mathlib.Core.Option.{Option, none, some}
use Prim.Native.Nat.{ℕ, suc, ◌+◌, ◌-◌, ◌≤◌, ◌<◌}
use native.Mathlib.Nat.{add-zero}
use lib.IntN.{ℤ}
use lib.ListN.{length}
use borrow.Author.Tests.{le-ltb}
use Rattle.text.specs.Letters.{newline}
use Rattle.text.specs.Parts.{count}
use Rattle.sums.specs.Machine.{Output}
use Rattle.sums.specs.State.{State}
use Rattle.sums.specs.Calls.{step_state, step_given}
use Rattle.sums.specs.Runs.{join, values, outputs, after}
use Rattle.sums.specs.Counted.{Counted, most_inputs, take_number, take_number_of, with_number, take_state, take_given}
use Rattle.sums.proofs.Steps.{Fit, accepted, down, step_waits, given_waits, step_gives, given-gives, step_fit}
use Rattle.cic.specs.Reading.{cic_of}
use Rattle.records.specs.Lines.{record_of}
use Rattle.records.specs.Sessions.{kept_words, kept, replied, take_of, line_of}
use Rattle.playback.specs.Places.{Place, counted_up, reply_bytes, ended, fed_of, bytes_of}
use Rattle.playback.specs.Inner.Advances as Advances
use Rattle.playback.specs.Inner.Advances.{Sampled, output_lines}
use Rattle.records.specs.declared.parse.Record.TheVariants.{Sample}
use Rattle.records.specs.declared.session.Taken.{Taken}
use Rattle.playback.proofs.Running.{line-place, line-bytes}
use Rattle.sums.specs.Ops.{Ops}
use Rattle.sums.specs.Signed.{signed_ops}
use Rattle.std.specs.Int.{w64}

-- the words that are kept
abbrev word_ops : Ops ℤ
word_ops = signed_ops w64

-- the filter after i inputs
abbrev pub filter_at : State ℤ → ℕ → Counted ℤ
filter_at f i = record { state = f; inputs = i }

-- a line that is a sample steps the filter, where it has room for an input
may_take : (f : State ℤ) → Fit f → (i : ℕ) → i < most_inputs → take_number (filter_at f i) 1 ≡ 0
unfolding take_number_of
may_take f fit i h = rw (accepted f fit, le-ltb most_inputs (i + 1) (omega arith))

-- counts that stay within 64 bits are raised in any portions
raised-more : (n a b : ℕ) → counted_up (counted_up n a) b ≡ counted_up n (a + b)
raised-more n a b = omega arith

pub raised-none : (n : ℕ) → n ≤ 18446744073709551615 → counted_up n 0 ≡ n
raised-none n h = omega arith

pub raised-small : (n by : ℕ) → counted_up n by ≤ 18446744073709551615
raised-small n by = omega arith

join-length : (g : Option (Output ℤ)) (l : List (Output ℤ)) → length (join g []) + length l ≡ length (join g l)
join-length (some y) l = omega arith
join-length none l = omega arith

module _ (wide : Bool) where
  -- between two lines, with filter f
  abbrev pub between : Counted ℤ → ℕ → ℕ → Place
  between f lines outputs = record {
    session = record { opened = true; wide = wide; filter = cic_of f };
    lines = lines;
    outputs = outputs;
    line = [];
    going = true;
  }

  sample-taken : (f : State ℤ) → Fit f → (i : ℕ) → i < most_inputs → (l : List ℕ) (x : ℤ) → length l ≤ 64 → record_of wide l ≡ Sample x
      → line_of kept_words (record { opened = true; wide = wide; filter = cic_of (filter_at f i) }) l
      ≡ kept wide (cic_of (filter_at (step_state word_ops f x) (suc i))) (replied wide (with_number (suc i) (step_given word_ops f x)))
  unfolding line_of take_of take_state take_given
  sample-taken f fit i room l x h e = rw (le-ltb _ _ h, e, may_take f fit i room)

  -- what a step's answer adds to the counts
  after-step : (f t : Counted ℤ) (n k i : ℕ) (g : Option (Output ℤ))
      → ended (between f n k) (kept wide (cic_of t) (replied wide (with_number i g)))
      ≡ between t (counted_up n 1) (counted_up k (length (join g [])))
  after-step f t n k i (some y) = refl
  after-step f t n k i none = refl

  -- and to the output: what is told falls by one
  told-step : (f : State ℤ) → Fit f → (x : ℤ) (line i : ℕ) (l : List (Output ℤ))
      → reply_bytes line (replied wide (with_number i (step_given word_ops f x))) ++ output_lines wide (step_state word_ops f x).unsettled
      (values l)
      ≡ output_lines wide f.unsettled (values (join (step_given word_ops f x) l))
  unfolding output_lines
  told-step f fit x line i l =
      ⊎_elim
      (λ e. let u : (step_state word_ops f x).unsettled ≡ f.unsettled - 1 = ap (λ (s : State ℤ). s.unsettled)
      (step_gives word_ops f fit x e) in rw (given-gives word_ops f fit x e, u))
      (λ h. let u : (step_state word_ops f x).unsettled ≡ f.unsettled = ap (λ (s : State ℤ). s.unsettled) (step_waits word_ops f fit x h)
      in rw (given_waits word_ops f fit x h, u))
      (down f.countdown)

  -- one sample line
  module _ (f : State ℤ) (fit : Fit f) (i : ℕ) (room : i < most_inputs) (n k : ℕ) (line bs : List ℕ) (x : ℤ)
      (plain : count newline line ≡ 0) (short : length line ≤ 64) (reads : record_of wide line ≡ Sample x) where
    abbrev here : Place
    here = between (filter_at f i) n k

    abbrev next : Place
    next = between (filter_at (step_state word_ops f x) (suc i)) (counted_up n 1) (counted_up k (length (join (step_given word_ops f x) [])))

    taken_is : ended here (line_of kept_words here.session line) ≡ next
    taken_is = ap (ended here) (sample-taken f fit i room line x short reads)
        ∙ after-step (filter_at f i) (filter_at (step_state word_ops f x) (suc i)) n k (suc i) (step_given word_ops f x)

    one_place : fed_of here (line ++ (newline ∷ bs)) ≡ fed_of next bs
    one_place = line-place line newline bs here line refl plain refl short refl ∙ ap (λ (q : Place). fed_of q bs) taken_is

    one-bytes : bytes_of here (line ++ (newline ∷ bs))
        ≡ reply_bytes (counted_up n 1) (replied wide (with_number (suc i) (step_given word_ops f x))) ++ bytes_of next bs
    one-bytes =
        line-bytes line newline bs here line refl plain refl short refl
        ∙ ap (λ (t : Taken). reply_bytes (counted_up n 1) t.reply ++ bytes_of (ended here (line_of kept_words here.session line)) bs)
        (sample-taken f fit i room line x short reads)
        ∙ ap (λ (q : Place). reply_bytes (counted_up n 1) (replied wide (with_number (suc i)
        (step_given word_ops f x))) ++ bytes_of q bs) taken_is

  -- where a run of sample lines leaves the replay
  abbrev pub ran : State ℤ → ℕ → List ℤ → ℕ → ℕ → Place
  ran f i xs n k =
      between (filter_at (after word_ops f xs) (i + length xs)) (counted_up n (length xs)) (counted_up k (length (outputs word_ops f xs)))

  -- the same, a line before
  ran_more : (f : State ℤ) (i : ℕ) (x : ℤ) (xs : List ℤ) (n k : ℕ)
      → ran (step_state word_ops f x) (suc i) xs (counted_up n 1) (counted_up k (length (join (step_given word_ops f x) [])))
      ≡ ran f i (x ∷ xs) n k
  unfolding after outputs
  ran_more f i x xs n k =
      let t = step_state word_ops f x in
      let g = step_given word_ops f x in
      let k' = counted_up k (length (join g [])) in
      let ei : suc i + length xs ≡ i + suc (length xs) = omega arith in
      let en : counted_up (counted_up n 1) (length xs) ≡ counted_up n (suc (length xs)) = omega arith in
      let ek : counted_up k' (length (outputs word_ops t xs)) ≡ counted_up k (length (join g (outputs word_ops t xs))) = raised-more k
      (length (join g [])) (length (outputs word_ops t xs)) ∙ ap (counted_up k) (join-length g (outputs word_ops t xs)) in
      ap (λ (m : ℕ). between (filter_at (after word_ops t xs) m) (counted_up (counted_up n 1) (length xs))
      (counted_up k' (length (outputs word_ops t xs)))) ei
      ∙ ap (λ (m : ℕ). between (filter_at (after word_ops t xs) (i + suc (length xs))) m (counted_up k' (length (outputs word_ops t xs)))) en
      ∙ ap (λ (m : ℕ). between (filter_at (after word_ops t xs) (i + suc (length xs))) (counted_up n (suc (length xs))) m) ek

  pub batch_place : {bs rest : List ℕ} {xs : List ℤ} → Sampled wide bs xs rest → (f : State ℤ) → Fit f → (i n k : ℕ)
      → i + length xs ≤ most_inputs → n ≤ 18446744073709551615 → k ≤ 18446744073709551615
      → fed_of (between (filter_at f i) n k) bs ≡ fed_of (ran f i xs n k) rest
  unfolding after outputs
  batch_place Advances.none f fit i n k hi hn hk = rw (add-zero i, raised-none n hn, raised-none k hk)
  batch_place {xs = x ∷ xs} (Advances.more line {bs} {rest} plain short reads s) f fit i n k hi hn hk =
      let g = step_given word_ops f x in
      one_place f fit i (omega arith) n k line bs x plain short reads
      ∙ batch_place s (step_state word_ops f x) (step_fit word_ops f fit x) (suc i) (counted_up n 1) (counted_up k (length (join g [])))
      (omega arith) (raised-small n 1) (raised-small k (length (join g [])))
      ∙ ap (λ (q : Place). fed_of q rest) (ran_more f i x xs n k)

  pub batch_bytes : {bs rest : List ℕ} {xs : List ℤ} → Sampled wide bs xs rest → (f : State ℤ) → Fit f → (i n k : ℕ)
      → i + length xs ≤ most_inputs → n ≤ 18446744073709551615 → k ≤ 18446744073709551615
      → bytes_of (between (filter_at f i) n k) bs
      ≡ output_lines wide f.unsettled (values (outputs word_ops f xs)) ++ bytes_of (ran f i xs n k) rest
  unfolding after outputs output_lines
  batch_bytes Advances.none f fit i n k hi hn hk = rw (add-zero i, raised-none n hn, raised-none k hk)
  batch_bytes {xs = x ∷ xs} (Advances.more line {bs} {rest} plain short reads s) f fit i n k hi hn hk =
      let t = step_state word_ops f x in
      let g = step_given word_ops f x in
      let k' = counted_up k (length (join g [])) in
      let y = reply_bytes (counted_up n 1) (replied wide (with_number (suc i) g)) in
      let m = output_lines wide t.unsettled (values (outputs word_ops t xs)) in
      one-bytes f fit i (omega arith) n k line bs x plain short reads
      ∙ ap (λ (l : List ℕ). y ++ l) (batch_bytes s t (step_fit word_ops f fit x) (suc i) (counted_up n 1) k' (omega arith)
      (raised-small n 1) (raised-small k (length (join g []))))
      ∙ sym (append_assoc y m _)
      ∙ ap (λ (l : List ℕ). l ++ bytes_of (ran t (suc i) xs (counted_up n 1) k') rest)
      (told-step f fit x (counted_up n 1) (suc i) (outputs word_ops t xs))
      ∙ ap (λ (q : Place). output_lines wide f.unsettled (values (join g (outputs word_ops t xs))) ++ bytes_of q rest)
      (ran_more f i x xs n k)
