-- A map that keeps sums, differences and zero carries every call of the decimator; reading a wider word in a narrower one is such a
-- map.
use mathlib.Core.Path.{◌≡◌, refl, sym, ap, ap₂, ◌∙◌}
use mathlib.Core.Bool.{Bool, true, false, cond}
use mathlib.Core.List.{List, [], ◌∷◌, ◌++◌, map, map-append}
use mathlib.Core.Option
use mathlib.Core.Option.{Option, none, some}
use Prim.Native.Nat.{ℕ, zero, suc, ◌+◌}
use lib.Dec.{eqb, ltb}
use lib.IntN.{ℤ, pos, ◌+ℤ◌, ◌-ℤ◌}
use lib.ListN.{length, get_or, get_or-map, take, drop, replicate}
use mir.Syntax.{Width, w32, w64}
use mir.Val.{bits, to_z, SFits}
use Rattle.words.specs.Words.{word, wrap}
use Rattle.words.proofs.Reading.{wrap_is, wrap-wrap, word-wrap, word_narrow}
use Rattle.words.proofs.Sums.{wrap-add, wrap-sub}
use Rattle.blocks.specs.Blocks.{unless}
use Rattle.sums.specs.Ops.{Ops}
use Rattle.sums.specs.Signed.{signed_ops}
use Rattle.sums.specs.Machine.{
  Machine,
  Output,
  pushed,
  integrated,
  summed,
  less,
  combed,
  differed,
  decimated,
  decimated_at,
  given,
  given_at,
}
use Rattle.sums.specs.State.{State, rows, put_rows, view, put, refusal, zeroed}
use Rattle.sums.specs.Calls.{new_number, rate_number, new_state, rate_state, clear_state, step_state, step_given}
use Rattle.sums.specs.Counted.{Counted, Numbered, take_number, with_number, new_counted, rate_counted, clear_counted, take_state, take_given}
use Rattle.sums.proofs.Carried.{nil_in}
use Rattle.cic.specs.Reading.{cic_of, counted_of}
use Rattle.records.specs.Lines.{record_of}
use Rattle.records.specs.Sessions.{width_of, own_words, kept_words, told_by, ordered, sampled, stepping, take_of, line_of}
use Rattle.records.proofs.Holding.{Holds, line_holds}
use Rattle.records.specs.Seen.{through_state, through, seen, seen_taken, InItsWord}
use Rattle.records.specs.declared.parse.Record.{Record}
use Rattle.records.specs.declared.parse.Record.TheVariants.{Open, Rate, Sample, Clear, Bad}
use Rattle.records.specs.declared.session.Session.{Session}
use Rattle.records.specs.declared.session.Taken.{Taken}

-- the words that are kept
abbrev word_ops : Ops ℤ
word_ops = signed_ops w64

-- lists read through φ
module _ (φ : ℤ → ℤ) where
  map-take : (n : ℕ) (l : List ℤ) → take n (map φ l) ≡ map φ (take n l)
  map-take zero l = refl
  map-take (suc n) [] = refl
  map-take (suc n) (a ∷ l) = ap (λ (r : List ℤ). φ a ∷ r) (map-take n l)

  map-drop : (n : ℕ) (l : List ℤ) → drop n (map φ l) ≡ map φ (drop n l)
  map-drop zero l = refl
  map-drop (suc n) [] = refl
  map-drop (suc n) (a ∷ l) = map-drop n l

  map_rows : (M n : ℕ) (l : List ℤ) → rows M n (map φ l) ≡ map (map φ) (rows M n l)
  unfolding rows
  map_rows M zero l = refl
  map_rows M (suc n) l = ap₂ ◌∷◌ (map-take M l) (ap (rows M n) (map-drop 8 l) ∙ map_rows M n (drop 8 l))

  map-put : (M : ℕ) (ls : List (List ℤ)) (l : List ℤ) → put_rows M (map (map φ) ls) (map φ l) ≡ map φ (put_rows M ls l)
  unfolding put_rows
  map-put M [] l = refl
  map-put M (r ∷ ls) l =
      ap (λ (t : List ℤ). map φ r ++ t)
      (ap₂ ◌++◌ (ap (drop M) (map-take 8 l) ∙ map-drop M (take 8 l)) (ap (put_rows M (map (map φ) ls)) (map-drop 8 l)
      ∙ map-put M ls (drop 8 l)) ∙ sym (map-append φ (drop M (take 8 l)) (put_rows M ls (drop 8 l))))
      ∙ sym (map-append φ r (drop M (take 8 l) ++ put_rows M ls (drop 8 l)))

  map-replicate : (n : ℕ) (a : ℤ) → replicate n (φ a) ≡ map φ (replicate n a)
  map-replicate zero a = refl
  map-replicate (suc n) a = ap (λ (r : List ℤ). φ a ∷ r) (map-replicate n a)

  -- the machine, and what it gives, read through φ
  abbrev machine : Machine ℤ → Machine ℤ
  machine s = record {
    integrators = map φ s.integrators;
    lines = map (map φ) s.lines;
    hold = φ s.hold;
    rate = s.rate;
    countdown = s.countdown;
    unsettled = s.unsettled;
  }

  abbrev output : Output ℤ → Output ℤ
  output y = record { value = φ y.value; told = y.told }

  abbrev numbered : Numbered ℤ → Numbered ℤ
  numbered y = record { value = φ y.value; told = y.told; number = y.number }

  view_to : (s : State ℤ) → view (through_state φ s) ≡ machine (view s)
  unfolding view
  view_to s = rw (map-take s.order s.integrators, map_rows s.delay s.order s.combs) refl

  put_to : (s : State ℤ) (t : Machine ℤ) → put (through_state φ s) (machine t) ≡ through_state φ (put s t)
  unfolding put
  put_to s t = rw (
    map-drop s.order s.integrators,
    map-append φ t.integrators (drop s.order s.integrators),
    map-put s.delay t.lines s.combs,
  ) refl

-- a function passes a test
under : {X Y : Type 0} (f : X → Y) (b : Bool) (x y : X) → cond b (f x) (f y) ≡ f (cond b x y)
under f true x y = refl
under f false x y = refl

-- a map that keeps sums, differences and zero
record Keeps (p o : Ops ℤ) (φ : ℤ → ℤ) : Type 0 where
  pub add_to : (a b : ℤ) → φ (p.add a b) ≡ o.add (φ a) (φ b)
  pub sub_to : (a b : ℤ) → φ (p.sub a b) ≡ o.sub (φ a) (φ b)
  pub nil_to : φ p.nil ≡ o.nil

module _ (p o : Ops ℤ) (φ : ℤ → ℤ) (m : Keeps p o φ) where
  summed_to : (l : List ℤ) (x : ℤ) → summed o (map φ l) (φ x) ≡ φ (summed p l x)
  unfolding summed
  summed_to [] x = refl
  summed_to (a ∷ l) x = ap (summed o (map φ l)) (sym (m.add_to a x)) ∙ summed_to l (p.add a x)

  integrated_to : (l : List ℤ) (x : ℤ) → integrated o (map φ l) (φ x) ≡ map φ (integrated p l x)
  unfolding integrated
  integrated_to [] x = refl
  integrated_to (a ∷ l) x =
      ap (λ (y : ℤ). y ∷ integrated o (map φ l) y) (sym (m.add_to a x))
      ∙ ap (λ (r : List ℤ). φ (p.add a x) ∷ r) (integrated_to l (p.add a x))

  less_to : (l : List ℤ) (x : ℤ) → less o (map φ l) (φ x) ≡ φ (less p l x)
  unfolding less
  less_to l x =
      ap (o.sub (φ x)) (ap (get_or (map φ l) 0) (sym m.nil_to) ∙ get_or-map φ l 0 p.nil)
      ∙ sym (m.sub_to x (get_or l 0 p.nil))

  differed_to : (ls : List (List ℤ)) (x : ℤ) → differed o (map (map φ) ls) (φ x) ≡ φ (differed p ls x)
  unfolding differed
  differed_to [] x = refl
  differed_to (l ∷ ls) x = ap (differed o (map (map φ) ls)) (less_to l x) ∙ differed_to ls (less p l x)

  combed_to : (ls : List (List ℤ)) (x : ℤ) → combed o (map (map φ) ls) (φ x) ≡ map (map φ) (combed p ls x)
  unfolding combed pushed
  combed_to [] x = refl
  combed_to (l ∷ ls) x =
      ap₂ ◌∷◌ (ap (λ (r : List ℤ). r ++ (φ x ∷ [])) (map-drop φ 1 l) ∙ sym (map-append φ (drop 1 l) (x ∷ [])))
      (ap (combed o (map (map φ) ls)) (less_to l x) ∙ combed_to ls (less p l x))

  decimated_to : (s : Machine ℤ) (x : ℤ) (n : ℕ) → decimated_at o (machine φ s) (φ x) n ≡ machine φ (decimated_at p s x n)
  unfolding decimated_at
  decimated_to s x zero = rw (
    integrated_to s.integrators x,
    summed_to s.integrators x,
    combed_to s.lines (summed p s.integrators x),
    differed_to s.lines (summed p s.integrators x),
  ) refl
  decimated_to s x (suc n) = rw (integrated_to s.integrators x) refl

  given_to : (s : Machine ℤ) (x : ℤ) (n : ℕ) → given_at o (machine φ s) (φ x) n ≡ Option.map (output φ) (given_at p s x n)
  unfolding given_at
  given_to s x zero = rw (summed_to s.integrators x, differed_to s.lines (summed p s.integrators x)) refl
  given_to s x (suc n) = refl

  zeroed_to : (n d r : ℕ) → zeroed o n d r ≡ through_state φ (zeroed p n d r)
  unfolding zeroed
  zeroed_to n d r = rw (sym (map-replicate φ 8 p.nil), sym (map-replicate φ 64 p.nil), m.nil_to) refl

  step_to : (s : State ℤ) (x : ℤ) → step_state o (through_state φ s) (φ x) ≡ through_state φ (step_state p s x)
  unfolding step_state decimated
  step_to s x =
      ap (unless (refusal s) (through_state φ s))
      (ap (λ (t : Machine ℤ). put (through_state φ s) (decimated_at o t (φ x) t.countdown)) (view_to φ s)
      ∙ ap (put (through_state φ s)) (decimated_to (view s) x (view s).countdown) ∙ put_to φ s (decimated_at p (view s) x
      (view s).countdown))
      ∙ under (through_state φ) (eqb (refusal s) 0) _ _

  gives_to : (s : State ℤ) (x : ℤ) → step_given o (through_state φ s) (φ x) ≡ Option.map (output φ) (step_given p s x)
  unfolding step_given given
  gives_to s x =
      ap (unless (refusal s) none)
      (ap (λ (t : Machine ℤ). given_at o t (φ x) t.countdown) (view_to φ s) ∙ given_to (view s) x (view s).countdown)
      ∙ under (Option.map (output φ)) (eqb (refusal s) 0) _ none

  number_to : (n : ℕ) (y : Option (Output ℤ)) → with_number n (Option.map (output φ) y) ≡ Option.map (numbered φ) (with_number n y)
  number_to n none = refl
  number_to n (some y) = refl

  -- the calls of a session
  new_to : (n d r : ℕ) → new_counted o n d r ≡ through φ (new_counted p n d r)
  unfolding new_state
  new_to n d r = ap (λ (s : State ℤ). record { state = s; inputs = 0 })
      (ap₂ (unless (new_number n d r)) (zeroed_to 0 1 0) (zeroed_to n d r) ∙ under (through_state φ) (eqb (new_number n d r) 0) _ _)

  rate_to : (c : Counted ℤ) (r : ℕ) → rate_counted o (through φ c) r ≡ through φ (rate_counted p c r)
  unfolding rate_state
  rate_to c r = ap (λ (s : State ℤ). record { state = s; inputs = c.inputs })
      (under (through_state φ) (eqb (rate_number c.state r) 0) _ _)

  clear_to : (c : Counted ℤ) → clear_counted o (through φ c) ≡ through φ (clear_counted p c)
  unfolding clear_state
  clear_to c = ap (λ (s : State ℤ). record { state = s; inputs = unless (refusal c.state) c.inputs 0 })
      (ap (unless (refusal c.state) (through_state φ c.state)) (zeroed_to c.state.order c.state.delay c.state.rate)
      ∙ under (through_state φ) (eqb (refusal c.state) 0) _ _)

  take_to : (c : Counted ℤ) (x : ℤ) → take_state o (through φ c) (φ x) ≡ through φ (take_state p c x)
  unfolding take_state
  take_to c x =
      ap (λ (s : State ℤ). unless (take_number c 1) (through φ c) (record { state = s; inputs = suc c.inputs })) (step_to c.state x)
      ∙ under (through φ) (eqb (take_number c 1) 0) _ _

  taken_to : (c : Counted ℤ) (x : ℤ) → take_given o (through φ c) (φ x) ≡ Option.map (numbered φ) (take_given p c x)
  unfolding take_given
  taken_to c x =
      ap (unless (take_number c 1) none) (ap (with_number (suc c.inputs)) (gives_to c.state x)
      ∙ number_to (suc c.inputs) (step_given p c.state x))
      ∙ under (Option.map (numbered φ)) (eqb (take_number c 1) 0) _ none

-- a word of w read in k bits less
module _ (v w : Width) (k : ℕ) (e : bits w ≡ k + bits v) where
  narrowed : (z : ℤ) → wrap v (wrap w z) ≡ wrap v z
  unfolding wrap
  narrowed z =
      ap (to_z v) (sym (word_narrow v w k (wrap w z) e) ∙ ap (λ (n : ℕ). word v (pos n)) (word-wrap w z) ∙ word_narrow v w k z e)

  narrow_keeps : Keeps (signed_ops w) (signed_ops v) (wrap v)
  narrow_keeps = record {
    add_to = λ a b. narrowed (a +ℤ b) ∙ sym (wrap-add v a b);
    sub_to = λ a b. narrowed (a -ℤ b) ∙ sym (wrap-sub v a b);
    nil_to = wrap_is v (pos 0) (nil_in v);
  }

-- the kept words are read in the word of either record
keeps : (wide : Bool) → Keeps word_ops (own_words wide) (wrap (width_of wide))
keeps true = narrow_keeps w64 w64 0 refl
keeps false = narrow_keeps w32 w64 32 refl

abbrev reads : Bool → ℤ → ℤ
reads wide = wrap (width_of wide)

-- a call and a step by its number
told-seen : (s : Session) (wide : Bool) (t : Counted ℤ) (v : ℕ)
    → told_by (seen s) wide (cic_of (through (reads wide) t)) v ≡ seen_taken (told_by s wide (cic_of t) v)
told-seen s wide t zero = refl
told-seen s wide t (suc k) = refl

ordered-seen : (s : Session) (wide : Bool) (number : ℕ) (t u : Counted ℤ) → u ≡ through (reads wide) t
    → ordered (seen s) wide number u ≡ seen_taken (ordered s wide number t)
ordered-seen s wide number t u e = ap (ordered (seen s) wide number) e ∙ told-seen s wide t number

sampled-seen : (s : Session) (number : ℕ) (t : Counted ℤ) (g : Option (Numbered ℤ))
    → sampled (seen s) number (through (reads s.wide) t) (Option.map (numbered (reads s.wide)) g) ≡ seen_taken (sampled s number t g)
sampled-seen s zero t (some y) = rw (wrap-wrap (width_of s.wide) y.value) refl
sampled-seen s zero t none = refl
sampled-seen s (suc k) t g = refl

-- a line's sample lies within the word, and so is read as itself
stepping-seen : (s : Session) (v : ℤ) → SFits (width_of s.wide) v → stepping own_words (seen s) v ≡ seen_taken (stepping kept_words s v)
stepping-seen s v h =
    let c = counted_of s.filter in
    let o = own_words s.wide in
    let φ = reads s.wide in
    let e = wrap_is (width_of s.wide) v h in
    ap (λ (z : ℤ). sampled (seen s) (take_number c 1) (take_state o (through φ c) z) (take_given o (through φ c) z)) (sym e)
    ∙ ap₂ (sampled (seen s) (take_number c 1)) (take_to word_ops o φ (keeps s.wide) c v) (taken_to word_ops o φ (keeps s.wide) c v)
    ∙ sampled-seen s (take_number c 1) (take_state word_ops c v) (take_given word_ops c v)

-- tests that the session and what is seen of it share
either : (b : Bool) (x y : Taken) (u v : Taken) → u ≡ seen_taken x → v ≡ seen_taken y → cond b u v ≡ seen_taken (cond b x y)
either true x y u v e f = e
either false x y u v e f = f

take-seen : (s : Session) (r : Record) → Holds s.wide r → take_of own_words (seen s) r ≡ seen_taken (take_of kept_words s r)
unfolding take_of
take-seen s (Open wide n m rate) h =
    either s.opened _ _ _ _ refl (ordered-seen s wide (new_number n m rate) (new_counted word_ops n m rate) _
    (new_to word_ops (own_words wide) (reads wide) (keeps wide) n m rate))
take-seen s (Rate rate) h =
    let c = counted_of s.filter in
    either s.opened _ _ _ _ (ordered-seen s s.wide (rate_number c.state rate) (rate_counted word_ops c rate) _
    (rate_to word_ops (own_words s.wide) (reads s.wide) (keeps s.wide) c rate)) refl
take-seen s (Sample v) h = either s.opened _ _ _ _ (stepping-seen s v h) refl
take-seen s Clear h =
    let c = counted_of s.filter in
    either s.opened _ _ _ _ (ordered-seen s s.wide (refusal c.state) (clear_counted word_ops c) _
    (clear_to word_ops (own_words s.wide) (reads s.wide) (keeps s.wide) c)) refl
take-seen s (Bad f) h = refl

pub in_its_word : InItsWord
unfolding line_of
in_its_word s line = either (ltb 64 (length line)) _ _ _ _ refl (take-seen s (record_of s.wide line) (line_holds s.wide line))
