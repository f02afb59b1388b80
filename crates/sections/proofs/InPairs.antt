-- Two sections at a time: a pair's number stands for its nibbles, and pairs in turn are the chain.
use mathlib.Core.Path.{◌≡◌, refl, sym, ap, ◌∙◌}
use mathlib.Core.Bool.{Bool, true, false, cond}
use mathlib.Core.List.{List, [], ◌∷◌, ◌++◌}
use Prim.Native.Nat.{ℕ, suc, ◌+◌, ◌*◌, ◌/◌, ◌%◌, ◌^◌, ◌<◌}
use native.Mathlib.Omega.{arith}
use borrow.Author.Tests.{eqb-true}
use lib.Dec.{eqb}
use lib.ListN.{length, drop, get_or, set}
use lib.Seq.{get_or-drop, drop-drop}
use lib.IntN.{ℤ, pos}
use mir.Syntax.{w32}
use mir.Val.{to_z, of_z, hbits}
use lib.Signed.{mag}
use Rattle.words.proofs.Reading.{read}
use Rattle.std.specs.Prelude.{Ok}
use Rattle.blocks.specs.Scan.{scan, ends}
use Rattle.blocks.specs.Blocks.{Blocked}
use Rattle.blocks.proofs.Turns.{Going, turn}
use Rattle.blocks.proofs.Ways.{taken}
use Rattle.adapters.specs.declared.tpa.Tpa.{Tpa}
use Rattle.adapters.specs.declared.tpa.Ports.{Ports}
use Rattle.adapters.specs.declared.tpa.Tpa.TheVariants.{Z, A, B, B1, X, C, C1, D}
use Rattle.adapters.specs.Adapters.{adapted, code_of}
use Rattle.adapters.proofs.Adapters.{b1_is_b, c1_is_c}
use Rattle.sections.specs.declared.pairs.Given.{Given}
use Rattle.sections.specs.declared.pairs.Two.{Two}
use Rattle.sections.specs.declared.pairs.Eight.{Eight}
use Rattle.sections.specs.Sections.{sections_of, Passed, passed, chain_answer, chain_next}
use Rattle.sections.specs.Lent.{list_of, Ran}
use Rattle.sections.specs.Pairs.{both, paired, digit_of, kind_of, pair_code, coded}
use Rattle.sections.proofs.Padded.{zeros}

-- one adapter's outputs, then the other's
pub joined : (low high : Tpa) (w : Given) (p q : Ports) → p ≡ adapted low w.x w.z0 w.a0 → q ≡ adapted high p.1 w.z1 w.a1
    → ◌≡◌ {A = Two} (record { back = p.0; cell = q.0; on = q.1 }) (both low high w)
joined low high w p q e f = rw (f, e)

-- ---- a pair's number

pub digit_small : (n : ℕ) → digit_of n < 6
unfolding digit_of
digit_small n = by (eqb n 0xa) (eqb n 0xb) (eqb n 0xc) (eqb n 0xd) (eqb n 0xe) (eqb n 0xf) (eqb n 0x1)
  where
    by : (p q r s t u v : Bool)
        → cond p 1 (cond q 2 (cond r 3 (cond s 4 (cond t 2 (cond u 3 (cond v 5 0)))))) < 6
    by true q r s t u v = omega arith
    by false true r s t u v = omega arith
    by false false true s t u v = omega arith
    by false false false true t u v = omega arith
    by false false false false true u v = omega arith
    by false false false false false true v = omega arith
    by false false false false false false true = omega arith
    by false false false false false false false = omega arith

-- a digit's adapter computes what its nibble's does
same_kind : (n : ℕ) (x z a : ℤ) → adapted (kind_of (digit_of n)) x z a ≡ adapted (code_of n) x z a
unfolding digit_of kind_of code_of
same_kind n x z a =
    by (eqb n 0x1) refl (eqb n 0xa) refl (eqb n 0xb) refl (eqb n 0xc) refl (eqb n 0xd) refl (eqb n 0xe) refl (eqb n 0xf) refl
  where
    by : (v : Bool) → eqb n 0x1 ≡ v → (p : Bool) → eqb n 0xa ≡ p → (q : Bool) → eqb n 0xb ≡ q → (r : Bool) → eqb n 0xc ≡ r
        → (s : Bool) → eqb n 0xd ≡ s → (t : Bool) → eqb n 0xe ≡ t → (u : Bool) → eqb n 0xf ≡ u
        → adapted (kind_of (cond p 1 (cond q 2 (cond r 3 (cond s 4 (cond t 2 (cond u 3 (cond v 5 0)))))))) x z a
        ≡ adapted (cond v X (cond p A (cond q B (cond r C (cond s D (cond t B1 (cond u C1 Z))))))) x z a
    by true e p f q g r h s i t j u k = rw (← f, ← g, ← h, ← i, ← j, ← k, eqb-true n 0x1 e)
    by false e true f q g r h s i t j u k = refl
    by false e false f true g r h s i t j u k = refl
    by false e false f false g true h s i t j u k = refl
    by false e false f false g false h true i t j u k = refl
    by false e false f false g false h false i true j u k = sym (b1_is_b x z a)
    by false e false f false g false h false i false j true k = sym (c1_is_c x z a)
    by false e false f false g false h false i false j false k = refl

-- a pair's number computes what its nibbles do
pub coded_pair : (m : ℕ) (w : Given) → coded (pair_code m) w ≡ paired m w
unfolding pair_code
coded_pair m w =
    let l = digit_small (m % 16) in
    let low : (digit_of (m % 16) + 6 * digit_of (m / 16 % 16)) % 6 ≡ digit_of (m % 16) = omega arith in
    let high : (digit_of (m % 16) + 6 * digit_of (m / 16 % 16)) / 6 ≡ digit_of (m / 16 % 16) = omega arith in
    rw (
      low,
      high,
      same_kind (m % 16) w.x w.z0 w.a0,
      same_kind (m / 16 % 16) (adapted (code_of (m % 16)) w.x w.z0 w.a0).1 w.z1 w.a1,
    )

-- what a pair gives by its number, from numbers that were passed on
abbrev pub kept : ℤ → ℤ
kept z = to_z w32 (of_z w32 z)

abbrev pub small : ℤ → Type 0
small z = mag z < 2 ^ hbits w32

pub by_code : (m k : ℕ) (v : Given) (p : Two) → k ≡ pair_code m → small v.x → small v.z0 → small v.z1 → small v.a0 → small v.a1
    → p ≡ coded k (record { x = kept v.x; z0 = kept v.z0; z1 = kept v.z1; a0 = kept v.a0; a1 = kept v.a1 })
    → p ≡ paired m v
by_code m k v p f x z0 z1 a0 a1 e =
    rw (read w32 v.x x, read w32 v.z0 z0, read w32 v.z1 z1, read w32 v.a0 a0, read w32 v.a1 a1) at e
    ∙ ap (λ (j : ℕ). coded j v) f ∙ coded_pair m v

-- ---- pairs in turn

abbrev pub given : ℤ → ℤ → ℤ → List ℤ → Given
given x z0 z1 cs = record { x = x; z0 = z0; z1 = z1; a0 = get_or cs 0 (pos 0); a1 = get_or cs 1 (pos 0) }

no_more : (m : ℕ) (cs zs : List ℤ) (x : ℤ) → passed (sections_of 0 m cs zs) x ≡ record { back = x; cells = [] }
unfolding sections_of passed
no_more m cs zs x = refl

-- the first two sections, then the rest
two_on : (n m : ℕ) (cs : List ℤ) (x z0 z1 : ℤ) (zs : List ℤ) (p : Two) (r : Passed) → p ≡ paired m (given x z0 z1 cs)
    → passed (sections_of n (m / 256) (drop 2 cs) zs) p.on ≡ r
    → passed (sections_of (suc (suc n)) m cs (z0 ∷ z1 ∷ zs)) x ≡ record { back = p.back; cells = p.cell ∷ r.back ∷ r.cells }
unfolding sections_of passed
two_on n m cs x z0 z1 zs p r e f =
    let d : m / 16 / 16 ≡ m / 256 = omega arith in
    rw (← f, e, get_or-drop 1 cs 0 (pos 0), drop-drop 1 1 cs, d)

module _ (m : ℕ) (cs : List ℤ) (x : ℤ) where
  -- two sections, and the cells beyond them
  pub two_turn : (z0 z1 : ℤ) (zs : List ℤ) (p : Two) → p ≡ paired m (given x z0 z1 cs)
      → (chain_answer 2 m cs (z0 ∷ z1 ∷ zs) x ≡ p.back)
      × (chain_next 2 m cs (z0 ∷ z1 ∷ zs) x ≡ p.cell ∷ p.on ∷ zs)
  two_turn z0 z1 zs p e =
      let f = two_on 0 m cs x z0 z1 zs p (record { back = p.on; cells = [] }) e (no_more (m / 256) (drop 2 cs) zs p.on) in
      (ap (λ (r : Passed). r.back) f, ap (λ (r : Passed). r.cells ++ zs) f)

  module _ (z0 z1 z2 z3 z4 z5 z6 z7 : ℤ) (p q : Two) (e : p ≡ paired m (given x z0 z1 cs))
      (f : q ≡ paired (m / 256) (given p.on z2 z3 (drop 2 cs))) where
    -- four sections, then the rest
    four_on : (r : Passed) → passed (sections_of 4 (m / 65536) (drop 4 cs) (z4 ∷ z5 ∷ z6 ∷ z7 ∷ [])) q.on ≡ r
        → (chain_answer 8 m cs (z0 ∷ z1 ∷ z2 ∷ z3 ∷ z4 ∷ z5 ∷ z6 ∷ z7 ∷ []) x ≡ p.back)
        × (chain_next 8 m cs (z0 ∷ z1 ∷ z2 ∷ z3 ∷ z4 ∷ z5 ∷ z6 ∷ z7 ∷ []) x ≡ p.cell ∷ q.back ∷ q.cell ∷ r.back ∷ (r.cells ++ []))
    four_on r g =
        let d : m / 256 / 256 ≡ m / 65536 = omega arith in
        let i = two_on 4 (m / 256) (drop 2 cs) p.on z2 z3 (z4 ∷ z5 ∷ z6 ∷ z7 ∷ []) q r f (rw (drop-drop 2 2 cs, d) g) in
        let t = two_on 6 m cs x z0 z1 (z2 ∷ z3 ∷ z4 ∷ z5 ∷ z6 ∷ z7 ∷ []) p
        (record { back = q.back; cells = q.cell ∷ r.back ∷ r.cells }) e i in
        (ap (λ (v : Passed). v.back) t, ap (λ (v : Passed). v.cells ++ []) t)

    -- eight sections whose last four have nibbles of zero
    pub four_turn : m < 65536
        → (chain_answer 8 m cs (z0 ∷ z1 ∷ z2 ∷ z3 ∷ z4 ∷ z5 ∷ z6 ∷ z7 ∷ []) x ≡ p.back)
        × (chain_next 8 m cs (z0 ∷ z1 ∷ z2 ∷ z3 ∷ z4 ∷ z5 ∷ z6 ∷ z7 ∷ []) x
        ≡ p.cell ∷ q.back ∷ q.cell ∷ q.on ∷ z4 ∷ z5 ∷ z6 ∷ z7 ∷ [])
    four_turn h =
        let d : m / 65536 ≡ 0 = omega arith in
        four_on (record { back = q.on; cells = z4 ∷ z5 ∷ z6 ∷ z7 ∷ [] })
        (rw d (zeros 4 (drop 4 cs) (z4 ∷ z5 ∷ z6 ∷ z7 ∷ []) q.on (omega arith)))

    module _ (r : Two) (g : r ≡ paired (m / 65536) (given q.on z4 z5 (drop 4 cs))) where
      -- six sections, then the rest
      six_on : (b c6 c7 : ℤ) → passed (sections_of 2 (m / 16777216) (drop 6 cs) (z6 ∷ z7 ∷ [])) r.on ≡ record { back = b; cells = c6 ∷ c7 ∷ [] }
          → (chain_answer 8 m cs (z0 ∷ z1 ∷ z2 ∷ z3 ∷ z4 ∷ z5 ∷ z6 ∷ z7 ∷ []) x ≡ p.back)
          × (chain_next 8 m cs (z0 ∷ z1 ∷ z2 ∷ z3 ∷ z4 ∷ z5 ∷ z6 ∷ z7 ∷ []) x
          ≡ p.cell ∷ q.back ∷ q.cell ∷ r.back ∷ r.cell ∷ b ∷ c6 ∷ c7 ∷ [])
      six_on b c6 c7 k =
          let d : m / 65536 / 256 ≡ m / 16777216 = omega arith in
          let last : Passed = record { back = b; cells = c6 ∷ c7 ∷ [] } in
          let j = two_on 2 (m / 65536) (drop 4 cs) q.on z4 z5 (z6 ∷ z7 ∷ []) r last g (rw (drop-drop 2 4 cs, d) k) in
          four_on (record { back = r.back; cells = r.cell ∷ b ∷ c6 ∷ c7 ∷ [] }) j

      -- eight sections whose last two have nibbles of zero
      pub six_turn : m < 16777216
          → (chain_answer 8 m cs (z0 ∷ z1 ∷ z2 ∷ z3 ∷ z4 ∷ z5 ∷ z6 ∷ z7 ∷ []) x ≡ p.back)
          × (chain_next 8 m cs (z0 ∷ z1 ∷ z2 ∷ z3 ∷ z4 ∷ z5 ∷ z6 ∷ z7 ∷ []) x
          ≡ p.cell ∷ q.back ∷ q.cell ∷ r.back ∷ r.cell ∷ r.on ∷ z6 ∷ z7 ∷ [])
      six_turn h =
          let d : m / 16777216 ≡ 0 = omega arith in
          six_on r.on z6 z7 (rw d (zeros 2 (drop 6 cs) (z6 ∷ z7 ∷ []) r.on (omega arith)))

      -- eight sections
      pub eight_turn : (s : Two) → s ≡ paired (m / 16777216) (given r.on z6 z7 (drop 6 cs))
          → (chain_answer 8 m cs (z0 ∷ z1 ∷ z2 ∷ z3 ∷ z4 ∷ z5 ∷ z6 ∷ z7 ∷ []) x ≡ p.back)
          × (chain_next 8 m cs (z0 ∷ z1 ∷ z2 ∷ z3 ∷ z4 ∷ z5 ∷ z6 ∷ z7 ∷ []) x
          ≡ p.cell ∷ q.back ∷ q.cell ∷ r.back ∷ r.cell ∷ s.back ∷ s.cell ∷ s.on ∷ [])
      eight_turn s h =
          let none : Passed = record { back = s.on; cells = [] } in
          six_on s.back s.cell s.on
          (two_on 0 (m / 16777216) (drop 6 cs) r.on z6 z7 [] s none h (no_more (m / 16777216 / 256) (drop 2 (drop 6 cs)) [] s.on))

-- ---- a list of eight

pub eight_of_law : (P : List ℤ → Type 0) → ((a b c d e f g h : ℤ) → P (a ∷ b ∷ c ∷ d ∷ e ∷ f ∷ g ∷ h ∷ [])) → (z : List ℤ) → length z ≡ 8 → P z
eight_of_law P t [] l = absurd (omega arith)
eight_of_law P t (a ∷ []) l = absurd (omega arith)
eight_of_law P t (a ∷ b ∷ []) l = absurd (omega arith)
eight_of_law P t (a ∷ b ∷ c ∷ []) l = absurd (omega arith)
eight_of_law P t (a ∷ b ∷ c ∷ d ∷ []) l = absurd (omega arith)
eight_of_law P t (a ∷ b ∷ c ∷ d ∷ e ∷ []) l = absurd (omega arith)
eight_of_law P t (a ∷ b ∷ c ∷ d ∷ e ∷ f ∷ []) l = absurd (omega arith)
eight_of_law P t (a ∷ b ∷ c ∷ d ∷ e ∷ f ∷ g ∷ []) l = absurd (omega arith)
eight_of_law P t (a ∷ b ∷ c ∷ d ∷ e ∷ f ∷ g ∷ h ∷ []) l = t a b c d e f g h
eight_of_law P t (a ∷ b ∷ c ∷ d ∷ e ∷ f ∷ g ∷ h ∷ i ∷ z) l = absurd (omega arith)

pub alike : {a b c d e f g h p q r s t u v w : ℤ} → p ≡ a → q ≡ b → r ≡ c → s ≡ d → t ≡ e → u ≡ f → v ≡ g → w ≡ h
    → ◌≡◌ {A = List ℤ} (p ∷ q ∷ r ∷ s ∷ t ∷ u ∷ v ∷ w ∷ []) (a ∷ b ∷ c ∷ d ∷ e ∷ f ∷ g ∷ h ∷ [])
alike i j k l m n o x = rw (i, j, k, l, m, n, o, x)

-- a turn, from its output and its state
pub turn_as : (n m : ℕ) (cs s₀ s t xs ys : List ℤ) (i : ℕ) (y : ℤ) → y ≡ chain_answer n m cs s (get_or xs i (pos 0))
    → t ≡ chain_next n m cs s (get_or xs i (pos 0)) → i < length xs
    → Going (chain_answer n m cs) (chain_next n m cs) s₀ xs ys s i → Going (chain_answer n m cs) (chain_next n m cs) s₀ xs (set ys i y) t (i + 1)
turn_as n m cs s₀ s t xs ys i y e f h g = rw (e, f) (turn (chain_answer n m cs) (chain_next n m cs) s₀ xs ys s i (pos 0) h g)

-- its elements one by one
abbrev pub at : List ℤ → ℕ → ℤ
at z i = get_or z i (pos 0)

pub eight_cells : (z : List ℤ) → length z ≡ 8 → at z 0 ∷ at z 1 ∷ at z 2 ∷ at z 3 ∷ at z 4 ∷ at z 5 ∷ at z 6 ∷ at z 7 ∷ [] ≡ z
eight_cells = eight_of_law (λ (z : List ℤ). at z 0 ∷ at z 1 ∷ at z 2 ∷ at z 3 ∷ at z 4 ∷ at z 5 ∷ at z 6 ∷ at z 7 ∷ [] ≡ z)
    (λ a b c d e f g h. refl)

-- ---- a block that ran, as the call that it is of

pub ran_blocked : (n m : ℕ) (a z w : Eight) (cs zs xs ys ws out : List ℤ) → list_of a ≡ cs → list_of z ≡ zs → out ≡ list_of w
    → length xs ≡ length ys → Ran n m a z xs w ws → Blocked 0 (chain_answer n m cs) (chain_next n m cs) zs xs ys out (Ok tt) ws
ran_blocked n m a z w cs zs xs ys ws out e f g h r =
    taken 0 (chain_answer n m cs) (chain_next n m cs) zs xs ys out ws h refl
    (g ∙ r.0 ∙ ap (λ (l : List ℤ). ends (chain_answer n m l) (chain_next n m l) (list_of z) xs) e
    ∙ ap (λ (l : List ℤ). ends (chain_answer n m cs) (chain_next n m cs) l xs) f)
    (r.1 ∙ ap (λ (l : List ℤ). scan (chain_answer n m l) (chain_next n m l) (list_of z) xs) e
    ∙ ap (λ (l : List ℤ). scan (chain_answer n m cs) (chain_next n m cs) l xs) f)
