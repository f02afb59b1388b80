-- How the reading of a line ends.
use native.Mathlib.Omega.{arith}
use mathlib.Core.Path.{◌≡◌, refl, sym, ap, subst, ◌∙◌}
use mathlib.Core.Bool.{Bool, true, false, cond}
use mathlib.Core.List.{List, [], ◌∷◌, map}
use mathlib.Core.Option.{Option as Maybe, none, some}
use Prim.Native.Nat.{ℕ, zero, suc, ◌%◌, ◌^◌}
use lib.Dec.{eqb}
use lib.IntN.{ℤ, pos, negsuc, nat_abs}
use lib.ListN.{length, get_or}
use mir.Syntax.{w32}
use mir.Val.{SFits, to_z, of_z}
use mir.ValLaws.{to_z-of_z}
use borrow.Author.Tests.{leb-true, eq-eqb, ne_eqb}
use Rattle.std.specs.Prelude.{Some, None}
use Rattle.words.proofs.Reading.{word_is, word-wrap, wrap-fits}
use Rattle.words.specs.Words.{word, wrap}
use Rattle.text.specs.Letters.{bytes}
use Rattle.text.specs.Ranges.{all_lie, lies, number_in, numbers_in, signed, unsigned}
use Rattle.text.specs.Same.{same}
use Rattle.text.proofs.Ranges.{number-only, numbers-only, two}
use Rattle.settings_text.specs.Fields.{nibbles_in}
use Rattle.settings_text.specs.Lines.{Setting, Cic, Wdf, Dither, record_name, cic_by, cic_in, counts, dither_by, dither_in, kind_in, wdf_by, wdf_in, wdf_of}
use Rattle.settings_text.specs.declared.version.Version.{Version}
use Rattle.settings_text.specs.declared.version.Version.TheVariants.{One, Two}
use Rattle.entries.specs.Entries.{eight, entry_of, pad_to, padded}
use Rattle.entries.specs.declared.settings.Entry.{Entry}
use Rattle.entries.specs.declared.settings.Kind.TheVariants as kinds
use Rattle.store_read.specs.Reading.{arch_by, body_read, line_read, numbers_read, word_by}
use Rattle.store_read.specs.declared.line.Body.{Body}
use Rattle.store_read.specs.declared.line.Numbers.{Numbers}

-- the words read are words
pad_fits : (k : ℕ) (zs : List ℤ) (i : ℕ) → SFits w32 (get_or (pad_to k (map (wrap w32) zs)) i (pos 0))
pad_fits zero zs i = record { sfits = omega arith }
pad_fits (suc k) [] zero = record { sfits = omega arith }
pad_fits (suc k) [] (suc i) = pad_fits k [] i
pad_fits (suc k) (z ∷ zs) zero = wrap-fits w32 z
pad_fits (suc k) (z ∷ zs) (suc i) = pad_fits k zs i

-- what was read of numbers
abbrev counted : List ℤ → Numbers
counted zs = record { count = length zs; words = eight zs }

the_same : (ns ms : Numbers) → Some ns ≡ Some ms → ns ≡ ms
the_same ns ms e = cc

pub words_fit : (ns : Numbers) (o : Maybe (List ℤ)) → Some ns ≡ numbers_read o → (i : ℕ) → to_z w32
    (of_z w32 (get_or ns.words i (pos 0))) ≡ get_or ns.words i (pos 0)
words_fit ns none e i = cc
words_fit ns (some zs) e i =
    let q = the_same ns (counted zs) e in
    to_z-of_z w32 (get_or ns.words i (pos 0)) (subst (λ (x : Numbers). SFits w32 (get_or x.words i (pos 0))) (sym q) (pad_fits 8 zs i))

-- a number that is not below zero is its word
plain_word : (z : ℤ) → lies unsigned z ≡ true → (z ≡ pos (word w32 z)) × (nat_abs z ≡ word w32 z)
plain_word (pos v) h = let w = word_is w32 v (record { fits = let k = leb-true v 4294967295 h in omega arith }) in (ap pos (sym w), sym w)
plain_word (negsuc v) h = absurd (omega (arith, leb-true (suc v) 0 h))

-- the fields of a `cic`
module _ (name : List ℕ) where
  pub cic_none : (o : Maybe (List ℤ)) → None ≡ numbers_read o → None ≡ body_read (cic_by name o)
  cic_none none e = refl
  cic_none (some zs) e = cc

  pub cic_other : (ns : Numbers) (o : Maybe (List ℤ)) → Some ns ≡ numbers_read o → (ns.count ≡ 3 → ⊥) → None ≡ body_read (cic_by name o)
  cic_other ns none e h = refl
  cic_other ns (some []) e h = refl
  cic_other ns (some (a ∷ [])) e h = refl
  cic_other ns (some (a ∷ b ∷ [])) e h = refl
  cic_other ns (some (a ∷ b ∷ c ∷ [])) e h = absurd (h (ap (λ (x : Numbers). x.count) (the_same ns (counted (a ∷ b ∷ c ∷ [])) e)))
  cic_other ns (some (a ∷ b ∷ c ∷ d ∷ zs)) e h = refl

  pub cic_some : (ns : Numbers) (fs : List (List ℕ)) → Some ns ≡ numbers_read (numbers_in unsigned fs) → ns.count ≡ 3
      → Some (record {
        kind = kinds.Cic (word w32 (get_or ns.words 0 (pos 0))) (word w32 (get_or ns.words 1 (pos 0))) (word w32 (get_or ns.words 2 (pos 0)));
        a = eight [];
      }) ≡ body_read (cic_in name fs)
  unfolding cic_in entry_of
  cic_some ns fs e h = by (numbers_in unsigned fs) refl e
    where
      few : (zs : List ℤ) → Some ns ≡ Some (counted zs) → length zs ≡ 3
      few zs f = sym (ap (λ (x : Numbers). x.count) (the_same ns (counted zs) f)) ∙ h

      by : (o : Maybe (List ℤ)) → numbers_in unsigned fs ≡ o → Some ns ≡ numbers_read o → Some (record {
        kind = kinds.Cic (word w32 (get_or ns.words 0 (pos 0))) (word w32 (get_or ns.words 1 (pos 0))) (word w32 (get_or ns.words 2 (pos 0)));
        a = eight [];
      }) ≡ body_read (cic_by name o)
      by none f e = cc
      by (some []) f e = absurd (omega (arith, few [] e))
      by (some (a ∷ [])) f e = absurd (omega (arith, few (a ∷ []) e))
      by (some (a ∷ b ∷ [])) f e = absurd (omega (arith, few (a ∷ b ∷ []) e))
      by (some (a ∷ b ∷ c ∷ d ∷ zs)) f e = absurd (omega (arith, few (a ∷ b ∷ c ∷ d ∷ zs) e))
      by (some (a ∷ b ∷ c ∷ [])) f e =
          let w : ns.words ≡ eight (a ∷ b ∷ c ∷ []) = ap (λ (x : Numbers). x.words) (the_same ns (counted (a ∷ b ∷ c ∷ [])) e) in
          let q = (numbers-only unsigned (omega arith) (omega arith) fs (a ∷ b ∷ c ∷ []) f).1 in
          let x = two (lies unsigned a) (all_lie unsigned (b ∷ c ∷ [])) q in
          let y = two (lies unsigned b) (all_lie unsigned (c ∷ [])) x.1 in
          let z = two (lies unsigned c) true y.1 in
          rw (w, word-wrap w32 a, word-wrap w32 b, word-wrap w32 c, (plain_word a x.0).1, (plain_word b y.0).1, (plain_word c z.0).1)

-- a number that is k
module _ (f : List ℕ) (k : ℕ) where
  pub count_none : word_by (number_in unsigned f) ≡ None → counts k (number_in unsigned f) ≡ false
  count_none h = by (number_in unsigned f) h
    where
      by : (o : Maybe ℤ) → word_by o ≡ None → counts k o ≡ false
      by none g = refl
      by (some z) g = absurd (let z : ◌≡◌ {A = ℕ} 0 1 = cc in omega arith)

  counts-word : (n : ℕ) → word_by (number_in unsigned f) ≡ Some n → counts k (number_in unsigned f) ≡ eqb n k
  counts-word n h = by (number_in unsigned f) refl h
    where
      by : (o : Maybe ℤ) → number_in unsigned f ≡ o → word_by o ≡ Some n → counts k (number_in unsigned f) ≡ eqb n k
      by none g i = absurd (let z : ◌≡◌ {A = ℕ} 0 1 = cc in omega arith)
      by (some z) g i =
          let w : word w32 z ≡ n = cc in
          let p = (plain_word z (number-only unsigned (omega arith) (omega arith) f z g).1).0 ∙ ap pos w in
          ap (counts k) (g ∙ ap some p)

  pub count_other : (n : ℕ) → word_by (number_in unsigned f) ≡ Some n → (n ≡ k → ⊥) → counts k (number_in unsigned f) ≡ false
  count_other n h d = counts-word n h ∙ ne_eqb n k d

  pub count_same : (n : ℕ) → word_by (number_in unsigned f) ≡ Some n → n ≡ k → counts k (number_in unsigned f) ≡ true
  count_same n h d = counts-word n h ∙ eq-eqb n k d

-- of a `wdf`
module _ (name k a : List ℕ) (rest : List (List ℕ)) where
  pub wdf_none : None ≡ numbers_read (numbers_in signed rest) → None ≡ body_read (wdf_in name (k ∷ a ∷ rest))
  unfolding wdf_in
  wdf_none e = by (numbers_in signed rest) e
    where
      by : (o : Maybe (List ℤ)) → None ≡ numbers_read o → None ≡ body_read (wdf_by name k a o)
      by none e = refl
      by (some zs) e = cc

  pub wdf_uncounted : None ≡ word_by (number_in unsigned k) → None ≡ body_read (wdf_in name (k ∷ a ∷ rest))
  unfolding wdf_in
  wdf_uncounted e = by (numbers_in signed rest)
    where
      by : (o : Maybe (List ℤ)) → None ≡ body_read (wdf_by name k a o)
      by none = refl
      by (some zs) = rw (count_none k (length zs) (sym e))

  module _ (ns : Numbers) (e : Some ns ≡ numbers_read (numbers_in signed rest)) where
    moved_count : (zs : List ℤ) (b : Bool) → Some ns ≡ Some (counted zs) → counts ns.count (number_in unsigned k) ≡ b
        → counts (length zs) (number_in unsigned k) ≡ b
    moved_count zs b f h = ap (λ (x : Numbers). counts x.count (number_in unsigned k)) (sym (the_same ns (counted zs) f)) ∙ h

    moved_arch : (zs : List ℤ) → Some ns ≡ Some (counted zs) → arch_by (nibbles_in ns.count a) ≡ arch_by (nibbles_in (length zs) a)
    moved_arch zs f = ap (λ (x : Numbers). arch_by (nibbles_in x.count a)) (the_same ns (counted zs) f)

    pub wdf_other : counts ns.count (number_in unsigned k) ≡ false → None ≡ body_read (wdf_in name (k ∷ a ∷ rest))
    unfolding wdf_in
    wdf_other h = by (numbers_in signed rest) e
      where
        by : (o : Maybe (List ℤ)) → Some ns ≡ numbers_read o → None ≡ body_read (wdf_by name k a o)
        by none f = refl
        by (some zs) f = rw (moved_count zs false f h)

    pub wdf_undrawn : None ≡ arch_by (nibbles_in ns.count a) → None ≡ body_read (wdf_in name (k ∷ a ∷ rest))
    unfolding wdf_in
    wdf_undrawn h = by (numbers_in signed rest) e
      where
        off : (zs : List ℤ) (b : Bool) (o : Maybe ℕ) → None ≡ arch_by o → None ≡ body_read (cond b (wdf_of name zs o) none)
        off zs true none i = refl
        off zs false o i = refl
        off zs true (some m) i = cc

        by : (o : Maybe (List ℤ)) → Some ns ≡ numbers_read o → None ≡ body_read (wdf_by name k a o)
        by none f = refl
        by (some zs) f = off zs (counts (length zs) (number_in unsigned k)) (nibbles_in (length zs) a) (h ∙ moved_arch zs f)

    pub wdf_all : (m : ℕ) → counts ns.count (number_in unsigned k) ≡ true → Some m ≡ arch_by (nibbles_in ns.count a)
        → Some (record { kind = kinds.Wdf ns.count m; a = ns.words }) ≡ body_read (wdf_in name (k ∷ a ∷ rest))
    unfolding wdf_in entry_of
    wdf_all m h i = by (numbers_in signed rest) e
      where
        drawn : (zs : List ℤ) (o : Maybe ℕ) → Some m ≡ arch_by o
            → Some (record { kind = kinds.Wdf (length zs) m; a = eight zs }) ≡ body_read (wdf_of name zs o)
        drawn zs none j = cc
        drawn zs (some w) j = let q : m ≡ w % 2 ^ 32 = cc in rw q

        by : (o : Maybe (List ℤ)) → Some ns ≡ numbers_read o → Some (record { kind = kinds.Wdf ns.count m; a = ns.words }) ≡ body_read (wdf_by name k a o)
        by none f = cc
        by (some zs) f = rw (moved_count zs true f h, the_same ns (counted zs) f) (drawn zs (nibbles_in (length zs) a) (i ∙ moved_arch zs f))

-- and of a `dither`
module _ (name f : List ℕ) (rest : List (List ℕ)) where
  pub dither_wrong : None ≡ word_by (number_in unsigned f) → None ≡ body_read (dither_in Two name (f ∷ rest))
  unfolding dither_in
  dither_wrong e = by (number_in unsigned f) e
    where
      by : (o : Maybe ℤ) → None ≡ word_by o → None ≡ body_read (dither_by name o (numbers_in signed rest))
      by none e = refl
      by (some z) e = cc

  pub dither_none : None ≡ numbers_read (numbers_in signed rest) → None ≡ body_read (dither_in Two name (f ∷ rest))
  unfolding dither_in
  dither_none e = by (number_in unsigned f) (numbers_in signed rest) e
    where
      by : (x : Maybe ℤ) (o : Maybe (List ℤ)) → None ≡ numbers_read o → None ≡ body_read (dither_by name x o)
      by none o e = refl
      by (some z) none e = refl
      by (some z) (some zs) e = cc

  module _ (ns : Numbers) (e : Some ns ≡ numbers_read (numbers_in signed rest)) where
    pub dither_other : (ns.count ≡ 8 → ⊥) → None ≡ body_read (dither_in Two name (f ∷ rest))
    unfolding dither_in
    dither_other h = by (number_in unsigned f) (numbers_in signed rest) e
      where
        by : (x : Maybe ℤ) (o : Maybe (List ℤ)) → Some ns ≡ numbers_read o → None ≡ body_read (dither_by name x o)
        by none o g = refl
        by (some z) none g = refl
        by (some z) (some zs) g =
            let n : length zs ≡ 8 → ⊥ = λ i. h (ap (λ (x : Numbers). x.count) (the_same ns (counted zs) g) ∙ i) in
            rw (ne_eqb (length zs) 8 n)

    pub dither_all : (n : ℕ) → Some n ≡ word_by (number_in unsigned f) → ns.count ≡ 8
        → Some (record { kind = kinds.Dither n; a = ns.words }) ≡ body_read (dither_in Two name (f ∷ rest))
    unfolding dither_in entry_of
    dither_all n q h = by (number_in unsigned f) refl q (numbers_in signed rest) e
      where
        by : (x : Maybe ℤ) → number_in unsigned f ≡ x → Some n ≡ word_by x → (o : Maybe (List ℤ)) → Some ns ≡ numbers_read o
            → Some (record { kind = kinds.Dither n; a = ns.words }) ≡ body_read (dither_by name x o)
        by none j i o g = cc
        by (some z) j i none g = cc
        by (some z) j i (some zs) g =
            let w : word w32 z ≡ n = cc in
            let p : nat_abs z ≡ n = (plain_word z (number-only unsigned (omega arith) (omega arith) f z j).1).1 ∙ w in
            let m = the_same ns (counted zs) g in
            let l : length zs ≡ 8 = sym (ap (λ (x : Numbers). x.count) m) ∙ h in
            rw (eq-eqb (length zs) 8 l, p, m)

-- a record's name is the one that it was read with
abbrev Named : List ℕ → Maybe Setting → Type 0
Named name none = Unit {0}
Named name (some s) = record_name s ≡ name

module _ (name : List ℕ) where
  cic_named : (o : Maybe (List ℤ)) → Named name (cic_by name o)
  cic_named none = tt
  cic_named (some []) = tt
  cic_named (some (n ∷ [])) = tt
  cic_named (some (n ∷ m ∷ [])) = tt
  cic_named (some (n ∷ m ∷ r ∷ [])) = refl
  cic_named (some (n ∷ m ∷ r ∷ z ∷ zs)) = tt

  wdf_named : (fs : List (List ℕ)) → Named name (wdf_in name fs)
  unfolding wdf_in
  wdf_named [] = tt
  wdf_named (k ∷ []) = tt
  wdf_named (k ∷ a ∷ fs) = by (numbers_in signed fs)
    where
      off : (b : Bool) (zs : List ℤ) (o : Maybe ℕ) → Named name (cond b (wdf_of name zs o) none)
      off false zs o = tt
      off true zs none = tt
      off true zs (some m) = refl

      by : (o : Maybe (List ℤ)) → Named name (wdf_by name k a o)
      by none = tt
      by (some zs) = off (counts (length zs) (number_in unsigned k)) zs (nibbles_in (length zs) a)

  dither_named : (v : Version) (fs : List (List ℕ)) → Named name (dither_in v name fs)
  unfolding dither_in
  dither_named One fs = tt
  dither_named Two [] = tt
  dither_named Two (f ∷ fs) = by (number_in unsigned f) (numbers_in signed fs)
    where
      off : (b : Bool) (z : ℤ) (zs : List ℤ) → Named name (cond b (some (Dither name (nat_abs z) zs)) none)
      off true z zs = refl
      off false z zs = tt

      by : (x : Maybe ℤ) (o : Maybe (List ℤ)) → Named name (dither_by name x o)
      by none o = tt
      by (some z) none = tt
      by (some z) (some zs) = off (eqb (length zs) 8) z zs

  kind_named : (v : Version) (word : List ℕ) (fs : List (List ℕ)) → Named name (kind_in v word name fs)
  unfolding kind_in cic_in
  kind_named v word fs = by (same word (bytes "cic")) (same word (bytes "wdf")) (same word (bytes "dither"))
    where
      by : (a b d : Bool) → Named name (cond a (cic_by name (numbers_in unsigned fs)) (cond b (wdf_in name fs) (cond d (dither_in v name fs) none)))
      by true b d = cic_named (numbers_in unsigned fs)
      by false true d = wdf_named fs
      by false false true = dither_named v fs
      by false false false = tt

  entry_named : (s : Setting) (b : Body) → record_name s ≡ name → b ≡ record { kind = (entry_of s).kind; a = (entry_of s).a }
      → record { name = padded name; kind = b.kind; a = b.a } ≡ entry_of s
  unfolding entry_of
  entry_named (Cic n x y r) b e q = rw (q, ← e)
  entry_named (Wdf n arch cs) b e q = rw (q, ← e)
  entry_named (Dither n f cs) b e q = rw (q, ← e)

  module _ (v : Version) (word : List ℕ) (fs : List (List ℕ)) where
    pub read_whole : (b : Body) → Some b ≡ body_read (kind_in v word name fs)
        → Some (record { name = padded name; kind = b.kind; a = b.a }) ≡ line_read (kind_in v word name fs)
    read_whole b e = by (kind_in v word name fs) (kind_named v word fs) e
      where
        by : (o : Maybe Setting) → Named name o → Some b ≡ body_read o
            → Some (record { name = padded name; kind = b.kind; a = b.a }) ≡ line_read o
        by none n e = cc
        by (some s) n e =
            let q : b ≡ record { kind = (entry_of s).kind; a = (entry_of s).a } = cc in
            ap (λ (x : Entry). Some x) (entry_named s b n q)

    pub read_none : None ≡ body_read (kind_in v word name fs) → None ≡ line_read (kind_in v word name fs)
    read_none e = by (kind_in v word name fs) e
      where
        by : (o : Maybe Setting) → None ≡ body_read o → None ≡ line_read o
        by none e = refl
        by (some s) e = cc
