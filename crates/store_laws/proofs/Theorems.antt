-- 02, A7, of settings by value: from the laws of either form. A12 of the reader of form 1 and of a `dither` record.
use native.Mathlib.Omega.{arith}
use mathlib.Core.Bool.{Bool, true, false, cond, ◌&&◌, ◌||◌}
use mathlib.Core.Path.{◌≡◌, refl, ap}
use Prim.Native.Nat.{ℕ, zero, suc}
use lib.Dec.{leb, ltb}
use lib.Signed.{lt_z}
use borrow.Author.Tests.{le-leb, lt-leb, ltb-true, ltb-false}
use Rattle.blocks.specs.Blocks.{unless}
use Rattle.settings_text.specs.Lines.{form_of, dither_number}
use Rattle.settings_text.specs.declared.version.Version.{Version}
use Rattle.settings_text.specs.Stores.{or_else, list_number}
use Rattle.settings_text.proofs.Forms.{same_settings}
use Rattle.settings_text.proofs.Moves.{other_form_refused}
use Rattle.entries.specs.Entries.{records_in, number_as}
use Rattle.store_laws.specs.Laws.{WrittenReads, OldRefuses, FiltersNumber}
use Rattle.store_read.specs.Reading.{found}

pub written-reads : (v : Version) → WrittenReads v
unfolding number_as
written-reads v s h = same_settings v (records_in s) (first (list_number (form_of v) (records_in s)) (cond (leb s.count 64) 0 83) h)
  where
    first : (a b : ℕ) → or_else a b ≡ 0 → a ≡ 0
    first zero b e = refl
    first (suc a) b e = absurd (omega arith)

pub old_refuses : OldRefuses
old_refuses text h = ap found (other_form_refused text h)

pub filters_number : FiltersNumber
unfolding dither_number
filters_number f b0 b1 b2 a1 a2 u lower upper = by (ltb f 1) refl (ltb 31 f) refl
  where
    by : (p : Bool) → ltb f 1 ≡ p → (q : Bool) → ltb 31 f ≡ q
        → cond {A = ℕ} (leb 1 f && leb f 31) (cond (lt_z upper lower) 41 0) 40
        ≡ unless (cond (p || q) 40 0) (cond (p || q) 40 0) (cond (lt_z upper lower) 41 0)
    by true d q e = rw (lt-leb 1 f (ltb-true f 1 d))
    by false d true e = rw (le-leb 1 f (ltb-false f 1 d), lt-leb f 31 (ltb-true 31 f e))
    by false d false e = rw (le-leb 1 f (ltb-false f 1 d), le-leb f 31 (ltb-false 31 f e))
