-- Where a line is taken, no test refused it, and its decimator was resumed (demands).
use mathlib.Core.Path.{◌≡◌, refl, sym, ap, subst}
use mathlib.Core.Bool.{Bool, true, false, cond}
use mathlib.Core.List.{List}
use Prim.Native.Nat.{ℕ, zero, suc, ◌*◌}
use lib.Dec.{eqb, ltb}
use lib.IntN.{ℤ, pos}
use lib.ListN.{length, get_or}
use mir.Syntax.{w64}
use Rattle.std.specs.Prelude.{Result, Ok, Err}
use Rattle.words.specs.Words.{wrap}
use Rattle.blocks.specs.declared.refusal.Refusal.{Refusal}
use Rattle.text.specs.Letters.{newline}
use Rattle.sums.specs.Calls.{resume_number}
use Rattle.sums.specs.Counted.{resume_counted}
use Rattle.sums.specs.Demands.{Contents}
use Rattle.cic.specs.Answers.{made_of}
use Rattle.cic.specs.declared.state.Cic.{Cic}
use Rattle.unwrap.specs.declared.unwrapper.Unwrapper.{Unwrapper}
use Rattle.demands.proofs.Demands.{after_resume}
use Rattle.recorder.specs.Calls.{word_ops}
use Rattle.recorder.specs.Traces.{Traces}
use Rattle.recorder.specs.declared.recorder.Recorder.{Recorder}
use Rattle.recorder.proofs.Traces.{traces}
use Rattle.desk.specs.Saved.{check_from, words_at, any_wrong, word_at, cells_at, resumed_by, state_loaded, load_of}
use Rattle.desk.specs.Resumes.{AfterLoad}

abbrev Read : Type 0
Read = Result Recorder Refusal

-- a test that may refuse did not
stays : (b : Bool) (k : Refusal) (m : Read) (s : Recorder) → ◌≡◌ {A = Read} (cond b m (Err k)) (Ok s) → ◌≡◌ {A = Read} m (Ok s)
stays true k m s e = e
stays false k m s e = cc

passes : (b : Bool) (k : Refusal) (m : Read) (s : Recorder) → ◌≡◌ {A = Read} (cond b (Err k) m) (Ok s) → ◌≡◌ {A = Read} m (Ok s)
passes true k m s e = cc
passes false k m s e = e

cells-long : (line : List ℕ) (i n : ℕ) → length (cells_at line i n) ≡ n
unfolding words_at
cells-long line i zero = refl
cells-long line i (suc n) = ap suc (cells-long line (suc i) n)

-- the filter of a recorder that was resumed
resumed : (turns : Unwrapper) (m : Result (Cic ℤ) Refusal) (s : Recorder) → ◌≡◌ {A = Read} (resumed_by turns m) (Ok s)
    → (s ≡ record { plugged = true; turns = turns; filter = s.filter }) × (◌≡◌ {A = Result (Cic ℤ) Refusal} m (Ok s.filter))
resumed turns (Ok f) s e = let p : record { plugged = true; turns = turns; filter = f } ≡ s = cc in
    (subst (λ (q : Recorder). q ≡ record { plugged = true; turns = turns; filter = q.filter }) p refl, ap (λ (q : Recorder). Ok q.filter) p)
resumed turns (Err k) s e = cc

module _ (line : List ℕ) where
  abbrev made : Result (Cic ℤ) Refusal
  made = made_of (resume_number (word_at line 0) (word_at line 1) (word_at line 2) (word_at line 3))
      (resume_counted word_ops (word_at line 0) (word_at line 1) (word_at line 2) (cells_at line 7 8) (cells_at line 15 64)
      (wrap w64 (pos (word_at line 5))) (word_at line 3) (word_at line 4))

  abbrev turns : Unwrapper
  turns = record { y = wrap w64 (pos (word_at line 6)) }

  loaded : (s : Recorder) → ◌≡◌ {A = Read} (load_of line) (Ok s) → ◌≡◌ {A = Read} (resumed_by turns made) (Ok s)
  unfolding load_of state_loaded
  loaded s e =
      let e1 = stays (eqb (length line) 1282) Refusal.LongLine _ s e in
      let e2 = stays (eqb (get_or line 1281 0) newline) Refusal.LongLine _ s e1 in
      let e3 = passes (any_wrong line 0 80) Refusal.Malformed _ s e2 in
      let e4 = stays (eqb (word_at line 79) (check_from 1 (words_at line 0 79))) Refusal.CheckValue _ s e3 in
      let e5 = passes (ltb 4294967295 (word_at line 2)) Refusal.OutOfRange _ s e4 in
      passes (ltb 4294967295 (word_at line 3)) Refusal.OutOfRange _ s e5

pub after_load : AfterLoad
after_load line s e =
    let N = word_at line 0 in
    let M = word_at line 1 in
    let rate = word_at line 2 in
    let c = word_at line 3 in
    let n = word_at line 4 in
    let q = resumed (turns line) (made line) s (loaded line s e) in
    let t : Recorder = record { plugged = true; turns = turns line; filter = s.filter } in
    let h : Contents (cells_at line 7 8) (cells_at line 15 64) = record { long8 = cells-long line 7 8; long64 = cells-long line 15 64 } in
    subst (λ (p : Recorder). Traces N M rate c (N * M) n (turns line) p) (sym q.0)
    (traces N M rate c (N * M) n t
    (after_resume w64 N M rate c n (cells_at line 7 8) (cells_at line 15 64) (wrap w64 (pos (word_at line 5))) s.filter q.1 h))
