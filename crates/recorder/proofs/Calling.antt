-- What `take` makes of a recorder: words are refused, or their turns go through the filter.
use Rattle.std.proofs.Common.{◌≡◌, ℕ, suc, ◌≤◌, ◌<◌, true, false, ℤ, List, [], ◌∷◌, ◌++◌, length, take, drop, refl, sym, ap, ◌∙◌, lt-ltb, le-ltb, ne_eqb, eq-eqb}
use Rattle.std.specs.Prelude.{Result, Ok, Err}
use lib.Seq.{take-append_seam}
use Rattle.blocks.specs.declared.refusal.Refusal.{Refusal}
use Rattle.blocks.proofs.Refusals.{taken_number}
use Rattle.blocks.specs.Scan.{ends}
use Rattle.unwrap.specs.declared.unwrapper.Unwrapper.{Unwrapper}
use Rattle.unwrap.specs.Phases.{grown}
use Rattle.sums.specs.Counted.{block_number, block_state, block_out}
use Rattle.shape.specs.declared.runs.Written.{Written}
use Rattle.shape.specs.Answers.{block_wrote}
use Rattle.shape.proofs.Ways.{never}
use Rattle.cic.specs.Reading.{counted_of, cic_of}
use Rattle.cic.specs.declared.state.Cic.{Cic}
use Rattle.recorder.specs.Calls.{word_ops, turn_out, turns_from, block_took, took_of, took_answer, turns_left, out_left}
use Rattle.recorder.specs.declared.recorder.Recorder.{Recorder}

scan-length : (u : Unwrapper) (ws : List ℤ) → length (turns_from u ws) ≡ length ws
scan-length u [] = refl
scan-length u (w ∷ ws) = ap suc (scan-length (grown u w) ws)

-- what a call leaves and answers
abbrev pub Takes : Recorder → List ℤ → List ℤ → List ℤ → Recorder → Result Written Refusal → List ℤ → List ℤ → Type 0
Takes s ws turns out t r ts left =
    (t ≡ took_of s ws turns out) × (r ≡ took_answer s ws turns out) × (ts ≡ turns_left s ws turns) × (left ≡ out_left s ws turns out)

pub take_short : (s : Recorder) (ws turns out : List ℤ) → length turns < length ws → Takes s ws turns out s (Err Refusal.ShortOutput) turns out
unfolding took_of took_answer turns_left out_left
take_short s ws turns out h = let e = lt-ltb (length turns) (length ws) h in (rw e, rw e, rw e, rw e)

pub take_out : (s : Recorder) (ws turns out : List ℤ) → length ws ≤ length turns → s.plugged ≡ false
    → Takes s ws turns out s (Err Refusal.PlugOut) turns out
unfolding took_of took_answer turns_left out_left
take_out s ws turns out h p = let e = le-ltb (length turns) (length ws) h in (rw (e, p), rw (e, p), rw (e, p), rw (e, p))

module _ (s : Recorder) (ws turns out : List ℤ) (h : length ws ≤ length turns) (p : s.plugged ≡ true) where
  pub front : (ts : List ℤ) → ts ≡ turns_from s.turns ws → take (length ws) (ts ++ drop (length ws) turns) ≡ ts
  front ts t =
      let l : length ws ≡ length ts = sym (ap length t ∙ scan-length s.turns ws) in
      rw l (take-append_seam ts (drop (length ts) turns))

  pub front_length : (ts : List ℤ) → ts ≡ turns_from s.turns ws → length ws ≡ length (take (length ws) (ts ++ drop (length ws) turns))
  front_length ts t = sym (ap length (front ts t) ∙ ap length t ∙ scan-length s.turns ws)

  -- the filter's block of the turns left f, answered r and left `left`
  module _ (ts : List ℤ) (et : ts ≡ turns_from s.turns ws) (f : Cic ℤ) (r : Result Written Refusal) (left : List ℤ)
      (a : counted_of f ≡ block_state word_ops (counted_of s.filter) (take (length ws) (ts ++ drop (length ws) turns)) out)
      (b : r ≡ block_wrote word_ops (counted_of s.filter) (take (length ws) (ts ++ drop (length ws) turns)) out)
      (c : left ≡ block_out word_ops (counted_of s.filter) (take (length ws) (ts ++ drop (length ws) turns)) out) where
    x : take (length ws) (ts ++ drop (length ws) turns) ≡ turns_from s.turns ws
    x = front ts et ∙ et

    number : ℕ
    number = block_number (counted_of s.filter) (turns_from s.turns ws) out

    answered : r ≡ block_wrote word_ops (counted_of s.filter) (turns_from s.turns ws) out
    answered = b ∙ ap (λ (l : List ℤ). block_wrote word_ops (counted_of s.filter) l out) x

    filter_is : f ≡ cic_of (block_state word_ops (counted_of s.filter) (turns_from s.turns ws) out)
    filter_is = ap cic_of a ∙ ap (λ (l : List ℤ). cic_of (block_state word_ops (counted_of s.filter) l out)) x

    through : (u : Unwrapper) → ◌≡◌ {A = Recorder} (record { plugged = s.plugged; turns = u; filter = f }) (block_took s ws out)
        → Takes s ws turns out (record { plugged = s.plugged; turns = u; filter = f }) r (ts ++ drop (length ws) turns) left
    unfolding took_of took_answer turns_left out_left
    through u g =
        let e = le-ltb (length turns) (length ws) h in (
          g ∙ rw (e, p),
          answered ∙ rw (e, p),
          rw (e, p) (ap (λ (l : List ℤ). l ++ drop (length ws) turns) et),
          rw (e, p) (c ∙ ap (λ (l : List ℤ). block_out word_ops (counted_of s.filter) l out) x),
        )

    pub take-through : (w : Written) → r ≡ Ok w → (u : Unwrapper) → u ≡ ends turn_out grown s.turns ws
        → Takes s ws turns out (record { plugged = s.plugged; turns = u; filter = f }) r (ts ++ drop (length ws) turns) left
    unfolding number
    take-through w o u eu =
        through u (rw (filter_is, eu, eq-eqb number 0 (taken_number number _ w (sym o ∙ answered))))

    pub take-refused : (k : Refusal) → r ≡ Err k
        → Takes s ws turns out (record { plugged = s.plugged; turns = s.turns; filter = f }) r (ts ++ drop (length ws) turns) left
    unfolding number
    take-refused k o = through s.turns (rw (filter_is, ne_eqb number 0 (never number _ k (sym o ∙ answered))))
