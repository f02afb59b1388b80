-- A call handed on: the number of its refusal, and what stands where its count was asked for. The numbers are those that the
-- definitions of crate wav give.
use Rattle.std.proofs.Common.{◌≡◌, refl, ℕ, zero, suc, List, ℤ, Bool, true, false, cond}
use Rattle.std.specs.Result.{result_unwrap_or}
use lib.Dec.{eqb-suc-zero}
use Rattle.blocks.specs.Refusals.{answer, number_in, refusal_at}
use Rattle.blocks.specs.Blocks.{unless}
use Rattle.wav.specs.Header.{head_number}
use Rattle.wav.specs.Samples.{read_number, write_number}

pub counted : (k v old : ℕ) → result_unwrap_or (answer k v) old ≡ unless k old v
unfolding answer
counted zero v old = refl
counted (suc k) v old = rw (eqb-suc-zero k)

-- one test, and another behind it
module _ {A : Type 0} (v : A) where
  two_tests : (a b : Bool) (j k : ℕ) → number_in (answer j v) ≡ j → number_in (answer k v) ≡ k
      → number_in (answer (cond a (cond b 0 j) k) v) ≡ cond a (cond b 0 j) k
  unfolding answer
  two_tests true true j k e f = refl
  two_tests true false j k e f = e
  two_tests false b j k e f = f

  pub head_told : (rate size : ℕ) (out : List ℕ) → number_in (answer (head_number rate size out) v) ≡ head_number rate size out
  unfolding head_number answer refusal_at
  head_told rate size out = two_tests _ _ 90 20 refl refl

  pub read_told : (bs : List ℕ) (out : List ℤ) → number_in (answer (read_number bs out) v) ≡ read_number bs out
  unfolding read_number answer refusal_at
  read_told bs out = two_tests _ _ 90 20 refl refl

  pub write_told : (xs : List ℤ) (out : List ℕ) → number_in (answer (write_number xs out) v) ≡ write_number xs out
  unfolding write_number answer refusal_at
  write_told xs out = two_tests _ _ 91 20 refl refl
