-- WAV calls as C makes them: the number of a refusal, or 0. A refused call leaves everything that is lent as it was.
use Rattle.std.specs.Prelude.{◌≡◌, List, ◌++◌, ℕ, ◌/◌, ◌*◌, ℤ, length, drop, Result}
use Rattle.std.specs.Result.{result_unwrap_or}
use Rattle.blocks.specs.declared.refusal.Refusal.{Refusal}
use Rattle.blocks.specs.Refusals.{number_in}
use Rattle.blocks.specs.Blocks.{unless}
use Rattle.wav.specs.declared.header.Recording.{Recording}
use Rattle.wav.specs.Header.{head_of, header_of, head_number}
use Rattle.wav.specs.Samples.{read_number, write_number, read_slice, write_slice}

-- the number of a header's refusal, or 0; and what it tells, or what stood there
abbrev pub head_answer : Result Recording Refusal → ℕ
head_answer head = number_in head

abbrev pub head_or : Result Recording Refusal → Recording → Recording
head_or head old = result_unwrap_or head old

abbrev pub recording : ℕ → ℕ → Recording
recording rate size = record { rate = rate; size = size }

pub record ReadsHeader (bytes : List ℕ) (len : ℕ) (r s : Recording) (number : ℕ) : Type 0 where
  pub answer : number ≡ head_answer (head_of bytes len)
  pub told : s ≡ head_or (head_of bytes len) r

pub record WritesHeader (rate size : ℕ) (out left : List ℕ) (number : ℕ) : Type 0 where
  pub answer : number ≡ head_number rate size out
  pub written : left ≡ unless (head_number rate size out) out (header_of rate size ++ drop 44 out)

pub record ReadsPart (bytes : List ℕ) (out : List ℤ) (n : ℕ) (left : List ℤ) (m number : ℕ) : Type 0 where
  pub answer : number ≡ read_number bytes out
  pub written : left ≡ read_slice bytes out
  pub count : m ≡ unless (read_number bytes out) n (length bytes / 2)

pub record WritesPart (samples : List ℤ) (out : List ℕ) (n : ℕ) (left : List ℕ) (m number : ℕ) : Type 0 where
  pub answer : number ≡ write_number samples out
  pub written : left ≡ write_slice samples out
  pub count : m ≡ unless (write_number samples out) n (2 * length samples)
