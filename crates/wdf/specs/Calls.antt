-- The calls on a filter: what each refuses, answers and leaves.
use Rattle.std.specs.Prelude.{◌≡◌, Result, Bool, false, cond, ◌||◌, List, ◌++◌, ℕ, zero, suc, ◌/◌, ◌%◌, ◌^◌, eqb, ltb, drop, replicate, ℤ, pos}
use Rattle.std.specs.Result.{result_unwrap_or}
use Rattle.blocks.specs.Blocks.{unless}
use Rattle.blocks.specs.declared.refusal.Refusal.{Refusal}
use Rattle.blocks.specs.Refusals as refusals
use Rattle.wdf.specs.declared.filter.Wdf.{Wdf}
use Rattle.adapters.specs.Adapters.{code_of, retired}
use Rattle.sections.specs.Sections.{sections_of, Passed, passed}

-- 01, refusals: 50, more than 8 sections; 51, a nonzero nibble beyond the last section; 0 where there is none
unfoldable pub sections_number : ℕ → ℕ → ℕ
sections_number sections architecture = cond (ltb 8 sections) 50 (cond (eqb (architecture / 16 ^ sections) 0) 0 51)

-- whether one of the first n sections has a retired adapter
unfoldable pub holds_retired : ℕ → ℕ → Bool
holds_retired zero m = false
holds_retired (suc n) m = retired (code_of (m % 16)) || holds_retired n (m / 16)

-- 02, A13: direct construction refuses them with 53, after 51
unfoldable pub new_number : ℕ → ℕ → ℕ
new_number sections architecture =
    let k = sections_number sections architecture in unless k k (cond (holds_retired sections architecture) 53 0)

abbrev pub number : Wdf → ℕ
number s = sections_number s.sections s.architecture

abbrev pub filter : ℕ → ℕ → List ℤ → List ℤ → Wdf
filter sections architecture a z = record { sections = sections; architecture = architecture; a = a; z = z }

-- 01: a refused maker gives its number and an all-zero state: `Wdf::EMPTY`, where its answer is asked for one
abbrev pub none : Wdf
none = filter 0 0 (replicate 8 (pos 0)) (replicate 8 (pos 0))

-- what the number of a filter's first failed test is told as
abbrev pub told : ℕ → Result (Unit {0}) Refusal
told k = refusals.answer k tt

-- a filter whose cells are zero, unless the number k refuses it
unfoldable pub made_unless : ℕ → ℕ → ℕ → List ℤ → Result Wdf Refusal
made_unless k sections architecture a = refusals.answer k (filter sections architecture a (replicate 8 (pos 0)))

-- what a maker answers, and what the answer gives where `none` stands for a refused one's filter
abbrev pub Makes : ℕ → ℕ → ℕ → List ℤ → Result Wdf Refusal → Type 0
Makes k sections architecture a r =
    (r ≡ made_unless k sections architecture a) × (result_unwrap_or r none ≡ unless k none (filter sections architecture a (replicate 8 (pos 0))))

-- a new filter
abbrev pub made : ℕ → ℕ → List ℤ → Result Wdf Refusal
made sections architecture a = made_unless (new_number sections architecture) sections architecture a

-- 02, A13: form 1 settings that hold retired adapters are still read and run
abbrev pub made_form1 : ℕ → ℕ → List ℤ → Result Wdf Refusal
made_form1 sections architecture a = made_unless (sections_number sections architecture) sections architecture a

-- what x does to the sections of s
abbrev pub run : Wdf → ℤ → Passed
run s x = passed (sections_of s.sections s.architecture s.a s.z) x

abbrev pub answer : Wdf → ℤ → ℤ
answer s x = (run s x).back

-- the filter after x: the cells beyond its sections stay
abbrev pub next : Wdf → ℤ → Wdf
next s x = filter s.sections s.architecture s.a ((run s x).cells ++ drop s.sections s.z)

-- the answer y, unless there is a refusal's number
abbrev pub out_at : ℕ → ℤ → Result ℤ Refusal
out_at k y = refusals.answer k y

-- a step's output, and the filter after it
pub record Stepped : Type 0 where
  pub state : Wdf
  pub out : Result ℤ Refusal

-- 01: a refused call hands back the given state and is no step
unfoldable pub stepped : Wdf → ℤ → Stepped
stepped s x = record { state = unless (number s) s (next s x); out = out_at (number s) (answer s x) }

-- The step x from s leaves t and answers r.
abbrev pub Steps : Wdf → ℤ → Wdf → Result ℤ Refusal → Type 0
Steps s x t r = (t ≡ (stepped s x).state) × (r ≡ (stepped s x).out)
