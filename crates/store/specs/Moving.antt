-- What a move answers. 02, A12: 84 before 20, and nothing is written on a refusal.
use Rattle.std.specs.Prelude.{Bool, true, false, cond, ◌||◌, ◌≡◌, List, [], ◌∷◌, map, ℕ, ◌+◌, ◌-◌, leb, ltb, length, Result, Ok, Err}
use Rattle.blocks.specs.declared.refusal.Refusal.{Refusal}
use Rattle.blocks.specs.Refusals.{refusal_at}
use Rattle.text.specs.Writing.{overlaid}
use Rattle.wdf.specs.Retired.{moved}
use Rattle.settings_text.specs.Moves.{Moved, Text, Refused}
use Rattle.settings_text.specs.declared.version.Version.{Version}
use Rattle.settings_text.specs.declared.version.Version.TheVariants.{One, Two}
use Rattle.store_read.specs.declared.reading.BadLine.{BadLine}
use Rattle.entries.specs.declared.settings.Entry.{Entry}
use Rattle.entries.specs.declared.settings.Kind.{Kind}
use Rattle.entries.specs.declared.settings.Kind.TheVariants as kinds
use Rattle.entries.specs.declared.settings.Settings.{Settings}

-- a refusal, or 20 where the slice is short, or the text
abbrev pub move_ends : {A : Type 0} → Moved → List ℕ → (ℕ → ℕ → A) → (List ℕ → A) → A
move_ends (Text text) o refused done = cond (leb (length text) (length o)) (done text) (refused 0 20)
move_ends (Refused line number) o refused done = refused line number

-- the count written, or line and refusal
abbrev pub move_result : Moved → List ℕ → Result ℕ BadLine
move_result m o = move_ends m o (λ line number. Err (record { line = line; refusal = refusal_at number })) (λ text. Ok (length text))

-- and the slice, whose rest stays and where nothing is written on a refusal
pub record Moves (m : Moved) (o : List ℕ) (r : Result ℕ BadLine) (o' : List ℕ) : Type 0 where
  pub answer : r ≡ move_result m o
  pub written : o' ≡ move_ends m o (λ line number. o) (λ text. overlaid o 0 text)

-- For private functions: what writing answers, with no line to blame
abbrev pub unblamed : Result ℕ Refusal → Result ℕ BadLine
unblamed (Ok n) = Ok n
unblamed (Err r) = Err (record { line = 0; refusal = r })

-- an entry as it stands in a form. No rate that can be written is 2^32 - 1
unfoldable pub third_in : Version → ℕ → ℕ
third_in One r = r - 1
third_in Two rate = cond (ltb rate 4294967295) (rate + 1) 0

-- and an architecture: b and c stand in the places of e and f in form 2
unfoldable pub architecture_in : Version → ℕ → ℕ → ℕ
architecture_in One k arch = arch
architecture_in Two k arch = moved k arch

abbrev pub recast_kind : Version → Kind → Kind
recast_kind v (kinds.Cic n m r) = kinds.Cic n m (third_in v r)
recast_kind v (kinds.Wdf k arch) = kinds.Wdf k (architecture_in v k arch)
recast_kind v (kinds.Dither f) = kinds.Dither f

abbrev pub recast_entry : Version → Entry → Entry
recast_entry v e = record { name = e.name; kind = recast_kind v e.kind; a = e.a }

abbrev pub recast_in : Version → Settings → Settings
recast_in v s = record { count = s.count; entries = map (recast_entry v) s.entries }

abbrev pub dither_kind : Kind → Bool
dither_kind (kinds.Cic n m r) = false
dither_kind (kinds.Wdf k arch) = false
dither_kind (kinds.Dither f) = true

abbrev pub any_dither_in : List Entry → Bool
any_dither_in [] = false
any_dither_in (e ∷ es) = dither_kind e.kind || any_dither_in es
