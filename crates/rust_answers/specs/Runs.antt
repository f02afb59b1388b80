-- The generator of long runs and the digest, as oracle/README.md defines them: all modulo 2 ^ 64.
use Rattle.std.specs.Prelude.{cond, List, [], ◌∷◌, ℕ, ◌+◌, ◌*◌, ◌/◌, ◌%◌, ◌^◌, eqb, get_or}
use Rattle.rust_answers.specs.declared.runs.Drawn.{Drawn}

abbrev pub edges : List ℕ
edges = 0 ∷ 1 ∷ 0x7fff_ffff ∷ 0x8000_0000 ∷ 0xffff_ffff ∷ 0x8000_0001 ∷ 0x4000_0000 ∷ 0xc000_0000 ∷ []

abbrev pub edge_of : ℕ → ℕ
edge_of u = get_or edges (u / 4 % 8) 0

-- draw: the value is the high word of the next state
abbrev pub state_after : ℕ → ℕ
state_after s = (s * 6364136223846793005 % 2 ^ 64 + 1442695040888963407) % 2 ^ 64

unfoldable pub drawn : ℕ → Drawn
drawn s = record { state = state_after s; value = state_after s / 4294967296 }

-- spread: one time in four an edge, else another draw
unfoldable pub spread_of : ℕ → Drawn
spread_of s = cond (eqb ((drawn s).value % 4) 0) (record { state = (drawn s).state; value = edge_of (drawn s).value }) (drawn (drawn s).state)

unfoldable pub digest_of : ℕ → ℕ → ℕ
digest_of d w = (d * 6364136223846793005 % 2 ^ 64 + (w + 1)) % 2 ^ 64

-- a number of two words feeds its high word first
unfoldable pub digest_two : ℕ → ℕ → ℕ
digest_two d v = digest_of (digest_of d (v / 4294967296)) (v % 4294967296)

-- each word in turn
unfoldable pub digest_all : ℕ → List ℕ → ℕ
digest_all d [] = d
digest_all d (w ∷ ws) = digest_all (digest_of d w) ws
