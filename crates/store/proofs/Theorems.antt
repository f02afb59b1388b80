-- A move's promise settles the call.
use mathlib.Core.Path.{◌≡◌, sym, ◌∙◌}
use mathlib.Core.List.{List}
use Prim.Native.Nat.{ℕ}
use Rattle.settings_text.specs.Moves.{Moved}
use Rattle.store.specs.Moving.{Moves}
use Rattle.std.specs.Prelude.{Result}
use Rattle.store_read.specs.declared.reading.BadLine.{BadLine}

-- two results that it allows are one
pub moves_settled : {m : Moved} {o : List ℕ} {q r : Result ℕ BadLine} {us vs : List ℕ} → Moves m o q us → Moves m o r vs → (q ≡ r) × (us ≡ vs)
moves_settled p t = (p.answer ∙ sym t.answer, p.written ∙ sym t.written)
