-- The bytes before the index are letters, so that the rest decides.
use Rattle.std.proofs.Common.{◌≡◌, drop}
use Rattle.settings_text.specs.Fields.{letters}
use Rattle.entries.proofs.names.is_name.Given as goal

abbrev pub invariant-loop-b : goal.invariant-loop-b
invariant-loop-b l = letters (drop l.b-index l.s) ≡ letters l.s
