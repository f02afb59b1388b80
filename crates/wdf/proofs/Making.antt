-- A maker's answer by its number, and what it gives where the empty filter stands for a refused one's.
use Rattle.std.proofs.Common.{◌≡◌, ℕ, List, ℤ, pos, replicate, ap, ◌∙◌}
use Rattle.std.specs.Prelude.{Result}
use Rattle.std.specs.Result.{result_unwrap_or}
use Rattle.blocks.specs.declared.refusal.Refusal.{Refusal}
use Rattle.blocks.proofs.Refusals.{in_place}
use Rattle.wdf.specs.declared.filter.Wdf.{Wdf}
use Rattle.wdf.specs.Calls.{filter, none, made_unless, Makes}

pub made_so : (k sections architecture : ℕ) (a : List ℤ) (r : Result Wdf Refusal) → r ≡ made_unless k sections architecture a
    → Makes k sections architecture a r
unfolding made_unless
made_so k sections architecture a r e =
    (e, ap (λ (m : Result Wdf Refusal). result_unwrap_or m none) e ∙ in_place k (filter sections architecture a (replicate 8 (pos 0))) none)
