-- The place tells the replay, but for the bytes behind its line.
use mathlib.Core.Path.{◌≡◌}
use lib.ListN.{length}
use borrow.Author.Rules.{rules}
use Rattle.playback.proofs.Turning.{tidy_is}
use Rattle.playback.proofs.driver.Replay.tidied.Statement.{statement}
use Rattle.playback.proofs.driver.Replay.tidied.Tie as tie

long : (c : tie.Start) → length c.args.self.line ≡ 64
long c = search rules

returns : tie.Need-returns
returns c =
    tidy_is c.before.before.before.args.self c.padded-line.result c.before.before.before.requires
    (long c.before.before.before) c.padded-line.ensures

pub tidied_spec : {M : Type 1} → statement M
tidied_spec = tie.close (tie.spec (λ c κs. search rules) returns)
