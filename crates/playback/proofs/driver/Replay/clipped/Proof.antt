-- A line of 64 bytes has no more than 64.
use mathlib.Core.Path.{◌≡◌}
use native.Mathlib.Omega.{arith}
use lib.ListN.{length}
use borrow.Author.Rules.{rules}
use Rattle.playback.proofs.Turning.{clip_place}
use Rattle.playback.proofs.driver.Replay.clipped.Statement.{statement}
use Rattle.playback.proofs.driver.Replay.clipped.Tie as tie

long : (c : tie.Then-self-gt64) → length c.before.before.args.self.line ≡ 64
long c = search rules

returns : tie.Need-returns-then-self-gt64
returns c =
    let a = c.before.before.args.self in
    (clip_place a (long c) (omega arith), omega arith)

pub clipped_spec : {M : Type 1} → statement M
clipped_spec = tie.close (tie.spec returns (λ c. search rules))
