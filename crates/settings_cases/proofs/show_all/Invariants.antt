-- Each case ends behind where it begins.
use Rattle.std.proofs.Common.{◌-◌, length}
use Rattle.settings_cases.proofs.show_all.Given as goal

abbrev pub decreases-loop-at : goal.decreases-loop-at
decreases-loop-at g l = length l.file - l.at
