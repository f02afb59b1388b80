-- Where powers stop: just above 2 ^ 63, the greatest number that one is compared with (fit, width 64 and b 1).
use Rattle.std.specs.Prelude.{ℕ, ◌+◌, ◌^◌}

abbrev pub power_cap : ℕ
power_cap = 2 ^ 63 + 1
