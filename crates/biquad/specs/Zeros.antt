-- What adding a zero leaves of a double, -0.0 told: the words in which IDENTITY, HOLD and proportional are told by what
-- they do.
use Rattle.std.specs.Prelude.{Bool, true, false, not, ◌&&◌, cond, zero, suc, pos, Float}
use Rattle.std.specs.Float.{nan, inf, fin}

-- the sign, which a zero has too
abbrev pub negative : Float → Bool
negative nan = false
negative (inf s) = s
negative (fin s m e) = s

-- -0.0 or +0.0
abbrev pub zero_of : Bool → Float
zero_of s = fin s 0 (pos 0)

-- v plus zeros that are all negative where t is true: v, but where v is -0.0 and t is false it is +0.0
abbrev pub zero_added : Bool → Float → Float
zero_added t nan = nan
zero_added t (inf s) = inf s
zero_added t (fin s zero e) = zero_of (s && t)
zero_added t (fin s (suc m) e) = fin s (suc m) e

-- v plus 0.0 times each of some values, which are all finite where f is true and all negative where t is true
abbrev pub zeros_joined : Bool → Bool → Float → Float
zeros_joined f t v = cond f (zero_added t v) nan

-- a number other than -0.0
abbrev pub plain : Float → Bool
plain nan = false
plain (inf s) = false
plain (fin s zero e) = not s
plain (fin s (suc m) e) = true
