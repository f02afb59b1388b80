-- For private functions: where the program stands.
use Rattle.std.specs.Prelude.{List, ℕ, take}
use Rattle.coefficient_lines.specs.Parts.{Standing}
use Rattle.coefficients.specs.declared.parts.Place.{Place}

-- a place in the code, with the array that holds the line
abbrev pub standing_of : Place → List ℕ → Standing
standing_of p line = record { lines = p.lines; line = take p.len line; going = p.going }
