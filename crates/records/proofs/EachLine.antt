-- What holds of an unknown record, of one with a wrong number of fields and of the record that a name's fields make holds of each line's.
use mathlib.Core.Bool.{Bool, true, false, cond}
use mathlib.Core.List.{List, [], ◌∷◌}
use Prim.Native.Nat.{ℕ}
use lib.Dec.{eqb}
use lib.ListN.{length}
use Rattle.text.specs.Letters.{tab}
use Rattle.text.specs.Parts.{parted}
use Rattle.records.specs.Lines.{unknown_record, wrong_count, held_record, name_of, is_known, wanted_of, fields_record, record_of}
use Rattle.records.specs.declared.parse.Name.{Name}
use Rattle.records.specs.declared.parse.Record.{Record}
use Rattle.records.specs.declared.parse.Record.TheVariants.{Bad}

module _ (P : Record → Type 0) (wide : Bool) (unknown : P (Bad unknown_record)) (miscounted : P (Bad wrong_count))
    (held : (name : Name) (fs : List (List ℕ)) → P (held_record wide name fs)) where
  either : (b : Bool) (x y : Record) → P x → P y → P (cond b x y)
  either true x y h k = h
  either false x y h k = k

  each_fields : (ps : List (List ℕ)) → P (fields_record wide ps)
  each_fields [] = unknown
  each_fields (name ∷ fs) =
      let n = name_of name in
      let r = held_record wide n fs in
      let counted = eqb (length fs) (wanted_of n) in
      either (is_known n) (cond counted r (Bad wrong_count)) (Bad unknown_record)
      (either counted r (Bad wrong_count) (held n fs) miscounted) unknown

  pub each_line : (l : List ℕ) → P (record_of wide l)
  unfolding record_of
  each_line l = each_fields (parted tab l)
