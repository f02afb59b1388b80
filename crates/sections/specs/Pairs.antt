-- For the private functions alone that run a block: two sections at a time.
use Rattle.std.specs.Prelude.{cond, ℕ, ◌+◌, ◌*◌, ◌/◌, ◌%◌, eqb}
use Rattle.adapters.specs.declared.tpa.Tpa.{Tpa}
use Rattle.adapters.specs.declared.tpa.Tpa.TheVariants.{Z, A, B, X, C, D}
use Rattle.sections.specs.declared.pairs.Given.{Given}
use Rattle.sections.specs.declared.pairs.Two.{Two}
use Rattle.sections.specs.declared.pairs.Codes.{Codes}
use Rattle.adapters.specs.Adapters.{adapted, code_of}

-- what two sections with these adapters make
abbrev pub both : Tpa → Tpa → Given → Two
both low high w =
    let p = adapted low w.x w.z0 w.a0 in
    let q = adapted high p.1 w.z1 w.a1 in
    record { back = p.0; cell = q.0; on = q.1 }

-- the sections of the two lowest nibbles
abbrev pub paired : ℕ → Given → Two
paired m w = both (code_of (m % 16)) (code_of (m / 16 % 16)) w

-- a digit below 6 for each nibble, and the adapter of a digit
unfoldable pub digit_of : ℕ → ℕ
digit_of n =
    cond (eqb n 0xa) 1
    (cond (eqb n 0xb) 2
    (cond (eqb n 0xc) 3
    (cond (eqb n 0xd) 4
    (cond (eqb n 0xe) 2
    (cond (eqb n 0xf) 3
    (cond (eqb n 0x1) 5 0))))))

unfoldable pub kind_of : ℕ → Tpa
kind_of d = cond (eqb d 1) A (cond (eqb d 2) B (cond (eqb d 3) C (cond (eqb d 4) D (cond (eqb d 5) X Z))))

unfoldable pub pair_code : ℕ → ℕ
pair_code m = digit_of (m % 16) + 6 * digit_of (m / 16 % 16)

abbrev pub codes_of : ℕ → Codes
codes_of m = record { k0 = pair_code m; k1 = pair_code (m / 256); k2 = pair_code (m / 65536); k3 = pair_code (m / 16777216) }

abbrev pub coded : ℕ → Given → Two
coded k w = both (kind_of (k % 6)) (kind_of (k / 6)) w
