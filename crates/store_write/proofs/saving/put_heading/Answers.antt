-- Six bytes, which fit.
use native.Mathlib.Omega.{arith}
use Rattle.store_write.proofs.Putting.{bytes-ended}
use Rattle.store_write.proofs.saving.put_heading.Goals as goal

pub returns-in-One : goal.returns-in-One
returns-in-One c =
    rw c.in-One.is
    (bytes-ended _ _ _ _ _ _ c.requires (omega arith) c.put_bytes.ensures)

pub returns-in-Two : goal.returns-in-Two
returns-in-Two c =
    rw c.in-Two.is
    (bytes-ended _ _ _ _ _ _ c.requires (omega arith) c.put_bytes-in-Two.ensures)
