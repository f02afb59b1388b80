-- Three letters, or six.
use native.Mathlib.Omega.{arith}
use Rattle.store_write.proofs.Putting.{bytes-ended}
use Rattle.store_write.proofs.writing.put_kind.Goals as goal

pub returns-in-Cic : goal.returns-in-Cic
returns-in-Cic c =
    rw c.in-Cic.is
    (bytes-ended _ _ _ _ _ _ c.requires (omega arith) c.put_bytes.ensures)

pub returns-in-Wdf : goal.returns-in-Wdf
returns-in-Wdf c =
    rw c.in-Wdf.is
    (bytes-ended _ _ _ _ _ _ c.requires (omega arith) c.put_bytes-in-Wdf.ensures)

pub returns-in-Dither : goal.returns-in-Dither
returns-in-Dither c =
    rw c.in-Dither.is
    (bytes-ended _ _ _ _ _ _ c.requires (omega arith) c.put_bytes-in-Dither.ensures)
