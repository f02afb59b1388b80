-- The bytes go where there is room for all of them.
use Rattle.std.proofs.Common.{refl, ◌≡◌, ◌+◌, ◌-◌, length, arith}
use lib.Seq.{drop-drop}
use Rattle.text.specs.Writing.{overlaid}
use Rattle.text.proofs.Putting.{puts, puts_none, not_fits, does_fit}
use Rattle.text.proofs.writing.put_bytes.Goals as goal

pub returns-then-not-has_room : goal.returns-then-not-has_room
returns-then-not-has_room c = let a = c.args in puts_none a.out.now a.at a.s.now (not_fits _ _ _ _ c.has_room.ensures c.if-not-has_room.true)

pub returns : goal.returns
unfolding overlaid
returns c =
    let a = c.args in
    let h = does_fit _ _ _ _ c.has_room.ensures c.if-not-has_room.false in
    let n : a.at + length a.s.now - a.at ≡ length a.s.now = omega arith in
    puts _ _ _ _ _ h (record { next = refl; text = rw (n, c.copy_from_slice.ensures.after, drop-drop) refl })
