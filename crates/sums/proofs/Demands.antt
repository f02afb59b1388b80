-- The statements of specs/Demands, each from the room that proves it.
use mathlib.Core.Path.{◌≡◌, refl}
use mathlib.Core.List.{List}
use Prim.Native.Nat.{ℕ, zero, suc, ◌*◌, ◌≤◌}
use native.Mathlib.Omega.{arith}
use lib.IntN.{ℤ}
use mir.Syntax.{Width}
use mir.Val.{bits}
use Rattle.sums.specs.Signed.{signed_ops}
use Rattle.sums.specs.State.{State, zeroed}
use Rattle.sums.specs.Counted.{Counted, block_number}
use Rattle.sums.specs.Demands.{Contents, Decimator, Interpolator, Demand2, Demand2Cleared, Demand3, Demand3Rate, Demand3Tight}
use Rattle.sums.specs.Demands.{Between, ToldInBlock, SettledPart, GainBound, FitSound, FitTight, Settled}
use Rattle.sums.proofs.Refusals.{Sound, sound, Good, good}
use Rattle.sums.proofs.Steps.{packed, Fit}
use Rattle.sums.proofs.Makers.{new_is, clear_is, resume_is, rate_is, settle_is, resume_sound, rate_sound, zero_sound, zeroed_fit}
use Rattle.sums.proofs.Makers.{decimates-zero}
use Rattle.sums.proofs.Settling.{decimates_settled}
use Rattle.sums.proofs.Alone.{decimator}
use Rattle.sums.proofs.Interpolating.{interpolates_zero}
use Rattle.sums.proofs.Constant.{settled_stream}
use Rattle.sums.proofs.Tight.{misleads}
use Rattle.sums.proofs.Numbering.{block_accepts}
use Rattle.sums.proofs.Believed.{settled_part_law, in_block}
use Rattle.sums.proofs.Mixed.{mixed}
use Rattle.sums.proofs.Sizes.{gain_bound, fit_asked, whole, whole-risen}
use Rattle.sums.proofs.Wrapping.{wraps}

-- from zero
from_zero : (w : Width) (N M r : ℕ) → Sound N M r 0 0
    → Decimator w N M r 0 0 0 (record { state = zeroed (signed_ops w) N M r; inputs = 0 }) × Interpolator w N M r (zeroed (signed_ops w) N M r)
from_zero w N M r q = (
  decimator w N M r 0 0 0 (zeroed (signed_ops w) N M r) (zeroed_fit (signed_ops w) N M r q) (decimates-zero w N M r q),
  interpolates_zero w N M r q,
)

pub demand2 : Demand2
demand2 w N M r e = rw (new_is (signed_ops w) N M r e) (from_zero w N M r (sound N M r 0 0 e))

pub demand2_cleared : Demand2Cleared
demand2_cleared w c e =
    let s = c.state in rw (clear_is (signed_ops w) s e, e) (from_zero w s.order s.delay s.rate (zero_sound s e))

-- from any contents, N M outputs unsettled
from_any : (w : Width) (s : State ℤ) (n : ℕ) → Good s → Contents s.integrators s.combs → s.order * s.delay ≤ s.unsettled
    → Decimator w s.order s.delay s.rate s.countdown s.unsettled n (record { state = s; inputs = n })
from_any w s n g h l =
    let f : Fit s = record { good = g; long8 = h.long8; long64 = h.long64 } in
    decimator w s.order s.delay s.rate s.countdown s.unsettled n s f (λ xs. decimates_settled w s f xs n l)

pub demand3 : Demand3
demand3 w N M r c n is ks hold e h =
    rw (resume_is (signed_ops w) N M r c is ks hold e, e)
    (from_any w (packed N M r c (N * M) hold is ks) n (resume_sound N M r c e) h (omega arith))

pub demand3_rate : Demand3Rate
demand3_rate w c r e h =
    let s = c.state in
    rw (rate_is (signed_ops w) s r e)
    (from_any w (packed s.order s.delay r s.countdown (s.order * s.delay) s.hold s.integrators s.combs) c.inputs
    (rate_sound s r e) h (omega arith))

-- the state of a block that is accepted
block_fit : (c : Counted ℤ) (xs out : List ℤ) → Contents c.state.integrators c.state.combs → block_number c xs out ≡ 0
    → Fit c.state
block_fit c xs out h e = record { good = good c.state (block_accepts c xs out e); long8 = h.long8; long64 = h.long64 }

pub settled_parts : SettledPart
settled_parts w c xs out h e = settled_part_law (signed_ops w) c (block_fit c xs out h e) xs out e

pub told_in_block : ToldInBlock
told_in_block w c xs out h e = in_block (signed_ops w) c (block_fit c xs out h e) xs out e

pub settled : Settled
settled w s x e = rw (settle_is (signed_ops w) s x e) (settled_stream w s x s.order refl (zero_sound s e))

pub demand3_tight : Demand3Tight
demand3_tight w zero M r c e h = absurd (omega arith)
demand3_tight w (suc n) zero r c e h = absurd (omega (arith, (sound (suc n) 0 r c 0 e).some))
demand3_tight w (suc n) (suc m) r c e h = misleads w n m r c e

pub gain_bounded : GainBound
gain_bounded s e = gain_bound s (good s e)

pub fit_is_sound : FitSound
fit_is_sound w c b e y =
    let s = c.state in let from = demand2_cleared w c (fit_asked s (bits w) b e).accepted in (
      λ calls h. whole w s b e y (from.0 calls).1 h,
      λ calls h. whole-risen w s b e y (from.1 calls).1 h,
      λ countdown n is ks hold f g calls h.
          whole w s b e y (demand3 w s.order s.delay s.rate countdown n is ks hold f g calls).1 h,
    )

pub fit_is_tight : FitTight
fit_is_tight w c b e n = wraps w c b e n

pub between : Between
between = mixed
