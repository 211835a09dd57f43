-- A block worked out by hand: 1 in the earliest of nine cycles and U in the ninth set the lowest bit of the first byte of low bits, and
-- the lowest bit of the second byte of high bits. Whatever stands past the count does not matter.
use mathlib.Core.Path.{◌≡◌, refl}
use mathlib.Core.Bool.{true, false}
use mathlib.Core.List.{[], ◌∷◌}
use Rattle.logic.specs.Test.{◌and◌, ◌or◌, all}
use Rattle.logic.specs.Listed.{listed}
use Rattle.model.specs.Refusal.{fail, first, unless, first_below}
use Rattle.session_answers.specs.Recorded.{recorded_check}
use Rattle.traces.specs.Bits.{bit, bits}
use Rattle.traces.specs.Turned.{recorded, turned_byte, turned, block_value, unused_clear}
use Rattle.traces.specs.Checks.{values_check}

pub nine_cycles : turned (1 ∷ 0 ∷ 0 ∷ 0 ∷ 0 ∷ 0 ∷ 0 ∷ 0 ∷ 2 ∷ 255 ∷ []) 9
    ≡ 1 ∷ 0 ∷ 0 ∷ 0 ∷ 0 ∷ 0 ∷ 0 ∷ 0 ∷ 0 ∷ 1 ∷ 0 ∷ 0 ∷ 0 ∷ 0 ∷ 0 ∷ 0 ∷ []
unfolding turned turned_byte recorded bits bit listed
nine_cycles = refl

-- bit 1 of byte 9 is the high bit of cycle 9, the tenth: unused with nine cycles, and used with ten
pub tenth_unused : unused_clear (0 ∷ 0 ∷ 0 ∷ 0 ∷ 0 ∷ 0 ∷ 0 ∷ 0 ∷ 0 ∷ 2 ∷ 0 ∷ 0 ∷ 0 ∷ 0 ∷ 0 ∷ 0 ∷ []) 9 ≡ false
unfolding unused_clear block_value bit all ◌and◌ ◌or◌
tenth_unused = refl

pub tenth_used : unused_clear (0 ∷ 0 ∷ 0 ∷ 0 ∷ 0 ∷ 0 ∷ 0 ∷ 0 ∷ 0 ∷ 2 ∷ 0 ∷ 0 ∷ 0 ∷ 0 ∷ 0 ∷ 0 ∷ []) 10 ≡ true
unfolding unused_clear block_value bit all ◌and◌ ◌or◌
tenth_used = refl

-- the first value above 3 within the count is returned
pub first_above : values_check (3 ∷ 4 ∷ 255 ∷ []) 3 ≡ fail 42 4
unfolding values_check recorded_check first_below first unless
first_above = refl
