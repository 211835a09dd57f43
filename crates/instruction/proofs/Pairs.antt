-- The operand of a pair that a right line may have has that part and that location.
use Prim.Native.Nat.{ℕ, zero, suc, ◌≤◌}
use mathlib.Core.Path.{◌≡◌, refl, sym, subst}
use mathlib.Core.Bool.{Bool, true, false}
use mathlib.Core.Logic.{◌⊎◌, inl, inr}
use native.Mathlib.Omega.{arith}
use lib.Dec.{eqb}
use Rattle.std.specs.Prelude.{if◌then◌else◌}
use Rattle.model.specs.Module.{local_earlier, local_present, switch_earlier, switch_present, no_part}
use Rattle.instruction.specs.Operand.{operand_of, part_of, location_of}
use Rattle.instruction.specs.declared.Operand.TheVariants.{LocalEarlier, LocalPresent, SwitchEarlier, SwitchPresent, None}

-- what holds of the four parts and of none holds of every part that a right line may have
pub each_part : (P : ℕ → Type 0) → P local_earlier → P local_present → P switch_earlier → P switch_present → P no_part
    → (part : ℕ) → (part ≤ switch_present) ⊎ (part ≡ no_part) → P part
each_part P a b c d n part (inr e) = subst P (sym e) n
each_part P a b c d n zero (inl h) = a
each_part P a b c d n (suc zero) (inl h) = b
each_part P a b c d n (suc (suc zero)) (inl h) = c
each_part P a b c d n (suc (suc (suc zero))) (inl h) = d
each_part P a b c d n (suc (suc (suc (suc part)))) (inl h) = absurd (omega arith)

pub part_of_pair : (part k : ℕ) → (part ≤ switch_present) ⊎ (part ≡ no_part) → part_of (operand_of part k) ≡ part
unfolding operand_of
part_of_pair part k = each_part (λ x. part_of (operand_of x k) ≡ x) refl refl refl refl refl part

-- the location, whatever the part
pub location_of_pair : (part k : ℕ) → location_of (operand_of part k) ≡ k
unfolding operand_of
location_of_pair part k = go (eqb part local_earlier) (eqb part local_present) (eqb part switch_earlier) (eqb part switch_present)
  where
    go : (a b c d : Bool)
        → location_of (if a then LocalEarlier k else if b then LocalPresent k else if c then SwitchEarlier k else if d then SwitchPresent k else None k) ≡ k
    go true b c d = refl
    go false true c d = refl
    go false false true d = refl
    go false false false true = refl
    go false false false false = refl
