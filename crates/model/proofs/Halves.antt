-- The halves by number do what the roles do: cycle t stores half t % 2, which the cycle after it has as the earlier one, and leaves the
-- other half as it was.
use Prim.Native.Nat.{ℕ, zero, suc, ◌+◌, ◌%◌}
use mathlib.Core.Path.{◌≡◌, refl, sym, ◌∙◌, ap}
use native.Mathlib.Omega.{arith}
use borrow.Author.Tests.{eq-eqb, ne_eqb}
use Rattle.model.specs.Network.{Network}
use Rattle.model.specs.Module.{Module}
use Rattle.model.specs.Machine.{Memory, slot, slots, alternate, cycle}
use Rattle.model.specs.Halves.{Halves, roles, storing, cycle_of_halves}

-- half x of the local and of the switch memory
pub record Half (h : Halves) (x : ℕ) (local switch : ℕ → ℕ → ℕ) : Type 0 where
  pub local_is : h.local x ≡ local
  pub switch_is : h.switch x ≡ switch

-- the half that cycle t stored is the earlier one of cycle t + 1
pub earlier_half : (t : ℕ) (h : Halves) → Half h (t % 2) (roles (t + 1) h).earlier_local (roles (t + 1) h).earlier_switch
unfolding roles
earlier_half t h = let e : t % 2 ≡ (t + 1 + 1) % 2 = omega arith in record { local_is = ap h.local e; switch_is = ap h.switch e }

module _ (n : Network) (m : Module) (row : ℕ → ℕ) where
  -- no slot stores into the earlier halves
  slots_earlier : (c : ℕ) (w : Memory)
      → ((slots n m row c w).earlier_local ≡ w.earlier_local) × ((slots n m row c w).earlier_switch ≡ w.earlier_switch)
  unfolding slots slot
  slots_earlier zero w = (refl, refl)
  slots_earlier (suc i) w = slots_earlier i w

  module _ (t : ℕ) (h : Halves) where
    -- what cycle t stores, and what it leaves
    pub stored_half : Half (cycle_of_halves n m row t h) (t % 2) (cycle n m row (roles t h)).earlier_local (cycle n m row (roles t h)).earlier_switch
    unfolding cycle_of_halves storing cycle alternate
    stored_half = let e = eq-eqb (t % 2) (t % 2) refl in record { local_is = rw e; switch_is = rw e }

    pub other_half : Half (cycle_of_halves n m row t h) ((t + 1) % 2) (h.local ((t + 1) % 2)) (h.switch ((t + 1) % 2))
    unfolding cycle_of_halves storing
    other_half = let e = ne_eqb ((t + 1) % 2) (t % 2) (omega arith) in record { local_is = rw e; switch_is = rw e }

    pub halves_cycle : roles (t + 1) (cycle_of_halves n m row t h) ≡ cycle n m row (roles t h)
    unfolding roles cycle alternate
    halves_cycle =
        let earlier = earlier_half t (cycle_of_halves n m row t h) in
        let kept = slots_earlier m.slots (roles t h) in
        λ i.
        record {
          earlier_local = (sym earlier.local_is ∙ stored_half.local_is) i;
          present_local = (other_half.local_is ∙ sym kept.0) i;
          earlier_switch = (sym earlier.switch_is ∙ stored_half.switch_is) i;
          present_switch = (other_half.switch_is ∙ sym kept.1) i;
        }
