-- The lengths one by one, and all of them.
use Prim.Native.Nat.{ℕ}
use mathlib.Core.Path.{◌≡◌}
use mathlib.Core.Bool.{Bool, true}
use mathlib.Core.List.{[], ◌∷◌}
use borrow.Author.Tests.{eqb-true, eq-eqb}
use Rattle.logic.specs.Test.{◌and◌}
use Rattle.logic.proofs.Tests.{and_left, and_right}
use Rattle.model.specs.Session.{same_lengths}
use Rattle.buffers_lengths.specs.Lengths.{fixed, Sizes}

module _ (a b c : ℕ) where
  abbrev same : Bool
  same = same_lengths (a ∷ b ∷ c ∷ []) fixed

  pub sizes_same : Sizes a b c → same ≡ true
  unfolding same_lengths ◌and◌
  sizes_same h = rw (eq-eqb _ _ h.panel_size, eq-eqb _ _ h.program_size, eq-eqb _ _ h.memory_size)

  pub same_sizes : same ≡ true → Sizes a b c
  unfolding same_lengths
  same_sizes e =
      record {
        panel_size = eqb-true _ _ (and_left _ _ e);
        program_size = eqb-true _ _ (and_left _ _ (and_right _ _ e));
        memory_size = eqb-true _ _ (and_left _ _ (and_right _ _ (and_right _ _ e)));
      }
