-- Lines that are right by themselves for a network of at most 4096 signals are so for the widest one.
use Prim.Native.Nat.{ℕ, ◌*◌, ◌≤◌}
use mathlib.Core.Path.{◌≡◌}
use mathlib.Core.Bool.{true}
use mathlib.Core.List.{List}
use native.Mathlib.Omega.{arith}
use borrow.Author.Tests.{leb-true, le-leb}
use Rattle.logic.proofs.Tests.{and_left, and_right, and_true}
use Rattle.model.specs.Refusal.{pass}
use Rattle.model.specs.Network.{Network}
use Rattle.model.specs.ModuleFile.{mod_processors, mod_slots, module_of, line_layout, mod_slot, each_line}
use Rattle.model.proofs.Refusals.{first_left, first_right, first_both, unless_true, unless_pass, below_pass, below_all}
use Rattle.file_mod_table.specs.Line.{widest}

module _ (n : Network) (few : n.size ≤ 4096) (l : List ℕ) where
  layout_widened : (p i : ℕ) → line_layout n l p i ≡ true → line_layout widest l p i ≡ true
  unfolding line_layout
  layout_widened p i right =
      let from-slot = and_right _ _ right in
      let from-signal = and_right _ _ from-slot in
      let most = leb-true _ _ (and_left _ _ from-signal) in
      and_true _ _ (and_left _ _ right)
      (and_true _ _ (and_left _ _ from-slot)
      (and_true _ _ (le-leb ((module_of l).signal p i) 4096 (omega arith)) (and_right _ _ from-signal)))

  slot_widened : (p i : ℕ) → mod_slot n l p i ≡ pass → mod_slot widest l p i ≡ pass
  unfolding mod_slot
  slot_widened p i right =
      first_both _ _ (first_left _ _ right)
      (unless_pass _ 21 _ (layout_widened p i (unless_true _ _ _ (first_right _ _ right))))

  pub lines_widened : each_line l (mod_slot n l) ≡ pass → each_line l (mod_slot widest l) ≡ pass
  unfolding each_line
  lines_widened right =
      below_all (mod_processors l * mod_slots l) _ (λ k low. slot_widened _ _ (below_pass _ _ right k low))
