-- What the accepted files' networks and modules satisfy, as propositions: the tests of specs/ give these, and the theorems use them.
use Prim.Native.Nat.{ℕ, ◌≤◌, ◌<◌}
use mathlib.Core.Path.{◌≡◌}
use mathlib.Core.Bool.{true}
use mathlib.Core.Logic.{◌⊎◌}
use Rattle.model.specs.Network.{Network, Signal, input, unit_delay, rank_order, OnClosedChain}
use Rattle.model.specs.Module.{Module, At, Laid, send_right, reception_right, operand_right}

-- what refusals 11 and 12 leave
pub record Formed (n : Network) : Type 0 where
  pub kinds : (s : ℕ) → Signal n s → (n.kind s ≡ input) ⊎ (n.kind s ≡ unit_delay) ⊎ (n.kind s ≡ rank_order)
  pub sources : (s j : ℕ) → Signal n s → j < 4 → n.source s j ≤ n.size

-- what refusal 13 leaves
abbrev pub Acyclic : Network → Type 0
Acyclic n = (s : ℕ) → OnClosedChain n s → ⊥

-- two states agree on the signals
abbrev pub Same : Network → (ℕ → ℕ) → (ℕ → ℕ) → Type 0
Same n a b = (s : ℕ) → Signal n s → a s ≡ b s

-- what refusal 22 leaves: the one place of a signal
pub record Placed (m : Module) (s : ℕ) : Type 0 where
  pub processor : ℕ
  pub slot : ℕ
  pub at : At m processor slot
  pub is : m.signal processor slot ≡ s
  pub only : (p i : ℕ) → At m p i → m.signal p i ≡ s → (p ≡ processor) × (i ≡ slot)

-- an accepted module
pub record Scheduled (n : Network) (m : Module) : Type 0 where
  pub laid : Laid n m
  pub places : (s : ℕ) → Signal n s → Placed m s
  pub sends : (p i : ℕ) → At m p i → send_right m p i ≡ true
  pub receptions : (p i : ℕ) → At m p i → reception_right m p i ≡ true
  pub operands : (p i j : ℕ) → At m p i → j < 4 → operand_right n m p i j ≡ true
