-- The gates of a panel, and the values in hand of tables in range, are values.
use Prim.Native.Nat.{ℕ, ◌≤◌}
use mathlib.Core.List.{List}
use Rattle.gates.specs.Value.{Code}
use Rattle.gates.proofs.Legal.{gate_code}
use Rattle.model.specs.Network.{Signal}
use Rattle.buffers_tables.specs.Panel.{codes_in, hand_in}
use Rattle.buffers_tables.specs.Tables.{network_in, Tables}

module _ (panel program : List ℕ) where
  pub gates_small : (s a b c d : ℕ) → a ≤ 3 → b ≤ 3 → c ≤ 3 → d ≤ 3 → (network_in panel program).gate s a b c d ≤ 3
  unfolding network_in
  gates_small s a b c d = gate_code (codes_in panel s)

  pub hands_small : Tables panel program → (s : ℕ) → Signal (network_in panel program) s → Code (hand_in panel s)
  unfolding network_in
  hands_small t s g = t.hands s g.low g.high
