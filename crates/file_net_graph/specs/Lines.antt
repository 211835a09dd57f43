-- What the functions that load the graph of NET ask of it.
use Rattle.std.specs.Prelude.{ℕ, ◌+◌, ◌*◌, ◌<◌, ◌≤◌, ◌≡◌, true, List}
use Rattle.fields.specs.Line.{is_line_at}
use Rattle.model.specs.Netlist.{net_field, net_size}

-- NET's lines have passed 10 to 12
pub record Lines (net : List ℕ) (size : ℕ) : Type 0 where
  pub is : size ≡ net_size net
  pub small : size ≤ 4096
  pub right : (s : ℕ) → s ≤ size → is_line_at net (73 * s) 12 ≡ true
  pub sources : (s j : ℕ) → 1 ≤ s → s ≤ size → j < 4 → net_field net s (8 + j) ≤ size
