-- Arrays of a number for each signal: what one holds.
use Prim.Native.Nat.{ℕ, ◌<◌, ◌≤◌}
use mathlib.Core.Path.{◌≡◌, ◌∙◌, ap}
use mathlib.Core.List.{List}
use native.Mathlib.Omega.{arith}
use lib.ListN.{get_or}
use Rattle.logic.specs.Listed.{listed}
use Rattle.logic.proofs.Listed.{listed_at}
use Rattle.model.specs.Netlist.{net_size}
use Rattle.model.specs.Checked.{Checked}
use Rattle.model.proofs.Checked.{checked_size}

-- an array of a given length
pub array_at : (f : ℕ → ℕ) (l : List ℕ) → l ≡ listed 4097 f → (s : ℕ) → s < 4097 → get_or l s 0 ≡ f s
array_at f l e s h = ap (λ (x : List ℕ). get_or x s 0) e ∙ listed_at 4097 f s h

pub in_array : (net : List ℕ) → Checked net → (s : ℕ) → s ≤ net_size net → s < 4097
in_array net checked s h = omega (arith, checked_size net checked)
