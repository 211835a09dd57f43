-- Parts of `net_check` that the code judges by themselves: the layout of line 1, and the lines of the signals.
use Rattle.std.specs.Prelude.{ℕ, suc, Bool, List, eqb, leb}
use Rattle.logic.specs.Test.{◌and◌}
use Rattle.model.specs.Refusal.{Check, first_below}
use Rattle.model.specs.Netlist.{net_field, net_size, ten_zeros, net_signal}

abbrev pub header_laid : ℕ → List ℕ → Bool
header_laid limit net = eqb (net_field net 0 0) 0 and (leb 1 (net_size net) and leb (net_size net) limit) and ten_zeros net 0

abbrev pub net_lines : List ℕ → Check
net_lines net = first_below (net_size net) (λ k. net_signal net (suc k))
