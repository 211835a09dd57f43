-- A checked NET has passed 10 to 12, line by line.
use Prim.Native.Nat.{ℕ}
use mathlib.Core.Path.{◌≡◌, refl, sym, subst}
use mathlib.Core.List.{List}
use Rattle.model.specs.Netlist.{net_size, network}
use Rattle.model.specs.Checked.{Checked}
use Rattle.model.proofs.Accepted.{net_lines_lem}
use Rattle.model.proofs.Checked.{checked_size, checked_signal}
use Rattle.file_net_graph.specs.Lines.{Lines}

module _ (net : List ℕ) (checked : Checked net) where
  all_lines : Lines net (net_size net)
  unfolding network
  all_lines =
      record {
        is = refl;
        small = (checked_size net checked).1;
        right = net_lines_lem checked.limit net checked.passes;
        sources = λ s j low high l. (checked_signal net checked s (record { low = low; high = high })).sources j l;
      }

  pub checked_lines : (size : ℕ) → size ≡ net_size net → Lines net size
  checked_lines size e = subst (Lines net) (sym e) all_lines
