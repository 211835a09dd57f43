-- What a checked NET gives, whatever limit it passed by: N in its range, right lines, each signal's layout, and a network that is formed and
-- has no closed chain. A NET that passes by a limit of the unit is checked.
use Prim.Native.Nat.{ℕ, ◌≤◌}
use mathlib.Core.Path.{◌≡◌}
use mathlib.Core.Bool.{true}
use mathlib.Core.List.{List}
use native.Mathlib.Omega.{arith}
use Rattle.fields.specs.Line.{is_line_at}
use Rattle.model.specs.Refusal.{pass}
use Rattle.model.specs.Files.{Files}
use Rattle.model.specs.Network.{Signal}
use Rattle.model.specs.Netlist.{net_line, net_size, network, net_check}
use Rattle.model.specs.Acceptance.{panel_limit, Accepted}
use Rattle.model.specs.Checked.{Checked}
use Rattle.model.proofs.Conditions.{Formed, Acyclic}
use Rattle.model.proofs.Chains.{net_acyclic}
use Rattle.model.proofs.Accepted.{SignalRight, net_accepted, net_size_lem, net_signal_lem, net_formed, net_lines_lem}

-- the panel's own limit is one
pub panel_few : panel_limit ≤ panel_limit
panel_few = omega arith

pub checked_accepted : (limit : ℕ) → limit ≤ panel_limit → (net : List ℕ) → net_check limit net ≡ pass → Checked net
checked_accepted limit few net passes = record { limit = limit; few = few; passes = passes }

pub files_checked : (limit : ℕ) → limit ≤ panel_limit → (files : Files) → Accepted limit files → Checked files.NET
files_checked limit few files accepted = checked_accepted limit few files.NET (net_accepted limit files accepted)

module _ (net : List ℕ) (checked : Checked net) where
  pub checked_size : (1 ≤ net_size net) × (net_size net ≤ panel_limit)
  checked_size =
      let size = net_size_lem checked.limit net checked.passes in
      (size.0, omega (arith, size.1, checked.few))

  pub checked_signal : (s : ℕ) → Signal (network net) s → SignalRight net s
  checked_signal = net_signal_lem checked.limit net checked.passes

  -- the line of s; line 1 is that of 0
  pub checked_line : (s : ℕ) → s ≤ net_size net → is_line_at net (net_line s) 12 ≡ true
  checked_line = net_lines_lem checked.limit net checked.passes

  pub checked_formed : Formed (network net)
  checked_formed = net_formed checked.limit net checked.passes

  pub checked_acyclic : Acyclic (network net)
  checked_acyclic = net_acyclic net checked.limit checked.passes
