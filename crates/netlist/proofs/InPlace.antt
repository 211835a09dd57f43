-- The fields of an accepted NET that are read in place: N, and those of a signal, whose kind is one of three. A NET that passes by a lower
-- limit passes by the panel's.
use Prim.Native.Nat.{ℕ, ◌+◌, ◌*◌, ◌≤◌}
use mathlib.Core.Path.{◌≡◌, refl}
use mathlib.Core.Bool.{true}
use mathlib.Core.List.{List}
use mathlib.Core.Logic.{⊎_elim}
use borrow.Author.Tests.{leb-true, le-leb}
use Rattle.logic.proofs.Tests.{and_left, and_right, and_true}
use Rattle.logic.proofs.Judged.{connected}
use Rattle.std.specs.Prelude.{Result, Ok, Err, IsOk}
use Rattle.fields.specs.Line.{is_line_at}
use Rattle.model.specs.Refusal.{pass}
use Rattle.model.specs.Network.{is_signal}
use Rattle.model.specs.Netlist.{net_field, net_size, network, net_header, net_check}
use Rattle.model.specs.Acceptance.{panel_limit}
use Rattle.model.specs.Checked.{Checked}
use Rattle.model.proofs.Refusals.{first_left, first_right, first_both, unless_true, unless_pass}
use Rattle.model.proofs.Checked.{panel_few, checked_accepted, checked_size, checked_signal, checked_line}
use Rattle.netlist.specs.declared.kind.Kind.{Kind}
use Rattle.netlist.specs.declared.kind.UnknownKind.{UnknownKind}
use Rattle.netlist.specs.Kind.{Decodes}

module _ (net : List ℕ) (checked : Checked net) where
  header_passes : net_header checked.limit net ≡ pass → net_header panel_limit net ≡ pass
  unfolding net_header
  header_passes right =
      let laid = unless_true _ _ _ (first_right _ _ right) in
      let rest = and_right _ _ laid in
      let size = checked_size net checked in
      first_both _ _ (first_left _ _ right)
      (unless_pass _ 11 1 (and_true _ _ (and_left _ _ laid) (and_true _ _ (and_true _ _ (le-leb _ _ size.0) (le-leb _ _ size.1)) (and_right _ _ rest))))

  pub checked_passes : net_check panel_limit net ≡ pass
  unfolding net_check
  checked_passes = first_both _ _ (header_passes (first_left _ _ checked.passes)) (first_right _ _ checked.passes)

module _ (net : List ℕ) (accepted : net_check panel_limit net ≡ pass) where
  pub checked : Checked net
  checked = checked_accepted panel_limit panel_few net accepted

  pub right_line : (line : ℕ) → line ≤ net_size net → is_line_at net (73 * line) 12 ≡ true
  right_line = checked_line net checked

  pub size_range : (1 ≤ net_size net) × (net_size net ≤ 4096)
  size_range = checked_size net checked

  module _ (s : ℕ) (signal : is_signal (network net) s ≡ true) where
    pub low : 1 ≤ s
    unfolding is_signal
    low = leb-true _ _ (and_left _ _ signal)

    pub high : s ≤ net_size net
    unfolding is_signal network
    high = leb-true _ _ (and_right _ _ signal)

    -- the number of a signal's kind names one
    pub kind_named : (r : Result Kind UnknownKind) → Decodes (net_field net s 0) r → IsOk r
    unfolding network
    kind_named (Ok kind) decoded = refl
    kind_named (Err unknown) decoded =
        absurd (⊎_elim decoded.1 (⊎_elim decoded.2 decoded.3) (checked_signal net checked s (record { low = low; high = high })).kind)

pub size_is : (net : List ℕ) → (network net).size ≡ net_size net
unfolding network
size_is net = refl

pub kind_is : (net : List ℕ) (s : ℕ) → net_field net s 0 ≡ (network net).kind s
unfolding network
kind_is net s = refl

pub source_is : (net : List ℕ) (s j : ℕ) → net_field net s (8 + j) ≡ (network net).source s j
unfolding network
source_is net s j = refl

pub ruleset sized = (connected, size_is)
