-- The tables hold the files' sources too: the signal that a gate's operand reads is its source, and an input has none.
use Prim.Native.Nat.{ℕ, ◌+◌, ◌<◌, ◌≤◌}
use mathlib.Core.Path.{◌≡◌, refl, sym, subst, ◌∙◌, ap}
use mathlib.Core.Bool.{Bool, true, false}
use mathlib.Core.Logic.{◌⊎◌, inl, inr}
use mathlib.Core.List.{List}
use native.Mathlib.Omega.{arith}
use lib.Dec.{eqb, leb}
use borrow.Author.Tests.{eq-eqb, eqb-true}
use Rattle.logic.specs.Test.{◌or◌}
use Rattle.std.specs.Prelude.{if◌then◌else◌}
use Rattle.model.specs.Files.{Files}
use Rattle.model.specs.Network.{Network, Signal, input, unit_delay, rank_order}
use Rattle.model.specs.Netlist.{network}
use Rattle.model.specs.Module.{Module, At, Laid, local_present, switch_present, no_part, no_sender, sent_signal, Sent, present, earlier, Carries, local_earlier_lem, local_present_lem, local_not_yet, switch_earlier_lem, switch_present_lem, switch_not_yet, must_be_none, operand_right}
use Rattle.model.specs.Acceptance.{panel_limit, network_of, module_of_files, Accepted}
use Rattle.model.proofs.Conditions.{Scheduled}
use Rattle.model.proofs.Machine.{operand_at, sender_at_lem, sent_at}
use Rattle.model.proofs.Operands.{IsGate, Fits, unused, carried, operand_exact}
use Rattle.model.proofs.Accepted.{net_accepted, net_signal_lem}
use Rattle.model.proofs.Demands.{accepted_formed, accepted_scheduled}
use Rattle.buffers_tables.specs.Panel.{processor_in, slot_in}
use Rattle.buffers_tables.specs.Tables.{named_signal, network_in, module_in}
use Rattle.buffers_tables.specs.Holding.{SameLines, Holding}

module _ {n : Network} {m t : Module} (same : SameLines t m) (laid : Laid n m) (p k : ℕ) (a : At m p k) where
  -- what is sent into a location is the same in both
  sent_same : (m.sender p k ≡ no_sender → ⊥) → sent_signal t p k ≡ sent_signal m p k
  sent_same received =
      let q = m.sender p k in
      let b : At m q k = sender_at_lem laid a received in
      ap (λ (x : ℕ). t.signal x (t.send_location x k)) (same.senders p k a)
      ∙ ap (λ (x : ℕ). t.signal q x) (same.send_locations q k b)
      ∙ same.signals q (m.send_location q k) (sent_at laid a received)

  sent_there : {late : ℕ} → Sent m p k late → sent_signal t p k ≡ sent_signal m p k
  sent_there (present received is) = sent_same received
  sent_there (earlier received is) = sent_same received

  -- the signal that a location carries is the one that an operand names there
  named_carried : (i x s age : ℕ) → Carries m p i x k s age
      → (if leb x local_present then t.signal p k else if leb x switch_present then sent_signal t p k else 0) ≡ s
  named_carried i x s age local_earlier_lem = same.signals p k a
  named_carried i x s age (local_present_lem l) = same.signals p k a
  named_carried i x s age (local_not_yet l) = same.signals p k a
  named_carried i x s age (switch_earlier_lem h) = sent_there h
  named_carried i x s age (switch_present_lem l h) = sent_there h
  named_carried i x s age (switch_not_yet l h) = sent_there h

-- an input's operands are none
module _ (n : Network) (m : Module) (p i j : ℕ) (e : n.kind (m.signal p i) ≡ input) where
  must_none : must_be_none n m p i j ≡ true
  unfolding must_be_none ◌or◌
  must_none = go (eqb (m.signal p i) 0)
    where
      go : (b : Bool) → (b or (eqb (n.kind (m.signal p i)) input or eqb (n.source (m.signal p i) j) 0)) ≡ true
      go true = refl
      go false = rw (eq-eqb (n.kind (m.signal p i)) input e)

  input_none : operand_right n m p i j ≡ true → m.part p i j ≡ no_part
  unfolding operand_right
  input_none t = eqb-true _ _ (rw must_none at t)

module _ {limit : ℕ} (few : limit ≤ panel_limit) (files : Files) (accepted : Accepted limit files) (panel program : List ℕ)
    (holding : Holding (network_of files) (module_of_files files) panel program) where
  abbrev n : Network
  n = network_of files

  abbrev m : Module
  m = module_of_files files

  abbrev t : Module
  t = module_in panel program

  abbrev ok : Scheduled n m
  ok = accepted_scheduled limit files accepted

  module _ (s j : ℕ) (g : Signal n s) (l : j < 4) (p i : ℕ) (a : At m p i) (is : m.signal p i ≡ s) where
    -- by the part and the location of the line
    named : ℕ → ℕ → ℕ
    named x k = if leb x local_present then t.signal p k else if leb x switch_present then sent_signal t p k else 0

    named_line : named_signal t p i j ≡ named (m.part p i j) (m.location p i j)
    unfolding named_signal named
    named_line = rw (holding.lines.parts p i j a l, holding.lines.locations p i j a l)

    named_none : m.part p i j ≡ no_part → named_signal t p i j ≡ 0
    unfolding named
    named_none e = named_line ∙ ap (λ (x : ℕ). named x (m.location p i j)) e

    gate_source : IsGate (n.kind (m.signal p i)) → named_signal t p i j ≡ n.source s j
    unfolding named
    gate_source gate = go ((operand_exact n m p i j some gate).0 (ok.operands p i j a l))
      where
        some : 1 ≤ m.signal p i
        some = omega (arith, g.low, is)

        go : Fits n m p i j → named_signal t p i j ≡ n.source s j
        go (unused e none) = named_none none ∙ sym e ∙ ap (λ (x : ℕ). n.source x j) is
        go (carried h c) =
            named_line
            ∙ named_carried holding.lines ok.laid p (m.location p i j) (operand_at ok.laid a j l) i (m.part p i j) _ _ c
            ∙ ap (λ (x : ℕ). n.source x j) is

    input_source : n.kind (m.signal p i) ≡ input → named_signal t p i j ≡ n.source s j
    unfolding network
    input_source e =
        let line = net_signal_lem limit files.NET (net_accepted limit files accepted) s g in
        named_none (input_none n m p i j e (ok.operands p i j a l))
        ∙ sym (line.zeros (ap n.kind (sym is) ∙ e) (8 + j) (omega arith) (omega arith))

  -- the sources that the tables hold are NET's
  pub held_sources : (s j : ℕ) → Signal n s → j < 4 → (network_in panel program).source s j ≡ n.source s j
  unfolding network_in
  held_sources s j g l = go ((accepted_formed limit files accepted).kinds (m.signal p i) signal)
    where
      p : ℕ
      p = processor_in panel s

      i : ℕ
      i = slot_in panel s

      signal : Signal n (m.signal p i)
      signal = subst (Signal n) (sym (holding.places s g).is) g

      go : (n.kind (m.signal p i) ≡ input) ⊎ (n.kind (m.signal p i) ≡ unit_delay) ⊎ (n.kind (m.signal p i) ≡ rank_order)
          → named_signal t p i j ≡ n.source s j
      go (inl e) = input_source s j g l p i (holding.places s g).at (holding.places s g).is e
      go (inr (inl e)) = gate_source s j g l p i (holding.places s g).at (holding.places s g).is (inl e)
      go (inr (inr e)) = gate_source s j g l p i (holding.places s g).at (holding.places s g).is (inr e)
