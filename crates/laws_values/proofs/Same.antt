-- Two networks and modules that agree at their lines make the same cycle: the tables of accepted files run as the files' own machine.
use Prim.Native.Nat.{ℕ, zero, suc, ◌<◌, ◌≤◌}
use mathlib.Core.Path.{◌≡◌, refl, sym, subst, ◌∙◌, ap}
use mathlib.Core.Bool.{Bool, true, false, not}
use native.Mathlib.Omega.{arith}
use lib.Dec.{eqb}
use Rattle.model.specs.Network.{Network, Signal}
use Rattle.model.specs.Module.{Module, At, Laid, no_sender, received}
use Rattle.model.specs.Machine.{Memory, fetch, operand, result, sent, stored, slot, slots, alternate, cycle}
use Rattle.model.proofs.Machine.{signal_at_lem, sender_at_lem, Near, slot_near, near_alternated}
use Rattle.model.proofs.Operands.{differ}
use Rattle.buffers_tables.specs.Holding.{SameLines}

pub near_trans : {m : Module} {w u v : Memory} → Near m w u → Near m u v → Near m w v
near_trans a b =
    record {
      earlier_local = λ p k at. a.earlier_local p k at ∙ b.earlier_local p k at;
      present_local = λ p k at. a.present_local p k at ∙ b.present_local p k at;
      earlier_switch = λ p k at. a.earlier_switch p k at ∙ b.earlier_switch p k at;
      present_switch = λ p k at. a.present_switch p k at ∙ b.present_switch p k at;
    }

stored_with : (k i : ℕ) (b c : Bool) (x y old : ℕ) → b ≡ c → (c ≡ true → x ≡ y) → stored k i b x old ≡ stored k i c y old
unfolding stored
stored_with k i b true x y old e h = rw (e, h refl)
stored_with k i b false x y old e h = rw e

module _ (n : Network) {f : Network} {m g : Module} (lines : SameLines m g) (laid : Laid f g) (kinds : (s : ℕ) → Signal f s → n.kind s ≡ f.kind s)
    (gates : (s : ℕ) → Signal f s → n.gate s ≡ f.gate s) (row : ℕ → ℕ) where
  module _ (w : Memory) {p i : ℕ} (a : At g p i) where
    operand_same : (j : ℕ) → j < 4 → operand m w p i j ≡ operand g w p i j
    unfolding operand
    operand_same j l =
        ap (λ (x : ℕ). fetch w p x (m.location p i j)) (lines.parts p i j a l) ∙ ap (λ (x : ℕ). fetch w p (g.part p i j) x) (lines.locations p i j a l)

    result_same : 1 ≤ g.signal p i → result n m row w p i ≡ result f g row w p i
    unfolding result
    result_same some =
        let s : Signal f (g.signal p i) = signal_at_lem laid a some in
        rw (
          lines.signals p i a,
          kinds (g.signal p i) s,
          gates (g.signal p i) s,
          operand_same 0 (omega arith),
          operand_same 1 (omega arith),
          operand_same 2 (omega arith),
          operand_same 3 (omega arith),
        )

    sent_same : (g.sender p i ≡ no_sender → ⊥) → sent m w (m.sender p i) i ≡ sent g w (g.sender p i) i
    unfolding sent
    sent_same some =
        let q = g.sender p i in
        let b : At g q i = sender_at_lem laid a some in
        ap (λ (x : ℕ). fetch w x (m.send_part x i) (m.send_location x i)) (lines.senders p i a)
        ∙ ap (λ (x : ℕ). fetch w q x (m.send_location q i)) (lines.send_parts q i b)
        ∙ ap (λ (x : ℕ). fetch w q (g.send_part q i) x) (lines.send_locations q i b)

  slot_same : (w : Memory) (i : ℕ) → i < g.slots → Near g (slot n m row i w) (slot f g row i w)
  unfolding slot
  slot_same w i low =
      record {
        earlier_local = λ p k a. refl;
        present_local = λ p k a.
            stored_with k i _ (not (eqb (g.signal p i) 0)) _ _ _
            (ap (λ (s : ℕ). not (eqb s 0)) (lines.signals p i (here a)))
            (λ e. let d : (g.signal p i ≡ 0 → ⊥) = differ _ _ e in result_same w (here a) (omega arith));
        earlier_switch = λ p k a. refl;
        present_switch = λ p k a.
            stored_with k i _ (received g p i) _ _ _
            (ap (λ (s : ℕ). not (eqb s no_sender)) (lines.senders p i (here a)))
            (λ e. sent_same w (here a) (differ _ _ e));
      }
    where
      here : {p k : ℕ} → At g p k → At g p i
      here a = record { processor = a.processor; slot = low }

  slots_same : {w u : Memory} → Near g w u → (c : ℕ) → c ≤ g.slots → Near g (slots n m row c w) (slots f g row c u)
  unfolding slots
  slots_same near zero h = near
  slots_same near (suc i) h =
      near_trans (slot_same _ i h) (slot_near laid row i h (slots_same near i (omega arith)))

  pub cycle_same : {w u : Memory} → Near g w u → Near g (cycle n m row w) (cycle f g row u)
  unfolding cycle
  cycle_same {w} {u} near =
      let e = lines.slots in
      subst (λ (c : ℕ). Near g (alternate (slots n m row c w)) (alternate (slots f g row g.slots u))) (sym e)
      (near_alternated (slots_same near g.slots (omega arith)))
