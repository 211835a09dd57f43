-- What the tests on a module's lines say. An operand of a gate passes (23) exactly when its location carries the gate's source, of the
-- cycle that the gate takes it from: one statement for the four parts, by their common type `Carries`. A send that passes (24) names a
-- signal, stored already where it is sent from the present half; a reception that passes (25) has a send.
use Prim.Native.Nat.{ℕ, zero, suc, ◌≤◌, ◌<◌}
use mathlib.Core.Path.{◌≡◌, refl, sym}
use mathlib.Core.Bool.{Bool, true, false, not, false≢true}
use mathlib.Core.Logic.{◌⊎◌, inl, inr, ◌↔◌}
use native.Mathlib.Omega.{arith}
use lib.Dec.{eqb}
use borrow.Author.Tests.{eqb-true, eqb-false, eq-eqb, ne_eqb, ltb-true, lt-ltb, not-true}
use Rattle.logic.specs.Test.{◌or◌}
use Rattle.std.specs.Prelude.{if◌then◌else◌}
use Rattle.logic.proofs.Tests.{and_left, and_right, and_true}
use Rattle.model.specs.Network.{Network, input, unit_delay, rank_order}
use Rattle.model.specs.Module.{Module, local_earlier, local_present, no_part, no_sender, sent_part, sent_signal, send_right, reception_right, reads, must_be_none, operand_right, Sent, present, earlier, Carries, local_earlier_lem, local_present_lem, local_not_yet, switch_earlier_lem, switch_present_lem, switch_not_yet}

-- how many cycles old a gate of the kind takes its sources: 1 for a unit-delay gate, 0 for a rank-order gate
abbrev pub wanted : ℕ → ℕ
wanted kind = if eqb kind unit_delay then 1 else 0

-- a kind of gates
abbrev pub IsGate : ℕ → Type 0
IsGate kind = (kind ≡ unit_delay) ⊎ (kind ≡ rank_order)

-- operand j of slot i of processor p is what the gate there wants: none where it has no source, else its source of the wanted cycle
pub data Fits (n : Network) (m : Module) (p i j : ℕ) : Type 0 where
  unused : n.source (m.signal p i) j ≡ 0 → m.part p i j ≡ no_part → Fits n m p i j
  carried : 1 ≤ n.source (m.signal p i) j
      → Carries m p i (m.part p i j) (m.location p i j) (n.source (m.signal p i) j) (wanted (n.kind (m.signal p i)))
      → Fits n m p i j

-- the test that two numbers differ, and back
pub differ : (a b : ℕ) → not (eqb a b) ≡ true → a ≡ b → ⊥
differ a b t = eqb-false a b (not-true (eqb a b) t)

pub distinct : (a b : ℕ) → (a ≡ b → ⊥) → not (eqb a b) ≡ true
distinct a b d = rw (ne_eqb a b d)

pub gate_no_input : {kind : ℕ} → IsGate kind → kind ≡ input → ⊥
gate_no_input (inl e) f = omega arith
gate_no_input (inr e) f = omega arith

-- what is sent into a location is received there
pub sent_received : {m : Module} {p k late : ℕ} → Sent m p k late → m.sender p k ≡ no_sender → ⊥
sent_received (present received is) = received
sent_received (earlier received is) = received

-- the kind from the age that it wants
takes_earlier : {kind : ℕ} → IsGate kind → 1 ≤ wanted kind → (kind ≡ unit_delay) × (wanted kind ≡ 1)
takes_earlier (inl e) h = (e, rw e)
takes_earlier (inr e) h = absurd (omega (arith, rw e at h))

takes_present : {kind : ℕ} → IsGate kind → wanted kind ≡ 0 → kind ≡ rank_order
takes_present (inl e) h = absurd (omega (arith, rw e at h))
takes_present (inr e) h = e

module _ (m : Module) (p i : ℕ) where
  -- the part of the send that a gate of the kind reads from the present half, and its age
  sent_wanted : (k kind : ℕ) → (m.sender p k ≡ no_sender → ⊥)
      → sent_part m p k ≡ (if eqb kind unit_delay then local_earlier else local_present) → Sent m p k (wanted kind)
  sent_wanted k kind received = go (eqb kind unit_delay)
    where
      go : (b : Bool) → sent_part m p k ≡ (if b then local_earlier else local_present) → Sent m p k (if b then 1 else 0)
      go true e = earlier received e
      go false e = present received e

  wanted_sent : {k late : ℕ} (kind : ℕ) → late ≡ wanted kind → Sent m p k late
      → sent_part m p k ≡ (if eqb kind unit_delay then local_earlier else local_present)
  wanted_sent {k} kind = go (eqb kind unit_delay)
    where
      go : {late : ℕ} (b : Bool) → late ≡ (if b then 1 else 0) → Sent m p k late → sent_part m p k ≡ (if b then local_earlier else local_present)
      go true e (earlier received is) = is
      go true e (present received is) = absurd (omega arith)
      go false e (earlier received is) = absurd (omega arith)
      go false e (present received is) = is

  reads_carries : (x k kind s : ℕ) → reads m p i x k kind s ≡ true → Carries m p i x k s (wanted kind)
  unfolding reads
  reads_carries zero k kind s t =
      let gate : kind ≡ unit_delay = eqb-true _ _ (and_left _ _ t) in
      let source : m.signal p k ≡ s = eqb-true _ _ (and_right _ _ t) in
      rw (gate, ← source) local_earlier_lem
  reads_carries (suc zero) k kind s t =
      let gate : kind ≡ rank_order = eqb-true _ _ (and_left _ _ t) in
      let u = and_right _ _ t in
      let source : m.signal p k ≡ s = eqb-true _ _ (and_right _ _ u) in
      rw (gate, ← source) (local_present_lem (ltb-true _ _ (and_left _ _ u)))
  reads_carries (suc (suc zero)) k kind s t =
      let gate : kind ≡ unit_delay = eqb-true _ _ (and_left _ _ t) in
      let u = and_right _ _ t in
      let v = and_right _ _ u in
      let source : sent_signal m p k ≡ s = eqb-true _ _ (and_right _ _ v) in
      rw (gate, ← source) (switch_earlier_lem (present (differ _ _ (and_left _ _ u)) (eqb-true _ _ (and_left _ _ v))))
  reads_carries (suc (suc (suc zero))) k kind s t =
      let u = and_right _ _ (and_right _ _ t) in
      let v = and_right _ _ u in
      let source : sent_signal m p k ≡ s = eqb-true _ _ (and_right _ _ v) in
      rw (← source)
      (switch_present_lem (ltb-true _ _ (and_left _ _ (and_right _ _ t)))
      (sent_wanted k kind (differ _ _ (and_left _ _ u)) (eqb-true _ _ (and_left _ _ v))))
  reads_carries (suc (suc (suc (suc x)))) k kind s t =
      absurd (false≢true (and_left _ _ (rw (other 0 (omega arith), other 1 (omega arith), other 2 (omega arith), other 3 (omega arith)) at t)))
    where
      other : (y : ℕ) → y ≤ 3 → eqb (suc (suc (suc (suc x)))) y ≡ false
      other y h = ne_eqb _ _ (λ (e : suc (suc (suc (suc x))) ≡ y). omega arith)

  carries_reads : {x k s age : ℕ} (kind : ℕ) → IsGate kind → age ≡ wanted kind → Carries m p i x k s age → reads m p i x k kind s ≡ true
  unfolding reads
  carries_reads kind g e local_earlier_lem = let gate = (takes_earlier g (omega arith)).0 in search (and_true, eq-eqb)
  carries_reads kind g e (local_present_lem below) = let gate = takes_present g (sym e) in search (and_true, eq-eqb, lt-ltb)
  carries_reads kind g e (local_not_yet above) = absurd (omega (arith, takes_earlier g (omega arith)))
  carries_reads kind g e (switch_earlier_lem (present received is)) =
      let gate = (takes_earlier g (omega arith)).0 in search (and_true, eq-eqb, distinct)
  carries_reads kind g e (switch_earlier_lem (earlier received is)) = absurd (omega (arith, takes_earlier g (omega arith)))
  carries_reads kind g e (switch_present_lem below sent) =
      search (and_true, eq-eqb, lt-ltb, distinct _ _ (sent_received sent), wanted_sent kind e sent)
  carries_reads kind g e (switch_not_yet above sent) = absurd (omega (arith, takes_earlier g (omega arith)))

module _ (n : Network) (m : Module) (p i j : ℕ) (some : 1 ≤ m.signal p i) (gate : IsGate (n.kind (m.signal p i))) where
  may_read : must_be_none n m p i j ≡ eqb (n.source (m.signal p i) j) 0
  unfolding must_be_none ◌or◌
  may_read = rw (ne_eqb (m.signal p i) 0 (λ (e : m.signal p i ≡ 0). omega arith), ne_eqb (n.kind (m.signal p i)) input (gate_no_input gate))

  right_fits : operand_right n m p i j ≡ true → Fits n m p i j
  unfolding operand_right
  right_fits t = go (eqb (n.source (m.signal p i) j) 0) refl (rw may_read at t)
    where
      go : (b : Bool) → eqb (n.source (m.signal p i) j) 0 ≡ b
          → (if b then eqb (m.part p i j) no_part else
          reads m p i (m.part p i j) (m.location p i j) (n.kind (m.signal p i)) (n.source (m.signal p i) j)) ≡ true
          → Fits n m p i j
      go true e u = unused (eqb-true _ _ e) (eqb-true _ _ u)
      go false e u =
          let d : (n.source (m.signal p i) j ≡ 0 → ⊥) = eqb-false _ _ e in
          carried (omega arith) (reads_carries m p i _ _ _ _ u)

  fits_right : Fits n m p i j → operand_right n m p i j ≡ true
  unfolding operand_right
  fits_right (unused e is) = rw (may_read, e, is)
  fits_right (carried h c) =
      rw (may_read, ne_eqb (n.source (m.signal p i) j) 0 (λ (e : n.source (m.signal p i) j ≡ 0). omega arith))
      (carries_reads m p i (n.kind (m.signal p i)) gate refl c)

  -- 23 is exact: the operand passes exactly when it is what the gate wants
  pub operand_exact : (operand_right n m p i j ≡ true) ↔ Fits n m p i j
  operand_exact = (right_fits, fits_right)

-- 24: a signal is sent, and one stored already where it is sent from the present half
pub send_full : (m : Module) (p i : ℕ) → send_right m p i ≡ true → (m.send_part p i ≡ no_part → ⊥) → 1 ≤ m.signal p (m.send_location p i)
unfolding send_right ◌or◌
send_full m p i t d =
    let u : (m.signal p (m.send_location p i) ≡ 0 → ⊥) = differ _ _ (and_left _ _ (rw (ne_eqb (m.send_part p i) no_part d) at t)) in
    omega arith

pub send_stored : (m : Module) (p i : ℕ) → send_right m p i ≡ true → m.send_part p i ≡ local_present → m.send_location p i < i
unfolding send_right ◌or◌
send_stored m p i t e = ltb-true _ _ (and_right _ _ (rw e at t))

-- 25: the processor received from sends
pub reception_sent : (m : Module) (p i : ℕ) → reception_right m p i ≡ true → (m.sender p i ≡ no_sender → ⊥) → sent_part m p i ≡ no_part → ⊥
unfolding reception_right ◌or◌
reception_sent m p i t d = differ _ _ (rw (ne_eqb (m.sender p i) no_sender d) at t)
