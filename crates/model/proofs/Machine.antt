-- The lockstep machine does the rules of one cycle: where the memory holds the states of the cycles finished, the memory after a cycle
-- holds those and a state that follows from them. The invariant inside the cycle: below the slot that is next, the present halves hold
-- the new state. So each location that carries a signal holds it as old as `Carries` says, at every slot. Besides, for memories that
-- buffers hold: the machine keeps every relation between the values of two memories that its gates keep.
use Prim.Native.Nat.{ℕ, zero, suc, ◌+◌, ◌≤◌, ◌<◌}
use mathlib.Core.Path.{◌≡◌, refl, sym, ◌∙◌, ap}
use mathlib.Core.Bool.{Bool, true, false, not}
use mathlib.Core.Logic.{◌⊎◌, inl, inr}
use native.Mathlib.Numerals.{one-add}
use native.Mathlib.Omega.{arith}
use lib.Dec.{eqb}
use borrow.Author.Tests.{eqb-true, eqb-false, ne_eqb}
use Rattle.std.specs.Prelude.{if◌then◌else◌}
use Rattle.model.specs.Network.{Network, Signal, input, unit_delay, rank_order}
use Rattle.model.specs.Value.{value_of, evaluate, Step}
use Rattle.model.specs.Module.{Module, At, Laid, local_earlier, local_present, switch_earlier, switch_present, no_sender, received, sent_part, sent_signal, send_right, Sent, present, earlier, Carries, local_earlier_lem, local_present_lem, local_not_yet, switch_earlier_lem, switch_present_lem, switch_not_yet}
use Rattle.model.specs.Machine.{Memory, nothing, fetch, operand, result, sent, stored, slot, slots, alternate, cycle, opening}
use Rattle.model.specs.Session.{ticks}
use Rattle.model.proofs.Conditions.{Formed, Same, Scheduled}
use Rattle.model.proofs.Operands.{wanted, IsGate, gate_no_input, Fits, unused, carried, differ, distinct, sent_received, operand_exact, send_full, send_stored, reception_sent}

-- After t cycles, past having the states by their age (0: that of the last cycle): the earlier halves hold what the last cycle stored,
-- and the present ones what the cycle before it stored. A switch location, where something is sent into it, holds the signal sent, as old
-- as it was when sent. Before cycle 1 nothing is said of the present local half.
pub record Holds (m : Module) (past : ℕ → ℕ → ℕ) (t : ℕ) (w : Memory) : Type 0 where
  pub earlier_local : (p k : ℕ) → At m p k → 1 ≤ m.signal p k → w.earlier_local p k ≡ past 0 (m.signal p k)
  pub earlier_switch : (p k late : ℕ) → At m p k → Sent m p k late → w.earlier_switch p k ≡ past late (sent_signal m p k)
  pub present_local : (p k : ℕ) → At m p k → 1 ≤ t → 1 ≤ m.signal p k → w.present_local p k ≡ past 1 (m.signal p k)
  pub present_switch : (p k late : ℕ) → At m p k → Sent m p k late → w.present_switch p k ≡ past (suc late) (sent_signal m p k)

-- Inside a cycle, past 0 being its own state, when its slots below i are done: the earlier halves hold what the cycle before stored, and
-- the present ones below i what this cycle stores.
record Stored (m : Module) (past : ℕ → ℕ → ℕ) (i : ℕ) (w : Memory) : Type 0 where
  earlier_local : (p k : ℕ) → At m p k → 1 ≤ m.signal p k → w.earlier_local p k ≡ past 1 (m.signal p k)
  earlier_switch : (p k late : ℕ) → At m p k → Sent m p k late → w.earlier_switch p k ≡ past (suc late) (sent_signal m p k)
  present_local : (p k : ℕ) → At m p k → k < i → 1 ≤ m.signal p k → w.present_local p k ≡ past 0 (m.signal p k)
  present_switch : (p k late : ℕ) → At m p k → k < i → Sent m p k late → w.present_switch p k ≡ past late (sent_signal m p k)

value_some : (v : ℕ → ℕ) (s : ℕ) → 1 ≤ s → value_of v s ≡ v s
value_some v zero h = absurd (omega arith)
value_some v (suc s) h = refl

-- a location holds y after slot i, if slot i stores y there, or stores elsewhere and it held y
stored_cases : (k i : ℕ) (stores : Bool) (x old y : ℕ) → (k ≡ i → (stores ≡ true) × (x ≡ y)) → ((k ≡ i → ⊥) → old ≡ y)
    → stored k i stores x old ≡ y
unfolding stored
stored_cases k i stores x old y here other = go (eqb k i) refl
  where
    go : (b : Bool) → eqb k i ≡ b → (if b then (if stores then x else old) else old) ≡ y
    go true e = let h = here (eqb-true k i e) in rw h.0 h.1
    go false e = other (eqb-false k i e)

-- the slots below i leave the present halves from i on as they were
pub slots_unstored : (n : Network) (m : Module) (row : ℕ → ℕ) (w : Memory) (p k i : ℕ) → i ≤ k
    → ((slots n m row i w).present_local p k ≡ w.present_local p k) × ((slots n m row i w).present_switch p k ≡ w.present_switch p k)
unfolding slots slot
slots_unstored n m row w p k zero h = (refl, refl)
slots_unstored n m row w p k (suc i) h =
    let left = slots_unstored n m row w p k i (omega arith) in (
      stored_cases k i _ _ _ _ (λ e. absurd (omega arith)) (λ d. left.0),
      stored_cases k i _ _ _ _ (λ e. absurd (omega arith)) (λ d. left.1),
    )

sent_age : {m : Module} {p k late : ℕ} → Sent m p k late → late ≤ 1
sent_age (present received is) = omega arith
sent_age (earlier received is) = omega arith

-- a gate takes its sources from the present cycle or the one before
wanted_age : {kind : ℕ} → IsGate kind → wanted kind ≤ 1
wanted_age (inl e) = rw e (omega arith)
wanted_age (inr e) = rw e (omega arith)

-- a present local location that is not yet stored carries nothing so young
pub young_stored : {m : Module} {p i x k s age : ℕ} → Carries m p i x k s age → age ≤ 1 → x ≡ local_present → i ≤ k → ⊥
young_stored local_earlier_lem young e h = omega arith
young_stored (local_present_lem below) young e h = omega arith
young_stored (local_not_yet above) young e h = omega arith
young_stored (switch_earlier_lem sent) young e h = omega arith
young_stored (switch_present_lem below sent) young e h = omega arith
young_stored (switch_not_yet above sent) young e h = omega arith

-- the lines of a module name its own locations
module _ {n : Network} {m : Module} (laid : Laid n m) {p i : ℕ} (a : At m p i) where
  pub signal_at_lem : 1 ≤ m.signal p i → Signal n (m.signal p i)
  signal_at_lem some = record { low = some; high = laid.signals p i a }

  pub operand_at : (j : ℕ) → j < 4 → At m p (m.location p i j)
  operand_at j l = record { processor = a.processor; slot = laid.locations p i j a l }

  pub sender_at_lem : (m.sender p i ≡ no_sender → ⊥) → At m (m.sender p i) i
  sender_at_lem received = record { processor = go (laid.senders p i a); slot = a.slot }
    where
      go : (m.sender p i < m.processors) ⊎ (m.sender p i ≡ no_sender) → m.sender p i < m.processors
      go (inl h) = h
      go (inr e) = absurd (received e)

  pub sent_at : (m.sender p i ≡ no_sender → ⊥) → At m (m.sender p i) (m.send_location (m.sender p i) i)
  sent_at received =
      let b = sender_at_lem received in
      record { processor = b.processor; slot = laid.send_locations (m.sender p i) i b }

-- every place of a signal holds its value
pub at_signal : {m : Module} {past : ℕ → ℕ → ℕ} {t : ℕ} {w : Memory} {p i s : ℕ} → Holds m past t w → At m p i → m.signal p i ≡ s → 1 ≤ s
    → w.earlier_local p i ≡ past 0 s
at_signal {past} {p} {i} holds a is some = holds.earlier_local p i a (rw is some) ∙ ap (past 0) is

module _ {n : Network} {m : Module} (ok : Scheduled n m) where
  module _ {p i : ℕ} (a : At m p i) where
    send_right_lem : (m.sender p i ≡ no_sender → ⊥) → send_right m (m.sender p i) i ≡ true
    send_right_lem received = ok.sends (m.sender p i) i (sender_at_lem ok.laid a received)

    -- what is sent into a location is carried where it is sent from, late cycles old
    sent_carries : {late : ℕ} → Sent m p i late
        → Carries m (m.sender p i) i (sent_part m p i) (m.send_location (m.sender p i) i) (sent_signal m p i) late
    sent_carries (present received is) = rw is (local_present_lem (send_stored m (m.sender p i) i (send_right_lem received) is))
    sent_carries (earlier received is) = rw is local_earlier_lem

    -- and is a signal
    pub sent_some : (m.sender p i ≡ no_sender → ⊥) → 1 ≤ sent_signal m p i
    sent_some received = send_full m (m.sender p i) i (send_right_lem received) (reception_sent m p i (ok.receptions p i a) received)

  module _ (formed : Formed n) {row : ℕ → ℕ} (past : ℕ → ℕ → ℕ) (rules : Step n row (past 1) (past 0))
      {t : ℕ} {u : Memory} (holds : Holds m (λ age. past (suc age)) t u) where
    module _ {i : ℕ} {w : Memory} (is : slots n m row i u ≡ w) (inv : Stored m past i w) where
      -- a location that carries s holds it, for the four parts and all ages
      fetched : {p x k s age : ℕ} → Carries m p i x k s age → At m p k → 1 ≤ s → (x ≡ local_present → i ≤ k → 1 ≤ t)
          → fetch w p x k ≡ past age s
      unfolding fetch
      fetched local_earlier_lem a some h = inv.earlier_local _ _ a some
      fetched (local_present_lem below) a some h = inv.present_local _ _ a below some
      fetched {p} (local_not_yet {k} above) a some h =
          rw (← is) ((slots_unstored n m row u p k i above).0 ∙ holds.present_local p k a (h refl above) some)
      fetched {p} (switch_earlier_lem {k} {late} sent) a some h = rw (← one-add late) at (inv.earlier_switch p k late a sent)
      fetched (switch_present_lem below sent) a some h = inv.present_switch _ _ _ a below sent
      fetched {p} (switch_not_yet {k} {late} above sent) a some h =
          let two : suc (suc late) ≡ 2 + late = omega arith in
          rw (← is) ((slots_unstored n m row u p k i above).1 ∙ (rw two at (holds.present_switch p k late a sent)))

      -- in every cycle, what is at most one cycle old: all that a slot may use
      fetched_young : {p x k s age : ℕ} → Carries m p i x k s age → At m p k → 1 ≤ s → age ≤ 1 → fetch w p x k ≡ past age s
      fetched_young c a some young = fetched c a some (λ e above. absurd (young_stored c young e above))

      module _ {p : ℕ} (a : At m p i) where
        sent_right_lem : {late : ℕ} → Sent m p i late → sent m w (m.sender p i) i ≡ past late (sent_signal m p i)
        unfolding sent
        sent_right_lem s =
            let received = sent_received s in
            fetched_young (sent_carries a s) (sent_at ok.laid a received) (sent_some a received) (sent_age s)

        module _ (some : 1 ≤ m.signal p i) where
          -- an operand of a gate is its source, of the cycle that the gate takes it from
          operand_right_lem : IsGate (n.kind (m.signal p i)) → (j : ℕ) → j < 4
              → operand m w p i j ≡ value_of (past (wanted (n.kind (m.signal p i)))) (n.source (m.signal p i) j)
          unfolding operand fetch
          operand_right_lem gate j l = go ((operand_exact n m p i j some gate).0 (ok.operands p i j a l))
            where
              go : Fits n m p i j → operand m w p i j ≡ value_of (past (wanted (n.kind (m.signal p i)))) (n.source (m.signal p i) j)
              go (unused e is) = rw (e, is)
              go (carried h c) =
                  fetched_young c (operand_at ok.laid a j l) h (wanted_age gate)
                  ∙ sym (value_some (past (wanted (n.kind (m.signal p i)))) (n.source (m.signal p i) j) h)

          gate_right : IsGate (n.kind (m.signal p i)) → result n m row w p i ≡ evaluate n (past (wanted (n.kind (m.signal p i)))) (m.signal p i)
          unfolding result evaluate
          gate_right gate =
              let right = operand_right_lem gate in
              rw (
                ne_eqb (n.kind (m.signal p i)) input (gate_no_input gate),
                right 0 (omega arith),
                right 1 (omega arith),
                right 2 (omega arith),
                right 3 (omega arith),
              )

          result_right : result n m row w p i ≡ past 0 (m.signal p i)
          unfolding result
          result_right = go (formed.kinds (m.signal p i) g)
            where
              g : Signal n (m.signal p i)
              g = signal_at_lem ok.laid a some

              go : (n.kind (m.signal p i) ≡ input) ⊎ (n.kind (m.signal p i) ≡ unit_delay) ⊎ (n.kind (m.signal p i) ≡ rank_order)
                  → result n m row w p i ≡ past 0 (m.signal p i)
              go (inl e) = rw (e, rules.input_rule (m.signal p i) g e)
              go (inr (inl e)) = gate_right (inl e) ∙ rw e (sym (rules.unit_rule (m.signal p i) g e))
              go (inr (inr e)) = gate_right (inr e) ∙ rw e (sym (rules.rank_rule (m.signal p i) g e))

      next_slot : Stored m past (suc i) (slot n m row i w)
      unfolding slot
      next_slot =
          record {
            earlier_local = inv.earlier_local;
            earlier_switch = inv.earlier_switch;
            present_local = λ p k a h some.
                stored_cases k i _ _ _ _
                (λ e. let here : 1 ≤ m.signal p i = rw e at some in (distinct _ _ (not_empty here), rw e (result_right (rw e at a) here)))
                (λ d. inv.present_local p k a (omega arith) some);
            present_switch = λ p k late a h s.
                stored_cases k i _ _ _ _
                (λ e. let here : Sent m p i late = rw e at s in (distinct _ _ (sent_received here), rw e (sent_right_lem (rw e at a) here)))
                (λ d. inv.present_switch p k late a (omega arith) s);
          }
        where
          not_empty : {s : ℕ} → 1 ≤ s → s ≡ 0 → ⊥
          not_empty h e = omega arith

    all_slots : (c : ℕ) → Stored m past c (slots n m row c u)
    unfolding slots
    all_slots zero =
        record {
          earlier_local = holds.earlier_local;
          earlier_switch = holds.earlier_switch;
          present_local = λ p k a l some. absurd (omega arith);
          present_switch = λ p k late a l s. absurd (omega arith);
        }
    all_slots (suc i) = next_slot refl (all_slots i)

    -- at every slot of the cycle a location that carries s holds it
    pub carries_past : {p i x k s age : ℕ} → Carries m p i x k s age → At m p k → 1 ≤ s → (x ≡ local_present → i ≤ k → 1 ≤ t)
        → fetch (slots n m row i u) p x k ≡ past age s
    carries_past {i} = fetched refl (all_slots i)

    -- and an operand of a gate fetches its source there, of the cycle that the gate takes it from
    pub operand_past : {p i : ℕ} → At m p i → 1 ≤ m.signal p i → IsGate (n.kind (m.signal p i)) → (j : ℕ) → j < 4
        → operand m (slots n m row i u) p i j ≡ value_of (past (wanted (n.kind (m.signal p i)))) (n.source (m.signal p i) j)
    operand_past {i} a some = operand_right_lem refl (all_slots i) a some

    -- one cycle
    pub next_cycle : Holds m past (suc t) (cycle n m row u)
    unfolding cycle alternate
    next_cycle =
        let r = all_slots m.slots in
        record {
          earlier_local = λ p k a some. r.present_local p k a a.slot some;
          earlier_switch = λ p k late a s. r.present_switch p k late a a.slot s;
          present_local = λ p k a h some. r.earlier_local p k a some;
          present_switch = r.earlier_switch;
        }

  -- before cycle 1 the memory holds time 0, which stands for the states before it too
  pub at_start : {init : ℕ → ℕ} {past : ℕ → ℕ → ℕ} → ((age : ℕ) → Same n init (past age)) → Holds m past 0 (opening m init)
  unfolding opening
  at_start {init} {past} same =
      record {
        earlier_local = λ p k a some. value_some init (m.signal p k) some ∙ same 0 (m.signal p k) (signal_at_lem ok.laid a some);
        earlier_switch = λ p k late. switched p k late;
        present_local = λ p k a h some. absurd (omega arith);
        present_switch = λ p k late. switched p k (suc late);
      }
    where
      switched : (p k age : ℕ) {late : ℕ} → At m p k → Sent m p k late
          → (if received m p k then value_of init (sent_signal m p k) else 0) ≡ past age (sent_signal m p k)
      switched p k age a s =
          let received = sent_received s in
          let some = sent_some a received in
          rw (ne_eqb (m.sender p k) no_sender received)
          (value_some init _ some ∙ same age _ (signal_at_lem ok.laid (sent_at ok.laid a received) some))

  -- the signal's place
  pub at_place : {past : ℕ → ℕ → ℕ} {t : ℕ} {w : Memory} → Holds m past t w → (s : ℕ) (g : Signal n s)
      → w.earlier_local (ok.places s g).processor (ok.places s g).slot ≡ past 0 s
  at_place holds s g = at_signal holds (ok.places s g).at (ok.places s g).is g.low

-- what two memories hold at each location of the module is related
pub record Alike (R : ℕ → ℕ → Type 0) (m : Module) (w u : Memory) : Type 0 where
  pub earlier_local : (p k : ℕ) → At m p k → R (w.earlier_local p k) (u.earlier_local p k)
  pub present_local : (p k : ℕ) → At m p k → R (w.present_local p k) (u.present_local p k)
  pub earlier_switch : (p k : ℕ) → At m p k → R (w.earlier_switch p k) (u.earlier_switch p k)
  pub present_switch : (p k : ℕ) → At m p k → R (w.present_switch p k) (u.present_switch p k)

-- The machine keeps a relation of values that 0 has to itself and that every gate keeps.
module _ (R : ℕ → ℕ → Type 0) {n : Network} {m : Module} (laid : Laid n m) (none : R nothing nothing) where
  choice_alike : (b : Bool) {x y u v : ℕ} → (b ≡ true → R x y) → (b ≡ false → R u v) → R (if b then x else u) (if b then y else v)
  choice_alike true here there = here refl
  choice_alike false here there = there refl

  stored_alike : (k i : ℕ) (stores : Bool) {x y a b : ℕ} → (stores ≡ true → R x y) → R a b → R (stored k i stores x a) (stored k i stores y b)
  unfolding stored
  stored_alike k i stores new old = choice_alike (eqb k i) (λ e. choice_alike stores new (λ e. old)) (λ e. old)

  value_alike : (given other : ℕ → ℕ) → ((s : ℕ) → Signal n s → R (given s) (other s)) → (s : ℕ) → s ≤ n.size
      → R (value_of given s) (value_of other s)
  value_alike given other values zero h = none
  value_alike given other values (suc s) h = values (suc s) (record { low = omega arith; high = h })

  pub opening_alike : (given other : ℕ → ℕ) → ((s : ℕ) → Signal n s → R (given s) (other s))
      → Alike R m (opening m given) (opening m other)
  unfolding opening
  opening_alike given other values =
      record {
        earlier_local = λ p k a. value_alike given other values (m.signal p k) (laid.signals p k a);
        present_local = λ p k a. none;
        earlier_switch = switched;
        present_switch = switched;
      }
    where
      switched : (p k : ℕ) → At m p k
          → R (if received m p k then value_of given (sent_signal m p k) else 0) (if received m p k then value_of other (sent_signal m p k) else 0)
      switched p k a =
          choice_alike (received m p k)
          (λ e. value_alike given other values (sent_signal m p k) (laid.signals _ _ (sent_at laid a (differ _ _ e))))
          (λ e. none)

  module _ {w u : Memory} (alike : Alike R m w u) where
    fetch_alike : (p x k : ℕ) → At m p k → R (fetch w p x k) (fetch u p x k)
    unfolding fetch
    fetch_alike p x k a =
        choice_alike (eqb x local_earlier) (λ e. alike.earlier_local p k a)
        (λ e. choice_alike (eqb x local_present) (λ e. alike.present_local p k a)
        (λ e. choice_alike (eqb x switch_earlier) (λ e. alike.earlier_switch p k a)
        (λ e. choice_alike (eqb x switch_present) (λ e. alike.present_switch p k a) (λ e. none))))

  module _ (gates : (s a b c d a' b' c' d' : ℕ) → R a a' → R b b' → R c c' → R d d' → R (n.gate s a b c d) (n.gate s a' b' c' d'))
      (row other : ℕ → ℕ) (rows : (s : ℕ) → Signal n s → n.kind s ≡ input → R (row s) (other s)) where
    module _ {w u : Memory} (alike : Alike R m w u) where
      result_alike : {p i : ℕ} → At m p i → 1 ≤ m.signal p i → R (result n m row w p i) (result n m other u p i)
      unfolding result operand
      result_alike {p} {i} a some =
          choice_alike (eqb (n.kind (m.signal p i)) input)
          (λ e. rows (m.signal p i) (signal_at_lem laid a some) (eqb-true _ _ e))
          (λ e. gates (m.signal p i) _ _ _ _ _ _ _ _ (at 0 (omega arith)) (at 1 (omega arith)) (at 2 (omega arith)) (at 3 (omega arith)))
        where
          at : (j : ℕ) → j < 4 → R (operand m w p i j) (operand m u p i j)
          at j l = fetch_alike alike p (m.part p i j) (m.location p i j) (operand_at laid a j l)

      slot_alike : (i : ℕ) → i < m.slots → Alike R m (slot n m row i w) (slot n m other i u)
      unfolding slot sent
      slot_alike i low =
          record {
            earlier_local = alike.earlier_local;
            present_local = λ p k a.
                stored_alike k i (not (eqb (m.signal p i) 0))
                (λ e. let d : (m.signal p i ≡ 0 → ⊥) = differ _ _ e in result_alike (here a) (omega arith))
                (alike.present_local p k a);
            earlier_switch = alike.earlier_switch;
            present_switch = λ p k a.
                stored_alike k i (received m p i)
                (λ e. fetch_alike alike (m.sender p i) (sent_part m p i) (m.send_location (m.sender p i) i) (sent_at laid (here a) (differ _ _ e)))
                (alike.present_switch p k a);
          }
        where
          here : {p k : ℕ} → At m p k → At m p i
          here a = record { processor = a.processor; slot = low }

    module _ {w u : Memory} (alike : Alike R m w u) where
      slots_alike : (c : ℕ) → c ≤ m.slots → Alike R m (slots n m row c w) (slots n m other c u)
      unfolding slots
      slots_alike zero h = alike
      slots_alike (suc i) h = slot_alike (slots_alike i (omega arith)) i h

      pub cycle_alike : Alike R m (cycle n m row w) (cycle n m other u)
      unfolding cycle alternate
      cycle_alike =
          let r = slots_alike m.slots (omega arith) in
          record {
            earlier_local = r.present_local;
            present_local = r.earlier_local;
            earlier_switch = r.present_switch;
            present_switch = r.earlier_switch;
          }

-- memories that agree at the module's locations
abbrev pub Near : Module → Memory → Memory → Type 0
Near m w u = Alike (λ x y. x ≡ y) m w u

pub near_refl : {m : Module} {w : Memory} → Near m w w
near_refl =
    record {
      earlier_local = λ p k a. refl;
      present_local = λ p k a. refl;
      earlier_switch = λ p k a. refl;
      present_switch = λ p k a. refl;
    }

pub holds_near : {m : Module} {past : ℕ → ℕ → ℕ} {t : ℕ} {w u : Memory} → Near m w u → Holds m past t u → Holds m past t w
holds_near near holds =
    record {
      earlier_local = λ p k a some. near.earlier_local p k a ∙ holds.earlier_local p k a some;
      earlier_switch = λ p k late a s. near.earlier_switch p k a ∙ holds.earlier_switch p k late a s;
      present_local = λ p k a h some. near.present_local p k a ∙ holds.present_local p k a h some;
      present_switch = λ p k late a s. near.present_switch p k a ∙ holds.present_switch p k late a s;
    }

pub near_alternated : {m : Module} {w u : Memory} → Near m w u → Near m (alternate w) (alternate u)
unfolding alternate
near_alternated near =
    record {
      earlier_local = near.present_local;
      present_local = near.earlier_local;
      earlier_switch = near.present_switch;
      present_switch = near.earlier_switch;
    }

-- a cycle of memories that agree, fed rows that agree on the inputs
module _ {n : Network} {m : Module} (laid : Laid n m) where
  pub cycle_rows : (row other : ℕ → ℕ) → ((s : ℕ) → Signal n s → n.kind s ≡ input → row s ≡ other s) → {w u : Memory} → Near m w u
      → Near m (cycle n m row w) (cycle n m other u)
  cycle_rows row other rows =
      cycle_alike (λ x y. x ≡ y) laid refl (λ s a b c d a' b' c' d' e f g h. cc) row other rows

  pub slot_near : (row : ℕ → ℕ) (i : ℕ) → i < m.slots → {w u : Memory} → Near m w u → Near m (slot n m row i w) (slot n m row i u)
  slot_near row i low near =
      slot_alike (λ x y. x ≡ y) laid refl (λ s a b c d a' b' c' d' e f g h. cc) row row (λ s g k. refl) near i low

  pub cycle_near : (row : ℕ → ℕ) {w u : Memory} → Near m w u → Near m (cycle n m row w) (cycle n m row u)
  cycle_near row = cycle_rows row row (λ s g k. refl)

  pub ticks_near : (row : ℕ → ℕ) (j : ℕ) {w u : Memory} → Near m w u → Near m (ticks (cycle n m row) j w) (ticks (cycle n m row) j u)
  unfolding ticks
  ticks_near row zero near = near
  ticks_near row (suc j) near = ticks_near row j (cycle_near row near)

-- a memory of codes at the module's locations
abbrev pub Small : Module → Memory → Type 0
Small m w = Alike (λ x y. x ≤ 3) m w w

pub fetch_small : {m : Module} {w : Memory} → Small m w → (p part k : ℕ) → At m p k → part < 4 → fetch w p part k ≤ 3
unfolding fetch
fetch_small small p zero k a l = small.earlier_local p k a
fetch_small small p (suc zero) k a l = small.present_local p k a
fetch_small small p (suc (suc zero)) k a l = small.earlier_switch p k a
fetch_small small p (suc (suc (suc zero))) k a l = small.present_switch p k a
fetch_small small p (suc (suc (suc (suc part)))) k a l = absurd (omega arith)

module _ {n : Network} {m : Module} (laid : Laid n m) where
  pub opening_small : (given : ℕ → ℕ) → ((s : ℕ) → Signal n s → given s ≤ 3) → Small m (opening m given)
  opening_small given codes = opening_alike (λ x y. x ≤ 3) laid (omega arith) given given codes

  -- gates and inputs that keep codes
  module _ (gates : (s a b c d : ℕ) → a ≤ 3 → b ≤ 3 → c ≤ 3 → d ≤ 3 → n.gate s a b c d ≤ 3)
      (row : ℕ → ℕ) (codes : (s : ℕ) → Signal n s → n.kind s ≡ input → row s ≤ 3) {w : Memory} (small : Small m w) where
    pub slots_small : (c : ℕ) → c ≤ m.slots → Small m (slots n m row c w)
    slots_small = slots_alike (λ x y. x ≤ 3) laid (omega arith) (λ s a b c d a' b' c' d'. gates s a b c d) row row codes small

    pub cycle_small : Small m (cycle n m row w)
    cycle_small = cycle_alike (λ x y. x ≤ 3) laid (omega arith) (λ s a b c d a' b' c' d'. gates s a b c d) row row codes small
