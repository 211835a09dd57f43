-- What a line in range tells, and back: the signal, the pairs, and the processor received from.
use Prim.Native.Nat.{ℕ}
use mathlib.Core.Path.{◌≡◌, refl}
use mathlib.Core.Bool.{Bool, true, false, not}
use mathlib.Core.Logic.{inl, inr, ⊎_elim}
use lib.Dec.{eqb, leb}
use borrow.Author.Tests.{leb-true, ltb-true, eqb-true, le-leb, lt-ltb, eq-eqb}
use Rattle.logic.specs.Test.{◌and◌, ◌or◌}
use Rattle.logic.proofs.Tests.{and_true, and_left, and_right, or_cases, or_left, or_right, all_at, all_true}
use Rattle.model.specs.Network.{Network}
use Rattle.model.specs.Module.{Module, local_present, switch_present, no_part}
use Rattle.model.specs.ModuleFile.{location_layout, operand_layout, send_layout, sender_layout}
use Rattle.model.proofs.Accepted.{Located, Line, located}
use Rattle.buffers_range_program.specs.Ranges.{line_ranged}

-- a pair that is located, in the words of the layout; `located` is the way back
located_pair : (m : Module) (most part k : ℕ) → Located m most part k → (leb part most or eqb part no_part) and location_layout m part k ≡ true
unfolding location_layout
located_pair m most part k h =
    and_true _ _ (⊎_elim (λ l. or_left _ _ (le-leb _ _ l)) (λ e. or_right _ _ (eq-eqb _ _ e)) h.part_known)
    (and_true _ _ (lt-ltb _ _ h.low) (go (eqb part no_part) refl))
  where
    go : (b : Bool) → eqb part no_part ≡ b → not b or eqb k 0 ≡ true
    go true e = or_right _ _ (eq-eqb k 0 (h.none_at_0 (eqb-true part no_part e)))
    go false e = or_left _ _ refl

module _ (n : Network) (m : Module) where
  pub ranged_line : (p i : ℕ) → line_ranged n m p i ≡ true → Line n m p i
  unfolding line_ranged operand_layout send_layout sender_layout
  ranged_line p i h =
      let operands = and_right _ _ h in
      let send = and_right _ _ operands in
      record {
        signal = leb-true _ _ (and_left _ _ h);
        operand = λ j l. located m switch_present (m.part p i j) (m.location p i j) (all_at _ 4 (and_left _ _ operands) j l);
        send = located m local_present (m.send_part p i) (m.send_location p i) (and_left _ _ send);
        sender = ⊎_elim (λ e. inl (ltb-true _ _ e)) (λ e. inr (eqb-true _ _ e)) (or_cases _ _ (and_right _ _ send));
      }

  pub line_ranged_lem : (p i : ℕ) → Line n m p i → line_ranged n m p i ≡ true
  unfolding line_ranged operand_layout send_layout sender_layout
  line_ranged_lem p i h =
      and_true _ _ (le-leb _ _ h.signal)
      (and_true _ _ (all_true _ 4 (λ j l. located_pair m switch_present (m.part p i j) (m.location p i j) (h.operand j l)))
      (and_true _ _ (located_pair m local_present (m.send_part p i) (m.send_location p i) h.send)
      (⊎_elim (λ l. or_left _ _ (lt-ltb _ _ l)) (λ e. or_right _ _ (eq-eqb _ _ e)) h.sender)))
