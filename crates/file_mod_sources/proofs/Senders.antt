-- 24, 25 and the send into a switch location: what a line sends is read as an Operand, and the processor received from as an Option.
use Prim.Native.Nat.{ℕ, ◌≤◌, ◌<◌}
use mathlib.Core.Path.{◌≡◌, refl, sym, ap, ◌∙◌}
use mathlib.Core.Bool.{Bool, true, false, not}
use mathlib.Core.List.{List}
use mathlib.Core.Logic.{◌⊎◌, ⊎_elim, ⊎_map}
use native.Mathlib.Omega.{arith}
use lib.Dec.{eqb}
use borrow.Author.Tests.{eq-eqb, lt-ltb, le-ltb}
use Rattle.std.specs.Prelude.{Option, Some, None}
use Rattle.std.specs.Prelude.{if◌then◌else◌}
use Rattle.std.specs.Option.{is_some}
use Rattle.logic.specs.Test.{◌and◌, ◌or◌}
use Rattle.logic.specs.Numbered.{numbered}
use Rattle.model.specs.Module.{Module, local_earlier, local_present, no_part, no_sender, send_right, reception_right}
use Rattle.model.specs.ModuleFile.{module_of}
use Rattle.instruction.specs.Operand.{part_of, location_of}
use Rattle.instruction.specs.Instruction.{send_named}
use Rattle.instruction.specs.declared.Operand.{Operand}
use Rattle.instruction.specs.declared.Operand.TheVariants.{LocalEarlier, LocalPresent, SwitchEarlier, SwitchPresent}
use Rattle.instruction.specs.declared.Operand.TheVariants as operand
use Rattle.instruction.proofs.Pairs.{part_of_pair, location_of_pair}
use Rattle.file_mod_lines.specs.declared.Place.{Place}
use Rattle.file_mod_lines.specs.declared.Shape.{Shape}
use Rattle.file_mod_table.specs.Line.{LinesLaid, Within}
use Rattle.file_mod_table.proofs.Slots.{line_within, slot_laid}
use Rattle.file_mod_table.specs.Sender.{Received}
use Rattle.file_mod_table.proofs.Senders.{From, sender_is}
use Rattle.file_mod_sources.specs.Mirror.{half_part, sent_from}

-- slot i of processor p sends what a names, which is of "a send 0, 1 or 9"
pub record Sends (m : Module) (p i : ℕ) (a : Operand) : Type 0 where
  pub part : m.send_part p i ≡ part_of a
  pub location : m.send_location p i ≡ location_of a
  pub known : (part_of a ≤ local_present) ⊎ (part_of a ≡ no_part)

-- the send that is read of a right line
pub sends : {l : List ℕ} {shape : Shape} {p i : ℕ} {a : Operand} → LinesLaid l shape.processors shape.slots → Within shape p i
    → a ≡ send_named (module_of l) p i → Sends (module_of l) p i a
sends {l} {shape} {p} {i} laid within is =
    let known = (slot_laid l shape.slots p i (line_within laid within)).send.part_known in
    let part = sym (ap part_of is ∙ part_of_pair _ _ (⊎_map (λ h. omega arith) (λ e. e) known)) in
    record { part = part; location = sym (ap location_of is ∙ location_of_pair _ _); known = rw part at known }

-- what is read of the line received from
module _ {l : List ℕ} {shape : Shape} (laid : LinesLaid l shape.processors shape.slots) {into from : Place} {send : Operand}
    (received : Received (module_of l) shape into from send) where
  pub received_from : From ((module_of l).sender into.processor into.slot.0) from.processor
  received_from = sender_is _ _ received.sender

  pub received_sends : Sends (module_of l) from.processor into.slot.0 send
  received_sends = sends laid received.within received.sends

module _ (m : Module) (p i : ℕ) where
  -- 24
  pub send_earlier : {k : ℕ} → Sends m p i (LocalEarlier k) → is_some (numbered (m.signal p k)) ≡ send_right m p i
  unfolding send_right ◌or◌ ◌and◌
  send_earlier {k} s = rw (s.part, s.location) (go (eqb (m.signal p k) 0))
    where
      go : (b : Bool) → is_some (if b then None else Some (m.signal p k)) ≡ not b and true
      go true = refl
      go false = refl

  module _ {k : ℕ} (s : Sends m p i (LocalPresent k)) where
    pub send_below : k < i → is_some (numbered (m.signal p k)) ≡ send_right m p i
    unfolding send_right ◌or◌ ◌and◌
    send_below low = rw (s.part, s.location, lt-ltb k i low) (go (eqb (m.signal p k) 0))
      where
        go : (b : Bool) → is_some (if b then None else Some (m.signal p k)) ≡ not b and true
        go true = refl
        go false = refl

    pub send_above : i ≤ k → false ≡ send_right m p i
    unfolding send_right ◌or◌ ◌and◌
    send_above high = rw (s.part, s.location, le-ltb k i high) (go (eqb (m.signal p k) 0))
      where
        go : (b : Bool) → false ≡ not b and false
        go true = refl
        go false = refl

  pub send_else : (a : Operand) → Sends m p i a → ((k : ℕ) → a ≡ LocalEarlier k → ⊥) → ((k : ℕ) → a ≡ LocalPresent k → ⊥) → true ≡ send_right m p i
  unfolding send_right ◌or◌
  send_else (LocalEarlier k) s d e = absurd (d k refl)
  send_else (LocalPresent k) s d e = absurd (e k refl)
  send_else (SwitchEarlier k) s d e = absurd (⊎_elim (λ h. omega arith) (λ h. omega arith) s.known)
  send_else (SwitchPresent k) s d e = absurd (⊎_elim (λ h. omega arith) (λ h. omega arith) s.known)
  send_else (operand.None k) s d e = rw s.part refl

  -- 25
  pub reception_none : m.sender p i ≡ no_sender → true ≡ reception_right m p i
  unfolding reception_right ◌or◌
  reception_none e = rw (eq-eqb (m.sender p i) no_sender e) refl

  pub reception_some : {q : ℕ} {a : Operand} → From (m.sender p i) q → Sends m q i a → not (eqb (part_of a) no_part) ≡ reception_right m p i
  unfolding reception_right ◌or◌
  reception_some from s =
      let by_sender : not (eqb (m.send_part (m.sender p i) i) no_part) ≡ reception_right m p i = rw from.some refl in
      ap (λ (y : ℕ). not (eqb y no_part)) (sym s.part) ∙ ap (λ (x : ℕ). not (eqb (m.send_part x i) no_part)) (sym from.same) ∙ by_sender

  -- the send into switch location i of processor p
  module _ (part : ℕ) where
    pub sent_none : m.sender p i ≡ no_sender → None ≡ sent_from m p i part
    unfolding sent_from ◌and◌
    sent_none e = rw (eq-eqb (m.sender p i) no_sender e) refl

    abbrev sent_by : ℕ → Option ℕ
    sent_by q = if eqb (m.send_part q i) part then numbered (m.signal q (m.send_location q i)) else None

    module _ {q : ℕ} (from : From (m.sender p i) q) where
      by_sender : sent_by q ≡ sent_from m p i part
      unfolding sent_from ◌and◌
      by_sender = ap sent_by (sym from.same) ∙ (rw from.some refl)

      pub sent_some : (a : Operand) → Sends m q i a → eqb (part_of a) part ≡ true → numbered (m.signal q (location_of a)) ≡ sent_from m p i part
      sent_some a s e =
          let here : eqb (m.send_part q i) part ≡ true = ap (λ (x : ℕ). eqb x part) s.part ∙ e in
          ap (λ (k : ℕ). numbered (m.signal q k)) (sym s.location) ∙ (rw here at by_sender)

      pub sent_apart : (a : Operand) → Sends m q i a → eqb (part_of a) part ≡ false → None ≡ sent_from m p i part
      sent_apart a s e =
          let apart : eqb (m.send_part q i) part ≡ false = ap (λ (x : ℕ). eqb x part) s.part ∙ e in
          rw apart at by_sender

-- whether the half asked for is that of the operand
pub earlier_asked : (present : Bool) → not present ≡ eqb local_earlier (half_part present)
earlier_asked true = refl
earlier_asked false = refl

pub present_asked : (present : Bool) → present ≡ eqb local_present (half_part present)
present_asked true = refl
present_asked false = refl

-- an operand of no local half
pub neither_asked : (a : Operand) (present : Bool) → ((k : ℕ) → a ≡ LocalEarlier k → ⊥) → ((k : ℕ) → a ≡ LocalPresent k → ⊥)
    → false ≡ eqb (part_of a) (half_part present)
neither_asked (LocalEarlier k) present d e = absurd (d k refl)
neither_asked (LocalPresent k) present d e = absurd (e k refl)
neither_asked (SwitchEarlier k) true d e = refl
neither_asked (SwitchEarlier k) false d e = refl
neither_asked (SwitchPresent k) true d e = refl
neither_asked (SwitchPresent k) false d e = refl
neither_asked (operand.None k) true d e = refl
neither_asked (operand.None k) false d e = refl
