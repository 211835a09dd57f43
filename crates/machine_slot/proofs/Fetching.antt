-- A line decoded is evaluated, and sends, as the model's machine does it.
use Prim.Native.Nat.{ℕ, zero, suc, ◌≤◌, ◌<◌}
use mathlib.Core.Path.{◌≡◌, refl}
use mathlib.Core.List.{List}
use mathlib.Core.Logic.{◌⊎◌, inl, inr}
use native.Mathlib.Omega.{arith}
use lib.Dec.{eqb}
use mathlib.Core.Bool.{Bool, true, false}
use borrow.Author.Tests.{eq-eqb, ne_eqb}
use Rattle.std.specs.Prelude.{IfSome, Some, None}
use Rattle.std.specs.Prelude.{if◌then◌else◌}
use Rattle.instruction.specs.Sender.{sender_numbered}
use Rattle.gates.specs.Legal.{Legal}
use Rattle.model.specs.Module.{At, no_sender}
use Rattle.model.specs.Machine.{Memory, fetch, operand, result, sent}
use Rattle.instruction.specs.Operand.{operand_of, part_of, location_of}
use Rattle.buffers_tables.specs.Panel.{processors_in, slots_in, codes_in, hand_in}
use Rattle.buffers_tables.specs.Program.{signal_at, part_at, location_at, sender_at}
use Rattle.buffers_tables.specs.Decoded.{instruction_in}
use Rattle.buffers_tables.specs.Tables.{network_in, module_in, Tables}
use Rattle.machine_slot.specs.Storing.{gate_on, evaluated_on, evaluated}

-- what a pair names is fetched as the pair
pub fetch_named : (w : Memory) (p x k : ℕ) → fetch w p (part_of (operand_of x k)) (location_of (operand_of x k)) ≡ fetch w p x k
unfolding fetch operand_of
fetch_named w p zero k = refl
fetch_named w p (suc zero) k = refl
fetch_named w p (suc (suc zero)) k = refl
fetch_named w p (suc (suc (suc zero))) k = refl
fetch_named w p (suc (suc (suc (suc x)))) k =
    let n = suc (suc (suc (suc x))) in
    rw (
      ne_eqb n 0 (λ (e : n ≡ 0). omega arith),
      ne_eqb n 1 (λ (e : n ≡ 1). omega arith),
      ne_eqb n 2 (λ (e : n ≡ 2). omega arith),
      ne_eqb n 3 (λ (e : n ≡ 3). omega arith),
    )

module _ (panel program : List ℕ) (w : Memory) (p i : ℕ) where
  pub evaluated_line : evaluated_on panel w p (instruction_in program p i)
      ≡ evaluated (network_in panel program) (module_in panel program) (hand_in panel) w p i
  unfolding evaluated_on evaluated gate_on result operand network_in module_in
  evaluated_line =
      rw (
        fetch_named w p (part_at program p i 0) (location_at program p i 0),
        fetch_named w p (part_at program p i 1) (location_at program p i 1),
        fetch_named w p (part_at program p i 2) (location_at program p i 2),
        fetch_named w p (part_at program p i 3) (location_at program p i 3),
      )

  pub sent_line : fetch w p (part_of (instruction_in program p i).send) (location_of (instruction_in program p i).send)
      ≡ sent (module_in panel program) w p i
  unfolding sent module_in
  sent_line = fetch_named w p _ _

-- a line of the module has a signal that the panel has, codes that are supplied where it is not empty, and receives from a processor
-- that the module has
module _ {panel program : List ℕ} (tables : Tables panel program) {p i : ℕ} (low : p < processors_in panel) (small : i < slots_in panel) where
  abbrev here : At (module_in panel program) p i
  unfolding module_in
  here = record { processor = low; slot = small }

  pub line_signal : signal_at program p i ≤ 4096
  unfolding network_in module_in
  line_signal = omega (arith, tables.laid.signals p i here, tables.signals_high)

  pub line_codes : (signal_at program p i ≡ 0 → ⊥) → Legal (codes_in panel (signal_at program p i))
  unfolding network_in module_in
  line_codes some = tables.codes _ (omega (arith, some)) (tables.laid.signals p i here)

  pub sender_fits : IfSome (sender_numbered (sender_at program p i)) (λ q. q < 16)
  unfolding network_in module_in
  sender_fits = go (tables.laid.senders p i here)
    where
      below : (none : Bool) → sender_at program p i < processors_in panel → IfSome (if none then None else Some (sender_at program p i)) (λ q. q < 16)
      below true low = tt
      below false low = omega (arith, tables.processors_high)

      go : (sender_at program p i < processors_in panel) ⊎ (sender_at program p i ≡ no_sender)
          → IfSome (sender_numbered (sender_at program p i)) (λ q. q < 16)
      go (inl low) = below (eqb (sender_at program p i) no_sender) low
      go (inr e) = rw (eq-eqb (sender_at program p i) no_sender e) tt
