-- The two stores write what `storing` has at the location (`both_stored`); a processor received from is below 16 (`sender_fits`).
use Rattle.buffers_tables.specs.Tables.{module_in}
use Rattle.machine_slot.specs.Held.{module_of}
use Rattle.machine_slot.proofs.Fetching.{sender_fits}
use Rattle.machine_slot.proofs.Stores.{received_numbered}
use Rattle.machine_slot.proofs.Slots.{both_stored}
use native.Mathlib.Omega.{arith}
use Rattle.machine_slot.proofs.Machine.store.Goals as goal

pub store_received-requires-clause-sender_bound : goal.store_received-requires-clause-sender_bound
store_received-requires-clause-sender_bound c =
    rw c.instruction_in-line.ensures
    (sender_fits c.args.self.now.in_range c.requires.placed.0 c.requires.placed.1)

pub returns : goal.returns
unfolding module_in
returns c =
    let machine = c.args.self.now in
    both_stored (module_of machine) _ _ _ c.args.memory.now (omega arith) _
    (omega (arith, machine.in_range.processors_high, c.requires.placed.0)) (omega (arith, machine.in_range.slots_high, c.requires.placed.1)) _ _
    (rw c.instruction_in-line.ensures at c.store_result.ensures) (rw (c.instruction_in-line.ensures, received_numbered) at c.store_received.ensures)
