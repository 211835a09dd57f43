-- The arrays have every processor's result and sent value; stored, they make the model's slot (`slot_finished`).
use Rattle.buffers_tables.specs.Tables.{module_in}
use Rattle.machine_slot.specs.Held.{network_of, module_of, hands_of}
use Rattle.machine_slot.proofs.Slots.{slot_finished}
use Rattle.machine_slot.proofs.Machine.run_slot.Goals as goal

pub returns : goal.returns
unfolding module_in
returns c =
    let machine = c.args.self.now in
    slot_finished (network_of machine) (module_of machine) machine.in_range.laid
    (hands_of machine) c.args.slot.0 c.requires.slot_bound _ _ _ c.fetch_all.ensures.results_are c.fetch_all.ensures.sent_are _ c.store_all.ensures
