-- The invariant: location i of the processors below p holds what they stored.
use native.Mathlib.Omega.{arith}
use Rattle.machine_slot.specs.Held.{module_of}
use Rattle.machine_slot.proofs.Slots.{none_passed, processor_stored}
use Rattle.machine_slot.proofs.Machine.store_all.Goals as goal

pub loop-p-init : goal.loop-p-init
loop-p-init c = none_passed _ _ c.args.memory.now (omega arith)

pub loop-p-preserved : goal.loop-p-preserved
loop-p-preserved c =
    let machine = c.args.self.now in
    processor_stored (module_of machine) _ _ _ _ _ _ c.loop-p.p c.loop-p.invariant c.store.ensures
