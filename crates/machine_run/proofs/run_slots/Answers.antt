-- The invariant: the memory holds what the slots below i left.
use Prim.Native.Nat.{◌+◌}
use Rattle.machine_run.proofs.Tables.{slots_none, slots_more, slots_bytes}
use native.Mathlib.Omega.{arith}
use Rattle.machine_run.proofs.run_slots.Goals as goal

pub loop-i-init : goal.loop-i-init
loop-i-init c = (c.requires.memory_bytes, slots_none c.args.machine.now.in_range _ c.requires.memory_bytes.size)

pub loop-i-preserved : goal.loop-i-preserved
loop-i-preserved c =
    let tables = c.args.machine.now.in_range in
    let next = slots_more tables c.args.memory.now c.loop-i.i (omega arith) c.loop-i.invariant.1 c.run_slot.ensures in
    (slots_bytes tables c.args.memory.now c.requires.memory_bytes (c.loop-i.i + 1) (omega arith) next, next)
