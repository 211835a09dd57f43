-- The invariant: the first p elements are the results, and what is sent.
use mathlib.Core.Path.{◌∙◌}
use lib.ListN.{length-set}
use Rattle.buffers_memory.specs.Memory.{memory_of}
use Rattle.machine_slot.proofs.Stores.{first_more}
use Rattle.machine_slot.proofs.Fetching.{evaluated_line, sent_line}
use native.Mathlib.Omega.{arith}
use Rattle.machine_slot.proofs.Machine.fetch_all.Goals as goal

pub loop-p-preserved : goal.loop-p-preserved
loop-p-preserved c =
    let machine = c.args.self.now in
    let w = memory_of c.args.memory.now in (
      simp length-set c.loop-p.invariant.0,
      simp length-set c.loop-p.invariant.1,
      first_more _ _ c.loop-p.p _ (omega arith) c.loop-p.invariant.2
          (c.evaluate.ensures ∙ evaluated_line machine.panel.now machine.program.now w c.loop-p.p c.args.slot.0),
      first_more _ _ c.loop-p.p _ (omega arith) c.loop-p.invariant.3
          (rw (c.instruction_in-line.ensures, sent_line machine.panel.now machine.program.now w c.loop-p.p c.args.slot.0) at c.fetch.ensures.0),
    )
