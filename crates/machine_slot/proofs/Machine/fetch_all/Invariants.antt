-- The invariant: the first p elements are the results, and what is sent.
use mathlib.Core.Path.{◌≡◌}
use lib.ListN.{length}
use Rattle.model.specs.Machine.{sent as sent_by}
use Rattle.buffers_memory.specs.Memory.{memory_of}
use Rattle.machine_slot.specs.Held.{network_of, module_of, hands_of}
use Rattle.machine_slot.specs.Storing.{evaluated, FirstAre}
use Rattle.machine_slot.proofs.Machine.fetch_all.Given as goal

abbrev pub invariant-loop-p : goal.invariant-loop-p
invariant-loop-p l =
    (length l.results ≡ 16) × (length l.sent ≡ 16)
    × FirstAre l.p (λ q. evaluated (network_of l.self) (module_of l.self) (hands_of l.self) (memory_of l.memory) q l.slot.0) l.results
    × FirstAre l.p (λ q. sent_by (module_of l.self) (memory_of l.memory) q l.slot.0) l.sent
