-- Bytes that are values hold a memory of values at the locations of a module, and such a memory is what may be written.
use Prim.Native.Nat.{ℕ, ◌<◌, ◌≤◌}
use mathlib.Core.List.{List}
use native.Mathlib.Omega.{arith}
use lib.ListN.{get_or}
use Rattle.gates.specs.Value.{Code}
use Rattle.model.specs.Module.{Module, At}
use Rattle.model.specs.Machine.{Memory}
use Rattle.model.proofs.Machine.{Small, fetch_small}
use Rattle.buffers_memory.specs.Memory.{blank, place, memory_of, within, MemoryBytes}
use Rattle.buffers_memory.proofs.Written.{Place, Coded, place_low}
use Rattle.buffers_memory.proofs.Within.{within_true}

module _ (m : Module) where
  module _ (few : m.processors ≤ 16) (short : m.slots ≤ 256) where
    pub places_small : (l : List ℕ) → ((p part k : ℕ) → Place p part k → Code (get_or l (place p part k) 0)) → Small m (memory_of l)
    unfolding memory_of
    places_small l values =
        record {
          earlier_local = λ p k a. values p 0 k (at 0 (omega arith) a);
          present_local = λ p k a. values p 1 k (at 1 (omega arith) a);
          earlier_switch = λ p k a. values p 2 k (at 2 (omega arith) a);
          present_switch = λ p k a. values p 3 k (at 3 (omega arith) a);
        }
      where
        at : {p k : ℕ} (part : ℕ) → part < blank → At m p k → Place p part k
        at part l a =
            let b = a.processor in
            let c = a.slot in
            record { processor_low = omega arith; part_low = omega arith; location_low = omega arith }

    pub bytes_small : (l : List ℕ) → MemoryBytes l → Small m (memory_of l)
    bytes_small l h = places_small l (λ p part k there. h.values (place p part k) (place_low there))

  pub small_coded : {w : Memory} → Small m w → Coded (within m.processors m.slots) w
  small_coded small p part k there l t =
      let low = within_true _ _ p k t in
      fetch_small small p part k (record { processor = low.0; slot = low.1 }) l
