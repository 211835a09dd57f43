-- The laws of `Cycles` for the machine that the working tables hold, in the words of the contracts.
use Prim.Native.Nat.{ℕ, ◌+◌, ◌<◌, ◌≤◌}
use mathlib.Core.Path.{◌≡◌}
use mathlib.Core.Bool.{Bool, true, false}
use mathlib.Core.List.{List}
use native.Mathlib.Omega.{arith}
use native.Mathlib.Decide.{ℕ_discrete}
use lib.ListN.{length}
use Rattle.model.specs.Module.{Module}
use Rattle.model.specs.Machine.{Memory, slot, slots, alternate}
use Rattle.model.specs.Session.{Watch, ticks, watched}
use Rattle.model.proofs.Machine.{Small, slots_small, cycle_small}
use Rattle.buffers_memory.specs.Memory.{memory_length, memory_of, within, with_memory, MemoryBytes}
use Rattle.buffers_memory.proofs.Written.{bytes_written}
use Rattle.buffers_memory.proofs.Values.{bytes_small, small_coded}
use Rattle.buffers_tables.specs.Panel.{processors_in, slots_in, hand_in, processor_in, slot_in}
use Rattle.buffers_tables.specs.Tables.{Tables, network_in, module_in}
use Rattle.buffers_tables.proofs.Codes.{gates_small, hands_small}
use Rattle.machine_run.specs.Running.{cycle_in, value_in, run_in, Watching}
use Rattle.machine_run.proofs.Cycles as law
use Rattle.machine_run.proofs.Cycles.{QuietTo, cycles_none, cycles_more, stop_told, ran_stopped, ran_whole}

module _ {panel program : List ℕ} (t : Tables panel program) (old : List ℕ) where
  -- the memory after j cycles
  abbrev after : ℕ → Memory
  after j = ticks (cycle_in panel program) j (memory_of old)

  -- the bytes with a memory of the module's processors and slots
  abbrev bytes : Memory → List ℕ → List ℕ
  bytes w l = with_memory (processors_in panel) (slots_in panel) w l

  abbrev m : Module
  m = module_in panel program

  pub slots_none : length old ≡ memory_length → old ≡ bytes (slots (network_in panel program) m (hand_in panel) 0 (memory_of old)) old
  unfolding module_in
  slots_none = law.slots_none (network_in panel program) (module_in panel program) t.laid t.processors_high t.slots_high (hand_in panel) old

  pub slots_more : (i : ℕ) {l r : List ℕ} → i < slots_in panel → l ≡ bytes (slots (network_in panel program) m (hand_in panel) i (memory_of old)) old
      → r ≡ bytes (slot (network_in panel program) m (hand_in panel) i (memory_of l)) l
      → r ≡ bytes (slots (network_in panel program) m (hand_in panel) (i + 1) (memory_of old)) old
  unfolding module_in
  slots_more i = law.slots_more (network_in panel program) (module_in panel program) t.laid t.processors_high t.slots_high (hand_in panel) old _ _ i

  pub cycle_done : {l r : List ℕ} {p c : ℕ} → p ≡ processors_in panel → c ≡ slots_in panel
      → l ≡ bytes (slots (network_in panel program) m (hand_in panel) (slots_in panel) (memory_of old)) old
      → r ≡ with_memory p c (alternate (memory_of l)) l → r ≡ bytes (cycle_in panel program (memory_of old)) old
  unfolding module_in
  cycle_done = law.cycle_done (network_in panel program) (module_in panel program) t.laid t.processors_high t.slots_high (hand_in panel) old _ _ _ _

  pub none_done : length old ≡ memory_length → old ≡ bytes (after 0) old
  unfolding module_in
  none_done = cycles_none (network_in panel program) (module_in panel program) t.laid t.processors_high t.slots_high (hand_in panel) old

  pub one_more : (j : ℕ) {l r : List ℕ} → l ≡ bytes (after j) old → r ≡ bytes (cycle_in panel program (memory_of l)) l → r ≡ bytes (after (j + 1)) old
  unfolding module_in
  one_more j = cycles_more (network_in panel program) (module_in panel program) t.laid t.processors_high t.slots_high (hand_in panel) old _ _ j

  -- slots and cycles leave values
  module _ (values : MemoryBytes old) where
    small : Small m (memory_of old)
    unfolding module_in
    small = bytes_small m t.processors_high t.slots_high old values

    left : {w : Memory} {r : List ℕ} → Small m w → r ≡ bytes w old → MemoryBytes r
    unfolding module_in
    left {w} fits = bytes_written (within (processors_in panel) (slots_in panel)) w old _ (small_coded m fits) values

    pub slots_bytes : (c : ℕ) {r : List ℕ} → c ≤ slots_in panel
        → r ≡ bytes (slots (network_in panel program) m (hand_in panel) c (memory_of old)) old → MemoryBytes r
    unfolding module_in
    slots_bytes c h =
        left (slots_small t.laid (gates_small panel program) (hand_in panel) (λ s g k. hands_small panel program t s g) small c h)

    pub cycle_bytes : {r : List ℕ} → r ≡ bytes (cycle_in panel program (memory_of old)) old → MemoryBytes r
    cycle_bytes =
        left (cycle_small t.laid (gates_small panel program) (hand_in panel) (λ s g k. hands_small panel program t s g) small)

  module _ (watch : Watch) where
    abbrev stops : Memory → Bool
    stops w = watched watch.mask (value_in panel w watch.signal)

    abbrev Quiet : ℕ → Type 0
    Quiet j = QuietTo (cycle_in panel program) stops (memory_of old) j

    -- the test b of the value v at the place of the watched signal
    pub told : Watching panel watch → (j : ℕ) {v : ℕ} {b : Bool} {l : List ℕ} → l ≡ bytes (after j) old
        → v ≡ value_in panel (memory_of l) watch.signal → b ≡ watched watch.mask v → stops (after j) ≡ b
    unfolding module_in
    told range j =
        stop_told (network_in panel program) (module_in panel program) t.laid t.processors_high t.slots_high (hand_in panel) old watch.mask
        (processor_in panel) (slot_in panel) watch.signal (record { processor = range.processor_low; slot = range.slot_low }) j _ _ _

    pub still_quiet : (j : ℕ) → Quiet j → stops (after (j + 1)) ≡ false → Quiet (j + 1)
    still_quiet j quiet next i a b = go (ℕ_discrete i (j + 1))
      where
        go : Dec (i ≡ j + 1) → stops (after i) ≡ false
        go (yes e) = rw e next
        go (no d) = quiet i a (omega arith)

    -- the answer of a run, and the bytes that it leaves
    module _ (k : ℕ) where
      abbrev Answers : ℕ → Bool → List ℕ → Type 0
      Answers count stopped l =
          (count ≡ (run_in panel program watch k (memory_of old)).count) × (stopped ≡ (run_in panel program watch k (memory_of old)).stopped)
          × (l ≡ bytes (run_in panel program watch k (memory_of old)).state old)

      pub stopped_run : (j : ℕ) {l : List ℕ} → j + 1 ≤ k → Quiet j → l ≡ bytes (after (j + 1)) old → stops (after (j + 1)) ≡ true → Answers (j + 1) true l
      unfolding module_in run_in
      stopped_run j =
          ran_stopped (network_in panel program) (module_in panel program) t.laid t.processors_high t.slots_high (hand_in panel) old stops k j _

      pub whole_run : {l : List ℕ} → Quiet k → l ≡ bytes (after k) old → Answers k false l
      unfolding module_in run_in
      whole_run =
          ran_whole (network_in panel program) (module_in panel program) t.laid t.processors_high t.slots_high (hand_in panel) old stops k _
