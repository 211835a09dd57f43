-- What a run leaves in the local and switch locations (01, Session: "The run's contract equates the local and switch locations as it leaves
-- them with those after all the cycles it did"), on every buffer that 44 lets pass, whether files were accepted or not.
use Prim.Native.Nat.{ℕ}
use mathlib.Core.Path.{◌≡◌, sym, subst, ap}
use mathlib.Core.Bool.{true}
use mathlib.Core.List.{List}
use native.Mathlib.Omega.{arith}
use Rattle.model.specs.Refusal.{Check, pass, fail}
use Rattle.model.specs.Network.{Network}
use Rattle.model.specs.Module.{Module}
use Rattle.model.specs.Machine.{Memory, cycle}
use Rattle.model.specs.Session.{watched, run, same_lengths, ticks, running, perform, cycles_done}
use Rattle.model.proofs.Machine.{Near}
use Rattle.model.proofs.Runs.{runs_exact}
use Rattle.buffers_memory.specs.Memory.{memory_of, within, with_memory}
use Rattle.buffers_memory.proofs.Near.{with_memory_near}
use Rattle.buffers_memory.proofs.Written.{written_self}
use Rattle.buffers_tables.specs.Panel.{processors_in, slots_in, hand_in, watched_in, mask_in, processor_in, slot_in}
use Rattle.buffers_tables.specs.Tables.{network_in, module_in}
use Rattle.buffers_lengths.specs.Lengths.{fixed}
use Rattle.buffers_lengths.proofs.Sizes.{same_sizes}
use Rattle.buffers_range.specs.Ranges.{ranged}
use Rattle.buffers_range.proofs.Ranged.{head_ranged_lem}
use Rattle.session_calls.specs.Reply.{Buffers, lengths_of, Reply, replied, reply}
use Rattle.session_calls.proofs.Replies.{check_in, reply_checked}

module _ (b : Buffers) (lengths : same_lengths (lengths_of b) fixed ≡ true) (range : ranged b.panel b.program b.memory ≡ true) (k : ℕ) where
  abbrev n : Network
  n = network_in b.panel b.program

  abbrev m : Module
  m = module_in b.panel b.program

  -- j cycles of the machine in the buffers, "fed the input values that the session holds for its next cycle"
  abbrev pub cycled : ℕ → Memory
  cycled j = ticks (cycle n m (hand_in b.panel)) j (memory_of b.memory)

  abbrev bytes_of : Memory → List ℕ
  bytes_of w = with_memory (processors_in b.panel) (slots_in b.panel) w b.memory

  unchanged : bytes_of (memory_of b.memory) ≡ b.memory
  unchanged = sym (written_self (within (processors_in b.panel) (slots_in b.panel)) b.memory (same_sizes _ _ _ lengths).memory_size)

  -- every byte of the memory, the run refused or not
  pub run_bytes : (reply b (run k)).buffers.memory ≡ bytes_of (cycled (cycles_done (reply b (run k)).answer))
  unfolding replied perform running cycles_done ticks
  run_bytes = subst (λ (r : Reply). r.buffers.memory ≡ bytes_of (cycled (cycles_done r.answer))) (sym (reply_checked b (run k) lengths range)) (go (check_in b (run k)))
    where
      go : (c : Check) → (replied b (run k) c).buffers.memory ≡ bytes_of (cycled (cycles_done (replied b (run k) c).answer))
      go pass =
          ap bytes_of
          (runs_exact (cycle n m (hand_in b.panel))
          (λ y. watched (mask_in b.panel) (y.earlier_local (processor_in b.panel (watched_in b.panel)) (slot_in b.panel (watched_in b.panel)))) k
          (memory_of b.memory)).state
      go (fail number returned) = sym unchanged

  -- and so every location of the module
  pub run_locations : Near m (memory_of (reply b (run k)).buffers.memory) (cycled (cycles_done (reply b (run k)).answer))
  unfolding module_in
  run_locations =
      let head = head_ranged_lem b.panel b.program b.memory range in
      subst (λ (l : List ℕ). Near m (memory_of l) (cycled (cycles_done (reply b (run k)).answer))) (sym run_bytes)
      (with_memory_near m (omega (arith, head.processors_high)) (omega (arith, head.slots_high)) _ b.memory)
