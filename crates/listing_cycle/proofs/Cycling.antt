-- A run of one cycle that nothing stops, on buffers in range.
use Prim.Native.Nat.{ℕ, ◌+◌, ◌^◌}
use mathlib.Core.Path.{◌≡◌, sym, subst, ◌∙◌, ap}
use mathlib.Core.Bool.{false}
use mathlib.Core.List.{List}
use native.Mathlib.Omega.{arith}
use native.Mathlib.Nat.{zero-div}
use Rattle.model.specs.Machine.{Memory}
use Rattle.model.specs.Session.{Watch, run, ran, Run, Outcome, watched, runs, unless_stopped, ticks}
use Rattle.model.proofs.Machine.{Small}
use Rattle.buffers_memory.specs.Memory.{memory_of, with_memory, MemoryBytes}
use Rattle.buffers_memory.proofs.Written.{written_length}
use Rattle.buffers_tables.specs.Panel.{processors_in, slots_in, hand_in}
use Rattle.buffers_tables.proofs.Codes.{hands_small}
use Rattle.buffers_tables.specs.Tables.{module_in, Tables}
use Rattle.buffers_range.proofs.Ranged.{Values, is_ranged, panel_in_range, program_in_range, memory_in_range, ranged_tables, ranged_memory}
use Rattle.machine_run.specs.Running.{watch_of, cycle_in, run_in, Watching}
use Rattle.session_state.specs.declared.Session.{Session}
use Rattle.session_state.specs.declared.Told.{Told}
use Rattle.session_state.specs.Carried.{head_of}
use Rattle.session_state.specs.Commands.{commanded, Tells}
use Rattle.session_state.proofs.Running.{run_done}
use Rattle.laws_kept.proofs.Memories.{small_in, ticks_small, with_memory_values}
use Rattle.listing_cycle.specs.Cycling.{RightBuffers, Ready, OneMore}

-- mask 0 has no bit
watches_none : (mask v : ℕ) → mask ≡ 0 → watched mask v ≡ false
unfolding watched
watches_none mask v e = rw (e, zero-div (2 ^ v))

one_cycle : (panel program : List ℕ) (watch : Watch) (w : Memory) → watch.mask ≡ 0
    → run_in panel program watch 1 w ≡ record { count = 1; stopped = false; state = cycle_in panel program w }
unfolding run_in runs unless_stopped
one_cycle panel program watch w e = rw (watches_none watch.mask _ e, unless_stopped)

module _ {panel program memory : List ℕ} (right : RightBuffers panel program memory) where
  pub right_tables : Tables panel program
  right_tables = ranged_tables panel program memory right.sizes.panel_size right.sizes.program_size right.range

  pub right_memory : MemoryBytes memory
  right_memory = ranged_memory panel program memory right.sizes.memory_size right.range

  small : Small (module_in panel program) (cycle_in panel program (memory_of memory))
  unfolding ticks
  small = ticks_small panel program right_tables.laid (hand_in panel) (hands_small panel program right_tables) 1 (memory_of memory) (small_in panel program memory right.range)

  -- the buffers after a cycle are right
  pub cycle_right : (left : List ℕ) → left ≡ with_memory (processors_in panel) (slots_in panel) (cycle_in panel program (memory_of memory)) memory
      → RightBuffers panel program left
  cycle_right left e =
      record {
        sizes = record { panel_size = right.sizes.panel_size; program_size = right.sizes.program_size; memory_size = rw e (written_length _ _ memory) };
        range = is_ranged panel program left (panel_in_range panel program memory right.range) (program_in_range panel program memory right.range)
            (subst (λ (l : List ℕ). Values panel l) (sym e)
            (with_memory_values panel program memory (cycle_in panel program (memory_of memory)) small (memory_in_range panel program memory right.range)));
      }

module _ (session : Session) (panel program memory : List ℕ) (ready : Ready session panel program memory) where
  pub ready_watching : Watching panel (watch_of session.watch)
  ready_watching =
      let r = panel_in_range panel program memory ready.right.range in
      let signal = r.signals session.watch.signal ready.watched_low ready.watched_high in
      record {
        signal_high = omega (arith, ready.watched_high, r.head.signals_high);
        processor_low = signal.processor_low;
        slot_low = signal.slot_low;
      }

  -- the run is never refused, and does its cycle
  pub cycle_done : commanded panel program memory (head_of session panel) (run 1)
      ≡ record {
        answer = ran 1 false;
        head = record { finished = session.finished.0 + 1; hand = hand_in panel; watch = watch_of session.watch };
        state = cycle_in panel program (memory_of memory);
      }
  cycle_done =
      run_done panel program memory session.finished.0 (watch_of session.watch) 1 (omega (arith, ready.left))
      ∙ ap (λ (r : Run Memory). record { answer = ran r.count r.stopped; head = record { finished = session.finished.0 + r.count; hand = hand_in panel; watch = watch_of session.watch }; state = r.state })
      (one_cycle panel program (watch_of session.watch) (memory_of memory) ready.mask)

  -- what the command leaves
  pub cycle_left : (left : List ℕ) (told : Told) → Tells (commanded panel program memory (head_of session panel) (run 1)) told panel panel
      → left ≡ with_memory (processors_in panel) (slots_in panel) (commanded panel program memory (head_of session panel) (run 1)).state memory
      → OneMore session told.session × (left ≡ with_memory (processors_in panel) (slots_in panel) (cycle_in panel program (memory_of memory)) memory)
  cycle_left left told tells e = (
    (tells.finished ∙ ap (λ (o : Outcome Memory). o.head.finished) cycle_done, tells.watch ∙ ap (λ (o : Outcome Memory). o.head.watch) cycle_done),
    e ∙ ap (λ (o : Outcome Memory). with_memory (processors_in panel) (slots_in panel) o.state memory) cycle_done,
  )
