-- A cycle and a run of the machine that the working tables hold, on a memory.
use Rattle.std.specs.Prelude.{ℕ, ◌≤◌, ◌<◌, List}
use Rattle.model.specs.Machine.{Memory, cycle}
use Rattle.model.specs.Session.{Watch, Run, runs, watched}
use Rattle.buffers_tables.specs.Panel.{processors_in, slots_in, hand_in, processor_in, slot_in}
use Rattle.buffers_tables.specs.Tables.{network_in, module_in}
use Rattle.buffers_tables.specs.declared.Watch.{Watch as CarriedWatch}

-- one cycle, "fed the input values that the session holds for its next cycle"
abbrev pub cycle_in : List ℕ → List ℕ → Memory → Memory
cycle_in panel program w = cycle (network_in panel program) (module_in panel program) (hand_in panel) w

-- the value of a signal, at its place
abbrev pub value_in : List ℕ → Memory → ℕ → ℕ
value_in panel w s = w.earlier_local (processor_in panel s) (slot_in panel s)

-- the watch as the code carries it
abbrev pub watch_of : CarriedWatch → Watch
watch_of w = record { signal = w.signal; mask = w.mask }

-- "A run stops after the first cycle whose end shows a watched value, else after k."
unfoldable pub run_in : List ℕ → List ℕ → Watch → ℕ → Memory → Run Memory
run_in panel program watch k w = runs (cycle_in panel program) (λ y. watched watch.mask (value_in panel y watch.signal)) k w

-- the watch is in range: its signal has a place of the module
pub record Watching (panel : List ℕ) (watch : Watch) : Type 0 where
  pub signal_high : watch.signal ≤ 4096
  pub processor_low : processor_in panel watch.signal < processors_in panel
  pub slot_low : slot_in panel watch.signal < slots_in panel
