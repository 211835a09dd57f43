-- In buffers in range a signal has a place of the module, the watched one of the panel too.
use mathlib.Core.Path.{◌≡◌}
use mathlib.Core.Bool.{true}
use mathlib.Core.List.{List}
use Prim.Native.Nat.{ℕ, ◌≤◌, ◌<◌}
use native.Mathlib.Omega.{arith}
use Rattle.buffers_tables.specs.Panel.{signals_in, watched_in, processor_in}
use Rattle.buffers_range.specs.Ranges.{ranged}
use Rattle.buffers_range.proofs.Ranged.{head_ranged_lem, signal_ranged_lem}
use Rattle.machine_run.specs.Running.{Watching}
use Rattle.session_state.specs.Header.{head_in}

pub ranged_watching : (panel program memory : List ℕ) → ranged panel program memory ≡ true → Watching panel (head_in panel).watch
ranged_watching panel program memory h =
    let head = head_ranged_lem panel program memory h in
    let signal = signal_ranged_lem panel program memory h (watched_in panel) head.watched_low head.watched_high in
    record {
      signal_high = omega (arith, head.watched_high, head.signals_high);
      processor_low = signal.processor_low;
      slot_low = signal.slot_low;
    }

pub ranged_processor : (panel program memory : List ℕ) → ranged panel program memory ≡ true → (s : ℕ) → 1 ≤ s → s ≤ signals_in panel
    → processor_in panel s < 16
ranged_processor panel program memory h s low high =
    omega (arith, (head_ranged_lem panel program memory h).processors_high, (signal_ranged_lem panel program memory h s low high).processor_low)
