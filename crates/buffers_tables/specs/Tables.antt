-- What the panel and the program hold: a network and a module (01), for any bytes.
use Rattle.std.specs.Prelude.{ℕ, ◌≤◌, ◌≡◌, List, leb, length}
use Rattle.std.specs.Prelude.{if◌then◌else◌}
use Rattle.gates.specs.Value.{Code}
use Rattle.gates.specs.Gate.{gate}
use Rattle.gates.specs.Legal.{Legal}
use Rattle.model.specs.Network.{Network}
use Rattle.model.specs.Module.{Module, Laid, local_present, switch_present, sent_signal}
use Rattle.buffers_tables.specs.Panel.{panel_length, signals_in, processors_in, slots_in, kind_in, codes_in, hand_in, processor_in, slot_in}
use Rattle.buffers_tables.specs.Program.{program_length, signal_at, part_at, location_at, send_part_at, send_location_at, sender_at}

unfoldable pub module_in : List ℕ → List ℕ → Module
module_in panel program =
    record {
      processors = processors_in panel;
      slots = slots_in panel;
      signal = signal_at program;
      part = part_at program;
      location = location_at program;
      send_part = send_part_at program;
      send_location = send_location_at program;
      sender = sender_at program;
    }

-- the signal that operand j of a line reads: the one placed at its location, or sent into it, or none
unfoldable pub named_signal : Module → ℕ → ℕ → ℕ → ℕ
named_signal m p i j =
    if leb (m.part p i j) local_present then m.signal p (m.location p i j) else
    if leb (m.part p i j) switch_present then sent_signal m p (m.location p i j) else
    0

-- a gate's sources are the signals that its operands read
unfoldable pub network_in : List ℕ → List ℕ → Network
network_in panel program =
    record {
      size = signals_in panel;
      kind = kind_in panel;
      source = λ s j. named_signal (module_in panel program) (processor_in panel s) (slot_in panel s) j;
      gate = λ s. gate (codes_in panel s);
    }

-- Tables in range, as far as the machine needs it: lengths, sizes, the lines' numbers, and each signal's codes and value in hand
pub record Tables (panel program : List ℕ) : Type 0 where
  pub panel_size : length panel ≡ panel_length
  pub program_size : length program ≡ program_length
  pub signals_high : signals_in panel ≤ 4096
  pub processors_high : processors_in panel ≤ 16
  pub slots_high : slots_in panel ≤ 256
  pub laid : Laid (network_in panel program) (module_in panel program)
  pub codes : (s : ℕ) → 1 ≤ s → s ≤ signals_in panel → Legal (codes_in panel s)
  pub hands : (s : ℕ) → 1 ≤ s → s ≤ signals_in panel → Code (hand_in panel s)
