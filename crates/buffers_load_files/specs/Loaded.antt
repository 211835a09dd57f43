-- What an accepted opening writes: every byte of the three buffers, by the files (01, Session: "It opens when the three files are
-- accepted, with 0 cycles finished and STIM's time 0 values"). `time_zero`, `panel_of`, `program_of` and `opening_bytes` are over the files; their
-- inner definitions, with `From` or `With` in the name, are over the bytes that a function of loading is lent.
use Rattle.std.specs.Prelude.{ℕ, zero, suc, ◌*◌, ◌/◌, ◌%◌, List, eqb, leb, get_or}
use Rattle.std.specs.Prelude.{if◌then◌else◌}
use Rattle.logic.specs.Listed.{listed}
use Rattle.model.specs.Files.{Files}
use Rattle.model.specs.Network.{is_signal}
use Rattle.model.specs.Netlist.{net_size, net_field, codes, network}
use Rattle.model.specs.Value.{start}
use Rattle.model.specs.Module.{Module}
use Rattle.model.specs.Machine.{opening}
use Rattle.model.specs.ModuleFile.{mod_processors, mod_slots, module_of}
use Rattle.model.specs.Stimulus.{held as given}
use Rattle.model.specs.Acceptance.{network_of, given_of}
use Rattle.buffers_memory.specs.Memory.{memory_length, within, with_memory}
use Rattle.buffers_tables.specs.Panel.{panel_length, head_bytes, signal_bytes, signal_of, column_of}
use Rattle.buffers_tables.specs.Program.{program_length, line_bytes, line_processor, line_slot, line_column}

-- the value of signal s at time 0, by NET and STIM, and 0 for what is no signal
unfoldable pub time_zero_from : List ℕ → List ℕ → ℕ → ℕ
time_zero_from net stim s = if is_signal (network net) s then start (network net) (given stim 0) s else 0

abbrev pub time_zero : Files → ℕ → ℕ
time_zero files = time_zero_from files.NET files.STIM

-- the last of the first lines of MOD, counted from 0 after line 1, that has signal s. In an accepted module it is the only one.
unfoldable pub place_below : Module → ℕ → ℕ → ℕ
place_below m s zero = 0
place_below m s (suc k) = if eqb (m.signal (k / m.slots) (k % m.slots)) s then k else place_below m s k

unfoldable pub place_of : List ℕ → ℕ → ℕ
place_of modfile s = place_below (module_of modfile) s (mod_processors modfile * mod_slots modfile)

-- the bytes of signal s: what NET says of it, its value in hand, and the processor and the slot of its line of MOD, C being the slots
abbrev pub placed_bytes : List ℕ → ℕ → ℕ → ℕ → ℕ → List ℕ
placed_bytes net s value line C = signal_bytes (net_field net s 0) (codes net s) value (line / C) (line % C)

-- the panel, for a module of P processors and C slots that has each signal at line `place s`, and with the values in hand: the session's
-- bytes with 0 cycles finished and "watch signal 1, mask 0", those of signals 1 to N, and 0 above signal N
unfoldable pub panel_byte : List ℕ → ℕ → ℕ → (ℕ → ℕ) → (ℕ → ℕ) → ℕ → ℕ → ℕ
panel_byte net P C place hand zero column = get_or (head_bytes (net_size net) P C 0 1 0) column 0
panel_byte net P C place hand (suc s) column =
    if leb (suc s) (net_size net)
    then get_or (placed_bytes net (suc s) (hand (suc s)) (place (suc s)) C) column 0
    else 0

-- the panel with given values in hand, and with those of time 0
unfoldable pub panel_with : List ℕ → List ℕ → (ℕ → ℕ) → List ℕ
panel_with net modfile hand =
    listed panel_length (λ a. panel_byte net (mod_processors modfile) (mod_slots modfile) (place_of modfile) hand (signal_of a) (column_of a))

unfoldable pub panel_of : Files → List ℕ
panel_of files = panel_with files.NET files.MOD (time_zero files)

-- the program: the bytes of MOD's lines, and 0 where the module has no such line
unfoldable pub program_byte : List ℕ → ℕ → ℕ → ℕ → ℕ
program_byte modfile p i column =
    if within (mod_processors modfile) (mod_slots modfile) p i then get_or (line_bytes (module_of modfile) p i) column 0 else 0

unfoldable pub program_from : List ℕ → List ℕ
program_from modfile = listed program_length (λ a. program_byte modfile (line_processor a) (line_slot a) (line_column a))

abbrev pub program_of : Files → List ℕ
program_of files = program_from files.MOD

-- "Before cycle 1 ..": the module's locations hold the opening memory of given time 0 values, all other bytes 0
abbrev pub opening_with : List ℕ → (ℕ → ℕ) → List ℕ
opening_with modfile zeroth = with_memory (mod_processors modfile) (mod_slots modfile) (opening (module_of modfile) zeroth) (listed memory_length (λ a. 0))

unfoldable pub opening_bytes : Files → List ℕ
opening_bytes files = opening_with files.MOD (start (network_of files) (given_of files))
