-- What the loaded buffers hold: the module and the network of the accepted files, each signal's value in hand and its place.
use Prim.Native.Nat.{ℕ, zero, suc, ◌+◌, ◌/◌, ◌%◌, ◌<◌, ◌≤◌}
use mathlib.Core.Path.{◌≡◌, refl, ◌∙◌, ap}
use mathlib.Core.List.{List}
use native.Mathlib.Omega.{arith}
use lib.ListN.{length, get_or}
use Rattle.logic.proofs.Listed.{listed_length, listed_at}
use Rattle.gates.specs.Gate.{gate}
use Rattle.model.specs.Refusal.{pass}
use Rattle.model.specs.Files.{Files}
use Rattle.model.specs.Network.{Network, Signal}
use Rattle.model.specs.Netlist.{net_field, net_size, network, codes}
use Rattle.model.specs.Value.{start}
use Rattle.model.specs.Module.{Module, At}
use Rattle.model.specs.ModuleFile.{mod_processors, mod_slots, module_of, mod_check}
use Rattle.model.specs.Acceptance.{panel_limit, network_of, module_of_files, given_of, Accepted}
use Rattle.model.proofs.Accepted.{mod_accepted, mod_processors_lem, mod_slots_lem, mod_scheduled}
use Rattle.model.specs.Checked.{Checked}
use Rattle.model.proofs.Checked.{files_checked, checked_size}
use Rattle.buffers_tables.specs.Panel.{panel_length, panel_stride, signals_place, processors_place, slots_place, finished_place, watched_place, mask_place, head_bytes, kind_column, codes_column, hand_column, processor_column, slot_column, signal_start, signal_byte, signal_of, column_of, signals_in, slots_in, finished_in, watched_in, mask_in, kind_in, codes_in, hand_in, processor_in, slot_in}
use Rattle.buffers_tables.specs.Program.{program_length, line_stride, signal_column, operand_column, send_column, sender_column, line_in, line_processor, line_slot, line_column, line_bytes, signal_at, part_at, location_at}
use Rattle.buffers_tables.specs.Tables.{module_in, network_in}
use Rattle.buffers_tables.specs.Holding.{SameLines, Holding}
use Rattle.buffers_tables.proofs.Places.{at_signal, at_column, byte_low, line_low, at_line_processor, at_line_slot, at_line_column}
use Rattle.buffers_load_files.specs.Loaded.{time_zero, place_of, placed_bytes, panel_byte, panel_with, panel_of, program_byte, program_from, program_of}
use Rattle.buffers_load_files.specs.Checked.{ModuleChecked}
use Rattle.buffers_load_program.proofs.Program.{byte_within}
use Rattle.buffers_load_panel.proofs.Panel.{panel_signal}
use Rattle.buffers_load_panel.proofs.Places.{place_there, place_has}
use Rattle.buffers_load_files.proofs.Fields.{schedules}
use Rattle.buffers_load.proofs.Opening.{zeroth_is}

-- a network has the size of another, and at every signal its kind and its gate; the panel has each signal's value in hand, and a place
-- where the module has it
pub record SameSignals (a b : Network) (m : Module) (panel : List ℕ) (zeroth : ℕ → ℕ) : Type 0 where
  pub size : a.size ≡ b.size
  pub kinds : (s : ℕ) → Signal b s → a.kind s ≡ b.kind s
  pub gates : (s : ℕ) → Signal b s → a.gate s ≡ b.gate s
  pub hands : (s : ℕ) → Signal b s → hand_in panel s ≡ zeroth s
  pub placed : (s : ℕ) → Signal b s → At m (processor_in panel s) (slot_in panel s)
  pub places : (s : ℕ) → Signal b s → m.signal (processor_in panel s) (slot_in panel s) ≡ s

-- the bytes of a line
pub program_byte_lem : (modfile : List ℕ) (p i c x : ℕ) → p < 16 → i < 256 → c < line_stride → x ≡ line_in p i + c
    → get_or (program_from modfile) x 0 ≡ program_byte modfile p i c
unfolding program_from
program_byte_lem modfile p i c x low_p low-i low-c e =
    let y = line_in p i + c in
    ap (λ (z : ℕ). get_or (program_from modfile) z 0) e
    ∙ listed_at program_length (λ z. program_byte modfile (line_processor z) (line_slot z) (line_column z)) y (line_low p i c low_p low-c low-i)
    ∙ ap (λ (z : ℕ). program_byte modfile z (line_slot y) (line_column y)) (at_line_processor p i c low_p low-c)
    ∙ ap (λ (z : ℕ). program_byte modfile p z (line_column y)) (at_line_slot p i c low_p low-c)
    ∙ ap (λ (z : ℕ). program_byte modfile p i z) (at_line_column p i c low_p low-c)

-- the bytes of a signal, and of the session at 0
pub panel_byte_lem : (files : Files) (s c x : ℕ) → s ≤ 4096 → c < panel_stride → x ≡ signal_byte s c
    → get_or (panel_of files) x 0
    ≡ panel_byte files.NET (mod_processors files.MOD) (mod_slots files.MOD) (place_of files.MOD) (time_zero files) s c
unfolding panel_of panel_with
panel_byte_lem files s c x low-s low-c e =
    let byte = panel_byte files.NET (mod_processors files.MOD) (mod_slots files.MOD) (place_of files.MOD) (time_zero files) in
    let y = signal_byte s c in
    ap (λ (z : ℕ). get_or (panel_of files) z 0) e
    ∙ listed_at panel_length (λ z. byte (signal_of z) (column_of z)) y (byte_low s c low-c low-s)
    ∙ ap (λ (z : ℕ). byte z (column_of y)) (at_signal s c low-c)
    ∙ ap (λ (z : ℕ). byte s z) (at_column s c low-c)

module _ {limit : ℕ} (few : limit ≤ panel_limit) (files : Files) (accepted : Accepted limit files) where
  abbrev net : List ℕ
  net = files.NET

  abbrev modfile : List ℕ
  modfile = files.MOD

  n : Checked net
  n = files_checked limit few files accepted

  m : mod_check (network_of files) modfile ≡ pass
  m = mod_accepted limit files accepted

  -- a byte of a line of the module
  module _ (p i : ℕ) (a : At (module_of_files files) p i) where
    line_there : (c x : ℕ) → c < line_stride → x ≡ line_in p i + c → get_or (program_of files) x 0 ≡ get_or (line_bytes (module_of_files files) p i) c 0
    unfolding module_of
    line_there c x low e =
        program_byte_lem modfile p i c x (omega (arith, a.processor, mod_processors_lem (network_of files) modfile m)) (omega (arith, a.slot, mod_slots_lem (network_of files) modfile m)) low e
        ∙ byte_within modfile p i c a.processor a.slot

    signal_there : signal_at (program_of files) p i ≡ (module_of_files files).signal p i
    signal_there = omega (arith, line_there signal_column (line_in p i) (omega arith) (omega arith), line_there (signal_column + 1) (line_in p i + 1) (omega arith) refl)

    part_there : (j : ℕ) → j < 4 → part_at (program_of files) p i j ≡ (module_of_files files).part p i j
    part_there zero h = line_there (operand_column 0) _ (omega arith) (omega arith)
    part_there (suc zero) h = line_there (operand_column 1) _ (omega arith) (omega arith)
    part_there (suc (suc zero)) h = line_there (operand_column 2) _ (omega arith) (omega arith)
    part_there (suc (suc (suc zero))) h = line_there (operand_column 3) _ (omega arith) (omega arith)
    part_there (suc (suc (suc (suc j)))) h = absurd (omega arith)

    location_there : (j : ℕ) → j < 4 → location_at (program_of files) p i j ≡ (module_of_files files).location p i j
    location_there zero h = line_there (operand_column 0 + 1) _ (omega arith) (omega arith)
    location_there (suc zero) h = line_there (operand_column 1 + 1) _ (omega arith) (omega arith)
    location_there (suc (suc zero)) h = line_there (operand_column 2 + 1) _ (omega arith) (omega arith)
    location_there (suc (suc (suc zero))) h = line_there (operand_column 3 + 1) _ (omega arith) (omega arith)
    location_there (suc (suc (suc (suc j)))) h = absurd (omega arith)

  -- a byte of the session
  head_there : (c : ℕ) → c < panel_stride
      → get_or (panel_of files) c 0 ≡ get_or (head_bytes (net_size net) (mod_processors modfile) (mod_slots modfile) 0 1 0) c 0
  unfolding panel_byte
  head_there c h = panel_byte_lem files 0 c c (omega arith) h (omega arith)

  size_there : signals_in (panel_of files) ≡ net_size net
  size_there = omega (arith, head_there signals_place (omega arith), head_there (signals_place + 1) (omega arith))

  slots_there : slots_in (panel_of files) ≡ mod_slots modfile
  slots_there = omega (arith, head_there slots_place (omega arith), head_there (slots_place + 1) (omega arith))

  pub loaded_module : SameLines (module_in (panel_of files) (program_of files)) (module_of_files files)
  unfolding module_in module_of
  loaded_module =
      record {
        processors = head_there processors_place (omega arith);
        slots = slots_there;
        signals = λ p i a. signal_there p i a;
        parts = λ p i j a h. part_there p i a j h;
        locations = λ p i j a h. location_there p i a j h;
        send_parts = λ p i a. line_there p i a send_column _ (omega arith) (omega arith);
        send_locations = λ p i a. line_there p i a (send_column + 1) _ (omega arith) (omega arith);
        senders = λ p i a. line_there p i a sender_column _ (omega arith) (omega arith);
      }

  -- a byte of a signal
  module _ (s : ℕ) (g : Signal (network_of files) s) where
    pub signal_byte_lem : (c x : ℕ) → c < panel_stride → x ≡ signal_byte s c
        → get_or (panel_of files) x 0
        ≡ get_or (placed_bytes net s (time_zero files s) (place_of modfile s) (mod_slots modfile)) c 0
    unfolding network
    signal_byte_lem c x low e =
        panel_byte_lem files s c x (omega (arith, g.high, checked_size net n)) low e
        ∙ panel_signal net (mod_processors modfile) (mod_slots modfile) (place_of modfile) (time_zero files) c s (λ (z : s ≡ 0). omega (arith, g.low)) g.high

    kind_there : kind_in (panel_of files) s ≡ net_field net s 0
    kind_there = signal_byte_lem kind_column (signal_start s) (omega arith) (omega arith)

    codes_there : codes_in (panel_of files) s ≡ codes net s
    codes_there =
        cc (
          signal_byte_lem codes_column (signal_byte s codes_column) (omega arith) refl,
          signal_byte_lem (codes_column + 1) (signal_byte s (codes_column + 1)) (omega arith) refl,
          signal_byte_lem (codes_column + 2) (signal_byte s (codes_column + 2)) (omega arith) refl,
          signal_byte_lem (codes_column + 3) (signal_byte s (codes_column + 3)) (omega arith) refl,
          signal_byte_lem (codes_column + 4) (signal_byte s (codes_column + 4)) (omega arith) refl,
          signal_byte_lem (codes_column + 5) (signal_byte s (codes_column + 5)) (omega arith) refl,
        )

    hand_there : hand_in (panel_of files) s ≡ start (network_of files) (given_of files) s
    unfolding network
    hand_there = signal_byte_lem hand_column (signal_byte s hand_column) (omega arith) refl ∙ zeroth_is files s g.low g.high

    processor_there : processor_in (panel_of files) s ≡ place_of modfile s / mod_slots modfile
    processor_there = signal_byte_lem processor_column (signal_byte s processor_column) (omega arith) refl

    slot_there : slot_in (panel_of files) s ≡ place_of modfile s % mod_slots modfile
    slot_there = signal_byte_lem slot_column (signal_byte s slot_column) (omega arith) refl

  pub loaded_network : SameSignals (network_in (panel_of files) (program_of files)) (network_of files) (module_of_files files)
      (panel_of files) (start (network_of files) (given_of files))
  unfolding network_in network
  loaded_network =
      record {
        size = size_there;
        kinds = kind_there;
        gates = λ s g. ap gate (codes_there s g);
        hands = hand_there;
        placed = λ s g. rw (processor_there s g, slot_there s g) (place_there fits s);
        places = λ s g.
            rw (processor_there s g, slot_there s g)
            (place_has fits s ((mod_scheduled (network_of files) modfile m).places s g));
      }
    where
      fits : ModuleChecked modfile
      fits = schedules net modfile n m

  -- the lengths of the tables, and N
  pub loaded_panel_size : length (panel_of files) ≡ panel_length
  unfolding panel_of panel_with
  loaded_panel_size = listed_length panel_length _

  pub loaded_program_size : length (program_of files) ≡ program_length
  unfolding program_from
  loaded_program_size = listed_length program_length _

  pub loaded_few : signals_in (panel_of files) ≤ 4096
  loaded_few = omega (arith, size_there, checked_size net n)

  -- the tables hold the files' network and module
  pub loaded_holding : Holding (network_of files) (module_of_files files) (panel_of files) (program_of files)
  loaded_holding =
      let same = loaded_network in
      record {
        lines = loaded_module;
        signals = record { size = same.size; kinds = same.kinds; gates = same.gates };
        places = λ s g. record { at = same.placed s g; is = same.places s g };
      }

  -- the session is fresh: "with 0 cycles finished", "watch signal 1, mask 0"
  pub loaded_head : (finished_in (panel_of files) ≡ 0) × (watched_in (panel_of files) ≡ 1) × (mask_in (panel_of files) ≡ 0)
  loaded_head = (
    omega (arith, head_there finished_place (omega arith), head_there (finished_place + 1) (omega arith)),
    omega (arith, head_there watched_place (omega arith), head_there (watched_place + 1) (omega arith)),
    head_there mask_place (omega arith),
  )
