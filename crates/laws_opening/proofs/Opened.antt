-- The buffers that an accepted opening leaves are in range, and those that a refused one leaves are not (01, Session, 44).
use Prim.Native.Nat.{ℕ, ◌+◌, ◌-◌, ◌<◌, ◌≤◌}
use mathlib.Core.Path.{◌≡◌, refl, sym, ◌∙◌, ap, subst}
use mathlib.Core.Bool.{Bool, true, false}
use mathlib.Core.List.{List}
use mathlib.Core.Logic.{⊎_elim, ⊎_map}
use native.Mathlib.Omega.{arith}
use native.Mathlib.Decide.{ℕ_discrete}
use lib.Dec.{ltb}
use lib.ListN.{get_or}
use borrow.Author.Tests.{ltb-false}
use Rattle.logic.specs.Test.{◌and◌}
use Rattle.logic.proofs.Listed.{listed_at}
use Rattle.gates.specs.Function.{is_function}
use Rattle.gates.specs.Translation.{is_translation}
use Rattle.model.specs.Refusal.{pass}
use Rattle.model.specs.Files.{Files}
use Rattle.model.specs.Acceptance.{panel_limit, network_of, module_of_files, given_of, Accepted}
use Rattle.model.specs.Network.{Signal, input, unit_delay, rank_order}
use Rattle.model.specs.Netlist.{net_field, net_size, network}
use Rattle.model.specs.Module.{Module, At}
use Rattle.model.specs.ModuleFile.{mod_processors, mod_slots, module_of, mod_check}
use Rattle.model.specs.Value.{start}
use Rattle.model.specs.Machine.{opening}
use Rattle.model.proofs.Value.{start_code}
use Rattle.model.proofs.Accepted.{mod_accepted, stim_accepted, SignalRight, Located, Line, mod_processors_lem, mod_slots_lem, mod_slot_lem, mod_scheduled, stim_right, held_code}
use Rattle.model.specs.Checked.{Checked}
use Rattle.model.proofs.Checked.{files_checked, checked_size, checked_signal}
use Rattle.model.proofs.Machine.{Small, opening_small}
use Rattle.buffers_memory.specs.Memory.{blank, place, within}
use Rattle.buffers_memory.proofs.Written.{Place, written_at_lem}
use Rattle.buffers_memory.proofs.Within.{within_true}
use Rattle.buffers_tables.specs.Panel.{panel_length, codes_column, hand_column, signal_start, signal_byte, column_in, signal_of, column_of, signals_in, processors_in, slots_in, kind_in}
use Rattle.buffers_tables.specs.Tables.{network_in, module_in}
use Rattle.buffers_tables.proofs.Places.{byte_is, column_low, signal_high}
use Rattle.buffers_range_panel.specs.Ranges.{codes_ranged}
use Rattle.buffers_range.specs.Ranges.{ranged}
use Rattle.buffers_range_panel.proofs.Numbers.{Head, Numbers, Panel, zeros_input, supplied_gate}
use Rattle.buffers_range.proofs.Ranged.{Program, Values, is_ranged, head_ranged_lem}
use Rattle.buffers_load_files.specs.Loaded.{time_zero, place_of, panel_of, program_of, opening_bytes}
use Rattle.buffers_load_memory.specs.Bytes.{sent_value, opening_byte}
use Rattle.buffers_load_panel.proofs.Panel.{panel_above, code_byte}
use Rattle.buffers_load_program.proofs.Program.{byte_without}
use Rattle.buffers_load_memory.proofs.Memory.{byte_outside, byte_local, byte_sent_earlier, byte_sent_present, byte_other}
use Rattle.buffers_tables.specs.Holding.{SameLines}
use Rattle.buffers_load.proofs.Loaded.{SameSignals, program_byte_lem, panel_byte_lem, loaded_module, signal_byte_lem, loaded_network, loaded_head}
use Rattle.session_opening.specs.Opened.{cleared}

-- a pair of a module that has the same slots
located_same : {a b : Module} {most part other k location : ℕ} → a.slots ≡ b.slots → part ≡ other → k ≡ location
    → Located b most other location → Located a most part k
located_same {most = most} {other = other} e f g h =
    record {
      part_known = ⊎_map (λ (l : other ≤ most). omega arith) (λ q. f ∙ q) h.part_known;
      low = omega (arith, h.low, e, g);
      none_at_0 = λ q. g ∙ h.none_at_0 (sym f ∙ q);
    }

module _ {limit : ℕ} (few : limit ≤ panel_limit) (files : Files) (accepted : Accepted limit files) where
  abbrev net : List ℕ
  net = files.NET

  abbrev modfile : List ℕ
  modfile = files.MOD

  n : Checked net
  n = files_checked limit few files accepted

  m : mod_check (network_of files) modfile ≡ pass
  m = mod_accepted limit files accepted

  abbrev panel : List ℕ
  panel = panel_of files

  abbrev program : List ℕ
  program = program_of files

  abbrev memory : List ℕ
  memory = opening_bytes files

  abbrev zeroth : ℕ → ℕ
  zeroth = start (network_of files) (given_of files)

  same_lines : SameLines (module_in panel program) (module_of_files files)
  same_lines = loaded_module few files accepted

  same_signals : SameSignals (network_in panel program) (network_of files) (module_of_files files) panel zeroth
  same_signals = loaded_network few files accepted

  signals_is : signals_in panel ≡ net_size net
  unfolding network_in network
  signals_is = same_signals.size

  processors_is : processors_in panel ≡ mod_processors modfile
  unfolding module_in module_of
  processors_is = same_lines.processors

  slots_is : slots_in panel ≡ mod_slots modfile
  unfolding module_in module_of
  slots_is = same_lines.slots

  -- "At t = 0 every signal has its given value, or U": a code
  zeroth_code : (s : ℕ) → Signal (network_of files) s → zeroth s ≤ 3
  zeroth_code =
      start_code (network_of files) (given_of files) (λ s g.
      held_code (network_of files) files.STIM (stim_right (network_of files) files.STIM (stim_accepted limit files accepted)) 0 s)

  -- the panel
  head : Head panel
  head =
      let signals = signals_is in
      let processors = processors_is in
      let slots = slots_is in
      let fresh = loaded_head few files accepted in
      let size = checked_size net n in
      let few = mod_processors_lem (network_of files) modfile m in
      let short = mod_slots_lem (network_of files) modfile m in
      record {
        signals_low = omega (arith, size);
        signals_high = omega (arith, size);
        processors_low = omega (arith, few);
        processors_high = omega (arith, few);
        slots_low = omega (arith, short);
        slots_high = omega (arith, short);
        watched_low = omega (arith, fresh.1);
        watched_high = omega (arith, fresh.1, size);
        mask_high = omega (arith, fresh.2);
      }

  -- the bytes of a signal
  module _ (s : ℕ) (low : 1 ≤ s) (high : s ≤ net_size net) where
    is_signal_lem : Signal (network_of files) s
    unfolding network
    is_signal_lem = record { low = low; high = high }

    right : SignalRight net s
    right = checked_signal net n s is_signal_lem

    code_at : (c : ℕ) → codes_column ≤ c → c < hand_column → column_in panel s c ≡ net_field net s (c + 1)
    code_at c l h = signal_byte_lem few files accepted s is_signal_lem c _ (omega arith) refl ∙ sym (code_byte net s _ _ _ c l h)

    kind_is : kind_in panel s ≡ net_field net s 0
    unfolding network_in network
    kind_is = same_signals.kinds s is_signal_lem

    input_in_range : net_field net s 0 ≡ input → codes_ranged panel s ≡ true
    input_in_range e =
        zeros_input panel s (kind_is ∙ e)
        (λ x above below.
        let q : signal_byte s (x - signal_start s) ≡ x = omega arith in
        subst (λ (y : ℕ). get_or panel y 0 ≡ 0) q
        (code_at (x - signal_start s) (omega arith) (omega arith) ∙ right.zeros e (x - signal_start s + 1) (omega arith) (omega arith)))

    gate_in_range : (net_field net s 0 ≡ input → ⊥) → codes_ranged panel s ≡ true
    gate_in_range d =
        supplied_gate panel s (λ e. d (sym kind_is ∙ e))
        (subst (λ (y : ℕ). is_function y ≡ true) (sym (code_at codes_column (omega arith) (omega arith))) right.function)
        (λ k l.
        let q : signal_byte s (codes_column + 1 + k) ≡ signal_byte s (codes_column + 1) + k = omega arith in
        let r : codes_column + 1 + k + 1 ≡ 3 + k = omega arith in
        subst (λ (y : ℕ). is_translation y ≡ true)
        (ap (λ (y : ℕ). net_field net s y) (sym r) ∙ sym (code_at (codes_column + 1 + k) (omega arith) (omega arith)) ∙ ap (λ (y : ℕ). get_or panel y 0) q)
        (right.translations k l))

    kind_range : (1 ≤ net_field net s 0) × (net_field net s 0 ≤ 3)
    kind_range =
        ⊎_elim (λ (e : net_field net s 0 ≡ input). (omega arith, omega arith))
        (⊎_elim (λ (e : net_field net s 0 ≡ unit_delay). (omega arith, omega arith))
        (λ (e : net_field net s 0 ≡ rank_order). (omega arith, omega arith))) right.kind

    codes_in_range : codes_ranged panel s ≡ true
    codes_in_range = go (ℕ_discrete (net_field net s 0) input)
      where
        go : Dec (net_field net s 0 ≡ input) → codes_ranged panel s ≡ true
        go (yes e) = input_in_range e
        go (no d) = gate_in_range d

    numbers : Numbers panel s
    unfolding module_of
    numbers =
        let kind = kind_is in
        let range = kind_range in
        let processors = processors_is in
        let slots = slots_is in
        let there = same_signals.placed s is_signal_lem in
        record {
          kind_low = omega (arith, range);
          kind_high = omega (arith, range);
          codes = codes_in_range;
          hand_high = omega (arith, same_signals.hands s is_signal_lem, zeroth_code s is_signal_lem);
          processor_low = omega (arith, there.processor);
          slot_low = omega (arith, there.slot);
        }

  panel_range : Panel panel
  panel_range =
      let signals = signals_is in
      record {
        head = head;
        signals = λ s low high. numbers s low (omega arith);
        rest = λ x low high.
            panel_byte_lem files (signal_of x) (column_of x) x (signal_high x high) (column_low x) (sym (byte_is x))
            ∙ panel_above net _ _ (place_of modfile) (time_zero files) (column_of x) (signal_of x) (omega arith);
      }

  -- the program
  at_same : (p i : ℕ) → At (module_in panel program) p i → At (module_of_files files) p i
  at_same p i a =
      record {
        processor = omega (arith, a.processor, same_lines.processors);
        slot = omega (arith, a.slot, same_lines.slots);
      }

  line_range : (p i : ℕ) → At (module_in panel program) p i → Line (network_in panel program) (module_in panel program) p i
  line_range p i a =
      let b = at_same p i a in
      let fits = mod_slot_lem (network_of files) modfile m p i b in
      let slots = same_lines.slots in
      record {
        signal = omega (arith, same_lines.signals p i b, fits.signal, same_signals.size);
        operand = λ j l. located_same slots (same_lines.parts p i j b l) (same_lines.locations p i j b l) (fits.operand j l);
        send = located_same slots (same_lines.send_parts p i b) (same_lines.send_locations p i b) fits.send;
        sender =
            ⊎_map (λ (k : (module_of_files files).sender p i < (module_of_files files).processors). omega (arith, same_lines.senders p i b, same_lines.processors))
            (λ k. same_lines.senders p i b ∙ k) fits.sender;
      }

  program_range : Program panel program
  program_range =
      record {
        lines = line_range;
        rest = λ p i c low_p low-i low-c e.
            program_byte_lem modfile p i c _ low_p low-i low-c refl ∙ byte_without modfile p i c (rw (processors_is, slots_is) at e);
      }

  -- the memory
  small : Small (module_of_files files) (opening (module_of_files files) zeroth)
  small = opening_small (mod_scheduled (network_of files) modfile m).laid zeroth zeroth_code

  module _ {p part k : ℕ} (there : Place p part k) where
    memory_at_lem : get_or memory (place p part k) 0 ≡ opening_byte modfile zeroth p part k
    unfolding opening_bytes
    memory_at_lem = written_at_lem _ _ _ there

    module _ (inside : within (mod_processors modfile) (mod_slots modfile) p k ≡ true) where
      is_at : At (module_of_files files) p k
      unfolding module_of
      is_at = let low = within_true _ _ _ _ inside in record { processor = low.0; slot = low.1 }

      inside_code : opening_byte modfile zeroth p part k ≤ 3
      unfolding opening sent_value
      inside_code = go (ℕ_discrete part 0) (ℕ_discrete part 2) (ℕ_discrete part 3)
        where
          go : Dec (part ≡ 0) → Dec (part ≡ 2) → Dec (part ≡ 3) → opening_byte modfile zeroth p part k ≤ 3
          go (yes e) b d = omega (arith, byte_local modfile zeroth there inside e, small.earlier_local p k is_at)
          go (no a) (yes e) d = omega (arith, byte_sent_earlier modfile zeroth there inside e, small.earlier_switch p k is_at)
          go (no a) (no b) (yes e) = omega (arith, byte_sent_present modfile zeroth there inside e, small.present_switch p k is_at)
          go (no a) (no b) (no d) = omega (arith, byte_other modfile zeroth there inside a b d)

      blank_zero : ltb part blank ≡ false → opening_byte modfile zeroth p part k ≡ 0
      blank_zero e =
          let l : blank ≤ part = ltb-false part blank e in
          byte_other modfile zeroth there inside (λ (z : part ≡ 0). omega arith) (λ (z : part ≡ 2). omega arith) (λ (z : part ≡ 3). omega arith)

    byte_code : opening_byte modfile zeroth p part k ≤ 3
    byte_code = go (within (mod_processors modfile) (mod_slots modfile) p k) refl
      where
        go : (b : Bool) → within (mod_processors modfile) (mod_slots modfile) p k ≡ b → opening_byte modfile zeroth p part k ≤ 3
        go true e = inside_code e
        go false e = omega (arith, byte_outside modfile zeroth there e)

    byte_rest : within (mod_processors modfile) (mod_slots modfile) p k and ltb part blank ≡ false → opening_byte modfile zeroth p part k ≡ 0
    unfolding ◌and◌
    byte_rest h = go (within (mod_processors modfile) (mod_slots modfile) p k) refl
      where
        go : (b : Bool) → within (mod_processors modfile) (mod_slots modfile) p k ≡ b → opening_byte modfile zeroth p part k ≡ 0
        go true e = blank_zero e (rw e at h)
        go false e = byte_outside modfile zeroth there e

  memory_range : Values panel memory
  memory_range =
      record {
        values = λ there. omega (arith, memory_at_lem there, byte_code there);
        rest = λ there e. memory_at_lem there ∙ byte_rest there (rw (processors_is, slots_is) at e);
      }

  -- "It opens when the three files are accepted": 44 does not come on what it then holds
  pub opened_ranged : ranged panel program memory ≡ true
  opened_ranged = is_ranged _ _ _ panel_range program_range memory_range

-- "N is then 0, so every session call on them, all lengths being right, gives 44."
zero_at : (x : ℕ) → x < panel_length → get_or (cleared panel_length) x 0 ≡ 0
zero_at x l = listed_at panel_length (λ a. 0) x l

no_signals : signals_in (cleared panel_length) ≡ 0
no_signals = omega (arith, zero_at 0 (omega arith), zero_at 1 (omega arith))

pub cleared_out_of_range : (program memory : List ℕ) → ranged (cleared panel_length) program memory ≡ false
cleared_out_of_range program memory = go (ranged (cleared panel_length) program memory) refl
  where
    go : (b : Bool) → ranged (cleared panel_length) program memory ≡ b → b ≡ false
    go true h = absurd (omega (arith, (head_ranged_lem (cleared panel_length) program memory h).signals_low, no_signals))
    go false h = refl
