-- The buffers by an array of the time 0 values are the buffers by the files: only the signals 1 to N are read from the array.
use Prim.Native.Nat.{ℕ, zero, suc, ◌<◌, ◌≤◌}
use mathlib.Core.Path.{◌≡◌, refl, sym, ◌∙◌}
use mathlib.Core.Bool.{Bool, true, false}
use mathlib.Core.List.{List}
use native.Mathlib.Omega.{arith}
use native.Mathlib.Decide.{ℕ_discrete}
use borrow.Author.Tests.{le-leb}
use Rattle.logic.specs.Test.{◌and◌}
use Rattle.logic.specs.Listed.{listed}
use Rattle.logic.proofs.Listed.{listed_same}
use Rattle.model.specs.Refusal.{pass}
use Rattle.model.specs.Files.{Files}
use Rattle.model.specs.Network.{is_signal}
use Rattle.model.specs.Netlist.{net_size, network}
use Rattle.model.specs.Value.{value_of, start}
use Rattle.model.specs.Module.{no_sender}
use Rattle.model.specs.ModuleFile.{mod_processors, mod_slots, module_of, mod_check}
use Rattle.model.specs.Acceptance.{network_of, given_of}
use Rattle.model.specs.Checked.{Checked}
use Rattle.model.proofs.Accepted.{mod_slot_lem}
use Rattle.buffers_memory.specs.Memory.{memory_length, byte_processor, byte_part, byte_location, within, written}
use Rattle.buffers_memory.proofs.Written.{Place, byte_place}
use Rattle.buffers_memory.proofs.Within.{within_true}
use Rattle.buffers_tables.specs.Panel.{panel_length, signal_of, column_of}
use Rattle.file_mod_table.specs.Line.{LineOf}
use Rattle.file_mod_table.proofs.Slots.{line_of, send_low, sender_line}
use Rattle.buffers_load_files.specs.Loaded.{time_zero_from, time_zero, place_of, panel_with, panel_of, opening_with, opening_bytes}
use Rattle.buffers_load_files.specs.Checked.{ModuleChecked, value_in}
use Rattle.buffers_load_memory.specs.Bytes.{sent_value, opening_byte}
use Rattle.buffers_load_files.proofs.Fields.{schedules, is_at, lines_laid}
use Rattle.buffers_load_files.proofs.Arrays.{array_at, in_array}
use Rattle.buffers_load_panel.proofs.Panel.{panel_same}
use Rattle.buffers_load_memory.proofs.Memory.{byte_outside, byte_local, byte_sent_earlier, byte_sent_present, byte_other, nothing_sent, something_sent}

-- the time 0 value of a signal
module _ (files : Files) where
  pub zeroth_is : (s : ℕ) → 1 ≤ s → s ≤ net_size files.NET → time_zero files s ≡ start (network_of files) (given_of files) s
  unfolding time_zero_from is_signal ◌and◌ network
  zeroth_is s l h = rw (le-leb 1 s l, le-leb s (net_size files.NET) h)

-- the array of the time 0 values
module _ (files : Files) (values : List ℕ) (e : values ≡ listed 4097 (time_zero files)) where
  abbrev net : List ℕ
  net = files.NET

  abbrev modfile : List ℕ
  modfile = files.MOD

  module _ (checked : Checked net) where
    pub panel_zeroth : panel_with net modfile (value_in values) ≡ panel_of files
    unfolding panel_of panel_with
    panel_zeroth =
        listed_same panel_length _ _
        (λ a b. panel_same net (mod_processors modfile) (mod_slots modfile) (place_of modfile) (value_in values) (column_of a) (place_of modfile) (time_zero files)
        (λ s l h. refl) (λ s l h. array_at (time_zero files) values e s (in_array net checked s h)) (signal_of a))

    value_same : (s : ℕ) → s ≤ net_size net → value_of (value_in values) s ≡ value_of (start (network_of files) (given_of files)) s
    value_same zero h = refl
    value_same (suc s) h =
        array_at (time_zero files) values e (suc s) (in_array net checked (suc s) h) ∙ zeroth_is files (suc s) (omega arith) h

    module _ (m : mod_check (network_of files) modfile ≡ pass) where
      abbrev fits : ModuleChecked modfile
      fits = schedules net modfile checked m

      local_same : (p k : ℕ) → p < mod_processors modfile → k < mod_slots modfile
          → value_of (value_in values) ((module_of modfile).signal p k) ≡ value_of (start (network_of files) (given_of files)) ((module_of modfile).signal p k)
      unfolding network
      local_same p k low_p low_k =
          value_same ((module_of modfile).signal p k) (mod_slot_lem (network_of files) modfile m p k (is_at fits low_p low_k)).signal

      sent_same : (p k : ℕ) → p < mod_processors modfile → k < mod_slots modfile
          → sent_value (module_of modfile) (value_in values) p k ≡ sent_value (module_of modfile) (start (network_of files) (given_of files)) p k
      sent_same p k low_p low_k = go (ℕ_discrete sender no_sender)
        where
          sender : ℕ
          sender = (module_of modfile).sender p k

          line : LineOf modfile (mod_slots modfile) p k
          line = line_of modfile _ _ p k (lines_laid fits _ _ refl refl) low_p low_k

          go : Dec (sender ≡ no_sender)
              → sent_value (module_of modfile) (value_in values) p k ≡ sent_value (module_of modfile) (start (network_of files) (given_of files)) p k
          go (yes q) = nothing_sent (module_of modfile) _ p k sender refl q ∙ sym (nothing_sent (module_of modfile) _ p k sender refl q)
          go (no d) =
              let from = sender_line _ _ _ _ line sender refl d in
              something_sent (module_of modfile) _ p k sender refl d _ refl
              ∙ local_same sender _ from.processor (send_low _ _ _ _ from)
              ∙ sym (something_sent (module_of modfile) _ p k sender refl d _ refl)

      byte_same : (a : ℕ) → a < memory_length
          → opening_byte modfile (value_in values) (byte_processor a) (byte_part a) (byte_location a)
          ≡ opening_byte modfile (start (network_of files) (given_of files)) (byte_processor a) (byte_part a) (byte_location a)
      byte_same a b = go (within (mod_processors modfile) (mod_slots modfile) (byte_processor a) (byte_location a)) refl
        where
          there : Place (byte_processor a) (byte_part a) (byte_location a)
          there = byte_place a b

          go : (w : Bool) → within (mod_processors modfile) (mod_slots modfile) (byte_processor a) (byte_location a) ≡ w
              → opening_byte modfile (value_in values) (byte_processor a) (byte_part a) (byte_location a)
              ≡ opening_byte modfile (start (network_of files) (given_of files)) (byte_processor a) (byte_part a) (byte_location a)
          go false w = byte_outside modfile _ there w ∙ sym (byte_outside modfile _ there w)
          go true w =
              parts (ℕ_discrete (byte_part a) 0) (ℕ_discrete (byte_part a) 2) (ℕ_discrete (byte_part a) 3)
            where
              low_p : byte_processor a < mod_processors modfile
              low_p = (within_true _ _ _ _ w).0

              low_k : byte_location a < mod_slots modfile
              low_k = (within_true _ _ _ _ w).1

              parts : Dec (byte_part a ≡ 0) → Dec (byte_part a ≡ 2) → Dec (byte_part a ≡ 3)
                  → opening_byte modfile (value_in values) (byte_processor a) (byte_part a) (byte_location a)
                  ≡ opening_byte modfile (start (network_of files) (given_of files)) (byte_processor a) (byte_part a) (byte_location a)
              parts (yes q) y z = byte_local modfile _ there w q ∙ local_same _ _ low_p low_k ∙ sym (byte_local modfile _ there w q)
              parts (no x) (yes q) z =
                  byte_sent_earlier modfile _ there w q ∙ sent_same _ _ low_p low_k ∙ sym (byte_sent_earlier modfile _ there w q)
              parts (no x) (no y) (yes q) =
                  byte_sent_present modfile _ there w q ∙ sent_same _ _ low_p low_k ∙ sym (byte_sent_present modfile _ there w q)
              parts (no x) (no y) (no z) = byte_other modfile _ there w x y z ∙ sym (byte_other modfile _ there w x y z)

      pub opening_zeroth : opening_with modfile (value_in values) ≡ opening_bytes files
      unfolding opening_bytes written
      opening_zeroth = listed_same memory_length _ _ byte_same
