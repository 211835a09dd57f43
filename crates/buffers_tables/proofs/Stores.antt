-- A number of the panel is read where it was written, and all others stay: every other byte does (`finished_else`, `watch_else`,
-- `hand_else`), and so do the numbers that no call writes (`SameFixed`). What stands there already, written again, changes no byte.
use Prim.Native.Nat.{ℕ, ◌+◌, ◌<◌, ◌≤◌}
use mathlib.Core.Path.{◌≡◌, sym, subst, ◌∙◌, ap}
use mathlib.Core.List.{List}
use native.Mathlib.Omega.{arith}
use lib.ListN.{length, get_or, set, length-set}
use lib.Seq.{get_or-set_same, get_or-set_other, set-get_or}
use Rattle.words.specs.Stored.{word_stored}
use Rattle.words.proofs.Words.{stored_length, stored_else, word_stored_lem, word_own}
use Rattle.buffers_tables.specs.Panel.{panel_length, panel_stride, signals_place, processors_place, slots_place, finished_place, watched_place, mask_place, kind_column, codes_column, hand_column, processor_column, slot_column, signal_byte, signal_of, column_of, finished_in, watched_in, mask_in, kind_in, codes_in, hand_in, processor_in, slot_in}
use Rattle.buffers_tables.specs.Stores.{with_finished, with_watch, with_hand}
use Rattle.buffers_tables.specs.Tables.{module_in}
use Rattle.buffers_tables.specs.Holding.{SameFixed}
use Rattle.buffers_tables.proofs.Places.{byte_is, column_low, signal_high, byte_low, at_column, kind_column_lem}

-- panels with the same bytes before the cycles finished, and in every column of the signals but that of the values in hand
pub fixed_bytes : (a b : List ℕ) → ((x : ℕ) → x < finished_place → get_or a x 0 ≡ get_or b x 0)
    → ((x : ℕ) → panel_stride ≤ x → x < panel_length → (column_of x ≡ hand_column → ⊥) → get_or a x 0 ≡ get_or b x 0) → SameFixed a b
fixed_bytes a b head rest =
    record {
      signals = rw (head signals_place (omega arith), head (signals_place + 1) (omega arith));
      processors = head processors_place (omega arith);
      slots = rw (head slots_place (omega arith), head (slots_place + 1) (omega arith));
      columns = λ s column low high l d. rest (signal_byte s column) (omega arith) (byte_low s column l high) (λ q. d (sym (at_column s column l) ∙ q));
    }

pub fixed_trans : (a b c : List ℕ) → SameFixed a b → SameFixed b c → SameFixed a c
fixed_trans a b c h k =
    record {
      signals = h.signals ∙ k.signals;
      processors = h.processors ∙ k.processors;
      slots = h.slots ∙ k.slots;
      columns = λ s column low high l d. h.columns s column low high l d ∙ k.columns s column low high l d;
    }

-- what such panels have in common
module _ (a b : List ℕ) (same : SameFixed a b) where
  module _ (s : ℕ) (low : 1 ≤ s) (high : s ≤ 4096) where
    pub fixed_kind : kind_in a s ≡ kind_in b s
    fixed_kind = kind_column_lem a s ∙ same.columns s kind_column low high (omega arith) (λ q. omega arith) ∙ sym (kind_column_lem b s)

    pub fixed_codes : codes_in a s ≡ codes_in b s
    fixed_codes =
        rw (
          same.columns s codes_column low high (omega arith) (λ q. omega arith),
          same.columns s (codes_column + 1) low high (omega arith) (λ q. omega arith),
          same.columns s (codes_column + 2) low high (omega arith) (λ q. omega arith),
          same.columns s (codes_column + 3) low high (omega arith) (λ q. omega arith),
          same.columns s (codes_column + 4) low high (omega arith) (λ q. omega arith),
          same.columns s (codes_column + 5) low high (omega arith) (λ q. omega arith),
        )

    pub fixed_processor : processor_in a s ≡ processor_in b s
    fixed_processor = same.columns s processor_column low high (omega arith) (λ q. omega arith)

    pub fixed_slot : slot_in a s ≡ slot_in b s
    fixed_slot = same.columns s slot_column low high (omega arith) (λ q. omega arith)

  pub fixed_byte : (x : ℕ) → panel_stride ≤ x → x < panel_length → (column_of x ≡ hand_column → ⊥) → get_or a x 0 ≡ get_or b x 0
  fixed_byte x low high d =
      subst (λ (y : ℕ). get_or a y 0 ≡ get_or b y 0) (byte_is x) (same.columns (signal_of x) (column_of x) (omega arith) (signal_high x high) (column_low x) d)

  pub fixed_module : (program : List ℕ) → module_in a program ≡ module_in b program
  unfolding module_in
  fixed_module program = rw (same.processors, same.slots)

-- the cycles finished
module _ (number : ℕ) (panel : List ℕ) where
  pub finished_length : length (with_finished number panel) ≡ length panel
  finished_length = stored_length number finished_place panel

  pub finished_stored : length panel ≡ panel_length → finished_in (with_finished number panel) ≡ number
  finished_stored size = word_stored_lem number finished_place panel (omega arith)

  pub finished_else : (x : ℕ) → (x ≡ finished_place → ⊥) → (x ≡ finished_place + 1 → ⊥) → get_or (with_finished number panel) x 0 ≡ get_or panel x 0
  finished_else x low high = stored_else number finished_place panel x low high

  pub finished_hand : (s : ℕ) → 1 ≤ s → hand_in (with_finished number panel) s ≡ hand_in panel s
  finished_hand s low = finished_else (signal_byte s hand_column) (λ q. omega arith) (λ q. omega arith)

  pub finished_fixed : SameFixed (with_finished number panel) panel
  finished_fixed =
      fixed_bytes (with_finished number panel) panel
      (λ x l. finished_else x (λ q. omega arith) (λ q. omega arith))
      (λ x l h d. finished_else x (λ q. omega arith) (λ q. omega arith))

-- the watch
module _ (signal mask : ℕ) (panel : List ℕ) where
  abbrev signalled : List ℕ
  signalled = word_stored signal watched_place panel

  signalled_length : length signalled ≡ length panel
  signalled_length = stored_length signal watched_place panel

  pub watch_length : length (with_watch signal mask panel) ≡ length panel
  watch_length = length-set signalled mask_place mask ∙ signalled_length

  pub watched_stored : length panel ≡ panel_length → watched_in (with_watch signal mask panel) ≡ signal
  watched_stored size =
      rw (get_or-set_other signalled mask_place watched_place mask 0 (λ q. omega arith), get_or-set_other signalled mask_place (watched_place + 1) mask 0 (λ q. omega arith))
      (word_stored_lem signal watched_place panel (omega arith))

  pub mask_stored : length panel ≡ panel_length → mask_in (with_watch signal mask panel) ≡ mask
  mask_stored size = get_or-set_same signalled mask_place mask 0 (omega (arith, signalled_length))

  pub watch_else : (x : ℕ) → (x ≡ watched_place → ⊥) → (x ≡ watched_place + 1 → ⊥) → (x ≡ mask_place → ⊥)
      → get_or (with_watch signal mask panel) x 0 ≡ get_or panel x 0
  watch_else x low high d = get_or-set_other signalled mask_place x mask 0 d ∙ stored_else signal watched_place panel x low high

  pub watch_finished : finished_in (with_watch signal mask panel) ≡ finished_in panel
  watch_finished =
      rw (
        watch_else finished_place (λ q. omega arith) (λ q. omega arith) (λ q. omega arith),
        watch_else (finished_place + 1) (λ q. omega arith) (λ q. omega arith) (λ q. omega arith),
      )

  pub watch_hand : (s : ℕ) → 1 ≤ s → hand_in (with_watch signal mask panel) s ≡ hand_in panel s
  watch_hand s low = watch_else (signal_byte s hand_column) (λ q. omega arith) (λ q. omega arith) (λ q. omega arith)

  pub watch_fixed : SameFixed (with_watch signal mask panel) panel
  watch_fixed =
      fixed_bytes (with_watch signal mask panel) panel
      (λ x l. watch_else x (λ q. omega arith) (λ q. omega arith) (λ q. omega arith))
      (λ x l h d. watch_else x (λ q. omega arith) (λ q. omega arith) (λ q. omega arith))

-- the value in hand of a signal
module _ (s value : ℕ) (panel : List ℕ) where
  pub hand_length : length (with_hand s value panel) ≡ length panel
  hand_length = length-set panel (signal_byte s hand_column) value

  pub hand_stored : length panel ≡ panel_length → s ≤ 4096 → hand_in (with_hand s value panel) s ≡ value
  hand_stored size high = get_or-set_same panel (signal_byte s hand_column) value 0 (omega arith)

  pub hand_else : (x : ℕ) → (x ≡ signal_byte s hand_column → ⊥) → get_or (with_hand s value panel) x 0 ≡ get_or panel x 0
  hand_else x d = get_or-set_other panel (signal_byte s hand_column) x value 0 d

  pub hand_other : (r : ℕ) → (r ≡ s → ⊥) → hand_in (with_hand s value panel) r ≡ hand_in panel r
  hand_other r d = hand_else (signal_byte r hand_column) (λ q. d (omega arith))

-- what stands there already
module _ (panel : List ℕ) where
  pub finished_own : get_or panel finished_place 0 < 256 → with_finished (finished_in panel) panel ≡ panel
  finished_own low = word_own panel finished_place low

  pub watch_own : get_or panel watched_place 0 < 256 → with_watch (watched_in panel) (mask_in panel) panel ≡ panel
  watch_own low =
      ap (λ (x : List ℕ). set x mask_place (mask_in panel)) (word_own panel watched_place low) ∙ set-get_or panel mask_place 0
