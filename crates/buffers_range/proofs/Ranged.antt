-- What working buffers in range tell a call, and back: numbers of the panel (`Numbers.antt`), lines of the program (`Laid.antt`), bytes
-- of the memory.
use Prim.Native.Nat.{ℕ, ◌+◌, ◌-◌, ◌*◌, ◌/◌, ◌%◌, ◌<◌, ◌≤◌}
use mathlib.Core.Path.{◌≡◌, refl, sym, subst}
use mathlib.Core.Bool.{Bool, true, false}
use mathlib.Core.List.{List}
use native.Mathlib.Omega.{arith}
use lib.Dec.{leb, ltb}
use lib.ListN.{length, get_or}
use borrow.Author.Tests.{leb-true, le-leb, le-ltb}
use Rattle.logic.specs.Test.{◌and◌}
use Rattle.logic.proofs.Tests.{and_true, and_left, and_right, all_at, all_true}
use Rattle.std.specs.Prelude.{if◌then◌else◌}
use Rattle.gates.specs.Value.{Code}
use Rattle.model.specs.Module.{At}
use Rattle.buffers_memory.specs.Memory.{memory_length, blank, place, byte_processor, byte_part, byte_location, within, MemoryBytes}
use Rattle.buffers_memory.proofs.Written.{Place, place_low, at_processor, at_part, at_location, byte_place, byte_is}
use Rattle.buffers_memory.proofs.Within.{within_true}
use Rattle.buffers_tables.specs.Panel.{panel_length, signals_in, processors_in, slots_in}
use Rattle.buffers_tables.specs.Program.{program_length, line_stride, slot_lines, line_in}
use Rattle.buffers_tables.specs.Tables.{network_in, module_in, Tables}
use Rattle.buffers_tables.proofs.Places.{line_low, at_line_processor, at_line_slot}
use Rattle.buffers_runs.specs.Zeros.{zeros}
use Rattle.buffers_range_program.specs.Ranges.{line_ranged, program_ranged}
use Rattle.buffers_range_memory.specs.Ranges.{memory_ranged}
use Rattle.buffers_range.specs.Ranges.{ranged}
use Rattle.logic.proofs.Judged.{and_false}
use Rattle.buffers_runs.proofs.Runs.{zeros_true}
use Rattle.buffers_range_panel.proofs.Numbers.{Head, Numbers, Panel, ranged_panel, panel_ranged_lem, legal_codes}
use Rattle.model.proofs.Accepted.{Line, lines_laid}
use Rattle.buffers_range.proofs.Laid.{ranged_line, line_ranged_lem}
use Rattle.buffers_range_program.proofs.Slots.{line_test, used, used_line, unused_byte}
use Rattle.buffers_range_memory.proofs.Parts.{limit}

-- the program: lines of P processors and C slots, and zeros
pub record Program (panel program : List ℕ) : Type 0 where
  pub lines : (p i : ℕ) → At (module_in panel program) p i → Line (network_in panel program) (module_in panel program) p i
  pub rest : (p i b : ℕ) → p < 16 → i < 256 → b < line_stride → within (processors_in panel) (slots_in panel) p i ≡ false
      → get_or program (line_in p i + b) 0 ≡ 0

-- the memory: values in the locations of P processors and C slots, and zeros
pub record Values (panel memory : List ℕ) : Type 0 where
  pub values : {p part k : ℕ} → Place p part k → get_or memory (place p part k) 0 ≤ 3
  pub rest : {p part k : ℕ} → Place p part k → within (processors_in panel) (slots_in panel) p k and ltb part blank ≡ false
      → get_or memory (place p part k) 0 ≡ 0

module _ (panel program : List ℕ) where
  pub ranged_program : Head panel → program_ranged panel program ≡ true → Program panel program
  unfolding module_in
  ranged_program head h =
      let few = head.processors_high in
      let short = head.slots_high in
      record {
        lines = λ p i a.
            let l = a.processor in
            let s = a.slot in
            ranged_line (network_in panel program) (module_in panel program) p i (used_line panel program h p i (omega arith) (omega arith) l s);
        rest = λ p i b pl il bl e.
            unused_byte panel program h (line_in p i + b) (line_low p i b pl bl il)
            (rw (at_line_processor p i b pl bl, at_line_slot p i b pl bl) e);
      }

  pub program_ranged_lem : Program panel program → program_ranged panel program ≡ true
  unfolding program_ranged module_in
  program_ranged_lem h = all_true (line_test panel program) 4096 (λ k l. go k l (used panel program k) refl)
    where
      go : (k : ℕ) → k < 4096 → (b : Bool) → used panel program k ≡ b
          → (if b then line_ranged (network_in panel program) (module_in panel program) (k % slot_lines) (k / slot_lines) else zeros program (line_stride * k) line_stride) ≡ true
      go k l true e =
          line_ranged_lem (network_in panel program) (module_in panel program) (k % slot_lines) (k / slot_lines)
          (h.lines (k % slot_lines) (k / slot_lines)
          (let low = within_true _ _ (k % slot_lines) (k / slot_lines) e in record { processor = low.0; slot = low.1 }))
      go k l false e =
          zeros_true program (line_stride * k) line_stride (λ x low high.
          let q : line_in (k % slot_lines) (k / slot_lines) + (x - line_stride * k) ≡ x = omega arith in
          subst (λ (y : ℕ). get_or program y 0 ≡ 0) q (h.rest (k % slot_lines) (k / slot_lines) (x - line_stride * k) (omega arith) (omega arith) (omega arith) e))

module _ (panel memory : List ℕ) where
  -- the limit of a byte, by its place
  abbrev limit_at : ℕ → ℕ → ℕ → ℕ
  limit_at p part k = if within (processors_in panel) (slots_in panel) p k and ltb part blank then 3 else 0

  limit_place : {p part k : ℕ} → Place p part k → limit panel (place p part k) ≡ limit_at p part k
  limit_place {p} {part} {k} a =
      rw (at_processor a, at_part a, at_location a)

  limit_high : (b : Bool) → ◌≤◌ (if b then 3 else 0) 3
  limit_high true = omega arith
  limit_high false = omega arith

  pub ranged_values : memory_ranged panel memory ≡ true → Values panel memory
  unfolding memory_ranged
  ranged_values h =
      record {
        values = λ {p} {part} {k} a.
            let l = below a in
            let u = limit_high (within (processors_in panel) (slots_in panel) p k and ltb part blank) in
            omega arith;
        rest = λ {p} {part} {k} a e.
            let l = rw e at (below a) in
            omega arith;
      }
    where
      below : {p part k : ℕ} → Place p part k → get_or memory (place p part k) 0 ≤ limit_at p part k
      below {p} {part} {k} a =
          subst (λ (x : ℕ). get_or memory (place p part k) 0 ≤ x) (limit_place a)
          (leb-true _ _ (all_at (λ b. leb (get_or memory b 0) (limit panel b)) memory_length h (place p part k) (place_low a)))

  pub values_ranged : Values panel memory → memory_ranged panel memory ≡ true
  unfolding memory_ranged
  values_ranged h = all_true (λ b. leb (get_or memory b 0) (limit panel b)) memory_length (λ a l. le-leb (get_or memory a 0) (limit panel a) (at a l))
    where
      at : (a : ℕ) → a < memory_length → get_or memory a 0 ≤ limit panel a
      at a l = go (within (processors_in panel) (slots_in panel) (byte_processor a) (byte_location a) and ltb (byte_part a) blank) refl
        where
          go : (b : Bool) → within (processors_in panel) (slots_in panel) (byte_processor a) (byte_location a) and ltb (byte_part a) blank ≡ b
              → get_or memory a 0 ≤ (if b then 3 else 0)
          go true e = subst (λ (x : ℕ). get_or memory x 0 ≤ 3) (sym (byte_is a)) (h.values (byte_place a l))
          go false e = let z = subst (λ (x : ℕ). get_or memory x 0 ≡ 0) (sym (byte_is a)) (h.rest (byte_place a l) e) in omega arith

-- buffers in range
module _ (panel program memory : List ℕ) where
  pub is_ranged : Panel panel → Program panel program → Values panel memory → ranged panel program memory ≡ true
  unfolding ranged
  is_ranged a b c = and_true _ _ (panel_ranged_lem panel a) (and_true _ _ (program_ranged_lem panel program b) (values_ranged panel memory c))

  module _ (h : ranged panel program memory ≡ true) where
    pub panel_in_range : Panel panel
    unfolding ranged
    panel_in_range = ranged_panel panel (and_left _ _ h)

    pub head_ranged_lem : Head panel
    head_ranged_lem = panel_in_range.head

    pub signal_ranged_lem : (s : ℕ) → 1 ≤ s → s ≤ signals_in panel → Numbers panel s
    signal_ranged_lem = panel_in_range.signals

    pub program_in_range : Program panel program
    unfolding ranged
    program_in_range = ranged_program panel program head_ranged_lem (and_left _ _ (and_right _ _ h))

    pub memory_in_range : Values panel memory
    unfolding ranged
    memory_in_range = ranged_values panel memory (and_right _ _ (and_right _ _ h))

  pub ranged_tables : length panel ≡ panel_length → length program ≡ program_length → ranged panel program memory ≡ true → Tables panel program
  ranged_tables e f h =
      record {
        panel_size = e;
        program_size = f;
        signals_high = (head_ranged_lem h).signals_high;
        processors_high = (head_ranged_lem h).processors_high;
        slots_high = (head_ranged_lem h).slots_high;
        laid = lines_laid (program_in_range h).lines;
        codes = λ s low high. legal_codes panel s (signal_ranged_lem h s low high).codes;
        hands = λ s low high. (signal_ranged_lem h s low high).hand_high;
      }

  pub ranged_memory : length memory ≡ memory_length → ranged panel program memory ≡ true → MemoryBytes memory
  ranged_memory e h =
      record {
        size = e;
        values = λ a l. subst (λ (x : ℕ). Code (get_or memory x 0)) (sym (byte_is a)) ((memory_in_range h).values (byte_place a l));
        blanks = λ p k l b.
            let there : Place p blank k = record { processor_low = l; part_low = omega arith; location_low = b } in
            (memory_in_range h).rest there
            (rw (le-ltb blank blank (omega arith)) (and_false (within (processors_in panel) (slots_in panel) p k)));
      }
