-- The program is judged slot by slot: the lines of P processors and C slots, and the runs of zeros between and after them.
use Prim.Native.Nat.{ℕ, ◌+◌, ◌-◌, ◌*◌, ◌/◌, ◌%◌, ◌<◌, ◌≤◌}
use mathlib.Core.Path.{◌≡◌, refl, sym, ◌∙◌}
use mathlib.Core.Bool.{Bool, true, false}
use mathlib.Core.Logic.{◌⊎◌, inl, inr}
use mathlib.Core.List.{List}
use native.Mathlib.Omega.{arith}
use lib.Dec.{ltb}
use lib.ListN.{get_or}
use borrow.Author.Tests.{ltb-true, ltb-false}
use Rattle.logic.proofs.Tests.{and_true, and_left, and_right, all_at, all_true}
use Rattle.std.specs.Prelude.{if◌then◌else◌}
use Rattle.buffers_memory.specs.Memory.{within}
use Rattle.buffers_memory.proofs.Within.{is_within, within_true, within_false, no_processor, no_location}
use Rattle.buffers_tables.specs.Panel.{signals_in, processors_in, slots_in}
use Rattle.buffers_tables.specs.Program.{program_length, line_stride, slot_lines, slot_stride, slot_start, line_processor, line_slot}
use Rattle.buffers_tables.specs.Tables.{network_in, module_in}
use Rattle.buffers_runs.specs.Zeros.{zeros}
use Rattle.buffers_range_program.specs.Ranges.{line_ranged, program_ranged}
use Rattle.buffers_range_program.specs.Order.{line_at, slot_at, slots_at}
use Rattle.logic.proofs.Judged.{same_test}
use Rattle.buffers_runs.proofs.Runs.{zeros_byte, zeros_true}
use Rattle.buffers_range_program.proofs.Lines.{line_order}

module _ (panel program : List ℕ) where
  abbrev pub used : ℕ → Bool
  used k = within (processors_in panel) (slots_in panel) (k % slot_lines) (k / slot_lines)

  -- a test of the k-th line
  abbrev pub line_test : ℕ → Bool
  line_test k =
      if used k then line_ranged (network_in panel program) (module_in panel program) (k % slot_lines) (k / slot_lines) else zeros program (line_stride * k) line_stride

  -- what a program in range tells, line by line
  module _ (h : program_ranged panel program ≡ true) where
    line_test_lem : (k : ℕ) → k < 4096 → line_test k ≡ true
    unfolding program_ranged
    line_test_lem k l = all_at line_test 4096 h k l

    pub used_line : (p i : ℕ) → p < 16 → i < 256 → p < processors_in panel → i < slots_in panel
        → line_ranged (network_in panel program) (module_in panel program) p i ≡ true
    used_line p i pl il pu iu =
        let r : (slot_lines * i + p) % slot_lines ≡ p = omega arith in
        let q : (slot_lines * i + p) / slot_lines ≡ i = omega arith in
        rw (r, q, is_within (processors_in panel) (slots_in panel) p i pu iu) at (line_test_lem (slot_lines * i + p) (omega arith))

    pub unused_byte : (x : ℕ) → x < program_length → used (x / line_stride) ≡ false → get_or program x 0 ≡ 0
    unused_byte x l e = zeros_byte program (line_stride * (x / line_stride)) line_stride (rw e at (line_test_lem (x / line_stride) (omega arith))) x (omega arith) (omega arith)

-- the order of the code, P and C being in range
module _ (panel program : List ℕ) (few : processors_in panel ≤ 16) (short : slots_in panel ≤ 256) where
  abbrev P : ℕ
  P = processors_in panel

  abbrev C : ℕ
  C = slots_in panel

  abbrev in_order : Bool
  in_order = slots_at program (signals_in panel) P C

  slot_holds : program_ranged panel program ≡ true → (i : ℕ) → i < C → slot_at program i (signals_in panel) P C ≡ true
  unfolding slot_at
  slot_holds h i l =
      and_true _ _
      (all_true _ P (λ p b.
      sym (line_order panel program p i (slot_start i + line_stride * p) (omega arith)) ∙ used_line panel program h p i (omega arith) (omega arith) b l))
      (zeros_true program (slot_start i + line_stride * P) (line_stride * (slot_lines - P)) (λ x low high.
      unused_byte panel program h x (omega arith) (no_processor P C (line_processor x) (line_slot x) (omega arith))))

  ranged_order : program_ranged panel program ≡ true → in_order ≡ true
  unfolding slots_at
  ranged_order h =
      and_true _ _ (all_true _ C (slot_holds h))
      (zeros_true program (slot_start C) (slot_stride * (256 - C)) (λ x low high.
      unused_byte panel program h x (omega arith) (no_location P C (line_processor x) (line_slot x) (omega arith))))

  module _ (h : in_order ≡ true) where
    slot_there : (i : ℕ) → i < C → slot_at program i (signals_in panel) P C ≡ true
    unfolding slots_at
    slot_there i l = all_at _ C (and_left _ _ h) i l

    line_there : (p i : ℕ) → p < P → i < C → line_at program (slot_start i + line_stride * p) (signals_in panel) P C ≡ true
    unfolding slot_at
    line_there p i a b = all_at (λ q. line_at program (slot_start i + line_stride * q) (signals_in panel) P C) P (and_left _ _ (slot_there i b)) p a

    after_processors : (i x : ℕ) → i < C → slot_start i + line_stride * P ≤ x → x < slot_start i + slot_stride → get_or program x 0 ≡ 0
    unfolding slot_at
    after_processors i x l low high =
        zeros_byte program (slot_start i + line_stride * P) (line_stride * (slot_lines - P)) (and_right _ _ (slot_there i l)) x low (omega arith)

    after_slots : (x : ℕ) → slot_start C ≤ x → x < program_length → get_or program x 0 ≡ 0
    unfolding slots_at
    after_slots x low high = zeros_byte program (slot_start C) (slot_stride * (256 - C)) (and_right _ _ h) x low (omega arith)

    unused_there : (k x : ℕ) → k < 4096 → (P ≤ k % slot_lines) ⊎ (C ≤ k / slot_lines) → line_stride * k ≤ x → x < line_stride * k + line_stride → get_or program x 0 ≡ 0
    unused_there k x l w low high = go (ltb (k / slot_lines) C) refl w
      where
        go : (b : Bool) → ltb (k / slot_lines) C ≡ b → (P ≤ k % slot_lines) ⊎ (C ≤ k / slot_lines) → get_or program x 0 ≡ 0
        go true e (inl a) = after_processors (k / slot_lines) x (ltb-true _ _ e) (omega arith) (omega arith)
        go true e (inr a) = let b = ltb-true (k / slot_lines) C e in absurd (omega arith)
        go false e q = let b = ltb-false (k / slot_lines) C e in after_slots x (omega arith) (omega arith)

    test_there : (k : ℕ) → k < 4096 → line_test panel program k ≡ true
    test_there k l = go (used panel program k) refl
      where
        go : (b : Bool) → used panel program k ≡ b
            → (if b then line_ranged (network_in panel program) (module_in panel program) (k % slot_lines) (k / slot_lines) else zeros program (line_stride * k) line_stride) ≡ true
        go true e =
            line_order panel program (k % slot_lines) (k / slot_lines) (slot_start (k / slot_lines) + line_stride * (k % slot_lines)) (omega arith)
            ∙ (let low = within_true P C (k % slot_lines) (k / slot_lines) e in line_there (k % slot_lines) (k / slot_lines) low.0 low.1)
        go false e = zeros_true program (line_stride * k) line_stride (λ x low high. unused_there k x l (within_false P C (k % slot_lines) (k / slot_lines) e) low high)

    order_ranged : program_ranged panel program ≡ true
    unfolding program_ranged
    order_ranged = all_true (line_test panel program) 4096 test_there

  pub program_order : in_order ≡ program_ranged panel program
  program_order = same_test in_order (program_ranged panel program) order_ranged ranged_order
