-- A MOD has at most 85 × 4097 = 348,245 bytes, and one byte more is surplus: what follows that one changes no answer.
use Prim.Native.Nat.{ℕ, ◌+◌, ◌*◌, ◌/◌, ◌%◌, ◌<◌, ◌≤◌}
use mathlib.Core.Path.{◌≡◌, refl, ap, ◌∙◌}
use mathlib.Core.List.{List}
use native.Mathlib.Omega.{arith}
use native.Mathlib.Nat.{mul-le-mul}
use lib.Dec.{eqb}
use lib.ListN.{take}
use Rattle.logic.proofs.Tests.{all_same}
use Rattle.fields.specs.Line.{is_line_at}
use Rattle.model.specs.Refusal.{Check, pass, first}
use Rattle.model.specs.Network.{Network}
use Rattle.model.specs.ModuleFile.{mod_line, mod_field, mod_processors, mod_slots, mod_index, module_of, location_layout, operand_layout, send_layout, sender_layout, line_layout, mod_header, mod_slot, each_line, mod_surplus, placed, sending, receiving, operands, mod_check}
use Rattle.file_mod_lines.proofs.Lines.{line_index}
use Rattle.file_mod_lines.proofs.Accepted.{header_sized}
use Rattle.laws_prefix.proofs.Cut.{line_kept, field_kept, cut_kept}

module _ (m : ℕ) (enough : 348245 < m) (l : List ℕ) where
  abbrev taken : List ℕ
  taken = take m l

  module _ (index : ℕ) (h : index ≤ 4096) where
    line_same : is_line_at taken (mod_line index) 14 ≡ is_line_at l (mod_line index) 14
    line_same = line_kept 14 4097 m l enough index (omega arith)

    field_same : (column : ℕ) → column < 14 → mod_field taken index column ≡ mod_field l index column
    field_same = field_kept 14 4097 m l enough index (omega arith)

  processors_same : mod_processors taken ≡ mod_processors l
  processors_same = field_same 0 (omega arith) 0 (omega arith)

  slots_same : mod_slots taken ≡ mod_slots l
  slots_same = field_same 0 (omega arith) 1 (omega arith)

  header_same : mod_header taken ≡ mod_header l
  unfolding mod_header
  header_same =
      rw (
        line_same 0 (omega arith),
        processors_same,
        slots_same,
        all_same (λ k. eqb (mod_field taken 0 (2 + k)) 0) (λ k. eqb (mod_field l 0 (2 + k)) 0) 12
            (λ k h. ap (λ (x : ℕ). eqb x 0) (field_same 0 (omega arith) (2 + k) (omega arith))),
      )

  -- the line of a processor and a slot
  module _ (p i : ℕ) (h : mod_index l p i ≤ 4096) where
    index_same : mod_index taken p i ≡ mod_index l p i
    index_same = ap (λ (c : ℕ). 1 + p * c + i) slots_same

    column_same : (column : ℕ) → column < 14 → mod_field taken (mod_index taken p i) column ≡ mod_field l (mod_index l p i) column
    column_same column low = ap (λ (x : ℕ). mod_field taken x column) index_same ∙ field_same (mod_index l p i) h column low

    operand_same : (j : ℕ) → j < 4 → operand_layout (module_of taken) p i j ≡ operand_layout (module_of l) p i j
    unfolding operand_layout location_layout module_of
    operand_same j low = rw (column_same (3 + 2 * j) (omega arith), column_same (4 + 2 * j) (omega arith), slots_same)

    send_same : send_layout (module_of taken) p i ≡ send_layout (module_of l) p i
    unfolding send_layout location_layout module_of
    send_same = rw (column_same 11 (omega arith), column_same 12 (omega arith), slots_same)

    sender_same : sender_layout (module_of taken) p i ≡ sender_layout (module_of l) p i
    unfolding sender_layout module_of
    sender_same = rw (column_same 13 (omega arith), processors_same)

    signal_same : (module_of taken).signal p i ≡ (module_of l).signal p i
    unfolding module_of
    signal_same = column_same 2 (omega arith)

    layout_same : (n : Network) → line_layout n taken p i ≡ line_layout n l p i
    unfolding line_layout
    layout_same n =
        rw (
          column_same 0 (omega arith),
          column_same 1 (omega arith),
          signal_same,
          all_same (operand_layout (module_of taken) p i) (operand_layout (module_of l) p i) 4 operand_same,
          send_same,
          sender_same,
        )

    slot_same : (n : Network) → mod_slot n taken p i ≡ mod_slot n l p i
    unfolding mod_slot
    slot_same n = rw (layout_same n, index_same, line_same (mod_index l p i) h)

  module _ (right : mod_header l ≡ pass) where
    few_lines : mod_processors l * mod_slots l ≤ 4096
    few_lines =
        let s = header_sized l (mod_processors l) (mod_slots l) right refl refl in
        omega (arith, mul-le-mul s.processors_high s.slots_high)

    nth_same : (n : Network) (k : ℕ) → k < mod_processors l * mod_slots l
        → mod_slot n taken (k / mod_slots taken) (k % mod_slots taken) ≡ mod_slot n l (k / mod_slots l) (k % mod_slots l)
    nth_same n k low =
        ap (λ (c : ℕ). mod_slot n taken (k / c) (k % c)) slots_same
        ∙ slot_same (k / mod_slots l) (k % mod_slots l) (omega (arith, line_index l k, few_lines)) n

  check_same : (n : Network) → mod_check n taken ≡ mod_check n l
  unfolding mod_check each_line mod_surplus
  check_same n =
      cut_kept 85 4096 20 mod_header (λ file. mod_processors file * mod_slots file)
      (λ file k. mod_slot n file (k / mod_slots file) (k % mod_slots file)) after m enough l header_same
      (rw (processors_same, slots_same)) few_lines (λ e k low. nth_same e n k low)
    where
      after : List ℕ → Check
      after file = first (placed n (module_of file)) (first (sending file) (first (receiving file) (operands n file)))

pub mod_prefix : (n : Network) (modfile : List ℕ) → mod_check n (take 348246 modfile) ≡ mod_check n modfile
mod_prefix n modfile = check_same 348246 (omega arith) modfile n
