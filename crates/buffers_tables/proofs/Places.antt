-- The places of the tables: a byte of the panel has one signal and one column, a byte of the program one line and one column.
use Prim.Native.Nat.{ℕ, ◌+◌, ◌<◌, ◌≤◌}
use mathlib.Core.Path.{◌≡◌, ap}
use mathlib.Core.List.{List}
use native.Mathlib.Omega.{arith}
use lib.ListN.{get_or}
use Rattle.buffers_tables.specs.Panel.{panel_length, panel_stride, kind_column, signal_start, signal_byte, column_in, signal_of, column_of, kind_in}
use Rattle.buffers_tables.specs.Program.{program_length, line_stride, slot_lines, line_in, line_processor, line_slot, line_column}

-- the panel
pub byte_is : (a : ℕ) → signal_byte (signal_of a) (column_of a) ≡ a
byte_is a = omega arith

pub column_low : (a : ℕ) → column_of a < panel_stride
column_low a = omega arith

pub signal_high : (a : ℕ) → a < panel_length → signal_of a ≤ 4096
signal_high a l = omega arith

module _ (s column : ℕ) (low : column < panel_stride) where
  pub at_signal : signal_of (signal_byte s column) ≡ s
  at_signal = omega arith

  pub at_column : column_of (signal_byte s column) ≡ column
  at_column = omega arith

  pub byte_low : s ≤ 4096 → signal_byte s column < panel_length
  byte_low high = omega arith

  pub byte_same : (r other : ℕ) → other < panel_stride → signal_byte s column ≡ signal_byte r other → (s ≡ r) × (column ≡ other)
  byte_same r other h e = (omega arith, omega arith)

-- the kind is in the first column
pub kind_column_lem : (panel : List ℕ) (s : ℕ) → kind_in panel s ≡ column_in panel s kind_column
kind_column_lem panel s = let q : signal_start s ≡ signal_byte s kind_column = omega arith in ap (λ (x : ℕ). get_or panel x 0) q

-- the program
module _ (p i column : ℕ) (few : p < slot_lines) (low : column < line_stride) where
  pub at_line_processor : line_processor (line_in p i + column) ≡ p
  at_line_processor = omega arith

  pub at_line_slot : line_slot (line_in p i + column) ≡ i
  at_line_slot = omega arith

  pub at_line_column : line_column (line_in p i + column) ≡ column
  at_line_column = omega arith

  pub line_low : i < 256 → line_in p i + column < program_length
  line_low short = omega arith
