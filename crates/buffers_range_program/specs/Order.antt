-- The order in which the code judges the program, run by run: it mirrors private functions, and `program_ranged` is what a caller reads.
use Rattle.std.specs.Prelude.{ℕ, ◌+◌, ◌-◌, ◌*◌, Bool, List, eqb, leb, ltb, get_or}
use Rattle.logic.specs.Test.{◌and◌, all}
use Rattle.std.specs.Prelude.{if◌then◌else◌}
use Rattle.words.specs.Word.{word}
use Rattle.model.specs.Module.{local_present, switch_present, no_part}
use Rattle.instruction.specs.Sender.{sender_laid}
use Rattle.buffers_tables.specs.Program.{line_stride, slot_lines, slot_stride, operand_column, send_column, sender_column, slot_start}
use Rattle.buffers_runs.specs.Zeros.{zeros}

-- a pair: a part that is most at most, with a location below C, or none
unfoldable pub pair_ranged : ℕ → ℕ → ℕ → ℕ → Bool
pair_ranged slots most part k = ltb k slots and (if eqb part no_part then eqb k 0 else leb part most)

-- the pair at a place
abbrev pub pair_at : List ℕ → ℕ → ℕ → ℕ → Bool
pair_at program at most slots = pair_ranged slots most (get_or program at 0) (get_or program (at + 1) 0)

-- the four operands of the line at a place
unfoldable pub operands_at : List ℕ → ℕ → ℕ → Bool
operands_at program at slots =
    pair_at program (at + operand_column 0) switch_present slots
    and pair_at program (at + operand_column 1) switch_present slots
    and pair_at program (at + operand_column 2) switch_present slots
    and pair_at program (at + operand_column 3) switch_present slots

-- the line at a place, N, P and C being given
unfoldable pub line_at : List ℕ → ℕ → ℕ → ℕ → ℕ → Bool
line_at program at signals processors slots =
    leb (word program at) signals
    and operands_at program at slots
    and pair_at program (at + send_column) local_present slots
    and sender_laid processors (get_or program (at + sender_column) 0)

-- the 16 lines of slot i: those of P processors, and zeros
unfoldable pub slot_at : List ℕ → ℕ → ℕ → ℕ → ℕ → Bool
slot_at program i signals processors slots =
    all processors (λ p. line_at program (slot_start i + line_stride * p) signals processors slots)
    and zeros program (slot_start i + line_stride * processors) (line_stride * (slot_lines - processors))

-- the 256 slots: C of them, and zeros
unfoldable pub slots_at : List ℕ → ℕ → ℕ → ℕ → Bool
slots_at program signals processors slots =
    all slots (λ i. slot_at program i signals processors slots)
    and zeros program (slot_start slots) (slot_stride * (256 - slots))
