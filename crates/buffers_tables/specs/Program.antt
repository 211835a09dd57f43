-- The bytes of the program (docs/PANEL.md): 13 for each slot i and processor p, a line of MOD from its third field on, a byte for each
-- number and two for the signal. The lines of a slot stand together, since all processors execute it at once.
use Rattle.std.specs.Prelude.{ℕ, ◌+◌, ◌*◌, ◌/◌, ◌%◌, List, [], ◌∷◌, get_or}
use Rattle.model.specs.Module.{Module}
use Rattle.words.specs.Word.{word}

abbrev pub program_length : ℕ
program_length = 53248

-- the bytes of a line, the lines of a slot, and the bytes of these
abbrev pub line_stride : ℕ
line_stride = 13

abbrev pub slot_lines : ℕ
slot_lines = 16

abbrev pub slot_stride : ℕ
slot_stride = line_stride * slot_lines

-- where the numbers of a line stand in it: the signal, the pairs of the operands and of the send, and the sender
abbrev pub signal_column : ℕ
signal_column = 0

abbrev pub operands_column : ℕ
operands_column = 2

abbrev pub pair_stride : ℕ
pair_stride = 2

abbrev pub operand_column : ℕ → ℕ
operand_column j = operands_column + pair_stride * j

abbrev pub send_column : ℕ
send_column = 10

abbrev pub sender_column : ℕ
sender_column = 12

-- where the lines of slot i begin, and where the line of processor p and slot i does
abbrev pub slot_start : ℕ → ℕ
slot_start i = slot_stride * i

abbrev pub line_in : ℕ → ℕ → ℕ
line_in p i = line_stride * (slot_lines * i + p)

-- the processor and the slot of the line that a byte stands in, and its place there
abbrev pub line_processor : ℕ → ℕ
line_processor a = a / line_stride % slot_lines

abbrev pub line_slot : ℕ → ℕ
line_slot a = a / line_stride / slot_lines

abbrev pub line_column : ℕ → ℕ
line_column a = a % line_stride

-- the numbers of the line of processor p and slot i
abbrev pub signal_at : List ℕ → ℕ → ℕ → ℕ
signal_at program p i = word program (line_in p i)

abbrev pub part_at : List ℕ → ℕ → ℕ → ℕ → ℕ
part_at program p i j = get_or program (line_in p i + operands_column + pair_stride * j) 0

abbrev pub location_at : List ℕ → ℕ → ℕ → ℕ → ℕ
location_at program p i j = get_or program (line_in p i + (operands_column + 1) + pair_stride * j) 0

abbrev pub send_part_at : List ℕ → ℕ → ℕ → ℕ
send_part_at program p i = get_or program (line_in p i + send_column) 0

abbrev pub send_location_at : List ℕ → ℕ → ℕ → ℕ
send_location_at program p i = get_or program (line_in p i + (send_column + 1)) 0

abbrev pub sender_at : List ℕ → ℕ → ℕ → ℕ
sender_at program p i = get_or program (line_in p i + sender_column) 0

-- the bytes of a line in their order: its signal, the pairs of its operands and of its send, the processor received from
abbrev pub line_bytes : Module → ℕ → ℕ → List ℕ
line_bytes m p i =
    m.signal p i % 256 ∷ m.signal p i / 256
    ∷ m.part p i 0 ∷ m.location p i 0
    ∷ m.part p i 1 ∷ m.location p i 1
    ∷ m.part p i 2 ∷ m.location p i 2
    ∷ m.part p i 3 ∷ m.location p i 3
    ∷ m.send_part p i ∷ m.send_location p i
    ∷ m.sender p i
    ∷ []
