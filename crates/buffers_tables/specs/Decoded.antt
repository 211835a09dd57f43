-- A line of the program, decoded: the contract of the function that decodes it is stated with this.
use Rattle.std.specs.Prelude.{ℕ, List}
use Rattle.instruction.specs.Operand.{operand_of}
use Rattle.instruction.specs.Sender.{sender_numbered}
use Rattle.instruction.specs.declared.Instruction.{Instruction}
use Rattle.buffers_tables.specs.Program.{signal_at, part_at, location_at, send_part_at, send_location_at, sender_at}

-- the line as an instruction
abbrev pub instruction_in : List ℕ → ℕ → ℕ → Instruction
instruction_in program p i =
    record {
      signal = signal_at program p i;
      a1 = operand_of (part_at program p i 0) (location_at program p i 0);
      a2 = operand_of (part_at program p i 1) (location_at program p i 1);
      a3 = operand_of (part_at program p i 2) (location_at program p i 2);
      a4 = operand_of (part_at program p i 3) (location_at program p i 3);
      send = operand_of (send_part_at program p i) (send_location_at program p i);
      sender = sender_numbered (sender_at program p i);
    }
