-- A table line as an instruction (01, One cycle of the machine: "A location named by a table line has a part and a number").
use Rattle.std.specs.Prelude.{ℕ}
use Rattle.model.specs.Module.{Module}
use Rattle.instruction.specs.Operand.{operand_of}
use Rattle.instruction.specs.declared.Operand.{Operand}

-- operand j of slot i of processor p
abbrev pub operand_named : Module → ℕ → ℕ → ℕ → Operand
operand_named m p i j = operand_of (m.part p i j) (m.location p i j)

-- what slot i of processor p sends
abbrev pub send_named : Module → ℕ → ℕ → Operand
send_named m p i = operand_of (m.send_part p i) (m.send_location p i)
