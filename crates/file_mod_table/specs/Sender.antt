-- The processor that a line of MOD receives from, or none, and what it sends.
use Rattle.std.specs.Prelude.{ℕ, ◌≡◌, ◌<◌, Option, Some, None, MatchOption}
use Rattle.model.specs.Module.{Module}
use Rattle.instruction.specs.Operand.{location_of}
use Rattle.instruction.specs.Instruction.{send_named}
use Rattle.instruction.specs.Sender.{sender_numbered}
use Rattle.instruction.specs.declared.Operand.{Operand}
use Rattle.file_mod_lines.specs.declared.Place.{Place}
use Rattle.file_mod_lines.specs.declared.Shape.{Shape}
use Rattle.file_mod_table.specs.Line.{Within}

-- that of processor p in slot i
abbrev pub sender_of : Module → ℕ → ℕ → Option ℕ
sender_of m p i = sender_numbered (m.sender p i)

-- the line at `into` receives from the place `from`, of the same slot, whose line sends `send`
pub record Received (m : Module) (shape : Shape) (into from : Place) (send : Operand) : Type 0 where
  pub sender : sender_of m into.processor into.slot.0 ≡ Some from.processor
  pub slot : from.slot.0 ≡ into.slot.0
  pub sends : send ≡ send_named m from.processor into.slot.0
  pub within : Within shape from.processor into.slot.0
  pub location : location_of send < shape.slots

-- these, or the line receives nothing
abbrev pub ReceivedAt : Module → Shape → Place → Option (Place × Operand) → Type 0
ReceivedAt m shape into received =
    MatchOption received (sender_of m into.processor into.slot.0 ≡ None) (λ x. Received m shape into x.0 x.1)
