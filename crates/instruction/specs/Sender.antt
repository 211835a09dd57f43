-- The processor that a line receives from, "below P", or none (01, Files); `sender_layout` says it of a module.
use Rattle.std.specs.Prelude.{ℕ, Bool, Option, Some, None, eqb, ltb}
use Rattle.std.specs.Prelude.{if◌then◌else◌}
use Rattle.logic.specs.Test.{◌or◌}
use Rattle.model.specs.Module.{no_sender}

unfoldable pub sender_laid : ℕ → ℕ → Bool
sender_laid processors sender = ltb sender processors or eqb sender no_sender

-- the processor by its number, or none
abbrev pub sender_numbered : ℕ → Option ℕ
sender_numbered sender = if eqb sender no_sender then None else Some sender
