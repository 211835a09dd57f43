-- How the code judges what an operand reads, part by part: it mirrors private functions and need not be believed. `operand_right` is what
-- a caller reads.
use Rattle.std.specs.Prelude.{ℕ, Bool, true, false, List, Option, None, eqb}
use Rattle.logic.specs.Test.{◌and◌}
use Rattle.logic.specs.Numbered.{numbered}
use Rattle.std.specs.Prelude.{if◌then◌else◌}
use Rattle.model.specs.Module.{Module, local_earlier, local_present, sent_part, sent_signal, received, reads}
use Rattle.model.specs.ModuleFile.{module_of}
use Rattle.file_mod_lines.specs.declared.Place.{Place}
use Rattle.netlist.specs.declared.kind.Kind.{Kind}
use Rattle.netlist.specs.Kind.{code_of}

-- "look at the send into k": the signal that is sent into switch location k of processor p, where the send is of the given part
unfoldable pub sent_from : Module → ℕ → ℕ → ℕ → Option ℕ
sent_from m p k part = if received m p k and eqb (sent_part m p k) part then numbered (sent_signal m p k) else None

-- the part of a send from the present half, or from the earlier one
abbrev pub half_part : Bool → ℕ
half_part true = local_present
half_part false = local_earlier

-- an operand that names a part and location k reads the source of the gate of that kind at a place
abbrev pub gate_reads : List ℕ → Place → Kind → ℕ → ℕ → ℕ → Bool
gate_reads modfile place kind source part k = reads (module_of modfile) place.processor place.slot.0 part k (code_of kind) source
