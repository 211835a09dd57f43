-- 11 (01, Refusals) of a signal's line: it has the signal's number, and is an input's or a gate's.
use Rattle.std.specs.Prelude.{ℕ, Bool, List, eqb}
use Rattle.logic.specs.Test.{◌and◌, ◌or◌}
use Rattle.model.specs.Netlist.{net_field, input_layout, gate_layout}

abbrev pub signal_layout : List ℕ → ℕ → Bool
signal_layout net s = eqb (net_field net s 1) s and (input_layout net s or gate_layout net s)
