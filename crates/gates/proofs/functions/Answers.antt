-- The test over the 1,280 numbers computes to true, and `function_table` carries it to each entry.
use mathlib.Core.Path.{refl}
use Rattle.logic.specs.Test.{◌and◌, ◌or◌, some, every, count}
use Rattle.gates.specs.Value.{known, unknown}
use Rattle.gates.specs.Function.{conjunction, parity, selection, majority, function}
use Rattle.gates.proofs.Ruled.{ruled, function_table}
use Rattle.gates.proofs.functions.Goals as goal

pub returns : goal.returns
unfolding ruled ◌and◌ ◌or◌ some every count known unknown conjunction parity selection majority function
returns c = function_table _ refl refl
