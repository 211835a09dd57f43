-- The test over the 28 numbers computes to true, and `translation_table` carries it to each entry.
use mathlib.Core.Path.{refl}
use Rattle.logic.specs.Test.{◌and◌}
use Rattle.gates.specs.Translation.{is_constant, invert, without_z, translation}
use Rattle.gates.proofs.Ruled.{ruled, translation_table}
use Rattle.gates.proofs.translations.Goals as goal

pub returns : goal.returns
unfolding ruled ◌and◌ translation is_constant invert without_z
returns c = translation_table _ refl refl
