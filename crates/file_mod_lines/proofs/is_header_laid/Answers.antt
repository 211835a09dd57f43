-- The sizes, then the zeros.
use Rattle.std.proofs.Common.{arith}
use Rattle.std.proofs.lemmas.Grind.{common_steps}
use Rattle.logic.proofs.Judged.{and_when_true, and_when_false}
use Rattle.file_mod_lines.proofs.is_header_laid.Goals as goal

pub returns-then-contains-2 : goal.returns-then-contains-2
returns-then-contains-2 c = grind (arith, common_steps, and_when_true, and_when_false)

pub returns-else-contains-2 : goal.returns-else-contains-2
returns-else-contains-2 c = grind (arith, common_steps, and_when_true, and_when_false)
