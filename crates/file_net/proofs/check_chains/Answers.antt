-- A signal found is 13's.
use Rattle.std.proofs.Common.{refl, sym}
use Rattle.file_lines.proofs.Stages.{refused, accepted}
use Rattle.file_net.proofs.check_chains.Goals as goal

pub returns-in-Some : goal.returns-in-Some
returns-in-Some c = refused refl (sym c.in-Some.ensures)

pub returns-in-None : goal.returns-in-None
returns-in-None c = accepted refl (sym c.in-None.ensures)
