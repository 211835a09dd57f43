-- Two fields, the spaces and the line end, each where the one before it ends.
use Rattle.charts.proofs.Writing.{head_stored}
use Rattle.charts.proofs.write_head.Goals as goal

pub returns : goal.returns
returns c = head_stored _ _ _ _ _ _ c.write_field.ensures c.write_field-2.ensures c.write_spaces.ensures
