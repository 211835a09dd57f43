-- A store keeps the length, so all six lie within the slice; together they are the field's text (`field_stored`).
use native.Mathlib.Omega.{arith}
use Rattle.writing.proofs.Writing.{field_stored}
use Rattle.writing.proofs.write_field.Goals as goal

pub returns : goal.returns
returns c = field_stored _ _ _ _ _ _ _ _ (omega arith) (cc) (cc) (cc) (cc) (cc)
