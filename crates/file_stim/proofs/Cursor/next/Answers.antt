-- The cursor can go on: fewer lines than the limit are before it.
use native.Mathlib.Omega.{arith}
use Rattle.file_stim.proofs.Steps.{cursor_few}
use Rattle.file_stim.proofs.Cursor.next.Goals as goal

pub overflow_add-self : goal.overflow_add-self
overflow_add-self c = omega (arith, cursor_few c.args.self.now)
