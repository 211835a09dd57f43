-- The parts are few, so that their count fits; a write that fails is told and not counted.
use native.Mathlib.Omega.{arith}
use Rattle.listing_print.proofs.Printing.{parts_few}
use Rattle.listing_print.proofs.Printed.put.Goals as goal

pub overflow_add-self : goal.overflow_add-self
overflow_add-self g c = omega (arith, parts_few _ _ c.requires.parts_bound)
