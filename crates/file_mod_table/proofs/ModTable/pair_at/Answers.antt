-- The location fits in a byte (`pair_small`).
use native.Mathlib.Omega.{arith}
use Rattle.file_mod_table.proofs.Slots.{line_within, pair_small}
use Rattle.file_mod_table.proofs.ModTable.pair_at.Goals as goal

pub overflow_cast-location : goal.overflow_cast-location
overflow_cast-location c =
    omega (arith, c.column_at-location.ensures, pair_small _ _ _ _ (line_within c.args.self.now.laid c.requires.within) c.args.pair (omega arith))
