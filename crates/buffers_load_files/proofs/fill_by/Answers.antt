-- The bytes before byte a are those of the function.
use Prim.Native.Nat.{◌<◌}
use native.Mathlib.Omega.{arith}
use lib.ListN.{length}
use Rattle.logic.proofs.Filling.{fill_more, fill_ends}
use Rattle.buffers_load_files.proofs.fill_by.Goals as goal

pub loop-a-preserved : goal.loop-a-preserved
loop-a-preserved g c f computes =
    let low : c.loop-a.a < length c.args.bytes.now = omega arith in
    fill_more (c.loop-a.invariant f computes) _ low (computes c.loop-a.a _ low c.byte.ensures)

pub returns : goal.returns
returns g c f computes = fill_ends (c.loop-a.invariant f computes) (omega arith)
