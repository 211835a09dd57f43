-- The invariant: the values of c cycles are stored.
use mathlib.Core.Path.{refl, ◌∙◌, ap}
use native.Mathlib.Omega.{arith}
use lib.ListN.{set}
use lib.Seq.{sets}
use Rattle.charts.proofs.Writing.{bytes_joined, stored_starts, stored_more, stored_ends}
use Rattle.charts.proofs.write_glyphs.Goals as goal

pub loop-c-init : goal.loop-c-init
loop-c-init c = stored_starts _ _ _ _

pub loop-c-preserved : goal.loop-c-preserved
loop-c-preserved c =
    stored_more c.loop-c.invariant 1 (λ _. refl) c.loop-c-test.true (omega arith) (ap (set c.loop-c.page _) c.glyph.ensures)

pub returns : goal.returns
returns c = stored_ends c.loop-c.invariant c.loop-c-test.false ∙ ap (sets _ _) (bytes_joined _ _)
