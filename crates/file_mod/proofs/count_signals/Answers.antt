-- The invariant: the array has, at every signal, how often the lines before line k have it.
use mathlib.Core.Path.{◌≡◌, ◌∙◌}
use native.Mathlib.Omega.{arith}
use lib.ListN.{length-set}
use Rattle.logic.specs.Test.{total}
use Rattle.file_mod.proofs.Counts.{counted_few, counted_all, count_more}
use Rattle.file_mod.proofs.count_signals.Goals as goal

pub loop-k-init : goal.loop-k-init
unfolding total
loop-k-init c = (c.told-counts, c.requires)

pub overflow_add-counts : goal.overflow_add-counts
overflow_add-counts c =
    let few = counted_few c.args.table.now.modfile.now c.loop-k.k c.signal_of.result in
    omega (arith, c.loop-k.invariant.1 c.signal_of.result c.signal_of.ensures.1, few, c.lines-k-end.ensures.1)

pub loop-k-preserved : goal.loop-k-preserved
loop-k-preserved c = (
  simp length-set c.loop-k.invariant.0,
  count_more c.loop-k.counts _ _ _ c.loop-k.invariant.0 c.signal_of.ensures.1 c.signal_of.ensures.0 c.loop-k.invariant.1,
)

pub returns : goal.returns
returns c =
    let all : c.loop-k.k ≡ c.lines-k-end.result = omega arith in
    λ s' low. c.loop-k.invariant.1 s' low ∙ (rw all (counted_all _ _ _ _ s' c.args.table.now.laid.sized c.lines-k-end.ensures.0))
