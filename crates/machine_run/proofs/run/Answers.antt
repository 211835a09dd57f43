-- The invariant: the memory holds what the cycles done left, and none of them showed a watched value.
use Prim.Native.Nat.{◌+◌}
use mathlib.Core.Path.{◌≡◌, ◌∙◌}
use Rattle.machine_run.specs.Running.{watch_of}
use Rattle.machine_run.proofs.Tables.{none_done, one_more, cycle_bytes, told, still_quiet, stopped_run, whole_run}
use native.Mathlib.Omega.{arith}
use Rattle.machine_run.proofs.run.Goals as goal

pub loop-before-init : goal.loop-before-init
loop-before-init c =
    (c.requires.memory_bytes, none_done c.args.machine.now.in_range _ c.requires.memory_bytes.size, λ i a b. absurd (omega arith))

pub value_of-requires-clause-memory_bytes : goal.value_of-requires-clause-memory_bytes
value_of-requires-clause-memory_bytes c = cycle_bytes c.args.machine.now.in_range c.loop-before.memory c.loop-before.invariant.0 c.run_cycle.ensures

pub returns-then-shows : goal.returns-then-shows
returns-then-shows c =
    let tables = c.args.machine.now.in_range in
    let next = one_more tables _ c.loop-before.before c.loop-before.invariant.1 c.run_cycle.ensures in
    let shown = told tables _ (watch_of c.args.watch) c.requires.watching (c.loop-before.before + 1) next c.value_of.ensures.0 c.shows.ensures in
    stopped_run tables _ (watch_of c.args.watch) _ c.loop-before.before (omega arith) c.loop-before.invariant.2 next (shown ∙ c.if-shows.true)

pub loop-before-preserved : goal.loop-before-preserved
loop-before-preserved c =
    let tables = c.args.machine.now.in_range in
    let next = one_more tables _ c.loop-before.before c.loop-before.invariant.1 c.run_cycle.ensures in
    let shown = told tables _ (watch_of c.args.watch) c.requires.watching (c.loop-before.before + 1) next c.value_of.ensures.0 c.shows.ensures in
    (cycle_bytes tables c.loop-before.memory c.loop-before.invariant.0 c.run_cycle.ensures, next, still_quiet tables _ (watch_of c.args.watch) c.loop-before.before c.loop-before.invariant.2 (shown ∙ c.if-shows.false))

pub returns : goal.returns
returns c =
    let e : c.loop-before.before ≡ c.args.cycles.0 = omega arith in
    whole_run c.args.machine.now.in_range _ (watch_of c.args.watch) _ (λ j a b. c.loop-before.invariant.2 j a (omega arith)) (rw e at c.loop-before.invariant.1)
