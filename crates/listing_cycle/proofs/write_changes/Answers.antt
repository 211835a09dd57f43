-- `write_changes` goes through the signals: those before s are written and shown.
use borrow.Author.Rules.{rules}
use mathlib.Core.Path.{refl}
use native.Mathlib.Omega.{arith}
use Rattle.listing_cycle.proofs.Changes.{written_starts, next_more, written_ends}
use Rattle.listing_cycle.proofs.write_changes.Goals as goal

pub loop-s-init : goal.loop-s-init
loop-s-init c = (0, refl, written_starts _ _ _ _ _ (search rules))

pub loop-s-preserved : goal.loop-s-preserved
loop-s-preserved c =
    (c.loop-s.s, refl, next_more c.loop-s.invariant.2 _ _ _ _ c.loop-s.invariant.1 c.loop-s-test.true (omega (arith, c.args.readable.now.signals_high, c.signals-s-end.ensures)) c.value_of-value.ensures.0 c.write_change-at.ensures.value c.write_change-at.ensures.out_after c.write_change-at.ensures.shown_after)

-- with no signal
pub returns-clause-shown_after : goal.returns-clause-shown_after
returns-clause-shown_after c =
    (written_ends c.loop-s.invariant.2 _ c.signals-s-end.ensures (omega (arith, c.loop-s.invariant.1, c.loop-s-test.false))).2

-- after the last signal
pub returns-2 : goal.returns-2
returns-2 c =
    let w = next_more c.loop-s.invariant.2 _ _ _ _ c.loop-s.invariant.1 c.loop-s-test.true (omega (arith, c.args.readable.now.signals_high, c.signals-s-end.ensures)) c.value_of-value.ensures.0 c.write_change-at.ensures.value c.write_change-at.ensures.out_after c.write_change-at.ensures.shown_after in
    let e = written_ends w _ c.signals-s-end.ensures (omega arith) in
    record { value = e.0; out_after = e.1; shown_after = e.2 }
