-- The invariant: the lines before line k pass the test, which the closure computes at the line's place (`line_answered`).
use mathlib.Core.Path.{refl}
use native.Mathlib.Omega.{arith}
use Rattle.model.specs.Refusal.{first_below}
use Rattle.file_mod.proofs.Testing.{line_answered, each_stops, each_goes_on, each_ends}
use Rattle.file_mod.proofs.check_each.Goals as goal

pub loop-k-init : goal.loop-k-init
unfolding first_below
loop-k-init g c number test computes = refl

pub returns-then-not-right : goal.returns-then-not-right
returns-then-not-right g c number test computes =
    let answered = line_answered c.args.table.now.laid c.loop-k.k (omega arith) c.place_of.result c.place_of.ensures.0 c.place_of.ensures.1 test computes c.right.ensures in
    each_stops number test _ c.args.table.now.laid.sized _ c.loop-k.k c.lines-k-end.ensures.0 (c.loop-k.invariant number test computes) c.loop-k-test.true answered c.if-not-right.true

pub loop-k-preserved : goal.loop-k-preserved
loop-k-preserved g c number test computes =
    let answered = line_answered c.args.table.now.laid c.loop-k.k (omega arith) c.place_of.result c.place_of.ensures.0 c.place_of.ensures.1 test computes c.right.ensures in
    each_goes_on number test _ c.args.table.now.laid.sized _ c.loop-k.k c.lines-k-end.ensures.0 (c.loop-k.invariant number test computes) answered c.if-not-right.false

pub returns : goal.returns
returns g c number test computes =
    each_ends number test _ c.args.table.now.laid.sized _ c.loop-k.k c.lines-k-end.ensures.0 (c.loop-k.invariant number test computes) (omega arith) (omega arith)
