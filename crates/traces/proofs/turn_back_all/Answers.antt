-- Each value is made at its own cycle.
use Rattle.std.proofs.Common.{rules}
use Rattle.traces.proofs.Turning.{made_listed}
use Rattle.traces.specs.Turned.{turned_back}
use Rattle.traces.proofs.turn_back_all.Goals as goal

pub returns : goal.returns
unfolding turned_back
returns c = made_listed _ _ (λ x y q k. search rules) _ _ c.from_fn.ensures.items
