-- What `translate` and `apply` promise, put together, is `gate`.
use Rattle.gates.specs.Gate.{gate}
use Rattle.gates.proofs.Gate.value.Goals as goal

pub returns : goal.returns
unfolding gate
returns c = cc
