-- One swap of the local halves and one of the switch halves make the alternated memory at the location (`exchanged`).
use Rattle.buffers_memory.proofs.Halves.{exchanged}
use native.Mathlib.Omega.{arith}
use Rattle.buffers_memory.proofs.exchange.Goals as goal

pub returns : goal.returns
returns c =
    exchanged c.args.processor c.args.location c.requires.0 c.requires.1 _ _ _ (omega arith) _ _ _ _ (omega arith) (omega arith) (omega arith) (omega arith)
    c.swap.ensures.by_index c.swap-2.ensures.by_index
