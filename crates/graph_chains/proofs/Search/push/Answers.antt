-- `push` marks and stacks as `pushed` says; an unmarked node is left to count where it is stacked, so the stack has room.
use Rattle.graph_chains.specs.Search.{state}
use Rattle.graph_chains.proofs.Pushing.{push_new, stack_room}
use Rattle.graph_chains.proofs.Search.push.Goals as goal

pub invariant_of-self : goal.invariant_of-self
invariant_of-self c = record { room = rw (c.from-node.ensures, c.push.ensures) (stack_room (state c.args.self.now.marks c.args.self.now.stack) c.args.x c.requires c.args.self.now.room (rw c.from-node.ensures at c.if-self-node.false)) }

pub returns : goal.returns
returns c = rw (c.from-node.ensures, c.push.ensures) (push_new _ _ c.if-x-eq0.false (rw c.from-node.ensures at c.if-self-node.false))
