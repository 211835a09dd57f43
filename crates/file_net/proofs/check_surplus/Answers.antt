-- N + 1 lines of 73 bytes are all that NET may have.
use Rattle.std.proofs.Common.{refl}
use Rattle.model.specs.Netlist.{net_surplus}
use Rattle.file_lines.proofs.Lines.{surplus_some, surplus_none}
use Rattle.file_net.proofs.check_surplus.Goals as goal

pub returns-then-from-net : goal.returns-then-from-net
unfolding net_surplus
returns-then-from-net c = surplus_some c.args.net.now 73 _ 10 _ c.requires.0 (rw c.from.ensures at c.if-from-net.true) refl

pub returns : goal.returns
unfolding net_surplus
returns c = surplus_none c.args.net.now 73 _ 10 _ c.requires.0 (rw c.from.ensures at c.if-from-net.false) refl
