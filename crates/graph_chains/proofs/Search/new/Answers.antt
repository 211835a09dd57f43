-- `new` has no mark and an empty stack.
use mathlib.Core.Path.{sym, subst, ap}
use mathlib.Core.Bool.{false}
use mathlib.Core.List.{List}
use Prim.Native.Nat.{ℕ}
use lib.ListN.{replicate}
use Rattle.graph_ranks.specs.Graph.{places}
use Rattle.graph_chains.specs.Search.{Room, state}
use Rattle.graph_chains.proofs.Searching.{blank_room}
use Rattle.graph_chains.proofs.Search.new.Goals as goal

pub invariant_of-result : goal.invariant_of-result
invariant_of-result c = record { room = subst (λ (s : List ℕ). Room (state (replicate places false) s)) (sym c.new.ensures) blank_room }

pub returns : goal.returns
returns c = ap (state (replicate places false)) c.new.ensures
