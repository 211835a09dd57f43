-- The two procedures (000, Unit-delay simulation, Rank-order simulation), as functions of the values by signal, and a cycle of
-- this unit by them.
use Rattle.std.specs.Prelude.{ℕ, zero, suc, max, List, [], ◌∷◌, eqb}
use Rattle.std.specs.Prelude.{if◌then◌else◌}
use Rattle.model.specs.Network.{Network, input, unit_delay}
use Rattle.model.specs.Value.{evaluate, start}
use Rattle.model.specs.Ranks.{rank_of}

-- One round of the unit delay simulation procedure: "for all s in S do .. VAL(s,t) = F(VAL(SRC(s,1),t-1),...,VAL(SRC(s,ids),t-1))".
-- S is the unit-delay gates; before is VAL at t-1, and v is VAL at t as far as it is given.
unfoldable pub unit_delay_round : Network → (ℕ → ℕ) → (ℕ → ℕ) → ℕ → ℕ
unit_delay_round n before v s = if eqb (n.kind s) unit_delay then evaluate n before s else v s

-- "The depth of an acyclic logical network is the maximum value of rank(s)": of the signals 1 to s
unfoldable pub depth_to : Network → ℕ → ℕ
depth_to n zero = 0
depth_to n (suc s) = max (depth_to n s) (rank_of n (suc s))

unfoldable pub depth : Network → ℕ
depth n = depth_to n n.size

-- "for all s in S such that rank(s) = r do .. VAL(s) = F(VAL(SRC(s,1)),...,VAL(SRC(s,ids)))". No gate of rank r is a source of
-- another (`sources_lower`), so that it does not matter which goes first.
unfoldable pub evaluate_rank : Network → ℕ → (ℕ → ℕ) → ℕ → ℕ
evaluate_rank n r v s = if eqb (rank_of n s) r then evaluate n v s else v s

-- "for r = 1 to" the rank given
unfoldable pub ranks_to : Network → (ℕ → ℕ) → ℕ → ℕ → ℕ
ranks_to n v zero s = v s
ranks_to n v (suc r) s = evaluate_rank n (suc r) (ranks_to n v r) s

-- The rank-order simulation procedure: "for r = 1 to depth(LN) do". It "extends VAL to a total function using just one evaluation for
-- each logical function".
unfoldable pub rank_order_procedure : Network → (ℕ → ℕ) → ℕ → ℕ
rank_order_procedure n v s = ranks_to n v (depth n) s

-- the external inputs have the values that are specified for them
unfoldable pub specified : Network → (ℕ → ℕ) → (ℕ → ℕ) → ℕ → ℕ
specified n row v s = if eqb (n.kind s) input then row s else v s

-- A cycle: the inputs take the values row, the unit-delay gates follow from the values before, and what both show is propagated
-- through the rank-order gates. "The above two procedures can be combined in a practical simulation program".
unfoldable pub combined : Network → (ℕ → ℕ) → (ℕ → ℕ) → ℕ → ℕ
combined n row before s = rank_order_procedure n (unit_delay_round n before (specified n row before)) s

-- "for t = 1 to T do": the values after the cycles with these inputs' values, the last first
unfoldable pub simulated : Network → (ℕ → ℕ) → List (ℕ → ℕ) → ℕ → ℕ
simulated n given [] s = start n given s
simulated n given (row ∷ rows) s = combined n row (simulated n given rows) s
