-- The procedures of the Yorktown paper give VAL. The rank-order procedure: a signal keeps its value from the round of its rank on
-- (`kept_from_rank`), and the sources of a gate have lower ranks, so that the gate is evaluated on the values its sources end with.
use Prim.Native.Nat.{ℕ, zero, suc, ◌≤◌, ◌<◌}
use mathlib.Core.Path.{◌≡◌, refl, sym, subst, ◌∙◌, ap}
use mathlib.Core.List.{List, [], ◌∷◌}
use mathlib.Core.Logic.{⊎_elim}
use native.Mathlib.Omega.{arith}
use native.Mathlib.Nat.{eq-or-lt_of_le}
use borrow.Author.Tests.{eq-eqb, ne_eqb}
use Rattle.model.specs.Network.{Network, Signal, rank_order}
use Rattle.model.specs.Value.{evaluate, Step, next, VAL, history, FollowsAlways}
use Rattle.model.specs.Ranks.{rank_of}
use Rattle.model.specs.Procedures.{unit_delay_round, depth_to, depth, evaluate_rank, ranks_to, rank_order_procedure, specified, combined, simulated}
use Rattle.model.proofs.Conditions.{Formed, Acyclic, Same}
use Rattle.model.proofs.Value.{evaluate_same, source_signal, next_step, step_unique}
use Rattle.model.proofs.Ranks.{rank_follows, sources_lower}

module _ (n : Network) where
  depth_to_bounds : (k s : ℕ) → 1 ≤ s → s ≤ k → rank_of n s ≤ depth_to n k
  unfolding depth_to
  depth_to_bounds zero s low high = absurd (omega arith)
  depth_to_bounds (suc k) s low high =
      ⊎_elim
      (λ (same : s ≡ suc k). subst (λ (x : ℕ). rank_of n x ≤ depth_to n (suc k)) (sym same) (omega arith))
      (λ (less : s < suc k). omega (arith, depth_to_bounds k s low (omega arith)))
      (eq-or-lt_of_le {n = s} {m = suc k} high)

  -- no signal has a rank above the depth
  pub depth_bounds : (s : ℕ) → Signal n s → rank_of n s ≤ depth n
  unfolding depth
  depth_bounds s g = depth_to_bounds n.size s g.low g.high

  module _ (v : ℕ → ℕ) where
    -- the round of its rank evaluates a gate, and no other round does
    at_rank : (r s : ℕ) → rank_of n s ≡ suc r → ranks_to n v (suc r) s ≡ evaluate n (ranks_to n v r) s
    unfolding ranks_to evaluate_rank
    at_rank r s e = rw (eq-eqb (rank_of n s) (suc r) e)

    off_rank : (r s : ℕ) → (rank_of n s ≡ suc r → ⊥) → ranks_to n v (suc r) s ≡ ranks_to n v r s
    unfolding ranks_to evaluate_rank
    off_rank r s other = rw (ne_eqb (rank_of n s) (suc r) other)

    kept_from_rank : (d s : ℕ) → rank_of n s ≤ d → ranks_to n v d s ≡ ranks_to n v (rank_of n s) s
    kept_from_rank zero s h = ap (λ (r : ℕ). ranks_to n v r s) (omega arith)
    kept_from_rank (suc d) s h =
        ⊎_elim
        (λ (same : rank_of n s ≡ suc d). ap (λ (r : ℕ). ranks_to n v r s) (sym same))
        (λ (less : rank_of n s < suc d).
        off_rank d s (λ (e : rank_of n s ≡ suc d). omega arith) ∙ kept_from_rank d s (omega arith))
        (eq-or-lt_of_le {n = rank_of n s} {m = suc d} h)

    -- what has rank 0 is left as it is given
    rank_0_kept : (s : ℕ) → Signal n s → rank_of n s ≡ 0 → rank_order_procedure n v s ≡ v s
    unfolding rank_order_procedure ranks_to
    rank_0_kept s g e = kept_from_rank (depth n) s (depth_bounds s g) ∙ ap (λ (r : ℕ). ranks_to n v r s) e

    -- a source has its last value before the round of the gate that it feeds
    early : (r s : ℕ) → Signal n s → rank_of n s ≤ r → ranks_to n v r s ≡ rank_order_procedure n v s
    unfolding rank_order_procedure
    early r s g h = kept_from_rank r s h ∙ sym (kept_from_rank (depth n) s (depth_bounds s g))

    module _ (formed : Formed n) (acyclic : Acyclic n) where
      evaluated : (r s : ℕ) → Signal n s → n.kind s ≡ rank_order → rank_of n s ≡ suc r
          → rank_order_procedure n v s ≡ evaluate n (rank_order_procedure n v) s
      evaluated r s g k e =
          sym (early (suc r) s g (omega arith))
          ∙ at_rank r s e
          ∙ evaluate_same n (ranks_to n v r) (rank_order_procedure n v) s
          (λ j l some.
          early r (n.source s j) (source_signal n formed s j g l some)
          (omega (arith, sources_lower n (rank_of n) (rank_follows n formed acyclic) s j g k l some)))

      -- after the rank-order procedure every rank-order gate has the value of its function on its sources
      pub rank_order_settles : (s : ℕ) → Signal n s → n.kind s ≡ rank_order
          → rank_order_procedure n v s ≡ evaluate n (rank_order_procedure n v) s
      rank_order_settles s g k = evaluated _ s g k ((rank_follows n formed acyclic).rank_orders s g k)

  module _ (formed : Formed n) (acyclic : Acyclic n) where
    -- a cycle by the procedures follows the rules of VAL
    pub combined_step : (row before : ℕ → ℕ) → Step n row before (combined n row before)
    unfolding combined unit_delay_round specified
    combined_step row before =
        let ranks = rank_follows n formed acyclic in
        let v = unit_delay_round n before (specified n row before) in
        record {
          input_rule = λ s g k. rank_0_kept v s g (ranks.inputs s g k) ∙ rw k;
          unit_rule = λ s g k. rank_0_kept v s g (ranks.unit_delays s g k) ∙ rw k;
          rank_rule = rank_order_settles v formed acyclic;
        }

    pub combined_next : (row before : ℕ → ℕ) → Same n (combined n row before) (next n row before)
    combined_next row before =
        step_unique n formed acyclic row before before (combined n row before) (next n row before)
        (λ s g. refl) (combined_step row before) (next_step n formed acyclic row before)

    -- the procedures simulate VAL, whatever the inputs are
    pub simulated_VAL : (given : ℕ → ℕ) (rows : List (ℕ → ℕ)) → Same n (simulated n given rows) (VAL n given rows)
    unfolding simulated VAL
    simulated_VAL given [] s g = refl
    simulated_VAL given (row ∷ rows) s g =
        step_unique n formed acyclic row (simulated n given rows) (VAL n given rows)
        (combined n row (simulated n given rows)) (next n row (VAL n given rows))
        (simulated_VAL given rows) (combined_step row (simulated n given rows)) (next_step n formed acyclic row (VAL n given rows)) s g

    -- and what they give follows the rules of VAL
    pub simulated_follows : (given : ℕ → ℕ) → FollowsAlways n given (simulated n given)
    unfolding simulated history
    simulated_follows given row =
        record {
          at_start = λ s g. refl;
          at_step = λ t. combined_step (row (suc t)) (simulated n given (history row t));
        }
