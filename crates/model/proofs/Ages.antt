-- What a location holds when a slot reads it is as old as `Carries` says, 0 to 3 cycles, for the four parts, at every slot of every
-- cycle, whether an operand may read it or not (01, Traps). The idea: the slots of a cycle leave the earlier halves alone and store
-- present location k in slot k alone, and the halves alternate; so a present location not yet stored holds what was stored two cycles
-- before. Before time 0 stands time 0, save in the present local half, which holds 0 until cycle 1 stores it.
use Prim.Native.Nat.{ℕ, ◌<◌, ◌≤◌}
use mathlib.Core.Path.{◌≡◌}
use mathlib.Core.List.{List, [], ◌∷◌}
use native.Mathlib.Omega.{arith}
use lib.ListN.{length, drop}
use Rattle.model.specs.Network.{Network}
use Rattle.model.specs.Value.{value_of, start, VAL}
use Rattle.model.specs.Module.{Module, At, local_earlier, local_present, switch_earlier, switch_present, no_sender, sent_part, sent_signal, earlier, Carries, local_not_yet, switch_earlier_lem, switch_not_yet}
use Rattle.model.specs.Machine.{Memory, fetch, operand, slots, opening, after}
use Rattle.model.proofs.Conditions.{Formed, Acyclic, Scheduled}
use Rattle.model.proofs.Operands.{wanted, IsGate}
use Rattle.model.proofs.Machine.{sent_some, slots_unstored, young_stored, carries_past, operand_past}
use Rattle.model.proofs.Keeping.{Kept, VAL_step, kept_after}

-- the memory that slot i reads in the cycle with the inputs' values row, after the cycles of rows
abbrev pub memory_at : Network → Module → (ℕ → ℕ) → List (ℕ → ℕ) → (ℕ → ℕ) → ℕ → Memory
memory_at n m given rows row i = slots n m row i (after n m (opening m (start n given)) rows)

-- in cycle 1 a present local location not yet stored holds 0, in every module
pub unstored_first : (n : Network) (m : Module) (given row : ℕ → ℕ) (p i k : ℕ) → i ≤ k
    → fetch (memory_at n m given [] row i) p local_present k ≡ 0
unfolding fetch after opening
unstored_first n m given row p i k above = (slots_unstored n m row (opening m (start n given)) p k i above).0

module _ {n : Network} {m : Module} (formed : Formed n) (acyclic : Acyclic n) (ok : Scheduled n m) (given : ℕ → ℕ) where
  -- in every memory that keeps step with the rows
  pub kept_carries : {w : Memory} {rows : List (ℕ → ℕ)} → Kept formed acyclic ok given w rows → (row : ℕ → ℕ) {p i x k s age : ℕ}
      → Carries m p i x k s age → At m p k → 1 ≤ s → (x ≡ local_present → i ≤ k → 1 ≤ length rows)
      → fetch (slots n m row i w) p x k ≡ VAL n given (drop age (row ∷ rows)) s
  kept_carries {rows} kept row =
      carries_past ok formed (λ age. VAL n given (drop age (row ∷ rows))) (VAL_step formed acyclic ok given row rows) kept.holds

  module _ (rows : List (ℕ → ℕ)) (row : ℕ → ℕ) where
    module _ {p i x k s age : ℕ} (c : Carries m p i x k s age) (a : At m p k) (some : 1 ≤ s) where
      -- The theorem: a location that carries s holds VAL of s, age cycles before this one
      pub carries_VAL : (x ≡ local_present → i ≤ k → 1 ≤ length rows)
          → fetch (memory_at n m given rows row i) p x k ≡ VAL n given (drop age (row ∷ rows)) s
      carries_VAL = kept_carries (kept_after formed acyclic ok given rows) row c a some

      -- Its condition holds for all that is at most one cycle old, as a right operand is; for all from cycle 2 on; and for the switch.
      pub young_VAL : age ≤ 1 → fetch (memory_at n m given rows row i) p x k ≡ VAL n given (drop age (row ∷ rows)) s
      young_VAL young = carries_VAL (λ e above. absurd (young_stored c young e above))

      pub later_VAL : 1 ≤ length rows → fetch (memory_at n m given rows row i) p x k ≡ VAL n given (drop age (row ∷ rows)) s
      later_VAL ran = carries_VAL (λ e above. ran)

      pub switch_VAL : switch_earlier ≤ x → fetch (memory_at n m given rows row i) p x k ≡ VAL n given (drop age (row ∷ rows)) s
      switch_VAL switch = carries_VAL (λ e above. absurd (omega arith))

    -- What an operand of a gate fetches inside the cycle: VAL of its source, of this cycle for a rank-order gate, of the one before it for
    -- a unit-delay gate
    pub operand_fetched : {p i : ℕ} → At m p i → 1 ≤ m.signal p i → IsGate (n.kind (m.signal p i)) → (j : ℕ) → j < 4
        → operand m (memory_at n m given rows row i) p i j
        ≡ value_of (VAL n given (drop (wanted (n.kind (m.signal p i))) (row ∷ rows))) (n.source (m.signal p i) j)
    operand_fetched =
        operand_past ok formed (λ age. VAL n given (drop age (row ∷ rows))) (VAL_step formed acyclic ok given row rows)
        (kept_after formed acyclic ok given rows).holds

    -- 01's traps: "reading the present half at a slot not yet stored (two cycles old)", from cycle 2 on
    pub present_unstored_two_old : (p i k : ℕ) → At m p k → 1 ≤ m.signal p k → i ≤ k → 1 ≤ length rows
        → fetch (memory_at n m given rows row i) p local_present k ≡ VAL n given (drop 2 (row ∷ rows)) (m.signal p k)
    present_unstored_two_old p i k a some above ran = later_VAL (local_not_yet above) a some ran

    module _ (p i k : ℕ) (a : At m p k) (received : m.sender p k ≡ no_sender → ⊥) (is : sent_part m p k ≡ local_earlier) where
      -- "a part 0 send read from part 2 (also two old)"
      pub earlier_part_0_send_two_old : fetch (memory_at n m given rows row i) p switch_earlier k
          ≡ VAL n given (drop 2 (row ∷ rows)) (sent_signal m p k)
      earlier_part_0_send_two_old =
          switch_VAL (switch_earlier_lem (earlier received is)) a (sent_some ok a received) (omega arith)

      -- and both at once, three cycles old
      pub unstored_part_0_send_three_old : i ≤ k
          → fetch (memory_at n m given rows row i) p switch_present k ≡ VAL n given (drop 3 (row ∷ rows)) (sent_signal m p k)
      unstored_part_0_send_three_old above =
          switch_VAL (switch_not_yet above (earlier received is)) a (sent_some ok a received) (omega arith)
