-- A list filled from its start: the first k elements are what they should be.
use Prim.Native.Nat.{ℕ, ◌+◌, ◌<◌, ◌≤◌}
use mathlib.Core.Path.{◌≡◌, ◌∙◌}
use mathlib.Core.List.{List}
use native.Mathlib.Omega.{arith}
use native.Mathlib.Decide.{ℕ_discrete}
use lib.ListN.{length, get_or, set, length-set}
use lib.Seq.{get_or-set_same, get_or-set_other}
use Rattle.logic.specs.Listed.{listed}
use Rattle.logic.proofs.Listed.{is_listed}

pub record Filled (f : ℕ → ℕ) (n k : ℕ) (l : List ℕ) : Type 0 where
  pub size : length l ≡ n
  pub low : k ≤ n
  pub bytes : (i : ℕ) → i < k → get_or l i 0 ≡ f i

pub fill_starts : (f : ℕ → ℕ) (n : ℕ) (l : List ℕ) → length l ≡ n → Filled f n 0 l
fill_starts f n l e = record { size = e; low = omega arith; bytes = λ i h. absurd (omega arith) }

module _ {f : ℕ → ℕ} {n k : ℕ} {l : List ℕ} (filled : Filled f n k l) where
  pub fill_more : (v : ℕ) → k < n → v ≡ f k → Filled f n (k + 1) (set l k v)
  fill_more v h e =
      record { size = length-set l k v ∙ filled.size; low = omega arith; bytes = λ i b. at i b (ℕ_discrete i k) }
    where
      at : (i : ℕ) → i < k + 1 → Dec (i ≡ k) → get_or (set l k v) i 0 ≡ f i
      at i b (yes q) = rw q (get_or-set_same l k v 0 (omega (arith, filled.size)) ∙ e)
      at i b (no d) = get_or-set_other l k i v 0 d ∙ filled.bytes i (omega arith)

  pub fill_ends : n ≤ k → l ≡ listed n f
  fill_ends h = is_listed l n f filled.size (λ i b. filled.bytes i (omega arith))
