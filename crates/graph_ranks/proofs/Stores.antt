-- What is read after a store, from a list of one value, and how a store changes a count.
use Prim.Native.Nat.{ℕ, zero, suc, ◌+◌, ◌<◌}
use mathlib.Core.Path.{◌≡◌, refl, sym, subst}
use mathlib.Core.Bool.{Bool, true, false}
use mathlib.Core.List.{List}
use native.Mathlib.Omega.{arith}
use native.Mathlib.Decide.{ℕ_discrete}
use lib.ListN.{length, get_or, set, replicate}
use lib.Seq.{get_or-set_same, get_or-set_other}
use Rattle.logic.specs.Test.{count}
use Rattle.logic.proofs.Counts.{count_set}

-- the new element at the place of the store, the old one elsewhere
pub read_cases : {A : Type 0} (P : ℕ → A → Type 0) (l : List A) (i : ℕ) (v d : A) → i < length l → P i v
    → (j : ℕ) → ((j ≡ i → ⊥) → P j (get_or l j d)) → P j (get_or (set l i v) j d)
read_cases P l i v d h new j old =
    elim (ℕ_discrete j i) [
      | yes e ↦ subst (λ (k : ℕ). P k (get_or (set l i v) k d)) (sym e) (subst (P i) (sym (get_or-set_same l i v d h)) new)
      | no e ↦ subst (P j) (sym (get_or-set_other l i j v d e)) (old e)
    ]

pub all_same : {A : Type 0} (a : A) (n i : ℕ) → get_or (replicate n a) i a ≡ a
all_same a zero i = refl
all_same a (suc n) zero = refl
all_same a (suc n) (suc i) = all_same a n i

-- an element that passes gives way to one that does not
pub count_filled : {A : Type 0} (p : A → Bool) (l : List A) (i : ℕ) (v d : A) → i < length l → p (get_or l i d) ≡ true → p v ≡ false
    → count p (set l i v) + 1 ≡ count p l
count_filled p l i v d h old new =
    let law = count_set p l i v d h in
    omega (arith, rw (old, new) at law)
