-- Laws of `listed`: a list is what its elements are, and a store changes one of them.
use Prim.Native.Nat.{ℕ, zero, suc, ◌<◌}
use mathlib.Core.Path.{◌≡◌, refl, ◌∙◌, ap}
use mathlib.Core.List.{List, [], ◌∷◌, ◌++◌}
use native.Mathlib.Omega.{arith}
use lib.ListN.{length, get_or, replicate}
use Rattle.std.proofs.lemmas.List.{get_or-replicate, length-replicate}
use Rattle.logic.specs.Listed.{listed}

pub listed_length : (n : ℕ) (f : ℕ → ℕ) → length (listed n f) ≡ n
unfolding listed
listed_length zero f = refl
listed_length (suc n) f = ap suc (listed_length n (λ k. f (suc k)))

pub listed_at : (n : ℕ) (f : ℕ → ℕ) (i : ℕ) → i < n → get_or (listed n f) i 0 ≡ f i
unfolding listed
listed_at zero f i l = absurd (omega arith)
listed_at (suc n) f zero l = refl
listed_at (suc n) f (suc i) l = listed_at n (λ k. f (suc k)) i (omega arith)

-- one element more
pub listed_more : (n : ℕ) (f : ℕ → ℕ) → listed n f ++ f n ∷ [] ≡ listed (suc n) f
unfolding listed
listed_more zero f = refl
listed_more (suc n) f = ap (λ (r : List ℕ). f 0 ∷ r) (listed_more n (λ k. f (suc k)))

-- a list is its elements
pub is_listed : (l : List ℕ) (n : ℕ) (f : ℕ → ℕ) → length l ≡ n → ((i : ℕ) → i < n → get_or l i 0 ≡ f i) → l ≡ listed n f
unfolding listed
is_listed [] zero f e h = refl
is_listed [] (suc n) f e h = absurd (omega arith)
is_listed (x ∷ l) zero f e h = absurd (omega arith)
is_listed (x ∷ l) (suc n) f e h =
    let rest : l ≡ listed n (λ k. f (suc k)) = is_listed l n (λ k. f (suc k)) (omega arith) (λ i b. h (suc i) (omega arith)) in
    let head : x ≡ f 0 = h 0 (omega arith) in
    ap (λ (y : ℕ). y ∷ l) head ∙ ap (λ (r : List ℕ). f 0 ∷ r) rest

-- one value throughout, as the library's `fill` leaves it
pub filled : (n v : ℕ) → replicate n v ≡ listed n (λ k. v)
filled n v = is_listed (replicate n v) n (λ k. v) (length-replicate n v) (λ i low. get_or-replicate n i v 0 low)

-- elements that agree below n
pub listed_same : (n : ℕ) (f g : ℕ → ℕ) → ((i : ℕ) → i < n → f i ≡ g i) → listed n f ≡ listed n g
listed_same n f g same = is_listed (listed n f) n g (listed_length n f) (λ i low. listed_at n f i low ∙ same i low)
