-- Where no chain is closed, `rank_of` follows the rules of ranks and no other numbering of the signals does. Both go by induction on
-- the walks along rank-order gates (`by_walks`), as the existence and uniqueness of VAL.
use Prim.Native.Nat.{ℕ, zero, suc, ◌≤◌, ◌<◌, max}
use mathlib.Core.Path.{◌≡◌, refl, sym, subst, ◌∙◌, ap, ap₂}
use mathlib.Core.Logic.{◌⊎◌, inl, inr, ⊎_elim}
use native.Mathlib.Omega.{arith}
use native.Mathlib.Decide.{dec_le}
use native.Mathlib.Nat.{eq-or-lt_of_le}
use borrow.Author.Tests.{ne_eqb}
use Rattle.model.specs.Network.{Network, Signal, rank_order}
use Rattle.model.specs.Value.{value_of}
use Rattle.model.specs.Ranks.{highest, Ranks, rank_to, rank_of}
use Rattle.model.proofs.Conditions.{Formed, Acyclic}
use Rattle.model.proofs.Value.{Within, by_walks, within, source_signal}

-- the highest rank depends on the sources' ranks alone
highest_same : (n : Network) (a b : ℕ → ℕ) (s j : ℕ) → ((i : ℕ) → i < j → 1 ≤ n.source s i → a (n.source s i) ≡ b (n.source s i))
    → highest n a s j ≡ highest n b s j
unfolding highest
highest_same n a b s zero h = refl
highest_same n a b s (suc j) h = ap₂ max (highest_same n a b s j (λ i l. h i (omega arith))) (go (n.source s j) refl)
  where
    go : (x : ℕ) → n.source s j ≡ x → value_of a x ≡ value_of b x
    go zero e = refl
    go (suc x) e = subst (λ (y : ℕ). a y ≡ b y) e (h j (omega arith) (omega arith))

-- no source has a higher one
highest_bounds : (n : Network) (rank : ℕ → ℕ) (s j i : ℕ) → i < j → 1 ≤ n.source s i → rank (n.source s i) ≤ highest n rank s j
unfolding highest
highest_bounds n rank s zero i l some = absurd (omega arith)
highest_bounds n rank s (suc j) i l some =
    ⊎_elim
    (λ (same : i ≡ j).
    subst (λ (y : ℕ). 1 ≤ n.source s y → rank (n.source s y) ≤ max (highest n rank s j) (value_of rank (n.source s j))) (sym same)
    (at (n.source s j)) some)
    (λ (low : i < j). omega (arith, highest_bounds n rank s j i low some))
    (eq-or-lt_of_le {n = i} {m = j} (omega arith))
  where
    at : (x : ℕ) → 1 ≤ x → rank x ≤ max (highest n rank s j) (value_of rank x)
    at zero h = absurd (omega arith)
    at (suc x) h = omega arith

-- one of the first j sources, with the highest rank of them
record Attained (n : Network) (rank : ℕ → ℕ) (s j : ℕ) : Type 0 where
  at : ℕ
  small : at < j
  some : 1 ≤ n.source s at
  is : rank (n.source s at) ≡ highest n rank s j

module _ (n : Network) (rank : ℕ → ℕ) (s : ℕ) where
  attained_before : (j : ℕ) → value_of rank (n.source s j) ≤ highest n rank s j → Attained n rank s j → Attained n rank s (suc j)
  unfolding highest
  attained_before j h a = record { at = a.at; small = omega (arith, a.small); some = a.some; is = omega (arith, a.is) }

  attained_last : (j x : ℕ) → n.source s j ≡ suc x → highest n rank s j ≤ rank (suc x) → Attained n rank s (suc j)
  unfolding highest
  attained_last j x e h = record { at = j; small = omega arith; some = omega arith; is = rw e (omega arith) }

  -- where none has it, it is 0
  highest_attained : (j : ℕ) → Attained n rank s j ⊎ (highest n rank s j ≡ 0)
  unfolding highest
  highest_attained zero = inr refl
  highest_attained (suc j) = go (n.source s j) refl (highest_attained j)
    where
      go : (x : ℕ) → n.source s j ≡ x → Attained n rank s j ⊎ (highest n rank s j ≡ 0)
          → Attained n rank s (suc j) ⊎ (highest n rank s (suc j) ≡ 0)
      go zero e (inl a) = inl (attained_before j (rw e (omega arith)) a)
      go zero e (inr none) = inr (rw e (omega arith))
      go (suc x) e before =
          elim (dec_le (highest n rank s j) (rank (suc x))) [
            | yes h ↦ inl (attained_last j x e h)
            | no h ↦
                ⊎_elim
                (λ (a : Attained n rank s j). inl (attained_before j (rw e (omega arith)) a))
                (λ (none : highest n rank s j ≡ 0). absurd (omega arith))
                before
          ]

-- a source of s whose rank is one less
pub record JustBelow (n : Network) (rank : ℕ → ℕ) (s : ℕ) : Type 0 where
  pub index : ℕ
  pub small : index < 4
  pub some : 1 ≤ n.source s index
  pub is : rank s ≡ suc (rank (n.source s index))

module _ (n : Network) where
  rank_other : (d s : ℕ) → (n.kind s ≡ rank_order → ⊥) → rank_to n d s ≡ 0
  unfolding rank_to
  rank_other zero s k = refl
  rank_other (suc d) s k = rw (ne_eqb (n.kind s) rank_order k, rank_to)

  rank_gate : (d s : ℕ) → n.kind s ≡ rank_order → rank_to n (suc d) s ≡ suc (highest n (rank_to n d) s 4)
  unfolding rank_to
  rank_gate d s k = rw (k, rank_to)

  module _ (formed : Formed n) (acyclic : Acyclic n) where
    -- one round more changes nothing
    rank_more : (d s : ℕ) → Signal n s → Within n d s → rank_to n d s ≡ rank_to n (suc d) s
    rank_more =
        by_walks n formed (λ d s. rank_to n d s ≡ rank_to n (suc d) s)
        (λ d s g k. rank_other d s k ∙ sym (rank_other (suc d) s k))
        (λ d s g k sources.
        rank_gate d s k ∙ ap suc (highest_same n (rank_to n d) (rank_to n (suc d)) s 4 sources) ∙ sym (rank_gate (suc d) s k))

    pub rank_follows : Ranks n (rank_of n)
    unfolding rank_of
    rank_follows =
        record {
          inputs = λ s g k. rank_other (suc n.size) s (λ (z : n.kind s ≡ rank_order). omega arith);
          unit_delays = λ s g k. rank_other (suc n.size) s (λ (z : n.kind s ≡ rank_order). omega arith);
          rank_orders = λ s g k.
              rank_gate n.size s k
              ∙ ap suc
              (highest_same n (rank_to n n.size) (rank_to n (suc n.size)) s 4
              (λ i l some.
              let x = n.source s i in rank_more n.size x (source_signal n formed s i g l some) (within n formed acyclic x)));
        }

    -- inputs and unit-delay gates have the same rank in every numbering
    others_agree : (rank rank' : ℕ → ℕ) → Ranks n rank → Ranks n rank' → (s : ℕ) → Signal n s → (n.kind s ≡ rank_order → ⊥)
        → rank s ≡ rank' s
    others_agree rank rank' r r' s g other =
        ⊎_elim
        (λ k. r.inputs s g k ∙ sym (r'.inputs s g k))
        (⊎_elim (λ k. r.unit_delays s g k ∙ sym (r'.unit_delays s g k)) (λ k. absurd (other k)))
        (formed.kinds s g)

    pub ranks_unique : (rank rank' : ℕ → ℕ) → Ranks n rank → Ranks n rank' → (s : ℕ) → Signal n s → rank s ≡ rank' s
    ranks_unique rank rank' r r' s g =
        by_walks n formed (λ d s. rank s ≡ rank' s)
        (λ d. others_agree rank rank' r r')
        (λ d s g k sources. r.rank_orders s g k ∙ ap suc (highest_same n rank rank' s 4 sources) ∙ sym (r'.rank_orders s g k))
        n.size s g (within n formed acyclic s)

  -- "rank(t) < n + 1 for all immediate predecessors t of s"
  pub sources_lower : (rank : ℕ → ℕ) → Ranks n rank → (s j : ℕ) → Signal n s → n.kind s ≡ rank_order → j < 4 → 1 ≤ n.source s j
      → rank (n.source s j) < rank s
  sources_lower rank r s j g k l some = omega (arith, r.rank_orders s g k, highest_bounds n rank s 4 j l some)

  -- "rank(u) = n for some immediate predecessor u of s"
  pub source_just_below : (rank : ℕ → ℕ) → Ranks n rank → (s j : ℕ) → Signal n s → n.kind s ≡ rank_order → j < 4 → 1 ≤ n.source s j
      → JustBelow n rank s
  source_just_below rank r s j g k l some =
      ⊎_elim
      (λ a. record { index = a.at; small = a.small; some = a.some; is = r.rank_orders s g k ∙ ap suc (sym a.is) })
      (λ (none : highest n rank s 4 ≡ 0).
      record { index = j; small = l; some = some; is = omega (arith, r.rank_orders s g k, highest_bounds n rank s 4 j l some) })
      (highest_attained n rank s 4)

  -- and a rank-order gate without a source has rank 1
  pub no_source_1 : (rank : ℕ → ℕ) → Ranks n rank → (s : ℕ) → Signal n s → n.kind s ≡ rank_order
      → ((j : ℕ) → j < 4 → n.source s j ≡ 0) → rank s ≡ 1
  no_source_1 rank r s g k none =
      ⊎_elim
      (λ a. absurd (omega (arith, a.some, none a.at a.small)))
      (λ (e : highest n rank s 4 ≡ 0). r.rank_orders s g k ∙ ap suc e)
      (highest_attained n rank s 4)
