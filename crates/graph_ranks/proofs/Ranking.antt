-- The rank that a node gets is the right one, and where it gets none it has a feeder without one.
use Prim.Native.Nat.{ℕ, zero, suc, ◌+◌, ◌*◌, ◌≤◌, ◌<◌, max}
use mathlib.Core.Path.{◌≡◌, refl, sym, subst, ap, ap₂, ◌∙◌}
use mathlib.Core.Bool.{Bool}
use mathlib.Core.List.{List}
use mathlib.Core.Logic.{◌⊎◌, inl, inr, ⊎_elim}
use native.Mathlib.Omega.{arith}
use native.Mathlib.Nat.{eq-or-lt_of_le}
use native.Mathlib.Numerals.{add-one}
use borrow.Author.Count.{below_more}
use lib.ListN.{length, get_or, set, length-set}
use lib.Seq.{get_or-set_other}
use Rattle.graph_ranks.specs.Graph.{places, Edge, Followed}
use Rattle.graph_ranks.specs.Zeros.{zeros}
use Rattle.graph_ranks.specs.Ranks.{highest_to, highest, RanksRight, RankAbove}
use Rattle.graph_ranks.specs.Passes.{RankedSoFar}
use Rattle.graph_ranks.proofs.Zeros.{zeros_at, zeros_length, zeros_filled}
use Rattle.graph_ranks.proofs.Stores.{read_cases}

-- the first j feeders of y
module _ (edges ranks : List ℕ) (y : ℕ) where
  abbrev entry : ℕ → ℕ
  entry k = get_or edges (4 * y + k) 0

  pub above_start : RankAbove edges ranks y 0 1
  unfolding highest_to
  above_start = record { ranked = λ k h. absurd (omega arith); is = omega arith }

  above_next : (j h v : ℕ) → (1 ≤ entry j → 1 ≤ get_or ranks (entry j) 0) → v ≡ max h (get_or ranks (entry j) 0 + 1)
      → RankAbove edges ranks y j h → RankAbove edges ranks y (j + 1) v
  unfolding highest_to
  above_next j h v here e before =
      let next : highest_to edges ranks y (j + 1) ≡ highest_to edges ranks y (suc j) = ap (highest_to edges ranks y) (add-one j) in
      record {
        ranked = below_more (λ k. 1 ≤ entry k → 1 ≤ get_or ranks (entry k) 0) j before.ranked here;
        is = omega (arith, e, before.is, next);
      }

  -- no feeder stands there
  pub above_none : (j h x : ℕ) → x ≡ entry j → x ≡ 0 → get_or ranks 0 0 ≡ 0 → RankAbove edges ranks y j h → RankAbove edges ranks y (j + 1) h
  above_none j h x is none ground before =
      let zero_there : get_or ranks (entry j) 0 ≡ 0 = ap (λ (w : ℕ). get_or ranks w 0) (sym is ∙ none) ∙ ground in
      above_next j h h (λ l. absurd (omega arith)) (omega (arith, before.is)) before

  -- a feeder that has a rank
  pub above_more : (j h x v : ℕ) → x ≡ entry j → (get_or ranks x 0 ≡ 0 → ⊥) → v ≡ max h (get_or ranks x 0 + 1)
      → RankAbove edges ranks y j h → RankAbove edges ranks y (j + 1) v
  above_more j h x v is ranked e before =
      let same : get_or ranks x 0 ≡ get_or ranks (entry j) 0 = ap (λ (w : ℕ). get_or ranks w 0) is in
      above_next j h v (λ l. omega arith) (omega arith) before

  -- each is at most the highest
  pub highest_above : (j k : ℕ) → k < j → get_or ranks (entry k) 0 ≤ highest_to edges ranks y j
  unfolding highest_to
  highest_above zero k h = absurd (omega arith)
  highest_above (suc j) k h =
      ⊎_elim
      (λ (e : k ≡ j). subst (λ (i : ℕ). get_or ranks (entry i) 0 ≤ max (highest_to edges ranks y j) (get_or ranks (entry j) 0)) (sym e) (omega arith))
      (λ (low : k < j). omega (arith, highest_above j k low))
      (eq-or-lt_of_le {n = k} {m = j} (omega arith))

  -- the highest is low where all ranks are
  highest_low : (n m : ℕ) → m ≤ n → ((x : ℕ) → get_or ranks x 0 + m ≤ n) → (j : ℕ) → highest_to edges ranks y j + m ≤ n
  unfolding highest_to
  highest_low n m l all zero = omega arith
  highest_low n m l all (suc j) = omega (arith, all (entry j), highest_low n m l all j)

  -- a store at a node that is none of them leaves the highest
  highest_kept : (v h : ℕ) → (j : ℕ) → ((k : ℕ) → k < j → entry k ≡ v → ⊥)
      → highest_to edges (set ranks v h) y j ≡ highest_to edges ranks y j
  unfolding highest_to
  highest_kept v h zero none = refl
  highest_kept v h (suc j) none =
      ap₂ max (highest_kept v h j (λ k l. none k (omega arith))) (get_or-set_other ranks v (entry j) h 0 (none j (omega arith)))

-- ranks so far
module _ {follow : List Bool} {edges : List ℕ} {size : ℕ} {ranks : List ℕ} where
  -- nothing stands at 0, which is no node
  pub ground : RanksRight follow edges size ranks → get_or ranks 0 0 ≡ 0
  ground r = r.others 0 (λ (f : Followed follow size 0). omega (arith, f.low))

  pub rank_small : RankedSoFar follow edges size ranks → (y : ℕ) → get_or ranks y 0 < places
  rank_small s y = omega (arith, s.few y, zeros_at ranks 0 (omega (arith, s.long)) (ground s.right))

  -- a node gets its rank
  module _ (s : RankedSoFar follow edges size ranks) (y h : ℕ) (small : size < places) (followed : Followed follow size y)
      (unranked : get_or ranks y 0 ≡ 0) (above : RankAbove edges ranks y 4 h) where
    real : 1 ≤ h
    real = omega (arith, above.is)

    inside : y < length ranks
    inside = omega (arith, s.long, followed.high)

    stays : (x : ℕ) → 1 ≤ get_or ranks x 0 → 1 ≤ get_or (set ranks y h) x 0
    stays x l = read_cases (λ _ v. 1 ≤ v) ranks y h 0 inside real x (λ _. l)

    -- the feeders of a node that has a rank, or of y, have ranks, and y has none
    fed : (z : ℕ) → (z ≡ y) ⊎ (1 ≤ get_or ranks z 0) → (x : ℕ) → Edge edges x z → 1 ≤ get_or ranks x 0
    fed z due x e =
        ⊎_elim
        (λ q.
        let here : get_or edges (4 * y + e.index) 0 ≡ x = subst (λ (w : ℕ). get_or edges (4 * w + e.index) 0 ≡ x) q e.is_entry in
        subst (λ (w : ℕ). 1 ≤ get_or ranks w 0) here (above.ranked e.index e.small (omega (arith, e.real, here))))
        (λ l. s.right.grounded x z l e)
        due

    not_fed : (z : ℕ) → (z ≡ y) ⊎ (1 ≤ get_or ranks z 0) → (k : ℕ) → k < 4 → get_or edges (4 * z + k) 0 ≡ y → ⊥
    not_fed z due k l e =
        omega (arith, fed z due y (record { real = followed.low; index = k; small = l; is_entry = e }))

    ranked_due : (z : ℕ) → 1 ≤ get_or (set ranks y h) z 0 → (z ≡ y) ⊎ (1 ≤ get_or ranks z 0)
    ranked_due z = read_cases (λ w v. 1 ≤ v → (w ≡ y) ⊎ (1 ≤ get_or ranks w 0)) ranks y h 0 inside (λ _. inl refl) z (λ _ l. inr l)

    store_right : RanksRight follow edges size (set ranks y h)
    store_right = record {
      others = λ z out.
          get_or-set_other ranks y z h 0 (λ q. out (subst (Followed follow size) (sym q) followed)) ∙ s.right.others z out;
      grounded = λ x z l e. stays x (fed z (ranked_due z l) x e);
      exact = λ z.
          read_cases (λ w v. 1 ≤ v → v ≡ highest edges (set ranks y h) w + 1) ranks y h 0 inside
          (λ _. omega (arith, above.is, highest_kept edges ranks y y h 4 (not_fed y (inl refl))))
          z
          (λ _ l. omega (arith, s.right.exact z l, highest_kept edges ranks z y h 4 (not_fed z (inr l))));
    }

    pub store_so_far : RankedSoFar follow edges size (set ranks y h)
    store_so_far =
        let fewer = zeros_filled ranks y h inside unranked real in
        record {
          long = length-set ranks y h ∙ s.long;
          right = store_right;
          few = λ z.
              read_cases (λ _ v. v + zeros (set ranks y h) ≤ places) ranks y h 0 inside
              (omega (arith, above.is, highest_low edges ranks y places (zeros ranks) (omega (arith, zeros_length ranks, s.long)) s.few 4))
              z
              (λ _. omega (arith, s.few z));
        }
