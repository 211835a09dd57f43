-- The feeders of a node, one after the other, from the last entry to the first.
use Prim.Native.Nat.{ℕ, zero, suc, ◌+◌, ◌-◌, ◌*◌, ◌≤◌, ◌<◌}
use mathlib.Core.Path.{◌≡◌, refl, sym, subst, ◌∙◌}
use mathlib.Core.List.{List, map}
use native.Mathlib.Omega.{arith}
use lib.ListN.{get_or}
use Rattle.std.specs.Prelude.{Option, Some, None, MatchOption}
use Rattle.std.specs.List.{range_with_len, AllWithin, HoldsAt}
use Rattle.graph_ranks.specs.Ranks.{OpenFeeder, LastOpen}

module _ (edges ranks : List ℕ) (y : ℕ) where
  abbrev pub entry : ℕ → ℕ
  entry j = get_or edges (4 * y + (3 - j)) 0

  abbrev pub four : List ℕ
  four = map entry (range_with_len 0 4)

  entry_at : (k d : ℕ) → k < 4 → get_or four k d ≡ entry k
  entry_at zero d l = refl
  entry_at (suc zero) d l = refl
  entry_at (suc (suc zero)) d l = refl
  entry_at (suc (suc (suc zero))) d l = refl
  entry_at (suc (suc (suc (suc k)))) d l = absurd (omega arith)

  -- x is a feeder without a rank, x is none
  abbrev pub IsOpen : ℕ → Type 0
  IsOpen x = (1 ≤ x) × (get_or ranks x 0 ≡ 0)

  abbrev pub IsShut : ℕ → Type 0
  IsShut x = IsOpen x → ⊥

  -- entry j of the node stands at place 3 - j of the list
  shut_at : (n j : ℕ) → AllWithin IsShut four 0 n → 3 - j < n → j < 4 → IsShut (get_or edges (4 * y + j) 0)
  shut_at n j shut l m = subst (λ i. IsShut (get_or edges (4 * y + i) 0)) {x = 3 - (3 - j)} {y = j} (omega arith)
      (subst IsShut (entry_at (3 - j) 0 (omega arith)) (shut (3 - j) 0 (omega arith) l))

  ranked : (r : ℕ) → (r ≡ 0 → ⊥) → 1 ≤ r
  ranked zero shut = absurd (shut refl)
  ranked (suc r) shut = omega arith

  -- the first of them, from the last entry on, that has no rank
  pub first_open : (r : Option ℕ)
      → MatchOption r (AllWithin IsShut four 0 4) (λ x. IsOpen x × (i : ℕ) × (i < 4) × HoldsAt (λ v. v ≡ x) four i × AllWithin IsShut four 0 i)
      → MatchOption r (OpenFeeder edges ranks y → ⊥) (LastOpen edges ranks y)
  first_open None shut = λ bare.
      let e = bare.edge in
      subst IsShut e.is_entry (shut_at 4 e.index shut (omega arith) e.small) (e.real, bare.unranked)
  first_open (Some x) found = record {
    is_open = record {
      edge = record { real = found.0.0; index = 3 - found.1; small = omega arith; is_entry = sym (entry_at found.1 0 found.2) ∙ found.3 0 };
      unranked = found.0.1;
    };
    later = λ k l m real. ranked _ (λ none. shut_at found.1 k found.4 (omega (arith, found.2)) m (real, none));
  }
