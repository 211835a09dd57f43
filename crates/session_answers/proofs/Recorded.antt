-- Laws of 42 for a recorded value.
use Prim.Native.Nat.{ℕ, ◌≤◌, ◌<◌}
use mathlib.Core.Path.{◌≡◌, ap}
use mathlib.Core.List.{List}
use lib.ListN.{length, get_or}
use borrow.Author.Tests.{le-leb, lt-leb, leb-true}
use Rattle.model.specs.Refusal.{pass, fail, unless, first_below}
use Rattle.model.proofs.Refusals.{unless_true, below_same}
use Rattle.session_answers.specs.Recorded.{recorded_check, recorded_checks}

module _ (value : ℕ) where
  pub recorded_above : 3 < value → recorded_check value ≡ fail 42 value
  unfolding recorded_check unless
  recorded_above h = rw (lt-leb value 3 h)

  pub recorded_pass : value ≤ 3 → recorded_check value ≡ pass
  unfolding recorded_check unless
  recorded_pass h = rw (le-leb value 3 h)

  pub recorded_legal : recorded_check value ≡ pass → value ≤ 3
  unfolding recorded_check
  recorded_legal e = leb-true value 3 (unless_true _ 42 value e)

-- values that are those of a record, n of them
pub recorded_same : (values : List ℕ) (n : ℕ) (record_at : ℕ → ℕ) → length values ≡ n → ((c : ℕ) → c < n → get_or values c 0 ≡ record_at c)
    → recorded_checks values ≡ first_below n (λ c. recorded_check (record_at c))
unfolding recorded_checks
recorded_same values n record_at long same =
    rw long (below_same n _ _ (λ c low. ap recorded_check (same c low)))
