-- Whether a module of P processors and C slots has a location k of processor p, by the numbers.
use Prim.Native.Nat.{ℕ, ◌<◌, ◌≤◌}
use mathlib.Core.Path.{◌≡◌, refl}
use mathlib.Core.Bool.{Bool, true, false, false≢true}
use mathlib.Core.Logic.{◌⊎◌, inl, inr}
use lib.Dec.{ltb}
use borrow.Author.Tests.{ltb-true, ltb-false, lt-ltb, le-ltb}
use Rattle.logic.specs.Test.{◌and◌}
use Rattle.logic.proofs.Judged.{and_false}
use Rattle.buffers_memory.specs.Memory.{within}

-- p is one of the processors, and k one of the locations
pub within_true : (processors slots p k : ℕ) → within processors slots p k ≡ true → (p < processors) × (k < slots)
unfolding within ◌and◌
within_true processors slots p k t = go (ltb p processors) refl t
  where
    go : (b : Bool) → ltb p processors ≡ b → (b and ltb k slots) ≡ true → (p < processors) × (k < slots)
    go true e r = (ltb-true p processors e, ltb-true k slots r)
    go false e r = absurd (false≢true r)

pub is_within : (processors slots p k : ℕ) → p < processors → k < slots → within processors slots p k ≡ true
unfolding within ◌and◌
is_within processors slots p k l h = rw (lt-ltb p processors l) (lt-ltb k slots h)

-- p is none of them, or k is none
pub no_processor : (processors slots p k : ℕ) → processors ≤ p → within processors slots p k ≡ false
unfolding within ◌and◌
no_processor processors slots p k l = rw (le-ltb p processors l)

pub no_location : (processors slots p k : ℕ) → slots ≤ k → within processors slots p k ≡ false
unfolding within
no_location processors slots p k h = rw (le-ltb k slots h) (and_false (ltb p processors))

pub within_false : (processors slots p k : ℕ) → within processors slots p k ≡ false → (processors ≤ p) ⊎ (slots ≤ k)
unfolding within ◌and◌
within_false processors slots p k = go (ltb p processors) refl
  where
    go : (b : Bool) → ltb p processors ≡ b → (b and ltb k slots) ≡ false → (processors ≤ p) ⊎ (slots ≤ k)
    go false e h = inl (ltb-false p processors e)
    go true e h = inr (ltb-false k slots h)
