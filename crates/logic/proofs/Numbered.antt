-- What is known of a number that is read as an Option.
use Prim.Native.Nat.{ℕ, ◌≤◌}
use mathlib.Core.Path.{◌≡◌, refl}
use mathlib.Core.Bool.{Bool, true, false}
use native.Mathlib.Omega.{arith}
use lib.Dec.{eqb}
use borrow.Author.Tests.{eqb-true, eqb-false}
use Rattle.std.specs.Prelude.{Option, Some, None}
use Rattle.std.specs.Prelude.{if◌then◌else◌}
use Rattle.logic.specs.Numbered.{numbered}

pub record Is (n x : ℕ) : Type 0 where
  pub same : n ≡ x
  pub some : 1 ≤ x

module _ (n : ℕ) where
  abbrev by_test : Bool → Option ℕ
  by_test b = if b then None else Some n

  pub numbered_some : (x : ℕ) → numbered n ≡ Some x → Is n x
  numbered_some x e = go (eqb n 0) refl e
    where
      go : (b : Bool) → eqb n 0 ≡ b → by_test b ≡ Some x → Is n x
      go true f q = absurd (let z : ◌≡◌ {A = ℕ} 0 1 = cc in omega arith)
      go false f q = let same : n ≡ x = cc in record { same = same; some = omega (arith, eqb-false n 0 f) }

  pub numbered_none : numbered n ≡ None → n ≡ 0
  numbered_none e = go (eqb n 0) refl e
    where
      go : (b : Bool) → eqb n 0 ≡ b → by_test b ≡ None → n ≡ 0
      go true f q = eqb-true n 0 f
      go false f q = absurd (let z : ◌≡◌ {A = ℕ} 0 1 = cc in omega arith)
