-- Rust's order of the pairs of time and signal is that of the definition.
use Prim.Native.Nat.{ℕ}
use mathlib.Core.Path.{◌≡◌, refl}
use mathlib.Core.Bool.{Bool, true, false}
use lib.Dec.{eqb, ltb}
use Rattle.std.specs.Prelude.{Some, cond}
use Rattle.std.proofs.Common.{Less, Equal, Greater}
use Rattle.std.specs.Ordering.{nat_cmp, is_lt, is_some_and, partial_lt, partial_ordering_then}
use Rattle.logic.specs.Test.{◌and◌, ◌or◌}

pub pairs_rise : (a b c d : ℕ)
    → partial_lt (λ (x y : ℕ × ℕ). partial_ordering_then (Some (nat_cmp x.0 y.0)) (Some (nat_cmp x.1 y.1))) (a, b) (c, d)
    ≡ ltb a c or (eqb a c and ltb b d)
unfolding ◌and◌ ◌or◌
pairs_rise a b c d = go (ltb a c) (eqb a c) (ltb b d) (eqb b d)
  where
    go : (below same low equal : Bool)
        → is_some_and is_lt (partial_ordering_then (Some (cond below Less (cond same Equal Greater))) (Some (cond low Less (cond equal Equal Greater))))
        ≡ below or (same and low)
    go true same low equal = refl
    go false true true equal = refl
    go false true false true = refl
    go false true false false = refl
    go false false low equal = refl
