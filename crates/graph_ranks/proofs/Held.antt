-- What an array holds, as a stack.
use Prim.Native.Nat.{ℕ, zero, suc, ◌+◌, ◌<◌, ◌≤◌}
use mathlib.Core.Path.{◌≡◌, refl, ap, ap₂, ◌∙◌}
use mathlib.Core.List.{List, ◌∷◌}
use native.Mathlib.Omega.{arith}
use native.Mathlib.Numerals.{add-one}
use lib.ListN.{length, set}
use lib.Seq.{get_or-set_same, get_or-set_other}
use Rattle.graph_ranks.specs.Held.{held}

pub length_held : (items : List ℕ) (n : ℕ) → length (held items n) ≡ n
length_held items zero = refl
length_held items (suc n) = ap suc (length_held items n)

-- a store above the stack
held_below : (items : List ℕ) (d x n : ℕ) → n ≤ d → held (set items d x) n ≡ held items n
held_below items d x zero h = refl
held_below items d x (suc n) h =
    ap₂ ◌∷◌ (get_or-set_other items d n x 0 (λ (e : n ≡ d). omega arith)) (held_below items d x n (omega arith))

pub held_pushed : (items : List ℕ) (d x : ℕ) (s : List ℕ) → d < length items → held items d ≡ s → held (set items d x) (d + 1) ≡ x ∷ s
held_pushed items d x s h e =
    ap (held (set items d x)) (add-one d)
    ∙ ap₂ ◌∷◌ (get_or-set_same items d x 0 h) (held_below items d x d (omega arith) ∙ e)
