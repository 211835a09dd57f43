-- `Tables` has at most one proof, so that a struct may keep the fact beside the bytes that it lends.
use Rattle.std.specs.Prelude.{ℕ, ◌≤◌, ◌<◌, ◌≡◌, ◌⊎◌, List}
use mathlib.Core.Path.{ap}
use mathlib.Core.Logic.{inl, inr}
use native.Mathlib.Omega.{arith}
use native.Mathlib.Nat.{ℕ_set}
use native.Mathlib.Bridge.{le_prop}
use Rattle.std.proofs.Props.{props}
use Rattle.model.specs.Module.{no_part, no_sender, local_present}
use Rattle.buffers_tables.specs.Panel.{processors_in}
use Rattle.buffers_tables.specs.Tables.{Tables, network_in, module_in}

-- of two facts that exclude each other, at most one holds
exclusive : {A B : Type 0} → IsProp A → IsProp B → (A → B → ⊥) → IsProp (A ⊎ B)
exclusive once_a once_b apart (inl x) (inl y) = ap inl (once_a x y)
exclusive once_a once_b apart (inl x) (inr y) = absurd (apart x y)
exclusive once_a once_b apart (inr x) (inl y) = absurd (apart y x)
exclusive once_a once_b apart (inr x) (inr y) = ap inr (once_b x y)

pub tables_single : (panel program : List ℕ) → IsProp (Tables panel program)
unfolding network_in module_in
tables_single panel program x y =
    let few : processors_in panel ≤ 16 = x.processors_high in
    let part : (n : ℕ) → IsProp ((n ≤ 3) ⊎ (n ≡ no_part)) = λ n. exclusive le_prop (ℕ_set n no_part) (λ low e. omega arith) in
    let send : (n : ℕ) → IsProp ((n ≤ local_present) ⊎ (n ≡ no_part)) = λ n. exclusive le_prop (ℕ_set n no_part) (λ low e. omega arith) in
    let sender : (n : ℕ) → IsProp ((n < processors_in panel) ⊎ (n ≡ no_sender)) = λ n. exclusive le_prop (ℕ_set n no_sender) (λ low e. omega arith) in
    let single : IsProp (Tables panel program) = Prim.hlevel (props, part, send, sender) in
    single x y
