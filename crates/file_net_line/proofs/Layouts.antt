-- The tests of a line of NET, decided by its kind.
use Prim.Native.Nat.{ℕ, ◌+◌}
use mathlib.Core.Path.{◌≡◌, refl}
use mathlib.Core.Bool.{Bool, true, false}
use mathlib.Core.List.{List}
use native.Mathlib.Omega.{arith}
use borrow.Author.Tests.{ne_eqb}
use Rattle.std.specs.Prelude.{Result, Ok, Err}
use Rattle.logic.specs.Test.{◌and◌, ◌or◌, all}
use Rattle.logic.proofs.Judged.{or_no}
use Rattle.gates.specs.Translation.{is_translation}
use Rattle.gates.specs.Function.{is_function}
use Rattle.model.specs.Netlist.{net_field, ten_zeros, input_layout, gate_layout, source_right, sources_right}
use Rattle.netlist.specs.declared.kind.Kind.{Kind}
use Rattle.netlist.specs.declared.kind.Kind.TheVariants.{Input, UnitDelay, RankOrder}
use Rattle.netlist.specs.declared.kind.UnknownKind.{UnknownKind}
use Rattle.netlist.specs.Kind.{code_of, Decodes}

-- a number that is not read as an input's is another
not_input : (number : ℕ) (r : Result Kind UnknownKind) → Decodes number r → (r ≡ Ok Input → ⊥) → number ≡ 1 → ⊥
not_input number (Ok Input) is d e = d refl
not_input number (Ok UnitDelay) is d e = omega arith
not_input number (Ok RankOrder) is d e = omega arith
not_input number (Err unknown) is d e = is.1 e

module _ (net : List ℕ) (s : ℕ) where
  abbrev laid : Bool
  laid = input_layout net s or gate_layout net s

  abbrev codes : Bool
  codes = is_function (net_field net s 2) and all 5 (λ k. is_translation (net_field net s (3 + k)))

  module _ {kind : Kind} (is : code_of kind ≡ net_field net s 0) where
    pub laid_input : kind ≡ Input → laid ≡ ten_zeros net s
    unfolding input_layout gate_layout ◌and◌ ◌or◌
    laid_input e = rw (← is, e) (or_no (ten_zeros net s))

    pub laid_unit : kind ≡ UnitDelay → laid ≡ codes
    unfolding input_layout gate_layout ◌and◌ ◌or◌
    laid_unit e = rw (← is, e)

    pub laid_rank : kind ≡ RankOrder → laid ≡ codes
    unfolding input_layout gate_layout ◌and◌ ◌or◌
    laid_rank e = rw (← is, e)

  pub laid_none : (net_field net s 0 ≡ 1 → ⊥) → (net_field net s 0 ≡ 2 → ⊥) → (net_field net s 0 ≡ 3 → ⊥) → laid ≡ false
  unfolding input_layout gate_layout ◌and◌ ◌or◌
  laid_none d1 d2 d3 = rw (ne_eqb _ 1 d1, ne_eqb _ 2 d2, ne_eqb _ 3 d3)

  module _ (number : ℕ) (is : number ≡ net_field net s 0) {r : Result Kind UnknownKind} (decoded : Decodes number r) where
    pub sources_input : r ≡ Ok Input → sources_right net s ≡ true
    unfolding sources_right ◌or◌
    sources_input e = let d : Decodes number (Ok Input) = rw e at decoded in rw (← is, ← d)

    pub sources_gate : (r ≡ Ok Input → ⊥) → sources_right net s ≡ all 4 (source_right net s)
    unfolding sources_right ◌or◌
    sources_gate d = rw (← is, ne_eqb number 1 (not_input number r decoded d))
