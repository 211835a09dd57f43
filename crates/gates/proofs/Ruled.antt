-- A table follows a rule throughout: one test that the checker computes over the whole table, and one law that carries it to each entry.
use Prim.Native.Nat.{ℕ, zero, suc, ◌+◌, ◌/◌, ◌%◌, ◌<◌}
use mathlib.Core.Path.{◌≡◌, subst, sym, ◌∙◌}
use mathlib.Core.Bool.{Bool, true}
use mathlib.Core.List.{List, [], ◌∷◌}
use native.Mathlib.Omega.{arith}
use native.Mathlib.Nat.{add-zero, zero-add, add-suc, suc-add, le_of_suc-le-suc, not-suc-le-zero}
use lib.Dec.{eqb}
use lib.ListN.{length, get_or}
use borrow.Author.Tests.{eqb-true}
use Rattle.logic.specs.Test.{◌and◌}
use Rattle.logic.proofs.Tests.{and_left, and_right}
use Rattle.gates.specs.Translation.{translation}
use Rattle.gates.specs.Function.{function}
use Rattle.gates.specs.Table.{function_entry, FunctionTable, translation_entry, TranslationTable}

-- every entry from place k on is what the rule has for its place
unfoldable pub ruled : (ℕ → ℕ) → ℕ → List ℕ → Bool
ruled rule k [] = true
ruled rule k (x ∷ xs) = eqb x (rule k) and ruled rule (suc k) xs

module _ (rule : ℕ → ℕ) where
  from : (l : List ℕ) (i : ℕ) → ruled rule i l ≡ true → (k : ℕ) → k < length l → get_or l k 0 ≡ rule (i + k)
  unfolding ruled
  from [] i t k h = absurd (not-suc-le-zero h)
  from (x ∷ xs) i t zero h = subst (λ (m : ℕ). x ≡ rule m) (sym (add-zero i)) (eqb-true _ _ (and_left _ _ t))
  from (x ∷ xs) i t (suc k) h =
      subst (λ (m : ℕ). get_or xs k 0 ≡ rule m) (suc-add i k ∙ sym (add-suc i k)) (from xs (suc i) (and_right _ _ t) k (le_of_suc-le-suc h))

  carried : (l : List ℕ) → ruled rule 0 l ≡ true → (k : ℕ) → k < length l → get_or l k 0 ≡ rule k
  carried l t k h = subst (λ (m : ℕ). get_or l k 0 ≡ rule m) (zero-add k) (from l 0 t k h)

-- what stands at place k by the five rules: function k / 256 of the operands that k is made of
abbrev pub function_at : ℕ → ℕ
function_at k = function (k / 256) (k / 64 % 4) (k / 16 % 4) (k / 4 % 4) (k % 4)

pub function_table : (l : List ℕ) → length l ≡ 1280 → ruled function_at 0 l ≡ true → FunctionTable l
function_table l size t =
    record {
      size = size;
      rules = λ f a b c d p q r s u.
          let k = function_entry f a b c d in
          let e1 : k / 256 ≡ f = omega arith in
          let e2 : k / 64 % 4 ≡ a = omega arith in
          let e3 : k / 16 % 4 ≡ b = omega arith in
          let e4 : k / 4 % 4 ≡ c = omega arith in
          let e5 : k % 4 ≡ d = omega arith in
          let is : get_or l k 0 ≡ function_at k = carried function_at l t k (omega arith) in
          rw (e1, e2, e3, e4, e5) at is;
    }

abbrev pub translation_at : ℕ → ℕ
translation_at k = translation (k / 4) (k % 4)

pub translation_table : (l : List ℕ) → length l ≡ 28 → ruled translation_at 0 l ≡ true → TranslationTable l
translation_table l size t =
    record {
      size = size;
      rules = λ g v p q.
          let k = translation_entry g v in
          let e1 : k / 4 ≡ g = omega arith in
          let e2 : k % 4 ≡ v = omega arith in
          let is : get_or l k 0 ≡ translation_at k = carried translation_at l t k (omega arith) in
          rw (e1, e2) at is;
    }
