-- What `fold` makes of the bits of the values, the last first: each one doubles the number, and is added.
use Prim.Native.Nat.{ℕ, zero, suc, ◌+◌, ◌*◌, ◌%◌, ◌^◌, ◌≤◌, ◌<◌}
use mathlib.Core.Path.{◌≡◌, refl, ◌∙◌, ap}
use mathlib.Core.List.{List, [], ◌∷◌, reverse}
use native.Mathlib.Omega.{arith}
use lib.ListN.{length, get_or}
use denote.Param.Members.{Mut, Called}
use native.Mathlib.Decide.{ℕ_discrete}
use Rattle.std.specs.List.{fold}
use Rattle.std.specs.Array.{IsFromFnResultFrom, IsFromFnResult}
use Rattle.logic.specs.Listed.{listed}
use Rattle.logic.proofs.Listed.{is_listed}
use Rattle.std.proofs.lemmas.List.Sums.{fold_push}
use Rattle.std.proofs.lemmas.List.{reverse-append}
use Rattle.traces.specs.Bits.{bit, bits}
use Rattle.traces.proofs.Bits.{bit_small, bits_fit}

module _ (half : ℕ) where
  -- one value more, below the others: in 64 bits, of which a shift drops what is above
  abbrev pub bit_more : ℕ → ℕ → ℕ
  bit_more number value = number * 2 % 2 ^ 64 + bit value half

  pub bits_folded : (xs : List ℕ) → length xs ≤ 64 → fold bit_more 0 (reverse xs) ≡ bits (λ c. bit (get_or xs c 0) half) (length xs)
  unfolding bits
  bits_folded [] few = refl
  bits_folded (x ∷ xs) few =
      let rest = bits_folded xs (omega arith) in
      let fits = bits_fit (λ c. bit (get_or xs c 0) half) (λ c. bit_small _ half) (length xs) (omega arith) in
      ap (fold bit_more 0) (reverse-append (x ∷ []) xs) ∙ fold_push bit_more 0 (reverse xs) x ∙ ap (λ (n : ℕ). bit_more n x) rest ∙ omega arith

-- an array made by `from_fn`, where each call gives what a function does
module _ {F : Type 0} (g : Mut F (ℕ × Unit {0}) ℕ) (h : ℕ → ℕ) {f : F} (calls : (x y : ℕ) (q : F) → Called g f (x, tt) y q → (q ≡ f) × (y ≡ h x)) where
  made_at : (ys : List ℕ) (n i : ℕ) {p : F} → p ≡ f → IsFromFnResultFrom g p ys i n → (k : ℕ) → i ≤ k → k < i + n → get_or ys k 0 ≡ h k
  made_at ys zero i same each k low high = absurd (omega arith)
  made_at ys (suc n) i {p} same (q, y, is, called, rest) k low high =
      let first : (q ≡ f) × (y ≡ h i) = calls i y q (rw same at called) in
      go first.1 (made_at ys n (i + 1) first.0 rest k) (ℕ_discrete k i)
    where
      go : y ≡ h i → (i + 1 ≤ k → k < i + 1 + n → get_or ys k 0 ≡ h k) → Dec (k ≡ i) → get_or ys k 0 ≡ h k
      go here later (yes e) = rw e (is.1 0 ∙ here)
      go here later (no d) = later (omega arith) (omega arith)

  pub made_listed : (ys : List ℕ) (n : ℕ) → IsFromFnResult g f ys n → ys ≡ listed n h
  made_listed ys n made = is_listed ys n h made.long (λ k low. made_at ys n 0 refl made.each k (omega arith) (omega arith))
