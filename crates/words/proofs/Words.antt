-- Laws of `word_stored`: the number is read where it was stored, and every other byte stays. A number stored where it stands changes no byte.
use Prim.Native.Nat.{ℕ, ◌+◌, ◌/◌, ◌%◌, ◌<◌}
use mathlib.Core.Path.{◌≡◌, ◌∙◌, ap}
use mathlib.Core.List.{List}
use native.Mathlib.Omega.{arith}
use lib.ListN.{length, get_or, set, length-set}
use lib.Seq.{get_or-set_same, get_or-set_other, set-get_or}
use Rattle.words.specs.Word.{word}
use Rattle.words.specs.Stored.{word_stored}

module _ (number at : ℕ) (bytes : List ℕ) where
  pub stored_length : length (word_stored number at bytes) ≡ length bytes
  unfolding word_stored
  stored_length = length-set (set bytes at (number % 256)) (at + 1) (number / 256) ∙ length-set bytes at (number % 256)

  module _ (room : at + 1 < length bytes) where
    pub stored_low : get_or (word_stored number at bytes) at 0 ≡ number % 256
    unfolding word_stored
    stored_low =
        get_or-set_other (set bytes at (number % 256)) (at + 1) at (number / 256) 0 (λ e. omega arith)
        ∙ get_or-set_same bytes at (number % 256) 0 (omega arith)

    pub stored_high : get_or (word_stored number at bytes) (at + 1) 0 ≡ number / 256
    unfolding word_stored
    stored_high = get_or-set_same (set bytes at (number % 256)) (at + 1) (number / 256) 0 (omega (arith, length-set bytes at (number % 256)))

    pub word_stored_lem : word (word_stored number at bytes) at ≡ number
    word_stored_lem = rw (stored_low, stored_high) (omega arith)

  pub stored_else : (a : ℕ) → (a ≡ at → ⊥) → (a ≡ at + 1 → ⊥) → get_or (word_stored number at bytes) a 0 ≡ get_or bytes a 0
  unfolding word_stored
  stored_else a low high =
      get_or-set_other (set bytes at (number % 256)) (at + 1) a (number / 256) 0 high ∙ get_or-set_other bytes at a (number % 256) 0 low

pub word_own : (bytes : List ℕ) (at : ℕ) → get_or bytes at 0 < 256 → word_stored (word bytes at) at bytes ≡ bytes
unfolding word_stored
word_own bytes at low =
    let l : word bytes at % 256 ≡ get_or bytes at 0 = omega arith in
    let h : word bytes at / 256 ≡ get_or bytes (at + 1) 0 = omega arith in
    ap (λ (x : ℕ). set (set bytes at x) (at + 1) (word bytes at / 256)) l
    ∙ ap (λ (x : List ℕ). set x (at + 1) (word bytes at / 256)) (set-get_or bytes at 0)
    ∙ ap (λ (x : ℕ). set bytes (at + 1) x) h
    ∙ set-get_or bytes (at + 1) 0
