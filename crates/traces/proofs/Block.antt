-- The bytes of a block are those of its two halves, each made as one number.
use Prim.Native.Nat.{ℕ, ◌+◌, ◌*◌, ◌/◌, ◌%◌, ◌^◌, ◌≤◌}
use mathlib.Core.Path.{◌≡◌, refl, sym, ◌∙◌, ap, ap₂}
use mathlib.Core.Bool.{Bool, true, false}
use mathlib.Core.List.{List, [], ◌∷◌, ◌++◌}
use native.Mathlib.Omega.{arith}
use native.Mathlib.Nat.{div-one}
use borrow.Rule.Slice.PartMut.{put_mid, post_of}
use lib.Dec.{ltb}
use lib.ListN.{length, get_or, take, drop}
use borrow.Author.Tests.{ltb-true, ltb-false}
use Rattle.std.specs.Prelude.{if◌then◌else◌}
use Rattle.std.proofs.lemmas.List.{drop-drop, drop_all, get_or-take, length-take-le}
use Rattle.std.specs.Int.{to_le_bytes, bytes_low_first}
use mir.Syntax.{w64}
use Rattle.logic.specs.Listed.{listed}
use Rattle.logic.proofs.Listed.{listed_same}
use Rattle.traces.specs.Bits.{bit, bits}
use Rattle.traces.specs.Turned.{block_length, recorded, turned_byte, turned}
use Rattle.traces.proofs.Bits.{bit_small, bit_of_0, bit_shift, bits_same, low_byte, bit_of_bits, bit_above_bits}

-- byte a of a number has the eight bits from 8 a on
pub byte_bits : (number a : ℕ) → number / 2 ^ (8 * a) % 256 ≡ bits (λ i. bit number (8 * a + i)) 8
byte_bits number a =
    low_byte (number / 2 ^ (8 * a)) ∙ bits_same _ _ 8 (λ i l. bit_shift (8 * a) i number)

module _ (values : List ℕ) (count : ℕ) where
  -- the low bits of the values within the count, or the high ones
  abbrev pub half_of : ℕ → ℕ
  half_of h = bits (λ c. bit (get_or values c 0) h) count

  half_bit : (h c : ℕ) → bit (half_of h) c ≡ bit (recorded values count c) h
  unfolding recorded
  half_bit h c = go (ltb c count) refl
    where
      go : (b : Bool) → ltb c count ≡ b → bit (half_of h) c ≡ bit (if b then get_or values c 0 else 0) h
      go true e = bit_of_bits (λ c. bit (get_or values c 0) h) (λ c. bit_small _ h) count c (ltb-true c count e)
      go false e = bit_above_bits (λ c. bit (get_or values c 0) h) (λ c. bit_small _ h) count c (ltb-false c count e) ∙ sym (bit_of_0 h)

  -- byte a of a half is the block's byte b
  pub byte_turned : (h a b : ℕ) {number : ℕ} → number ≡ half_of h → b / 8 ≡ h → b % 8 ≡ a → number / 2 ^ (8 * a) % 256 ≡ turned_byte values count b
  unfolding turned_byte
  byte_turned h a b {number} e half place =
      byte_bits number a
      ∙ bits_same _ _ 8 (λ i below. ap (λ (x : ℕ). bit x (8 * a + i)) e ∙ half_bit h (8 * a + i) ∙ ap₂ (λ (p q : ℕ). bit (recorded values count (8 * p + i)) q) (sym place) (sym half))

-- the eight bytes of a number, the lowest first
number_bytes : (n : ℕ) → to_le_bytes w64 n ≡ listed 8 (λ a. n / 2 ^ (8 * a) % 256)
unfolding listed
number_bytes n = ap (λ (x : ℕ). x % 256 ∷ bytes_low_first 1 7 n) (sym (div-one n))

module _ (values : List ℕ) (count : ℕ) where
  half_bytes : (h : ℕ) {number : ℕ} {bytes : List ℕ} → number ≡ half_of values count h → bytes ≡ to_le_bytes w64 number
      → bytes ≡ listed 8 (λ a. turned_byte values count (8 * h + a))
  half_bytes h {number} is e =
      e ∙ number_bytes number
      ∙ listed_same 8 _ _ (λ a low. byte_turned values count h a (8 * h + a) is (omega arith) (omega arith))

  -- the bytes of both halves, over a buffer of 16 bytes, are the block
  pub block_turned : (lent : List ℕ) → length lent ≡ block_length → {low high : ℕ} → low ≡ half_of values count 0 → high ≡ half_of values count 1
      → {first second : List ℕ} → first ≡ to_le_bytes w64 low → second ≡ to_le_bytes w64 high
      → put_mid 8 8 (first ++ post_of 0 8 lent) second ≡ turned values count
  unfolding turned listed
  block_turned lent long l h f g =
      let none : drop 8 (drop 8 lent) ≡ [] = drop-drop 8 8 lent ∙ drop_all 16 lent (omega arith) in
      rw (half_bytes 0 l f, half_bytes 1 h g, none)

-- the values within the count alone make the block
module _ (values : List ℕ) (count : ℕ) where
  recorded_taken : (c : ℕ) (within : Bool) → ltb c count ≡ within
      → (if within then get_or (take count values) c 0 else 0) ≡ (if within then get_or values c 0 else 0)
  recorded_taken c true e = get_or-take count values c 0 (ltb-true c count e)
  recorded_taken c false e = refl

  pub turned_taken : count ≤ length values → turned (take count values) (length (take count values)) ≡ turned values count
  unfolding turned turned_byte recorded
  turned_taken long =
      ap (turned (take count values)) (length-take-le count values long)
      ∙ listed_same block_length _ _
      (λ b low. bits_same _ _ 8 (λ i below. ap (λ (v : ℕ). bit v (b / 8)) (recorded_taken (8 * (b % 8) + i) (ltb (8 * (b % 8) + i) count) refl)))
