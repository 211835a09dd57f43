-- Turning and turning back are inverse: on values within the count, and on blocks with no unused bit set.
use Prim.Native.Nat.{ℕ, zero, suc, ◌+◌, ◌*◌, ◌/◌, ◌%◌, ◌≤◌, ◌<◌}
use mathlib.Core.Path.{◌≡◌, refl, sym, subst₂, ◌∙◌, ap, ap₂}
use mathlib.Core.Bool.{Bool, true, false, true≢false}
use mathlib.Core.List.{List}
use native.Mathlib.Omega.{arith}
use lib.Dec.{eqb, ltb}
use lib.ListN.{length, get_or}
use borrow.Author.Tests.{eqb-true, eq-eqb, ltb-true}
use Rattle.std.specs.Prelude.{if◌then◌else◌}
use Rattle.logic.specs.Test.{◌or◌}
use Rattle.logic.specs.Listed.{listed}
use Rattle.logic.proofs.Listed.{listed_length, listed_at, is_listed}
use Rattle.logic.proofs.Tests.{all_at, all_true, or_left, or_right, or_otherwise}
use Rattle.traces.specs.Bits.{bit, bits}
use Rattle.traces.specs.Turned.{values_length, block_length, recorded, turned_byte, turned, block_value, value_back, turned_back, unused_clear}
use Rattle.traces.proofs.Bits.{bit_small, bit_of_bits, bits_same, bits_below, low_byte}

two_bits : (v : ℕ) → v ≤ 3 → bit v 0 + 2 * bit v 1 ≡ v
unfolding bit
two_bits v h = omega arith

-- cycle c is within the count, or the block has 0 for it
abbrev clear_at : List ℕ → ℕ → ℕ → Bool
clear_at block count c = ltb c count or eqb (block_value block c) 0

module _ (values : List ℕ) (count : ℕ) where
  pub turned_length : length (turned values count) ≡ block_length
  unfolding turned
  turned_length = listed_length block_length _

  pub turned_bytes : (b : ℕ) → b < block_length → get_or (turned values count) b 0 < 256
  unfolding turned turned_byte
  turned_bytes b inside =
      rw (listed_at block_length (turned_byte values count) b inside) (bits_below _ (λ i. bit_small _ (b / 8)) 8)

  -- byte 8 h + a of a block that is turned: its bits
  byte_at : (h a : ℕ) → h < 2 → a < 8 → get_or (turned values count) (8 * h + a) 0 ≡ bits (λ i. bit (recorded values count (8 * a + i)) h) 8
  unfolding turned turned_byte
  byte_at h a low-h low-a =
      listed_at block_length (turned_byte values count) (8 * h + a) (omega arith)
      ∙ ap₂ (λ (q r : ℕ). bits (λ i. bit (recorded values count (8 * q + i)) r) 8) (omega arith) (omega arith)

  -- turned and read again: every value within the count, and 0 past it
  turned_value : (c : ℕ) → c < values_length → recorded values count c ≤ 3 → block_value (turned values count) c ≡ recorded values count c
  unfolding block_value
  turned_value c low small =
      ap₂ (λ (x y : ℕ). x + 2 * y) (ap (λ (y : ℕ). bit (get_or (turned values count) y 0) (c % 8)) first ∙ at 0 (omega arith)) (at 1 (omega arith))
      ∙ two_bits (recorded values count c) small
    where
      first : c / 8 ≡ 8 * 0 + c / 8
      first = omega arith

      cycle : 8 * (c / 8) + c % 8 ≡ c
      cycle = omega arith

      at : (h : ℕ) → h < 2 → bit (get_or (turned values count) (8 * h + c / 8) 0) (c % 8) ≡ bit (recorded values count c) h
      at h low-h =
          ap (λ (x : ℕ). bit x (c % 8)) (byte_at h (c / 8) low-h (omega arith))
          ∙ bit_of_bits (λ i. bit (recorded values count (8 * (c / 8) + i)) h) (λ i. bit_small _ h) 8 (c % 8) (omega arith)
          ∙ ap (λ (y : ℕ). bit (recorded values count y) h) cycle

  -- "unused bits are 0": a block that is turned has none set
  pub turned_clear : unused_clear (turned values count) count ≡ true
  unfolding unused_clear recorded
  turned_clear = all_true (clear_at (turned values count) count) values_length (λ c low. go c low (ltb c count) refl)
    where
      go : (c : ℕ) → c < values_length → (b : Bool) → ltb c count ≡ b → clear_at (turned values count) count c ≡ true
      go c low true e = or_left _ _ e
      go c low false e =
          let past : recorded values count c ≡ 0 = rw e in
          or_right _ _ (eq-eqb (block_value (turned values count) c) 0 (turned_value c low (omega (arith, past)) ∙ past))

  -- "Turning back gives the values, with 0 past the count"
  pub forth_and_back : ((c : ℕ) → c < count → get_or values c 0 ≤ 3) → turned_back (turned values count) count ≡ listed values_length (recorded values count)
  unfolding turned_back value_back recorded
  forth_and_back small =
      is_listed _ values_length (recorded values count) (listed_length values_length _)
      (λ c low. listed_at values_length _ c low ∙ go c low (ltb c count) refl)
    where
      go : (c : ℕ) → c < values_length → (b : Bool) → ltb c count ≡ b
          → (if b then block_value (turned values count) c else 0) ≡ (if b then get_or values c 0 else 0)
      go c low true e =
          let legal = small c (ltb-true c count e) in
          let here : recorded values count c ≡ get_or values c 0 = rw e in
          turned_value c low (rw here legal) ∙ here
      go c low false e = refl

-- "Only values within the count are read": values that agree there are turned alike
pub turned_within : (values others : List ℕ) (count : ℕ) → ((c : ℕ) → c < count → get_or values c 0 ≡ get_or others c 0)
    → turned values count ≡ turned others count
unfolding turned turned_byte recorded
turned_within values others count same =
    is_listed (turned values count) block_length (turned_byte others count) (listed_length block_length _)
    (λ b inside. listed_at block_length _ b inside ∙ bits_same _ _ 8 (λ i low. ap (λ (v : ℕ). bit v (b / 8)) (go _ (ltb _ count) refl)))
  where
    go : (c : ℕ) (t : Bool) → ltb c count ≡ t → (if t then get_or values c 0 else 0) ≡ (if t then get_or others c 0 else 0)
    go c true e = same c (ltb-true c count e)
    go c false e = refl

module _ (block : List ℕ) (count : ℕ) where
  pub back_length : length (turned_back block count) ≡ values_length
  unfolding turned_back
  back_length = listed_length values_length _

  -- what comes back is a value of a signal
  pub back_small : (c : ℕ) → c < values_length → get_or (turned_back block count) c 0 ≤ 3
  unfolding turned_back value_back block_value
  back_small c low = rw (listed_at values_length (value_back block count) c low) (go (ltb c count))
    where
      go : (b : Bool) → (if b then bit (get_or block (c / 8) 0) (c % 8) + 2 * bit (get_or block (8 + c / 8) 0) (c % 8) else 0) ≤ 3
      go true =
          let x = bit_small (get_or block (c / 8) 0) (c % 8) in
          let y = bit_small (get_or block (8 + c / 8) 0) (c % 8) in
          omega arith
      go false = omega arith

  -- bit i of byte 8 h + a is bit h of the value of cycle 8 a + i
  value_bit : (h a i : ℕ) → h < 2 → a < 8 → i < 8 → bit (block_value block (8 * a + i)) h ≡ bit (get_or block (8 * h + a) 0) i
  unfolding block_value bit
  value_bit h a i low-h low-a low-i =
      let q : a ≡ (8 * a + i) / 8 = omega arith in
      let r : i ≡ (8 * a + i) % 8 = omega arith in
      subst₂ (λ (q r : ℕ). bit (bit (get_or block q 0) r + 2 * bit (get_or block (8 + q) 0) r) h ≡ bit (get_or block (8 * h + a) 0) i) q r (by h low-h)
    where
      by : (h : ℕ) → h < 2 → bit (bit (get_or block a 0) i + 2 * bit (get_or block (8 + a) 0) i) h ≡ bit (get_or block (8 * h + a) 0) i
      by zero l =
          let s = bit_small (get_or block a 0) i in
          let e : (bit (get_or block a 0) i + 2 * bit (get_or block (8 + a) 0) i) % 2 ≡ bit (get_or block a 0) i = omega arith in
          let z : a ≡ 8 * 0 + a = omega arith in
          e ∙ ap (λ (y : ℕ). bit (get_or block y 0) i) z
      by (suc zero) l =
          let s = bit_small (get_or block a 0) i in
          let u = bit_small (get_or block (8 + a) 0) i in
          let e : (bit (get_or block a 0) i + 2 * bit (get_or block (8 + a) 0) i) / 2 % 2 ≡ bit (get_or block (8 + a) 0) i = omega arith in
          e
      by (suc (suc h)) l = absurd (omega arith)

  module _ (clear : unused_clear block count ≡ true) where
    -- the bits that are read again are the block's, those past the count too, which are 0
    kept : (h a i : ℕ) → h < 2 → a < 8 → i < 8 → bit (recorded (turned_back block count) count (8 * a + i)) h ≡ bit (get_or block (8 * h + a) 0) i
    unfolding turned_back value_back recorded unused_clear
    kept h a i low-h low-a low-i = go (ltb (8 * a + i) count) refl
      where
        go : (b : Bool) → ltb (8 * a + i) count ≡ b
            → bit (if b then get_or (listed values_length (value_back block count)) (8 * a + i) 0 else 0) h ≡ bit (get_or block (8 * h + a) 0) i
        go true e =
            ap (λ (y : ℕ). bit y h) (listed_at values_length (value_back block count) (8 * a + i) (omega arith) ∙ rw e)
            ∙ value_bit h a i low-h low-a low-i
        go false e = ap (λ (y : ℕ). bit y h) (sym unused) ∙ value_bit h a i low-h low-a low-i
          where
            unused : block_value block (8 * a + i) ≡ 0
            unused =
                eqb-true _ _
                (or_otherwise _ _ (all_at (clear_at block count) values_length clear (8 * a + i) (omega arith))
                (λ (t : ltb (8 * a + i) count ≡ true). true≢false (sym t ∙ e)))

    -- "a legal block turned back and forth keeps its bytes"
    pub back_and_forth : length block ≡ block_length → ((b : ℕ) → b < block_length → get_or block b 0 < 256) → turned (turned_back block count) count ≡ block
    unfolding turned turned_byte
    back_and_forth long bytes =
        sym
        (is_listed block block_length (turned_byte (turned_back block count) count) long
        (λ b low.
        let small = bytes b low in
        let whole : get_or block b 0 ≡ get_or block b 0 % 256 = omega arith in
        whole
        ∙ low_byte (get_or block b 0)
        ∙ bits_same (bit (get_or block b 0)) _ 8
        (λ i l. ap (λ (y : ℕ). bit (get_or block y 0) i) (omega arith) ∙ sym (kept (b / 8) (b % 8) i (omega arith) (omega arith) l))))
