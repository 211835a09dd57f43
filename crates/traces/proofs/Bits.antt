-- Laws of a number and its bits.
use Prim.Native.Nat.{ℕ, zero, suc, ◌+◌, ◌*◌, ◌/◌, ◌%◌, ◌^◌, ◌≤◌, ◌<◌}
use mathlib.Core.Path.{◌≡◌, refl, sym, ◌∙◌, ap, ap₂}
use native.Mathlib.Omega.{arith}
use native.Mathlib.Nat.{div-one, div-div-eq-div-mul, pow-succ', pow-le-pow_right}
use Rattle.traces.specs.Bits.{bit, bits}

pub bit_small : (x i : ℕ) → bit x i < 2
unfolding bit
bit_small x zero = omega arith
bit_small x (suc i) = bit_small (x / 2) i

pub bit_of_0 : (i : ℕ) → bit 0 i ≡ 0
unfolding bit
bit_of_0 zero = refl
bit_of_0 (suc i) = bit_of_0 i

-- the bits of a quotient by 2^m stand m places higher in the number
pub bit_shift : (m i x : ℕ) → bit (x / 2 ^ m) i ≡ bit x (m + i)
unfolding bit
bit_shift zero i x =
    let same : i ≡ 0 + i = omega arith in
    ap (λ (y : ℕ). bit y i) (div-one x) ∙ ap (bit x) same
bit_shift (suc m) i x =
    let higher : suc (m + i) ≡ suc m + i = omega arith in
    ap (λ (y : ℕ). bit y i) (ap (λ (p : ℕ). x / p) (pow-succ' 2 m) ∙ sym (div-div-eq-div-mul x 2 (2 ^ m)))
    ∙ bit_shift m i (x / 2)
    ∙ ap (bit x) higher

-- bit i by its weight
pub bit_weight : (x i : ℕ) → x / 2 ^ i % 2 ≡ bit x i
unfolding bit
bit_weight x i = let e : i + 0 ≡ i = omega arith in bit_shift i 0 x ∙ ap (bit x) e

pub bits_same : (f g : ℕ → ℕ) (k : ℕ) → ((i : ℕ) → i < k → f i ≡ g i) → bits f k ≡ bits g k
unfolding bits
bits_same f g zero h = refl
bits_same f g (suc k) h =
    ap₂ (λ (a b : ℕ). a + 2 * b) (h 0 (omega arith)) (bits_same (λ i. f (suc i)) (λ i. g (suc i)) k (λ i l. h (suc i) (omega arith)))

-- the remainder by 256 has the lowest eight bits
pub low_byte : (x : ℕ) → x % 256 ≡ bits (bit x) 8
unfolding bits bit
low_byte x = omega arith

pub bits_below : (f : ℕ → ℕ) → ((i : ℕ) → f i < 2) → (k : ℕ) → bits f k < 2 ^ k
unfolding bits
bits_below f small zero = omega arith
bits_below f small (suc k) =
    let s = small 0 in
    let b = bits_below (λ i. f (suc i)) (λ i. small (suc i)) k in
    omega arith

-- up to 63 bits leave room for one more in 64
pub bits_fit : (f : ℕ → ℕ) → ((i : ℕ) → f i < 2) → (k : ℕ) → k ≤ 63 → bits f k < 2 ^ 63
bits_fit f small k h =
    let b = bits_below f small k in
    let p = pow-le-pow_right {n = 2} (omega arith) {i = k} {j = 63} h in
    omega arith

-- a bit of the number is the bit that it was made of, and 0 above them
pub bit_of_bits : (f : ℕ → ℕ) → ((i : ℕ) → f i < 2) → (k i : ℕ) → i < k → bit (bits f k) i ≡ f i
unfolding bit bits
bit_of_bits f small zero i h = absurd (omega arith)
bit_of_bits f small (suc k) zero h = let s = small 0 in omega arith
bit_of_bits f small (suc k) (suc i) h =
    let s = small 0 in
    let half : (f 0 + 2 * bits (λ i. f (suc i)) k) / 2 ≡ bits (λ i. f (suc i)) k = omega arith in
    ap (λ (x : ℕ). bit x i) half ∙ bit_of_bits (λ i. f (suc i)) (λ i. small (suc i)) k i (omega arith)

pub bit_above_bits : (f : ℕ → ℕ) → ((i : ℕ) → f i < 2) → (k i : ℕ) → k ≤ i → bit (bits f k) i ≡ 0
unfolding bit bits
bit_above_bits f small zero i h = bit_of_0 i
bit_above_bits f small (suc k) zero h = absurd (omega arith)
bit_above_bits f small (suc k) (suc i) h =
    let s = small 0 in
    let half : (f 0 + 2 * bits (λ i. f (suc i)) k) / 2 ≡ bits (λ i. f (suc i)) k = omega arith in
    ap (λ (x : ℕ). bit x i) half ∙ bit_above_bits (λ i. f (suc i)) (λ i. small (suc i)) k i (omega arith)
