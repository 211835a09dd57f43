-- Laws of digits, of the number that they spell, and of a numeral.
use Prim.Native.Nat.{ℕ, ◌+◌, ◌-◌, ◌*◌, ◌<◌, ◌≤◌}
use mathlib.Core.Path.{◌≡◌}
use mathlib.Core.Bool.{true, false}
use mathlib.Core.List.{List, [], ◌∷◌}
use native.Mathlib.Omega.{arith}
use lib.Dec.{leb}
use borrow.Author.Tests.{le-leb, lt-leb, leb-true}
use Rattle.logic.specs.Test.{◌and◌, every}
use Rattle.logic.proofs.Tests.{decided, and_left, and_right, and_true}
use Rattle.fields.specs.Field.{is_digit, decimal, no_leading_zero, is_numeral}

pub digit_within : (c : ℕ) → 48 ≤ c → c ≤ 57 → is_digit c ≡ true
unfolding is_digit ◌and◌
digit_within c h k = rw (le-leb 48 c h, le-leb c 57 k)

pub digit_below : (c : ℕ) → c < 48 → is_digit c ≡ false
unfolding is_digit ◌and◌
digit_below c h = rw (lt-leb 48 c h)

pub digit_above : (c : ℕ) → 57 < c → is_digit c ≡ false
unfolding is_digit ◌and◌
digit_above c h = rw (le-leb 48 c (omega arith), lt-leb c 57 h)

-- what decides whether a byte is a digit
pub ruleset digits = (decided, digit_within, digit_below, digit_above)

pub digit_low : (c : ℕ) → is_digit c ≡ true → 48 ≤ c
unfolding is_digit
digit_low c e = leb-true 48 c (and_left (leb 48 c) (leb c 57) e)

pub digit_high : (c : ℕ) → is_digit c ≡ true → c ≤ 57
unfolding is_digit
digit_high c e = leb-true c 57 (and_right (leb 48 c) (leb c 57) e)

-- further digits make no number smaller
pub decimal_grows : (n : ℕ) (cs : List ℕ) → n ≤ decimal n cs
unfolding decimal
decimal_grows n [] = omega arith
decimal_grows n (c ∷ cs) = omega (arith, decimal_grows (10 * n + (c - 48)) cs)

-- the three parts of a numeral
module _ (ds : List ℕ) (h : is_numeral ds ≡ true) where
  pub numeral_leading : no_leading_zero ds ≡ true
  unfolding is_numeral
  numeral_leading = and_left (no_leading_zero ds) (every is_digit ds and leb (decimal 0 ds) 65535) h

  rest : every is_digit ds and leb (decimal 0 ds) 65535 ≡ true
  unfolding is_numeral
  rest = and_right (no_leading_zero ds) (every is_digit ds and leb (decimal 0 ds) 65535) h

  pub numeral_digits : every is_digit ds ≡ true
  numeral_digits = and_left (every is_digit ds) (leb (decimal 0 ds) 65535) rest

  pub numeral_small : decimal 0 ds ≤ 65535
  numeral_small = leb-true (decimal 0 ds) 65535 (and_right (every is_digit ds) (leb (decimal 0 ds) 65535) rest)

pub numeral_right : (ds : List ℕ) → no_leading_zero ds ≡ true → every is_digit ds ≡ true → decimal 0 ds ≤ 65535 → is_numeral ds ≡ true
unfolding is_numeral
numeral_right ds h k l =
    and_true (no_leading_zero ds) (every is_digit ds and leb (decimal 0 ds) 65535) h
    (and_true (every is_digit ds) (leb (decimal 0 ds) 65535) k (le-leb (decimal 0 ds) 65535 l))
