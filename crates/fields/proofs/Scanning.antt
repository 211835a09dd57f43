-- Reading column by column finds a number exactly when the columns are spaces and then a numeral, and finds that number.
use Prim.Native.Nat.{ℕ, ◌+◌, ◌-◌, ◌*◌, ◌≤◌}
use mathlib.Core.Path.{◌≡◌, refl, sym, ◌∙◌, subst, ap}
use mathlib.Core.Bool.{Bool, true, false}
use mathlib.Core.List.{List, [], ◌∷◌}
use native.Mathlib.Omega.{arith}
use lib.Dec.{eqb, leb}
use borrow.Author.Tests.{eqb-false, leb-true, ne_eqb, le-leb, not-true}
use Rattle.logic.specs.Test.{◌and◌, every}
use Rattle.std.specs.Prelude.{if◌then◌else◌}
use Rattle.logic.proofs.Tests.{and_left, and_right, and_true}
use Rattle.fields.specs.Field.{is_digit, after_spaces, decimal, no_leading_zero, is_numeral, number}
use Rattle.std.specs.Prelude.{Option, Some, None}
use Rattle.std.specs.Option.{option_map}
use Rattle.fields.specs.Scan.{extended, scan, scans_on, scans}
use Rattle.fields.specs.declared.Scan.{Scan}
use Rattle.fields.specs.declared.Scan.TheVariants.{Blank, Digits}
use Rattle.fields.proofs.Digit.{digit_low, digit_high, decimal_grows, numeral_leading, numeral_digits, numeral_small, numeral_right}

-- the number that was found after the columns cs, from the number n on
pub record Found (n : ℕ) (cs : List ℕ) (m : ℕ) : Type 0 where
  pub digits : every is_digit cs ≡ true
  pub is : decimal n cs ≡ m
  pub small : m ≤ 65535
  pub alone : n ≡ 0 → cs ≡ []

none_digits : (m : ℕ) → ◌≡◌ {A = Option Scan} None (Some (Digits m)) → ⊥
none_digits m e = let z : ◌≡◌ {A = ℕ} 0 1 = cc in omega arith

scans_none : (cs : List ℕ) → scans_on None cs ≡ None
unfolding scans_on
scans_none cs = refl

-- after a number: digits, each of which makes it longer
more_digits : (cs : List ℕ) (n : ℕ) → (n ≡ 0 → cs ≡ []) → every is_digit cs ≡ true → decimal n cs ≤ 65535
    → scans (Digits n) cs ≡ Some (Digits (decimal n cs))
unfolding scans_on scan decimal every extended
more_digits [] n h e l = refl
more_digits (c ∷ cs) n h e l =
    let d : is_digit c ≡ true = and_left (is_digit c) (every is_digit cs) e in
    let positive : n ≡ 0 → ⊥ = λ z. empty (h z) in
    let low : 48 ≤ c = digit_low c d in
    let fits : 10 * n + (c - 48) ≤ 65535 = omega (arith, decimal_grows (10 * n + (c - 48)) cs) in
    let step : scan (Digits n) c ≡ Some (Digits (10 * n + (c - 48))) =
    rw (d, ne_eqb n 0 positive, le-leb (10 * n + (c - 48)) 65535 fits) refl in
    ap (λ (o : Option Scan). scans_on o cs) step
    ∙ more_digits cs (10 * n + (c - 48)) (λ z. absurd (positive (omega arith))) (and_right (is_digit c) (every is_digit cs) e) l
  where
    empty : c ∷ cs ≡ [] → ⊥
    empty q = let z : ◌≡◌ {A = ℕ} 0 1 = cc in omega arith

found_digits : (cs : List ℕ) (n m : ℕ) → n ≤ 65535 → scans (Digits n) cs ≡ Some (Digits m) → Found n cs m
unfolding scans_on scan decimal every extended
found_digits [] n m l e = record { digits = refl; is = same e; small = subst (λ (k : ℕ). k ≤ 65535) (same e) l; alone = λ z. refl }
  where
    same : ◌≡◌ {A = Option Scan} (Some (Digits n)) (Some (Digits m)) → n ≡ m
    same q = cc
found_digits (c ∷ cs) n m l e = go (is_digit c) refl e (found_digits cs (10 * n + (c - 48)) m)
  where
    step : Bool → Option Scan
    step b = if b then option_map Digits (extended n (c - 48)) else None

    go : (b : Bool) → is_digit c ≡ b → scans_on (step b) cs ≡ Some (Digits m)
        → (10 * n + (c - 48) ≤ 65535 → scans (Digits (10 * n + (c - 48))) cs ≡ Some (Digits m) → Found (10 * n + (c - 48)) cs m)
        → Found n (c ∷ cs) m
    go false d q next = absurd (none_digits m (sym (scans_none cs) ∙ q))
    go true d q next = zero_test (eqb n 0) refl q
      where
        room : Bool → Option ℕ
        room b = if b then Some (10 * n + (c - 48)) else None

        test : Bool → Option ℕ
        test b = if b then None else room (leb (10 * n + (c - 48)) 65535)

        zero_test : (b : Bool) → eqb n 0 ≡ b → scans_on (option_map Digits (test b)) cs ≡ Some (Digits m) → Found n (c ∷ cs) m
        zero_test true z r = absurd (none_digits m (sym (scans_none cs) ∙ r))
        zero_test false z r = fit_test (leb (10 * n + (c - 48)) 65535) refl r
          where
            fit_test : (b : Bool) → leb (10 * n + (c - 48)) 65535 ≡ b → scans_on (option_map Digits (room b)) cs ≡ Some (Digits m)
                → Found n (c ∷ cs) m
            fit_test false f t = absurd (none_digits m (sym (scans_none cs) ∙ t))
            fit_test true f t =
                let rest = next (leb-true (10 * n + (c - 48)) 65535 f) t in
                record {
                  digits = and_true (is_digit c) (every is_digit cs) d rest.digits;
                  is = rest.is;
                  small = rest.small;
                  alone = λ w. absurd (eqb-false n 0 z w);
                }

first_digit : (c : ℕ) (cs : List ℕ) → decimal 0 (c ∷ cs) ≡ decimal (c - 48) cs
unfolding decimal
first_digit c cs = let e : 10 * 0 + (c - 48) ≡ c - 48 = omega arith in ap (λ (n : ℕ). decimal n cs) e

-- a first digit 0 stands alone
leading : (c : ℕ) (cs : List ℕ) → 48 ≤ c → no_leading_zero (c ∷ cs) ≡ true → c - 48 ≡ 0 → cs ≡ []
unfolding no_leading_zero
leading c [] l h z = refl
leading c (d ∷ ds) l h z = absurd (eqb-false c 48 (not-true (eqb c 48) h) (omega arith))

not_leading : (c : ℕ) (cs : List ℕ) → (c - 48 ≡ 0 → cs ≡ []) → no_leading_zero (c ∷ cs) ≡ true
unfolding no_leading_zero
not_leading c [] h = refl
not_leading c (d ∷ ds) h = rw (ne_eqb c 48 (λ (z : c ≡ 48). empty (h (omega arith))))
  where
    empty : d ∷ ds ≡ [] → ⊥
    empty q = let z : ◌≡◌ {A = ℕ} 0 1 = cc in omega arith

-- spaces and then a numeral are read as its number
pub scans_numeral : (cs : List ℕ) → is_numeral (after_spaces cs) ≡ true → scans Blank cs ≡ Some (Digits (number cs))
unfolding number is_numeral after_spaces scans_on scan no_leading_zero every ◌and◌
scans_numeral [] h = absurd (let z : ◌≡◌ {A = ℕ} 0 1 = cc in omega arith)
scans_numeral (c ∷ cs) h = go (eqb c 32) refl h (scans_numeral cs)
  where
    rest : Bool → List ℕ
    rest b = if b then after_spaces cs else c ∷ cs

    state : Bool → Option Scan
    state b = if b then Some Blank else if is_digit c then Some (Digits (c - 48)) else None

    go : (b : Bool) → eqb c 32 ≡ b → is_numeral (rest b) ≡ true
        → (is_numeral (after_spaces cs) ≡ true → scans Blank cs ≡ Some (Digits (decimal 0 (after_spaces cs))))
        → scans_on (state b) cs ≡ Some (Digits (decimal 0 (rest b)))
    go true e q next = next q
    go false e q next =
        let digits = numeral_digits (c ∷ cs) q in
        let small = numeral_small (c ∷ cs) q in
        let d : is_digit c ≡ true = and_left (is_digit c) (every is_digit cs) digits in
        rw (d, first_digit c cs)
        (more_digits cs (c - 48) (leading c cs (digit_low c d) (numeral_leading (c ∷ cs) q))
        (and_right (is_digit c) (every is_digit cs) digits) (rw (first_digit c cs) at small))

-- and a number is read in no other columns
pub record Numeral (ds : List ℕ) (m : ℕ) : Type 0 where
  pub form : is_numeral ds ≡ true
  pub is : decimal 0 ds ≡ m

numeral_found : (c : ℕ) (cs : List ℕ) (m : ℕ) → is_digit c ≡ true → Found (c - 48) cs m → Numeral (c ∷ cs) m
unfolding every
numeral_found c cs m d f =
    let e : decimal 0 (c ∷ cs) ≡ m = first_digit c cs ∙ f.is in
    record {
      form =
          numeral_right (c ∷ cs) (not_leading c cs f.alone) (and_true (is_digit c) (every is_digit cs) d f.digits)
          (subst (λ (k : ℕ). k ≤ 65535) (sym e) f.small);
      is = e;
    }

pub scans_found : (cs : List ℕ) (m : ℕ) → scans Blank cs ≡ Some (Digits m) → Numeral (after_spaces cs) m
unfolding after_spaces scans_on scan
scans_found [] m h = absurd (let z : ◌≡◌ {A = ℕ} 0 1 = cc in omega arith)
scans_found (c ∷ cs) m h = go (eqb c 32) h (scans_found cs m)
  where
    rest : Bool → List ℕ
    rest b = if b then after_spaces cs else c ∷ cs

    state : Bool → Option Scan
    state b = if b then Some Blank else if is_digit c then Some (Digits (c - 48)) else None

    go : (b : Bool) → scans_on (state b) cs ≡ Some (Digits m) → (scans Blank cs ≡ Some (Digits m) → Numeral (after_spaces cs) m)
        → Numeral (rest b) m
    go true q next = next q
    go false q next = digit (is_digit c) refl q
      where
        digit : (b : Bool) → is_digit c ≡ b → scans_on (if b then Some (Digits (c - 48)) else None) cs ≡ Some (Digits m) → Numeral (c ∷ cs) m
        digit false d r = absurd (none_digits m (sym (scans_none cs) ∙ r))
        digit true d r =
            let high : c ≤ 57 = digit_high c d in
            numeral_found c cs m d (found_digits cs (c - 48) m (omega arith) r)
