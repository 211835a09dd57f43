-- A field's text is its number's numeral behind spaces, and each number up to 65535 has one.
use Prim.Native.Nat.{ℕ, zero, suc, ◌+◌, ◌-◌, ◌*◌, ◌/◌, ◌%◌, ◌<◌, ◌≤◌}
use mathlib.Core.Path.{◌≡◌, refl, sym, ◌∙◌, ap, subst₂}
use mathlib.Core.Bool.{Bool, true, false, true≢false}
use mathlib.Core.Logic.{◌≢◌}
use mathlib.Core.List.{List, [], ◌∷◌, ◌++◌, map}
use native.Mathlib.Omega.{arith}
use native.Mathlib.Nat.{not-le_of_lt}
use lib.Dec.{eqb, leb, ltb}
use lib.ListN.{length, get_or, replicate, length-append, length-replicate}
use borrow.Author.Tests.{eqb-true, eqb-false, le-leb, lt-leb, ne_eqb, eq-eqb, ltb-true, ltb-false, not-true}
use Rattle.logic.specs.Test.{◌or◌, every}
use Rattle.std.specs.Prelude.{if◌then◌else◌}
use Rattle.logic.proofs.Tests.{and_left, and_right, and_true}
use Rattle.fields.specs.Field.{is_digit, after_spaces, decimal, no_leading_zero, is_numeral, is_field, number}
use Rattle.fields.proofs.Digit.{digit_within, digit_low, digit_high, numeral_leading, numeral_digits, numeral_small, numeral_right}
use Rattle.writing.specs.Text.{column_of, field_text}

-- what the column of weight w shows of v: the digit x where v reaches it, else a space
data Shows (v w x c : ℕ) : Type 0 where
  on : w ≤ v → c ≡ 48 + x → Shows v w x c
  off : v < w → c ≡ 32 → Shows v w x c

column : {v w x c : ℕ} → Shows v w x c → 1 < w → v / w % 10 ≡ x → c ≡ column_of v w
unfolding column_of ◌or◌
column {v} {w} (on h e) k q = rw (le-leb w v h, q) e
column {v} {w} (off h e) k q = rw (lt-leb w v h, ne_eqb w 1 (omega arith)) e

unit_column : (v x c : ℕ) → v % 10 ≡ x → c ≡ 48 + x → c ≡ column_of v 1
unfolding column_of ◌or◌
unit_column v x c e q = go (leb 1 v)
  where
    u : v / 1 % 10 ≡ x
    u = omega arith

    go : (b : Bool) → c ≡ (if b or true then 48 + v / 1 % 10 else 32)
    go true = rw u q
    go false = rw u q

-- a number and its five digits, of which the first may be 0
record Spelt (v x4 x3 x2 x1 x0 : ℕ) : Type 0 where
  four : x4 < 10
  three : x3 < 10
  two : x2 < 10
  one : x1 < 10
  none : x0 < 10
  sum : v ≡ 10000 * x4 + 1000 * x3 + 100 * x2 + 10 * x1 + x0

text : {v x4 x3 x2 x1 x0 a b c d e : ℕ} → Spelt v x4 x3 x2 x1 x0 → Shows v 10000 x4 a → Shows v 1000 x3 b → Shows v 100 x2 c
    → Shows v 10 x1 d → e ≡ 48 + x0 → 32 ∷ a ∷ b ∷ c ∷ d ∷ e ∷ [] ≡ field_text v
unfolding field_text
text {v} {x4} {x3} {x2} {x1} {x0} {a} {b} {c} {d} {e} s p q r t u =
    let k5 : 32 ≡ column_of v 100000 = column {x = v / 100000 % 10} (off (omega arith) refl) (omega arith) refl in
    let k4 : a ≡ column_of v 10000 = column p (omega arith) (omega arith) in
    let k3 : b ≡ column_of v 1000 = column q (omega arith) (omega arith) in
    let k2 : c ≡ column_of v 100 = column r (omega arith) (omega arith) in
    let k1 : d ≡ column_of v 10 = column t (omega arith) (omega arith) in
    let k0 : e ≡ column_of v 1 = unit_column v x0 e (omega arith) u in
    cc

-- a byte that shows a digit; each of some bytes does
record Digit (c : ℕ) : Type 0 where
  low : 48 ≤ c
  high : c ≤ 57

abbrev Digits : List ℕ → Type 0
Digits [] = Unit {0}
Digits (c ∷ cs) = Digit c × Digits cs

digits : (cs : List ℕ) → every is_digit cs ≡ true → Digits cs
unfolding every
digits [] h = tt
digits (c ∷ cs) h =
    let d = and_left (is_digit c) (every is_digit cs) h in
    (record { low = digit_low c d; high = digit_high c d }, digits cs (and_right (is_digit c) (every is_digit cs) h))

leading_digit : (c d : ℕ) (ds : List ℕ) → no_leading_zero (c ∷ d ∷ ds) ≡ true → c ≡ 48 → ⊥
unfolding no_leading_zero
leading_digit c d ds h e = eqb-false c 48 (not-true (eqb c 48) h) e

positive : (c : ℕ) → Digit c → c ≢ 48 → 1 ≤ c - 48
positive c d h = omega arith

six_digits : (a b c d e f : ℕ) → 1 ≤ a → 65535 < 10 * (10 * (10 * (10 * (10 * (10 * 0 + a) + b) + c) + d) + e) + f
six_digits a b c d e f h = omega arith

-- spaces up to six columns
abbrev pub padded : List ℕ → List ℕ
padded ds = replicate (6 - length ds) 32 ++ ds

-- a numeral behind spaces is the text of its number: by the number of its digits
digits_text : (ds : List ℕ) → length ds ≤ 6 → no_leading_zero ds ≡ true → Digits ds → decimal 0 ds ≤ 65535
    → padded ds ≡ field_text (decimal 0 ds)
unfolding decimal
digits_text [] l z g s = absurd (unfold no_leading_zero in true≢false (sym z))
digits_text (f ∷ []) l z g s =
    text {x4 = 0} {x3 = 0} {x2 = 0} {x1 = 0} {x0 = f - 48} (omega arith)
    (off (omega arith) refl) (off (omega arith) refl) (off (omega arith) refl) (off (omega arith) refl) (omega arith)
digits_text (e ∷ f ∷ []) l z g s =
    let first : e ≢ 48 = leading_digit e f [] z in
    text {x4 = 0} {x3 = 0} {x2 = 0} {x1 = e - 48} {x0 = f - 48} (omega arith)
    (off (omega arith) refl) (off (omega arith) refl) (off (omega arith) refl) (on (omega arith) (omega arith)) (omega arith)
digits_text (d ∷ e ∷ f ∷ []) l z g s =
    let first : d ≢ 48 = leading_digit d e (f ∷ []) z in
    text {x4 = 0} {x3 = 0} {x2 = d - 48} {x1 = e - 48} {x0 = f - 48} (omega arith)
    (off (omega arith) refl) (off (omega arith) refl) (on (omega arith) (omega arith)) (on (omega arith) (omega arith)) (omega arith)
digits_text (c ∷ d ∷ e ∷ f ∷ []) l z g s =
    let first : c ≢ 48 = leading_digit c d (e ∷ f ∷ []) z in
    text {x4 = 0} {x3 = c - 48} {x2 = d - 48} {x1 = e - 48} {x0 = f - 48} (omega arith)
    (off (omega arith) refl) (on (omega arith) (omega arith)) (on (omega arith) (omega arith)) (on (omega arith) (omega arith)) (omega arith)
digits_text (b ∷ c ∷ d ∷ e ∷ f ∷ []) l z g s =
    let first : b ≢ 48 = leading_digit b c (d ∷ e ∷ f ∷ []) z in
    text {x4 = b - 48} {x3 = c - 48} {x2 = d - 48} {x1 = e - 48} {x0 = f - 48} (omega arith)
    (on (omega arith) (omega arith)) (on (omega arith) (omega arith)) (on (omega arith) (omega arith)) (on (omega arith) (omega arith)) (omega arith)
digits_text (a ∷ b ∷ c ∷ d ∷ e ∷ f ∷ []) l z g s =
    let first : a ≢ 48 = leading_digit a b (c ∷ d ∷ e ∷ f ∷ []) z in
    let large = six_digits (a - 48) (b - 48) (c - 48) (d - 48) (e - 48) (f - 48) (positive a g.0 first) in
    absurd (not-le_of_lt large s)
digits_text (a ∷ b ∷ c ∷ d ∷ e ∷ f ∷ h ∷ cs) l z g s = absurd (omega arith)

pub numeral_text : (ds : List ℕ) → length ds ≤ 6 → is_numeral ds ≡ true → padded ds ≡ field_text (decimal 0 ds)
numeral_text ds l h = digits_text ds l (numeral_leading ds h) (digits ds (numeral_digits ds h)) (numeral_small ds h)

after_shorter : (cs : List ℕ) → length (after_spaces cs) ≤ length cs
unfolding after_spaces
after_shorter [] = omega arith
after_shorter (c ∷ cs) = go (eqb c 32) (after_shorter cs)
  where
    go : (b : Bool) → length (after_spaces cs) ≤ length cs → length (if b then after_spaces cs else c ∷ cs) ≤ suc (length cs)
    go true h = omega arith
    go false h = omega arith

-- columns are spaces and what stands after them
spaces_before : (cs : List ℕ) → cs ≡ replicate (length cs - length (after_spaces cs)) 32 ++ after_spaces cs
unfolding after_spaces
spaces_before [] = refl
spaces_before (c ∷ cs) = go (eqb c 32) refl (spaces_before cs) (after_shorter cs)
  where
    rest : Bool → List ℕ
    rest b = if b then after_spaces cs else c ∷ cs

    go : (b : Bool) → eqb c 32 ≡ b → cs ≡ replicate (length cs - length (after_spaces cs)) 32 ++ after_spaces cs
        → length (after_spaces cs) ≤ length cs → c ∷ cs ≡ replicate (suc (length cs) - length (rest b)) 32 ++ rest b
    go true e q h =
        let n : suc (length cs) - length (after_spaces cs) ≡ suc (length cs - length (after_spaces cs)) = omega arith in
        rw (n, eqb-true c 32 e) (ap (λ (l : List ℕ). 32 ∷ l) q)
    go false e q h = let n : suc (length cs) - suc (length cs) ≡ 0 = omega arith in rw n

-- A right field is the text of its number
pub right_text : (cs : List ℕ) → is_field cs ≡ true → cs ≡ field_text (number cs)
unfolding is_field number
right_text cs h =
    let six : length cs ≡ 6 = eqb-true (length cs) 6 (and_left (eqb (length cs) 6) (is_numeral (after_spaces cs)) h) in
    let form : is_numeral (after_spaces cs) ≡ true = and_right (eqb (length cs) 6) (is_numeral (after_spaces cs)) h in
    let short : length (after_spaces cs) ≤ 6 = omega (arith, after_shorter cs) in
    spaces_before cs ∙ rw six (numeral_text (after_spaces cs) short form)

-- a numeral with one digit more
decimal_snoc : (ds : List ℕ) (n c : ℕ) → decimal n (ds ++ c ∷ []) ≡ 10 * decimal n ds + (c - 48)
unfolding decimal
decimal_snoc [] n c = refl
decimal_snoc (d ∷ ds) n c = decimal_snoc ds (10 * n + (d - 48)) c

every_snoc : (ds : List ℕ) (c : ℕ) → every is_digit ds ≡ true → is_digit c ≡ true → every is_digit (ds ++ c ∷ []) ≡ true
unfolding every
every_snoc [] c h k = and_true (is_digit c) true k refl
every_snoc (d ∷ ds) c h k =
    and_true (is_digit d) (every is_digit (ds ++ c ∷ [])) (and_left (is_digit d) (every is_digit ds) h)
    (every_snoc ds c (and_right (is_digit d) (every is_digit ds) h) k)

leading_snoc : (ds : List ℕ) (c : ℕ) → no_leading_zero ds ≡ true → 1 ≤ decimal 0 ds → no_leading_zero (ds ++ c ∷ []) ≡ true
unfolding no_leading_zero decimal
leading_snoc [] c h l = refl
leading_snoc (d ∷ []) c h l = rw (ne_eqb d 48 (λ (e : d ≡ 48). omega arith))
leading_snoc (d ∷ e ∷ ds) c h l = h

-- a number's numeral, of at most k digits
record Named (k n : ℕ) : Type 0 where
  digits : List ℕ
  form : is_numeral digits ≡ true
  short : length digits ≤ k
  is : decimal 0 digits ≡ n

-- the least number of more than k digits
tens : ℕ → ℕ
tens zero = 1
tens (suc k) = 10 * tens k

one_digit : (k n : ℕ) → n < 10 → Named (suc k) n
unfolding decimal no_leading_zero every
one_digit k n s =
    let e : 10 * 0 + (48 + n - 48) ≡ n = omega arith in
    record {
      digits = (48 + n) ∷ [];
      form = numeral_right ((48 + n) ∷ []) refl (and_true (is_digit (48 + n)) true (digit_within (48 + n) (omega arith) (omega arith)) refl) (omega arith);
      short = omega arith;
      is = e;
    }

more_digits : (k n : ℕ) → n ≤ 65535 → 10 ≤ n → Named k (n / 10) → Named (suc k) n
more_digits k n l h m =
    let ds = m.digits in
    let c : ℕ = 48 + n % 10 in
    let before : decimal 0 ds ≡ n / 10 = m.is in
    let e : decimal 0 (ds ++ c ∷ []) ≡ n = omega (arith, decimal_snoc ds 0 c) in
    let s = m.short in
    record {
      digits = ds ++ c ∷ [];
      form = numeral_right (ds ++ c ∷ []) (leading_snoc ds c (numeral_leading ds m.form) (omega arith))
          (every_snoc ds c (numeral_digits ds m.form) (digit_within c (omega arith) (omega arith))) (omega arith);
      short = omega (arith, length-append ds (c ∷ []));
      is = e;
    }

named : (k n : ℕ) → n ≤ 65535 → n < tens (suc k) → Named (suc k) n
unfolding tens
named zero n l h = one_digit zero n (omega arith)
named (suc k) n l h = go (ltb n 10) refl (named k (n / 10) (omega arith) (omega arith))
  where
    go : (b : Bool) → ltb n 10 ≡ b → Named (suc k) (n / 10) → Named (suc (suc k)) n
    go true e m = one_digit (suc k) n (ltb-true n 10 e)
    go false e m = more_digits (suc k) n l (ltb-false n 10 e) m

-- spaces before a numeral are passed over
after_padding : (k : ℕ) (ds : List ℕ) → is_numeral ds ≡ true → after_spaces (replicate k 32 ++ ds) ≡ ds
unfolding after_spaces
after_padding (suc k) ds h = after_padding k ds h
after_padding zero [] h = refl
after_padding zero (c ∷ cs) h =
    let d = (digits (c ∷ cs) (numeral_digits (c ∷ cs) h)).0 in
    rw (ne_eqb c 32 (λ (e : c ≡ 32). omega (arith, d)))

-- The text of a number is a right field and shows that number
pub record Readable (n : ℕ) (cs : List ℕ) : Type 0 where
  pub form : is_field cs ≡ true
  pub is : number cs ≡ n

padded_right : (ds : List ℕ) → is_numeral ds ≡ true → length ds ≤ 6 → Readable (decimal 0 ds) (padded ds)
unfolding is_field number
padded_right ds h l =
    let e = after_padding (6 - length ds) ds h in
    let six : length (padded ds) ≡ 6 = omega (arith, length-append (replicate (6 - length ds) 32) ds, length-replicate {A = ℕ} (6 - length ds) 32) in
    record {
      form = and_true (eqb (length (padded ds)) 6) (is_numeral (after_spaces (padded ds))) (eq-eqb (length (padded ds)) 6 six) (rw e h);
      is = rw e;
    }

pub text_right : (n : ℕ) → n ≤ 65535 → Readable n (field_text n)
text_right n l =
    let m = named 5 n l (unfold tens in omega arith) in
    let t : padded m.digits ≡ field_text n = numeral_text m.digits m.short m.form ∙ ap field_text m.is in
    subst₂ Readable m.is t (padded_right m.digits m.form m.short)

-- The columns of a number are spaces and digits, and so no line end
column_printed : (n w : ℕ) → 32 ≤ column_of n w
unfolding column_of
column_printed n w = go (leb w n or eqb w 1)
  where
    go : (b : Bool) → 32 ≤ (if b then 48 + n / w % 10 else 32)
    go true = omega arith
    go false = omega arith

pub text_printed : (n i : ℕ) → i < 6 → 32 ≤ get_or (field_text n) i 0
unfolding field_text
text_printed n i l = go (100000 ∷ 10000 ∷ 1000 ∷ 100 ∷ 10 ∷ 1 ∷ []) i l
  where
    go : (ws : List ℕ) (i : ℕ) → i < length ws → 32 ≤ get_or (map (column_of n) ws) i 0
    go [] i l = absurd (omega arith)
    go (w ∷ ws) zero l = column_printed n w
    go (w ∷ ws) (suc i) l = go ws i (omega arith)
