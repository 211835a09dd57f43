-- `PageOf` leaves no byte open: two pages of which it holds are one. So what a reader finds on a page is all that a page is.
use Prim.Native.Nat.{ℕ, zero, suc, ◌+◌, ◌-◌, ◌*◌, ◌/◌, ◌%◌, ◌<◌, ◌≤◌}
use mathlib.Core.Path.{◌≡◌, sym, ◌∙◌, ap}
use mathlib.Core.List.{List}
use native.Mathlib.Omega.{arith}
use native.Mathlib.Decide.{dec_lt}
use lib.ListN.{get_or, drop}
use lib.Seq.{get_or-take, get_or-drop, ext_get_or}
use Rattle.fields.specs.Field.{columns_at}
use Rattle.writing.specs.Text.{field_text}
use Rattle.laws_writing.proofs.RoundTrip.{field_is_text}
use Rattle.charts.specs.Page.{cycles_columns, value_column, line_columns, line_bytes}
use Rattle.laws_charts.specs.Reading.{column_place, byte_at, ShowsNumber, PageOf}

-- the six columns that show a number have its text
shown_text : {page : List ℕ} {place n : ℕ} → ShowsNumber page place n → columns_at page place ≡ field_text n
shown_text {page} {place} s = field_is_text page place s.form ∙ ap field_text s.is

column_in_lem : (page : List ℕ) (place i : ℕ) → i < 6 → get_or page (place + i) 0 ≡ get_or (columns_at page place) i 0
column_in_lem page place i l = sym (get_or-take 6 (drop place page) i 0 l ∙ get_or-drop place page i 0)

-- two bytes that are one number
both : {x y z : ℕ} → x ≡ z → y ≡ z → x ≡ y
both e f = e ∙ sym f

module _ {signals values old p q : List ℕ} {count first_cycle cycles : ℕ} (a : PageOf signals values old count first_cycle cycles p)
    (b : PageOf signals values old count first_cycle cycles q) where
  -- the same columns where both show one number
  field_same : (place i n : ℕ) → ShowsNumber p place n → ShowsNumber q place n → i < 6 → get_or p (place + i) 0 ≡ get_or q (place + i) 0
  field_same place i n s t l =
      column_in_lem p place i l ∙ ap (λ (columns : List ℕ). get_or columns i 0) (shown_text s ∙ sym (shown_text t)) ∙ sym (column_in_lem q place i l)

  on_first : (i : ℕ) → i < line_columns → byte_at p 0 i ≡ byte_at q 0 i
  on_first i l = go (dec_lt i 6) (dec_lt i cycles_columns)
    where
      go : Dec (i < 6) → Dec (i < cycles_columns) → byte_at p 0 i ≡ byte_at q 0 i
      go (yes x) y = field_same 0 i first_cycle a.shows_first b.shows_first x
      go (no x) (yes y) =
          let place : column_place 0 i ≡ 6 + (i - 6) = omega arith in
          ap (λ (m : ℕ). get_or p m 0) place
          ∙ field_same 6 (i - 6) _ a.shows_last b.shows_last (omega arith)
          ∙ ap (λ (m : ℕ). get_or q m 0) (sym place)
      go (no x) (no y) = both (a.first_spaces i (omega arith) l) (b.first_spaces i (omega arith) l)

  on_signal : (k i : ℕ) → k < count → i < line_columns → byte_at p (suc k) i ≡ byte_at q (suc k) i
  on_signal k i h l = go (dec_lt i 6) (dec_lt i value_column) (dec_lt i (value_column + cycles))
    where
      go : Dec (i < 6) → Dec (i < value_column) → Dec (i < value_column + cycles) → byte_at p (suc k) i ≡ byte_at q (suc k) i
      go (yes x) y z =
          let place : column_place (suc k) i ≡ column_place (suc k) 0 + i = omega arith in
          ap (λ (m : ℕ). get_or p m 0) place
          ∙ field_same (column_place (suc k) 0) i _ (a.shows_signal k h) (b.shows_signal k h) x
          ∙ ap (λ (m : ℕ). get_or q m 0) (sym place)
      go (no x) (yes y) z = both (a.two_spaces k h i (omega arith) y) (b.two_spaces k h i (omega arith) y)
      go (no x) (no y) (yes z) =
          let column : i ≡ value_column + (i - value_column) = omega arith in
          ap (byte_at p (suc k)) column
          ∙ both (a.values_shown k h (i - value_column) (omega arith)) (b.values_shown k h (i - value_column) (omega arith))
          ∙ ap (byte_at q (suc k)) (sym column)
      go (no x) (no y) (no z) = both (a.last_spaces k h i (omega arith) l) (b.last_spaces k h i (omega arith) l)

  on_line : (line i : ℕ) → line ≤ count → i < line_bytes → byte_at p line i ≡ byte_at q line i
  on_line line i h l = go line h (dec_lt i line_columns)
    where
      go : (line : ℕ) → line ≤ count → Dec (i < line_columns) → byte_at p line i ≡ byte_at q line i
      go zero h (yes x) = on_first i x
      go (suc k) h (yes x) = on_signal k i (omega arith) x
      go line h (no x) =
          let last : i ≡ line_columns = omega arith in
          ap (byte_at p line) last ∙ both (a.ends line h) (b.ends line h) ∙ ap (byte_at q line) (sym last)

  same_byte : (i : ℕ) → get_or p i 0 ≡ get_or q i 0
  same_byte i = go (dec_lt i (line_bytes * suc count))
    where
      go : Dec (i < line_bytes * suc count) → get_or p i 0 ≡ get_or q i 0
      go (yes x) =
          let place : i ≡ column_place (i / line_bytes) (i % line_bytes) = omega arith in
          ap (λ (m : ℕ). get_or p m 0) place ∙ on_line (i / line_bytes) (i % line_bytes) (omega arith) (omega arith) ∙ ap (λ (m : ℕ). get_or q m 0) (sym place)
      go (no x) = both (a.others i (omega arith)) (b.others i (omega arith))

  pub page_exact : p ≡ q
  page_exact = ext_get_or 0 p q (both a.size b.size) (λ i l. same_byte i)
