-- The bytes of a line by its columns, and the bytes of a page by its lines.
use Prim.Native.Nat.{ℕ, zero, suc, ◌+◌, ◌-◌, ◌*◌, ◌<◌, ◌≤◌}
use mathlib.Core.Path.{◌≡◌, sym, subst, ◌∙◌, ap}
use mathlib.Core.Bool.{Bool, true, false}
use mathlib.Core.List.{List, [], ◌∷◌, ◌++◌}
use native.Mathlib.Omega.{arith}
use native.Mathlib.Decide.{dec_lt}
use lib.Dec.{eqb}
use lib.ListN.{length, get_or, drop, length-append, length-drop, get_or-append}
use lib.Seq.{get_or-append-add, get_or-drop}
use Rattle.std.specs.Prelude.{if◌then◌else◌}
use Rattle.logic.proofs.Listed.{listed_at}
use Rattle.writing.specs.Text.{field_text}
use Rattle.writing.proofs.Writing.{length_text}
use Rattle.laws_writing.proofs.Spelling.{text_printed}
use Rattle.model.specs.Listing.{joined}
use Rattle.charts.specs.Page.{cycles_columns, value_column, page_cycles, line_columns, line_bytes, glyph, chosen, charted, last_cycle}
use Rattle.charts.specs.Text.{spaces, head_text, row_text, chart_row, page_text, printed_on}
use Rattle.charts.proofs.Writing.{cycles_text, head_columns, length_cycles, length_head_columns, length_head, glyphs, number_text, values_text, row_columns, length_number, length_values, length_row_columns, length_row, length_joined, length_page}

-- the byte at a place of two texts, of the first or of the second
module _ (xs ys : List ℕ) (i : ℕ) where
  at_first : i < length xs → get_or (xs ++ ys) i 0 ≡ get_or xs i 0
  at_first = get_or-append xs ys 0 i

  at_second : (j : ℕ) → i ≡ length xs + j → get_or (xs ++ ys) i 0 ≡ get_or ys j 0
  at_second j e = ap (λ (m : ℕ). get_or (xs ++ ys) m 0) e ∙ get_or-append-add xs ys j 0

space_at : (n i : ℕ) → i < n → get_or (spaces n) i 0 ≡ 32
space_at n i l = listed_at n (λ _. 32) i l

-- a value is printed above the space
glyph_printed : (v : ℕ) → 32 ≤ glyph v
unfolding glyph
glyph_printed v = go (eqb v 0) (eqb v 1) (eqb v 2)
  where
    go : (a b c : Bool) → 32 ≤ (if a then 48 else if b then 48 + 1 else if c then 85 else 90)
    go true b c = omega arith
    go false true c = omega arith
    go false false true = omega arith
    go false false false = omega arith

-- the first line
module _ (first last : ℕ) where
  head_column : (i : ℕ) → i < line_columns → get_or (head_text first last) i 0 ≡ get_or (head_columns first last) i 0
  unfolding head_text
  head_column i l = at_first (head_columns first last) (10 ∷ []) i (omega (arith, length_head_columns first last))

  pub head_first : (i : ℕ) → i < 6 → get_or (head_text first last) i 0 ≡ get_or (field_text first) i 0
  head_first i l =
      head_column i (omega arith)
      ∙ at_first (cycles_text first last) (spaces (line_columns - cycles_columns)) i (omega (arith, length_cycles first last))
      ∙ at_first (field_text first) (field_text last) i (omega (arith, length_text first))

  pub head_last : (i : ℕ) → i < 6 → get_or (head_text first last) (6 + i) 0 ≡ get_or (field_text last) i 0
  head_last i l =
      head_column (6 + i) (omega arith)
      ∙ at_first (cycles_text first last) (spaces (line_columns - cycles_columns)) (6 + i) (omega (arith, length_cycles first last))
      ∙ at_second (field_text first) (field_text last) (6 + i) i (omega (arith, length_text first))

  pub head_spaces : (i : ℕ) → cycles_columns ≤ i → i < line_columns → get_or (head_text first last) i 0 ≡ 32
  head_spaces i low l =
      head_column i l
      ∙ at_second (cycles_text first last) (spaces (line_columns - cycles_columns)) i (i - cycles_columns) (omega (arith, length_cycles first last))
      ∙ space_at (line_columns - cycles_columns) (i - cycles_columns) (omega arith)

  pub head_end : get_or (head_text first last) line_columns 0 ≡ 10
  unfolding head_text
  head_end = at_second (head_columns first last) (10 ∷ []) line_columns 0 (omega (arith, length_head_columns first last))

  pub head_printed : (i : ℕ) → i < line_columns → 32 ≤ get_or (head_text first last) i 0
  head_printed i l = go (dec_lt i 6) (dec_lt i cycles_columns)
    where
      go : Dec (i < 6) → Dec (i < cycles_columns) → 32 ≤ get_or (head_text first last) i 0
      go (yes a) b = rw (head_first i a) (text_printed first i a)
      go (no a) (yes b) =
          let place : i ≡ 6 + (i - 6) = omega arith in
          subst (λ (m : ℕ). 32 ≤ get_or (head_text first last) m 0) (sym place) (rw (head_last (i - 6) (omega arith)) (text_printed last (i - 6) (omega arith)))
      go (no a) (no b) = omega (arith, head_spaces i (omega arith) l)

-- the line of a signal
module _ (signal cycles : ℕ) (value : ℕ → ℕ) (few : cycles ≤ page_cycles) where
  abbrev line : List ℕ
  line = row_text signal cycles value

  row_column : (i : ℕ) → i < line_columns → get_or line i 0 ≡ get_or (row_columns signal cycles value) i 0
  unfolding row_text
  row_column i l = at_first (row_columns signal cycles value) (10 ∷ []) i (omega (arith, length_row_columns signal cycles value few))

  row_value : (i : ℕ) → i < value_column + cycles → get_or line i 0 ≡ get_or (values_text signal cycles value) i 0
  row_value i l =
      row_column i (omega arith)
      ∙ at_first (values_text signal cycles value) (spaces (line_columns - (value_column + cycles))) i (omega (arith, length_values signal cycles value))

  row_begins : (i : ℕ) → i < value_column → get_or line i 0 ≡ get_or (number_text signal cycles value) i 0
  row_begins i l =
      row_value i (omega arith)
      ∙ at_first (number_text signal cycles value) (glyphs signal cycles value) i (omega (arith, length_number signal cycles value))

  pub row_signal : (i : ℕ) → i < 6 → get_or line i 0 ≡ get_or (field_text signal) i 0
  row_signal i l = row_begins i (omega arith) ∙ at_first (field_text signal) (spaces 2) i (omega (arith, length_text signal))

  pub row_two_spaces : (i : ℕ) → 6 ≤ i → i < value_column → get_or line i 0 ≡ 32
  row_two_spaces i low l =
      row_begins i l ∙ at_second (field_text signal) (spaces 2) i (i - 6) (omega (arith, length_text signal)) ∙ space_at 2 (i - 6) (omega arith)

  pub row_glyph : (c : ℕ) → c < cycles → get_or line (value_column + c) 0 ≡ glyph (value c)
  row_glyph c l =
      row_value (value_column + c) (omega arith)
      ∙ at_second (number_text signal cycles value) (glyphs signal cycles value) (value_column + c) c (omega (arith, length_number signal cycles value))
      ∙ listed_at cycles (λ k. glyph (value k)) c l

  pub row_spaces : (i : ℕ) → value_column + cycles ≤ i → i < line_columns → get_or line i 0 ≡ 32
  row_spaces i low l =
      row_column i l
      ∙ at_second (values_text signal cycles value) (spaces (line_columns - (value_column + cycles))) i (i - (value_column + cycles)) (omega (arith, length_values signal cycles value))
      ∙ space_at (line_columns - (value_column + cycles)) (i - (value_column + cycles)) (omega arith)

  pub row_end : get_or line line_columns 0 ≡ 10
  unfolding row_text
  row_end = at_second (row_columns signal cycles value) (10 ∷ []) line_columns 0 (omega (arith, length_row_columns signal cycles value few))

  pub row_printed : (i : ℕ) → i < line_columns → 32 ≤ get_or line i 0
  row_printed i l = go (dec_lt i 6) (dec_lt i value_column) (dec_lt i (value_column + cycles))
    where
      go : Dec (i < 6) → Dec (i < value_column) → Dec (i < value_column + cycles) → 32 ≤ get_or line i 0
      go (yes a) b c = rw (row_signal i a) (text_printed signal i a)
      go (no a) (yes b) c = omega (arith, row_two_spaces i (omega arith) b)
      go (no a) (no b) (yes c) =
          let place : i ≡ value_column + (i - value_column) = omega arith in
          subst (λ (m : ℕ). 32 ≤ get_or line m 0) (sym place) (rw (row_glyph (i - value_column) (omega arith)) (glyph_printed (value (i - value_column))))
      go (no a) (no b) (no c) = omega (arith, row_spaces i (omega arith) l)

-- a byte of lines, one after the other
joined_at : (f : ℕ → List ℕ) → ((k : ℕ) → length (f k) ≡ line_bytes) → (n k i : ℕ) → k < n → i < line_bytes
    → get_or (joined n f) (line_bytes * k + i) 0 ≡ get_or (f k) i 0
unfolding joined
joined_at f each zero k i h l = absurd (omega arith)
joined_at f each (suc n) k i h l = go (dec_lt k n) (λ b. joined_at f each n k i b l)
  where
    go : Dec (k < n) → (k < n → get_or (joined n f) (line_bytes * k + i) 0 ≡ get_or (f k) i 0)
        → get_or (joined n f ++ f n) (line_bytes * k + i) 0 ≡ get_or (f k) i 0
    go (yes b) before = at_first (joined n f) (f n) (line_bytes * k + i) (omega (arith, length_joined line_bytes f each n)) ∙ before b
    go (no b) before =
        let last : k ≡ n = omega arith in
        at_second (joined n f) (f n) (line_bytes * k + i) i (omega (arith, length_joined line_bytes f each n)) ∙ ap (λ (m : ℕ). get_or (f m) i 0) (sym last)

-- a page
module _ (signals values old : List ℕ) (count first_cycle cycles : ℕ) (few : cycles ≤ page_cycles) where
  abbrev text : List ℕ
  text = page_text signals values count first_cycle cycles

  abbrev page : List ℕ
  page = printed_on old text

  pub page_size : line_bytes * suc count ≤ length old → length page ≡ length old
  unfolding printed_on
  page_size room =
      length-append text (drop (length text) old) ∙ omega (arith, length-drop (length text) old, length_page signals values count first_cycle cycles few)

  page_text_lem : (i : ℕ) → i < line_bytes * suc count → get_or page i 0 ≡ get_or text i 0
  unfolding printed_on
  page_text_lem i l = at_first text (drop (length text) old) i (omega (arith, length_page signals values count first_cycle cycles few))

  pub page_head : (i : ℕ) → i < line_bytes → get_or page (line_bytes * 0 + i) 0 ≡ get_or (head_text first_cycle (last_cycle first_cycle cycles)) i 0
  unfolding page_text
  page_head i l =
      let place : line_bytes * 0 + i ≡ i = omega arith in
      ap (λ (m : ℕ). get_or page m 0) place
      ∙ page_text_lem i (omega arith)
      ∙ at_first (head_text first_cycle (last_cycle first_cycle cycles)) (joined count (chart_row signals values cycles)) i
      (omega (arith, length_head first_cycle (last_cycle first_cycle cycles)))

  pub page_row : (k i : ℕ) → k < count → i < line_bytes → get_or page (line_bytes * suc k + i) 0 ≡ get_or (chart_row signals values cycles k) i 0
  unfolding page_text
  page_row k i h l =
      page_text_lem (line_bytes * suc k + i) (omega arith)
      ∙ at_second (head_text first_cycle (last_cycle first_cycle cycles)) (joined count (chart_row signals values cycles)) (line_bytes * suc k + i) (line_bytes * k + i)
      (omega (arith, length_head first_cycle (last_cycle first_cycle cycles)))
      ∙ joined_at (chart_row signals values cycles) (λ j. length_row (chosen signals j) cycles (charted values j) few) count k i h l

  pub page_others : (i : ℕ) → line_bytes * suc count ≤ i → get_or page i 0 ≡ get_or old i 0
  unfolding printed_on
  page_others i l =
      let long = length_page signals values count first_cycle cycles few in
      let rest = i - length text in
      let place : i ≡ length text + rest = omega (arith, long) in
      at_second text (drop (length text) old) i rest place
      ∙ get_or-drop (length text) old rest 0
      ∙ ap (λ (m : ℕ). get_or old m 0) (sym place)
