-- Texts stored one after the other: a list byte by byte, the two kinds of lines from their pieces, the page line by line.
use Prim.Native.Nat.{ℕ, zero, suc, ◌+◌, ◌-◌, ◌*◌, ◌<◌, ◌≤◌}
use mathlib.Core.Path.{◌≡◌, refl, sym, ◌∙◌, ap, ap₂}
use borrow.Rule.Slice.PartMut.{put_mid}
use Rattle.fields.specs.Field.{space}
use Rattle.std.proofs.lemmas.List.{length-take, length-drop}
use mathlib.Core.List.{List, [], ◌∷◌, ◌++◌}
use native.Mathlib.Omega.{arith}
use native.Mathlib.Numerals.{add-one}
use lib.ListN.{length, set, take, drop, get_or, replicate, length-append}
use lib.Seq.{sets, length-sets, sets-eq}
use Rattle.logic.specs.Listed.{listed}
use Rattle.logic.proofs.Listed.{listed_length, listed_more, listed_same, filled}
use Rattle.writing.specs.Text.{field_text}
use Rattle.writing.proofs.Writing.{length_text, sets_append, put_sets}
use Rattle.model.specs.Listing.{joined}
use Rattle.charts.specs.Page.{page_cycles, line_columns, line_bytes, number_columns, cycles_columns, value_column, chosen, charted, glyph, last_cycle}
use Rattle.charts.specs.Text.{spaces, head_text, row_text, chart_row, page_text, printed_on}

-- a text stored where another one ends
module _ (l xs ys : List ℕ) (i j : ℕ) {mid last : List ℕ} where
  pub joins : last ≡ sets mid j ys → mid ≡ sets l i xs → j ≡ i + length xs → last ≡ sets l i (xs ++ ys)
  joins e m place = e ∙ ap (λ (r : List ℕ). sets r j ys) m ∙ sets_append l xs ys i j place

pub spaces_put : (l new : List ℕ) (at count : ℕ) → at + count ≤ length l → new ≡ replicate (length (take (at + count - at) (drop at l))) space
    → put_mid at (at + count - at) l new ≡ sets l at (spaces count)
spaces_put l new at count inside e =
    let part : at + count - at ≡ count = omega arith in
    let size : length (take (at + count - at) (drop at l)) ≡ count = omega (arith, length-take (at + count - at) (drop at l), length-drop at l) in
    ap₂ (λ (k : ℕ) (xs : List ℕ). put_mid at k l xs) part (e ∙ ap (λ (n : ℕ). replicate n space) size ∙ filled count space)
    ∙ put_sets l (spaces count) at count (sym (listed_length count (λ _. space))) inside

-- pieces of one length
pub length_joined : (w : ℕ) (f : ℕ → List ℕ) → ((k : ℕ) → length (f k) ≡ w) → (n : ℕ) → length (joined n f) ≡ w * n
unfolding joined
length_joined w f each zero = omega arith
length_joined w f each (suc n) = length-append (joined n f) (f n) ∙ omega (arith, length_joined w f each n, each n)

-- a list as pieces of one byte
pub bytes_joined : (f : ℕ → ℕ) (n : ℕ) → joined n (λ k. f k ∷ []) ≡ listed n f
unfolding joined listed
bytes_joined f zero = refl
bytes_joined f (suc n) = ap (λ (r : List ℕ). r ++ f n ∷ []) (bytes_joined f n) ∙ listed_more n f

-- of n pieces, stored one after the other at a place, the first k
pub record StoredUpTo (l : List ℕ) (at : ℕ) (f : ℕ → List ℕ) (n k : ℕ) (out : List ℕ) : Type 0 where
  pub low : k ≤ n
  pub bytes : out ≡ sets l at (joined k f)

pub stored_starts : (l : List ℕ) (at : ℕ) (f : ℕ → List ℕ) (n : ℕ) → StoredUpTo l at f n 0 l
unfolding joined
stored_starts l at f n = record { low = omega arith; bytes = refl }

module _ {l : List ℕ} {at : ℕ} {f : ℕ → List ℕ} {n k : ℕ} {out : List ℕ} (stored : StoredUpTo l at f n k out) where
  pub stored_length : length out ≡ length l
  stored_length = ap length stored.bytes ∙ length-sets l at (joined k f)

  pub stored_more : (w : ℕ) {place : ℕ} {next : List ℕ} → ((j : ℕ) → length (f j) ≡ w) → k < n → place ≡ at + w * k → next ≡ sets out place (f k)
      → StoredUpTo l at f n (k + 1) next
  unfolding joined
  stored_more w {place} each h is e =
      record {
        low = omega arith;
        bytes = rw add-one (joins l (joined k f) (f k) at place e stored.bytes (omega (arith, length_joined w f each k)));
      }

  pub stored_ends : n ≤ k → out ≡ sets l at (joined n f)
  stored_ends high =
      let end : k ≡ n = omega (arith, stored.low) in
      stored.bytes ∙ ap (λ (m : ℕ). sets l at (joined m f)) end

-- the first line, piece by piece
module _ (first last : ℕ) where
  abbrev pub cycles_text : List ℕ
  cycles_text = field_text first ++ field_text last

  pub length_cycles : length cycles_text ≡ cycles_columns
  length_cycles = length-append (field_text first) (field_text last) ∙ omega (arith, length_text first, length_text last)

  abbrev pub head_columns : List ℕ
  head_columns = cycles_text ++ spaces (line_columns - cycles_columns)

  pub length_head_columns : length head_columns ≡ line_columns
  length_head_columns =
      length-append cycles_text (spaces (line_columns - cycles_columns)) ∙ omega (arith, length_cycles, listed_length (line_columns - cycles_columns) (λ _. 32))

  pub length_head : length (head_text first last) ≡ line_bytes
  unfolding head_text
  length_head = length-append head_columns (10 ∷ []) ∙ omega (arith, length_head_columns)

  module _ (l a b c : List ℕ) where
    pub head_stored : a ≡ sets l 0 (field_text first) → b ≡ sets a number_columns (field_text last) → c ≡ sets b cycles_columns (spaces (line_columns - cycles_columns))
        → set c line_columns 10 ≡ sets l 0 (head_text first last)
    unfolding head_text
    head_stored ea eb ec =
        let two = joins l (field_text first) (field_text last) 0 number_columns eb ea (omega (arith, length_text first)) in
        let three = joins l cycles_text (spaces (line_columns - cycles_columns)) 0 cycles_columns ec two (omega (arith, length_cycles)) in
        joins l head_columns (10 ∷ []) 0 line_columns refl three (omega (arith, length_head_columns))

-- a signal's line, piece by piece
module _ (signal cycles : ℕ) (value : ℕ → ℕ) where
  abbrev pub glyphs : List ℕ
  glyphs = listed cycles (λ k. glyph (value k))

  abbrev pub number_text : List ℕ
  number_text = field_text signal ++ spaces 2

  pub length_number : length number_text ≡ value_column
  length_number = length-append (field_text signal) (spaces 2) ∙ omega (arith, length_text signal, listed_length 2 (λ _. 32))

  abbrev pub values_text : List ℕ
  values_text = number_text ++ glyphs

  pub length_values : length values_text ≡ value_column + cycles
  length_values = length-append number_text glyphs ∙ omega (arith, length_number, listed_length cycles (λ k. glyph (value k)))

  abbrev pub row_columns : List ℕ
  row_columns = values_text ++ spaces (line_columns - (value_column + cycles))

  module _ (few : cycles ≤ page_cycles) where
    pub length_row_columns : length row_columns ≡ line_columns
    length_row_columns =
        length-append values_text (spaces (line_columns - (value_column + cycles)))
        ∙ omega (arith, length_values, listed_length (line_columns - (value_column + cycles)) (λ _. 32))

    pub length_row : length (row_text signal cycles value) ≡ line_bytes
    unfolding row_text
    length_row = length-append row_columns (10 ∷ []) ∙ omega (arith, length_row_columns)

    module _ (at : ℕ) (l a b c d : List ℕ) where
      pub row_stored : a ≡ sets l at (field_text signal) → b ≡ sets a (at + number_columns) (spaces 2) → c ≡ sets b (at + value_column) glyphs
          → d ≡ sets c (at + (value_column + cycles)) (spaces (line_columns - (value_column + cycles)))
          → set d (at + line_columns) 10 ≡ sets l at (row_text signal cycles value)
      unfolding row_text
      row_stored ea eb ec ed =
          let two = joins l (field_text signal) (spaces 2) at (at + number_columns) eb ea (omega (arith, length_text signal)) in
          let three = joins l number_text glyphs at (at + value_column) ec two (omega (arith, length_number)) in
          let four = joins l values_text (spaces (line_columns - (value_column + cycles))) at (at + (value_column + cycles)) ed three (omega (arith, length_values)) in
          joins l row_columns (10 ∷ []) at (at + line_columns) refl four (omega (arith, length_row_columns))

row_same : (signal cycles : ℕ) {f g : ℕ → ℕ} → ((c : ℕ) → c < cycles → f c ≡ g c) → row_text signal cycles f ≡ row_text signal cycles g
unfolding row_text
row_same signal cycles same =
    ap (λ (t : List ℕ). field_text signal ++ spaces 2 ++ t ++ spaces (line_columns - (value_column + cycles)) ++ 10 ∷ [])
    (listed_same cycles _ _ (λ c low. ap glyph (same c low)))

-- the lines of the signals
module _ (signals values : List ℕ) (cycles : ℕ) (few : cycles ≤ page_cycles) where
  length_each : (k : ℕ) → length (chart_row signals values cycles k) ≡ line_bytes
  length_each k = length_row (chosen signals k) cycles (charted values k) few

  pub length_rows : (k : ℕ) → length (joined k (chart_row signals values cycles)) ≡ line_bytes * k
  length_rows = length_joined line_bytes (chart_row signals values cycles) length_each

  pub rows_more : {l out next : List ℕ} {n k signal : ℕ} (row : List ℕ) → StoredUpTo l line_bytes (chart_row signals values cycles) n k out → k < n
      → signal ≡ chosen signals k → length row ≡ cycles → ((c : ℕ) → c < cycles → get_or row c 0 ≡ charted values k c)
      → next ≡ sets out (line_bytes * (k + 1)) (row_text signal (length row) (λ c. get_or row c 0))
      → StoredUpTo l line_bytes (chart_row signals values cycles) n (k + 1) next
  rows_more {out = out} {k = k} row stored h is size same e =
      stored_more stored line_bytes {place = line_bytes * (k + 1)} length_each h (omega arith)
      (e ∙ ap (sets out (line_bytes * (k + 1))) (ap₂ (λ (s n : ℕ). row_text s n (λ c. get_or row c 0)) is size ∙ row_same (chosen signals k) cycles same))

-- the whole page
module _ (signals values : List ℕ) (count first_cycle cycles : ℕ) (few : cycles ≤ page_cycles) where
  abbrev rows_text : List ℕ
  rows_text = joined count (chart_row signals values cycles)

  pub length_page : length (page_text signals values count first_cycle cycles) ≡ line_bytes * (count + 1)
  unfolding page_text
  length_page =
      length-append (head_text first_cycle (last_cycle first_cycle cycles)) rows_text
      ∙ omega (arith, length_head first_cycle (last_cycle first_cycle cycles), length_rows signals values cycles few count)

  module _ (l head page : List ℕ) where
    pub page_stored : line_bytes * (count + 1) ≤ length l → (last : ℕ) → last ≡ last_cycle first_cycle cycles
        → head ≡ sets l 0 (head_text first_cycle last) → page ≡ sets head line_bytes rows_text
        → page ≡ printed_on l (page_text signals values count first_cycle cycles)
    unfolding page_text printed_on
    page_stored room last is h p =
        let text : List ℕ = head_text first_cycle (last_cycle first_cycle cycles) ++ rows_text in
        let after : 0 + length text ≡ length text = omega arith in
        joins l (head_text first_cycle (last_cycle first_cycle cycles)) rows_text 0 line_bytes p
        (h ∙ ap (λ (x : ℕ). sets l 0 (head_text first_cycle x)) is)
        (omega (arith, length_head first_cycle (last_cycle first_cycle cycles)))
        ∙ sets-eq text l 0 (omega (arith, length_page))
        ∙ ap (λ (m : ℕ). text ++ drop m l) after
