-- The columns at a place of a file, and what reading them answers.
use Prim.Native.Nat.{ℕ, suc, ◌+◌, ◌<◌, ◌≤◌}
use mathlib.Core.Path.{◌≡◌, refl}
use mathlib.Core.Bool.{Bool, true, false}
use mathlib.Core.List.{List, [], ◌∷◌}
use native.Mathlib.Omega.{arith}
use native.Mathlib.Numerals.{towards_suc}
use mathlib.Core.Logic.{◌⊎◌, inl, inr}
use lib.ListN.{length, get_or, take, drop, length-take, length-drop}
use lib.Seq.{drop-cons, take-length}
use borrow.Author.Tests.{ne_eqb, eq-eqb}
use Rattle.std.specs.Prelude.{Some, None}
use Rattle.std.specs.List.{slice_range}
use Rattle.logic.specs.Test.{◌and◌}
use Rattle.fields.specs.Field.{columns_at, is_field, is_field_at, is_numeral, after_spaces, number}
use Rattle.fields.specs.Reading.{read_field}
use Rattle.fields.specs.Scan.{scans, number_of}
use lib.Dec.{eqb}
use Rattle.fields.specs.declared.Scan.{Scan}
use Rattle.fields.specs.declared.Scan.TheVariants.{Blank, Digits}
use Rattle.fields.proofs.Scanning.{scans_numeral, scans_found}

abbrev pub six : List ℕ → ℕ → List ℕ
six l at =
    get_or l at 0 ∷ get_or l (at + 1) 0 ∷ get_or l (at + 2) 0 ∷ get_or l (at + 3) 0 ∷ get_or l (at + 4) 0 ∷ get_or l (at + 5) 0 ∷ []

pub columns_six : (l : List ℕ) (at : ℕ) → at + 6 ≤ length l → columns_at l at ≡ six l at
columns_six l at h =
    rw (
      drop-cons l at 0 (omega arith),
      drop-cons l (suc at) 0 (omega arith),
      drop-cons l (suc (suc at)) 0 (omega arith),
      drop-cons l (suc (suc (suc at))) 0 (omega arith),
      drop-cons l (suc (suc (suc (suc at)))) 0 (omega arith),
      drop-cons l (suc (suc (suc (suc (suc at))))) 0 (omega arith),
    )
    (simp towards_suc)

-- six columns are a right field if they are spaces and a numeral
pub six_field : (l : List ℕ) (at : ℕ) → at + 6 ≤ length l → is_field_at l at ≡ is_numeral (after_spaces (six l at))
unfolding is_field ◌and◌
six_field l at h = rw (columns_six l at h)

-- what scanning six columns finds
module _ (l : List ℕ) (at : ℕ) (h : at + 6 ≤ length l) where
  six_columns : eqb (length (columns_at l at)) 6 ≡ true
  six_columns = eq-eqb (length (columns_at l at)) 6 (omega (arith, length-take 6 (drop at l), length-drop at l))

  pub field_found : (s : Scan) (n : ℕ) → scans Blank (columns_at l at) ≡ Some s → number_of s ≡ Some n → read_field l at ≡ Some (n, at + 6)
  unfolding read_field is_field number ◌and◌
  field_found (Digits m) n e q =
      let f = scans_found (columns_at l at) m e in
      let same : m ≡ n = cc in
      rw (six_columns, f.form, f.is, same)
  field_found Blank n e q = absurd (let z : ◌≡◌ {A = ℕ} 0 1 = cc in omega arith)

  missed : ((m : ℕ) → scans Blank (columns_at l at) ≡ Some (Digits m) → ⊥) → read_field l at ≡ None
  unfolding read_field is_field ◌and◌
  missed other = go (is_numeral (after_spaces (columns_at l at))) refl
    where
      go : (b : Bool) → is_numeral (after_spaces (columns_at l at)) ≡ b → read_field l at ≡ None
      go false e = rw (six_columns, e)
      go true e = absurd (other (number (columns_at l at)) (scans_numeral (columns_at l at) e))

  pub scan_missed : scans Blank (columns_at l at) ≡ None → read_field l at ≡ None
  scan_missed e = missed (λ m q. let z : ◌≡◌ {A = ℕ} 0 1 = cc in omega arith)

  pub number_missed : (s : Scan) → scans Blank (columns_at l at) ≡ Some s → number_of s ≡ None → read_field l at ≡ None
  number_missed Blank e q = missed (λ m f. let z : ◌≡◌ {A = ℕ} 0 1 = cc in omega arith)
  number_missed (Digits m) e q = absurd (let z : ◌≡◌ {A = ℕ} 0 1 = cc in omega arith)

-- a piece of a field, at the end of a file, is none
pub field_cut : (l : List ℕ) (at : ℕ) → length l < at + 6 → is_field_at l at ≡ false
unfolding is_field ◌and◌
field_cut l at h =
    rw (ne_eqb (length (columns_at l at)) 6 (λ (e : length (columns_at l at) ≡ 6). omega (arith, length-take 6 (drop at l), length-drop at l)))

pub field_none : (l : List ℕ) (at : ℕ) → length l < at + 6 → read_field l at ≡ None
unfolding read_field
field_none l at h = rw (field_cut l at h)

-- the columns as the code takes them: all bytes from the place on, and the first six of these; and where there are none
pub columns_taken : (l : List ℕ) (at : ℕ) {rest columns : List ℕ} → rest ≡ slice_range l at (length l) → columns ≡ take 6 rest
    → columns ≡ columns_at l at
columns_taken l at {rest} {columns} e q = rw (q, e, ← length-drop at l, take-length (drop at l))

pub place_missed : (l : List ℕ) (at : ℕ) → (length l < at) ⊎ (length l < length l) → read_field l at ≡ None
place_missed l at (inl h) = field_none l at (omega arith)
place_missed l at (inr h) = absurd (omega arith)
