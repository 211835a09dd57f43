-- What is written is read back, and a right field or line is the text of its numbers: the format is one to one.
use Prim.Native.Nat.{ℕ, zero, suc, ◌+◌, ◌*◌, ◌<◌, ◌≤◌}
use mathlib.Core.Path.{◌≡◌, refl, sym, ◌∙◌, ap, ap₂, subst}
use mathlib.Core.Bool.{Bool, true, false}
use mathlib.Core.List.{List, [], ◌∷◌, ◌++◌, flat_map, append_assoc}
use native.Mathlib.Omega.{arith}
use lib.Dec.{eqb, ltb}
use lib.ListN.{length, get_or, take, drop, length-append, get_or-eq_default}
use lib.Seq.{take_at, drop-append_seam, get_or-append-add, get_or-append_seam, take-add, drop-drop, drop-cons}
use borrow.Author.Tests.{eq-eqb, eqb-true, ltb-true, ltb-false}
use Rattle.logic.specs.Test.{◌and◌, all}
use Rattle.logic.proofs.Tests.{and_left, and_right, all_at, all_true}
use Rattle.fields.specs.Field.{columns_at, is_field_at, number_at, number}
use Rattle.fields.specs.Line.{is_line_at, newline, line_length}
use Rattle.fields.specs.Numbers.{numbers_at}
use Rattle.fields.specs.Reading.{read_field, read_line}
use Rattle.std.specs.Prelude.{Some}
use Rattle.writing.specs.Text.{field_text, line_text}
use Rattle.laws_writing.proofs.Spelling.{right_text, text_right, Readable}
use Rattle.writing.proofs.Writing.{length_text, length_fields}

-- numbers that a field can show
pub data Small : List ℕ → Type 0 where
  none : Small []
  more : {n : ℕ} {ns : List ℕ} → n ≤ 65535 → Small ns → Small (n ∷ ns)

columns_written : (pre post : List ℕ) (n at : ℕ) → at ≡ length pre → columns_at (pre ++ (field_text n ++ post)) at ≡ field_text n
columns_written pre post n at e =
    rw (e, drop-append_seam pre (field_text n ++ post)) (take_at (field_text n) post 6 (length_text n))

-- A field that was written is read back, wherever it stands
pub field_read_back : (pre post : List ℕ) (n : ℕ) → n ≤ 65535
    → read_field (pre ++ (field_text n ++ post)) (length pre) ≡ Some (n, length pre + 6)
unfolding read_field
field_read_back pre post n l =
    let t = text_right n l in
    rw (columns_written pre post n (length pre) refl, t.form, t.is)

-- A right field is the text of its number
pub field_is_text : (l : List ℕ) (at : ℕ) → is_field_at l at ≡ true → columns_at l at ≡ field_text (number_at l at)
field_is_text l at h = right_text (columns_at l at) h

-- Two numbers with one text are one
pub text_one_to_one : (m n : ℕ) → m ≤ 65535 → n ≤ 65535 → field_text m ≡ field_text n → m ≡ n
text_one_to_one m n h k e = sym (text_right m h).is ∙ ap number e ∙ (text_right n k).is

-- the fields of a line that was written between other bytes
regroup : (pre xs ys post : List ℕ) → pre ++ ((xs ++ ys) ++ post) ≡ (pre ++ xs) ++ (ys ++ post)
regroup pre xs ys post = simp append_assoc

fields_written : {ns : List ℕ} → Small ns → (pre post : List ℕ) (at : ℕ) → at ≡ length pre → (k : ℕ) → k < length ns
    → Readable (get_or ns k 0) (columns_at (pre ++ (flat_map field_text ns ++ post)) (at + 6 * k))
unfolding flat_map
fields_written none pre post at e k h = absurd (omega arith)
fields_written (more {n} {ns} l s) pre post at e zero h =
    let z : at + 6 * 0 ≡ at = omega arith in
    rw (z, append_assoc (field_text n) (flat_map field_text ns) post, columns_written pre (flat_map field_text ns ++ post) n at e) (text_right n l)
fields_written (more {n} {ns} l s) pre post at e (suc k) h =
    let z : at + 6 * suc k ≡ (at + 6) + 6 * k = omega arith in
    rw (z, regroup pre (field_text n) (flat_map field_text ns) post)
    (fields_written s (pre ++ field_text n) post (at + 6) (omega (arith, length-append pre (field_text n), length_text n)) k (omega arith))

module _ {ns : List ℕ} (s : Small ns) (pre post : List ℕ) where
  -- the file in which the line stands
  abbrev file : List ℕ
  file = pre ++ (line_text ns ++ post)

  split : file ≡ pre ++ (flat_map field_text ns ++ newline ∷ post)
  unfolding line_text
  split = ap (λ (r : List ℕ). pre ++ r) (append_assoc (flat_map field_text ns) (newline ∷ []) post)

  read_at : (k : ℕ) → k < length ns → Readable (get_or ns k 0) (columns_at file (length pre + 6 * k))
  read_at k h = rw split (fields_written s pre (newline ∷ post) (length pre) refl k h)

  end_at : get_or file (length pre + 6 * length ns) 0 ≡ newline
  end_at =
      rw (split, get_or-append-add pre (flat_map field_text ns ++ newline ∷ post) (6 * length ns) 0, ← length_fields ns)
      (get_or-append_seam (flat_map field_text ns) newline post 0)

  -- A line that was written is read back, wherever it stands
  pub line_read_back : read_line file (length pre) (length ns) ≡ Some (length pre + line_length (length ns))
  unfolding read_line is_line_at ◌and◌
  line_read_back =
      rw (
        all_true (λ k. is_field_at file (length pre + 6 * k)) (length ns) (λ k h. (read_at k h).form),
        eq-eqb (get_or file (length pre + 6 * length ns) 0) newline end_at,
      )

  pub number_read_back : (k : ℕ) → k < length ns → number_at file (length pre + 6 * k) ≡ get_or ns k 0
  number_read_back k h = (read_at k h).is

-- A right line is the text of its numbers
fields_are_text : (l : List ℕ) (n at : ℕ) → ((k : ℕ) → k < n → is_field_at l (at + 6 * k) ≡ true)
    → take (6 * n) (drop at l) ≡ flat_map field_text (numbers_at l at n)
unfolding flat_map numbers_at
fields_are_text l zero at h = refl
fields_are_text l (suc n) at h =
    let z : at + 6 * 0 ≡ at = omega arith in
    let here : is_field_at l at ≡ true = subst (λ (k : ℕ). is_field_at l k ≡ true) z (h 0 (omega arith)) in
    let e : 6 * suc n ≡ 6 + 6 * n = omega arith in
    rw (e, take-add 6 (6 * n) (drop at l), drop-drop 6 at l)
    (ap₂ (λ (a b : List ℕ). a ++ b) (field_is_text l at here) (fields_are_text l n (at + 6) next))
  where
    next : (k : ℕ) → k < n → is_field_at l (at + 6 + 6 * k) ≡ true
    next k b = let z : at + 6 * suc k ≡ at + 6 + 6 * k = omega arith in
        subst (λ (j : ℕ). is_field_at l j ≡ true) z (h (suc k) (omega arith))

last_byte : (l : List ℕ) (i : ℕ) → get_or l i 0 ≡ newline → take 1 (drop i l) ≡ newline ∷ []
last_byte l i e = go (ltb i (length l)) refl
  where
    go : (b : Bool) → ltb i (length l) ≡ b → take 1 (drop i l) ≡ newline ∷ []
    go true q = rw (drop-cons l i 0 (ltb-true i (length l) q), e)
    go false q = absurd (omega (arith, get_or-eq_default l 0 (ltb-false i (length l) q)))

pub line_is_text : (l : List ℕ) (at n : ℕ) → is_line_at l at n ≡ true → take (line_length n) (drop at l) ≡ line_text (numbers_at l at n)
unfolding is_line_at line_text
line_is_text l at n h =
    rw (take-add (6 * n) 1 (drop at l), drop-drop (6 * n) at l, fields_are_text l n at (all_at right n fields), last_byte l (at + 6 * n) end)
  where
    right : ℕ → Bool
    right k = is_field_at l (at + 6 * k)

    fields : all n right ≡ true
    fields = and_left (all n right) (eqb (get_or l (at + 6 * n) 0) newline) h

    end : get_or l (at + 6 * n) 0 ≡ newline
    end = eqb-true (get_or l (at + 6 * n) 0) newline (and_right (all n right) (eqb (get_or l (at + 6 * n) 0) newline) h)
