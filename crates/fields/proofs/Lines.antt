-- What reading a line answers, from the answers of its fields.
use Prim.Native.Nat.{ℕ, ◌+◌, ◌*◌, ◌<◌, ◌≤◌}
use mathlib.Core.Path.{◌≡◌, refl, sym, ap, ◌∙◌}
use mathlib.Core.Bool.{Bool, true, false, not}
use mathlib.Core.List.{List}
use native.Mathlib.Omega.{arith}
use lib.Dec.{eqb}
use lib.ListN.{get_or}
use Rattle.logic.specs.Test.{◌and◌, all}
use Rattle.std.specs.Prelude.{if◌then◌else◌}
use Rattle.logic.proofs.Tests.{all_more, all_fails}
use Rattle.fields.specs.Field.{is_field_at, number_at}
use Rattle.fields.specs.Line.{newline, is_line_at, line_length}
use Rattle.fields.specs.Reading.{read_field, read_line}
use Rattle.std.specs.Prelude.{Option, Some, None, IfSome, is_some, Ok, Err}
use Rattle.std.specs.Option.{ok_or}

-- what the answer of a field tells
record LineRight (l : List ℕ) (at n next : ℕ) : Type 0 where
  pub form : is_field_at l at ≡ true
  pub is : number_at l at ≡ n
  pub after : next ≡ at + 6

field_right : (l : List ℕ) (at n next : ℕ) → read_field l at ≡ Some (n, next) → LineRight l at n next
unfolding read_field
field_right l at n next e = go (is_field_at l at) refl e
  where
    found : Bool → Option (ℕ × ℕ)
    found b = if b then Some (number_at l at, at + 6) else None

    go : (b : Bool) → is_field_at l at ≡ b → found b ≡ Some (n, next) → LineRight l at n next
    go true f q =
        let both : (number_at l at, at + 6) ≡ (n, next) = cc in
        record { form = f; is = ap (λ (p : ℕ × ℕ). p.0) both; after = sym (ap (λ (p : ℕ × ℕ). p.1) both) }
    go false f q = absurd (let z : ◌≡◌ {A = ℕ} 0 1 = cc in omega arith)

field_is_some : (l : List ℕ) (at : ℕ) → is_some (read_field l at) ≡ is_field_at l at
unfolding read_field
field_is_some l at = go (is_field_at l at)
  where
    go : (b : Bool) → is_some {T = ℕ × ℕ} (if b then Some (number_at l at, at + 6) else None) ≡ b
    go true = refl
    go false = refl

-- what the answer r of a line tells, where a line that is not right is refused with e
module _ (l : List ℕ) (at n : ℕ) {r : Option ℕ} (read : r ≡ read_line l at n) {E : Type 0} (e : E) where
  pub line_right : {next : ℕ} → Ok next ≡ ok_or r e → is_line_at l at n ≡ true
  unfolding read_line
  line_right {next} answer = go (is_line_at l at n) (answer ∙ ap (λ (o : Option ℕ). ok_or o e) read)
    where
      go : (b : Bool) → Ok next ≡ ok_or (if b then Some (at + line_length n) else None) e → b ≡ true
      go true q = refl
      go false q = absurd (let z : ◌≡◌ {A = ℕ} 0 1 = cc in omega arith)

  pub line_wrong : {f : E} → Err f ≡ ok_or r e → (is_line_at l at n ≡ false) × (f ≡ e)
  unfolding read_line
  line_wrong {f} answer = go (is_line_at l at n) (answer ∙ ap (λ (o : Option ℕ). ok_or o e) read)
    where
      go : (b : Bool) → Err f ≡ ok_or (if b then Some (at + line_length n) else None) e → (b ≡ false) × (f ≡ e)
      go true q = absurd (let z : ◌≡◌ {A = ℕ} 0 1 = cc in omega arith)
      go false q = (refl, cc)

-- a line of n fields read in a loop: its first k fields are right, and the next one stands at place
pub record FieldsRight (l : List ℕ) (at n k place : ℕ) : Type 0 where
  pub few : k ≤ n
  pub here : place ≡ at + 6 * k
  pub right : all k (λ j. is_field_at l (at + 6 * j)) ≡ true

pub fields_begin : {l : List ℕ} {at n place : ℕ} → place ≡ at → FieldsRight l at n 0 place
unfolding all
fields_begin e = record { few = omega arith; here = omega arith; right = refl }

module _ {l : List ℕ} {at n k place : ℕ} (read : FieldsRight l at n k place) where
  -- the answer of the next field: it is right, and the line goes on, or it is not, and the line is not
  module _ {r : Option (ℕ × ℕ)} (field : r ≡ read_field l place) (wrong : Bool) (told : is_some r ≡ not wrong) where
    there : is_field_at l (at + 6 * k) ≡ not wrong
    there = rw read.here at (sym (field_is_some l place) ∙ ap is_some (sym field) ∙ told)

    pub fields_left : k < n → wrong ≡ true → is_line_at l at n ≡ false
    unfolding is_line_at ◌and◌
    fields_left h e = rw (all_fails (λ j. is_field_at l (at + 6 * j)) n k h (there ∙ ap not e))

    pub fields_passed : k < n → wrong ≡ false → FieldsRight l at n (k + 1) (place + 6)
    fields_passed h e =
        record {
          few = omega arith;
          here = omega (arith, read.here);
          right = all_more (λ j. is_field_at l (at + 6 * j)) k read.right (there ∙ ap not e);
        }

  -- the same, of a field whose number is taken
  pub fields_stop : k < n → read_field l place ≡ None → is_line_at l at n ≡ false
  fields_stop h e = fields_left (sym e) true refl h refl

  pub fields_go_on : k < n → {m next : ℕ} → read_field l place ≡ Some (m, next) → FieldsRight l at n (k + 1) next
  fields_go_on h {m} {next} e =
      let f = field_right l (at + 6 * k) m next (rw read.here at e) in
      let passed = fields_passed (sym e) false refl h refl in
      record { few = passed.few; here = omega (arith, f.after); right = passed.right }

  pub fields_number : {m next : ℕ} → read_field l place ≡ Some (m, next) → m ≡ number_at l (at + 6 * k)
  fields_number {m} {next} e = sym (field_right l (at + 6 * k) m next (rw read.here at e)).is

  -- byte 10 decides, r being whether it stands there
  pub fields_end : n ≤ k → {r : Bool} → r ≡ eqb (get_or l place 0) newline → is_line_at l at n ≡ r
  unfolding is_line_at ◌and◌
  fields_end h e =
      let end : k ≡ n = omega (arith, read.few) in
      rw (← end, read.right, ← read.here, e)

  -- the same, the place being that after n fields
  pub line_ends : n ≤ k → {end : ℕ} → end ≡ at + 6 * n → {r : Bool} → r ≡ eqb (get_or l end 0) newline → is_line_at l at n ≡ r
  line_ends h {end} is e = let same : end ≡ place = omega (arith, read.few, read.here) in fields_end h (rw same at e)

  -- the answer r of the line: the place after byte 10, if it stands there
  pub line_answered : n ≤ k → (r : Option ℕ) → is_some r ≡ eqb (get_or l place 0) newline → {P : ℕ → Type 0} → IfSome r P
      → ((end : ℕ) → P end → end ≡ place + 1) → r ≡ read_line l at n
  unfolding read_line
  line_answered h None e given after = rw (fields_end h e)
  line_answered h (Some end) e given after =
      let there : end ≡ at + (6 * n + 1) = omega (arith, read.few, read.here, after end given) in
      rw (fields_end h e) (ap Some there)
