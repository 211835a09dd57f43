-- A test of every line: it is one of line k after the first, for each k in order, and what it answers from those before.
use Prim.Native.Nat.{ℕ, ◌+◌, ◌*◌, ◌/◌, ◌%◌, ◌<◌, ◌≤◌}
use mathlib.Core.Path.{◌≡◌, refl, sym, ap, ◌∙◌}
use mathlib.Core.Bool.{Bool, true, false}
use mathlib.Core.List.{List}
use native.Mathlib.Omega.{arith}
use Rattle.std.specs.Prelude.{Err, Ok}
use Rattle.logic.specs.Test.{◌and◌, all}
use Rattle.model.specs.Refusal.{Check, fail, pass, first, unless, first_below}
use Rattle.model.specs.Network.{Network}
use Rattle.model.specs.Module.{operand_right}
use Rattle.model.specs.ModuleFile.{mod_processors, mod_slots, mod_index, module_of, each_line, operands}
use Rattle.model.proofs.Refusals.{unless_pass, below_same}
use Rattle.file_lines.specs.Answer.{Answers}
use Rattle.file_lines.proofs.Lines.{test_fails, lines_go_on, lines_stop, lines_end}
use Rattle.file_mod_lines.specs.Answer.{Sized}
use Rattle.file_mod_lines.proofs.Lines.{line_index, line_total}
use Rattle.file_mod_lines.specs.declared.Place.{Place}
use Rattle.file_mod_lines.specs.declared.Shape.{Shape}
use Rattle.file_mod_table.specs.Line.{LinesLaid, Within}
use Rattle.file_mod_table.proofs.Numbered.{at_processor, at_slot}
use Rattle.file_mod.specs.Testing.{Computes, each_right}

-- a line's four operands, each refused alike
four_tests : (test : ℕ → Bool) (number returned : ℕ) → first_below 4 (λ j. unless (test j) number returned) ≡ unless (all 4 test) number returned
unfolding first_below all first unless ◌and◌
four_tests test number returned = go (test 0) (test 1) (test 2) (test 3)
  where
    go : (a b c d : Bool)
        → first (first (first (first pass (unless a number returned)) (unless b number returned)) (unless c number returned)) (unless d number returned)
        ≡ unless ((((true and a) and b) and c) and d) number returned
    go true true true d = refl
    go true true false d = refl
    go true false c d = refl
    go false b c d = refl

pub operands_each : (n : Network) (l : List ℕ) → each_right 23 (λ p i. all 4 (operand_right n (module_of l) p i)) l ≡ operands n l
unfolding operands each_line
operands_each n l =
    below_same (mod_processors l * mod_slots l) _ _
    (λ k h. sym (four_tests (operand_right n (module_of l) (k / mod_slots l) (k % mod_slots l)) 23 (mod_index l (k / mod_slots l) (k % mod_slots l) + 1)))

-- the test of line k after the first, refused with the line
abbrev pub line_test : ℕ → (ℕ → ℕ → Bool) → List ℕ → ℕ → Check
line_test number test l k =
    unless (test (k / mod_slots l) (k % mod_slots l)) number (mod_index l (k / mod_slots l) (k % mod_slots l) + 1)

-- line k is one of the module's, and what is answered of its place is the test of its processor and its slot
module _ {l : List ℕ} {shape : Shape} (laid : LinesLaid l shape.processors shape.slots) (k : ℕ) (low : k < shape.processors * shape.slots)
    (place : Place) (processor : place.processor ≡ k / shape.slots) (slot : place.slot.0 ≡ k % shape.slots) where
  pub line_within : Within shape place.processor place.slot.0
  line_within =
      record {
        processor = rw processor (at_processor l shape.processors shape.slots laid k low);
        slot = rw slot (at_slot l shape.processors shape.slots laid k low);
      }

  pub line_answered : {answers : Place → Bool → Type 0} (test : ℕ → ℕ → Bool) → Computes answers shape test → {b : Bool} → answers place b
      → b ≡ test (k / shape.slots) (k % shape.slots)
  line_answered test computes {b} h =
      rw (processor, slot) at (computes place b line_within h)

-- the lines before line k pass
module _ (number : ℕ) (test : ℕ → ℕ → Bool) (l : List ℕ) {p c : ℕ} (sized : Sized l p c) (lines k : ℕ) (total : lines ≡ p * c)
    (before : first_below k (line_test number test l) ≡ pass) where
  here : {r : Bool} → r ≡ test (k / c) (k % c) → test (k / mod_slots l) (k % mod_slots l) ≡ r
  here e = sym (e ∙ ap (λ (x : ℕ). test (k / x) (k % x)) sized.slots)

  all_lines : lines ≡ mod_processors l * mod_slots l
  all_lines = total ∙ line_total l p c sized

  pub each_stops : k < lines → {r : Bool} → r ≡ test (k / c) (k % c) → r ≡ false → Answers {A = Unit {0}} (fail number) (tt {0}) (each_right number test l) (Err (k + 2))
  unfolding each_line
  each_stops low e f =
      let at : mod_index l (k / mod_slots l) (k % mod_slots l) + 1 ≡ k + 2 = omega (arith, line_index l k) in
      lines_stop (line_test number test l) k before _ (omega (arith, all_lines)) refl (test_fails _ number _ (here e ∙ f) ∙ ap (fail number) at)

  pub each_goes_on : {r : Bool} → r ≡ test (k / c) (k % c) → r ≡ true → first_below (k + 1) (line_test number test l) ≡ pass
  each_goes_on e f = lines_go_on (line_test number test l) k before (unless_pass _ number _ (here e ∙ f))

  pub each_ends : k ≤ lines → lines ≤ k → Answers {A = Unit {0}} (fail number) (tt {0}) (each_right number test l) (Ok (tt {0}))
  unfolding each_line
  each_ends low high = lines_end (line_test number test l) k before _ (omega (arith, all_lines)) (omega (arith, all_lines)) refl
