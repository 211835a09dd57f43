-- The lines after the first: line k of them is that of processor k / C and slot k % C, and what its check answers.
use Prim.Native.Nat.{ℕ, ◌+◌, ◌*◌, ◌/◌, ◌%◌}
use mathlib.Core.Path.{◌≡◌, refl, ap, ◌∙◌}
use mathlib.Core.Bool.{Bool, true, false}
use mathlib.Core.List.{List}
use native.Mathlib.Omega.{arith}
use native.Mathlib.Nat.{div-add-mod'}
use Rattle.logic.proofs.Tests.{all_same}
use Rattle.fields.specs.Line.{is_line_at}
use Rattle.model.specs.Refusal.{Check, fail, pass, first_below}
use Rattle.model.specs.Network.{Network}
use Rattle.model.specs.Module.{switch_present}
use Rattle.model.specs.ModuleFile.{mod_line, mod_processors, mod_slots, mod_index, module_of, location_layout, operand_layout, send_layout, sender_layout, line_layout, mod_slot}
use Rattle.model.proofs.Refusals.{unless_pass}
use Rattle.file_lines.proofs.Lines.{test_stops, test_goes_on, test_fails}
use Rattle.file_mod_lines.specs.Answer.{Sized}
use Rattle.file_mod_lines.specs.declared.Shape.{Shape}
use Rattle.instruction.specs.Sender.{sender_laid}
use Rattle.file_mod_lines.specs.Layout.{pair_laid, pair_at, operands_at, line_at}

-- an operand's layout, by the judgement of its pair
operand_judged : (l : List ℕ) (p i j : ℕ)
    → operand_layout (module_of l) p i j ≡ pair_at l (mod_line (mod_index l p i)) (3 + 2 * j) switch_present (mod_slots l)
unfolding operand_layout location_layout module_of pair_laid
operand_judged l p i j = let next : 4 + 2 * j ≡ 3 + 2 * j + 1 = omega arith in rw next refl

-- a line's layout, by the judgement at its place
line_judged : (n : Network) (l : List ℕ) (p i : ℕ)
    → line_layout n l p i ≡ line_at l (mod_line (mod_index l p i)) p i n.size (mod_processors l) (mod_slots l)
unfolding line_layout location_layout send_layout sender_layout module_of line_at operands_at pair_laid sender_laid
line_judged n l p i =
    let pair : ℕ → Bool = λ j. pair_at l (mod_line (mod_index l p i)) (3 + 2 * j) switch_present (mod_slots l) in
    rw (all_same (operand_layout (module_of l) p i) pair 4 (λ j low. operand_judged l p i j)) refl

-- the check of line k after the first
abbrev pub line_check : Network → List ℕ → ℕ → Check
line_check n l k = mod_slot n l (k / mod_slots l) (k % mod_slots l)

pub line_index : (l : List ℕ) (k : ℕ) → mod_index l (k / mod_slots l) (k % mod_slots l) ≡ k + 1
line_index l k = omega (arith, div-add-mod' k (mod_slots l))

-- that line, its layout being judged at its place
module _ (l : List ℕ) (k : ℕ) (n : Network) where
  line : (number : ℕ) → fail number (mod_index l (k / mod_slots l) (k % mod_slots l) + 1) ≡ fail number (k + 2)
  line number = let e : mod_index l (k / mod_slots l) (k % mod_slots l) + 1 ≡ k + 2 = omega (arith, line_index l k) in ap (fail number) e

  here : is_line_at l (mod_line (mod_index l (k / mod_slots l) (k % mod_slots l))) 14 ≡ is_line_at l (85 * (k + 1)) 14
  here = ap (λ (x : ℕ). is_line_at l (85 * x) 14) (line_index l k)

  pub misformed : is_line_at l (85 * (k + 1)) 14 ≡ false → line_check n l k ≡ fail 20 (k + 2)
  unfolding mod_slot
  misformed e = test_stops _ 20 _ _ (here ∙ e) ∙ line 20

  module _ (form : is_line_at l (85 * (k + 1)) 14 ≡ true) {p c : ℕ} (sized : Sized l p c) where
    judged : line_layout n l (k / mod_slots l) (k % mod_slots l) ≡ line_at l (85 * (k + 1)) (k / c) (k % c) n.size p c
    judged =
        line_judged n l (k / mod_slots l) (k % mod_slots l) ∙ (rw (line_index l k, ← sized.processors, ← sized.slots) refl)

    pub layout_wrong : line_at l (85 * (k + 1)) (k / c) (k % c) n.size p c ≡ false → line_check n l k ≡ fail 21 (k + 2)
    unfolding mod_slot
    layout_wrong e = test_goes_on _ 20 _ _ (here ∙ form) ∙ test_fails _ 21 _ (judged ∙ e) ∙ line 21

    pub slot_passes : line_at l (85 * (k + 1)) (k / c) (k % c) n.size p c ≡ true → line_check n l k ≡ pass
    unfolding mod_slot
    slot_passes e = test_goes_on _ 20 _ _ (here ∙ form) ∙ unless_pass _ 21 _ (judged ∙ e)

-- the first lines pass, for every network of that size
abbrev pub LinesPass : ℕ → List ℕ → ℕ → Type 0
LinesPass signals l k = (n : Network) → n.size ≡ signals → first_below k (line_check n l) ≡ pass

pub line_total : (l : List ℕ) (p c : ℕ) → Sized l p c → p * c ≡ mod_processors l * mod_slots l
line_total l p c s = rw (s.processors, s.slots)

-- P and C are the shape
pub same_shape : {p c x y : ℕ} → p ≡ x → c ≡ y → ◌≡◌ {A = Shape} (record { processors = p; slots = c }) (record { processors = x; slots = y })
same_shape e f = rw (e, f)
