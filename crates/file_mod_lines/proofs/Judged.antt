-- What the code's judgement of a line's layout answers, case by case.
use Prim.Native.Nat.{ℕ, ◌<◌, ◌≤◌}
use mathlib.Core.Path.{◌≡◌, refl}
use mathlib.Core.Bool.{false, not}
use lib.Dec.{eqb, leb, ltb}
use borrow.Author.Tests.{eq-eqb, ne_eqb, lt-ltb, le-ltb}
use Rattle.logic.specs.Test.{◌and◌, ◌or◌}
use Rattle.logic.proofs.Judged.{and_false, and_yes, or_no, or_yes}
use Rattle.file_mod_lines.specs.Layout.{pair_laid}

module _ (slots most part k : ℕ) where
  pub pair_far : slots ≤ k → pair_laid slots most part k ≡ false
  unfolding pair_laid
  pair_far h =
      let e : ltb k slots and (not (eqb part 9) or eqb k 0) ≡ false = unfold ◌and◌ in rw (le-ltb k slots h) refl in
      rw e (and_false (leb part most or eqb part 9))

  pub pair_none : k < slots → part ≡ 9 → pair_laid slots most part k ≡ eqb k 0
  unfolding pair_laid ◌and◌
  pair_none h e = rw (lt-ltb k slots h, eq-eqb part 9 e, or_yes (leb part most)) (unfold ◌or◌ in refl)

  pub pair_part : k < slots → (part ≡ 9 → ⊥) → pair_laid slots most part k ≡ leb part most
  unfolding pair_laid
  pair_part h d = rw (lt-ltb k slots h, ne_eqb part 9 d, or_no (leb part most)) (unfold ◌and◌ ◌or◌ in and_yes (leb part most))
