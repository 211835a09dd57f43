-- The numbers of a line, with those of the line before, judge as the definitions of STIM do.
use Prim.Native.Nat.{ℕ, zero, suc, ◌+◌, ◌≤◌}
use mathlib.Core.Path.{◌≡◌, refl, sym, ◌∙◌, ap}
use mathlib.Core.Bool.{Bool, true, false}
use mathlib.Core.List.{List}
use native.Mathlib.Omega.{arith}
use lib.Dec.{eqb, leb, ltb}
use lib.ListN.{length}
use borrow.Author.Tests.{eq-eqb, lt-ltb, ltb-false, leb-true}
use Rattle.std.specs.Prelude.{if◌then◌else◌, Ok, Err}
use Rattle.logic.specs.Test.{◌and◌, ◌or◌}
use Rattle.logic.proofs.Tests.{and_left}
use Rattle.model.specs.Refusal.{pass, first, unless}
use Rattle.model.specs.Network.{Network, is_signal}
use Rattle.model.specs.Stimulus.{stim_line, stim_time, stim_signal, is_end, time_before, rising, gives_value, may_give, stim_given, stim_end}
use Rattle.model.proofs.Refusals.{pass_not_fail}
use Rattle.file_lines.specs.Answer.{answered}
use Rattle.file_stim.specs.declared.StimRefusal.{StimRefusal}
use Rattle.file_stim.specs.declared.StimRefusal.TheVariants.{Misformed, Layout, NotInput}
use Rattle.file_stim.specs.declared.Line.{Line}
use Rattle.file_stim.specs.Answer.{stim_refusal}
use Rattle.file_stim.specs.Judging.{numbers_of, numbers_before, ends, rises, gives, may, judged_end, judged_given}

ends_is : (stim : List ℕ) (index : ℕ) → is_end stim index ≡ ends (numbers_of stim index)
unfolding ends is_end
ends_is stim index = refl

-- a line is the end line by its numbers
pub ended : (stim : List ℕ) (index : ℕ) {here : Line} → here ≡ numbers_of stim index → {b : Bool} → b ≡ ends here → is_end stim index ≡ b
ended stim index is e = ends_is stim index ∙ ap ends (sym is) ∙ sym e

time_before_lem : (stim : List ℕ) (index : ℕ) → (numbers_before stim index).time.0 ≡ time_before stim index
unfolding numbers_before time_before
time_before_lem stim zero = refl
time_before_lem stim (suc index) = refl

-- a signal is above the 0 that stands for it before line 1
rises_is : (stim : List ℕ) (index : ℕ) → 1 ≤ stim_signal stim index → rises (numbers_before stim index) (numbers_of stim index) ≡ rising stim index
unfolding rises rising numbers_before ◌or◌ ◌and◌
rises_is stim zero low = go (ltb 0 (stim_time stim 0)) refl
  where
    go : (b : Bool) → ltb 0 (stim_time stim 0) ≡ b → b or (eqb 0 (stim_time stim 0) and ltb 0 (stim_signal stim 0)) ≡ true
    go true e = refl
    go false e = let z : 0 ≡ stim_time stim 0 = omega (arith, ltb-false) in rw (eq-eqb _ _ z, lt-ltb _ _ low)
rises_is stim (suc index) low = refl

-- a line that gives a value names a signal
pub gives_signal : (n : Network) (before here : Line) → gives n before here ≡ true → is_signal n here.signal ≡ true
unfolding gives
gives_signal n before here e = and_left _ _ e

-- no refusal passes
pub not_passed : (e : StimRefusal) → stim_refusal e ≡ pass → ⊥
not_passed = grind (arith, pass_not_fail)

module _ (n : Network) (stim : List ℕ) (index : ℕ) where
  abbrev before : Line
  before = numbers_before stim index

  abbrev here : Line
  here = numbers_of stim index

  gives_is : gives n before here ≡ gives_value n stim index
  unfolding gives gives_value is_signal ◌and◌
  gives_is = go (is_signal n here.signal) refl
    where
      go : (b : Bool) → is_signal n here.signal ≡ b
          → b and leb here.value 3 and rises before here ≡ b and leb here.value 3 and rising stim index
      go false e = refl
      go true e = rw (rises_is stim index (leb-true _ _ (and_left _ _ e)))

  pub given_is : answered stim_refusal (judged_given n index before here) ≡ stim_given n stim index
  unfolding judged_given stim_given may may_give first unless
  given_is = rw gives_is (go (gives_value n stim index) (may_give n stim index))
    where
      go : (a b : Bool)
          → answered stim_refusal (if a then if b then Ok (tt {0}) else Err (NotInput (index + 1)) else Err (Layout (index + 1)))
          ≡ first (unless a 31 (index + 1)) (unless b 32 (index + 1))
      go true true = refl
      go true false = refl
      go false b = refl

  pub end_is : answered stim_refusal (judged_end index (leb (length stim) (stim_line (index + 1))) before here) ≡ stim_end stim index
  unfolding judged_end stim_end first unless
  end_is =
      rw (time_before_lem stim index)
      (go (leb (time_before stim index) (stim_time stim index)) (leb (length stim) (stim_line (index + 1))))
    where
      go : (a b : Bool)
          → answered stim_refusal (if a then if b then Ok index else Err (Misformed (index + 2)) else Err (Layout (index + 1)))
          ≡ first (unless a 31 (index + 1)) (unless b 30 (index + 2))
      go true true = refl
      go true false = refl
      go false b = refl

-- the end line is accepted with the number of lines before it
pub end_accepts : (index : ℕ) (last : Bool) (before here : Line) → answered stim_refusal (judged_end index last before here) ≡ pass
    → judged_end index last before here ≡ Ok index
unfolding judged_end
end_accepts index last before here = go (leb before.time.0 here.time.0) last
  where
    go : (a b : Bool) → answered stim_refusal (if a then if b then Ok index else Err (Misformed (index + 2)) else Err (Layout (index + 1))) ≡ pass
        → (if a then if b then Ok index else Err (Misformed (index + 2)) else Err (Layout (index + 1))) ≡ Ok index
    go true true e = refl
    go true false e = absurd (pass_not_fail (sym e))
    go false b e = absurd (pass_not_fail (sym e))
