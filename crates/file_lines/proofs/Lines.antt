-- The lines of a file. A line's tests are made in their order, its form and then its layout (`test_stops`, `test_goes_on`, `test_fails`).
-- The lines are judged in a loop that asks for the check of line k and goes on while it passes: `lines_stop` and `lines_end` are its two
-- ends, `lines_go_on` is a turn. A line after the last is surplus.
use Prim.Native.Nat.{ℕ, ◌+◌, ◌*◌, ◌<◌, ◌≤◌}
use mathlib.Core.Path.{◌≡◌, subst}
use mathlib.Core.Bool.{Bool, true, false}
use mathlib.Core.List.{List}
use native.Mathlib.Omega.{arith}
use native.Mathlib.Numerals.{add-one}
use lib.Dec.{leb}
use lib.ListN.{length}
use borrow.Author.Tests.{le-leb, lt-leb}
use Rattle.std.specs.Prelude.{Result, Ok}
use Rattle.model.specs.Refusal.{Check, pass, fail, first, unless, first_below}
use Rattle.model.proofs.Refusals.{first_both, unless_pass, below_pass, below_first}
use Rattle.file_lines.specs.Answer.{answered, Answers}
use Rattle.file_lines.proofs.Stages.{refused, accepted}

-- one test of a line
module _ (test : Bool) (number returned : ℕ) where
  pub test_fails : test ≡ false → unless test number returned ≡ fail number returned
  unfolding unless
  test_fails e = rw e

  module _ (rest : Check) where
    pub test_stops : test ≡ false → first (unless test number returned) rest ≡ fail number returned
    unfolding first unless
    test_stops e = rw e

    pub test_goes_on : test ≡ true → first (unless test number returned) rest ≡ rest
    unfolding first unless
    test_goes_on e = rw e

-- the lines before line k have passed
module _ (line : ℕ → Check) (k : ℕ) (before : first_below k line ≡ pass) where
  pub lines_go_on : line k ≡ pass → first_below (k + 1) line ≡ pass
  unfolding first_below
  lines_go_on e = rw add-one (first_both (first_below k line) (line k) before e)

  module _ (n : ℕ) {A E : Type 0} {refusal : E → Check} {x : A} {r : Result A E} where
    pub lines_stop : k < n → {number returned : ℕ} → answered refusal r ≡ fail number returned → line k ≡ fail number returned
        → Answers refusal x (first_below n line) r
    lines_stop low e f = refused e (below_first n line (record { at = k; low = low; fails = f; before = below_pass k line before }))

    pub lines_end : k ≤ n → n ≤ k → r ≡ Ok x → Answers refusal x (first_below n line) r
    lines_end low high e =
        let end : k ≡ n = omega arith in
        accepted e (subst (λ (m : ℕ). first_below m line ≡ pass) end before)

-- a file of line 1 and `lines` more, of `width` bytes each, has no line after them
abbrev pub surplus : List ℕ → ℕ → ℕ → ℕ → Check
surplus bytes width lines number = unless (leb (length bytes) (width * (lines + 1))) number (lines + 2)

module _ (bytes : List ℕ) (width lines number count : ℕ) (is : count ≡ lines)
    {A E : Type 0} {refusal : E → Check} {x : A} {r : Result A E} where
  pub surplus_some : width * (count + 1) < length bytes → answered refusal r ≡ fail number (count + 2)
      → Answers refusal x (surplus bytes width lines number) r
  surplus_some h e = refused e (rw (← is) (test_fails _ number (count + 2) (lt-leb (length bytes) (width * (count + 1)) h)))

  pub surplus_none : length bytes ≤ width * (count + 1) → r ≡ Ok x → Answers refusal x (surplus bytes width lines number) r
  surplus_none h e = accepted e (rw (← is) (unless_pass _ number (count + 2) (le-leb (length bytes) (width * (count + 1)) h)))
