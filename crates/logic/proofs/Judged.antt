-- Judgements joined by `and`, as code makes them: it stops at the first that fails, and else goes on.
use mathlib.Core.Path.{◌≡◌, refl, sym}
use mathlib.Core.Bool.{Bool, true, false, not}
use borrow.Author.Tests.{not-true, not-false}
use Rattle.logic.specs.Test.{◌and◌, ◌or◌}
use Rattle.logic.proofs.Tests.{decided}

pub and_false : (a : Bool) → a and false ≡ false
unfolding ◌and◌
and_false true = refl
and_false false = refl

pub and_yes : (a : Bool) → a and true ≡ a
unfolding ◌and◌
and_yes true = refl
and_yes false = refl

pub or_no : (a : Bool) → a or false ≡ a
unfolding ◌or◌
or_no true = refl
or_no false = refl

pub or_yes : (a : Bool) → a or true ≡ true
unfolding ◌or◌
or_yes true = refl
or_yes false = refl

pub and_assoc : (a b c : Bool) → (a and b) and c ≡ a and b and c
unfolding ◌and◌
and_assoc true b c = refl
and_assoc false b c = refl

-- two tests that pass together are equal
pub same_test : (a b : Bool) → (a ≡ true → b ≡ true) → (b ≡ true → a ≡ true) → a ≡ b
same_test true b f g = sym (f refl)
same_test false true f g = g refl
same_test false false f g = refl

-- what a judgement r of a tells
module _ (r a : Bool) (e : r ≡ a) where
  pub fails : not r ≡ true → a ≡ false
  fails h = rw (← e) (not-true r h)

  pub passes : not r ≡ false → a ≡ true
  passes h = rw (← e) (not-false r h)

-- what is joined to a test that is told
module _ (a rest : Bool) where
  pub no : a ≡ false → a and rest ≡ false
  unfolding ◌and◌
  no h = rw h

  pub yes : a ≡ true → a and rest ≡ rest
  unfolding ◌and◌
  yes h = rw h

-- what `&&` and `||` of the code come to, by the first operand
pub and_when_true : (b : Bool) → true and b ≡ b
unfolding ◌and◌
and_when_true b = refl

pub and_when_false : (b : Bool) → false and b ≡ false
unfolding ◌and◌
and_when_false b = refl

pub or_when_true : (b : Bool) → true or b ≡ true
unfolding ◌or◌
or_when_true b = refl

pub or_when_false : (b : Bool) → false or b ≡ b
unfolding ◌or◌
or_when_false b = refl

-- a test by cases of the code
pub ruleset connected = (decided, and_when_true, and_when_false, or_when_true, or_when_false)
