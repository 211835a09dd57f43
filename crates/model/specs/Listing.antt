-- The listing (01, Listing, whole), and all that the program prints.
use Rattle.std.specs.Prelude.{ℕ, zero, suc, List, [], ◌∷◌, ◌++◌, eqb}
use Rattle.std.specs.Prelude.{if◌then◌else◌}
use Rattle.writing.specs.Text.{line_text}
use Rattle.model.specs.Refusal.{Check, pass, fail}
use Rattle.model.specs.Files.{Files}
use Rattle.model.specs.Value.{VAL, history}
use Rattle.model.specs.Stimulus.{held, end_time}
use Rattle.model.specs.Acceptance.{network_of, given_of, file_check}

-- VAL(s,t) of the files, each input taking in each cycle the value that STIM last gave it
unfoldable pub value_at : Files → ℕ → ℕ → ℕ
value_at files t = VAL (network_of files) (given_of files) (history (held files.STIM) t)

-- the pieces f 0 to f (n - 1), one after the other
unfoldable pub joined : ℕ → (ℕ → List ℕ) → List ℕ
joined zero f = []
joined (suc n) f = joined n f ++ f n

-- the listing of a table of values by time and signal, for the signals 1 to n and the times 0 to end
module _ (n end : ℕ) (table : ℕ → ℕ → ℕ) where
  -- "All signals at time 0"
  unfoldable pub listed_first : List ℕ
  listed_first = joined n (λ k. line_text (0 ∷ suc k ∷ table 0 (suc k) ∷ []))

  -- "then each whose value differs from the time before, by time and signal"
  unfoldable pub listed_change : ℕ → ℕ → List ℕ
  listed_change t s = if eqb (table (suc t) s) (table t s) then [] else line_text (suc t ∷ s ∷ table (suc t) s ∷ [])

  unfoldable pub listed_cycle : ℕ → List ℕ
  listed_cycle t = joined n (λ k. listed_change t (suc k))

  -- "last line T, 0, 0"
  unfoldable pub listing_of : List ℕ
  listing_of = listed_first ++ joined end listed_cycle ++ line_text (end ∷ 0 ∷ 0 ∷ [])

unfoldable pub listing : Files → List ℕ
listing files = listing_of (network_of files).size (end_time files.STIM) (value_at files)

-- "On a file refusal the program prints one line of two fields, number and returned value, and nothing else."
unfoldable pub refusal_line : ℕ → ℕ → List ℕ
refusal_line number returned = line_text (number ∷ returned ∷ [])

unfoldable pub printed_for : Files → Check → List ℕ
printed_for files pass = listing files
printed_for files (fail number returned) = refusal_line number returned

unfoldable pub printed : ℕ → Files → List ℕ
printed limit files = printed_for files (file_check limit files)
