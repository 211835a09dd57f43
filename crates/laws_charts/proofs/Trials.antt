-- Lines and refusals worked out by hand, and a call that is accepted.
use Prim.Native.Nat.{ℕ}
use mathlib.Core.Path.{◌≡◌, refl}
use mathlib.Core.List.{[], ◌∷◌, ◌++◌}
use lib.ListN.{replicate, length-replicate}
use Rattle.logic.specs.Test.{◌and◌, ◌or◌}
use Rattle.logic.specs.Listed.{listed}
use Rattle.writing.specs.Text.{column_of, field_text}
use Rattle.model.specs.Refusal.{pass, fail, first, unless, first_below}
use Rattle.session_answers.specs.Recorded.{recorded_check}
use Rattle.charts.specs.Page.{glyph}
use Rattle.charts.specs.Text.{head_text, row_text}
use Rattle.charts.specs.Checks.{on_page, counts_check, signal_check, signals_check, value_check, row_check, rows_check, chart_check}
use Rattle.charts.proofs.Refusals.{lent_pass}

-- "  4096  01UZ" and 68 spaces
pub four_values : row_text 4096 4 (λ c. c) ≡ 32 ∷ 32 ∷ 52 ∷ 48 ∷ 57 ∷ 54 ∷ 32 ∷ 32 ∷ 48 ∷ 49 ∷ 85 ∷ 90 ∷ (replicate 68 32 ++ 10 ∷ [])
unfolding row_text field_text column_of glyph listed ◌or◌
four_values = refl

-- " 65464 65535" and 68 spaces
pub last_cycles : head_text 65464 65535 ≡ 32 ∷ 54 ∷ 53 ∷ 52 ∷ 54 ∷ 52 ∷ 32 ∷ 54 ∷ 53 ∷ 53 ∷ 51 ∷ 53 ∷ (replicate 68 32 ++ 10 ∷ [])
unfolding head_text field_text column_of listed ◌or◌
last_cycles = refl

-- 72 cycles up to the last one, and one past it; a sum that 32 bits do not hold; cycle 0 alone
pub up_to_last : counts_check 56 65464 72 ≡ pass
unfolding counts_check on_page unless ◌and◌
up_to_last = refl

pub past_last : counts_check 56 65465 72 ≡ fail 46 0
unfolding counts_check on_page unless ◌and◌
past_last = refl

pub past_all : counts_check 1 4294967295 2 ≡ fail 46 0
unfolding counts_check on_page unless ◌and◌
past_all = refl

pub cycle_0 : counts_check 1 0 1 ≡ pass
unfolding counts_check on_page unless ◌and◌
cycle_0 = refl

-- signals 7 and 0, the values 4 and 0 in the first cycle: the signal of the second line comes before the value of the first
pub signal_first : first (signals_check (7 ∷ 0 ∷ 0 ∷ 0 ∷ []) 2) (rows_check (4 ∷ []) 2 1) ≡ fail 41 0
unfolding signals_check signal_check rows_check row_check value_check recorded_check first_below first unless ◌and◌
signal_first = refl

-- 9 in the second cycle of the first line comes before 4 in the first cycle of the second
pub line_first : rows_check (0 ∷ 9 ∷ (replicate 70 0 ++ 4 ∷ [])) 2 2 ≡ fail 42 9
unfolding rows_check row_check value_check recorded_check first_below first unless
line_first = refl

-- and the 9 is not judged with one cycle
pub next_line : rows_check (0 ∷ 9 ∷ (replicate 70 0 ++ 4 ∷ [])) 2 1 ≡ fail 42 4
unfolding rows_check row_check value_check recorded_check first_below first unless
next_line = refl

-- signal 1 with the value 0 in cycle 0 makes a page
pub some_page : chart_check (1 ∷ replicate 111 0) (replicate 4032 0) (replicate 4617 0) 1 0 1 ≡ pass
unfolding chart_check counts_check on_page signals_check signal_check rows_check row_check value_check recorded_check first_below first unless ◌and◌
some_page = rw (lent_pass (1 ∷ replicate 111 0) (replicate 4032 0) (replicate 4617 0) (record { signals_size = refl; values_size = length-replicate {A = ℕ} 4032 0; page_size = length-replicate {A = ℕ} 4617 0 }))
