-- STIM (01, Files): "3 fields: time, signal, value, strictly rising by time and then signal", the end line T, 0, 0, its refusals 30 to
-- 32 in their order, and the values that it gives.
use Rattle.std.specs.Prelude.{ℕ, zero, suc, ◌+◌, ◌*◌, Bool, true, false, List, eqb, leb, ltb, length}
use Rattle.logic.specs.Test.{◌and◌, ◌or◌}
use Rattle.std.specs.Prelude.{if◌then◌else◌}
use Rattle.gates.specs.Value.{U}
use Rattle.fields.specs.Field.{number_at}
use Rattle.fields.specs.Line.{is_line_at}
use Rattle.model.specs.Refusal.{Check, first, unless}
use Rattle.model.specs.Network.{Network, input, is_signal}

-- a line has 19 bytes; line 1 has index 0
abbrev pub stim_line : ℕ → ℕ
stim_line index = 19 * index

abbrev pub stim_time : List ℕ → ℕ → ℕ
stim_time stim index = number_at stim (stim_line index)

abbrev pub stim_signal : List ℕ → ℕ → ℕ
stim_signal stim index = number_at stim (stim_line index + 6)

abbrev pub stim_value : List ℕ → ℕ → ℕ
stim_value stim index = number_at stim (stim_line index + 12)

-- "At most 65534 lines; the next is surplus."
abbrev pub stim_limit : ℕ
stim_limit = 65534

-- "The last line is T, 0, 0"
unfoldable pub is_end : List ℕ → ℕ → Bool
is_end stim index = eqb (stim_signal stim index) 0 and eqb (stim_value stim index) 0

-- "T is not below the time before it", which is 0 before line 1
unfoldable pub time_before : List ℕ → ℕ → ℕ
time_before stim zero = 0
time_before stim (suc index) = stim_time stim index

-- a line is above the line before it by time, or by signal at the same time
unfoldable pub rising : List ℕ → ℕ → Bool
rising stim zero = true
rising stim (suc index) =
    ltb (stim_time stim index) (stim_time stim (suc index))
    or (eqb (stim_time stim index) (stim_time stim (suc index)) and ltb (stim_signal stim index) (stim_signal stim (suc index)))

-- "A signal is 1 to N, a value 0 to 3."
unfoldable pub gives_value : Network → List ℕ → ℕ → Bool
gives_value n stim index = is_signal n (stim_signal stim index) and leb (stim_value stim index) 3 and rising stim index

-- "Time 0 may name any signal, a later time only inputs."
unfoldable pub may_give : Network → List ℕ → ℕ → Bool
may_give n stim index = eqb (stim_time stim index) 0 or eqb (n.kind (stim_signal stim index)) input

-- one line that gives a value: 31, then 32
unfoldable pub stim_given : Network → List ℕ → ℕ → Check
stim_given n stim index = first (unless (gives_value n stim index) 31 (index + 1)) (unless (may_give n stim index) 32 (index + 1))

-- the end line: 31, then 30 for a line after it
unfoldable pub stim_end : List ℕ → ℕ → Check
stim_end stim index =
    first (unless (leb (time_before stim index) (stim_time stim index)) 31 (index + 1))
    (unless (leb (length stim) (stim_line (index + 1))) 30 (index + 2))

-- at most `left` lines from an index on: 30 before 31 before 32 in each, and 30 where there is none left
unfoldable pub stim_lines : Network → List ℕ → ℕ → ℕ → Check
stim_lines n stim zero index = unless false 30 (index + 1)
stim_lines n stim (suc left) index =
    first (unless (is_line_at stim (stim_line index) 3) 30 (index + 1))
    (elim (is_end stim index) [
      | true ↦ stim_end stim index
      | false ↦ first (stim_given n stim index) (stim_lines n stim left (index + 1))
    ])

unfoldable pub stim_check : Network → List ℕ → Check
stim_check n stim = stim_lines n stim stim_limit 0

-- how many lines stand before the end line
unfoldable pub lines_before : List ℕ → ℕ → ℕ → ℕ
lines_before stim zero index = index
lines_before stim (suc left) index = elim (is_end stim index) [ true ↦ index | false ↦ lines_before stim left (index + 1) ]

unfoldable pub stim_count : List ℕ → ℕ
stim_count stim = lines_before stim stim_limit 0

-- T, the time of the end line
unfoldable pub end_time : List ℕ → ℕ
end_time stim = stim_time stim (stim_count stim)

-- the value last given to s up to time t by the first lines, "or U"
unfoldable pub last_given : List ℕ → ℕ → ℕ → ℕ → ℕ
last_given stim t s zero = U
last_given stim t s (suc index) =
    if eqb (stim_signal stim index) s and leb (stim_time stim index) t then stim_value stim index else last_given stim t s index

-- "An input holds its last given value": the value of s at time t. At time 0 it is each signal's given value.
unfoldable pub held : List ℕ → ℕ → ℕ → ℕ
held stim t s = last_given stim t s (stim_count stim)
