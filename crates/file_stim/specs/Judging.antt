-- How the code judges a right line by its numbers and those of the line before, 0 before line 1: it mirrors private functions.
-- `stim_check` is what a caller reads.
use Rattle.std.specs.Prelude.{ℕ, zero, suc, ◌+◌, Bool, List, Result, Ok, Err, eqb, leb, ltb}
use Rattle.logic.specs.Test.{◌and◌, ◌or◌}
use Rattle.std.specs.Prelude.{if◌then◌else◌}
use Rattle.model.specs.Network.{Network, is_signal, input}
use Rattle.model.specs.Stimulus.{stim_time, stim_signal, stim_value}
use Rattle.file_stim.specs.declared.StimRefusal.{StimRefusal}
use Rattle.file_stim.specs.declared.StimRefusal.TheVariants.{Misformed, Layout, NotInput}
use Rattle.file_stim.specs.declared.Line.{Line}

abbrev pub numbers_of : List ℕ → ℕ → Line
numbers_of stim index = record { time = record { 0 = stim_time stim index }; signal = stim_signal stim index; value = stim_value stim index }

unfoldable pub numbers_before : List ℕ → ℕ → Line
numbers_before stim zero = record { time = record { 0 = 0 }; signal = 0; value = 0 }
numbers_before stim (suc index) = numbers_of stim index

unfoldable pub ends : Line → Bool
ends here = eqb here.signal 0 and eqb here.value 0

unfoldable pub rises : Line → Line → Bool
rises before here =
    ltb before.time.0 here.time.0 or (eqb before.time.0 here.time.0 and ltb before.signal here.signal)

-- the end line, the last of the file or not: how many lines stand before it
unfoldable pub judged_end : ℕ → Bool → Line → Line → Result ℕ StimRefusal
judged_end index last before here =
    if leb before.time.0 here.time.0
    then if last then Ok index else Err (Misformed (index + 2))
    else Err (Layout (index + 1))

-- its signal, its value and its place in the order are right
unfoldable pub gives : Network → Line → Line → Bool
gives n before here = is_signal n here.signal and leb here.value 3 and rises before here

unfoldable pub may : Network → Line → Bool
may n here = eqb here.time.0 0 or eqb (n.kind here.signal) input

-- a line that gives a value
unfoldable pub judged_given : Network → ℕ → Line → Line → Result Unit StimRefusal
judged_given n index before here =
    if gives n before here
    then if may n here then Ok tt else Err (NotInput (index + 1))
    else Err (Layout (index + 1))
