-- The answers of the calls, and the 64 bits that C gets (docs/PANEL.md).
use Rattle.std.specs.Prelude.{ℕ, ◌+◌, ◌*◌, ◌^◌}
use Rattle.logic.specs.Test.{one}
use Rattle.model.specs.Refusal.{Check, pass, fail}
use Rattle.model.specs.Session.{Answer, refused, done, value, ran}

-- what the opening and the check of the files answer: done where the check passes, else its refusal
abbrev pub check_answer : Check → Answer
check_answer pass = done
check_answer (fail number returned) = refused number returned

-- Bits 56 to 63 have the refusal's number, 0 where the call was not refused; bits 0 to 31 the returned value. A run has the cycles done
-- in bits 0 to 15 and stopped in bit 16.
unfoldable pub answer_bits : Answer → ℕ
answer_bits (refused number returned) = number * 2 ^ 56 + returned
answer_bits done = 0
answer_bits (value v) = v
answer_bits (ran count stopped) = count + 65536 * one stopped

unfoldable pub check_bits : Check → ℕ
check_bits check = answer_bits (check_answer check)
