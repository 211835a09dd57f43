-- Putting an answer's 64 bits together and taking them apart are inverse, and so equal bits are equal answers.
use Prim.Native.Nat.{ℕ, ◌+◌, ◌*◌, ◌/◌, ◌%◌, ◌^◌, ◌<◌, ◌≤◌}
use mathlib.Core.Path.{◌≡◌, refl, sym, ◌∙◌, ap}
use mathlib.Core.Bool.{Bool, true, false}
use native.Mathlib.Omega.{arith}
use lib.Dec.{eqb}
use borrow.Author.Tests.{eq-eqb, ne_eqb}
use Rattle.logic.specs.Test.{one}
use Rattle.model.specs.Session.{Answer, refused, done, value, ran}
use Rattle.session_answers.specs.Answers.{answer_bits}
use Rattle.session_answers.specs.Apart.{Kind, setting, reading, running, accepted, apart}

-- the answers of a kind of call, with numbers that have their bits
pub data AnswerOf : Kind → Answer → Type 0 where
  refusal : {k : Kind} {number returned : ℕ} → 1 ≤ number → number < 256 → returned < 4294967296 → AnswerOf k (refused number returned)
  nothing : AnswerOf setting done
  read_value : {v : ℕ} → v < 4294967296 → AnswerOf reading (value v)
  cycles : {count : ℕ} {stopped : Bool} → count < 65536 → AnswerOf running (ran count stopped)

not_refused : (k : Kind) (bits : ℕ) → bits < 2 ^ 56 → apart k bits ≡ accepted k bits
unfolding apart
not_refused k bits l = let z : bits / 2 ^ 56 ≡ 0 = omega arith in rw (eq-eqb (bits / 2 ^ 56) 0 z)

was_refused : (k : Kind) (bits number returned : ℕ) → bits ≡ number * 2 ^ 56 + returned → 1 ≤ number → returned < 4294967296
    → apart k bits ≡ refused number returned
unfolding apart
was_refused k bits number returned e low l =
    let n : bits / 2 ^ 56 ≡ number = omega arith in
    let r : bits % 2 ^ 32 ≡ returned = omega arith in
    rw (n, r, ne_eqb number 0 (omega arith))

run_back : (count : ℕ) (stopped : Bool) → count < 65536
    → ran ((count + 65536 * one stopped) % 65536) (eqb ((count + 65536 * one stopped) / 65536 % 2) 1) ≡ ran count stopped
run_back count true l =
    let c : (count + 65536 * 1) % 65536 ≡ count = omega arith in
    let s : (count + 65536 * 1) / 65536 ≡ 1 = omega arith in
    rw (c, s)
run_back count false l =
    let c : (count + 65536 * 0) % 65536 ≡ count = omega arith in
    let s : (count + 65536 * 0) / 65536 ≡ 0 = omega arith in
    rw (c, s)

one_low : (b : Bool) → one b ≤ 1
one_low true = omega arith
one_low false = omega arith

-- put together and taken apart, an answer is what it was
pub apart_bits : (k : Kind) (a : Answer) → AnswerOf k a → apart k (answer_bits a) ≡ a
unfolding answer_bits
apart_bits k (refused number returned) (refusal low high l) = was_refused k (number * 2 ^ 56 + returned) number returned refl low l
apart_bits setting done nothing = not_refused setting 0 (omega arith)
apart_bits reading (value v) (read_value l) =
    let r : v % 2 ^ 32 ≡ v = omega arith in
    not_refused reading v (omega arith) ∙ ap value r
apart_bits running (ran count stopped) (cycles l) =
    let o = one_low stopped in
    not_refused running (count + 65536 * one stopped) (omega arith) ∙ run_back count stopped l
apart_bits reading done h = elim h [ ]
apart_bits running done h = elim h [ ]
apart_bits setting (value v) h = elim h [ ]
apart_bits running (value v) h = elim h [ ]
apart_bits setting (ran count stopped) h = elim h [ ]
apart_bits reading (ran count stopped) h = elim h [ ]

-- taken apart and put together, the bits of an answer are what they were
pub bits_apart : (k : Kind) (a : Answer) (bits : ℕ) → AnswerOf k a → bits ≡ answer_bits a → answer_bits (apart k bits) ≡ bits
bits_apart k a bits h e = ap (λ (x : ℕ). answer_bits (apart k x)) e ∙ ap answer_bits (apart_bits k a h) ∙ sym e

-- equal bits are equal answers
pub bits_equal : (k : Kind) (a b : Answer) → AnswerOf k a → AnswerOf k b → answer_bits a ≡ answer_bits b → a ≡ b
bits_equal k a b g h e = sym (apart_bits k a g) ∙ ap (apart k) e ∙ apart_bits k b h

-- they are 64
pub bits_fit : (k : Kind) (a : Answer) → AnswerOf k a → answer_bits a < 2 ^ 64
unfolding answer_bits
bits_fit k (refused number returned) (refusal low high l) = omega arith
bits_fit setting done nothing = omega arith
bits_fit reading (value v) (read_value l) = omega arith
bits_fit running (ran count stopped) (cycles l) = let o = one_low stopped in omega arith
bits_fit reading done h = elim h [ ]
bits_fit running done h = elim h [ ]
bits_fit setting (value v) h = elim h [ ]
bits_fit running (value v) h = elim h [ ]
bits_fit setting (ran count stopped) h = elim h [ ]
bits_fit reading (ran count stopped) h = elim h [ ]
