-- Calls one after the other on the session's bytes (01, Session), by any engine: "A call lent a wrong length stands in the list too: it
-- gets 40, and the next call gets the session's buffers as they were before it."
use Rattle.std.specs.Prelude.{ℕ, ◌<◌, ◌≡◌, false, List, [], ◌∷◌, length}
use Rattle.model.specs.Session.{Call, set, watch, read, run, Lent, same_lengths, Answer, refused, done, value, ran}
use Rattle.model.specs.Demands.{Trace, end, next}
use Rattle.session_answers.specs.Apart.{Kind, setting, reading, running, apart}
use Rattle.laws_engine.specs.Interface.{Interface}

-- what the caller knows of a call: its kind, and that its numbers have 32 bits
abbrev pub kind_of : Call → Kind
kind_of (set s v) = setting
kind_of (watch s mask) = setting
kind_of (read s) = reading
kind_of (run k) = running

abbrev pub Has32 : Call → Type 0
Has32 (set s v) = (s < 4294967296) × (v < 4294967296)
Has32 (watch s mask) = (s < 4294967296) × (mask < 4294967296)
Has32 (read s) = s < 4294967296
Has32 (run k) = k < 4294967296

-- the refusal's number, 0 where there is none
abbrev pub number_of : Answer → ℕ
number_of (refused number returned) = number
number_of done = 0
number_of (value v) = 0
number_of (ran count stopped) = 0

module _ (I : Interface) where
  -- A call met its contract on the buffers lent to it: bits is what it hands back, left what it leaves in them.
  pub record Meets (lent : I.Buffers) (c : Call) (bits : ℕ) (left : I.Buffers) : Type 0 where
    pub answer : bits ≡ I.bits lent c
    pub leaves : left ≡ (I.reply lent c).buffers

  -- A call of the list, b being the session's buffers before it and b' after it.
  -- own: it is lent them;
  -- other: it is lent buffers of which a length is wrong. They may be parts of the session's own: around says how the session's buffers
  -- are made of those lent and of bytes that were not lent, and "nobody else" writes to these.
  pub data Answered (b : I.Buffers) (c : Lent) (bits : ℕ) (b' : I.Buffers) : Type 0 where
    own : I.lengths b ≡ c.lengths → Meets b c.call bits b' → Answered b c bits b'
    other : (lent left : I.Buffers) (around : I.Buffers → I.Buffers) → I.lengths lent ≡ c.lengths
        → same_lengths c.lengths I.fixed ≡ false → Meets lent c.call bits left → b ≡ around lent → b' ≡ around left
        → Answered b c bits b'

  -- A call of the list by its answer: what C takes out of the 64 bits.
  pub record Post (b : I.Buffers) (c : Lent) (a : Answer) (b' : I.Buffers) : Type 0 where
    pub bits : ℕ
    pub numbers : Has32 c.call
    pub taken : a ≡ apart (kind_of c.call) bits
    pub answered : Answered b c bits b'

  -- what holds of the session's buffers before and after every call of a list
  unfoldable pub Throughout : (I.Buffers → Type 0) → {b : I.Buffers} {cs : List Lent} → Trace Post b cs → Type 0
  Throughout P (end {b}) = P b
  Throughout P (next {b} a b' p rest) = P b × Throughout P rest

  -- what holds of every call of a list, its 64 bits and its answer
  unfoldable pub EveryCall : (Lent → ℕ → Answer → Type 0) → {b : I.Buffers} {cs : List Lent} → Trace Post b cs → Type 0
  EveryCall P end = Unit
  EveryCall P (next {c = c} a b' p rest) = P c p.bits a × EveryCall P rest

  -- C can make the call: it lends as many buffers as a call takes, and the numbers have 32 bits
  pub record Callable (c : Lent) : Type 0 where
    pub buffers : length c.lengths ≡ length I.fixed
    pub numbers : Has32 c.call

  unfoldable pub EveryCallable : List Lent → Type 0
  EveryCallable [] = Unit
  EveryCallable (c ∷ cs) = Callable c × EveryCallable cs
