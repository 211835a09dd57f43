-- Traces turned by signal (02, ticket 7): the values of one signal in up to 64 cycles, a byte each, against a block of 16 bytes. Cycles
-- are counted from 0, the earliest.
use Rattle.std.specs.Prelude.{ℕ, ◌+◌, ◌*◌, ◌/◌, ◌%◌, Bool, List, eqb, ltb, get_or}
use Rattle.logic.specs.Test.{◌or◌, all}
use Rattle.std.specs.Prelude.{if◌then◌else◌}
use Rattle.logic.specs.Listed.{listed}
use Rattle.traces.specs.Bits.{bit, bits}

-- "blocks of up to 64 cycles"
abbrev pub most_cycles : ℕ
most_cycles = 64

-- "64 value bytes against its 16"
abbrev pub values_length : ℕ
values_length = most_cycles

abbrev pub block_length : ℕ
block_length = 16

-- the value of cycle c, and 0 past the count: "Only values within the count are read", "unused bits are 0"
unfoldable pub recorded : List ℕ → ℕ → ℕ → ℕ
recorded values count c = if ltb c count then get_or values c 0 else 0

-- byte b of a block: "eight of low bits, then eight of high bits, earliest cycle in the lowest bit of the first byte, the ninth in the
-- second's". Bit 0 of a value is its low bit, bit 1 its high bit.
unfoldable pub turned_byte : List ℕ → ℕ → ℕ → ℕ
turned_byte values count b = bits (λ i. bit (recorded values count (8 * (b % 8) + i)) (b / 8)) 8

unfoldable pub turned : List ℕ → ℕ → List ℕ
turned values count = listed block_length (turned_byte values count)

-- the value that a block has for cycle c, by its low and its high bit
unfoldable pub block_value : List ℕ → ℕ → ℕ
block_value block c = bit (get_or block (c / 8) 0) (c % 8) + 2 * bit (get_or block (8 + c / 8) 0) (c % 8)

-- "Turning back gives the values, with 0 past the count"
unfoldable pub value_back : List ℕ → ℕ → ℕ → ℕ
value_back block count c = if ltb c count then block_value block c else 0

unfoldable pub turned_back : List ℕ → ℕ → List ℕ
turned_back block count = listed values_length (value_back block count)

-- no "unused bit set": those of the cycles past the count, in both halves
unfoldable pub unused_clear : List ℕ → ℕ → Bool
unused_clear block count = all values_length (λ c. ltb c count or eqb (block_value block c) 0)
