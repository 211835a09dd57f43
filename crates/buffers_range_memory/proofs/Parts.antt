-- The memory is judged part by part: the values of a part, and zeros.
use Prim.Native.Nat.{ℕ, ◌+◌, ◌-◌, ◌*◌, ◌/◌, ◌%◌, ◌<◌, ◌≤◌}
use mathlib.Core.Path.{◌≡◌, refl}
use mathlib.Core.Bool.{Bool, true, false}
use mathlib.Core.List.{List}
use native.Mathlib.Omega.{arith}
use lib.Dec.{leb, ltb}
use lib.ListN.{get_or}
use borrow.Author.Tests.{ltb-true, ltb-false, lt-ltb, le-ltb, leb-true, le-leb}
use Rattle.logic.specs.Test.{◌and◌}
use Rattle.logic.proofs.Tests.{and_true, and_left, and_right, all_at, all_true}
use Rattle.std.specs.Prelude.{if◌then◌else◌}
use Rattle.buffers_memory.specs.Memory.{memory_length, part_stride, processor_parts, memory_parts, blank, byte_processor, byte_part, byte_location, within}
use Rattle.buffers_tables.specs.Panel.{processors_in, slots_in}
use Rattle.buffers_range_memory.specs.Ranges.{memory_ranged}
use Rattle.buffers_range_memory.specs.Order.{values_in, part_at, parts_at}
use Rattle.logic.proofs.Judged.{same_test}
use Rattle.buffers_runs.proofs.Runs.{zeros_byte, zeros_true}

-- the largest number that byte a may be, by its processor, part and location
abbrev pub limit : List ℕ → ℕ → ℕ
limit panel a = if within (processors_in panel) (slots_in panel) (byte_processor a) (byte_location a) and ltb (byte_part a) blank then 3 else 0

values_high : (processors slots j : ℕ) → slots ≤ 256 → values_in processors slots j ≤ 256
unfolding values_in
values_high processors slots j h = go (ltb (j / processor_parts) processors and ltb (j % processor_parts) blank)
  where
    go : (b : Bool) → (if b then slots else 0) ≤ 256
    go true = h
    go false = omega arith

module _ (panel memory : List ℕ) (short : slots_in panel ≤ 256) where
  abbrev P : ℕ
  P = processors_in panel

  abbrev C : ℕ
  C = slots_in panel

  abbrev values : ℕ → ℕ
  values j = values_in P C j

  -- the same by its part's index
  limit_is : (a : ℕ) → limit panel a ≡ (if ltb (byte_location a) (values (a / part_stride)) then 3 else 0)
  unfolding within values_in ◌and◌
  limit_is a =
      let q : byte_processor a ≡ a / part_stride / processor_parts = omega arith in
      let r : byte_part a ≡ a / part_stride % processor_parts = omega arith in
      rw (q, r) (go (ltb (a / part_stride / processor_parts) P) (ltb (a / part_stride % processor_parts) blank) (ltb (byte_location a) C) refl)
    where
      none : ltb (byte_location a) 0 ≡ false
      none = le-ltb (byte_location a) 0 (omega arith)

      go : (x y z : Bool) → ltb (byte_location a) C ≡ z
          → ◌≡◌ {A = ℕ} (if (x and z) and y then 3 else 0) (if ltb (byte_location a) (if x and y then C else 0) then 3 else 0)
      go true true true e = rw e
      go true true false e = rw e
      go true false true e = rw none
      go true false false e = rw none
      go false y z e = rw none

  -- what a memory in range tells, byte by byte
  module _ (h : memory_ranged panel memory ≡ true) where
    byte_test : (a : ℕ) → a < memory_length → leb (get_or memory a 0) (if ltb (byte_location a) (values (a / part_stride)) then 3 else 0) ≡ true
    unfolding memory_ranged
    byte_test a l = rw (limit_is a) at (all_at (λ b. leb (get_or memory b 0) (limit panel b)) memory_length h a l)

    part_holds : (j : ℕ) → j < memory_parts → part_at memory (part_stride * j) (values j) ≡ true
    unfolding part_at
    part_holds j l =
        let few = values_high P C j short in
        and_true _ _
        (all_true _ (values j) (λ k b.
        let q : (part_stride * j + k) / part_stride ≡ j = omega arith in
        let r : byte_location (part_stride * j + k) ≡ k = omega arith in
        rw (r, q, lt-ltb k (values j) b) at (byte_test (part_stride * j + k) (omega arith))))
        (zeros_true memory (part_stride * j + values j) (part_stride - values j) (λ x low high.
        let q : x / part_stride ≡ j = omega arith in
        let e = rw (q, le-ltb (byte_location x) (values j) (omega arith)) at (byte_test x (omega arith)) in
        let z = leb-true (get_or memory x 0) 0 e in
        omega arith))

    ranged_parts : parts_at memory P C ≡ true
    unfolding parts_at
    ranged_parts = all_true _ memory_parts part_holds

  module _ (h : parts_at memory P C ≡ true) where
    part_there : (j : ℕ) → j < memory_parts → part_at memory (part_stride * j) (values j) ≡ true
    unfolding parts_at
    part_there j l = all_at (λ i. part_at memory (part_stride * i) (values i)) memory_parts h j l

    value_there : (j k : ℕ) → j < memory_parts → k < values j → leb (get_or memory (part_stride * j + k) 0) 3 ≡ true
    unfolding part_at
    value_there j k l b = all_at (λ i. leb (get_or memory (part_stride * j + i) 0) 3) (values j) (and_left _ _ (part_there j l)) k b

    zero_there : (j x : ℕ) → j < memory_parts → part_stride * j + values j ≤ x → x < part_stride * j + part_stride → get_or memory x 0 ≡ 0
    unfolding part_at
    zero_there j x l low high =
        let few = values_high P C j short in
        zeros_byte memory (part_stride * j + values j) (part_stride - values j) (and_right _ _ (part_there j l)) x low (omega arith)

    byte_there : (a : ℕ) → a < memory_length → leb (get_or memory a 0) (limit panel a) ≡ true
    byte_there a l = rw (limit_is a) (go (ltb (byte_location a) (values (a / part_stride))) refl)
      where
        go : (b : Bool) → ltb (byte_location a) (values (a / part_stride)) ≡ b → leb (get_or memory a 0) (if b then 3 else 0) ≡ true
        go true e =
            let q : part_stride * (a / part_stride) + byte_location a ≡ a = omega arith in
            rw q at (value_there (a / part_stride) (byte_location a) (omega arith) (ltb-true _ _ e))
        go false e =
            let b = ltb-false (byte_location a) (values (a / part_stride)) e in
            le-leb (get_or memory a 0) 0 (let z = zero_there (a / part_stride) a (omega arith) (omega arith) (omega arith) in omega arith)

    parts_ranged : memory_ranged panel memory ≡ true
    unfolding memory_ranged
    parts_ranged = all_true (λ b. leb (get_or memory b 0) (limit panel b)) memory_length byte_there

  pub memory_order : parts_at memory P C ≡ memory_ranged panel memory
  memory_order = same_test (parts_at memory P C) (memory_ranged panel memory) parts_ranged ranged_parts
