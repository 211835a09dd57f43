-- Laws of `written`: what stands at a place after a memory is written, and lists that are so written. The idea: every byte has one
-- processor, part and location.
use Prim.Native.Nat.{ℕ, zero, suc, ◌<◌, ◌≤◌}
use mathlib.Core.Path.{◌≡◌, refl, sym, subst, ◌∙◌, ap}
use mathlib.Core.Bool.{Bool, true, false}
use mathlib.Core.List.{List}
use native.Mathlib.Omega.{arith}
use lib.Dec.{ltb}
use lib.ListN.{length, get_or, set}
use lib.Seq.{get_or-set_same, get_or-set_other}
use borrow.Author.Tests.{lt-ltb, le-ltb, ltb-true, ltb-false}
use Rattle.logic.specs.Test.{◌and◌}
use Rattle.logic.proofs.Listed.{listed_length, listed_at, is_listed}
use Rattle.logic.proofs.Judged.{and_false}
use Rattle.gates.specs.Value.{Code}
use Rattle.model.specs.Machine.{Memory, fetch}
use Rattle.buffers_memory.specs.Memory.{memory_length, processor_parts, blank, place, byte_processor, byte_part, byte_location, memory_of, written_at, written, MemoryBytes}

-- a processor, a part and a location of the memory
pub record Place (p part k : ℕ) : Type 0 where
  pub processor_low : p < 16
  pub part_low : part < processor_parts
  pub location_low : k < 256

-- one byte for each, and each byte for one
module _ {p part k : ℕ} (a : Place p part k) where
  pub place_low : place p part k < memory_length
  place_low = let h = a.processor_low in let b = a.part_low in let l = a.location_low in omega arith

  pub at_processor : byte_processor (place p part k) ≡ p
  at_processor = let h = a.processor_low in let b = a.part_low in let l = a.location_low in omega arith

  pub at_part : byte_part (place p part k) ≡ part
  at_part = let h = a.processor_low in let b = a.part_low in let l = a.location_low in omega arith

  pub at_location : byte_location (place p part k) ≡ k
  at_location = let h = a.processor_low in let b = a.part_low in let l = a.location_low in omega arith

  -- places that differ somewhere are other bytes
  pub place_same : {q x j : ℕ} → Place q x j → place q x j ≡ place p part k → (q ≡ p) × (x ≡ part) × (j ≡ k)
  place_same b e =
      let h = a.processor_low in let i = a.part_low in let l = a.location_low in
      let h' = b.processor_low in let i' = b.part_low in let l' = b.location_low in
      (omega arith, omega arith, omega arith)

-- each byte of the memory has a place
pub byte_place : (a : ℕ) → a < memory_length → Place (byte_processor a) (byte_part a) (byte_location a)
byte_place a l = record { processor_low = omega arith; part_low = omega arith; location_low = omega arith }

pub byte_is : (a : ℕ) → a ≡ place (byte_processor a) (byte_part a) (byte_location a)
byte_is a = omega arith

module _ (test : ℕ → ℕ → Bool) (w : Memory) (old : List ℕ) where
  pub written_length : length (written test w old) ≡ memory_length
  unfolding written
  written_length = listed_length memory_length _

  pub written_at_lem : {p part k : ℕ} → Place p part k → get_or (written test w old) (place p part k) 0 ≡ written_at test w old p part k
  unfolding written
  written_at_lem {p} {part} {k} a =
      listed_at memory_length _ (place p part k) (place_low a)
      ∙ ap (λ (x : ℕ). written_at test w old x (byte_part (place p part k)) (byte_location (place p part k))) (at_processor a)
      ∙ ap (λ (x : ℕ). written_at test w old p x (byte_location (place p part k))) (at_part a)
      ∙ ap (λ (x : ℕ). written_at test w old p part x) (at_location a)

  -- a list is written so, if it is at every place
  pub is_written : (l : List ℕ) → length l ≡ memory_length
      → ((p part k : ℕ) → Place p part k → get_or l (place p part k) 0 ≡ written_at test w old p part k) → l ≡ written test w old
  unfolding written
  is_written l e h =
      is_listed l memory_length _ e
      (λ a b. ap (λ (x : ℕ). get_or l x 0) (byte_is a) ∙ h (byte_processor a) (byte_part a) (byte_location a) (byte_place a b))

  -- where the test passes, and elsewhere
  pub written_here : (p part k : ℕ) → test p k ≡ true → part < blank → written_at test w old p part k ≡ fetch w p part k
  unfolding written_at ◌and◌
  written_here p part k t l = rw (t, lt-ltb part blank l)

  pub written_else : (p part k : ℕ) → test p k ≡ false → written_at test w old p part k ≡ get_or old (place p part k) 0
  unfolding written_at ◌and◌
  written_else p part k t = rw t

  pub written_blank : (p part k : ℕ) → blank ≤ part → written_at test w old p part k ≡ get_or old (place p part k) 0
  unfolding written_at
  written_blank p part k l = rw (le-ltb part blank l, and_false (test p k))

-- the memory that bytes hold is fetched byte by byte
pub fetch_bytes : (l : List ℕ) (p part k : ℕ) → part < blank → fetch (memory_of l) p part k ≡ get_or l (place p part k) 0
unfolding fetch memory_of
fetch_bytes l p zero k h = refl
fetch_bytes l p (suc zero) k h = refl
fetch_bytes l p (suc (suc zero)) k h = refl
fetch_bytes l p (suc (suc (suc zero))) k h = refl
fetch_bytes l p (suc (suc (suc (suc part)))) k h = absurd (omega arith)

-- a store at a place
module _ (l : List ℕ) (size : length l ≡ memory_length) {p part k : ℕ} (a : Place p part k) (v : ℕ) where
  pub stored_there : get_or (set l (place p part k) v) (place p part k) 0 ≡ v
  stored_there = let h = place_low a in get_or-set_same l (place p part k) v 0 (omega arith)

  pub stored_else : {q x j : ℕ} → Place q x j → ((q ≡ p) × (x ≡ part) × (j ≡ k) → ⊥)
      → get_or (set l (place p part k) v) (place q x j) 0 ≡ get_or l (place q x j) 0
  stored_else {q} {x} {j} b d = get_or-set_other l (place p part k) (place q x j) v 0 (λ e. d (place_same a b e))

-- memories that agree where the test passes
abbrev pub Agree : (ℕ → ℕ → Bool) → Memory → Memory → Type 0
Agree test w u = (p part k : ℕ) → Place p part k → part < blank → test p k ≡ true → fetch w p part k ≡ fetch u p part k

-- what is written in two steps: w where the first test passes, then u, which agrees with w, where the second does
pub written_join : (first second both : ℕ → ℕ → Bool) (w u : Memory) (old : List ℕ) → Agree second u w
    → ((p k : ℕ) → second p k ≡ true → both p k ≡ true) → ((p k : ℕ) → second p k ≡ false → both p k ≡ first p k)
    → written second u (written first w old) ≡ written both w old
unfolding written_at
written_join first second both w u old agree inside outside =
    is_written both w old (written second u (written first w old)) (written_length second u (written first w old))
    (λ p part k a. written_at_lem second u (written first w old) a ∙ go p part k a (second p k) refl)
  where
    here : (p part k : ℕ) → Place p part k → second p k ≡ true → (b : Bool) → ltb part blank ≡ b
        → written_at second u (written first w old) p part k ≡ written_at both w old p part k
    here p part k a t true e =
        let l = ltb-true part blank e in
        written_here second u (written first w old) p part k t l ∙ agree p part k a l t ∙ sym (written_here both w old p part k (inside p k t) l)
    here p part k a t false e =
        let l = ltb-false part blank e in
        written_blank second u (written first w old) p part k l ∙ written_at_lem first w old a
        ∙ written_blank first w old p part k l ∙ sym (written_blank both w old p part k l)

    go : (p part k : ℕ) → Place p part k → (b : Bool) → second p k ≡ b
        → written_at second u (written first w old) p part k ≡ written_at both w old p part k
    go p part k a true t = here p part k a t (ltb part blank) refl
    go p part k a false t = written_else second u (written first w old) p part k t ∙ written_at_lem first w old a ∙ rw (outside p k t)

-- what was not written stays
pub written_kept : (test : ℕ → ℕ → Bool) (w : Memory) (old : List ℕ) {p part k : ℕ} → Place p part k → test p k ≡ false
    → get_or (written test w old) (place p part k) 0 ≡ get_or old (place p part k) 0
written_kept test w old {p} {part} {k} a t = written_at_lem test w old a ∙ written_else test w old p part k t

-- memories that agree where they are written
pub written_same : (test : ℕ → ℕ → Bool) (w u : Memory) (old : List ℕ) → Agree test w u → written test w old ≡ written test u old
written_same test w u old agree =
    is_written test u old (written test w old) (written_length test w old) (λ p part k a. written_at_lem test w old a ∙ go p part k a (test p k) refl)
  where
    here : (p part k : ℕ) → Place p part k → test p k ≡ true → (b : Bool) → ltb part blank ≡ b → written_at test w old p part k ≡ written_at test u old p part k
    here p part k a t true e =
        let l = ltb-true part blank e in
        written_here test w old p part k t l ∙ agree p part k a l t ∙ sym (written_here test u old p part k t l)
    here p part k a t false e =
        let l = ltb-false part blank e in
        written_blank test w old p part k l ∙ sym (written_blank test u old p part k l)

    go : (p part k : ℕ) → Place p part k → (b : Bool) → test p k ≡ b → written_at test w old p part k ≡ written_at test u old p part k
    go p part k a true t = here p part k a t (ltb part blank) refl
    go p part k a false t = written_else test w old p part k t ∙ sym (written_else test u old p part k t)

-- a memory that holds values where the test passes
abbrev pub Coded : (ℕ → ℕ → Bool) → Memory → Type 0
Coded test w = (p part k : ℕ) → Place p part k → part < blank → test p k ≡ true → Code (fetch w p part k)

-- bytes that are values stay so
pub written_values : (test : ℕ → ℕ → Bool) (w : Memory) (old : List ℕ) → Coded test w
    → ((p part k : ℕ) → Place p part k → Code (get_or old (place p part k) 0))
    → (p part k : ℕ) → Place p part k → Code (get_or (written test w old) (place p part k) 0)
written_values test w old coded values p part k there =
    subst Code (sym (written_at_lem test w old there)) (go (test p k) refl (ltb part blank) refl)
  where
    go : (t : Bool) → test p k ≡ t → (b : Bool) → ltb part blank ≡ b → Code (written_at test w old p part k)
    go true t true b =
        let l = ltb-true part blank b in
        subst Code (sym (written_here test w old p part k t l)) (coded p part k there l t)
    go true t false b = subst Code (sym (written_blank test w old p part k (ltb-false part blank b))) (values p part k there)
    go false t b e = subst Code (sym (written_else test w old p part k t)) (values p part k there)

-- and the fifth parts blank
pub written_bytes : (test : ℕ → ℕ → Bool) (w : Memory) (old : List ℕ) → Coded test w → MemoryBytes old → MemoryBytes (written test w old)
written_bytes test w old coded h =
    record {
      size = written_length test w old;
      values = λ a l.
          subst (λ (x : ℕ). Code (get_or (written test w old) x 0)) (sym (byte_is a))
          (written_values test w old coded (λ p part k there. h.values (place p part k) (place_low there)) _ _ _ (byte_place a l));
      blanks = λ p k l b.
          written_at_lem test w old (record { processor_low = l; part_low = omega arith; location_low = b })
          ∙ written_blank test w old p blank k (omega arith)
          ∙ h.blanks p k l b;
    }

-- what is written last stays
pub written_over : (test : ℕ → ℕ → Bool) (w u : Memory) (old : List ℕ) → written test u (written test w old) ≡ written test u old
unfolding written_at ◌and◌
written_over test w u old =
    is_written test u old (written test u (written test w old)) (written_length test u (written test w old))
    (λ p part k a. written_at_lem test u (written test w old) a ∙ go p part k a (test p k) refl (ltb part blank) refl)
  where
    go : (p part k : ℕ) → Place p part k → (t : Bool) → test p k ≡ t → (b : Bool) → ltb part blank ≡ b
        → written_at test u (written test w old) p part k ≡ written_at test u old p part k
    go p part k a true t true b = rw (t, b)
    go p part k a true t false b = rw (t, b) (written_at_lem test w old a ∙ rw (t, b))
    go p part k a false t b e = rw t (written_kept test w old a t)

-- bytes hold their own memory
pub written_self : (test : ℕ → ℕ → Bool) (l : List ℕ) → length l ≡ memory_length → l ≡ written test (memory_of l) l
unfolding written_at ◌and◌
written_self test l size = is_written test (memory_of l) l l size (λ p part k a. go p part k (test p k) refl (ltb part blank) refl)
  where
    go : (p part k : ℕ) → (t : Bool) → test p k ≡ t → (b : Bool) → ltb part blank ≡ b → get_or l (place p part k) 0 ≡ written_at test (memory_of l) l p part k
    go p part k true t true b = rw (t, b) (sym (fetch_bytes l p part k (ltb-true part blank b)))
    go p part k true t false b = rw (t, b)
    go p part k false t b e = rw t

pub bytes_written : (test : ℕ → ℕ → Bool) (w : Memory) (old l : List ℕ) → Coded test w → MemoryBytes old → l ≡ written test w old → MemoryBytes l
bytes_written test w old l coded h e = subst MemoryBytes (sym e) (written_bytes test w old coded h)
