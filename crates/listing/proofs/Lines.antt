-- The line of STIM that is read next, by the lines before it.
use Prim.Native.Nat.{ℕ, zero, suc, ◌<◌, ◌≤◌}
use mathlib.Core.Path.{◌≡◌, refl, ◌∙◌}
use mathlib.Core.Bool.{Bool, true, false}
use mathlib.Core.List.{List}
use native.Mathlib.Omega.{arith}
use native.Mathlib.Decide.{ℕ_discrete, dec_lt}
use lib.Dec.{leb}
use borrow.Author.Tests.{leb-true, leb-false}
use Rattle.std.specs.Prelude.{if◌then◌else◌}
use Rattle.model.specs.Refusal.{pass}
use Rattle.model.specs.Network.{Network}
use Rattle.model.specs.Stimulus.{stim_time, stim_check, stim_count}
use Rattle.model.proofs.Accepted.{stim_right, times_rise}
use Rattle.listing_cycle.specs.Feeding.{Passed}
use Rattle.listing.specs.Buffers.{lines_to}

-- there is one line after those of times up to t, and `lines_to` counts to it
passed_one : {stim : List ℕ} {t a b : ℕ} → Passed stim t a → Passed stim t b → a ≡ b
passed_one {stim} {t} {a} {b} p q = go (dec_lt a b) (dec_lt b a)
  where
    go : Dec (a < b) → Dec (b < a) → a ≡ b
    go (yes l) d = absurd (omega (arith, q.earlier a l, p.later (omega (arith, q.few))))
    go (no c) (yes l) = absurd (omega (arith, p.earlier b l, q.later (omega (arith, p.few))))
    go (no c) (no d) = omega arith

module _ (n : Network) (stim : List ℕ) (passes : stim_check n stim ≡ pass) (t : ℕ) where
  -- of the first c lines
  record First (c line : ℕ) : Type 0 where
    few : line ≤ c
    earlier : (k : ℕ) → k < line → stim_time stim k ≤ t
    later : line < c → t < stim_time stim line

  first_more : (c line : ℕ) → c < stim_count stim → First c line → First (suc c) (if leb (stim_time stim c) t then suc line else line)
  first_more c line l f = go (leb (stim_time stim c) t) refl
    where
      go : (b : Bool) → leb (stim_time stim c) t ≡ b → First (suc c) (if b then suc line else line)
      go true e =
          let up = leb-true (stim_time stim c) t e in
          let all : line ≡ c = whole up (dec_lt line c) in
          record { few = omega (arith, f.few); earlier = λ k b. early k up all b (ℕ_discrete k line); later = λ b. absurd (omega arith) }
        where
          whole : stim_time stim c ≤ t → Dec (line < c) → line ≡ c
          whole up (yes b) =
              absurd (omega (arith, f.later b, times_rise n stim (stim_right n stim passes) line c (omega arith) (omega arith)))
          whole up (no d) = omega (arith, f.few)

          early : (k : ℕ) → stim_time stim c ≤ t → line ≡ c → k < suc line → Dec (k ≡ line) → stim_time stim k ≤ t
          early k up all b (yes q) = rw (q ∙ all) up
          early k up all b (no d) = f.earlier k (omega arith)
      go false e =
          let above = leb-false (stim_time stim c) t e in
          record { few = omega (arith, f.few); earlier = f.earlier; later = λ b. late above (dec_lt line c) }
        where
          late : t < stim_time stim c → Dec (line < c) → t < stim_time stim line
          late above (yes b) = f.later b
          late above (no d) = let q : line ≡ c = omega (arith, f.few) in rw q above

  firsts : (c : ℕ) → c ≤ stim_count stim → First c (lines_to stim t c)
  unfolding lines_to
  firsts zero h = record { few = omega arith; earlier = λ k l. absurd (omega arith); later = λ l. absurd (omega arith) }
  firsts (suc c) h = first_more c (lines_to stim t c) h (firsts c (omega arith))

  pub lines_passed : Passed stim t (lines_to stim t (stim_count stim))
  lines_passed = let f = firsts (stim_count stim) (omega arith) in record { few = f.few; earlier = f.earlier; later = f.later }

  pub passed_line : (line : ℕ) → Passed stim t line → line ≡ lines_to stim t (stim_count stim)
  passed_line line p = passed_one p lines_passed
