-- Refusal 22 by counting: the sum over processors and slots is the sum over the lines, and an array that counts each line's signal has
-- it at every signal.
use Prim.Native.Nat.{ℕ, zero, suc, ◌+◌, ◌*◌, ◌/◌, ◌%◌, ◌<◌, ◌≤◌}
use mathlib.Core.Path.{◌≡◌, refl, sym, ap, ◌∙◌}
use mathlib.Core.Bool.{Bool, true, false}
use mathlib.Core.List.{List}
use native.Mathlib.Omega.{arith}
use native.Mathlib.Nat.{suc-mul, div-eq_of_lt, mod-eq_of_lt, mul-add-div_right, mul-add-mod_self_right}
use native.Mathlib.Numerals.{add-one}
use native.Mathlib.Decide.{ℕ_discrete}
use lib.Dec.{eqb}
use lib.ListN.{length, get_or, set}
use lib.Seq.{get_or-set_same, get_or-set_other}
use borrow.Author.Tests.{eq-eqb, ne_eqb}
use Rattle.logic.specs.Test.{one, total}
use Rattle.model.specs.Module.{placements}
use Rattle.model.specs.ModuleFile.{mod_field, mod_processors, mod_slots, mod_index, module_of, placed}
use Rattle.file_mod_lines.specs.Answer.{Sized}
use Rattle.model.specs.Refusal.{pass, fail, unless}
use Rattle.model.specs.Network.{Network}
use Rattle.file_mod.specs.Counting.{once, counted_once}
use Rattle.model.proofs.Refusals.{unless_pass, below_all, below_first, below_same}
use Rattle.file_lines.proofs.Lines.{test_fails}
use Rattle.file_mod_lines.proofs.Lines.{line_index, line_total}

-- Sums

total_same : (f g : ℕ → ℕ) (n : ℕ) → ((k : ℕ) → k < n → f k ≡ g k) → total n f ≡ total n g
unfolding total
total_same f g zero h = refl
total_same f g (suc n) h = rw (total_same f g n (λ k l. h k (omega arith)), h n (omega arith))

total_sum : (f : ℕ → ℕ) (a b : ℕ) → total (a + b) f ≡ total a f + total b (λ i. f (a + i))
unfolding total
total_sum f a zero = let e : a + 0 ≡ a = omega arith in rw e (omega arith)
total_sum f a (suc b) = let e : a + suc b ≡ suc (a + b) = omega arith in rw e (omega (arith, total_sum f a b))

-- row by row
pub total_grid : (g : ℕ → ℕ → ℕ) (rows columns : ℕ) → 0 < columns
    → total (rows * columns) (λ k. g (k / columns) (k % columns)) ≡ total rows (λ p. total columns (g p))
unfolding total
total_grid g zero columns h = let e : 0 * columns ≡ 0 = omega arith in rw e
total_grid g (suc rows) columns h =
    let f : ℕ → ℕ = λ k. g (k / columns) (k % columns) in
    let row : total columns (λ i. f (rows * columns + i)) ≡ total columns (g rows) =
    total_same (λ i. f (rows * columns + i)) (g rows) columns (λ i l. here i l) in
    rw suc-mul (total_sum f (rows * columns) columns ∙ (rw (total_grid g rows columns h, row)))
  where
    here : (i : ℕ) → i < columns → g ((rows * columns + i) / columns) ((rows * columns + i) % columns) ≡ g rows i
    here i l =
        let q : (rows * columns + i) / columns ≡ rows = omega (arith, mul-add-div_right h rows i, div-eq_of_lt l) in
        let r : (rows * columns + i) % columns ≡ i = mul-add-mod_self_right rows columns i ∙ mod-eq_of_lt l in
        rw (q, r)

-- Counts

-- how often s is the signal of the first k lines after the first
abbrev pub counted : List ℕ → ℕ → ℕ → ℕ
counted l k s = total k (λ j. one (eqb (mod_field l (j + 1) 2) s))

pub counted_few : (l : List ℕ) (k s : ℕ) → counted l k s ≤ k
unfolding total
counted_few l zero s = omega arith
counted_few l (suc k) s = go (eqb (mod_field l (k + 1) 2) s) (counted_few l k s)
  where
    go : (b : Bool) → counted l k s ≤ k → counted l k s + one b ≤ suc k
    go true h = omega arith
    go false h = omega arith

pub counted_all : (l : List ℕ) (p c lines s : ℕ) → Sized l p c → lines ≡ p * c → counted l lines s ≡ placements (module_of l) s
unfolding placements module_of
counted_all l p c lines s sized e =
    let at : ℕ → ℕ → ℕ = λ p i. one (eqb (mod_field l (mod_index l p i) 2) s) in
    let same : total lines (λ j. one (eqb (mod_field l (j + 1) 2) s)) ≡ total lines (λ k. at (k / mod_slots l) (k % mod_slots l)) =
    total_same (λ j. one (eqb (mod_field l (j + 1) 2) s)) (λ k. at (k / mod_slots l) (k % mod_slots l)) lines (λ k h. rw (line_index l k)) in
    same
    ∙ (rw (e ∙ line_total l p c sized)
    (total_grid at (mod_processors l) (mod_slots l) (omega (arith, sized.slots, sized.slots_low))))

-- one line more
module _ (counts l : List ℕ) (k x : ℕ) (long : length counts ≡ 4097) (small : x ≤ 4096) (is : x ≡ mod_field l (k + 1) 2)
    (before : (s : ℕ) → s ≤ 4096 → get_or counts s 0 ≡ counted l k s) where
  pub count_more : (s : ℕ) → s ≤ 4096 → get_or (set counts x (get_or counts x 0 + 1)) s 0 ≡ counted l (k + 1) s
  unfolding total
  count_more s low = go (ℕ_discrete s x)
    where
      more : counted l (k + 1) s ≡ counted l k s + one (eqb (mod_field l (k + 1) 2) s)
      more = ap (λ (n : ℕ). counted l n s) (add-one k)

      go : Dec (s ≡ x) → get_or (set counts x (get_or counts x 0 + 1)) s 0 ≡ counted l (k + 1) s
      go (yes e) =
          let here : one (eqb (mod_field l (k + 1) 2) s) ≡ 1 = ap one (eq-eqb (mod_field l (k + 1) 2) s (sym (e ∙ is))) in
          let old : get_or counts x 0 ≡ counted l k s = rw (← e) (before s low) in
          let new : get_or (set counts x (get_or counts x 0 + 1)) s 0 ≡ get_or counts x 0 + 1 =
          ap (λ (i : ℕ). get_or (set counts x (get_or counts x 0 + 1)) i 0) e
          ∙ get_or-set_same counts x (get_or counts x 0 + 1) 0 (omega arith) in
          omega (arith, more)
      go (no d) =
          let here : one (eqb (mod_field l (k + 1) 2) s) ≡ 0 =
          ap one (ne_eqb (mod_field l (k + 1) 2) s (λ (e : mod_field l (k + 1) 2 ≡ s). d (sym (is ∙ e)))) in
          omega (arith, more, before s low, get_or-set_other counts x s (get_or counts x 0 + 1) 0 d)

-- the first signal that is not counted once, or none
module _ (signals : ℕ) (counts : List ℕ) where
  passes : (k : ℕ) → get_or counts (suc k) 0 ≡ 1 → once counts k ≡ pass
  unfolding once
  passes k e = unless_pass _ 22 (suc k) (eq-eqb (get_or counts (suc k) 0) 1 e)

  pub all_once : ((s : ℕ) → 1 ≤ s → s < signals + 1 → get_or counts s 0 ≡ 1) → counted_once signals counts ≡ pass
  unfolding counted_once
  all_once h = below_all signals (once counts) (λ k low. passes k (h (suc k) (omega arith) (omega arith)))

  pub first_not_once : (s : ℕ) → 1 ≤ s → s < signals + 1 → (get_or counts s 0 ≡ 1 → ⊥)
      → ((k : ℕ) → 1 ≤ k → k < s → get_or counts k 0 ≡ 1) → counted_once signals counts ≡ fail 22 s
  unfolding counted_once once
  first_not_once zero low high wrong before = absurd (omega arith)
  first_not_once (suc k) low high wrong before =
      below_first signals (once counts)
      (record {
        at = k;
        low = omega arith;
        fails = test_fails _ 22 (suc k) (ne_eqb (get_or counts (suc k) 0) 1 wrong);
        before = λ j below. passes j (before (suc j) (omega arith) (omega arith));
      })

pub counted_placed : (signals : ℕ) (counts l : List ℕ) → signals ≤ 4096
    → ((s : ℕ) → s ≤ 4096 → get_or counts s 0 ≡ placements (module_of l) s)
    → (n : Network) → n.size ≡ signals → counted_once signals counts ≡ placed n (module_of l)
unfolding counted_once once placed
counted_placed signals counts l few is n e =
    rw e
    (below_same signals (once counts)
    (λ k. unless (eqb (placements (module_of l) (suc k)) 1) 22 (suc k)) (λ k low. rw (is (suc k) (omega arith))))
