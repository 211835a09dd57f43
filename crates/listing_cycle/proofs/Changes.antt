-- The lines of changes, signal by signal: what the two buffers hold after the first of them.
use Prim.Native.Nat.{ℕ, suc, ◌+◌, ◌*◌, ◌<◌, ◌≤◌}
use mathlib.Core.Path.{◌≡◌, refl, sym, ◌∙◌, ap}
use mathlib.Core.Bool.{Bool, true, false}
use mathlib.Core.List.{List, [], ◌∷◌}
use native.Mathlib.Omega.{arith}
use native.Mathlib.Numerals.{add-one}
use native.Mathlib.Decide.{ℕ_discrete, dec_lt}
use lib.Dec.{eqb, leb}
use lib.ListN.{length, get_or, set, length-set, length-append}
use lib.Seq.{sets, get_or-set_same, get_or-set_other}
use borrow.Author.Tests.{eq-eqb, ne_eqb, le-leb, lt-leb}
use Rattle.logic.specs.Test.{◌and◌}
use Rattle.std.specs.Prelude.{if◌then◌else◌}
use Rattle.logic.proofs.Listed.{is_listed}
use Rattle.writing.specs.Text.{line_text}
use Rattle.writing.proofs.Writing.{sets_append, length_line}
use Rattle.model.specs.Listing.{joined}
use Rattle.listing_cycle.specs.Changes.{shown_length, change_line, change_lines, shown_with}

-- one signal
module _ (time s value shown : ℕ) where
  pub line_none : value ≡ shown → change_line time s value shown ≡ []
  unfolding change_line
  line_none e = rw (eq-eqb value shown e)

  pub line_there : (value ≡ shown → ⊥) → change_line time s value shown ≡ line_text (time ∷ s ∷ value ∷ [])
  unfolding change_line
  line_there d = rw (ne_eqb value shown d)

  line_short : length (change_line time s value shown) ≤ 19
  unfolding change_line
  line_short = go (eqb value shown) refl
    where
      go : (b : Bool) → eqb value shown ≡ b → length (change_line time s value shown) ≤ 19
      go true e = rw e (omega arith)
      go false e = rw e (omega (arith, length_line (time ∷ s ∷ value ∷ [])))

-- the signals up to s are passed
pub record Written (n time : ℕ) (values : ℕ → ℕ) (old : ℕ → ℕ) (lent : List ℕ) (s at : ℕ) (shown out : List ℕ) : Type 0 where
  pub low : s ≤ n
  pub place : at ≡ length (change_lines s time values old)
  pub bytes : out ≡ sets lent 0 (change_lines s time values old)
  pub most : at ≤ 19 * s
  pub size : length shown ≡ shown_length
  pub passed : (k : ℕ) → 1 ≤ k → k ≤ s → get_or shown k 0 ≡ values k
  pub others : (k : ℕ) → (1 ≤ k → k ≤ s → ⊥) → get_or shown k 0 ≡ old k

pub written_starts : (n time : ℕ) (values : ℕ → ℕ) (shown lent : List ℕ) → length shown ≡ shown_length
    → Written n time values (λ s. get_or shown s 0) lent 0 0 shown lent
unfolding change_lines joined
written_starts n time values shown lent e =
    record {
      low = omega arith;
      place = refl;
      bytes = refl;
      most = omega arith;
      size = e;
      passed = λ k l h. absurd (omega arith);
      others = λ k d. refl;
    }

module _ {n time : ℕ} {values old : ℕ → ℕ} {lent : List ℕ} {s at : ℕ} {shown out : List ℕ} (w : Written n time values old lent s at shown out) where
  pub written_more : (value next : ℕ) (shown' out' : List ℕ) → s < n → s < 4096 → value ≡ values (s + 1)
      → next ≡ at + length (change_line time (s + 1) value (get_or shown (s + 1) 0))
      → out' ≡ sets out at (change_line time (s + 1) value (get_or shown (s + 1) 0)) → shown' ≡ set shown (s + 1) value
      → Written n time values old lent (s + 1) next shown' out'
  unfolding change_lines joined
  written_more value next shown' out' l few e place bytes stored =
      let last = w.others (suc s) (λ l h. omega arith) in
      record {
        low = omega arith;
        place = rw add-one (place ∙ rw (e, add-one, last, w.place) (sym (length-append (change_lines s time values old) (change_line time (suc s) (values (suc s)) (old (suc s))))));
        bytes = rw add-one (bytes ∙ rw (e, add-one, last, w.bytes) (sets_append lent (change_lines s time values old) (change_line time (suc s) (values (suc s)) (old (suc s))) 0 at (omega (arith, w.place))));
        most = omega (arith, w.most, line_short time (s + 1) value (get_or shown (s + 1) 0));
        size = rw stored (length-set shown (s + 1) value ∙ w.size);
        passed = λ k lo hi. rw stored (now k lo hi (ℕ_discrete k (s + 1)));
        others = λ k d. rw stored (get_or-set_other shown (s + 1) k value 0 (λ q. d (omega arith) (omega arith)) ∙ w.others k (λ lo hi. d lo (omega arith)));
      }
    where
      now : (k : ℕ) → 1 ≤ k → k ≤ s + 1 → Dec (k ≡ s + 1) → get_or (set shown (s + 1) value) k 0 ≡ values k
      now k lo hi (yes q) = rw q (get_or-set_same shown (s + 1) value 0 (omega (arith, w.size)) ∙ e)
      now k lo hi (no d) = get_or-set_other shown (s + 1) k value 0 d ∙ w.passed k lo (omega arith)

  -- the same of the signals below the next one, s
  pub next_more : {n' : ℕ} (value place : ℕ) (shown' out' : List ℕ) → n' ≡ s + 1 → n' ≤ n → n ≤ 4096 → value ≡ values n'
      → place ≡ at + length (change_line time n' value (get_or shown n' 0))
      → out' ≡ sets out at (change_line time n' value (get_or shown n' 0)) → shown' ≡ set shown n' value
      → Written n time values old lent n' place shown' out'
  next_more value place shown' out' e few most is length_is bytes stored =
      rw e (written_more value place shown' out' (omega arith) (omega arith) (rw e at is) (rw e at length_is) (rw e at bytes) (rw e at stored))

  written_shown : shown ≡ shown_with s values old
  unfolding shown_with ◌and◌
  written_shown = is_listed shown shown_length _ w.size (λ k l. byte k (dec_lt 0 k) (dec_lt s k))
    where
      byte : (k : ℕ) → Dec (0 < k) → Dec (s < k) → get_or shown k 0 ≡ (if leb 1 k and leb k s then values k else old k)
      byte k (yes lo) (no hi) = rw (le-leb 1 k lo, le-leb k s (omega arith)) (w.passed k lo (omega arith))
      byte k (yes lo) (yes hi) = rw (le-leb 1 k lo, lt-leb k s hi) (w.others k (λ l h. omega arith))
      byte k (no lo) d = rw (lt-leb 1 k (omega arith)) (w.others k (λ l h. omega arith))

  pub written_ends : (m : ℕ) → n ≡ m → n ≤ s
      → (at ≡ length (change_lines m time values old)) × (out ≡ sets lent 0 (change_lines m time values old)) × (shown ≡ shown_with m values old)
  written_ends m e h =
      let q : s ≡ m = omega (arith, w.low) in (
        w.place ∙ ap (λ (k : ℕ). length (change_lines k time values old)) q,
        w.bytes ∙ ap (λ (k : ℕ). sets lent 0 (change_lines k time values old)) q,
        written_shown ∙ ap (λ (k : ℕ). shown_with k values old) q,
      )

-- the signals before signal s are passed
abbrev pub WrittenBefore : ℕ → ℕ → (ℕ → ℕ) → (ℕ → ℕ) → List ℕ → ℕ → ℕ → List ℕ → List ℕ → Type 0
WrittenBefore n time values old lent s at shown out = (k : ℕ) × (s ≡ k + 1) × Written n time values old lent k at shown out
