-- STIM's check from line to line: what is known where the lines before one are passed, and what that line then decides.
use Prim.Native.Nat.{ℕ, suc, ◌+◌, ◌-◌, ◌*◌, ◌<◌, ◌≤◌}
use mathlib.Core.Path.{◌≡◌, refl, sym, ◌∙◌, ap}
use mathlib.Core.Bool.{Bool, true, false}
use mathlib.Core.List.{List}
use native.Mathlib.Omega.{arith}
use native.Mathlib.Numerals.{add-one}
use lib.Dec.{leb}
use native.Mathlib.Decide.{ℕ_discrete}
use lib.ListN.{length, get_or, set, length-set}
use lib.Seq.{get_or-set_same, get_or-set_other}
use Rattle.std.specs.Prelude.{Result, Ok, Err}
use Rattle.fields.specs.Field.{number_at}
use Rattle.fields.specs.Line.{is_line_at}
use Rattle.model.specs.Refusal.{pass, first, unless}
use Rattle.model.specs.Network.{Network}
use Rattle.model.specs.Stimulus.{stim_line, stim_limit, is_end, stim_given, stim_end, stim_lines, stim_check, lines_before, stim_count}
use Rattle.model.proofs.Refusals.{first_second}
use Rattle.file_lines.specs.Answer.{answered}
use Rattle.file_lines.proofs.Stages.{refused, renamed, stays}
use Rattle.file_lines.proofs.Lines.{test_stops}
use Rattle.file_stim.specs.declared.StimRefusal.{StimRefusal}
use Rattle.file_stim.specs.declared.StimRefusal.TheVariants.{Misformed}
use Rattle.file_stim.specs.declared.Line.{Line}
use Rattle.file_stim.specs.Answer.{stim_refusal, StimAnswers}
use Rattle.file_stim.specs.Judging.{numbers_of, numbers_before, ends, judged_end, judged_given}
use Rattle.file_stim.proofs.Judging.{ended, not_passed, given_is, end_is, end_accepts}

-- Every line below index is right and gives a value, so that the check and the count are those of the lines from there on
pub record Reached (n : Network) (stim : List ℕ) (index : ℕ) : Type 0 where
  pub few : index ≤ stim_limit
  pub check : stim_check n stim ≡ stim_lines n stim (stim_limit - index) index
  pub count : stim_count stim ≡ lines_before stim (stim_limit - index) index

pub reached_first : (n : Network) (stim : List ℕ) → Reached n stim 0
unfolding stim_check stim_count
reached_first n stim = record { few = omega arith; check = refl; count = refl }

-- "At most 65534 lines": line 65535 is missing or surplus
pub limit_reached : (n : Network) (stim : List ℕ) (index : ℕ) → Reached n stim index → stim_limit ≤ index
    → StimAnswers stim (stim_check n stim) (Err (Misformed 65535))
unfolding stim_lines unless
limit_reached n stim index reached h =
    let end : index ≡ stim_limit = omega (arith, reached.few) in
    refused refl (rw end at reached.check)

module _ (n : Network) (stim : List ℕ) (index : ℕ) (reached : Reached n stim index) (low : index < stim_limit) where
  left : stim_limit - index ≡ suc (stim_limit - (index + 1))
  left = omega arith

  pub misformed : is_line_at stim (stim_line index) 3 ≡ false → StimAnswers stim (stim_check n stim) (Err (Misformed (index + 1)))
  unfolding stim_lines
  misformed e = refused refl (reached.check ∙ rw left (test_stops _ 30 (index + 1) _ e))

  count_end : is_end stim index ≡ true → stim_count stim ≡ index
  unfolding lines_before
  count_end e = reached.count ∙ rw (left, e, lines_before)

  count_next : is_end stim index ≡ false → stim_count stim ≡ lines_before stim (stim_limit - (index + 1)) (index + 1)
  unfolding lines_before
  count_next e = reached.count ∙ rw (left, e, lines_before)

  module _ (form : is_line_at stim (stim_line index) 3 ≡ true) where
    abbrev last : Bool
    last = leb (length stim) (stim_line (index + 1))

    check_end : is_end stim index ≡ true → stim_check n stim ≡ stim_end stim index
    unfolding stim_lines first unless
    check_end e = reached.check ∙ rw (left, form, e)

    check_next : is_end stim index ≡ false
        → stim_check n stim ≡ first (stim_given n stim index) (stim_lines n stim (stim_limit - (index + 1)) (index + 1))
    unfolding stim_lines first unless
    check_next e = reached.check ∙ rw (left, form, e)

    -- the line, judged by its numbers and those in hand
    module _ {before here : Line} (in_hand : before ≡ numbers_before stim index) (numbers : here ≡ numbers_of stim index) where
      ends_here : {b : Bool} → b ≡ ends here → is_end stim index ≡ b
      ends_here = ended stim index numbers

      module _ {r : Result Unit StimRefusal} (e : false ≡ ends here) (judged : r ≡ judged_given n index before here) where
        given_check : stim_given n stim index ≡ answered stim_refusal r
        given_check = sym (given_is n stim index) ∙ rw (← in_hand, ← numbers) (ap (answered stim_refusal) (sym judged))

        pub given_wrong : {refusal : StimRefusal} → r ≡ Err refusal → StimAnswers stim (stim_check n stim) (Err refusal)
        given_wrong {refusal} q =
            let is = given_check ∙ ap (answered stim_refusal) q in
            renamed refl (sym (check_next (ends_here e))) (stays _ (sym is) (λ p. not_passed refusal (sym is ∙ p)))

        pub line_passed : ((refusal : StimRefusal) → r ≡ Err refusal → ⊥) → Reached n stim (index + 1)
        line_passed other =
            record {
              few = omega arith;
              check = check_next (ends_here e) ∙ first_second _ _ (given_check ∙ right r other);
              count = count_next (ends_here e);
            }
          where
            right : (r : Result Unit StimRefusal) → ((refusal : StimRefusal) → r ≡ Err refusal → ⊥) → answered stim_refusal r ≡ pass
            right (Ok u) d = refl
            right (Err refusal) d = absurd (d refusal refl)

      pub end_answers : true ≡ ends here → (at : ℕ) → at ≡ 19 * index → {r : Result ℕ StimRefusal}
          → r ≡ judged_end index (leb (length stim) (at + 19)) before here → StimAnswers stim (stim_check n stim) r
      end_answers e at place {r} judged =
          let same : at + 19 ≡ stim_line (index + 1) = omega arith in
          let is : r ≡ judged_end index last (numbers_before stim index) (numbers_of stim index) = judged ∙ rw (in_hand, numbers, same) in
          let refusal = ap (answered stim_refusal) is ∙ end_is n stim index ∙ sym (check_end (ends_here e)) in
          record {
            refuses = refusal;
            accepts =
                λ p.
                is ∙ end_accepts index last _ _ (ap (answered stim_refusal) (sym is) ∙ refusal ∙ p) ∙ ap Ok (sym (count_end (ends_here e)));
          }

-- the numbers in hand at the next line
pub next_before : (stim : List ℕ) (index : ℕ) (here : Line) → here ≡ numbers_of stim index → here ≡ numbers_before stim (index + 1)
unfolding numbers_before
next_before stim index here e = rw add-one e

-- the numbers of a line's first fields, as the loop over them collects them
pub record NumbersRead (stim : List ℕ) (at k : ℕ) (numbers : List ℕ) : Type 0 where
  pub size : length numbers ≡ 3
  pub are : (j : ℕ) → j < k → get_or numbers j 0 ≡ number_at stim (at + 6 * j)

pub numbers_more : {stim : List ℕ} {at k : ℕ} {numbers : List ℕ} → NumbersRead stim at k numbers → k < 3 → (m : ℕ) → m ≡ number_at stim (at + 6 * k)
    → NumbersRead stim at (k + 1) (set numbers k m)
numbers_more {stim} {at} {k} {numbers} so_far low m e =
    record { size = length-set numbers k m ∙ so_far.size; are = λ j l. number j l (ℕ_discrete j k) }
  where
    number : (j : ℕ) → j < k + 1 → Dec (j ≡ k) → get_or (set numbers k m) j 0 ≡ number_at stim (at + 6 * j)
    number j l (yes q) = rw q (get_or-set_same numbers k m 0 (omega (arith, so_far.size)) ∙ e)
    number j l (no d) = get_or-set_other numbers k j m 0 d ∙ so_far.are j (omega arith)

pub numbers_here : {stim : List ℕ} (index : ℕ) {k : ℕ} {numbers : List ℕ} → NumbersRead stim (19 * index) k numbers → 3 ≤ k
    → record { time = record { 0 = get_or numbers 0 0 }; signal = get_or numbers 1 0; value = get_or numbers 2 0 } ≡ numbers_of stim index
numbers_here {stim} index so_far h =
    let first : 19 * index + 6 * 0 ≡ 19 * index = omega arith in
    rw (so_far.are 0 (omega arith), so_far.are 1 (omega arith), so_far.are 2 (omega arith), first)
