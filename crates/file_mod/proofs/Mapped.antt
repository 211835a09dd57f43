-- An answer whose refusal is a line's number, made one whose refusal is MOD's.
use Prim.Native.Nat.{ℕ}
use mathlib.Core.Path.{◌≡◌, sym}
use Rattle.std.specs.Prelude.{Result, Ok, Err}
use Rattle.std.specs.Result.{MatchResult, IsErrAnd}
use Rattle.std.proofs.lemmas.Result.{err_from_is_err_and}
use Rattle.model.specs.Refusal.{Check, fail}
use Rattle.file_lines.specs.Answer.{Answers}
use Rattle.file_lines.proofs.Stages.{refused, accepted}
use Rattle.file_mod_lines.specs.Answer.{mod_refusal}
use Rattle.file_mod_lines.specs.declared.ModRefusal.{ModRefusal}

pub mapped : {number : ℕ} {check : Check} {r : Result (Unit {0}) ℕ} {s : Result (Unit {0}) ModRefusal} (post : ℕ → ModRefusal → Type 0)
    → ((line : ℕ) (refusal : ModRefusal) → post line refusal → mod_refusal refusal ≡ fail number line)
    → Answers (fail number) (tt {0}) check r → MatchResult r (λ x. s ≡ Ok x) (λ line. IsErrAnd s (post line))
    → Answers mod_refusal (tt {0}) check s
mapped {r = Ok x} post told answers cases = accepted cases (sym answers.refuses)
mapped {r = Err line} {s = s} post told answers cases =
    let p = err_from_is_err_and s cases in
    rw p.1 (refused (told line p.0 p.2) (sym answers.refuses))
