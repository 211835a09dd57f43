-- What the contracts of the listing's functions tell a caller is what `Steps` and `Prints` chain: each of their premises that repeats an
-- `ensures` follows from the claims that the function itself hands on (`Learnt`).
use Prim.Native.Nat.{ℕ, ◌+◌}
use mathlib.Core.Path.{◌≡◌, sym, ◌∙◌, ap}
use mathlib.Core.List.{List, ◌∷◌}
use lib.ListN.{length, take}
use lib.Seq.{sets}
use contract.Lifetimes.{Lfts}
use denote.RattleType.{RattleType}
use denote.Param.Laws.{Laws}
use denote.Triple.Clauses.{AtExit}
use mir.Syntax.{Dict}
use borrow.Fn.Kinds.{Dens, res_t, ended_of}
use Rattle.model.specs.Files.{Files}
use Rattle.file_bytes.specs.Bytes.{bytes_of}
use Rattle.clock.specs.declared.Cycle.{Cycle}
use Rattle.file_lines.specs.Answer.{answered}
use Rattle.listing.specs.declared.Lister.{Lister}
use Rattle.listing_cycle.specs.Changes.{piece_length}
use Rattle.file_checks.specs.declared.Printable.{Ghosts}
use Rattle.file_checks.specs.Refused.{refused_text}
use Rattle.listing.specs.Pieces.{piece_count}
use Rattle.listing.specs.Standing.{Stands}
use Rattle.laws_listing.specs.Printing.{Steps, more}
use Rattle.listing.proofs.Lister.step.Kinds.{ps as step_ps, r as step-r}
use Rattle.listing.proofs.Lister.step.Reads.{Learnt as StepTells}
use Rattle.listing.proofs.open.Kinds.{ps as open-ps, r as open-r}
use Rattle.listing.proofs.open.Reads.{Learnt as OpenTells}
use Rattle.listing.proofs.piece_count.Kinds.{ps as count-ps, r as count-r}
use Rattle.listing.proofs.piece_count.Reads.{Learnt as CountTells}
use Rattle.file_checks.proofs.write_refusal.Kinds.{ps as refusal-ps, r as refusal-r}
use Rattle.file_checks.proofs.write_refusal.Reads.{Learnt as RefusalTells}

-- a step
pub step_more : (κs : Lfts 7) (a : Dens κs step_ps) (p : (res_t step-r κs).Denot) (left : AtExit (ended_of 7 step_ps step-r) κs)
    → StepTells κs a p left → length a.1.1.1.1.1.1.0.now ≡ piece_length → {pieces : List (List ℕ)}
    → Steps a.1.1.1.0.now p.lister left.1.1.0.now left.1.1.1.1.0.now left.1.1.1.1.1.0.now pieces
    → Steps a.1.1.1.0.now a.0 a.1.1.0.now a.1.1.1.1.0.now a.1.1.1.1.1.0.now
    (take p.length left.1.1.1.1.1.1.0.now ∷ pieces)
step_more κs a p left told room rest = more _ p _ _ _ _ room told rest

-- the opening
pub open_stands : (κs : Lfts 6) (a : Dens κs open-ps) (l : (res_t open-r κs).Denot) (left : AtExit (ended_of 6 open-ps open-r) κs) → OpenTells κs a l left
    → Stands (bytes_of a.0.now) 0 l left.1.1.0.now left.1.1.1.0.now left.1.1.1.1.0.now left.1.1.1.1.1.0.now
open_stands κs a l left told = told

-- how many steps
pub counts : {files : Files} {k : ℕ} {panel program memory shown : List ℕ} (κs : Lfts 0) (a : Dens κs count-ps) (count : ℕ)
    (left : AtExit (ended_of 0 count-ps count-r) κs) → CountTells κs a count left → {l : Lister} → l.end ≡ a.0
    → Stands files k l panel program memory shown → count ≡ piece_count files
counts κs a count left told e s = told ∙ ap (λ (x : Cycle). x.0 + 2) (sym e) ∙ ap (λ (x : ℕ). x + 2) s.end

-- the text of a refusal, of whatever kind R is
module _ (R : RattleType) (laws : Laws R) (g : Ghosts R.Denot) (d : Dict) where
  pub refusal_written : (κs : Lfts 2) (a : Dens κs (refusal-ps R laws)) (n : ℕ) (left : AtExit (ended_of 2 (refusal-ps R laws) (refusal-r R laws)) κs)
      → RefusalTells R laws g d κs a n left
      → (n ≡ length (refused_text (answered g.said a.0))) × (left.1.0.now ≡ sets a.1.0.now 0 (refused_text (answered g.said a.0)))
  refusal_written κs a n left told = told
