-- What `find` answers is the smallest signal that is not counted once, or none.
use Prim.Native.Nat.{ℕ, ◌+◌, ◌<◌, ◌≤◌}
use mathlib.Core.Path.{◌≡◌, refl}
use native.Mathlib.Omega.{arith}
use lib.ListN.{get_or}
use borrow.Author.Rules.{rules}
use Rattle.std.specs.Option.{MatchOption}
use Rattle.std.proofs.Common.{tests}
use Rattle.std.proofs.lemmas.Iterator.{first_from_Range}
use Rattle.file_lines.proofs.Stages.{refused, accepted}
use Rattle.file_mod.proofs.Counts.{all_once, first_not_once}
use Rattle.file_mod.proofs.find_unplaced.Goals as goal
use Rattle.file_mod.proofs.find_unplaced.Goals.{After-find}

found : (c : After-find) → MatchOption c.find.result ((s : ℕ) → 1 ≤ s → s < c.args.signals + 1 → get_or c.args.counts.now s 0 ≡ 1)
    (λ s. (1 ≤ s) × (s < c.args.signals + 1) × (get_or c.args.counts.now s 0 ≡ 1 → ⊥) × ((k : ℕ) → 1 ≤ k → k < s → get_or c.args.counts.now k 0 ≡ 1))
found c =
    first_from_Range _ _ _ _ (λ s. get_or c.args.counts.now s 0 ≡ 1 → ⊥) (λ s. get_or c.args.counts.now s 0 ≡ 1) c.find.ensures.ran
    (λ x q k. grind (arith, tests)) (λ x q k. (search rules, grind (arith, tests)))

pub returns-in-Some : goal.returns-in-Some
returns-in-Some c =
    let f = rw c.in-Some.is at (found (goal.at.returns-in-Some c).After-find) in
    refused refl (first_not_once _ _ _ f.0 f.1 f.2 f.3)

pub returns-in-None : goal.returns-in-None
returns-in-None c = accepted refl (all_once _ _ (rw c.in-None.is at (found (goal.at.returns-in-None c).After-find)))
