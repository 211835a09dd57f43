-- The cycles past the count are judged, which is the judgement of all (`unused_judged`).
use Rattle.std.proofs.Common.{rules, ◌≡◌, refl, ◌∙◌, eqb, sym}
use Rattle.std.proofs.lemmas.Iterator.{YieldsList-from_range}
use Rattle.std.proofs.lemmas.Iterator.Search.{all_from_yields_List}
use Rattle.model.specs.Refusal.{unless}
use Rattle.file_lines.proofs.Stages.{refused, accepted}
use Rattle.traces.specs.Turned.{block_value, values_length, unused_clear}
use Rattle.traces.specs.Checks.{unused_check}
use Rattle.traces.proofs.Unused.{unused_judged}
use Rattle.traces.proofs.check_unused.Goals as goal
use Rattle.traces.proofs.check_unused.Goals.{After-all}

judged : (c : After-all) → c.all.result ≡ unused_clear c.args.block.now c.args.count
judged c =
    all_from_yields_List (λ k. eqb (block_value c.args.block.now k) 0) _ _ c.all.result c.all.ensures.ran (YieldsList-from_range c.args.count values_length _ refl refl) (λ x b q h. search rules)
    ∙ unused_judged c.args.block.now c.args.count

pub returns-then-all : goal.returns-then-all
unfolding unused_check unless
returns-then-all c = accepted refl (rw (sym (judged (goal.at.returns-then-all c).After-all) ∙ c.if-all.true))

pub returns : goal.returns
unfolding unused_check unless
returns c = refused refl (rw (sym (judged (goal.at.returns c).After-all) ∙ c.if-all.false))
