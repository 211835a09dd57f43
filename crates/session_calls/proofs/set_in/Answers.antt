-- `set_in`: decoded, set and encoded, the panel has the head of the outcome.
use Rattle.session_calls.proofs.Replies.{writes}
use Rattle.session_calls.proofs.set_in.Goals as goal

pub returns : goal.returns
returns c =
    λ program memory. writes c.args.panel.now program memory _ _ c.decode.ensures.0 c.decode.ensures.1 _ _ (c.set.ensures program memory) _ _ c.tell.ensures.value c.tell.ensures.panel_after
