-- `read_in`: the head that a read hands back is the panel's own.
use Rattle.session_calls.proofs.Replies.{reads}
use Rattle.session_calls.proofs.read_in.Goals as goal

pub returns : goal.returns
returns c =
    λ program. reads c.args.readable.now.panel.now program c.args.readable.now.memory.now c.args.signal _ c.decode.ensures.0 c.decode.ensures.1 _ (c.read-told.ensures program) _ c.answer_bits.ensures
