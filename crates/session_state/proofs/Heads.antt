-- The head of a panel, written back, changes no byte; and a session's numbers, written after its values in hand, are its head written
-- at once.
use Prim.Native.Nat.{ℕ, ◌<◌}
use mathlib.Core.Path.{◌≡◌, sym, ◌∙◌, ap}
use mathlib.Core.List.{List}
use lib.ListN.{length, get_or}
use Rattle.model.specs.Session.{Head, Watch}
use Rattle.buffers_tables.specs.Panel.{panel_length, finished_place, watched_place, finished_in, watched_in, mask_in, hand_in}
use Rattle.buffers_tables.specs.Stores.{with_finished, with_watch, with_hands}
use Rattle.buffers_tables.proofs.Stores.{finished_own, watch_own}
use Rattle.buffers_tables.proofs.Hands.{hands_length, hands_own}
use Rattle.session_state.specs.Header.{head_in, with_head}

-- where the low bytes of the cycles finished and of the watch are bytes
pub own_head : (panel : List ℕ) → length panel ≡ panel_length → get_or panel finished_place 0 < 256 → get_or panel watched_place 0 < 256
    → with_head (head_in panel) panel ≡ panel
unfolding with_head
own_head panel size finished watched =
    ap (λ (x : List ℕ). with_watch (watched_in panel) (mask_in panel) (with_finished (finished_in panel) x)) (hands_own panel size)
    ∙ ap (with_watch (watched_in panel) (mask_in panel)) (finished_own panel finished)
    ∙ watch_own panel watched

-- the numbers are all that the panel lacks
pub numbered : (finished : ℕ) (watch : Watch) (panel : List ℕ) → length panel ≡ panel_length
    → with_watch watch.signal watch.mask (with_finished finished panel) ≡ with_head (record { finished = finished; hand = hand_in panel; watch = watch }) panel
unfolding with_head
numbered finished watch panel size =
    ap (λ (x : List ℕ). with_watch watch.signal watch.mask (with_finished finished x)) (sym (hands_own panel size))

-- a session's numbers written into a panel that has a head's values in hand
pub head_written : (h : Head) (panel left : List ℕ) (finished : ℕ) (watch : Watch) → finished ≡ h.finished → watch ≡ h.watch → left ≡ with_hands h.hand panel
    → with_head (record { finished = finished; hand = hand_in left; watch = watch }) left ≡ with_head h panel
unfolding with_head
head_written h panel left finished watch f w e =
    sym (numbered finished watch left (ap length e ∙ hands_length h.hand panel))
    ∙ ap (λ (x : ℕ). with_watch watch.signal watch.mask (with_finished x left)) f
    ∙ ap (λ (x : Watch). with_watch x.signal x.mask (with_finished h.finished left)) w
    ∙ ap (λ (x : List ℕ). with_watch h.watch.signal h.watch.mask (with_finished h.finished x)) e
