-- What a panel reads after a head is written into it: the head's own numbers, and the fixed ones as before.
use Prim.Native.Nat.{ℕ, ◌≤◌}
use mathlib.Core.Path.{◌≡◌, ◌∙◌}
use mathlib.Core.List.{List}
use lib.ListN.{length}
use Rattle.model.specs.Session.{Head}
use Rattle.buffers_tables.specs.Panel.{panel_length, finished_in, watched_in, mask_in, hand_in}
use Rattle.buffers_tables.specs.Stores.{with_finished, with_hands}
use Rattle.buffers_tables.specs.Holding.{SameFixed}
use Rattle.buffers_tables.proofs.Stores.{fixed_trans, finished_length, finished_stored, finished_hand, finished_fixed, watch_length, watched_stored, mask_stored, watch_finished, watch_hand, watch_fixed}
use Rattle.buffers_tables.proofs.Hands.{hands_length, hands_hand, hands_fixed}
use Rattle.session_state.specs.Header.{with_head}

module _ (h : Head) (panel : List ℕ) where
  -- the values in hand, and the cycles finished
  abbrev handed : List ℕ
  handed = with_hands h.hand panel

  abbrev counted : List ℕ
  counted = with_finished h.finished handed

  counted_length : length counted ≡ panel_length
  counted_length = finished_length h.finished handed ∙ hands_length h.hand panel

  pub with_head_length : length (with_head h panel) ≡ panel_length
  unfolding with_head
  with_head_length = watch_length h.watch.signal h.watch.mask counted ∙ counted_length

  pub with_head_hand : (s : ℕ) → 1 ≤ s → s ≤ 4096 → hand_in (with_head h panel) s ≡ h.hand s
  unfolding with_head
  with_head_hand s low high =
      watch_hand h.watch.signal h.watch.mask counted s low ∙ finished_hand h.finished handed s low ∙ hands_hand h.hand panel s low high

  pub with_head_finished : finished_in (with_head h panel) ≡ h.finished
  unfolding with_head
  with_head_finished = watch_finished h.watch.signal h.watch.mask counted ∙ finished_stored h.finished handed (hands_length h.hand panel)

  pub with_head_watched : watched_in (with_head h panel) ≡ h.watch.signal
  unfolding with_head
  with_head_watched = watched_stored h.watch.signal h.watch.mask counted counted_length

  pub with_head_mask : mask_in (with_head h panel) ≡ h.watch.mask
  unfolding with_head
  with_head_mask = mask_stored h.watch.signal h.watch.mask counted counted_length

  pub with_head_fixed : SameFixed (with_head h panel) panel
  unfolding with_head
  with_head_fixed =
      fixed_trans _ counted panel (watch_fixed h.watch.signal h.watch.mask counted)
      (fixed_trans counted handed panel (finished_fixed h.finished handed) (hands_fixed h.hand panel))
