-- 44 (01, Refusals), of the panel. Numbers that are not in use are 0.
use Rattle.std.specs.Prelude.{ℕ, ◌+◌, ◌-◌, ◌*◌, Bool, List, eqb, leb, ltb, get_or}
use Rattle.logic.specs.Test.{◌and◌, all}
use Rattle.std.specs.Prelude.{if◌then◌else◌}
use Rattle.gates.specs.Translation.{is_translation}
use Rattle.gates.specs.Function.{is_function}
use Rattle.model.specs.Network.{input, rank_order}
use Rattle.buffers_tables.specs.Panel.{panel_stride, codes_column, signal_start, signal_byte, column_in, signals_in, processors_in, slots_in, watched_in, mask_in, kind_in, hand_in, processor_in, slot_in}
use Rattle.buffers_runs.specs.Zeros.{zeros}

-- "N (1 to 4096)", "P (1 to 16), C (1 to 256)", "the one watch (signal, mask 0 to 15 ..)". The cycles finished are 0 to 65535, as every
-- number of two bytes.
unfoldable pub head_ranged : List ℕ → Bool
head_ranged panel =
    (leb 1 (signals_in panel) and leb (signals_in panel) 4096)
    and (leb 1 (processors_in panel) and leb (processors_in panel) 16)
    and (leb 1 (slots_in panel) and leb (slots_in panel) 256)
    and (leb 1 (watched_in panel) and leb (watched_in panel) (signals_in panel))
    and leb (mask_in panel) 15

-- "Kind 1 is an input (ten zeros follow), 2 unit-delay, 3 rank-order": f and g1 to g5 of signal s
unfoldable pub codes_ranged : List ℕ → ℕ → Bool
codes_ranged panel s =
    if eqb (kind_in panel s) input then zeros panel (signal_byte s codes_column) 6 else
    is_function (column_in panel s codes_column) and all 5 (λ k. is_translation (get_or panel (signal_byte s (codes_column + 1) + k) 0))

-- the numbers of signal s, "a value 0 to 3" and a place among them
unfoldable pub signal_ranged : List ℕ → ℕ → Bool
signal_ranged panel s =
    (leb 1 (kind_in panel s) and leb (kind_in panel s) rank_order)
    and codes_ranged panel s
    and leb (hand_in panel s) 3
    and ltb (processor_in panel s) (processors_in panel)
    and ltb (slot_in panel s) (slots_in panel)

-- signals 1 to N, and zeros for those above N
unfoldable pub panel_ranged : List ℕ → Bool
panel_ranged panel =
    head_ranged panel
    and all (signals_in panel) (λ k. signal_ranged panel (k + 1))
    and zeros panel (signal_start (signals_in panel + 1)) (panel_stride * (4096 - signals_in panel))
