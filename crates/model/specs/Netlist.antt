-- NET (01, Files): its network, at fixed places of the bytes, and its refusals 10 to 13 in their order.
use Rattle.std.specs.Prelude.{ℕ, zero, suc, ◌+◌, ◌*◌, Bool, true, false, not, List, eqb, leb, length}
use Rattle.logic.specs.Test.{◌and◌, ◌or◌, all, any}
use Rattle.gates.specs.Translation.{is_translation, is_constant}
use Rattle.gates.specs.Function.{is_function}
use Rattle.gates.specs.Gate.{gate}
use Rattle.gates.specs.declared.Gate.{Gate}
use Rattle.fields.specs.Field.{number_at}
use Rattle.fields.specs.Line.{is_line_at}
use Rattle.model.specs.Refusal.{Check, first, unless, first_below}
use Rattle.model.specs.Network.{Network, input, unit_delay, rank_order, is_signal}

-- "NET, 12 fields": a line has 73 bytes. Line 1 has index 0, and the line of signal s index s.
abbrev pub net_line : ℕ → ℕ
net_line s = 73 * s

-- a field of a line: kind, signal, f, g1 to g5, source 1 to 4 are the columns 0 to 11
abbrev pub net_field : List ℕ → ℕ → ℕ → ℕ
net_field net s column = number_at net (net_line s + 6 * column)

-- "Line 1: 0, N (1 to 4096), ten zeros"; here the limit on N is given
abbrev pub net_size : List ℕ → ℕ
net_size net = net_field net 0 1

-- the codes of the gate s
abbrev pub codes : List ℕ → ℕ → Gate
codes net s =
    record {
      f = net_field net s 2;
      g1 = net_field net s 3;
      g2 = net_field net s 4;
      g3 = net_field net s 5;
      g4 = net_field net s 6;
      g5 = net_field net s 7;
    }

-- the network that the lines give: "signals 1 to N in order: kind, signal, f, g1 to g5, source 1 to 4"
unfoldable pub network : List ℕ → Network
network net =
    record {
      size = net_size net;
      kind = λ s. net_field net s 0;
      source = λ s j. net_field net s (8 + j);
      gate = λ s. gate (codes net s);
    }

-- "ten zeros": the columns 2 to 11 of a line
unfoldable pub ten_zeros : List ℕ → ℕ → Bool
ten_zeros net s = all 10 (λ k. eqb (net_field net s (2 + k)) 0)

-- line 1: 10, then 11
unfoldable pub net_header : ℕ → List ℕ → Check
net_header limit net =
    first (unless (is_line_at net 0 12) 10 1)
    (unless (eqb (net_field net 0 0) 0 and (leb 1 (net_size net) and leb (net_size net) limit) and ten_zeros net 0) 11 1)

-- "Kind 1 is an input (ten zeros follow), 2 unit-delay, 3 rank-order", with codes that are supplied
unfoldable pub input_layout : List ℕ → ℕ → Bool
input_layout net s = eqb (net_field net s 0) input and ten_zeros net s

unfoldable pub gate_layout : List ℕ → ℕ → Bool
gate_layout net s =
    (eqb (net_field net s 0) unit_delay or eqb (net_field net s 0) rank_order)
    and is_function (net_field net s 2)
    and all 5 (λ k. is_translation (net_field net s (3 + k)))

-- "Source 0 means none; its g must be 0 to 3", and no source is above N (12); an input has no sources
unfoldable pub source_right : List ℕ → ℕ → ℕ → Bool
source_right net s j =
    leb (net_field net s (8 + j)) (net_size net)
    and (not (eqb (net_field net s (8 + j)) 0) or is_constant (net_field net s (3 + j)))

unfoldable pub sources_right : List ℕ → ℕ → Bool
sources_right net s = eqb (net_field net s 0) input or all 4 (source_right net s)

-- the line of signal s, line s + 1: 10, then 11, then 12
unfoldable pub net_signal : List ℕ → ℕ → Check
net_signal net s =
    first (unless (is_line_at net (net_line s) 12) 10 (s + 1))
    (first (unless (eqb (net_field net s 1) s and (input_layout net s or gate_layout net s)) 11 (s + 1))
    (unless (sources_right net s) 12 (s + 1)))

-- a line after the last
unfoldable pub net_surplus : List ℕ → Check
net_surplus net = unless (leb (length net) (net_line (net_size net + 1))) 10 (net_size net + 2)

-- The test behind 13. `Network.Chain` says what it finds: a chain from a to b of at most d + 1 steps
unfoldable pub feeds : Network → ℕ → ℕ → Bool
feeds n a b =
    (is_signal n a and eqb (n.kind a) rank_order)
    and (is_signal n b and eqb (n.kind b) rank_order)
    and any 4 (λ j. eqb (n.source b j) a)

unfoldable pub chains : Network → ℕ → ℕ → ℕ → Bool
chains n zero a b = feeds n a b
chains n (suc d) a b =
    elim (feeds n a b) [
      | true ↦ true
      | false ↦ any 4 (λ j. elim (feeds n (n.source b j) b) [ true ↦ chains n d a (n.source b j) | false ↦ false ])
    ]

-- a closed chain through s has at most N steps
unfoldable pub on_closed_chain : Network → ℕ → Bool
on_closed_chain n s = chains n n.size s s

-- 13 returns the smallest such signal
unfoldable pub net_chains : List ℕ → Check
net_chains net = first_below (net_size net) (λ k. unless (not (on_closed_chain (network net) (suc k))) 13 (suc k))

-- "the first bad line, 10 before 11 before 12 ..; then 13"
unfoldable pub net_check : ℕ → List ℕ → Check
net_check limit net =
    first (net_header limit net)
    (first (first_below (net_size net) (λ k. net_signal net (suc k)))
    (first (net_surplus net)
    (net_chains net)))
