-- What a file's check that passes leaves: each line's layout as a record (`SignalRight`, `SlotRight`, `GivenRight`, `EndRight`), the file's
-- length, and the conditions that the theorems use (`net_formed`, `mod_scheduled`, `held_code`, `held_input`). A check is a chain of
-- `first`, `unless` and `first_below`, and each part is taken out of it by their laws. What refusal 13 leaves is proved elsewhere.
use Prim.Native.Nat.{ℕ, zero, suc, ◌+◌, ◌-◌, ◌*◌, ◌/◌, ◌%◌, ◌<◌, ◌≤◌}
use mathlib.Core.Path.{◌≡◌, refl, sym, ◌∙◌, subst, subst₂}
use mathlib.Core.Bool.{Bool, true, false, not, true≢false}
use mathlib.Core.List.{List}
use mathlib.Core.Logic.{◌⊎◌, inl, inr, ⊎_elim, ⊎_map}
use native.Mathlib.Omega.{arith}
use native.Mathlib.Decide.{ℕ_discrete, le_ind}
use native.Mathlib.Nat.{suc-mul, mul-le-mul_right, div-eq_of_lt, mod-eq_of_lt, mul-add-div_right, mul-add-mod_self_right, div-add-mod'}
use lib.Dec.{eqb, leb, ltb}
use lib.ListN.{length}
use borrow.Author.Tests.{eqb-true, leb-true, ltb-true, not-true, eqb-false, le-leb}
use Rattle.logic.specs.Test.{◌and◌, ◌or◌}
use Rattle.std.specs.Prelude.{if◌then◌else◌}
use Rattle.logic.proofs.Tests.{and_left, and_right, all_at, or_cases, or_otherwise}
use Rattle.gates.specs.Translation.{is_translation, is_constant}
use Rattle.gates.specs.Function.{is_function}
use Rattle.fields.specs.Line.{is_line_at}
use Rattle.model.specs.Refusal.{Check, pass, first, unless, first_below}
use Rattle.model.specs.Files.{Files}
use Rattle.model.specs.Acceptance.{Accepted, network_of, file_check}
use Rattle.model.specs.Network.{Network, Signal, input, unit_delay, rank_order, is_signal}
use Rattle.model.specs.Netlist.{net_line, net_field, net_size, network, ten_zeros, input_layout, gate_layout, source_right, sources_right, net_header, net_signal, net_surplus, net_check}
use Rattle.model.specs.Module.{Module, At, Laid, local_present, switch_present, no_part, no_sender, placements}
use Rattle.model.specs.ModuleFile.{mod_line, mod_field, mod_processors, mod_slots, mod_index, module_of, mod_header, location_layout, operand_layout, send_layout, sender_layout, line_layout, mod_slot, each_line, mod_surplus, placed, sending, receiving, operands, mod_check}
use Rattle.model.specs.Stimulus.{stim_line, stim_time, stim_signal, stim_value, stim_limit, is_end, time_before, rising, gives_value, may_give, stim_given, stim_end, stim_lines, stim_check, lines_before, stim_count, last_given, held}
use Rattle.model.proofs.Conditions.{Formed, Scheduled}
use Rattle.model.proofs.Refusals.{first_left, first_right, unless_true, below_pass}
use Rattle.model.proofs.Placements.{placed_once}
use Rattle.fields.proofs.RightLine.{line_within}

-- The three files

module _ (limit : ℕ) (files : Files) (accepted : Accepted limit files) where
  pub net_accepted : net_check limit files.NET ≡ pass
  unfolding file_check
  net_accepted = first_left _ _ accepted

  pub mod_accepted : mod_check (network_of files) files.MOD ≡ pass
  unfolding file_check
  mod_accepted = first_left _ _ (first_right _ _ accepted)

  pub stim_accepted : stim_check (network_of files) files.STIM ≡ pass
  unfolding file_check
  stim_accepted = first_right _ _ (first_right _ _ accepted)

-- a check of the signals 1 to n, at one of them
signal_pass : (n : ℕ) (f : ℕ → Check) → first_below n (λ k. f (suc k)) ≡ pass → (s : ℕ) → 1 ≤ s → s ≤ n → f s ≡ pass
signal_pass n f h zero low high = absurd (omega arith)
signal_pass n f h (suc k) low high = below_pass n (λ k. f (suc k)) h k high

within : {a x b : ℕ} → leb a x and leb x b ≡ true → (a ≤ x) × (x ≤ b)
within h = (leb-true _ _ (and_left _ _ h), leb-true _ _ (and_right _ _ h))

implied : {x y : ℕ} {b : Bool} → x ≡ y → not (eqb x y) or b ≡ true → b ≡ true
implied e h = or_otherwise _ _ h (λ d. eqb-false _ _ (not-true _ d) e)

-- NET

-- The line of signal s. An input's codes are zeros, and so are supplied too.
pub record SignalRight (net : List ℕ) (s : ℕ) : Type 0 where
  pub line : is_line_at net (net_line s) 12 ≡ true
  pub number : net_field net s 1 ≡ s
  pub kind : (net_field net s 0 ≡ input) ⊎ (net_field net s 0 ≡ unit_delay) ⊎ (net_field net s 0 ≡ rank_order)
  pub zeros : net_field net s 0 ≡ input → (column : ℕ) → 2 ≤ column → column < 12 → net_field net s column ≡ 0
  pub function : is_function (net_field net s 2) ≡ true
  pub translations : (k : ℕ) → k < 5 → is_translation (net_field net s (3 + k)) ≡ true
  pub sources : (j : ℕ) → j < 4 → net_field net s (8 + j) ≤ net_size net
  pub constants : (j : ℕ) → j < 4 → net_field net s (8 + j) ≡ 0 → is_constant (net_field net s (3 + j)) ≡ true

zero_column : (net : List ℕ) (s : ℕ) → ten_zeros net s ≡ true → (column : ℕ) → 2 ≤ column → column < 12 → net_field net s column ≡ 0
unfolding ten_zeros
zero_column net s zeros column low high =
    let e : 2 + (column - 2) ≡ column = omega arith in
    subst (λ (c : ℕ). net_field net s c ≡ 0) e (eqb-true _ _ (all_at _ 10 zeros (column - 2) (omega arith)))

module _ (net : List ℕ) (s : ℕ) (line : is_line_at net (net_line s) 12 ≡ true) (number : net_field net s 1 ≡ s) where
  input_right : input_layout net s ≡ true → SignalRight net s
  unfolding input_layout is_function is_translation is_constant
  input_right layout =
      let zero = zero_column net s (and_right _ _ layout) in
      record {
        line = line;
        number = number;
        kind = inl (eqb-true _ _ (and_left _ _ layout));
        zeros = λ e. zero;
        function = rw (zero 2 (omega arith) (omega arith));
        translations = λ k h. rw (zero (3 + k) (omega arith) (omega arith));
        sources = λ j h. omega (arith, zero (8 + j) (omega arith) (omega arith));
        constants = λ j h e. rw (zero (3 + j) (omega arith) (omega arith));
      }

  gate_right : gate_layout net s ≡ true → sources_right net s ≡ true → SignalRight net s
  unfolding gate_layout sources_right source_right
  gate_right layout right =
      let codes = and_right _ _ layout in
      record {
        line = line;
        number = number;
        kind = inr kind;
        zeros = λ e. absurd (gate e);
        function = and_left _ _ codes;
        translations = all_at _ 5 (and_right _ _ codes);
        sources = λ j h. leb-true _ _ (and_left _ _ (source j h));
        constants = λ j h e. implied e (and_right _ _ (source j h));
      }
    where
      kind : (net_field net s 0 ≡ unit_delay) ⊎ (net_field net s 0 ≡ rank_order)
      kind = ⊎_map (eqb-true _ _) (eqb-true _ _) (or_cases _ _ (and_left _ _ layout))

      gate : net_field net s 0 ≡ input → ⊥
      gate e = ⊎_elim (λ (q : net_field net s 0 ≡ unit_delay). omega arith) (λ (q : net_field net s 0 ≡ rank_order). omega arith) kind

      source : (j : ℕ) → j < 4 → source_right net s j ≡ true
      source = all_at _ 4 (or_otherwise _ _ right (λ e. gate (eqb-true _ _ e)))

-- what 10, 11 and 12 leave of a line
pub signal_right : (net : List ℕ) (s : ℕ) → net_signal net s ≡ pass → SignalRight net s
unfolding net_signal
signal_right net s h =
    let line = unless_true _ _ _ (first_left _ _ h) in
    let layout = unless_true _ _ _ (first_left _ _ (first_right _ _ h)) in
    let number = eqb-true _ _ (and_left _ _ layout) in
    ⊎_elim (input_right net s line number)
    (λ l. gate_right net s line number l (unless_true _ _ _ (first_right _ _ (first_right _ _ h))))
    (or_cases _ _ (and_right _ _ layout))

module _ (limit : ℕ) (net : List ℕ) (accepted : net_check limit net ≡ pass) where
  net_header_lem : net_header limit net ≡ pass
  unfolding net_check
  net_header_lem = first_left _ _ accepted

  pub net_size_lem : (1 ≤ net_size net) × (net_size net ≤ limit)
  unfolding net_header
  net_size_lem = within (and_left _ _ (and_right _ _ (unless_true _ _ _ (first_right _ _ net_header_lem))))

  pub net_signal_lem : (s : ℕ) → Signal (network net) s → SignalRight net s
  unfolding net_check network
  net_signal_lem s g =
      signal_right net s (signal_pass (net_size net) (net_signal net) (first_left _ _ (first_right _ _ accepted)) s g.low g.high)

  pub net_formed : Formed (network net)
  unfolding network
  net_formed = record { kinds = λ s g. (net_signal_lem s g).kind; sources = λ s j g. (net_signal_lem s g).sources j }

  pub net_lines_lem : (s : ℕ) → s ≤ net_size net → is_line_at net (net_line s) 12 ≡ true
  unfolding net_header network
  net_lines_lem zero h = unless_true _ _ _ (first_left _ _ net_header_lem)
  net_lines_lem (suc k) h = (net_signal_lem (suc k) (record { low = omega arith; high = h })).line

  pub net_length : length net ≡ net_line (net_size net + 1)
  unfolding net_check net_surplus
  net_length =
      let surplus = unless_true _ _ _ (first_left _ _ (first_right _ _ (first_right _ _ accepted))) in
      let most = leb-true (length net) (net_line (net_size net + 1)) surplus in
      omega (arith, line_within net (net_line (net_size net)) 12 (net_lines_lem (net_size net) (omega arith)))

-- MOD

-- an operand's or a send's pair: a part up to most, and a location, or none
pub record Located (m : Module) (most part location : ℕ) : Type 0 where
  pub part_known : (part ≤ most) ⊎ (part ≡ no_part)
  pub low : location < m.slots
  pub none_at_0 : part ≡ no_part → location ≡ 0

-- the numbers of the line of processor p and slot i
pub record Line (n : Network) (m : Module) (p i : ℕ) : Type 0 where
  pub signal : m.signal p i ≤ n.size
  pub operand : (j : ℕ) → j < 4 → Located m switch_present (m.part p i j) (m.location p i j)
  pub send : Located m local_present (m.send_part p i) (m.send_location p i)
  pub sender : (m.sender p i < m.processors) ⊎ (m.sender p i ≡ no_sender)

pub lines_laid : {n : Network} {m : Module} → ((p i : ℕ) → At m p i → Line n m p i) → Laid n m
lines_laid h =
    record {
      signals = λ p i a. (h p i a).signal;
      parts = λ p i j a l. ((h p i a).operand j l).part_known;
      locations = λ p i j a l. ((h p i a).operand j l).low;
      send_parts = λ p i a. (h p i a).send.part_known;
      send_locations = λ p i a. (h p i a).send.low;
      senders = λ p i a. (h p i a).sender;
    }

-- The line of processor p and slot i, as MOD has it
pub record SlotRight (n : Network) (modfile : List ℕ) (p i : ℕ) : Type 0 where
  pub line : is_line_at modfile (mod_line (mod_index modfile p i)) 14 ≡ true
  pub processor : mod_field modfile (mod_index modfile p i) 0 ≡ p
  pub slot : mod_field modfile (mod_index modfile p i) 1 ≡ i
  pub signal : (module_of modfile).signal p i ≤ n.size
  pub operand : (j : ℕ) → j < 4
      → Located (module_of modfile) switch_present ((module_of modfile).part p i j) ((module_of modfile).location p i j)
  pub send : Located (module_of modfile) local_present ((module_of modfile).send_part p i) ((module_of modfile).send_location p i)
  pub sender : ((module_of modfile).sender p i < (module_of modfile).processors) ⊎ ((module_of modfile).sender p i ≡ no_sender)

-- such a pair, from its layout
pub located : (m : Module) (most part k : ℕ) → (leb part most or eqb part no_part) and location_layout m part k ≡ true → Located m most part k
unfolding location_layout
located m most part k layout =
    let place = and_right _ _ layout in
    record {
      part_known = ⊎_map (leb-true _ _) (eqb-true _ _) (or_cases _ _ (and_left _ _ layout));
      low = ltb-true _ _ (and_left _ _ place);
      none_at_0 = λ e. eqb-true _ _ (implied e (and_right _ _ place));
    }

-- a check of each line after the first, at one of them: line k + 1 is that of processor k / C and slot k % C
pub at_pass : (modfile : List ℕ) (f : ℕ → ℕ → Check) → each_line modfile f ≡ pass → (p i : ℕ) → At (module_of modfile) p i → f p i ≡ pass
unfolding each_line module_of
at_pass modfile f h p i a =
    let C = mod_slots modfile in
    let positive : 0 < C = omega (arith, a.slot) in
    let quotient : (p * C + i) / C ≡ p = omega (arith, mul-add-div_right positive p i, div-eq_of_lt a.slot) in
    let remainder : (p * C + i) % C ≡ i = mul-add-mod_self_right p C i ∙ mod-eq_of_lt a.slot in
    let low : p * C + i < mod_processors modfile * C = omega (arith, suc-mul p C, mul-le-mul_right C a.processor, a.slot) in
    subst₂ (λ (x y : ℕ). f x y ≡ pass) quotient remainder (below_pass _ _ h (p * C + i) low)

-- a line that passes 20 and 21 is right
pub slot_right : (n : Network) (modfile : List ℕ) (p i : ℕ) → mod_slot n modfile p i ≡ pass → SlotRight n modfile p i
unfolding mod_slot line_layout operand_layout send_layout sender_layout
slot_right n modfile p i h =
    let layout = unless_true _ _ _ (first_right _ _ h) in
    let from-slot = and_right _ _ layout in
    let from-signal = and_right _ _ from-slot in
    let from-operands = and_right _ _ from-signal in
    let from-send = and_right _ _ from-operands in
    record {
      line = unless_true _ _ _ (first_left _ _ h);
      processor = eqb-true _ _ (and_left _ _ layout);
      slot = eqb-true _ _ (and_left _ _ from-slot);
      signal = leb-true _ _ (and_left _ _ from-signal);
      operand = λ j l. located _ _ _ _ (all_at _ 4 (and_left _ _ from-operands) j l);
      send = located _ _ _ _ (and_left _ _ from-send);
      sender = ⊎_map (ltb-true _ _) (eqb-true _ _) (or_cases _ _ (and_right _ _ from-send));
    }

module _ (n : Network) (modfile : List ℕ) (accepted : mod_check n modfile ≡ pass) where
  mod_header_lem : mod_header modfile ≡ pass
  unfolding mod_check
  mod_header_lem = first_left _ _ accepted

  mod_slots_pass : each_line modfile (mod_slot n modfile) ≡ pass
  unfolding mod_check
  mod_slots_pass = first_left _ _ (first_right _ _ accepted)

  pub mod_processors_lem : (1 ≤ mod_processors modfile) × (mod_processors modfile ≤ 16)
  unfolding mod_header
  mod_processors_lem = within (and_left _ _ (unless_true _ _ _ (first_right _ _ mod_header_lem)))

  pub mod_slots_lem : (1 ≤ mod_slots modfile) × (mod_slots modfile ≤ 256)
  unfolding mod_header
  mod_slots_lem = within (and_left _ _ (and_right _ _ (unless_true _ _ _ (first_right _ _ mod_header_lem))))

  pub mod_slot_lem : (p i : ℕ) → At (module_of modfile) p i → SlotRight n modfile p i
  mod_slot_lem p i a = slot_right n modfile p i (at_pass modfile (mod_slot n modfile) mod_slots_pass p i a)

  pub mod_lines : (index : ℕ) → index ≤ mod_processors modfile * mod_slots modfile → is_line_at modfile (mod_line index) 14 ≡ true
  unfolding mod_header each_line mod_slot
  mod_lines zero h = unless_true _ _ _ (first_left _ _ mod_header_lem)
  mod_lines (suc k) h =
      let C = mod_slots modfile in
      let e : 1 + k / C * C + k % C ≡ suc k = omega (arith, div-add-mod' k C) in
      subst (λ (x : ℕ). is_line_at modfile (mod_line x) 14 ≡ true) e (unless_true _ _ _ (first_left _ _ (below_pass _ _ mod_slots_pass k h)))

  pub mod_length : length modfile ≡ mod_line (mod_processors modfile * mod_slots modfile + 1)
  unfolding mod_check mod_surplus
  mod_length =
      let last = mod_processors modfile * mod_slots modfile in
      let surplus = unless_true _ _ _ (first_left _ _ (first_right _ _ (first_right _ _ accepted))) in
      let most = leb-true (length modfile) (mod_line (last + 1)) surplus in
      omega (arith, line_within modfile (mod_line last) 14 (mod_lines last (omega arith)))

  once : (s : ℕ) → Signal n s → placed n (module_of modfile) ≡ pass → placements (module_of modfile) s ≡ 1
  unfolding placed
  once s g h =
      eqb-true _ _ (unless_true _ _ _
      (signal_pass n.size (λ s. unless (eqb (placements (module_of modfile) s) 1) 22 s) h s g.low g.high))

  pub mod_scheduled : Scheduled n (module_of modfile)
  unfolding mod_check sending receiving operands
  mod_scheduled =
      let from-placed = first_right _ _ (first_right _ _ (first_right _ _ accepted)) in
      let from-sending = first_right _ _ from-placed in
      let from-receiving = first_right _ _ from-sending in
      record {
        laid = lines_laid (λ p i a. let line = mod_slot_lem p i a in record { signal = line.signal; operand = line.operand; send = line.send; sender = line.sender });
        places = λ s g. placed_once (module_of modfile) s (once s g (first_left _ _ from-placed));
        sends = λ p i a. unless_true _ _ _ (at_pass modfile _ (first_left _ _ from-sending) p i a);
        receptions = λ p i a. unless_true _ _ _ (at_pass modfile _ (first_left _ _ from-receiving) p i a);
        operands = λ p i j a l. unless_true _ _ _ (below_pass 4 _ (at_pass modfile _ (first_right _ _ from-receiving) p i a) j l);
      }

-- STIM

-- A line that gives a value
pub record GivenRight (n : Network) (stim : List ℕ) (index : ℕ) : Type 0 where
  pub line : is_line_at stim (stim_line index) 3 ≡ true
  pub no_end : is_end stim index ≡ false
  pub signal : Signal n (stim_signal stim index)
  pub value : stim_value stim index ≤ 3
  pub rises : rising stim index ≡ true
  pub later : (stim_time stim index ≡ 0 → ⊥) → n.kind (stim_signal stim index) ≡ input

-- The end line, and nothing after it
pub record EndRight (stim : List ℕ) (index : ℕ) : Type 0 where
  pub line : is_line_at stim (stim_line index) 3 ≡ true
  pub is_end_lem : is_end stim index ≡ true
  pub in_order_lem : time_before stim index ≤ stim_time stim index
  pub size : length stim ≡ stim_line (index + 1)

-- The file: lines that give values, then the end line
pub record StimRight (n : Network) (stim : List ℕ) : Type 0 where
  pub few : stim_count stim < stim_limit
  pub given : (index : ℕ) → index < stim_count stim → GivenRight n stim index
  pub end : EndRight stim (stim_count stim)

-- the same of at most `left` lines from an index on, e being the end line's index
record StimFrom (n : Network) (stim : List ℕ) (left index e : ℕ) : Type 0 where
  few : e < index + left
  given : (k : ℕ) → index ≤ k → k < e → GivenRight n stim k
  end : EndRight stim e

given_right : (n : Network) (stim : List ℕ) (index : ℕ) → is_line_at stim (stim_line index) 3 ≡ true → is_end stim index ≡ false
    → stim_given n stim index ≡ pass → GivenRight n stim index
unfolding stim_given gives_value may_give is_signal
given_right n stim index line end h =
    let gives = unless_true _ _ _ (first_left _ _ h) in
    let signal = within (and_left _ _ gives) in
    let rest = and_right _ _ gives in
    record {
      line = line;
      no_end = end;
      signal = record { low = signal.0; high = signal.1 };
      value = leb-true _ _ (and_left _ _ rest);
      rises = and_right _ _ rest;
      later = λ d. eqb-true _ _ (or_otherwise _ _ (unless_true _ _ _ (first_right _ _ h)) (λ z. d (eqb-true _ _ z)));
    }

end_right : (stim : List ℕ) (index : ℕ) → is_line_at stim (stim_line index) 3 ≡ true → is_end stim index ≡ true → stim_end stim index ≡ pass
    → EndRight stim index
unfolding stim_end
end_right stim index line end h =
    let most = leb-true (length stim) (stim_line (index + 1)) (unless_true _ _ _ (first_right _ _ h)) in
    record {
      line = line;
      is_end_lem = end;
      in_order_lem = leb-true _ _ (unless_true _ _ _ (first_left _ _ h));
      size = omega (arith, line_within stim (stim_line index) 3 line);
    }

stim_from : (n : Network) (stim : List ℕ) (left index : ℕ) → stim_lines n stim left index ≡ pass
    → StimFrom n stim left index (lines_before stim left index)
unfolding stim_lines lines_before
stim_from n stim zero index h = absurd (true≢false (sym (unless_true _ _ _ h)))
stim_from n stim (suc left) index h = go (is_end stim index) refl (first_right _ _ h) (stim_from n stim left (index + 1))
  where
    line : is_line_at stim (stim_line index) 3 ≡ true
    line = unless_true _ _ _ (first_left _ _ h)

    go : (b : Bool) → is_end stim index ≡ b
        → elim b [ true ↦ stim_end stim index | false ↦ first (stim_given n stim index) (stim_lines n stim left (index + 1)) ] ≡ pass
        → (stim_lines n stim left (index + 1) ≡ pass → StimFrom n stim left (index + 1) (lines_before stim left (index + 1)))
        → StimFrom n stim (suc left) index (elim b [ true ↦ index | false ↦ lines_before stim left (index + 1) ])
    go true e q next = record { few = omega arith; given = λ k low high. absurd (omega arith); end = end_right stim index line e q }
    go false e q next =
        let r = next (first_right _ _ q) in
        record { few = omega (arith, r.few); given = λ k low high. here r k low high (ℕ_discrete k index); end = r.end }
      where
        here : StimFrom n stim left (index + 1) (lines_before stim left (index + 1))
            → (k : ℕ) → index ≤ k → k < lines_before stim left (index + 1) → Dec (k ≡ index) → GivenRight n stim k
        here r k low high (yes i) = rw i (given_right n stim index line e (first_left _ _ q))
        here r k low high (no d) = r.given k (omega arith) high

pub stim_right : (n : Network) (stim : List ℕ) → stim_check n stim ≡ pass → StimRight n stim
unfolding stim_check stim_count
stim_right n stim h =
    let r = stim_from n stim stim_limit 0 h in
    record { few = omega (arith, r.few); given = λ k. r.given k (omega arith); end = r.end }

module _ (n : Network) (stim : List ℕ) (right : StimRight n stim) where
  pub stim_length : length stim ≡ stim_line (stim_count stim + 1)
  stim_length = right.end.size

  next_time : (k : ℕ) → k < stim_count stim → stim_time stim k ≤ stim_time stim (suc k)
  unfolding rising time_before
  next_time k h = go (ℕ_discrete (suc k) (stim_count stim))
    where
      go : Dec (suc k ≡ stim_count stim) → stim_time stim k ≤ stim_time stim (suc k)
      go (yes e) = rw (← e) at right.end.in_order_lem
      go (no d) =
          ⊎_elim (λ (l : ltb (stim_time stim k) (stim_time stim (suc k)) ≡ true). omega (arith, ltb-true))
          (λ l. let e : stim_time stim k ≡ stim_time stim (suc k) = eqb-true _ _ (and_left _ _ l) in omega arith)
          (or_cases _ _ (right.given (suc k) (omega arith)).rises)

  -- Times never fall, so that the lines up to a time are the first ones
  pub times_rise : (a b : ℕ) → a ≤ b → b ≤ stim_count stim → stim_time stim a ≤ stim_time stim b
  times_rise a b l h =
      le_ind (λ (k : ℕ). k ≤ stim_count stim → stim_time stim a ≤ stim_time stim k) (λ h. omega arith)
      (λ k l before h. omega (arith, before (omega arith), next_time k h)) b l h

  last_code : (t s k : ℕ) → k ≤ stim_count stim → last_given stim t s k ≤ 3
  unfolding last_given
  last_code t s zero h = omega arith
  last_code t s (suc k) h = go (eqb (stim_signal stim k) s and leb (stim_time stim k) t) (last_code t s k (omega arith))
    where
      go : (b : Bool) → last_given stim t s k ≤ 3 → (if b then stim_value stim k else last_given stim t s k) ≤ 3
      go true before = (right.given k h).value
      go false before = before

  pub held_code : (t s : ℕ) → held stim t s ≤ 3
  unfolding held
  held_code t s = last_code t s (stim_count stim) (omega arith)

  -- a line that gives s a value by time t gives it at time 0, s being no input
  at_time_0 : (s t k : ℕ) → (n.kind s ≡ input → ⊥) → k < stim_count stim
      → eqb (stim_signal stim k) s and leb (stim_time stim k) t ≡ eqb (stim_signal stim k) s and leb (stim_time stim k) 0
  unfolding ◌and◌
  at_time_0 s t k gate h = go (eqb (stim_signal stim k) s) refl
    where
      is_0 : stim_signal stim k ≡ s → Dec (stim_time stim k ≡ 0) → stim_time stim k ≡ 0
      is_0 e (yes z) = z
      is_0 e (no d) = absurd (gate (rw e at ((right.given k h).later d)))

      go : (b : Bool) → eqb (stim_signal stim k) s ≡ b → b and leb (stim_time stim k) t ≡ b and leb (stim_time stim k) 0
      go false e = refl
      go true e =
          let z = is_0 (eqb-true _ _ e) (ℕ_discrete (stim_time stim k) 0) in
          rw (z, le-leb 0 t (omega arith))

  last_input : (s t k : ℕ) → (n.kind s ≡ input → ⊥) → k ≤ stim_count stim → last_given stim t s k ≡ last_given stim 0 s k
  unfolding last_given
  last_input s t zero gate h = refl
  last_input s t (suc k) gate h = rw (at_time_0 s t k gate h, last_input s t k gate (omega arith))

  -- A later time names only inputs, so that a gate keeps its value of time 0
  pub held_input : (s t : ℕ) → (n.kind s ≡ input → ⊥) → held stim t s ≡ held stim 0 s
  unfolding held
  held_input s t gate = last_input s t (stim_count stim) gate (omega arith)
