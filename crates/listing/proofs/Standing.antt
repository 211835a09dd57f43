-- A listing stands by the files through every step: what it asks of the functions that make a piece, what the piece is, and how the
-- listing stands after it.
use Prim.Native.Nat.{ℕ, zero, suc, ◌+◌, ◌<◌, ◌≤◌}
use mathlib.Core.Path.{◌≡◌, refl, sym, subst, ◌∙◌, ap}
use mathlib.Core.List.{List, [], ◌∷◌}
use native.Mathlib.Omega.{arith}
use native.Mathlib.Decide.{ℕ_discrete, dec_lt}
use lib.ListN.{length, get_or}
use lib.Seq.{sets}
use borrow.Author.Tests.{le-leb, eq-eqb}
use Rattle.logic.proofs.Tests.{and_true}
use Rattle.logic.proofs.Listed.{listed_length, listed_at}
use Rattle.writing.specs.Text.{line_text}
use Rattle.fields.proofs.LowHalf.{number_small}
use Rattle.model.specs.Refusal.{pass}
use Rattle.model.specs.Files.{Files}
use Rattle.model.specs.Network.{Network, Signal, input}
use Rattle.model.specs.Netlist.{network}
use Rattle.model.specs.Stimulus.{stim_line, stim_time, stim_check, stim_count, end_time, held}
use Rattle.model.specs.Acceptance.{panel_limit, network_of, module_of_files, Accepted}
use Rattle.model.specs.Session.{Watch}
use Rattle.model.specs.Listing.{value_at}
use Rattle.model.proofs.Accepted.{net_accepted, stim_accepted, net_size_lem, stim_right, times_rise}
use Rattle.buffers_memory.specs.Memory.{memory_of, MemoryBytes, with_memory}
use Rattle.buffers_tables.specs.Panel.{signals_in, processors_in, slots_in, kind_in, hand_in, processor_in}
use Rattle.buffers_tables.specs.Tables.{network_in, module_in}
use Rattle.buffers_tables.specs.Holding.{Holding}
use Rattle.buffers_range.proofs.Ranged.{head_ranged_lem, panel_in_range, ranged_memory}
use Rattle.machine_run.specs.Running.{cycle_in}
use Rattle.session_state.specs.declared.Session.{Session}
use Rattle.buffers_tables.specs.Stores.{with_hands}
use Rattle.session_state.specs.Commands.{signal_in, input_in}
use Rattle.session_calls.proofs.Watched.{ranged_processor}
use Rattle.laws_kept.proofs.Tables.{same_holding}
use Rattle.file_stim.proofs.Passed.{nothing_later, given_by_then}
use Rattle.file_stim.proofs.Steps.{time_field}
use Rattle.file_stim.specs.declared.Stimulus.{Stimulus}
use Rattle.listing.specs.declared.Lister.{Lister}
use Rattle.listing.specs.declared.Piece.{Piece}
use Rattle.listing_cycle.specs.Changes.{shown_length, value_held, change_lines, shown_with}
use Rattle.listing_cycle.specs.Feeding.{Passed, PanelInputs, InHand, Fed, SameNumbers}
use Rattle.listing_cycle.specs.Cycling.{RightBuffers, Ready, OneMore}
use Rattle.listing.specs.Pieces.{piece_at}
use Rattle.listing.specs.Buffers.{cycles_after, line_at, hand_at, panel_at, panel_after, memory_at, shown_at, shown_after}
use Rattle.listing.specs.Standing.{SessionAt, stim_of, Stands, Gives}
use Rattle.listing.proofs.Lines.{lines_passed, passed_line}
use Rattle.listing_cycle.proofs.Feeding.{no_input, fed_fixed, fed_right}
use Rattle.listing_cycle.proofs.Cycling.{cycle_right}
use Rattle.listing.proofs.Buffers.{cycles_at, cycles_last, shown_last, hand_input, hand_gate, hand_none, panel_next, panel_holding, panel_hand, panel_input, places_hold, memory_next, shown_next}
use Rattle.listing.proofs.Pieces.{piece_is, piece_last, piece_short}

-- T is a number of a right field
pub end_small : (n : Network) (stim : List ℕ) → stim_check n stim ≡ pass → end_time stim ≤ 65535
unfolding end_time
end_small n stim passes =
    number_small stim (stim_line (stim_count stim)) (time_field stim (stim_count stim) (stim_right n stim passes).end.line)

-- what buffers that are right give to the functions that read values
module _ {panel program memory : List ℕ} (right : RightBuffers panel program memory) where
  pub right_signals : signals_in panel ≤ 4096
  right_signals = (head_ranged_lem panel program memory right.range).signals_high

  pub right_processor : (s : ℕ) → 1 ≤ s → s ≤ signals_in panel → processor_in panel s < 16
  right_processor = ranged_processor panel program memory right.range

  pub right_memory : MemoryBytes memory
  right_memory = ranged_memory panel program memory right.sizes.memory_size right.range

-- the changes that write_changes gives are a piece, and it shows what the piece tells
module _ (files : Files) (accepted : Accepted panel_limit files) (t : ℕ) (more : t ≤ end_time files.STIM) (panel program : List ℕ)
    (holding : Holding (network_of files) (module_of_files files) panel program) (memory : List ℕ) (memory_is : memory ≡ memory_at files t)
    (shown : List ℕ) (shown_is : shown ≡ shown_after files t) where
  size_is : signals_in panel ≡ (network_of files).size
  unfolding network_in
  size_is = holding.signals.size

  values_held : (s : ℕ) → Signal (network_of files) s → value_held panel memory s ≡ value_at files t s
  values_held s g = ap (λ (x : List ℕ). value_held panel x s) memory_is ∙ places_hold files accepted panel program holding t s g

  told : (s : ℕ) → Signal (network_of files) s → get_or shown s 0 ≡ shown_at files t s
  unfolding network
  told s g =
      ap (λ (x : List ℕ). get_or x s 0) shown_is
      ∙ listed_at shown_length (shown_at files t) s (omega (arith, g.high, net_size_lem panel_limit files.NET (net_accepted panel_limit files accepted)))

  piece_given : change_lines (signals_in panel) t (value_held panel memory) (λ s. get_or shown s 0) ≡ piece_at files t
  piece_given =
      ap (λ (k : ℕ). change_lines k t (value_held panel memory) (λ s. get_or shown s 0)) size_is
      ∙ piece_is files accepted (value_held panel memory) (λ s. get_or shown s 0) t more values_held told

  shown_given : shown_with (signals_in panel) (value_held panel memory) (λ s. get_or shown s 0) ≡ shown_after files (suc t)
  shown_given =
      ap (λ (k : ℕ). shown_with k (value_held panel memory) (λ s. get_or shown s 0)) size_is
      ∙ ap (λ (x : List ℕ). shown_with (network_of files).size (value_held panel memory) (λ s. get_or x s 0)) shown_is
      ∙ shown_next files accepted t more (value_held panel memory) values_held

-- what a listing that stands gives to the functions that it calls
module _ {files : Files} {k : ℕ} {l : Lister} {panel program memory shown : List ℕ} (s : Stands files k l panel program memory shown) where
  stands_passed : Passed files.STIM (cycles_after files k) l.cursor.line
  stands_passed =
      subst (Passed files.STIM (cycles_after files k)) (sym s.line_is)
      (lines_passed (network_of files) files.STIM (stim_accepted panel_limit files s.accepted) (cycles_after files k))

  stands_holding : Holding (network_of files) (module_of_files files) panel program
  stands_holding =
      subst (λ (x : List ℕ). Holding (network_of files) (module_of_files files) x program) (sym s.panel_is)
      (subst (λ (x : List ℕ). Holding (network_of files) (module_of_files files) (panel_after files k) x) (sym s.program_is)
      (panel_holding files s.accepted (cycles_after files k)))

  -- A piece is given, and the listing stands after it
  module _ {lent out panel' memory' shown' : List ℕ} {p : Piece} (text : List ℕ) (is : text ≡ piece_at files k) (size : p.length ≡ length text)
      (bytes : out ≡ sets lent 0 text) (given : p.lister.pieces ≡ l.pieces + 1) (end : p.lister.end.0 ≡ l.end.0)
      (t : ℕ) (cycles : cycles_after files (suc k) ≡ t) (reads : p.lister.cursor.stimulus ≡ l.cursor.stimulus) (line : p.lister.cursor.line ≡ line_at files t)
      (session : SessionAt t p.lister.session) (panel-left : panel' ≡ panel_at files t) (memory_left : memory' ≡ memory_at files t)
      (shown-left : shown' ≡ shown_after files (suc k)) (right : RightBuffers panel' program memory') where
    gives : Gives files k lent p out panel' program memory' shown'
    gives =
        record {
          size = size ∙ ap length is;
          short = rw (size ∙ ap length is) (piece_short files s.accepted k);
          bytes = bytes ∙ ap (sets lent 0) is;
          given = count;
          end = end ∙ s.end;
          line_is = line ∙ ap (line_at files) (sym cycles);
          session_is = session_left;
          panel_is = panel-left ∙ ap (panel_at files) (sym cycles);
          memory_is = memory_left ∙ ap (memory_at files) (sym cycles);
          shown_is = shown-left;
          next = λ b.
              record {
                accepted = s.accepted;
                stimulus = ap (λ (x : Stimulus). x.bytes.now) reads ∙ s.stimulus;
                left = omega arith;
                given = count;
                end = end ∙ s.end;
                line_is = line ∙ ap (line_at files) (sym cycles);
                session_is = session_left;
                panel_is = panel-left ∙ ap (panel_at files) (sym cycles);
                program_is = s.program_is;
                memory_is = memory_left ∙ ap (memory_at files) (sym cycles);
                shown_is = shown-left;
                right = right;
                shown_size = ap length shown-left ∙ listed_length shown_length (shown_at files (suc k));
              };
        }
      where
        count : p.lister.pieces ≡ suc k
        count = omega (arith, given, s.given)

        session_left : SessionAt (cycles_after files (suc k)) p.lister.session
        session_left = (session.0 ∙ sym cycles, session.1)

  -- a piece without a cycle
  gives_still : cycles_after files (suc k) ≡ cycles_after files k → {lent out shown' : List ℕ} {p : Piece} (text : List ℕ) → text ≡ piece_at files k
      → p.length ≡ length text → out ≡ sets lent 0 text
      → p.lister ≡ record { session = l.session; cursor = l.cursor; end = l.end; pieces = l.pieces + 1 }
      → shown' ≡ shown_after files (suc k) → Gives files k lent p out panel program memory shown'
  gives_still same {p = p} text is size bytes after shown-left =
      gives text is size bytes (ap (λ (x : Lister). x.pieces) after) (ap (λ (x : Lister). x.end.0) after) (cycles_after files k) same
      (ap (λ (x : Lister). x.cursor.stimulus) after) (ap (λ (x : Lister). x.cursor.line) after ∙ s.line_is)
      (subst (λ (x : Lister). SessionAt (cycles_after files k) x.session) (sym after) s.session_is) s.panel_is s.memory_is shown-left s.right

  -- the last line
  pub gives_last : l.end.0 < l.pieces → (lent out : List ℕ) (p : Piece) → p.length ≡ length (line_text (l.end.0 ∷ 0 ∷ 0 ∷ []))
      → out ≡ sets lent 0 (line_text (l.end.0 ∷ 0 ∷ 0 ∷ []))
      → p.lister ≡ record { session = l.session; cursor = l.cursor; end = l.end; pieces = l.pieces + 1 }
      → Gives files k lent p out panel program memory shown
  gives_last h lent out p size bytes after =
      let last : k ≡ suc (end_time files.STIM) = omega (arith, s.given, s.left, s.end) in
      gives_still (subst (λ (x : ℕ). cycles_after files (suc x) ≡ cycles_after files x) (sym last) (cycles_last files))
      (line_text (l.end.0 ∷ 0 ∷ 0 ∷ []))
      (ap (λ (t : ℕ). line_text (t ∷ 0 ∷ 0 ∷ [])) s.end ∙ piece_last files s.accepted k last)
      size bytes after
      (s.shown_is ∙ sym (subst (λ (x : ℕ). shown_after files (suc x) ≡ shown_after files x) (sym last) (shown_last files)))

-- time 0
pub gives_first : {files : Files} {l : Lister} {panel program memory shown : List ℕ} (s : Stands files 0 l panel program memory shown)
    (lent out shown' : List ℕ) (p : Piece)
    → p.length ≡ length (change_lines (signals_in panel) 0 (value_held panel memory) (λ x. get_or shown x 0))
    → out ≡ sets lent 0 (change_lines (signals_in panel) 0 (value_held panel memory) (λ x. get_or shown x 0))
    → shown' ≡ shown_with (signals_in panel) (value_held panel memory) (λ x. get_or shown x 0)
    → p.lister ≡ record { session = l.session; cursor = l.cursor; end = l.end; pieces = 1 }
    → Gives files 0 lent p out panel program memory shown'
unfolding cycles_after
gives_first {files} {l} {panel} {program} {memory} {shown} s lent out shown' p size bytes shows after =
    gives_still s (cycles_at files 0 (omega arith)) _
    (piece_given files s.accepted 0 (omega arith) panel program (stands_holding s) memory s.memory_is shown s.shown_is) size bytes
    (after ∙ ap (λ (x : ℕ). record { session = l.session; cursor = l.cursor; end = l.end; pieces = x }) (let e : 1 ≡ l.pieces + 1 = omega (arith, s.given) in e))
    (shows ∙ shown_given files s.accepted 0 (omega arith) panel program (stands_holding s) memory s.memory_is shown s.shown_is)

-- a cycle, t being finished: its settings, which leave the panel fed and the session ready
module _ {files : Files} {t : ℕ} {l : Lister} {panel program memory shown : List ℕ}
    (s : Stands files (suc t) l panel program memory shown) (more : suc t ≤ end_time files.STIM) {fed : List ℕ} {next : ℕ}
    (feeding : Fed (stim_of l) panel (suc t) l.cursor.line fed next) (stops : next < stim_count (stim_of l) → stim_time (stim_of l) next ≡ suc t → ⊥)
    {ready : Session} (same : SameNumbers l.session ready) where
  abbrev n : Network
  n = network_of files

  abbrev given_stim : List ℕ
  given_stim = files.STIM

  fed_here : Fed given_stim panel (suc t) l.cursor.line fed next
  fed_here = subst (λ (x : List ℕ). Fed x panel (suc t) l.cursor.line fed next) s.stimulus feeding

  stops_here : next < stim_count given_stim → stim_time given_stim next ≡ suc t → ⊥
  stops_here = subst (λ (x : List ℕ). next < stim_count x → stim_time x next ≡ suc t → ⊥) s.stimulus stops

  accepts : stim_check n given_stim ≡ pass
  accepts = stim_accepted panel_limit files s.accepted

  -- the listing as it stands, by t
  now : cycles_after files (suc t) ≡ t
  now = cycles_at files t (omega arith)

  session_here : SessionAt t ready
  session_here = (same.0 ∙ s.session_is.0 ∙ now, same.1 ∙ s.session_is.1)

  panel_here : panel ≡ panel_at files t
  panel_here = s.panel_is ∙ ap (panel_at files) now

  passed_here : Passed given_stim t l.cursor.line
  passed_here = subst (λ (x : ℕ). Passed given_stim x l.cursor.line) now (stands_passed s)

  fed_stands : RightBuffers fed program memory
  fed_stands = fed_right feeding s.right

  pub stands_ready : Ready ready fed program memory
  stands_ready =
      let signal : ready.watch.signal ≡ 1 = ap (λ (w : Watch). w.signal) session_here.1 in
      record {
        right = fed_stands;
        watched_low = omega arith;
        watched_high = omega (arith, (panel_in_range fed program memory fed_stands.range).head.signals_low);
        mask = ap (λ (w : Watch). w.mask) session_here.1;
        left = omega (arith, session_here.0, end_small n given_stim accepts);
      }

  passed_next : Passed given_stim (suc t) next
  passed_next =
      record {
        few = fed_here.few;
        earlier = λ k b. before k b (dec_lt k l.cursor.line);
        later = λ b.
            let start = passed_here.later (omega (arith, fed_here.low)) in
            let rise = times_rise n given_stim (stim_right n given_stim accepts) l.cursor.line next fed_here.low fed_here.few in
            above b (ℕ_discrete (stim_time given_stim next) (suc t)) (omega arith);
      }
    where
      before : (k : ℕ) → k < next → Dec (k < l.cursor.line) → stim_time given_stim k ≤ suc t
      before k b (yes q) = omega (arith, passed_here.earlier k q)
      before k b (no d) = omega (arith, fed_here.times k (omega arith) b)

      above : next < stim_count given_stim → Dec (stim_time given_stim next ≡ suc t) → suc t ≤ stim_time given_stim next → suc t < stim_time given_stim next
      above b (yes q) r = absurd (stops_here b q)
      above b (no d) r = omega arith

  size_here : signals_in panel ≡ n.size
  unfolding network_in
  size_here = (stands_holding s).signals.size

  kind_here : (x : ℕ) → Signal n x → kind_in panel x ≡ n.kind x
  unfolding network_in
  kind_here x g = (stands_holding s).signals.kinds x g

  -- the network's inputs are the panel's
  feeds : PanelInputs n given_stim panel
  unfolding input_in signal_in
  feeds =
      record {
        passes = accepts;
        inputs = λ x g i.
            and_true _ _ (and_true _ _ (le-leb 1 x g.low) (le-leb x (signals_in panel) (omega (arith, g.high, size_here))))
            (eq-eqb (kind_in panel x) input (kind_here x g ∙ i));
      }

  -- the inputs' values in hand before the settings and after them, which the lines passed gave last
  hands_here : InHand n given_stim (suc t) l.cursor.line panel
  unfolding held
  hands_here x g i =
      ap (λ (q : List ℕ). hand_in q x) panel_here
      ∙ panel_input files s.accepted t x g i
      ∙ nothing_later n given_stim accepts t l.cursor.line passed_here.later x (stim_count given_stim) passed_here.few (omega arith)
      ∙ given_by_then given_stim t (suc t) l.cursor.line passed_here.earlier (omega arith) x

  hands_next : (x : ℕ) → Signal n x → n.kind x ≡ input → hand_in fed x ≡ held given_stim (suc t) x
  unfolding held
  hands_next x g i =
      fed_here.hands n feeds (omega arith) hands_here x g i
      ∙ sym (nothing_later n given_stim accepts (suc t) next passed_next.later x (stim_count given_stim) fed_here.few (omega arith))

  -- what is no input keeps what stands there
  kept : (x : ℕ) → 1 ≤ x → x ≤ 4096 → (1 ≤ x → x ≤ signals_in panel → kind_in panel x ≡ input → ⊥) → hand_in fed x ≡ hand_at files t x
  kept x low high d =
      feeding.gates x low high (no_input panel x d) ∙ ap (λ (q : List ℕ). hand_in q x) panel_here ∙ panel_hand files t x low high

  -- so the panel is that of one cycle more
  fed_is : fed ≡ panel_at files (suc t)
  fed_is =
      panel_next files t (suc t) fed (feeding.only ∙ ap (with_hands (hand_in fed)) panel_here)
      (λ x low high. hand x low high (dec_lt n.size x))
    where
      hand : (x : ℕ) → 1 ≤ x → x ≤ 4096 → Dec (n.size < x) → hand_in fed x ≡ hand_at files (suc t) x
      hand x low high (yes q) = kept x low high (λ a b. absurd (omega (arith, size_here))) ∙ hand_none files t x q ∙ sym (hand_none files (suc t) x q)
      hand x low high (no d) = kind (ℕ_discrete (n.kind x) input)
        where
          g : Signal n x
          g = record { low = low; high = omega arith }

          kind : Dec (n.kind x ≡ input) → hand_in fed x ≡ hand_at files (suc t) x
          kind (yes i) = hands_next x g i ∙ sym (hand_input files (suc t) x g i)
          kind (no e) =
              kept x low high (λ a b q. e (sym (kind_here x g) ∙ q)) ∙ hand_gate files t x g e ∙ sym (hand_gate files (suc t) x g e)

  fed_holding : Holding n (module_of_files files) fed program
  fed_holding = same_holding fed panel program (fed_fixed feeding) (right_signals s.right) (stands_holding s)

  -- and then the cycle
  module _ (memory' : List ℕ) (left : memory' ≡ with_memory (processors_in fed) (slots_in fed) (cycle_in fed program (memory_of memory)) memory) where
    pub cycle_stands : RightBuffers fed program memory'
    cycle_stands = cycle_right fed_stands memory' left

    memory_left : memory' ≡ memory_at files (suc t)
    unfolding module_in
    memory_left =
        memory_next files s.accepted t memory memory' (s.memory_is ∙ ap (memory_at files) now)
        (left
        ∙ ap (λ (p : ℕ). with_memory p (slots_in fed) (cycle_in fed program (memory_of memory)) memory) fed_holding.lines.processors
        ∙ ap (λ (c : ℕ). with_memory (module_of_files files).processors c (cycle_in fed program (memory_of memory)) memory) fed_holding.lines.slots
        ∙ ap (λ (x : List ℕ). with_memory (module_of_files files).processors (module_of_files files).slots (cycle_in x program (memory_of memory)) memory) fed_is
        ∙ ap (λ (x : List ℕ). with_memory (module_of_files files).processors (module_of_files files).slots (cycle_in (panel_at files (suc t)) x (memory_of memory)) memory) s.program_is)

    pub gives_cycle : (lent out shown' : List ℕ) (p : Piece)
        → p.length ≡ length (change_lines (signals_in fed) (suc t) (value_held fed memory') (λ x. get_or shown x 0))
        → out ≡ sets lent 0 (change_lines (signals_in fed) (suc t) (value_held fed memory') (λ x. get_or shown x 0))
        → shown' ≡ shown_with (signals_in fed) (value_held fed memory') (λ x. get_or shown x 0)
        → OneMore ready p.lister.session → p.lister.cursor.stimulus ≡ l.cursor.stimulus → p.lister.cursor.line ≡ next → p.lister.end.0 ≡ l.end.0 → p.lister.pieces ≡ l.pieces + 1
        → Gives files (suc t) lent p out fed program memory' shown'
    gives_cycle lent out shown' p size bytes shows once reads line end count =
        gives s _
        (piece_given files s.accepted (suc t) more fed program fed_holding memory' memory_left shown s.shown_is) size bytes count end
        (suc t) (cycles_at files (suc t) more) reads (line ∙ passed_line n given_stim accepts (suc t) next passed_next)
        (omega (arith, once.0, session_here.0), once.1 ∙ session_here.1) fed_is memory_left
        (shows ∙ shown_given files s.accepted (suc t) more fed program fed_holding memory' memory_left shown s.shown_is)
        cycle_stands

-- the same by the number of pieces that the listing itself keeps
module _ {files : Files} {k : ℕ} {l : Lister} {panel program memory shown : List ℕ} (s : Stands files k l panel program memory shown) where
  pub at_count : Stands files l.pieces l panel program memory shown
  at_count = subst (λ (x : ℕ). Stands files x l panel program memory shown) (sym s.given) s

  pub by_count : {lent out panel' memory' shown' : List ℕ} {p : Piece} → Gives files l.pieces lent p out panel' program memory' shown'
      → Gives files k lent p out panel' program memory' shown'
  by_count {lent} {out} {panel'} {memory'} {shown'} {p} g =
      subst (λ (x : ℕ). Gives files x lent p out panel' program memory' shown') s.given g

pub gives_zeroth : {files : Files} (m : ℕ) {l : Lister} {panel program memory shown : List ℕ} → m ≡ 0
    → Stands files m l panel program memory shown → (lent out shown' : List ℕ) (p : Piece)
    → p.length ≡ length (change_lines (signals_in panel) m (value_held panel memory) (λ x. get_or shown x 0))
    → out ≡ sets lent 0 (change_lines (signals_in panel) m (value_held panel memory) (λ x. get_or shown x 0))
    → shown' ≡ shown_with (signals_in panel) (value_held panel memory) (λ x. get_or shown x 0)
    → p.lister ≡ record { session = l.session; cursor = l.cursor; end = l.end; pieces = 1 }
    → Gives files m lent p out panel program memory shown'
gives_zeroth zero e s = gives_first s
gives_zeroth (suc m) e s = absurd (omega arith)

-- the memory after a cycle of the tables
abbrev Cycled : List ℕ → List ℕ → List ℕ → List ℕ → Type 0
Cycled panel program memory left = left ≡ with_memory (processors_in panel) (slots_in panel) (cycle_in panel program (memory_of memory)) memory

module _ {files : Files} {l : Lister} {panel program memory shown fed : List ℕ} {next : ℕ} {ready : Session} where
  pub later_ready : (m : ℕ) → Stands files m l panel program memory shown → (m ≡ 0 → ⊥) → m ≤ l.end.0
      → Fed (stim_of l) panel m l.cursor.line fed next → (next < stim_count (stim_of l) → stim_time (stim_of l) next ≡ m → ⊥) → SameNumbers l.session ready
      → Ready ready fed program memory
  later_ready zero s d more feeding stops same = absurd (d refl)
  later_ready (suc t) s d more feeding stops same = stands_ready s (omega (arith, s.end)) feeding stops same

  module _ (memory' : List ℕ) where
    pub later_right : (m : ℕ) → Stands files m l panel program memory shown → (m ≡ 0 → ⊥) → m ≤ l.end.0
        → Fed (stim_of l) panel m l.cursor.line fed next → (next < stim_count (stim_of l) → stim_time (stim_of l) next ≡ m → ⊥) → SameNumbers l.session ready
        → Cycled fed program memory memory' → RightBuffers fed program memory'
    later_right zero s d more feeding stops same = absurd (d refl)
    later_right (suc t) s d more feeding stops same = cycle_stands s (omega (arith, s.end)) feeding stops same memory'

    pub gives_later : (m : ℕ) → Stands files m l panel program memory shown → (m ≡ 0 → ⊥) → m ≤ l.end.0
        → Fed (stim_of l) panel m l.cursor.line fed next → (next < stim_count (stim_of l) → stim_time (stim_of l) next ≡ m → ⊥) → SameNumbers l.session ready
        → Cycled fed program memory memory' → (lent out shown' : List ℕ) (p : Piece)
        → p.length ≡ length (change_lines (signals_in fed) m (value_held fed memory') (λ x. get_or shown x 0))
        → out ≡ sets lent 0 (change_lines (signals_in fed) m (value_held fed memory') (λ x. get_or shown x 0))
        → shown' ≡ shown_with (signals_in fed) (value_held fed memory') (λ x. get_or shown x 0)
        → OneMore ready p.lister.session → p.lister.cursor.stimulus ≡ l.cursor.stimulus → p.lister.cursor.line ≡ next → p.lister.end.0 ≡ l.end.0 → p.lister.pieces ≡ l.pieces + 1
        → Gives files m lent p out fed program memory' shown'
    gives_later zero s d more feeding stops same = absurd (d refl)
    gives_later (suc t) s d more feeding stops same = gives_cycle s (omega (arith, s.end)) feeding stops same memory'
