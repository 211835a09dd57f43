-- For any files some text is printed, so that what demand 2 says of any program that prints such texts is said of one: the calls'
-- contracts, one after the other, are met by the session's definitions.
use Prim.Native.Nat.{ℕ, zero, suc, ◌+◌, ◌<◌, ◌≤◌}
use mathlib.Core.Path.{◌≡◌, refl, sym, subst, ◌∙◌, ap}
use mathlib.Core.Logic.{◌↔◌}
use mathlib.Core.List.{List, [], ◌∷◌}
use native.Mathlib.Omega.{arith}
use native.Mathlib.Decide.{ℕ_discrete, dec_lt}
use lib.ListN.{length, get_or, take}
use lib.Seq.{sets}
use Rattle.logic.specs.Listed.{listed}
use Rattle.logic.proofs.Listed.{listed_length}
use Rattle.writing.specs.Text.{line_text}
use Rattle.model.specs.Refusal.{Check, pass, fail}
use Rattle.model.specs.Files.{Files}
use Rattle.model.specs.Netlist.{net_check}
use Rattle.model.specs.ModuleFile.{mod_check}
use Rattle.model.specs.Stimulus.{stim_time, stim_check, stim_count, end_time}
use Rattle.model.specs.Acceptance.{panel_limit, network_of, file_check, Accepted}
use Rattle.model.specs.Listing.{printed}
use Rattle.model.specs.Demands.{Demand2}
use Rattle.model.proofs.Refusals.{pass_not_fail, first_both}
use Rattle.model.proofs.Accepted.{stim_accepted}
use Rattle.buffers_memory.specs.Memory.{memory_of, with_memory}
use Rattle.buffers_tables.specs.Panel.{signals_in, processors_in, slots_in, finished_in, watched_in, mask_in}
use Rattle.machine_run.specs.Running.{cycle_in}
use Rattle.buffers_load_files.specs.Loaded.{panel_of, program_of, opening_bytes}
use Rattle.file_stim.specs.Judging.{numbers_of}
use Rattle.session_state.specs.declared.Session.{Session}
use Rattle.file_stim.specs.declared.Cursor.{Cursor}
use Rattle.file_stim.proofs.Steps.{GivenAt}
use Rattle.listing.specs.declared.Lister.{Lister}
use Rattle.listing.specs.declared.Piece.{Piece}
use Rattle.listing_cycle.specs.Changes.{piece_length, shown_length, not_shown, value_held, change_lines, shown_with}
use Rattle.listing_cycle.specs.Feeding.{Passed, Fed}
use Rattle.listing.specs.Pieces.{piece_count}
use Rattle.listing.specs.Buffers.{line_at}
use Rattle.listing.specs.Standing.{stim_of, Stands, Gives}
use Rattle.laws_listing.specs.Reading.{first_bytes}
use Rattle.laws_listing.specs.Printing.{in_order, Steps, over, more, Prints, net_refused, mod_refused, stim_refused, listed as all_listed}
use Rattle.listing_cycle.proofs.Feeding.{fed_starts, fed_more}
use Rattle.listing.proofs.Lines.{lines_passed}
use Rattle.listing.proofs.Standing.{right_signals, at_count, by_count, gives_last, gives_zeroth, gives_later}
use Rattle.listing.proofs.Opening.{accepted_stimulus, opened}
use Rattle.laws_listing.proofs.Printed.{program_prints, program_demand_2}

-- a line of STIM before its end line
line_given : (stim : List ℕ) {t line : ℕ} → line < stim_count stim → stim_time stim line ≡ t → GivenAt stim t line (numbers_of stim line) (line + 1)
line_given stim l now = record { before_end = l; time_is = now; signal_is = refl; value_is = refl; follows = refl }

-- the settings of a time
record Settled (stim panel : List ℕ) (t line : ℕ) : Type 0 where
  left : List ℕ
  next : ℕ
  fed : Fed stim panel t line left next
  stops : next < stim_count stim → stim_time stim next ≡ t → ⊥

settles : {stim panel : List ℕ} {t line : ℕ} {now : List ℕ} {at : ℕ} (n : ℕ) → signals_in panel ≤ 4096 → stim_count stim ≤ at + n → Fed stim panel t line now at
    → Settled stim panel t line
settles {now = now} {at} zero few b fed = record { left = now; next = at; fed = fed; stops = λ l q. absurd (omega arith) }
settles {stim} {panel} {t} {line} {now} {at} (suc n) few b fed =
    go (λ left fed. settles {now = left} n few (omega arith) fed) (dec_lt at (stim_count stim)) (ℕ_discrete (stim_time stim at) t)
  where
    go : ((left : List ℕ) → Fed stim panel t line left (at + 1) → Settled stim panel t line) → Dec (at < stim_count stim)
        → Dec (stim_time stim at ≡ t) → Settled stim panel t line
    go rest (yes l) (yes q) = rest _ (fed_more fed (line_given stim l q) few 0 (record { signal = 1; mask = 0 }) _ refl)
    go rest (yes l) (no d) = record { left = now; next = at; fed = fed; stops = λ b q. d q }
    go rest (no d) q = record { left = now; next = at; fed = fed; stops = λ b q. absurd (d b) }

-- a step that meets the contract of `Lister::step`
record Stepped (lent program : List ℕ) (l : Lister) (panel memory shown : List ℕ) : Type 0 where
  piece : Piece
  out : List ℕ
  panel' : List ℕ
  memory' : List ℕ
  shown' : List ℕ
  gives : (files : Files) (k : ℕ) → Stands files k l panel program memory shown → Gives files k lent piece out panel' program memory' shown'

module _ {files : Files} {k : ℕ} {l : Lister} {panel program memory shown : List ℕ} (s : Stands files k l panel program memory shown) (lent : List ℕ) where
  steps_last : l.end.0 < l.pieces → Stepped lent program l panel memory shown
  steps_last h =
      let text = line_text (l.end.0 ∷ 0 ∷ 0 ∷ []) in
      record {
        piece = record { lister = record { session = l.session; cursor = l.cursor; end = l.end; pieces = l.pieces + 1 }; length = length text };
        out = sets lent 0 text;
        panel' = panel;
        memory' = memory;
        shown' = shown;
        gives = λ files k s. gives_last s h lent _ _ refl refl refl;
      }

  steps_first : l.pieces ≡ 0 → Stepped lent program l panel memory shown
  steps_first e =
      let text = change_lines (signals_in panel) l.pieces (value_held panel memory) (λ x. get_or shown x 0) in
      record {
        piece = record { lister = record { session = l.session; cursor = l.cursor; end = l.end; pieces = 1 }; length = length text };
        out = sets lent 0 text;
        panel' = panel;
        memory' = memory;
        shown' = shown_with (signals_in panel) (value_held panel memory) (λ x. get_or shown x 0);
        gives = λ files k z. by_count z (gives_zeroth l.pieces e (at_count z) lent _ _ _ refl refl refl refl);
      }

  steps_later : (l.pieces ≡ 0 → ⊥) → l.pieces ≤ l.end.0 → Stepped lent program l panel memory shown
  steps_later d h =
      let settled : Settled (stim_of l) panel l.pieces l.cursor.line =
      settles (stim_count (stim_of l)) (right_signals s.right) (omega arith)
      (fed_starts (stim_of l) panel l.pieces l.cursor.line s.right.sizes.panel_size l.cursor.within) in
      let fed = settled.left in
      let after = with_memory (processors_in fed) (slots_in fed) (cycle_in fed program (memory_of memory)) memory in
      let text = change_lines (signals_in fed) l.pieces (value_held fed after) (λ x. get_or shown x 0) in
      record {
        piece = record {
          lister = record {
            session = record { finished = record { 0 = l.session.finished.0 + 1 }; watch = l.session.watch };
            cursor = record { stimulus = l.cursor.stimulus; line = settled.next; within = settled.fed.few };
            end = l.end;
            pieces = l.pieces + 1;
          };
          length = length text;
        };
        out = sets lent 0 text;
        panel' = fed;
        memory' = after;
        shown' = shown_with (signals_in fed) (value_held fed after) (λ x. get_or shown x 0);
        gives = λ files k z.
            by_count z
            (gives_later {ready = l.session} after l.pieces (at_count z) d h settled.fed settled.stops (refl, refl) refl lent _ _ _ refl refl refl
            (refl, refl) refl refl refl refl);
      }

  steps_once : Stepped lent program l panel memory shown
  steps_once = go (dec_lt l.end.0 l.pieces) (ℕ_discrete l.pieces 0)
    where
      go : Dec (l.end.0 < l.pieces) → Dec (l.pieces ≡ 0) → Stepped lent program l panel memory shown
      go (yes h) e = steps_last h
      go (no d) (yes e) = steps_first e
      go (no d) (no e) = steps_later e (omega arith)

-- as many steps as there are pieces left
abbrev lent : List ℕ
lent = listed piece_length (λ a. 0)

module _ {files : Files} where
  steps : (n : ℕ) {k : ℕ} {l : Lister} {panel program memory shown : List ℕ} → Stands files k l panel program memory shown
      → k + suc n ≡ piece_count files → (pieces : List (List ℕ)) × Steps program l panel memory shown pieces × (length pieces ≡ suc n)
  steps zero s e =
      let one = steps_once s lent in (
        take one.piece.length one.out ∷ [],
        more lent one.piece one.out one.panel' one.memory' one.shown' (listed_length piece_length (λ a. 0)) one.gives over,
        refl,
      )
  steps (suc n) {k} s e =
      let one = steps_once s lent in
      let rest = steps n ((one.gives files k s).next (omega arith)) (omega arith) in (
        take one.piece.length one.out ∷ rest.0,
        more lent one.piece one.out one.panel' one.memory' one.shown' (listed_length piece_length (λ a. 0)) one.gives rest.1,
        ap suc rest.2,
      )

-- the listing of accepted files, opened
module _ (files : Files) (accepted : Accepted panel_limit files) where
  abbrev panel : List ℕ
  panel = panel_of files

  abbrev session : Session
  session = record { finished = record { 0 = finished_in panel }; watch = record { signal = watched_in panel; mask = mask_in panel } }

  -- the first line after those of time 0
  cursor_passed : Passed files.STIM 0 (line_at files 0)
  cursor_passed = lines_passed (network_of files) files.STIM (stim_accepted panel_limit files accepted) 0

  abbrev cursor : Cursor
  cursor =
      record {
        stimulus = record { bytes = record { ref_ptr = (0, 0); now = files.STIM }; accepted = ∣ accepted_stimulus files accepted ∣₁ };
        line = line_at files 0;
        within = cursor_passed.few;
      }

  abbrev lister : Lister
  lister = record { session = session; cursor = cursor; end = record { 0 = end_time files.STIM }; pieces = 0 }

  opens : Stands files 0 lister panel (program_of files) (opening_bytes files) (listed shown_length (λ a. not_shown))
  opens =
      opened files accepted lister panel (program_of files) (opening_bytes files) (listed shown_length (λ a. not_shown))
      refl refl refl refl refl cursor_passed refl refl refl

  lists : (text : List ℕ) × Prints files text
  lists =
      let given = steps (suc (end_time files.STIM)) opens (omega arith) in
      (in_order given.0, all_listed accepted opens given.1 (given.2 ∙ omega arith))

-- For any files that were read some text is printed
pub prints_some : (read : Files) → (text : List ℕ) × Prints read text
unfolding file_check
prints_some read = go (net_check panel_limit read.NET) refl (mod_check (network_of read) read.MOD) refl (stim_check (network_of read) read.STIM) refl
  where
    go : (a : Check) → net_check panel_limit read.NET ≡ a → (b : Check) → mod_check (network_of read) read.MOD ≡ b
        → (c : Check) → stim_check (network_of read) read.STIM ≡ c → (text : List ℕ) × Prints read text
    go (fail number returned) p b q c r = (_, net_refused (fail number returned) (sym p) (λ e. pass_not_fail (sym e ∙ p)))
    go pass p (fail number returned) q c r = (_, mod_refused p (fail number returned) (sym q) (λ e. pass_not_fail (sym e ∙ q)))
    go pass p pass q (fail number returned) r = (_, stim_refused p q (fail number returned) (sym r) (λ e. pass_not_fail (sym e ∙ r)))
    go pass p pass q pass r = lists read (first_both _ _ p (first_both _ _ q r))

-- and it is `printed` of the files
pub prints_printed : (files : Files) → Prints (first_bytes files) (printed panel_limit files)
prints_printed files =
    let some = prints_some (first_bytes files) in
    subst (Prints (first_bytes files)) (program_prints files some.0 some.1) some.1

-- Both halves at once: the program prints a text for the files exactly when it is `printed` of them
pub prints_exact : (files : Files) (text : List ℕ) → Prints (first_bytes files) text ↔ (text ≡ printed panel_limit files)
prints_exact files text = (program_prints files text, λ e. subst (Prints (first_bytes files)) (sym e) (prints_printed files))

-- Demand 2 of the text that there is: for all files the one that `prints_some` gives
pub some_demand_2 : Demand2 panel_limit (λ files. (prints_some (first_bytes files)).0)
some_demand_2 = program_demand_2 (λ files. (prints_some (first_bytes files)).0) (λ files. (prints_some (first_bytes files)).1)
