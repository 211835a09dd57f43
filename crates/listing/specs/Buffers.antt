-- Every byte of the working buffers after the first k pieces of the listing of accepted files: functions of the files
-- and of k alone. The program's table stays as it was loaded (`program_of`).
use Rattle.std.specs.Prelude.{ℕ, zero, suc, List, eqb, leb, ltb}
use Rattle.std.specs.Prelude.{if◌then◌else◌}
use Rattle.logic.specs.Listed.{listed}
use Rattle.model.specs.Files.{Files}
use Rattle.model.specs.Network.{is_signal, input}
use Rattle.model.specs.Value.{start, history}
use Rattle.model.specs.Machine.{opening, after}
use Rattle.model.specs.ModuleFile.{mod_processors, mod_slots}
use Rattle.model.specs.Stimulus.{stim_time, stim_count, held, end_time}
use Rattle.model.specs.Acceptance.{network_of, module_of_files, given_of}
use Rattle.model.specs.Listing.{value_at}
use Rattle.buffers_memory.specs.Memory.{memory_length, with_memory}
use Rattle.buffers_load_files.specs.Loaded.{panel_of}
use Rattle.buffers_tables.specs.Stores.{with_hands}
use Rattle.listing_cycle.specs.Changes.{shown_length, not_shown}

-- the cycles finished: piece 0 is time 0, and after T cycles the last line asks for none
unfoldable pub cycles_after : Files → ℕ → ℕ
cycles_after files zero = zero
cycles_after files (suc t) = if ltb t (end_time files.STIM) then t else end_time files.STIM

-- how many of the first k lines of STIM have a time up to t
unfoldable pub lines_to : List ℕ → ℕ → ℕ → ℕ
lines_to stim t zero = zero
lines_to stim t (suc k) = if leb (stim_time stim k) t then suc (lines_to stim t k) else lines_to stim t k

-- times rise, so that after those lines comes the one that is read next
abbrev pub line_at : Files → ℕ → ℕ
line_at files t = lines_to files.STIM t (stim_count files.STIM)

abbrev pub line_after : Files → ℕ → ℕ
line_after files k = line_at files (cycles_after files k)

-- What stands in the panel as the value in hand of signal s for cycle t: an input's value held; a gate's time 0 value, which nothing
-- reads; and 0 for what is no signal.
unfoldable pub hand_at : Files → ℕ → ℕ → ℕ
hand_at files t s =
    let n = network_of files in
    if is_signal n s then (if eqb (n.kind s) input then held files.STIM t s else start n (given_of files) s) else 0

-- The panel after t cycles: as it was loaded, but for the values in hand. The listing carries the session by value, and does not write
-- it back.
unfoldable pub panel_at : Files → ℕ → List ℕ
panel_at files t = with_hands (hand_at files t) (panel_of files)

abbrev pub panel_after : Files → ℕ → List ℕ
panel_after files k = panel_at files (cycles_after files k)

-- The memory after t cycles: the machine's own in the module's locations, from the opening memory on, and all other bytes 0
unfoldable pub memory_at : Files → ℕ → List ℕ
memory_at files t =
    let n = network_of files in
    let m = module_of_files files in
    with_memory (mod_processors files.MOD) (mod_slots files.MOD)
    (after n m (opening m (start n (given_of files))) (history (held files.STIM) t))
    (listed memory_length (λ a. 0))

abbrev pub memory_after : Files → ℕ → List ℕ
memory_after files k = memory_at files (cycles_after files k)

-- what is shown of s: the value that the pieces told last, none before time 0 and of what is no signal
unfoldable pub shown_at : Files → ℕ → ℕ → ℕ
shown_at files zero s = not_shown
shown_at files (suc t) s = if is_signal (network_of files) s then value_at files (cycles_after files (suc t)) s else not_shown

abbrev pub shown_after : Files → ℕ → List ℕ
shown_after files k = listed shown_length (shown_at files k)
