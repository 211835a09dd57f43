-- Each of the three ways to make a piece, by the number of pieces given.
use mathlib.Core.Path.{refl, sym, ◌∙◌}
use Rattle.writing.proofs.Writing.{length_line}
use Rattle.listing_cycle.proofs.Cycling.{right_tables}
use Rattle.listing.proofs.Standing.{right_signals, right_processor, right_memory, gives_last, at_count, by_count, gives_zeroth, later_ready, later_right, gives_later}
use Rattle.listing.proofs.Lister.step.Goals as goal

pub returns-then-from-self : goal.returns-then-from-self
returns-then-from-self c =
    λ files k s.
    gives_last s (rw c.from.ensures at c.if-from-self.true) _ _ _ (c.write_line-length.ensures.value ∙ sym (length_line _)) c.write_line-length.ensures.out_after refl

pub invariant_of-write_changes : goal.invariant_of-write_changes
invariant_of-write_changes c =
    let right = c.requires.stands.right in
    record {
      panel_size = right.sizes.panel_size;
      signals_high = right_signals right;
      processors_low = right_processor right;
      memory_bytes = right_memory right;
    }

pub returns-then-self-eq0 : goal.returns-then-self-eq0
returns-then-self-eq0 c =
    λ files k s.
    by_count s (gives_zeroth _ c.if-self-eq0.true (at_count s) _ _ _ _ c.write_changes-length.ensures.value c.write_changes-length.ensures.out_after c.write_changes-length.ensures.shown_after refl)

pub take_settings-session-requires : goal.take_settings-session-requires
take_settings-session-requires c = record { signals_high = right_signals c.requires.stands.right }

pub new-machine-requires : goal.new-machine-requires
new-machine-requires c =
    right_tables (later_ready _ (at_count c.requires.stands) c.if-self-eq0.false (rw c.from.ensures at c.if-from-self.false) c.take_settings-session.ensures.fed c.take_settings-session.ensures.no_more c.take_settings-session.ensures.same_numbers).right

pub run_one-session-requires : goal.run_one-session-requires
run_one-session-requires c =
    rw (c.new-machine.ensures.0, c.new-machine.ensures.1)
    (later_ready _ (at_count c.requires.stands) c.if-self-eq0.false (rw c.from.ensures at c.if-from-self.false) c.take_settings-session.ensures.fed c.take_settings-session.ensures.no_more c.take_settings-session.ensures.same_numbers)

pub invariant_of-write_changes-2 : goal.invariant_of-write_changes-2
invariant_of-write_changes-2 c =
    let left = rw (c.new-machine.ensures.0, c.new-machine.ensures.1) at c.run_one-session.ensures.memory_after in
    let right = later_right _ _ (at_count c.requires.stands) c.if-self-eq0.false (rw c.from.ensures at c.if-from-self.false) c.take_settings-session.ensures.fed c.take_settings-session.ensures.no_more c.take_settings-session.ensures.same_numbers left in
    record {
      panel_size = right.sizes.panel_size;
      signals_high = right_signals right;
      processors_low = right_processor right;
      memory_bytes = right_memory right;
    }

pub returns : goal.returns
returns c =
    let left = rw (c.new-machine.ensures.0, c.new-machine.ensures.1) at c.run_one-session.ensures.memory_after in
    λ files k s.
    by_count s
    (gives_later _ _ (at_count s) c.if-self-eq0.false (rw c.from.ensures at c.if-from-self.false) c.take_settings-session.ensures.fed c.take_settings-session.ensures.no_more c.take_settings-session.ensures.same_numbers left _ _ _ _ c.write_changes-length-2.ensures.value c.write_changes-length-2.ensures.out_after c.write_changes-length-2.ensures.shown_after c.run_one-session.ensures.one_more c.take_settings-session.ensures.same_stimulus refl refl refl)
