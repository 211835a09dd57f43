-- The invariant: the array has the last of the first k lines with each signal.
use Prim.Native.Nat.{◌*◌, ◌<◌}
use mathlib.Core.Path.{◌≡◌, refl, ◌∙◌}
use native.Mathlib.Omega.{arith}
use lib.ListN.{get_or-replicate}
use Rattle.model.specs.ModuleFile.{mod_processors, mod_slots}
use Rattle.file_mod_lines.proofs.Lines.{line_total}
use Rattle.buffers_load_panel.proofs.Places.{places_start, places_more, places_end}
use Rattle.buffers_load_panel.proofs.places_of.Goals as goal
use Rattle.buffers_load_panel.proofs.places_of.Goals.{At-loop-k}

-- how many lines there are
total : (c : At-loop-k) → c.lines-k-end.result ≡ mod_processors c.args.table.now.modfile.now * mod_slots c.args.table.now.modfile.now
total c = c.lines-k-end.ensures.0 ∙ line_total _ _ _ c.args.table.now.laid.sized

pub loop-k-init : goal.loop-k-init
loop-k-init c = places_start _ _ refl (λ s h. get_or-replicate 4097 s 0 0 (omega arith))

pub loop-k-preserved : goal.loop-k-preserved
loop-k-preserved c =
    let low : c.loop-k.k < mod_processors c.args.table.now.modfile.now * mod_slots c.args.table.now.modfile.now = omega (arith, total (goal.at.loop-k-preserved c).At-loop-k) in
    places_more low c.loop-k.invariant _ c.signal_of.ensures.0 c.signal_of.ensures.1

pub returns : goal.returns
returns c = places_end _ _ _ c.loop-k.invariant (omega (arith, total (goal.at.returns c).At-loop-k))
