-- "Kind 1 is an input .., 2 unit-delay, 3 rank-order" (01, Files).
use Rattle.std.specs.Prelude.{ℕ, ◌≡◌, ◌≢◌, Result, MatchResult}
use Rattle.model.specs.Network.{input, unit_delay, rank_order}
use Rattle.netlist.specs.declared.kind.Kind.{Kind}
use Rattle.netlist.specs.declared.kind.Kind.TheVariants.{Input, UnitDelay, RankOrder}
use Rattle.netlist.specs.declared.kind.UnknownKind.{UnknownKind}

-- the number by which NET writes a kind
abbrev pub code_of : Kind → ℕ
code_of Input = input
code_of UnitDelay = unit_delay
code_of RankOrder = rank_order

-- the kind of this number, or the number, which names none
abbrev pub Decodes : ℕ → Result Kind UnknownKind → Type 0
Decodes number r =
    MatchResult r (λ kind. code_of kind ≡ number) (λ e. (e.0 ≡ number) × (number ≢ input) × (number ≢ unit_delay) × (number ≢ rank_order))
