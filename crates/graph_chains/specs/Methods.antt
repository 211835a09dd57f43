-- A search, for the contracts of its methods.
use Rattle.graph_chains.specs.Search.{State, state}
use Rattle.graph_chains.specs.declared.Search.{Search}

-- its marks and its stack
abbrev pub state_of : Search → State
state_of search = state search.marks search.stack
