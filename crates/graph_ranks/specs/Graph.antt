-- A graph of nodes 1, 2, .. as a list of numbers: the entry 4 * y + j, j from 0 to 3, is a node that feeds y, or 0 where there is none.
use Rattle.std.specs.Prelude.{ℕ, ◌+◌, ◌*◌, ◌≤◌, ◌<◌, ◌≡◌, Bool, true, false, List, length, get_or, Option, MatchOption}

-- places for nodes: 0, which is none, and 1 to 4096
abbrev pub places : ℕ
places = 4097

-- four entries for each
abbrev pub entries : ℕ
entries = 16388

-- x feeds y
pub record Edge (edges : List ℕ) (x y : ℕ) : Type 0 where
  pub real : 1 ≤ x
  pub index : ℕ
  pub small : index < 4
  pub is_entry : get_or edges (4 * y + index) 0 ≡ x

-- from a to b along edges, of at least one step
pub data Path (edges : List ℕ) : ℕ → ℕ → Type 0 where
  one : {a b : ℕ} → Edge edges a b → Path edges a b
  more : {a b c : ℕ} → Path edges a b → Edge edges b c → Path edges a c

-- s is on a loop
abbrev pub Loops : List ℕ → ℕ → Type 0
Loops edges s = Path edges s s

-- y is a node of 1 to size that is followed: its rank is asked for
pub record Followed (follow : List Bool) (size y : ℕ) : Type 0 where
  pub low : 1 ≤ y
  pub high : y ≤ size
  pub chosen : get_or follow y false ≡ true

-- the entries of a graph of `size` nodes: each names a node or none
pub record Entries (edges : List ℕ) (size : ℕ) : Type 0 where
  pub small : size < places
  pub long : length edges ≡ entries
  pub within : (i : ℕ) → get_or edges i 0 ≤ size

-- a graph of `size` nodes, in which only nodes that are followed feed others
pub record IsGraph (follow : List Bool) (edges : List ℕ) (size : ℕ) : Type 0 where
  pub each : Entries edges size
  pub long : length follow ≡ places
  pub feeders : (x y : ℕ) → Edge edges x y → get_or follow x false ≡ true

-- the answer is true exactly when P holds
pub record Decides (P : Type 0) (answer : Bool) : Type 0 where
  pub holds : answer ≡ true → P
  pub fails : answer ≡ false → P → ⊥

-- the smallest node of 1 to size that is on a loop
pub record SmallestLoop (edges : List ℕ) (size r : ℕ) : Type 0 where
  pub low : 1 ≤ r
  pub high : r ≤ size
  pub loops : Loops edges r
  pub smallest : (s : ℕ) → 1 ≤ s → s < r → Loops edges s → ⊥

-- no node of 1 to size is on a loop
abbrev pub NoLoops : List ℕ → ℕ → Type 0
NoLoops edges size = (s : ℕ) → 1 ≤ s → s ≤ size → Loops edges s → ⊥

-- None where no node of 1 to size is on a loop, else the smallest that is
abbrev pub FirstLoop : List ℕ → ℕ → Option ℕ → Type 0
FirstLoop edges size r = MatchOption r (NoLoops edges size) (SmallestLoop edges size)
