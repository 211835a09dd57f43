-- The codes of a gate are supplied: f 0 to 4, g1 to g5 0 to 6.
use Rattle.std.specs.Prelude.{◌≤◌}
use Rattle.gates.specs.declared.Gate.{Gate}

pub record Legal (n : Gate) : Type 0 where
  pub function_high : n.f ≤ 4
  pub first_high : n.g1 ≤ 6
  pub second_high : n.g2 ≤ 6
  pub third_high : n.g3 ≤ 6
  pub fourth_high : n.g4 ≤ 6
  pub last_high : n.g5 ≤ 6
