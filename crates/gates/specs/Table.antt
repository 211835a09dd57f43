-- The functions and the translations as tables, by which gates are evaluated (02, ticket 4).
use Rattle.std.specs.Prelude.{ℕ, ◌+◌, ◌*◌, ◌≤◌, ◌≡◌, List, length, get_or}
use Rattle.gates.specs.Value.{Code}
use Rattle.gates.specs.Translation.{translation}
use Rattle.gates.specs.Function.{function}

-- "256 a function, the first operand of weight 64, then 16, 4 and 1"
abbrev pub function_entry : ℕ → ℕ → ℕ → ℕ → ℕ → ℕ
function_entry f a b c d = 256 * f + 64 * a + 16 * b + 4 * c + d

-- "a constant table of 1,280 numbers"; it follows "the five rules throughout"
pub record FunctionTable (table : List ℕ) : Type 0 where
  pub size : length table ≡ 1280
  pub rules : (f a b c d : ℕ) → f ≤ 4 → Code a → Code b → Code c → Code d → get_or table (function_entry f a b c d) 0 ≡ function f a b c d

-- four results for each translation, in the order of the values
abbrev pub translation_entry : ℕ → ℕ → ℕ
translation_entry g v = 4 * g + v

pub record TranslationTable (table : List ℕ) : Type 0 where
  pub size : length table ≡ 28
  pub rules : (g v : ℕ) → g ≤ 6 → Code v → get_or table (translation_entry g v) 0 ≡ translation g v

-- the two tables that a gate is evaluated by
pub record GateTables (functions translations : List ℕ) : Type 0 where
  pub functions_right : FunctionTable functions
  pub translations_right : TranslationTable translations
