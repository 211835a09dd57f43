-- What a refusal prints (01, Refusals: "On a file refusal the program prints one line of two fields, number and returned value, and
-- nothing else").
use Rattle.std.specs.Prelude.{ℕ, List, []}
use Rattle.model.specs.Refusal.{Check, pass, fail}
use Rattle.model.specs.Listing.{refusal_line}

unfoldable pub refused_text : Check → List ℕ
refused_text pass = []
refused_text (fail number returned) = refusal_line number returned
