-- The refusals of the calls: 40 and 52 return 0, 42 the value (02, ticket 7).
use Rattle.model.specs.Refusal.{Check, fail}
use Rattle.traces.specs.declared.TurnRefusal.{TurnRefusal}
use Rattle.traces.specs.declared.TurnRefusal.TheVariants.{WrongLength, WrongCount, UnusedBit, NoSuchValue}

abbrev pub turn_refusal : TurnRefusal → Check
turn_refusal WrongLength = fail 40 0
turn_refusal WrongCount = fail 52 0
turn_refusal UnusedBit = fail 52 0
turn_refusal (NoSuchValue value) = fail 42 value
