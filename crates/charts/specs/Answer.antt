-- The refusals of the call: 40 and 46 return 0, 41 the signal, 42 the value (02, ticket 1).
use Rattle.model.specs.Refusal.{Check, fail}
use Rattle.charts.specs.declared.ChartRefusal.{ChartRefusal}
use Rattle.charts.specs.declared.ChartRefusal.TheVariants.{WrongLength, OffPage, NoSuchSignal, NoSuchValue}

abbrev pub chart_refusal : ChartRefusal → Check
chart_refusal WrongLength = fail 40 0
chart_refusal OffPage = fail 46 0
chart_refusal (NoSuchSignal signal) = fail 41 signal
chart_refusal (NoSuchValue value) = fail 42 value
