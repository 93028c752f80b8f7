-- The code of calls and that of loops' turns, laid out as it is written down, make all that is static.
use Rattle.law_net.specs.ContextsTheorem.{ExpandedIsWired}
use Rattle.law_net.specs.ContextsExpanded.{AllStatic}
use Rattle.law_wiring.specs.WrittenHalves.{PlainCodeIsWritten, TurnCodeIsWritten}

abbrev pub CodeSuffices : Type 0
CodeSuffices = PlainCodeIsWritten → TurnCodeIsWritten → AllStatic

-- so all that is static holds
abbrev pub EveryIsStatic : Type 0
EveryIsStatic = AllStatic

-- and the plan of every well-formed graph is wired
abbrev pub EveryIsWired : Type 0
EveryIsWired = ExpandedIsWired
