-- All that is static holds: the plan of every well-formed graph is wired.
use Rattle.law_net.proofs.ContextsStatic.{expanded_is_wired}
use Rattle.law_wiring.specs.WholeStatic.{EveryIsStatic, EveryIsWired}
use Rattle.law_wiring.proofs.CodeLaid.{plain_code_is_written, turn_code_is_written}
use Rattle.law_wiring.proofs.WholeStatic.{code_suffices}

pub every_is_static : EveryIsStatic
every_is_static = code_suffices plain_code_is_written turn_code_is_written

pub every_is_wired : EveryIsWired
every_is_wired = expanded_is_wired every_is_static
