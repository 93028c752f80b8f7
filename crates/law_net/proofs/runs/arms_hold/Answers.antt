use Rattle.law_net.proofs.WiredWords.{words_are_fit}
use Rattle.law_net.proofs.WiredFed.{inlets_are_fed}
use Rattle.law_net.proofs.WiredEntered.{arms_are_entered}
use Rattle.law_net.proofs.WiredRivals.{rivals_are_apart}
use Rattle.law_net.proofs.runs.arms_hold.Goals as goal

pub returns-clause-words : goal.returns-clause-words
returns-clause-words c = λ fl p w inputs good fit. words_are_fit fl p w good inputs fit

pub returns-clause-fed : goal.returns-clause-fed
returns-clause-fed c = λ fl p w inputs good fit. inlets_are_fed fl p w good inputs fit

pub returns-clause-entered : goal.returns-clause-entered
returns-clause-entered c = λ fl p w inputs good fit. arms_are_entered fl p w good inputs fit

pub returns-clause-rivals : goal.returns-clause-rivals
returns-clause-rivals c = λ fl p w inputs good fit. rivals_are_apart fl p w good inputs
