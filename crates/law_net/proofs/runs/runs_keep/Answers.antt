use Rattle.law_net.proofs.RunsArrives.{is_once, is_of_one_block, is_caused}
use Rattle.law_net.proofs.RunsAgree.{agrees}
use Rattle.law_net.proofs.RunsLands.{lands}
use Rattle.law_net.proofs.runs.runs_keep.Goals as goal

pub returns-clause-once : goal.returns-clause-once
returns-clause-once c = λ fl p w inputs q m good fit k. is_once fl p w inputs q m good k

pub returns-clause-agree : goal.returns-clause-agree
returns-clause-agree c = λ fl p w inputs q m good fit k. agrees fl p w inputs q m good k fit

pub returns-clause-block : goal.returns-clause-block
returns-clause-block c = λ fl p w inputs q m good fit k. is_of_one_block fl p w inputs q m good k

pub returns-clause-caused : goal.returns-clause-caused
returns-clause-caused c = λ fl p w inputs q m good fit k. is_caused fl p w inputs q m good k

pub returns-clause-lands : goal.returns-clause-lands
returns-clause-lands c = λ fl p w inputs q m good fit k. lands fl p w inputs q m good k
