use Rattle.element.proofs.Opening.{lane_opens}
use Rattle.element.proofs.contents.Contents.new.Goals as goal

pub returns-clause-starts : goal.returns-clause-starts
returns-clause-starts g c = λ p o. lane_opens p _ c.new-queue.ensures.items c.new.ensures.items o
