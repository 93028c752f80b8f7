use Rattle.std.proofs.Common.{subst, true, false}
use Rattle.schedule.specs.Shown.{ShowsInOrder}
use Rattle.schedule.specs.Setting.{Setting, size}
use Rattle.schedule.proofs.machine.Machine+C+A.run.Goals as goal

pub returns-clause-shows : goal.returns-clause-shows
returns-clause-shows g c = λ inputs began.
    subst (λ (z : Setting). ShowsInOrder z.program (size z) inputs z.steps true false c.report.result) c.play-halt.ensures.setting
    (c.report.ensures.shows inputs true (c.play-halt.ensures.began inputs began) c.play-halt.ensures.halts)
