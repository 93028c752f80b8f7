use Rattle.std.proofs.Common.{subst, false}
use Rattle.schedule.specs.Shown.{ShowsInOrder}
use Rattle.schedule.specs.Setting.{Setting, size}
use Rattle.schedule.proofs.machine.Machine+C+A.run_one.Goals as goal

pub returns-clause-shows : goal.returns-clause-shows
returns-clause-shows g c = λ inputs began.
    subst (λ (z : Setting). ShowsInOrder z.program (size z) inputs z.steps false false c.report.result) c.play_in_turn-halt.ensures.setting
    (c.report.ensures.shows inputs false (c.play_in_turn-halt.ensures.began inputs began) c.play_in_turn-halt.ensures.halts)
