use Rattle.std.proofs.Common.{subst, false}
use Rattle.schedule.specs.Shown.{ShowsInOrder}
use Rattle.schedule.specs.Setting.{Setting, size}
use Rattle.schedule.proofs.machine.Machine+C+A.run_in_turn.Goals as goal

pub returns : goal.returns
returns g c =
    let e = c.play_taking-halt.ensures.plays in
    record {
      last = c.play_taking-halt.new.self;
      halt = c.play_taking-halt.result;
      made = e.0;
      plays = e.1;
      events = e.2;
      reported = c.report.ensures.reported;
      shows = λ inputs began. subst (λ (z : Setting). ShowsInOrder z.program (size z) inputs z.steps false false c.report.result)
          c.play_taking-halt.ensures.setting
          (c.report.ensures.shows inputs false (c.play_taking-halt.ensures.began inputs began) c.play_taking-halt.ensures.halts);
    }
