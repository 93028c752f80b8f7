use Rattle.schedule.specs.Setting.{size}
use Rattle.rounds.proofs.Closing.{reported_run}
use Rattle.rounds.proofs.rounds.run_listed.Goals as goal

pub returns : goal.returns
returns g c =
    let m = c.args.machine in
    let z = m.state.setting in
    record {
      shows = λ inputs b. reported_run z.program (size z) inputs z.steps g.G.Gate.may_stop m.events c.run_machine.result.report
          (c.run_machine.ensures.shows inputs m.events b);
      truth = c.run_machine.ensures.truth;
    }
