use Rattle.std.proofs.Common.{refl, sym, subst}
use Rattle.semantics.specs.Machine.{Events}
use Rattle.schedule.specs.Setting.{size}
use Rattle.schedule.specs.Unlisted.{with_events}
use Rattle.rounds.proofs.Closing.{reported_run}
use Rattle.machine.specs.Ends.{EndsTaking}
use Rattle.machine.proofs.free.run_taking.Goals as goal

pub returns : goal.returns
returns g c =
    let m = c.args.machine in
    let z = m.state.setting in
    let may = g.G.Gate.may_stop in
    let r = c.run_machine.result in
    record {
      shows = λ inputs b. reported_run z.program (size z) inputs z.steps may m.events r (c.run_machine.ensures.shows inputs m.events b);
      ends = λ inputs b some.
          let e = c.run_machine.ensures.ends inputs m.events b some in
          subst (λ (l : Events). EndsTaking c.args.take z inputs may (with_events r l)) (sym (e.2 refl refl)) e.1;
    }
