use Rattle.std.proofs.Common.{refl, sym, ap, subst, [], false}
use Rattle.schedule.specs.Setting.{size}
use Rattle.schedule.specs.Runs.{SoFar, Began}
use Rattle.schedule.specs.Unlisted.{with_events}
use Rattle.rounds.specs.Rounds.{ShowsOn}
use Rattle.rounds.proofs.Closing.{reported_quietly}
use Rattle.machine.specs.Ends.{EndsTaking}
use Rattle.machine.proofs.free.run_quietly_taking.Goals as goal

pub returns : goal.returns
returns g c =
    let m = c.args.machine in
    let z = m.state.setting in
    let may = g.G.Gate.may_stop in
    let same = c.without_events.ensures in
    let r = c.run_machine.result in
    let none = c.run_machine.ensures.unlisted refl (ap (λ (k : SoFar). k.events) same) in
    record {
      shows = λ inputs b. reported_quietly z.program (size z) inputs z.steps may [] m.events r none
          (subst (λ (k : SoFar). ShowsOn false k.state.setting.program (size k.state.setting) inputs k.state.setting.steps may k.events m.events r) same
          (c.run_machine.ensures.shows inputs m.events (subst (λ (k : SoFar). Began inputs k.state m.events) (sym same) b)));
      ends = λ inputs b some.
          let e = c.run_machine.ensures.ends inputs m.events (subst (λ (k : SoFar). Began inputs k.state m.events) (sym same) b) some in
          (e.0, subst (λ (k : SoFar). EndsTaking c.args.take k.state.setting inputs may (with_events r e.0)) same e.1);
    }
