use Rattle.std.proofs.Common.{◌≡◌, refl, ◌∙◌, ap, sym, subst, [], ◌++◌, false}
use Rattle.schedule.specs.Shown.{ShowsInOrder}
use Rattle.schedule.specs.Setting.{Setting, size}
use Rattle.schedule.specs.State.{State}
use Rattle.schedule.specs.Runs.{SoFar, Began}
use Rattle.schedule.specs.Turns.{PlaysTaking}
use Rattle.schedule.specs.Unlisted.{with_events, so_far_with}
use Rattle.schedule.proofs.machine.Machine+C+A.run_quietly_in_turn.Goals as goal

pub returns : goal.returns
returns g c =
    let e = c.play_taking-halt.ensures.plays in
    let last : State = c.play_taking-halt.new.self.state in
    let halt = c.play_taking-halt.result in
    let before = c.args.self.events in
    let same = ap (λ (k : SoFar). k.state) c.without_events-unlisted.ensures in
    let none : c.play_taking-halt.new.self.events ≡ [] = e.2 ∙ ap (λ (k : SoFar). k.events) c.without_events-unlisted.ensures in
    let q = c.report.ensures.quietly none (before ++ e.0) in (
      q.0,
      q.1,
      record {
        last = so_far_with last (before ++ e.0);
        halt = halt;
        made = e.0;
        plays = subst (λ (s : State). PlaysTaking c.args.take s last halt e.0) same e.1;
        events = refl;
        reported = (q.2).reported;
        shows = λ inputs began.
            let at_first = subst (λ (s : State). Began inputs s before) (sym same) began in
            let shown = (q.2).shows inputs false (e.3 inputs before at_first) c.play_taking-halt.ensures.halts in
            subst (λ (z : Setting). ShowsInOrder z.program (size z) inputs z.steps false false (with_events c.report.result q.1))
            (c.play_taking-halt.ensures.setting ∙ ap (λ (s : State). s.setting) same) shown;
      },
    )
