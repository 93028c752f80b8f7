use Rattle.std.proofs.Common.{◌∙◌, subst, ap, ℕ}
use Rattle.semantics.specs.Machine.{put_at}
use Rattle.replay.specs.declared.cells.Cell.{Cell}
use Rattle.replay.specs.declared.cells.Cell.TheVariants.{Deferred}
use Rattle.replay.specs.Known.{kept}
use Rattle.replay.proofs.Serving.{Waits, fetched_later}
use Rattle.replay.proofs.state.State.at_fetch.Goals.{in-Vacant, in-Deferred}
use Rattle.replay.proofs.state.State.at_fetch.Goals as goal

pub returns-clause-does_as : goal.returns-clause-does_as
returns-clause-does_as g c p s n made holds near token happens =
    fetched_later p c.args.self.now s holds near c.args.cell c.args.cont c.match-cell.before c.set.new.self made n token.word
    (elim c.match-cell.branch [
      | in-Vacant w ↦ subst (λ (k : Cell). Waits k c.match-cell.before) w.in-Vacant.ensures w.before-is
      | in-Deferred w ↦ subst
          (λ (k : Cell). Waits k c.match-cell.before) w.in-Deferred.ensures w.before-is
    ])
    (λ y. c.in_ok-set.ensures y ∙ ap (λ (k : ℕ). put_at (kept c.args.self.now.cells) c.args.cell (Deferred k) y) c.in-Some.ensures.1) happens
