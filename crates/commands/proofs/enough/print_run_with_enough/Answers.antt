use Rattle.std.proofs.Common.{inl, inr, subst}
use Rattle.command_line.specs.declared.RunOptions.{RunOptions}
use Rattle.commands.specs.Served.{PrintsRun}
use Rattle.commands.proofs.enough.print_run_with_enough.Goals as goal

pub returns-in-Ok : goal.returns-in-Ok
returns-in-Ok g c = inl (
  c.in-Ok.frames,
  c.in-Ok.ensures,
  subst (λ (o : RunOptions). PrintsRun c.print_run.result (g.W.Write.contents c.args.writer.now) (g.W.Write.contents c.print_run.new.writer) c.args.input.now o) c.with_frames.ensures c.print_run.ensures,
)

pub returns-in-Err : goal.returns-in-Err
returns-in-Err g c = inr (c.in-Err.refusal, c.in-Err.ensures, c.refuse.ensures)
