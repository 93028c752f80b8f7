use Rattle.std.proofs.Common.{inl, refl}
use Rattle.commands.specs.Traced.{traced}
use Rattle.commands.proofs.Served.{printed, stopped}
use Rattle.commands.proofs.tracing.print_events.Goals as goal

pub returns-in-Ok-write_trace : goal.returns-in-Ok-write_trace
returns-in-Ok-write_trace g c =
    let run = c.in-Ok.run' in
    let k = run.compiled in
    let r = run.watched.report in
    inl (
      k.checked,
      k.object.bytes,
      r,
      run.watched.moments.items,
      c.in-Ok.ensures,
      printed _ _ _ _ _ _ _ (traced c.args.format r) refl c.outcome_of.ensures c.in-Ok-write_trace.ensures,
    )

pub returns : goal.returns
returns g c =
    let run = c.in-Ok.run' in
    let k = run.compiled in
    let r = run.watched.report in
    inl (
      k.checked,
      k.object.bytes,
      r,
      run.watched.moments.items,
      c.in-Ok.ensures,
      stopped _ _ _ _ _ _ (traced c.args.format r) refl c.in-Err-write_trace.ensures,
    )
