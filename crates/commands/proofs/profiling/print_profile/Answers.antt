use Rattle.std.proofs.Common.{inl, refl}
use Rattle.commands.specs.Profiled.{profiled}
use Rattle.commands.proofs.Served.{printed, stopped}
use Rattle.commands.proofs.profiling.print_profile.Goals as goal

pub returns-in-Ok-write_made : goal.returns-in-Ok-write_made
returns-in-Ok-write_made g c =
    let p = c.in-Ok.profile in
    inl (
      p.waves.checked,
      p.waves.report.end,
      p.waves.report.counts.items,
      p.rows.items,
      p.sufficient,
      c.in-Ok.ensures,
      printed _ _ _ _ _ _ _ (profiled c.args.format p.waves.report.end p.rows.items) refl c.profiled.ensures c.in-Ok-write_made.ensures,
    )

pub returns : goal.returns
returns g c =
    let p = c.in-Ok.profile in
    inl (
      p.waves.checked,
      p.waves.report.end,
      p.waves.report.counts.items,
      p.rows.items,
      p.sufficient,
      c.in-Ok.ensures,
      stopped _ _ _ _ _ _ (profiled c.args.format p.waves.report.end p.rows.items) refl c.in-Err-write_made.ensures,
    )
