use Rattle.std.proofs.Common.{sym, ◌∙◌, ap, subst, [], List, map}
use Rattle.std.specs.Prelude.{All}
use Rattle.element.specs.Holding.{Fixed, held_of}
use Rattle.schedule.specs.State.{RunsAs}
use Rattle.semantics.specs.Machine.{outputs_of}
use Rattle.semantics.specs.Report.{Report}
use Rattle.schedule.specs.Apart.{so_far_of}
use Rattle.schedule.specs.State.{setting_in}
use Rattle.schedule.specs.Setting.{Setting}
use Rattle.schedule.specs.Reported.{opening_picture}
use Rattle.rounds.specs.Turns.{arriving}
use Rattle.rounds.proofs.Closing.{refused_shows, between_start, end_sound, end_cell, end_unlisted, end_reports, end_shows}
use Rattle.rounds.proofs.Counting.{reports_opening}
use Rattle.rounds.proofs.rounds.run_apart.Goals as goal

pub returns-in_default : goal.returns-in_default
returns-in_default g c = record {
  unlisted = λ off none. ap (λ (r : Report). r.events) (c.unmade.ensures.report ∙ c.refused.ensures);
  shows = λ inputs evs began.
      let s : Setting = setting_in g.C.Instructions.program g.C.Instructions.width c.args.setup.shape in
      refused_shows (arriving s (map held_of c.args.lanes.items) []) inputs g.L.Log.KEEPS_EVENTS g.G.Gate.may_stop c.args.setup.log.events.items evs
      c.unmade.result.report c.requires.sound (c.unmade.ensures.report ∙ c.refused.ensures);
  truth = reports_opening c.args.way.take g.L.Log.KEEPS_EVENTS g.G.Gate.may_stop (so_far_of g.C.Instructions.program g.C.Instructions.width c.args.setup
      c.args.lanes.items) c.unmade.result.rounds c.unmade.result.report c.unmade.ensures.rounds (c.unmade.ensures.report ∙ c.refused.ensures);
}

pub play-requires-clause-between : goal.play-requires-clause-between
play-requires-clause-between g c κs within =
    let s : Setting = setting_in g.C.Instructions.program g.C.Instructions.width c.args.setup.shape in
    let e = c.in-Ok.ensures in
    between_start {C = g.row.C.Denot} {A = g.row.A.Denot} {L = g.row.L.Denot} s c.in-Ok.turners.items (map held_of c.args.lanes.items) e.lanes
    e.cleared.0.0 e.cleared.0.1 c.requires.sound (subst (λ (l : List Fixed). All (RunsAs s) l) (sym e.fixed) c.requires.runs)

pub returns-in_default-play : goal.returns-in_default-play
returns-in_default-play g c = record {
  unlisted = λ off none. ap (λ (r : Report). r.events) (c.unmade-in_default-play.ensures.report ∙ c.refused-in_default-play.ensures
      ∙ ap (λ (x : Setting). opening_picture (outputs_of x.program)) c.play.ensures.setting);
  shows = λ inputs evs began.
      let s : Setting = setting_in g.C.Instructions.program g.C.Instructions.width c.args.setup.shape in
      refused_shows (arriving s (map held_of c.args.lanes.items) []) inputs g.L.Log.KEEPS_EVENTS g.G.Gate.may_stop c.args.setup.log.events.items evs
      c.unmade-in_default-play.result.report c.requires.sound (c.unmade-in_default-play.ensures.report ∙ c.refused-in_default-play.ensures
      ∙ ap (λ (x : Setting). opening_picture (outputs_of x.program)) c.play.ensures.setting);
  truth = reports_opening c.args.way.take g.L.Log.KEEPS_EVENTS g.G.Gate.may_stop (so_far_of g.C.Instructions.program g.C.Instructions.width c.args.setup
      c.args.lanes.items) c.unmade-in_default-play.result.rounds c.unmade-in_default-play.result.report c.unmade-in_default-play.ensures.rounds
      (c.unmade-in_default-play.ensures.report ∙ c.refused-in_default-play.ensures ∙ ap (λ (x : Setting). opening_picture (outputs_of x.program))
      c.play.ensures.setting);
}

pub returns-in-Ok-lanes_in : goal.returns-in-Ok-lanes_in
returns-in-Ok-lanes_in g c =
    let s : Setting = setting_in g.C.Instructions.program g.C.Instructions.width c.args.setup.shape in
    let now : Setting = setting_in g.C.Instructions.program g.C.Instructions.width c.play.new.setup.shape in
    record {
      unlisted = end_unlisted {C = g.row.C.Denot} {A = g.row.A.Denot} {L = g.row.L.Denot} c.args.way.take s now c.play.ensures.setting g.L.Log.KEEPS_EVENTS
          g.G.Gate.may_stop c.in-Ok-play.played.rounds c.in-Ok.turners.items c.play.new.turners.items c.args.setup.log.events.items
          c.play.new.setup.log.events.items c.in-Ok-play.played.halt c.in-Ok-play.ensures.rounds (map held_of c.lanes_in.new.lanes.items)
          c.in-Ok-lanes_in.ensures c.report.result c.report.ensures.unlisted;
      shows = end_shows {C = g.row.C.Denot} {A = g.row.A.Denot} {L = g.row.L.Denot} c.args.way.take s now c.play.ensures.setting g.L.Log.KEEPS_EVENTS
          g.G.Gate.may_stop c.in-Ok-play.played.rounds c.in-Ok.turners.items c.play.new.turners.items c.args.setup.log.events.items
          c.play.new.setup.log.events.items c.in-Ok-play.played.halt c.in-Ok-play.ensures.rounds (map held_of c.lanes_in.new.lanes.items)
          c.in-Ok-lanes_in.ensures (map held_of c.args.lanes.items) c.in-Ok.ensures.lanes c.report.result c.report.ensures.shows c.report.ensures.stopped;
      truth = end_reports {C = g.row.C.Denot} {A = g.row.A.Denot} {L = g.row.L.Denot} c.args.way.take s now c.play.ensures.setting g.L.Log.KEEPS_EVENTS
          g.G.Gate.may_stop c.in-Ok-play.played.rounds c.in-Ok.turners.items c.play.new.turners.items c.args.setup.log.events.items
          c.play.new.setup.log.events.items c.in-Ok-play.played.halt c.in-Ok-play.ensures.rounds (map held_of c.lanes_in.new.lanes.items)
          c.in-Ok-lanes_in.ensures (map held_of c.args.lanes.items) c.in-Ok.ensures.lanes c.report.result c.report.ensures.reported;
    }

pub returns : goal.returns
returns g c = record {
  unlisted = λ off none. ap (λ (r : Report). r.events) (c.unmade-in-Err.ensures.report ∙ c.refused-in-Err.ensures
      ∙ ap (λ (x : Setting). opening_picture (outputs_of x.program)) c.play.ensures.setting);
  shows = λ inputs evs began.
      let s : Setting = setting_in g.C.Instructions.program g.C.Instructions.width c.args.setup.shape in
      refused_shows (arriving s (map held_of c.args.lanes.items) []) inputs g.L.Log.KEEPS_EVENTS g.G.Gate.may_stop c.args.setup.log.events.items evs
      c.unmade-in-Err.result.report c.requires.sound (c.unmade-in-Err.ensures.report ∙ c.refused-in-Err.ensures
      ∙ ap (λ (x : Setting). opening_picture (outputs_of x.program)) c.play.ensures.setting);
  truth = reports_opening c.args.way.take g.L.Log.KEEPS_EVENTS g.G.Gate.may_stop (so_far_of g.C.Instructions.program g.C.Instructions.width c.args.setup
      c.args.lanes.items) c.unmade-in-Err.result.rounds c.unmade-in-Err.result.report c.unmade-in-Err.ensures.rounds (c.unmade-in-Err.ensures.report
      ∙ c.refused-in-Err.ensures ∙ ap (λ (x : Setting). opening_picture (outputs_of x.program)) c.play.ensures.setting);
}

pub report-requires-clause-sound : goal.report-requires-clause-sound
report-requires-clause-sound g c =
    let s : Setting = setting_in g.C.Instructions.program g.C.Instructions.width c.args.setup.shape in
    let now : Setting = setting_in g.C.Instructions.program g.C.Instructions.width c.play.new.setup.shape in
    end_sound {C = g.row.C.Denot} {A = g.row.A.Denot} {L = g.row.L.Denot} c.args.way.take s now c.play.ensures.setting g.L.Log.KEEPS_EVENTS g.G.Gate.may_stop
    c.in-Ok-play.played.rounds c.in-Ok.turners.items c.play.new.turners.items c.args.setup.log.events.items c.play.new.setup.log.events.items
    c.in-Ok-play.played.halt c.in-Ok-play.ensures.rounds (map held_of c.lanes_in.new.lanes.items) c.in-Ok-lanes_in.ensures

pub report-requires-clause-cell : goal.report-requires-clause-cell
report-requires-clause-cell g c =
    let s : Setting = setting_in g.C.Instructions.program g.C.Instructions.width c.args.setup.shape in
    let now : Setting = setting_in g.C.Instructions.program g.C.Instructions.width c.play.new.setup.shape in
    end_cell {C = g.row.C.Denot} {A = g.row.A.Denot} {L = g.row.L.Denot} c.args.way.take s now c.play.ensures.setting g.L.Log.KEEPS_EVENTS g.G.Gate.may_stop
    c.in-Ok-play.played.rounds c.in-Ok.turners.items c.play.new.turners.items c.args.setup.log.events.items c.play.new.setup.log.events.items
    c.in-Ok-play.played.halt c.in-Ok-play.ensures.rounds (map held_of c.lanes_in.new.lanes.items) c.in-Ok-lanes_in.ensures
