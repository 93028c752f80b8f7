use Rattle.std.proofs.Common.{refl, sym, subst, List, map}
use Rattle.element.specs.Holding.{Holding, held_of}
use Rattle.schedule.specs.State.{State, IsSoundState}
use Rattle.schedule.specs.State.{setting_in}
use Rattle.schedule.specs.Reported.{ReportsLanes}
use Rattle.schedule.specs.declared.halt.Halt.{Halt}
use Rattle.schedule.proofs.Memory.{none_arriving}
use Rattle.schedule.proofs.Reports.{reported_lanes, shows_lanes, stopped_lanes, unlisted_lanes}
use Rattle.schedule.proofs.setup.Setup.report.Goals as goal

pub report_of-requires-clause-sound : goal.report_of-requires-clause-sound
report_of-requires-clause-sound g c =
    let z = setting_in g.C.Instructions.program g.C.Instructions.width c.args.self.shape in
    subst (λ (l : List Holding). let s : State = record { setting = z; lanes = l } in IsSoundState s)
    (sym (none_arriving c.args.lanes.items c.clear.new.self.items 0 c.clear.ensures.items refl)) c.requires.sound

pub returns-clause-reported : goal.returns-clause-reported
returns-clause-reported g c =
    reported_lanes (setting_in g.C.Instructions.program g.C.Instructions.width c.args.self.shape) (map held_of c.args.lanes.items)
    c.args.self.log.events.items c.args.halt c.report_of.result c.report_of.ensures

pub returns-clause-shows : goal.returns-clause-shows
returns-clause-shows g c = λ inputs by_list arriving evs sound began halts.
    shows_lanes (setting_in g.C.Instructions.program g.C.Instructions.width c.args.self.shape) (map held_of c.args.lanes.items) arriving
    c.args.self.log.events.items c.args.halt c.report_of.result sound c.report_of.ensures inputs by_list evs began halts

pub returns-clause-stopped : goal.returns-clause-stopped
returns-clause-stopped g c = λ stop inputs by_list arriving evs sound began.
    let z = setting_in g.C.Instructions.program g.C.Instructions.width c.args.self.shape in
    let lanes = map held_of c.args.lanes.items in
    stopped_lanes z lanes arriving c.args.self.log.events.items c.report_of.result sound
    (subst (λ (h : Halt). ReportsLanes z lanes c.args.self.log.events.items h c.report_of.result) stop c.report_of.ensures) inputs by_list evs began

pub returns-clause-unlisted : goal.returns-clause-unlisted
returns-clause-unlisted g c = λ none.
    unlisted_lanes (setting_in g.C.Instructions.program g.C.Instructions.width c.args.self.shape) (map held_of c.args.lanes.items)
    c.args.self.log.events.items c.args.halt c.report_of.result c.report_of.ensures none
