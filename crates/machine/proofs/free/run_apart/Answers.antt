use Rattle.std.proofs.Common.{◌≡◌, sym, ◌∙◌, ap, subst, [], List, length, map, arith}
use Rattle.std.proofs.lemmas.List.{length-map}
use Rattle.tags.specs.declared.token.Token.{Token}
use Rattle.semantics.specs.Machine.{outputs_of}
use Rattle.semantics.specs.Report.{Report}
use Rattle.crossbeam_utils.specs.declared.cache_padded.CachePadded.{CachePadded}
use Rattle.element.specs.Holding.{Holding, held_of, fixed_of, queued}
use Rattle.schedule.specs.State.{setting_in}
use Rattle.schedule.specs.Setting.{Setting}
use Rattle.schedule.specs.State.{IsSoundState, tokens_in}
use Rattle.schedule.specs.Runs.{Began, NamesCell}
use Rattle.schedule.specs.Reported.{opening_picture}
use Rattle.mesh.specs.Seats.{SeatView, AreAll}
use Rattle.rounds.specs.Turns.{arriving}
use Rattle.rounds.proofs.Closing.{refused_shows}
use Rattle.ordering.specs.declared.log.BlockLog.{BlockLog}
use Rattle.machine.specs.declared.runner.Runner.{Runner}
use Rattle.machine.specs.Bundles.{bounds_within}
use Rattle.machine.specs.Starts.{departures_in, logs_in, notes_of, IsHaltOf, Lists}
use Rattle.machine.proofs.Freed.{AreReady, are_ready, all_run, all_seats, sound_last, cell, shows_last, ends_last}
use Rattle.machine.proofs.free.run_apart.Goals as goal

pub make_ready-requires-clause-count : goal.make_ready-requires-clause-count
make_ready-requires-clause-count g c =
    let s : Setting = setting_in g.C.Instructions.program g.C.Instructions.width c.args.setup.shape in
    let raw : List Holding = map held_of c.args.lanes.items in
    sym (length-map c.args.lanes.items held_of) ∙ sym (length-map raw (λ (h : Holding). queued h [])) ∙ c.requires.sound.count

pub returns-in_default-clause-shows : goal.returns-in_default-clause-shows
returns-in_default-clause-shows g c = λ inputs evs began.
    let s : Setting = setting_in g.C.Instructions.program g.C.Instructions.width c.args.setup.shape in
    let raw : List Holding = map held_of c.args.lanes.items in
    refused_shows (arriving s raw []) inputs g.L.Log.KEEPS_EVENTS g.G.Gate.may_stop c.args.setup.log.events.items evs c.refused.result
    c.requires.sound (c.refused.ensures)

pub returns-in_default-why-clause-shows : goal.returns-in_default-why-clause-shows
returns-in_default-why-clause-shows g c = λ inputs evs began.
    let s : Setting = setting_in g.C.Instructions.program g.C.Instructions.width c.args.setup.shape in
    let raw : List Holding = map held_of c.args.lanes.items in
    refused_shows (arriving s raw []) inputs g.L.Log.KEEPS_EVENTS g.G.Gate.may_stop c.args.setup.log.events.items evs c.refused-in_default-why.result
    c.requires.sound (c.refused-in_default-why.ensures)

pub returns-in_default-parts_in-clause-shows : goal.returns-in_default-parts_in-clause-shows
returns-in_default-parts_in-clause-shows g c = λ inputs evs began.
    let s : Setting = setting_in g.C.Instructions.program g.C.Instructions.width c.args.setup.shape in
    let raw : List Holding = map held_of c.args.lanes.items in
    refused_shows (arriving s raw []) inputs g.L.Log.KEEPS_EVENTS g.G.Gate.may_stop c.args.setup.log.events.items evs
    c.refused-in_default-parts_in.result c.requires.sound (c.refused-in_default-parts_in.ensures)

pub returns-clause-shows : goal.returns-clause-shows
returns-clause-shows g c = λ inputs evs began.
    let s : Setting = setting_in g.C.Instructions.program g.C.Instructions.width c.args.setup.shape in
    let raw : List Holding = map held_of c.args.lanes.items in
    refused_shows (arriving s raw []) inputs g.L.Log.KEEPS_EVENTS g.G.Gate.may_stop c.args.setup.log.events.items evs c.refused-in-Err.result
    c.requires.sound (c.refused-in-Err.ensures ∙ ap (λ (x : Setting). opening_picture (outputs_of x.program)) c.list_events.ensures.setting)

pub run_all-requires-clause-ready : goal.run_all-requires-clause-ready
run_all-requires-clause-ready g c = λ κs within.
    let s : Setting = setting_in g.C.Instructions.program g.C.Instructions.width c.args.setup.shape in
    let raw : List Holding = map held_of c.args.lanes.items in
    let on = g.L.Log.KEEPS_EVENTS in
    let mesh = c.in-Ok.ready.mesh in
    let olds = c.in-Ok.ready.runners.items in
    let e = c.in-Ok.ensures in
    let ready : AreReady s mesh olds = are_ready {C = g.row.C.Denot} {A = g.row.A.Denot} {L = g.row.L.Denot} s mesh olds raw
    (map fixed_of c.args.lanes.items) c.requires.sound c.requires.runs e.fixed e.mesh e.lanes e.seats (bounds_within c.of-reach.result) c.of-reach.ensures e.new in
    all_run {C = g.row.C.Denot} {A = g.row.A.Denot} {L = g.row.L.Denot} s mesh on olds ready

pub join_seats-joined-requires : goal.join_seats-joined-requires
join_seats-joined-requires g c =
    let s : Setting = setting_in g.C.Instructions.program g.C.Instructions.width c.args.setup.shape in
    let raw : List Holding = map held_of c.args.lanes.items in
    let on = g.L.Log.KEEPS_EVENTS in
    let mesh = c.in-Ok.ready.mesh in
    let olds = c.in-Ok.ready.runners.items in
    let e = c.in-Ok.ensures in
    let ready : AreReady s mesh olds = are_ready {C = g.row.C.Denot} {A = g.row.A.Denot} {L = g.row.L.Denot} s mesh olds raw
    (map fixed_of c.args.lanes.items) c.requires.sound c.requires.runs e.fixed e.mesh e.lanes e.seats (bounds_within c.of-reach.result) c.of-reach.ensures e.new in
    let news = c.run_all.new.runners.items in
    let truth : IsHaltOf (departures_in news) c.in-Some.halt = subst (λ (l : List (CachePadded (Runner g.row.C.Denot g.row.A.Denot g.row.L.Denot))).
    IsHaltOf (departures_in l) c.in-Some.halt) c.deref.ensures.value c.in-Some.ensures in
    let may = g.G.Gate.may_stop in
    let each = c.run_all.ensures.each in
    let count = c.run_all.ensures.count in
    subst (λ (l : List SeatView). AreAll mesh l) (sym c.in-Ok-parts_in.ensures.seats) (all_seats {C = g.row.C.Denot} {A = g.row.A.Denot}
    {L = g.row.L.Denot} s mesh on olds ready c.args.take may news each count truth.0)

pub report-requires-clause-sound : goal.report-requires-clause-sound
report-requires-clause-sound g c =
    let s : Setting = setting_in g.C.Instructions.program g.C.Instructions.width c.args.setup.shape in
    let raw : List Holding = map held_of c.args.lanes.items in
    let on = g.L.Log.KEEPS_EVENTS in
    let mesh = c.in-Ok.ready.mesh in
    let olds = c.in-Ok.ready.runners.items in
    let e = c.in-Ok.ensures in
    let ready : AreReady s mesh olds = are_ready {C = g.row.C.Denot} {A = g.row.A.Denot} {L = g.row.L.Denot} s mesh olds raw
    (map fixed_of c.args.lanes.items) c.requires.sound c.requires.runs e.fixed e.mesh e.lanes e.seats (bounds_within c.of-reach.result) c.of-reach.ensures e.new in
    let news = c.run_all.new.runners.items in
    let truth : IsHaltOf (departures_in news) c.in-Some.halt = subst (λ (l : List (CachePadded (Runner g.row.C.Denot g.row.A.Denot g.row.L.Denot))).
    IsHaltOf (departures_in l) c.in-Some.halt) c.deref.ensures.value c.in-Some.ensures in
    let may = g.G.Gate.may_stop in
    let each = c.run_all.ensures.each in
    let count = c.run_all.ensures.count in
    let now : Setting = setting_in g.C.Instructions.program g.C.Instructions.width c.list_events.new.setup.shape in
    let setting : now ≡ s = c.list_events.ensures.setting in
    subst (λ (z : Setting). IsSoundState (record { setting = z; lanes = map held_of c.parts_in.new.lanes.items })) (sym setting)
    (subst (λ (l : List Holding). IsSoundState (record { setting = s; lanes = l })) (sym c.in-Ok-parts_in.ensures.lanes)
    (sound_last {C = g.row.C.Denot} {A = g.row.A.Denot} {L = g.row.L.Denot} s mesh on olds ready c.args.take may news each count truth.0))

pub report-requires-clause-cell : goal.report-requires-clause-cell
report-requires-clause-cell g c =
    let s : Setting = setting_in g.C.Instructions.program g.C.Instructions.width c.args.setup.shape in
    let raw : List Holding = map held_of c.args.lanes.items in
    let on = g.L.Log.KEEPS_EVENTS in
    let mesh = c.in-Ok.ready.mesh in
    let olds = c.in-Ok.ready.runners.items in
    let e = c.in-Ok.ensures in
    let ready : AreReady s mesh olds = are_ready {C = g.row.C.Denot} {A = g.row.A.Denot} {L = g.row.L.Denot} s mesh olds raw
    (map fixed_of c.args.lanes.items) c.requires.sound c.requires.runs e.fixed e.mesh e.lanes e.seats (bounds_within c.of-reach.result) c.of-reach.ensures e.new in
    let news = c.run_all.new.runners.items in
    let truth : IsHaltOf (departures_in news) c.in-Some.halt = subst (λ (l : List (CachePadded (Runner g.row.C.Denot g.row.A.Denot g.row.L.Denot))).
    IsHaltOf (departures_in l) c.in-Some.halt) c.deref.ensures.value c.in-Some.ensures in
    let may = g.G.Gate.may_stop in
    let each = c.run_all.ensures.each in
    let count = c.run_all.ensures.count in
    let now : Setting = setting_in g.C.Instructions.program g.C.Instructions.width c.list_events.new.setup.shape in
    let setting : now ≡ s = c.list_events.ensures.setting in
    subst (λ (z : Setting). NamesCell z.program c.in-Some.halt) (sym setting) (cell {C = g.row.C.Denot} {A = g.row.A.Denot} {L = g.row.L.Denot} s mesh
    on olds ready c.args.take may news each count truth.0 c.in-Some.halt truth)

pub returns-in-Ok-list_events-clause-shows : goal.returns-in-Ok-list_events-clause-shows
returns-in-Ok-list_events-clause-shows g c = λ inputs evs began.
    let s : Setting = setting_in g.C.Instructions.program g.C.Instructions.width c.args.setup.shape in
    let raw : List Holding = map held_of c.args.lanes.items in
    let on = g.L.Log.KEEPS_EVENTS in
    let mesh = c.in-Ok.ready.mesh in
    let olds = c.in-Ok.ready.runners.items in
    let e = c.in-Ok.ensures in
    let ready : AreReady s mesh olds = are_ready {C = g.row.C.Denot} {A = g.row.A.Denot} {L = g.row.L.Denot} s mesh olds raw
    (map fixed_of c.args.lanes.items) c.requires.sound c.requires.runs e.fixed e.mesh e.lanes e.seats (bounds_within c.of-reach.result) c.of-reach.ensures e.new in
    let news = c.run_all.new.runners.items in
    let truth : IsHaltOf (departures_in news) c.in-Some.halt = subst (λ (l : List (CachePadded (Runner g.row.C.Denot g.row.A.Denot g.row.L.Denot))).
    IsHaltOf (departures_in l) c.in-Some.halt) c.deref.ensures.value c.in-Some.ensures in
    let may = g.G.Gate.may_stop in
    let each = c.run_all.ensures.each in
    let count = c.run_all.ensures.count in
    let now : Setting = setting_in g.C.Instructions.program g.C.Instructions.width c.list_events.new.setup.shape in
    let setting : now ≡ s = c.list_events.ensures.setting in
    let j = c.join_seats-joined.ensures in
    let parts = c.in-Ok-parts_in.ensures in
    let logs = c.parts_in.new.logs.items in
    let opening = c.in-Ok.ready.tokens.items in
    let kept = c.args.setup.log.events.items in
    let after = c.list_events.new.setup.log.events.items in
    shows_last {C = g.row.C.Denot} {A = g.row.A.Denot} {L = g.row.L.Denot} s mesh on olds ready c.args.take may news each count truth.0 c.join_seats-joined.result
    j.mesh (j.accounts ∙ ap (λ (l : List SeatView). map (λ (x : SeatView). x.own) l) parts.seats) j.history j.commits j.bundles j.no_more
    c.in-Some.halt truth now setting (map held_of c.parts_in.new.lanes.items) parts.lanes logs parts.logs opening (e.tokens
    ∙ ap (λ (l : List Holding). tokens_in l) (sym e.lanes.0)) kept after c.report.result
    (λ yes. subst (λ (l : List (BlockLog g.row.A.Denot)). Lists l opening kept after) c.deref-2.ensures.value
    (subst (λ (l : List Token). Lists c.deref-2.result.now l kept after) c.deref-3.ensures.value (c.in-Ok-list_events.ensures.keeps_events yes)))
    c.report.ensures.shows c.report.ensures.stopped inputs evs (subst (λ (l : List Holding). Began inputs (arriving s l []) evs) (sym e.lanes.0) began)

pub list_events-requires : goal.list_events-requires
list_events-requires g c =
    let news = c.run_all.new.runners.items in
    let logs = c.in-Ok-parts_in.ensures.logs in
    let one : length c.deref-2.result.now ≡ length c.parts_in.new.logs.items = ap (λ (l : List (BlockLog g.row.A.Denot)). length l) c.deref-2.ensures.value in
    let two : length c.parts_in.new.logs.items ≡ length (logs_in {C = g.row.C.Denot} {A = g.row.A.Denot} {L = g.row.L.Denot} news) = ap
    (λ (l : List (BlockLog g.row.A.Denot)). length l) logs in
    let three = length-map news (notes_of {C = g.row.C.Denot} {A = g.row.A.Denot} {L = g.row.L.Denot}) in
    let four = c.run_all.ensures.count in
    let five = c.in-Ok.ensures.lanes.1 in
    let six = c.requires.sound.setting.few in
    record { few = omega (arith, one, two, three, four, five, six) }

pub returns-in-Ok-list_events-clause-unlisted : goal.returns-in-Ok-list_events-clause-unlisted
returns-in-Ok-list_events-clause-unlisted g c = λ off none. c.report.ensures.unlisted (c.list_events.ensures.unlisted off ∙ none)

pub returns-in-Ok-list_events-clause-ends : goal.returns-in-Ok-list_events-clause-ends
returns-in-Ok-list_events-clause-ends g c = λ inputs evs began some.
    let s : Setting = setting_in g.C.Instructions.program g.C.Instructions.width c.args.setup.shape in
    let raw : List Holding = map held_of c.args.lanes.items in
    let on = g.L.Log.KEEPS_EVENTS in
    let mesh = c.in-Ok.ready.mesh in
    let olds = c.in-Ok.ready.runners.items in
    let e = c.in-Ok.ensures in
    let ready : AreReady s mesh olds = are_ready {C = g.row.C.Denot} {A = g.row.A.Denot} {L = g.row.L.Denot} s mesh olds raw
    (map fixed_of c.args.lanes.items) c.requires.sound c.requires.runs e.fixed e.mesh e.lanes e.seats (bounds_within c.of-reach.result) c.of-reach.ensures e.new in
    let news = c.run_all.new.runners.items in
    let truth : IsHaltOf (departures_in news) c.in-Some.halt = subst (λ (l : List (CachePadded (Runner g.row.C.Denot g.row.A.Denot g.row.L.Denot))).
    IsHaltOf (departures_in l) c.in-Some.halt) c.deref.ensures.value c.in-Some.ensures in
    let may = g.G.Gate.may_stop in
    let each = c.run_all.ensures.each in
    let count = c.run_all.ensures.count in
    let now : Setting = setting_in g.C.Instructions.program g.C.Instructions.width c.list_events.new.setup.shape in
    let setting : now ≡ s = c.list_events.ensures.setting in
    let j = c.join_seats-joined.ensures in
    let parts = c.in-Ok-parts_in.ensures in
    let logs = c.parts_in.new.logs.items in
    let opening = c.in-Ok.ready.tokens.items in
    let kept = c.args.setup.log.events.items in
    let after = c.list_events.new.setup.log.events.items in
    ends_last {C = g.row.C.Denot} {A = g.row.A.Denot} {L = g.row.L.Denot} s mesh on olds ready c.args.take may news each count truth.0 c.join_seats-joined.result
    j.mesh (j.accounts ∙ ap (λ (l : List SeatView). map (λ (x : SeatView). x.own) l) parts.seats) j.history j.commits j.bundles j.no_more
    c.in-Some.halt truth now setting (map held_of c.parts_in.new.lanes.items) parts.lanes logs parts.logs opening (e.tokens
    ∙ ap (λ (l : List Holding). tokens_in l) (sym e.lanes.0)) kept after c.report.result
    (λ yes. subst (λ (l : List (BlockLog g.row.A.Denot)). Lists l opening kept after) c.deref-2.ensures.value
    (subst (λ (l : List Token). Lists c.deref-2.result.now l kept after) c.deref-3.ensures.value (c.in-Ok-list_events.ensures.keeps_events yes)))
    c.report.ensures.reported inputs evs (subst (λ (l : List Holding). Began inputs (arriving s l []) evs) (sym e.lanes.0) began) some

pub returns-in_default-clause-ends : goal.returns-in_default-clause-ends
returns-in_default-clause-ends g c = λ inputs evs began some. absurd (some (ap (λ (r : Report). r.end) c.refused.ensures))

pub returns-in_default-why-clause-ends : goal.returns-in_default-why-clause-ends
returns-in_default-why-clause-ends g c = λ inputs evs began some. absurd (some (ap (λ (r : Report). r.end) c.refused-in_default-why.ensures))

pub returns-in_default-parts_in-clause-ends : goal.returns-in_default-parts_in-clause-ends
returns-in_default-parts_in-clause-ends g c = λ inputs evs began some. absurd (some (ap (λ (r : Report). r.end) c.refused-in_default-parts_in.ensures))

pub returns-clause-ends : goal.returns-clause-ends
returns-clause-ends g c = λ inputs evs began some. absurd (some (ap (λ (r : Report). r.end) c.refused-in-Err.ensures))
