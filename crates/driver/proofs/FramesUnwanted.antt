-- With a frame for main and for each invocation that one run of the meaning calls for, no run wants a frame.
use Rattle.std.proofs.Common.{◌∙◌, ap, false, length, arith}
use Rattle.semantics.specs.Graph.{flow_of}
use Rattle.semantics.specs.Faithful.{IsRun}
use Rattle.schedule.specs.Unlisted.{with_events}
use Rattle.driver.specs.declared.order.Order.{Order}
use Rattle.law_completion.proofs.FramesOut.{frames_suffice}
use Rattle.driver.specs.Needs.{FramesAreNotWanted, FramesAreNotWantedInModes, FramesAreNotWantedQuietly}
use Rattle.driver.specs.Orders.{size_of}
use Rattle.driver.proofs.Needed.{calls_needed, some_elements, some_frames}

pub frames_are_not_wanted : FramesAreNotWanted
frames_are_not_wanted text g inputs z limit by_list may_stop r h activities called iterations calls room =
    let shows = h.shows in
    let needs = calls_needed g inputs h.well_formed h.inputs_fit activities called iterations calls in
    let is_run : IsRun (flow_of g) h.code.program inputs z r.events shows.last = record {
      inputs_fit = h.inputs_fit;
      some_element = some_elements z.elements z.frames called room;
      some_frame = some_frames z.elements z.frames called room;
      run = shows.run;
    } in
    let cause = h.truth.faithful.cause inputs z r.events shows.last is_run in
    let few = cause.enough in
    let most = needs.calls.invocations cause.run cause.state cause.is_run cause.due cause.are_due in
    shows.picture.waiting_frames ∙ ap length (frames_suffice h.code.program z inputs r.events shows.last shows.run (omega (arith, few, most, room)))

pub frames_are_not_wanted_in_modes : FramesAreNotWantedInModes
frames_are_not_wanted_in_modes (Order.InTurn take) text g inputs c may_stop r h = frames_are_not_wanted text g inputs (size_of c) c.steps false false r h.0
frames_are_not_wanted_in_modes (Order.InRounds take) text g inputs c may_stop r h = frames_are_not_wanted text g inputs (size_of c) c.steps false may_stop r h
frames_are_not_wanted_in_modes (Order.Free take) text g inputs c may_stop r h = frames_are_not_wanted text g inputs (size_of c) c.steps false may_stop r h

-- the events of a report have no part in it
pub frames_are_not_wanted_quietly : FramesAreNotWantedQuietly
frames_are_not_wanted_quietly order text g inputs c may_stop r h =
    frames_are_not_wanted_in_modes order text g inputs c may_stop (with_events r h.2.1) h.2.2
