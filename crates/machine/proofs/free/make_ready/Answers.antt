use Rattle.std.proofs.Common.{sym, ◌∙◌, ap, subst, List, length, map}
use Rattle.std.proofs.lemmas.List.{length-map}
use Rattle.element.specs.Holding.{LaneView, Holding, held_of}
use Rattle.schedule.specs.State.{tokens_in}
use Rattle.mesh.specs.Seats.{SeatView, AreFresh}
use Rattle.machine.specs.Starts.{lane_in}
use Rattle.machine.proofs.free.make_ready.Goals as goal

pub returns-clause-mesh : goal.returns-clause-mesh
returns-clause-mesh g c =
    let new = c.in-Ok.ensures in (
      new.0,
      new.1 ∙ c.deref-2.ensures.value ∙ c.in_ok-tokens.ensures ∙ ap (λ (l : List LaneView). tokens_in (map held_of l)) c.deref.ensures.value,
    )

pub returns-clause-lanes : goal.returns-clause-lanes
returns-clause-lanes g c =
    let is = c.in_ok-runners.ensures.lanes in (
      is,
      sym (length-map c.in_ok-runners.runners.items (lane_in {C = g.row.C.Denot} {A = g.row.A.Denot} {L = g.row.L.Denot}))
          ∙ ap (λ (l : List Holding). length l) is ∙ length-map c.args.lanes.items held_of ∙ c.requires.count,
    )

pub returns-clause-seats : goal.returns-clause-seats
returns-clause-seats g c = subst (λ (l : List SeatView). AreFresh c.in-Ok.mesh l) (sym c.in_ok-runners.ensures.seats) c.in-Ok.ensures.3

pub returns-clause-room : goal.returns-clause-room
returns-clause-room g c = (c.in_ok-spare.ensures.items, c.in_ok-back.ensures.items, c.in_ok-logs.ensures.items)

pub returns-clause-tokens : goal.returns-clause-tokens
returns-clause-tokens g c = c.in_ok-tokens.ensures ∙ ap (λ (l : List LaneView). tokens_in (map held_of l)) c.deref.ensures.value

pub returns-clause-fixed : goal.returns-clause-fixed
returns-clause-fixed g c = c.in_ok-runners.ensures.fixed
