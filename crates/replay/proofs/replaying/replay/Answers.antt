use Rattle.std.proofs.Common.{◌∙◌, sym, ap, Err}
use Rattle.std.proofs.lemmas.Result.{err_from_is_err_and}
use Rattle.semantics.specs.Machine.{at_start}
use Rattle.replay.proofs.Watching.{next_event, watch_next, watch_all, passed_on}
use Rattle.replay.proofs.replaying.replay.Goals as goal

pub returns-in_err-moment : goal.returns-in_err-moment
returns-in_err-moment g c z xs last frames count run =
    let p = g.C.Instructions.program c.args.code.now in
    let ev = c.event-item.result in
    let here = c.loop-event.invariant.so_far z xs last frames count run in
    let next = next_event p z here.0 last c.args.events.now c.loop-event.event-index ev c.loop-event-test.true c.event-item.is here.3 in
    let from = err_from_is_err_and c.from_residual-in_err-moment.result c.from_residual-in_err-moment.ensures.1 in
    passed_on _ _ c.in_err-moment.field-0.0 c.from_residual-in_err-moment.result (from.1 ∙ ap Err from.2)
    (c.in_err-moment.ensures.moves z ev.0 here.0 next.0 (frames ∙ sym c.loop-event.invariant.frames) here.2 next.1)

pub loop-event-preserved : goal.loop-event-preserved
loop-event-preserved g c = record {
  frames = c.in_ok-moment.ensures.frames ∙ c.loop-event.invariant.frames;
  so_far = λ z xs last frames count run.
      let p = g.C.Instructions.program c.args.code.now in
      let ev = c.event-item.result in
      let here = c.loop-event.invariant.so_far z xs last frames count run in
      let next = next_event p z here.0 last c.args.events.now c.loop-event.event-index ev c.loop-event-test.true c.event-item.is here.3 in
      let moment = c.in_ok-moment.ensures.moves z ev.0 here.0 next.0 (frames ∙ sym c.loop-event.invariant.frames) here.2 next.1 in (
        next.0,
        watch_next p z
            (at_start p xs) here.0 next.0 c.args.events.now c.loop-event.event-index ev c.loop-event.moments.items c.push.new.self.items c.in_ok-moment.moment
            c.loop-event-test.true c.event-item.is c.in_ok-push.ensures.items here.1 next.1 moment.0,
        moment.1,
        next.2,
      );
}

pub returns : goal.returns
returns g c z xs last frames count run =
    let p = g.C.Instructions.program c.args.code.now in
    let here = c.loop-event.invariant.so_far z xs last frames count run in
    watch_all p z (at_start p xs) here.0 last c.args.events.now c.loop-event.event-index c.loop-event.moments.items c.loop-event-test.false here.1 here.3
