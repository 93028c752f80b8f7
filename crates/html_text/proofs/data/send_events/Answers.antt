use Rattle.std.proofs.Common.{◌≡◌, ◌+◌, ℕ, drop, Some, refl, sym, ap, ◌∙◌, arith}
use Rattle.std.specs.Prelude.{slice_get}
use Rattle.std.proofs.lemmas.Result.{err_from_is_err_and}
use Rattle.std.proofs.lemmas.Option.{slice_get_read, slice_get-get_or, slice_get_past}
use Rattle.trace_text.specs.TraceText.{paired}
use Rattle.html_text.specs.DataText.{event_text}
use Rattle.sink.proofs.Sent.{sends_from, sends_other, sends_same}
use Rattle.trace_text.proofs.Pairs.{less_left, stopped, none_left, next_pair, no_event, no_moment}
use Rattle.html_text.proofs.data.send_events.Goals as goal

pub returns-in_default : goal.returns-in_default
returns-in_default g c =
    let l = c.loop-place in
    let found = c.in_default.ensures.lookup in
    none_left _ tt _ _ (paired (event_text c.args.first) 0 c.args.events.now c.args.entries.now)
    (paired (event_text c.args.first) (0 + l.place) (drop l.place c.args.events.now) (drop l.place c.args.entries.now)) refl
    (no_moment (event_text c.args.first) (0 + l.place) l.place (drop l.place c.args.events.now) c.args.entries.now
    (slice_get_past c.args.entries.now l.place found.3)) l.invariant

pub returns-in_err-send_event : goal.returns-in_err-send_event
returns-in_err-send_event g c =
    let p = err_from_is_err_and c.from_residual.result c.from_residual.ensures.1 in
    let l = c.loop-place in
    let event = c.index-events-place.result in
    let entry = c.in-Some.entry.now in
    let found = c.in-Some.ensures.lookup in
    let e : slice_get c.args.events.now l.place ≡ Some event = slice_get_read c.args.events.now _ l.place event refl c.loop-place-test.true
    c.index-events-place.is in
    let f : slice_get c.args.entries.now l.place ≡ Some entry = slice_get-get_or c.args.entries.now l.place entry found.3.0 ∙ ap (λ n. Some n) (sym found.1) in
    let number : l.place ≡ 0 + l.place = omega arith in
    rw p.1 (stopped p.0 _ _ _ (paired (event_text c.args.first) 0 c.args.events.now c.args.entries.now)
    (paired (event_text c.args.first) (0 + l.place) (drop l.place c.args.events.now) (drop l.place c.args.entries.now))
    (event_text c.args.first (0 + l.place) event entry) (paired (event_text c.args.first) (0 + (l.place + 1)) (drop (l.place + 1) c.args.events.now) (drop
    (l.place + 1) c.args.entries.now))
    (next_pair (event_text c.args.first) 0 l.place c.args.events.now c.args.entries.now event entry e f) l.invariant
    (sends_same _ _ _ (event_text c.args.first l.place event entry) (event_text c.args.first (0 + l.place) event entry) (ap (λ (k : ℕ). event_text c.args.first k event entry) number)
    (sends_other c.in_err-send_event.field-0.0 p.0 _ _ (event_text c.args.first l.place event entry) c.in_err-send_event.ensures)))

pub loop-place-preserved : goal.loop-place-preserved
loop-place-preserved g c =
    let l = c.loop-place in
    let event = c.index-events-place.result in
    let entry = c.in-Some.entry.now in
    let found = c.in-Some.ensures.lookup in
    let e : slice_get c.args.events.now l.place ≡ Some event = slice_get_read c.args.events.now _ l.place event refl c.loop-place-test.true
    c.index-events-place.is in
    let f : slice_get c.args.entries.now l.place ≡ Some entry = slice_get-get_or c.args.entries.now l.place entry found.3.0 ∙ ap (λ n. Some n) (sym found.1) in
    let number : l.place ≡ 0 + l.place = omega arith in
    less_left _ _ _ (paired (event_text c.args.first) 0 c.args.events.now c.args.entries.now)
    (paired (event_text c.args.first) (0 + l.place) (drop l.place c.args.events.now) (drop l.place c.args.entries.now))
    (event_text c.args.first (0 + l.place) event entry) (paired (event_text c.args.first) (0 + (l.place + 1)) (drop (l.place + 1) c.args.events.now) (drop
    (l.place + 1) c.args.entries.now))
    (next_pair (event_text c.args.first) 0 l.place c.args.events.now c.args.entries.now event entry e f) l.invariant
    (sends_from _ _ _ (event_text c.args.first (0 + l.place) event entry) c.in_ok-send_event.was (sends_same c.send_event.result _ _ (event_text c.args.first l.place event entry) (event_text c.args.first (0 + l.place) event entry) (ap
    (λ (k : ℕ). event_text c.args.first k event entry) number) c.send_event.ensures))

pub returns : goal.returns
returns g c =
    let l = c.loop-place in
    none_left _ tt _ _ (paired (event_text c.args.first) 0 c.args.events.now c.args.entries.now)
    (paired (event_text c.args.first) (0 + l.place) (drop l.place c.args.events.now) (drop l.place c.args.entries.now)) refl
    (no_event (event_text c.args.first) (0 + l.place) l.place c.args.events.now (drop l.place c.args.entries.now) c.loop-place-test.false) l.invariant
