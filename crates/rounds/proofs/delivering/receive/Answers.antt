use Rattle.std.proofs.Common.{◌≡◌, ◌∙◌, sym, ap, subst, ℕ, ◌<◌, ◌∷◌, [], length, arith}
use Rattle.std.specs.Prelude.{slice_set}
use Rattle.std.proofs.lemmas.List.{get_or-map, length-map}
use Rattle.std.proofs.lemmas.List.Elements.{All-get_or}
use Rattle.tags.specs.Addresses.{element_of}
use Rattle.tags.proofs.Elements.{element_below}
use Rattle.element.specs.Near.{IsNearToken}
use Rattle.element.specs.Holding.{LaneView, Fixed, held_of, fixed_of, bounds_at, with_more}
use Rattle.schedule.specs.State.{IsAt, delivered}
use Rattle.schedule.proofs.Places.{first_get}
use Rattle.schedule.proofs.Memory.{ok_then, err_then, ok_or_err}
use Rattle.rounds.specs.Rounds.{lane_held, lanes_held, lane_fixed, lanes_fixed, halt_in}
use Rattle.rounds.proofs.Changes.{map_kept, flat_kept}
use Rattle.rounds.proofs.Rounding.{held_at, received}
use Rattle.rounds.proofs.delivering.receive.Goals as goal

pub receive_one-requires : goal.receive_one-requires
receive_one-requires g c =
    let ts = c.args.turners.now.items in
    let x = c.index_mut-turner.result.now in
    let n = c.args.elements in
    let t = c.args.token in
    let i = c.element_of_packed-element.result in
    let below = element_below n t.to c.requires.some in
    let e = c.element_of_packed-element.ensures in
    let count = c.requires.count in
    let low : i < length ts = omega arith in
    let fixed_count = length-map ts lane_fixed in
    let within : i < length (lanes_fixed ts) = omega arith in
    let at = first_get (IsAt n) (lanes_held ts) i (lane_held x) c.requires.at (held_at ts i x low c.index_mut-turner.ensures.value) in
    let same = get_or-map lane_fixed ts i x (lane_fixed x) low ∙ ap (λ y. lane_fixed y) (sym c.index_mut-turner.ensures.value) in
    record {
      near = subst (λ (f : Fixed). IsNearToken (bounds_at f) t) same (All-get_or (λ (f : Fixed). IsNearToken (bounds_at f) t) (lanes_fixed ts) i
          (lane_fixed x) within c.requires.near);
      addressed = ap (λ (m : ℕ). element_of m t.to) at.1 ∙ sym e ∙ sym at.0;
    }

pub returns-clause-ok : goal.returns-clause-ok
returns-clause-ok g c =
    let ts = c.args.turners.now.items in
    let x = c.index_mut-turner.result.now in
    let n = c.args.elements in
    let t = c.args.token in
    let below = element_below n t.to c.requires.some in
    let e = c.element_of_packed-element.ensures in
    let count = c.requires.count in
    let low : c.element_of_packed-element.result < length ts = omega arith in
    let at : element_of n t.to ≡ c.element_of_packed-element.result = omega arith in
    ok_then c.receive_one.result (c.receive_one.new.turner.lane ≡ with_more x.lane (t ∷ []))
    (lanes_held (slice_set ts c.element_of_packed-element.result c.receive_one.new.turner) ≡ delivered (t ∷ []) (lanes_held ts))
    (λ got. received ts n c.element_of_packed-element.result x c.receive_one.new.turner t c.requires.at at low c.index_mut-turner.ensures.value
    (ap (λ (l : LaneView). held_of l) got)) c.receive_one.ensures.ok

pub returns-clause-err : goal.returns-clause-err
returns-clause-err g c =
    let ts = c.args.turners.now.items in
    let x = c.index_mut-turner.result.now in
    let n = c.args.elements in
    let below = element_below n c.args.token.to c.requires.some in
    let e = c.element_of_packed-element.ensures in
    let count = c.requires.count in
    let low : c.element_of_packed-element.result < length ts = omega arith in
    err_then c.receive_one.result (c.receive_one.new.turner.lane ≡ x.lane)
    (lanes_held (slice_set ts c.element_of_packed-element.result c.receive_one.new.turner) ≡ lanes_held ts)
    (λ same. map_kept (λ t. lane_held t) ts c.element_of_packed-element.result x c.receive_one.new.turner low (ap (λ (l : LaneView). held_of l) same
    ∙ ap (λ t. lane_held t) c.index_mut-turner.ensures.value)) c.receive_one.ensures.err

pub returns-clause-fixed : goal.returns-clause-fixed
returns-clause-fixed g c =
    let ts = c.args.turners.now.items in
    let x = c.index_mut-turner.result.now in
    let y = c.receive_one.new.turner in
    let n = c.args.elements in
    let below = element_below n c.args.token.to c.requires.some in
    let e = c.element_of_packed-element.ensures in
    let count = c.requires.count in
    let low : c.element_of_packed-element.result < length ts = omega arith in
    let fixed : fixed_of y.lane ≡ fixed_of x.lane
    = ok_or_err c.receive_one.result (y.lane ≡ with_more x.lane (c.args.token ∷ [])) (y.lane ≡ x.lane) (fixed_of y.lane ≡ fixed_of x.lane)
    (λ got. ap (λ (l : LaneView). fixed_of l) got) (λ same. ap (λ (l : LaneView). fixed_of l) same) c.receive_one.ensures.ok c.receive_one.ensures.err in
    map_kept (λ t. lane_fixed t) ts c.element_of_packed-element.result x y low (fixed ∙ ap (λ t. lane_fixed t) c.index_mut-turner.ensures.value)

pub returns-clause-sent : goal.returns-clause-sent
returns-clause-sent g c =
    let ts = c.args.turners.now.items in
    let x = c.index_mut-turner.result.now in
    let below = element_below c.args.elements c.args.token.to c.requires.some in
    let e = c.element_of_packed-element.ensures in
    let count = c.requires.count in
    let low : c.element_of_packed-element.result < length ts = omega arith in
    flat_kept (λ t. t.sent.items) ts c.element_of_packed-element.result x c.receive_one.new.turner low (c.receive_one.ensures.sent
    ∙ ap (λ t. t.sent.items) c.index_mut-turner.ensures.value)

pub returns-clause-events : goal.returns-clause-events
returns-clause-events g c =
    let ts = c.args.turners.now.items in
    let x = c.index_mut-turner.result.now in
    let below = element_below c.args.elements c.args.token.to c.requires.some in
    let e = c.element_of_packed-element.ensures in
    let count = c.requires.count in
    let low : c.element_of_packed-element.result < length ts = omega arith in
    flat_kept (λ t. t.log.events.items) ts c.element_of_packed-element.result x c.receive_one.new.turner low (c.receive_one.ensures.events
    ∙ ap (λ t. t.log.events.items) c.index_mut-turner.ensures.value)

pub returns-clause-halts : goal.returns-clause-halts
returns-clause-halts g c =
    let ts = c.args.turners.now.items in
    let x = c.index_mut-turner.result.now in
    let below = element_below c.args.elements c.args.token.to c.requires.some in
    let e = c.element_of_packed-element.ensures in
    let count = c.requires.count in
    let low : c.element_of_packed-element.result < length ts = omega arith in
    map_kept (λ t. halt_in t) ts c.element_of_packed-element.result x c.receive_one.new.turner low (c.receive_one.ensures.halt
    ∙ ap (λ t. halt_in t) c.index_mut-turner.ensures.value)
