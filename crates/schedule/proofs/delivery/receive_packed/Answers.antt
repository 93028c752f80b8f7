use Rattle.std.proofs.Common.{◌≡◌, sym, ◌∙◌, ap, ℕ, ◌<◌, ◌∷◌, [], length, map, arith}
use Rattle.std.specs.Prelude.{slice_set}
use Rattle.tags.specs.Addresses.{element_of}
use Rattle.tags.proofs.Elements.{element_below}
use Rattle.element.specs.Near.{IsNearToken}
use Rattle.element.specs.Holding.{LaneView, Fixed, held_of, fixed_of, bounds_at, with_more}
use Rattle.schedule.specs.State.{IsAt, delivered}
use Rattle.schedule.proofs.Places.{first_get}
use Rattle.schedule.proofs.Staying.{runs_at, fixed_set}
use Rattle.schedule.proofs.Memory.{ok_then, err_then, ok_or_err, held_at, received, unreceived}
use Rattle.schedule.proofs.delivery.receive_packed.Goals as goal

pub returns-clause-ok : goal.returns-clause-ok
returns-clause-ok g c =
    let items = c.args.lanes.now.items in
    let x = c.index_mut-lane.result.now in
    let n = c.args.elements in
    let t = c.args.token in
    let below = element_below n t.to c.requires.some in
    let e = c.element_of_packed-element.ensures in
    let count = c.requires.count in
    let low : c.element_of_packed-element.result < length items = omega arith in
    let at : element_of n t.to ≡ c.element_of_packed-element.result = omega arith in
    ok_then c.receive.result (c.receive.new.self ≡ with_more x (t ∷ []))
    (map held_of (slice_set items c.element_of_packed-element.result c.receive.new.self) ≡ delivered (t ∷ []) (map held_of items))
    (λ got. received items n c.element_of_packed-element.result x c.receive.new.self t c.requires.at at low c.index_mut-lane.ensures.value
    (ap (λ (l : LaneView). held_of l) got)) c.receive.ensures.ok

pub returns-clause-err : goal.returns-clause-err
returns-clause-err g c =
    let items = c.args.lanes.now.items in
    let x = c.index_mut-lane.result.now in
    let n = c.args.elements in
    let below = element_below n c.args.token.to c.requires.some in
    let e = c.element_of_packed-element.ensures in
    let count = c.requires.count in
    let low : c.element_of_packed-element.result < length items = omega arith in
    err_then c.receive.result (c.receive.new.self ≡ x) (map held_of (slice_set items c.element_of_packed-element.result c.receive.new.self) ≡ map held_of items)
    (λ same. unreceived items c.element_of_packed-element.result x c.receive.new.self low c.index_mut-lane.ensures.value
    (ap (λ (l : LaneView). held_of l) same)) c.receive.ensures.err

pub receive-requires : goal.receive-requires
receive-requires g c =
    let items = c.args.lanes.now.items in
    let x = c.index_mut-lane.result.now in
    let n = c.args.elements in
    let t = c.args.token in
    let i = c.element_of_packed-element.result in
    let below = element_below n t.to c.requires.some in
    let e = c.element_of_packed-element.ensures in
    let count = c.requires.count in
    let low : i < length items = omega arith in
    let at = first_get (IsAt n) (map held_of items) i (held_of x) c.requires.at (held_at items i x low c.index_mut-lane.ensures.value) in
    record {
      near = runs_at (λ (f : Fixed). IsNearToken (bounds_at f) t) items i x c.requires.near low c.index_mut-lane.ensures.value;
      addressed = ap (λ (m : ℕ). element_of m t.to) at.1 ∙ sym e ∙ sym at.0;
    }

pub returns-clause-fixed : goal.returns-clause-fixed
returns-clause-fixed g c =
    let items = c.args.lanes.now.items in
    let x = c.index_mut-lane.result.now in
    let n = c.args.elements in
    let below = element_below n c.args.token.to c.requires.some in
    let e = c.element_of_packed-element.ensures in
    let count = c.requires.count in
    let low : c.element_of_packed-element.result < length items = omega arith in
    let fixed : fixed_of c.receive.new.self ≡ fixed_of x
    = ok_or_err c.receive.result (c.receive.new.self ≡ with_more x (c.args.token ∷ [])) (c.receive.new.self ≡ x) (fixed_of c.receive.new.self ≡ fixed_of x)
    (λ got. ap (λ (l : LaneView). fixed_of l) got) (λ same. ap (λ (l : LaneView). fixed_of l) same) c.receive.ensures.ok c.receive.ensures.err in
    fixed_set items c.element_of_packed-element.result x c.receive.new.self low c.index_mut-lane.ensures.value fixed
