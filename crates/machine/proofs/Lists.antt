-- Lists of lanes, seats and runners, one more at a time.
use Rattle.std.proofs.Common.{◌≡◌, sym, ◌∙◌, ap, ℕ, ◌+◌, ◌<◌, List, [], ◌∷◌, ◌++◌, length, map, take, drop, get_or, arith, append_assoc}
use Rattle.std.specs.Prelude.{remove}
use Rattle.std.proofs.lemmas.List.{append-nil, map-append, take_more, take_all, drop_all, nil_from_length}
use Rattle.std.proofs.lemmas.Grind.{flat_map-append}
use Rattle.crossbeam_utils.specs.declared.cache_padded.CachePadded.{CachePadded}
use Rattle.tags.specs.declared.token.Token.{Token}
use Rattle.element.specs.Holding.{LaneView, Holding, held_of}
use Rattle.schedule.specs.State.{tokens_in}
use Rattle.mesh.specs.Seats.{SeatView}
use Rattle.machine.specs.declared.runner.Runner.{Runner}
use Rattle.machine.specs.Starts.{lane_in, seat_of, lanes_in, seats_in}

-- what a vector has after it was lent as a slice
pub written_back : {X : Type 0} (n : ℕ) (old new : List X) → length old ≡ n → length new ≡ length old → take n (new ++ drop (length new) old) ≡ new
written_back n old new whole same =
    let none : drop (length new) old ≡ [] = drop_all (length new) old (omega (arith, same)) in
    let back : new ++ drop (length new) old ≡ new = ap (λ (l : List _). new ++ l) none ∙ append-nil new in
    ap (λ (l : List _). take n l) back ∙ take_all n new (omega (arith, whole, same))

-- one more of a queue
pub list_more : (all old now new : List Token) (k : ℕ) (t : Token) → k < length all → t ≡ get_or all k t → now ≡ old ++ take k all → new ≡ now ++ t
    ∷ [] → new ≡ old ++ take (k + 1) all
list_more all old now new k t low at is more =
    more ∙ ap (λ (l : List Token). l ++ t ∷ []) is ∙ append_assoc old (take k all) (t ∷ []) ∙ ap (λ (x : Token). old ++ (take k all ++ x ∷ [])) at
    ∙ ap (λ (l : List Token). old ++ l) (sym (take_more all k t low))

pub fewer_seats : (seats : List SeatView) → 0 < length seats → length (remove seats 0) + 1 ≡ length seats
fewer_seats [] some = absurd (omega (arith, some))
fewer_seats (s ∷ seats) some = omega arith

pub map_push : {X Y : Type 0} (f : X → Y) (xs : List X) (x : X) (now new : List Y) (y : Y) → now ≡ map f xs → y ≡ f x → new ≡ now ++ y ∷ [] → new
    ≡ map f (xs ++ x ∷ [])
map_push f xs x now new y is same more = more ∙ ap (λ (l : List _). l ++ y ∷ []) is ∙ ap (λ (z : _). map f xs ++ z ∷ []) same ∙ sym (map-append f xs (x ∷ []))

-- the tokens of one more lane
pub queues_more : (lanes : List LaneView) (k : ℕ) (lane : LaneView) (now new : List Token) → k < length lanes → lane ≡ get_or lanes k lane → now
    ≡ tokens_in (map held_of (take k lanes)) → new ≡ now ++ lane.held.queue
    → new ≡ tokens_in (map held_of (take (k + 1) lanes))
queues_more lanes k lane now new low at is more =
    let before : List Holding = map held_of (take k lanes) in
    let next : take (k + 1) lanes ≡ take k lanes ++ lane ∷ [] = take_more lanes k lane low ∙ ap (λ (x : LaneView). take k lanes ++ x ∷ []) (sym at) in
    let held : map held_of (take (k + 1) lanes) ≡ before ++ held_of lane ∷ [] = ap (λ (l : List LaneView). map held_of l) next
    ∙ map-append held_of (take k lanes) (lane ∷ []) in
    let all : tokens_in (map held_of (take (k + 1) lanes)) ≡ tokens_in before ++ (lane.held.queue ++ []) = ap (λ (l : List Holding). tokens_in l) held
    ∙ flat_map-append (λ (h : Holding). h.queue) before (held_of lane ∷ []) in
    more ∙ ap (λ (l : List Token). l ++ lane.held.queue) is ∙ ap (λ (l : List Token). tokens_in before ++ l) (sym (append-nil lane.held.queue)) ∙ sym all

module _ {C A L : Type 0} where
  -- one more runner, with the next lane
  pub lanes_more : (ps : List (CachePadded (Runner C A L))) (p : CachePadded (Runner C A L)) (lanes : List LaneView) (lane : LaneView) → lanes_in ps
      ≡ map held_of lanes → lane_in p ≡ held_of lane → lanes_in (ps ++ p ∷ []) ≡ map held_of (lanes ++ lane ∷ [])
  lanes_more ps p lanes lane is same =
      map-append lane_in ps (p ∷ []) ∙ ap (λ (l : List Holding). l ++ lane_in p ∷ []) is ∙ ap (λ (h : Holding). map held_of lanes ++ h ∷ []) same
      ∙ sym (map-append held_of lanes (lane ∷ []))

  -- one more runner, with the next seat
  pub seats_more : (ps : List (CachePadded (Runner C A L))) (p : CachePadded (Runner C A L)) (seats : List SeatView) (seat : SeatView)
      (all : List SeatView) → 0 < length seats → seat ≡ get_or seats 0 seat → seat_of p ≡ seat → seats_in ps ++ seats ≡ all
      → seats_in (ps ++ p ∷ []) ++ remove seats 0 ≡ all
  seats_more ps p [] seat all some at same is = absurd (omega (arith, some))
  seats_more ps p (s ∷ seats) seat all some at same is =
      ap (λ (l : List SeatView). l ++ seats) (map-append seat_of ps (p ∷ [])) ∙ append_assoc (seats_in ps) (seat_of p ∷ []) seats
      ∙ ap (λ (x : SeatView). seats_in ps ++ x ∷ seats) (same ∙ at) ∙ is

  pub no_seats : (ps : List (CachePadded (Runner C A L))) (seats all : List SeatView) → length seats ≡ 0 → seats_in ps ++ seats ≡ all → seats_in ps ≡ all
  no_seats ps seats all none is = sym (append-nil (seats_in ps)) ∙ ap (λ (l : List SeatView). seats_in ps ++ l) (sym (nil_from_length seats none)) ∙ is
