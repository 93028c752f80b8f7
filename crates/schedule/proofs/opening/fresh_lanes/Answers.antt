use Rattle.std.proofs.Common.{◌≡◌, refl, sym, ◌∙◌, ap, subst, ℕ, ◌+◌, ◌*◌, ◌-◌, ◌<◌, ◌≤◌, ◌∷◌, [], length, map, take, drop, List, arith}
use Rattle.std.specs.Prelude.{All, replicate}
use Rattle.std.proofs.Math.Nat.{one-le-mul}
use Rattle.std.proofs.lemmas.List.{length-replicate, map-append, length-map, length_push}
use Rattle.std.proofs.lemmas.List.Elements.{All-nil, All-push, All-replicate}
use Rattle.tags.specs.declared.slot.SlotState.{SlotState}
use Rattle.tags.specs.declared.slot.SlotState.TheVariants.{Empty}
use Rattle.element.specs.Holding.{held_of, fixed_of}
use Rattle.frame_store.specs.BankViews.{bank_states}
use Rattle.frame_store.specs.Banked.{remaining_of}
use Rattle.frame_store.specs.Slots.{Slots}
use Rattle.schedule.specs.State.{AllFrom, RunsAs}
use Rattle.schedule.specs.Starts.{IsFresh, sized}
use Rattle.schedule.proofs.Openings.{bank_states_are, banks_left, banks_arrived}
use Rattle.schedule.proofs.Places.{from_push}
use Rattle.schedule.proofs.opening.fresh_lanes.Goals as goal

pub loop-element-init-derived : goal.loop-element-init-derived
loop-element-init-derived g c =
    let some : 1 ≤ c.args.store.now.frames * c.args.store.now.width = one-le-mul {a = c.args.store.now.frames} {b = c.args.store.now.width}
    (omega arith) (omega arith) in
    let size = c.banks-banks.ensures.size in
    (omega arith, tt)

pub loop-element-init : goal.loop-element-init
loop-element-init g c =
    let n : ℕ = c.args.store.now.elements in
    let s : ℕ = c.args.store.now.frames * c.args.store.now.width in
    let count : n ≡ c.elements-elements.result - 0 = (let e = c.elements-elements.ensures in omega (arith, e)) in
    let none : c.in_ok-lanes.lanes.items ≡ [] = c.in_ok-lanes.ensures.items in
    record {
      count = ap (λ (l : List _). length l) none;
      left = c.banks-banks.ensures.left ∙ ap (λ (x : Slots). x.states) c.requires.empty ∙ ap (λ (m : ℕ). replicate (m * s) Empty) count;
      size = c.banks-banks.ensures.size;
      frames = c.banks-banks.ensures.frames;
      width = c.banks-banks.ensures.width;
      fresh = subst (λ (l : List _). AllFrom (IsFresh (sized (g.C.Instructions.program c.args.code.now) c.elements-elements.result
          c.args.store.now.frames c.args.store.now.width 0)) 0 (map held_of l)) (sym none) tt;
      runs = subst (λ (l : List _). All (RunsAs (sized (g.C.Instructions.program c.args.code.now) c.elements-elements.result c.args.store.now.frames
          c.args.store.now.width c.args.steps)) (map fixed_of l)) (sym none) (All-nil _);
    }

pub unreachable-requires : goal.unreachable-requires
unreachable-requires g c =
    let s : ℕ = c.args.store.now.frames * c.args.store.now.width in
    let low : c.loop-element.element < c.elements-elements.result = c.loop-element-test.true in
    let comes = banks_arrived c.elements-elements.result c.loop-element.element s (remaining_of c.loop-element.banks) low c.loop-element.invariant.left in
    let ends = rw c.in_default.is at c.next.ensures.steps in
    let short = ends.0.0 in
    let size = c.loop-element.invariant.size in
    omega arith

pub lane_at-requires-clause-bank : goal.lane_at-requires-clause-bank
lane_at-requires-clause-bank g c =
    let s : ℕ = c.args.store.now.frames * c.args.store.now.width in
    let low : c.loop-element.element < c.elements-elements.result = c.loop-element-test.true in
    let e = c.in-Some.ensures.steps in
    let b = c.in-Some.bank in
    let size = c.loop-element.invariant.size in
    let some : 0 < c.elements-elements.result - c.loop-element.element = omega arith in
    let states = bank_states_are (c.elements-elements.result - c.loop-element.element) s (bank_states b) (remaining_of c.loop-element.banks) some
    c.loop-element.invariant.left (e.0.0 ∙ ap (λ (n : ℕ). take n (remaining_of c.loop-element.banks)) size) in
    let count : length (bank_states b) ≡ s = ap (λ (l : List SlotState). length l) states ∙ length-replicate s Empty in
    let start : b.start ≡ 0 = e.0.2 in
    let place : b.frames * b.width ≡ s = ap (λ (n : ℕ). n * b.width) (e.0.3 ∙ c.loop-element.invariant.frames)
    ∙ ap (λ (n : ℕ). c.args.store.now.frames * n) (e.0.4 ∙ c.loop-element.invariant.width) in
    omega arith

pub lane_at-requires-clause-empty : goal.lane_at-requires-clause-empty
lane_at-requires-clause-empty g c =
    let s : ℕ = c.args.store.now.frames * c.args.store.now.width in
    let low : c.loop-element.element < c.elements-elements.result = c.loop-element-test.true in
    let e = c.in-Some.ensures.steps in
    let b = c.in-Some.bank in
    let some : 0 < c.elements-elements.result - c.loop-element.element = omega arith in
    let states = bank_states_are (c.elements-elements.result - c.loop-element.element) s (bank_states b) (remaining_of c.loop-element.banks) some
    c.loop-element.invariant.left (e.0.0 ∙ ap (λ (n : ℕ). take n (remaining_of c.loop-element.banks)) c.loop-element.invariant.size) in
    subst (λ (l : List SlotState). All (λ (x : SlotState). x ≡ Empty) l) (sym states) (All-replicate (λ (x : SlotState). x ≡ Empty) s Empty refl)

pub loop-element-preserved : goal.loop-element-preserved
loop-element-preserved g c =
    let n : ℕ = c.elements-elements.result in
    let k : ℕ = c.loop-element.element in
    let s : ℕ = c.args.store.now.frames * c.args.store.now.width in
    let low : k < n = c.loop-element-test.true in
    let e = c.in-Some.ensures.steps in
    let b = c.in-Some.bank in
    let p = g.C.Instructions.program c.args.code.now in
    let is = IsFresh (sized p n c.args.store.now.frames c.args.store.now.width 0) in
    let old = map held_of c.loop-element.lanes.items in
    let one = c.in_ok-lane.ensures.fresh in
    let run = RunsAs (sized p n c.args.store.now.frames c.args.store.now.width c.args.steps) in
    let runs_frames = subst (λ (f : ℕ). RunsAs (sized p n f b.width c.args.steps) (fixed_of c.in_ok-lane.lane))
    (e.0.3 ∙ c.loop-element.invariant.frames) c.in_ok-lane.ensures.runs in
    let runs_width = subst (λ (w : ℕ). RunsAs (sized p n c.args.store.now.frames w c.args.steps) (fixed_of c.in_ok-lane.lane))
    (e.0.4 ∙ c.loop-element.invariant.width) runs_frames in
    let at_frames = subst (λ (f : ℕ). IsFresh (sized p n f b.width 0) k (held_of c.in_ok-lane.lane)) (e.0.3 ∙ c.loop-element.invariant.frames) one in
    let at_width = subst (λ (w : ℕ). IsFresh (sized p n c.args.store.now.frames w 0) k (held_of c.in_ok-lane.lane))
    (e.0.4 ∙ c.loop-element.invariant.width) at_frames in
    let place : k ≡ 0 + length old = (let a = length-map c.loop-element.lanes.items held_of in let q = c.loop-element.invariant.count in omega arith) in
    let more = from_push is 0 old (held_of c.in_ok-lane.lane) c.loop-element.invariant.fresh (subst (λ (m : ℕ). is m (held_of c.in_ok-lane.lane))
    place at_width) in
    let items = c.in_ok-push.ensures.items in
    record {
      count = ap (λ (l : List _). length l) items ∙ (let a = length_push c.loop-element.lanes.items c.in_ok-lane.lane
          in let q = c.loop-element.invariant.count in omega arith);
      left = banks_left n k s (remaining_of c.loop-element.banks) (remaining_of c.next.new.self) low c.loop-element.invariant.left
          (e.0.1 ∙ ap (λ (m : ℕ). drop m (remaining_of c.loop-element.banks)) c.loop-element.invariant.size);
      size = e.1.0 ∙ c.loop-element.invariant.size;
      frames = e.1.1 ∙ c.loop-element.invariant.frames;
      width = e.1.2 ∙ c.loop-element.invariant.width;
      fresh = subst (λ (l : List _). AllFrom is 0 l)
          (sym (ap (λ (l : List _). map held_of l) items ∙ map-append held_of c.loop-element.lanes.items (c.in_ok-lane.lane ∷ []))) more;
      runs = subst (λ (l : List _). All run l) (sym (ap (λ (l : List _). map fixed_of l) items ∙ map-append fixed_of c.loop-element.lanes.items
          (c.in_ok-lane.lane ∷ []))) (All-push run (map fixed_of c.loop-element.lanes.items) (fixed_of c.in_ok-lane.lane)
          c.loop-element.invariant.runs runs_width);
    }

pub returns-clause-runs : goal.returns-clause-runs
returns-clause-runs g c =
    let p = g.C.Instructions.program c.args.code.now in
    subst (λ (n : ℕ). All (RunsAs (sized p n c.args.store.now.frames c.args.store.now.width c.args.steps)) (map fixed_of c.loop-element.lanes.items))
    c.elements-elements.ensures c.loop-element.invariant.runs
