use Rattle.std.proofs.Common.{◌∙◌, ap, ℕ, ◌<◌, List, length, map, drop, arith}
use Rattle.std.proofs.lemmas.Grind.{common_steps}
use Rattle.element.specs.Holding.{held_of}
use Rattle.semantics.specs.Report.{sum_below}
use Rattle.schedule.specs.Reported.{full_below, cell_readers, requests_in, out_in}
use Rattle.schedule.proofs.Memory.{lane_count, held_at}
use Rattle.schedule.proofs.elements.Elements.add_up.Goals as goal

pub full_cells-requires-clause-count : goal.full_cells-requires-clause-count
full_cells-requires-clause-count g c = let m = c.args.self in ap (λ (l : List _). length l) c.deref.ensures.value
    ∙ lane_count m.lanes.items (drop m.arrived m.sent.items) m.shape.elements c.requires.count

pub deferred-requires-clause-count : goal.deferred-requires-clause-count
deferred-requires-clause-count g c = let m = c.args.self in ap (λ (l : List _). length l) c.deref-2.ensures.value
    ∙ lane_count m.lanes.items (drop m.arrived m.sent.items) m.shape.elements c.requires.count

pub swap_remove-first-requires : goal.swap_remove-first-requires
swap_remove-first-requires g c =
    let m = c.args.self in
    let count = lane_count m.lanes.items (drop m.arrived m.sent.items) m.shape.elements c.requires.count in
    let some : 0 < length m.lanes.items = (let l = c.requires.setting.some in omega arith) in
    grind (arith, common_steps)

pub returns : goal.returns
returns g c =
    let m = c.args.self in
    let n = m.shape.elements in
    let lanes = map held_of m.lanes.items in
    let number = c.cells-number.result in
    let count = lane_count m.lanes.items (drop m.arrived m.sent.items) n c.requires.count in
    let some : 0 < length m.lanes.items = (let l = c.requires.setting.some in omega arith) in (
      held_of c.swap_remove-first.result,
      held_at m.lanes.items 0 c.swap_remove-first.result some c.swap_remove-first.ensures.value,
      c.into_outputs-outputs.ensures,
      c.in_ok-cells.ensures ∙ ap (λ (l : List _). full_below n (map held_of l) number) c.deref.ensures.value
          ∙ ap (λ (k : ℕ). full_below n lanes k) c.cells-number.ensures,
      c.in_ok-deferred.ensures ∙ ap (λ (l : List _). sum_below number (λ x. cell_readers n (map held_of l) x)) c.deref-2.ensures.value
          ∙ ap (λ (k : ℕ). sum_below k (λ x. cell_readers n lanes x)) c.cells-number.ensures,
      c.requests-requests.ensures ∙ ap (λ m. requests_in m) c.manager.ensures,
      c.credits-credits.ensures,
      c.frames_out-out.ensures ∙ ap (λ m. out_in m) c.manager-2.ensures,
    )
