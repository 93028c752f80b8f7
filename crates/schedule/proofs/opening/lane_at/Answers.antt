use Rattle.std.proofs.Common.{◌≡◌, refl, ◌∙◌, ap, subst, ℕ, ◌*◌, Some}
use Rattle.std.proofs.lemmas.Result.{IfOk-weaker}
use Rattle.semantics.specs.Program.{Program}
use Rattle.element.specs.Holding.{LaneView, fixed_of, IsSoundLane}
use Rattle.element.specs.Openings.{opened, shape_at, StartsAs}
use Rattle.frame_store.specs.BankViews.{bank_states}
use Rattle.istructure.specs.OwnCells.{all_vacant}
use Rattle.frame_manager.specs.Managed.{at_first}
use Rattle.schedule.specs.State.{RunsAs}
use Rattle.schedule.specs.Starts.{IsFresh, sized}
use Rattle.schedule.proofs.Openings.{opening, fresh, three_ok}
use Rattle.schedule.proofs.opening.lane_at.Goals as goal

pub new-requires-2-clause-opening : goal.new-requires-2-clause-opening
new-requires-2-clause-opening g c =
    let p = g.C.Instructions.program c.args.code.now in
    let b = c.args.bank in
    let z = shape_at c.args.element c.args.elements b in
    let cells = c.in_ok-cells.cells in
    let manager = c.in_ok-manager.manager in
    let outputs = c.outputs.result in
    opening p z (bank_states b) cells manager outputs (opened z (bank_states b) cells manager outputs) refl c.requires.there c.requires.some_frames
    c.requires.bank c.requires.empty
    (c.in_ok-cells.ensures.exact ∙ ap (λ (n : ℕ). all_vacant n c.args.element c.args.elements) c.cells.ensures)
    (λ first. c.in_ok-manager.ensures first ∙ ap (λ (n : ℕ). Some (at_first (c.args.elements * n))) c.frames.ensures) c.outputs.ensures.exact

pub returns-clause-fresh : goal.returns-clause-fresh
returns-clause-fresh g c =
    let p = g.C.Instructions.program c.args.code.now in
    let b = c.args.bank in
    let z = shape_at c.args.element c.args.elements b in
    let view : LaneView = record {
      program = p;
      steps = c.args.steps;
      held = opened z (bank_states b) c.in_ok-cells.cells c.in_ok-manager.manager
          c.outputs.result;
    } in
    three_ok c.new-2.result (λ lane. lane ≡ view) (λ lane. IsSoundLane lane.program lane.held) (λ lane. StartsAs lane.program lane.held.part)
    (λ lane. IsFresh (sized p c.args.elements b.frames b.width 0) c.args.element lane.held)
    (λ lane is sound starts.
    let program : lane.program ≡ p = ap (λ (l : LaneView). l.program) is in
    fresh p z (bank_states b) c.in_ok-cells.cells c.in_ok-manager.manager c.outputs.result lane.held (ap (λ (l : LaneView). l.held) is)
    (subst (λ (q : Program). IsSoundLane q lane.held) program sound) (subst (λ (q : Program). StartsAs q lane.held.part) program starts))
    c.new-2.ensures.exact c.new-2.ensures.sound c.new-2.ensures.starts

pub returns-clause-runs : goal.returns-clause-runs
returns-clause-runs g c =
    let p = g.C.Instructions.program c.args.code.now in
    let b = c.args.bank in
    let z = shape_at c.args.element c.args.elements b in
    let view : LaneView = record {
      program = p;
      steps = c.args.steps;
      held = opened z (bank_states b) c.in_ok-cells.cells c.in_ok-manager.manager
          c.outputs.result;
    } in
    IfOk-weaker c.new-2.result (λ lane. lane ≡ view) (λ lane. RunsAs (sized p c.args.elements b.frames b.width c.args.steps) (fixed_of lane))
    (λ lane is. record {
      program = ap (λ (l : LaneView). l.program) is;
      steps = ap (λ (l : LaneView). l.steps) is;
      elements = ap (λ (l : LaneView). l.held.part.shape.elements) is;
      frames = ap (λ (l : LaneView). l.held.part.shape.frames) is;
    }) c.new-2.ensures.exact
