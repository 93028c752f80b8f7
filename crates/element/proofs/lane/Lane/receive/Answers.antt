use Rattle.std.proofs.Common.{◌≡◌, sym, subst, [], ◌∷◌, ◌++◌}
use Rattle.element.specs.Holding.{Holding, LaneView, fixed_of, held_in, with_queue, IsFor, IsRunnable}
use Rattle.element.proofs.Turns.{received}
use Rattle.element.proofs.lane.Lane.receive.Goals as goal

pub invariant_of-self-2 : goal.invariant_of-self-2
invariant_of-self-2 g c =
    let p = g.C.Instructions.program c.self.inside.code.now in
    let old : Holding = held_in c.self.inside.contents in
    let l : LaneView = record { program = p; steps = c.self.inside.steps; held = old } in
    let fit : IsFor (fixed_of l) c.args.token = subst (λ (v : LaneView). IsFor (fixed_of v) c.args.token) (sym c.self.view_is) c.requires in
    let is : held_in c.receive_one.new.self ≡ with_queue old (old.queue ++ c.args.token ∷ []) = c.in_ok-receive_one.ensures.ok in
    subst (λ (h : Holding). IsRunnable (g.C.Instructions.width c.self.inside.code.now) (record { program = p; steps = c.self.inside.steps; held = h })) (sym is)
    (received (g.C.Instructions.width c.self.inside.code.now) l c.args.token c.self.invariant fit)
