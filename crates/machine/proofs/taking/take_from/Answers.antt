use Rattle.std.proofs.Common.{◌≡◌, refl, sym, ◌∙◌, subst, ℕ}
use Rattle.std.specs.Prelude.{All}
use Rattle.tags.specs.declared.token.Token.{Token}
use Rattle.tags.specs.Addresses.{element_of}
use Rattle.element.specs.Parts.{Shape}
use Rattle.mesh.specs.declared.view.Deed.TheVariants.{FoundEmpty}
use Rattle.schedule.specs.State.{setting_in}
use Rattle.machine.proofs.Accounts.{found_empty}
use Rattle.machine.proofs.Keeping.{keeps_noting, keeps_taken}
use Rattle.machine.proofs.taking.take_from.Goals as goal

pub returns-in-Some-clause-keeps : goal.returns-in-Some-clause-keeps
returns-in-Some-clause-keeps g c =
    keeps_taken {C = g.row.C.Denot} {A = g.row.A.Denot} {L = g.row.L.Denot} g.L.Log.KEEPS_EVENTS
    (setting_in g.C.Instructions.program g.C.Instructions.width c.args.shape.now) c.args.mesh.now c.args.runner.now c.receive_or_hold.new.runner
    c.take.new.seat c.args.from c.in-Some.bundle c.receive_or_hold.result
    c.requires.from c.requires.clear c.in-Some.ensures.some.0 c.in-Some.ensures.some.1 c.receive_or_hold.ensures.none c.receive_or_hold.ensures.some

pub returns-in-None-clause-keeps : goal.returns-in-None-clause-keeps
returns-in-None-clause-keeps g c =
    keeps_noting {C = g.row.C.Denot} {A = g.row.A.Denot} {L = g.row.L.Denot} g.L.Log.KEEPS_EVENTS
    (setting_in g.C.Instructions.program g.C.Instructions.width c.args.shape.now) c.args.mesh.now c.args.runner.now c.take.new.seat
    (FoundEmpty c.args.from) (found_empty c.args.from) refl c.in-None.ensures.none

pub receive_or_hold-requires-clause-runs : goal.receive_or_hold-requires-clause-runs
receive_or_hold-requires-clause-runs g c = c.requires.runs.1.runs

pub receive_or_hold-requires-clause-addressed : goal.receive_or_hold-requires-clause-addressed
receive_or_hold-requires-clause-addressed g c =
    let ran = c.requires.runs.1.ran in
    let z : Shape = c.args.runner.now.lane.held.part.shape in
    let tokens = c.in-Some.bundle.tokens in
    subst (λ (n : ℕ). All (λ (t : Token). element_of n t.to ≡ z.element) tokens) (ran.elements ∙ sym ran.placed.elements)
    (subst (λ (m : ℕ). All (λ (t : Token). element_of c.args.mesh.now.elements t.to ≡ m) tokens) (sym ran.placed.element) c.in-Some.ensures.some.1)
