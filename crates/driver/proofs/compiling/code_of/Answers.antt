use Rattle.std.proofs.Common.{ap, ◌∙◌, sym, subst, List, ℕ}
use Rattle.semantics.specs.Graph.{Graph}
use Rattle.semantics.specs.Plan.{Plan}
use Rattle.slot_alloc.specs.Assigned.{IsAssigned}
use Rattle.select.specs.Emitted.{code_of}
use Rattle.select.specs.Emittable.{IsEmittable}
use Rattle.driver.proofs.GraphObjects.{same_literals, compiled}
use Rattle.driver.proofs.compiling.code_of.Goals as goal

pub returns : goal.returns
returns g c =
    let slots : List (List ℕ) = c.in_ok-slots.slots in
    let version = c.version_of.result in
    let same = c.in_ok-plan.ensures in
    let A : Plan → Type 0 = λ p. IsAssigned p slots in
    let E : Plan → Type 0 = λ p. IsEmittable p slots in
    let number = c.version_of.ensures ∙ ap (λ (x : Graph). x.version) c.graph.ensures.same in
    compiled c.args.checked.now c.graph.ensures.limits c.graph.ensures.well slots
    (subst A same c.in_ok-slots.ensures.assigned) version number c.in_ok-emit.field-0
    (c.in_ok-emit.ensures.program ∙ ap (λ (p : Plan). code_of version p slots) same)
    (same_literals c.args.checked.now _ c.in_ok-emit.field-0 same c.in_ok-emit.ensures.literals)
    (λ fit. c.in_ok-emit.ensures.spelling (subst E (sym same) fit))
