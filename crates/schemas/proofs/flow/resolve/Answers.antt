use Rattle.std.proofs.Common.{◌≡◌, ℕ, List, map, sym, subst, ap, ◌∙◌}
use Rattle.semantics.specs.Versions.{version_number}
use Rattle.semantics.specs.Graph.{Graph, Flow, Block}
use Rattle.schemas.specs.Expanded.{IsSmallFlow}
use Rattle.schemas.specs.Flows.{resolved_named, array_length}
use Rattle.schemas.proofs.Small.{small_flow}
use Rattle.schemas.proofs.flow.resolve.Goals as goal

pub returns-clause-exact : goal.returns-clause-exact
returns-clause-exact g c =
    let y = c.args.checked.now in
    let is = c.graph.view_is ∙ c.graph-graph.ensures.same in
    let version : version_number c.graph.inside.version ≡ y.version = ap (λ (z : Graph). z.version) is in
    let arrays : c.graph.inside.arrays.items ≡ y.arrays = ap (λ (z : Graph). z.arrays) is in
    let blocks : c.graph.inside.blocks.items ≡ y.blocks = ap (λ (z : Graph). z.blocks) is in
    let lengths : c.in_ok-array_lengths.field-0.items ≡ map array_length y.arrays
    = c.in_ok-array_lengths.ensures ∙ ap (map array_length) (c.deref.ensures.value ∙ arrays) in
    let resolved : c.in_ok-resolve_blocks.field-0.items ≡ map (resolved_named y) y.blocks
    = c.in_ok-resolve_blocks.ensures ∙ ap (map (resolved_named y)) (c.deref-2.ensures.value ∙ blocks) in
    let mk : ℕ → List ℕ → List (Block ℕ) → ℕ → Flow = λ (v : ℕ) (xs : List ℕ) (bs : List (Block ℕ)) (m : ℕ). record
    { version = v; arrays = xs; blocks = bs; main = m } in
    ap (λ v. mk v c.in_ok-array_lengths.field-0.items c.in_ok-resolve_blocks.field-0.items c.main_place.result) version
    ∙ ap (λ xs. mk y.version xs c.in_ok-resolve_blocks.field-0.items c.main_place.result) lengths
    ∙ ap (λ bs. mk y.version (map array_length y.arrays) bs c.main_place.result) resolved
    ∙ ap (mk y.version (map array_length y.arrays) (map (resolved_named y) y.blocks)) c.main_place.ensures

pub returns-clause-small : goal.returns-clause-small
returns-clause-small g c = subst IsSmallFlow (sym (returns-clause-exact g c)) (small_flow c.args.checked.now c.graph-graph.ensures.well
    c.graph-graph.ensures.limits)
