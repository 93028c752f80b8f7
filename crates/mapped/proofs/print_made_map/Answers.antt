use Rattle.std.proofs.Common.{inl, inr, refl, ap, sym, ◌∙◌, List, ℕ, Some}
use Rattle.semantics.specs.Graph.{Graph, flow_of}
use Rattle.source.specs.Tokens.{program_of}
use Rattle.lowering.specs.Built.{Places}
use Rattle.code_map.specs.Carried.{owners_of}
use Rattle.outcomes.specs.declared.outcome.Outcome.{Outcome}
use Rattle.commands.proofs.Served.{printed, stopped}
use Rattle.mapped.specs.Mapped.{map_of}
use Rattle.mapped.proofs.print_made_map.Goals as goal

pub returns-in-Err : goal.returns-in-Err
returns-in-Err g c = λ text is made.
    inr (
      c.fault_refusal.result,
      inr (made.tree, c.args.made.graph, made.lowers, (c.in-Err.fault, c.in-Err.ensures made.lowers.well_formed, c.fault_refusal.ensures)),
      c.refuse.ensures,
    )

pub returns-in-Ok-send_map : goal.returns-in-Ok-send_map
returns-in-Ok-send_map g c = λ text is made.
    let m = c.in-Ok.mapped in
    let k = c.in-Ok.ensures made.lowers.well_formed in
    let graph = c.args.made.graph in
    let bytes = m.object.bytes in
    let same = ap (λ (h : Graph). map_of h bytes (Some (record { program = c.args.program.now; places = c.deref.result.now }))) k.0
    ∙ ap (λ (xs : List ℕ). map_of graph bytes (Some (record { program = xs; places = c.deref.result.now }))) is
    ∙ ap (λ (ps : List Places). map_of graph bytes (Some (record { program = program_of text; places = ps }))) (c.deref.ensures.value ∙ made.places) in
    let owners = k.2 ∙ ap (λ (h : Graph). owners_of (flow_of h)) (sym k.0) in
    inl (made.tree, graph, bytes, made.lowers, k.1, printed _ _ Outcome.Done _ _ _ _ Outcome.Done same refl (c.in-Ok-send_map.ensures owners))

pub returns : goal.returns
returns g c = λ text is made.
    let m = c.in-Ok.mapped in
    let k = c.in-Ok.ensures made.lowers.well_formed in
    let graph = c.args.made.graph in
    let bytes = m.object.bytes in
    let same = ap (λ (h : Graph). map_of h bytes (Some (record { program = c.args.program.now; places = c.deref.result.now }))) k.0
    ∙ ap (λ (xs : List ℕ). map_of graph bytes (Some (record { program = xs; places = c.deref.result.now }))) is
    ∙ ap (λ (ps : List Places). map_of graph bytes (Some (record { program = program_of text; places = ps }))) (c.deref.ensures.value ∙ made.places) in
    let owners = k.2 ∙ ap (λ (h : Graph). owners_of (flow_of h)) (sym k.0) in
    inl (made.tree, graph, bytes, made.lowers, k.1, stopped _ _ _ _ _ _ Outcome.Done same (c.in-Err-send_map.ensures owners))
