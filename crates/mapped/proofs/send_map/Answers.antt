use Rattle.std.proofs.Common.{◌∙◌, ap, List}
use Rattle.semantics.specs.Graph.{Graph, block_names}
use Rattle.object_view.specs.Reading.{Opened, opened}
use Rattle.code_map.specs.declared.owner.Owner.{Owner}
use Rattle.map_text.specs.MapText.{code_map_text}
use Rattle.sink.proofs.Sent.{sends_same}
use Rattle.mapped.proofs.send_map.Goals as goal

pub returns : goal.returns
returns g c = λ owners.
    let mapped = c.args.mapped.now in
    let places = c.args.places in
    let code = c.bytes-bytes.ensures.opened ∙ ap opened c.bytes-bytes.ensures.same ∙ ap (λ (v : Opened). opened v.bytes) c.as_object-object.ensures in
    sends_same c.write_code_map.result _ _ _ _
    (ap (λ (v : Opened). code_map_text v.code.program (block_names c.graph.result.now) places c.deref.result.now) code
    ∙ ap (λ (h : Graph). code_map_text (opened mapped.object.bytes).code.program (block_names h) places c.deref.result.now) c.graph.ensures.same
    ∙ ap (λ (os : List Owner). code_map_text (opened mapped.object.bytes).code.program (block_names mapped.checked) places os)
    (c.deref.ensures.value ∙ owners))
    c.write_code_map.ensures
