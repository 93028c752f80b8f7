use Rattle.std.proofs.Common.{◌∙◌, ap, map, List, ℕ}
use Rattle.sink.specs.Numbered.{numbered}
use Rattle.source.specs.Lowered.{made_blocks}
use Rattle.lowering.specs.Built.{Places, places_of}
use Rattle.lowered_text.specs.Parts.{IsMade}
use Rattle.lowered_text.specs.Texts.{block_lines, map_of}
use Rattle.lowered_text.proofs.Writing.{all_of, front_of}
use Rattle.lowered_text.proofs.write_places.Goals as goal

pub returns-in-Ok-send_map : goal.returns-in-Ok-send_map
returns-in-Ok-send_map g c = λ text inputs r.
    let m : IsMade text c.in-Ok.made.graph c.in-Ok.made.places.items = c.in-Ok.ensures text inputs r in
    let is = ap (λ (ps : List Places). numbered (block_lines c.args.program.now) 0 ps) (c.deref.ensures.value ∙ m.places)
    ∙ ap (λ (program : List ℕ). numbered (block_lines program) 0 (map places_of (made_blocks m.tree m.tree))) r.text_is in
    (m.tree, c.in-Ok.made.graph, m.lowers, all_of _ c.in-Ok-send_map.field-0 _ _ _ (map_of text m.tree c.in-Ok.made.graph) is c.in-Ok-send_map.ensures)

pub returns : goal.returns
returns g c = λ text inputs r.
    let m : IsMade text c.in-Ok.made.graph c.in-Ok.made.places.items = c.in-Ok.ensures text inputs r in
    let is = ap (λ (ps : List Places). numbered (block_lines c.args.program.now) 0 ps) (c.deref.ensures.value ∙ m.places)
    ∙ ap (λ (program : List ℕ). numbered (block_lines program) 0 (map places_of (made_blocks m.tree m.tree))) r.text_is in
    (m.tree, c.in-Ok.made.graph, m.lowers, front_of c.in-Err-send_map.fault _ _ _ (map_of text m.tree c.in-Ok.made.graph) is c.in-Err-send_map.ensures)
