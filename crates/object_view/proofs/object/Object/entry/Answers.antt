use Rattle.object_view.specs.Fields.{word_at}
use Rattle.object_view.specs.Reading.{block_in}
use Rattle.object_view.proofs.Tabulated.{get_tabulated, past_tabulated, first_of_tabulated}
use Rattle.object_view.proofs.Views.{blocks_seen}
use Rattle.std.proofs.Common.{Some, sym, ap, ◌∙◌, arith}
use Rattle.std.specs.Prelude.{slice_get, option_map}
use Rattle.semantics.specs.Program.{CodeBlock, first_of}
use Rattle.object_view.proofs.object.Object.entry.Goals as goal

pub returns-then-block-self : goal.returns-then-block-self
returns-then-block-self c =
    let t = c.self.inside.tables in
    let w = word_at t.bytes.now in
    let p = c.args.self.now.code.program in
    let b = c.args.block in
    let blocks = blocks_seen t.bytes.now _ c.self.view_is in
    sym (ap (λ bs. option_map (λ (x : CodeBlock). first_of p b) (slice_get bs b)) blocks ∙ ap (option_map (λ (x : CodeBlock). first_of p b))
    (past_tabulated (block_in w) 0 (w 2) b (omega (arith, t.blocks_parsed))))

pub returns : goal.returns
returns c =
    let t = c.self.inside.tables in
    let w = word_at t.bytes.now in
    let p = c.args.self.now.code.program in
    let b = c.args.block in
    let blocks = blocks_seen t.bytes.now _ c.self.view_is in
    let first = first_of_tabulated w p (w 2) b blocks (omega (arith, t.blocks_parsed)) in
    ap (λ n. Some n) (c.first_of.ensures.counted ∙ sym first) ∙ sym (ap (λ bs. option_map (λ (x : CodeBlock). first_of p b) (slice_get bs b)) blocks
    ∙ ap (option_map (λ (x : CodeBlock). first_of p b)) (get_tabulated (block_in w) 0 (w 2) b b (omega (arith, t.blocks_parsed)) (omega arith)))
