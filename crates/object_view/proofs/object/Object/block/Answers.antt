use Rattle.object_view.specs.Fields.{word_at, count_in}
use Rattle.object_view.specs.Reading.{block_in, shown, instr_in, instrs_below, block_shown}
use Rattle.object_view.proofs.Tabulated.{length_tabulated, get_tabulated, past_tabulated, first_of_tabulated}
use Rattle.object_view.proofs.Views.{blocks_seen}
use Rattle.std.proofs.Common.{◌≡◌, ◌+◌, Some, sym, ap, ◌∙◌, arith, refl}
use Rattle.std.specs.Prelude.{slice_get, option_map}
use Rattle.semantics.specs.Program.{first_of}
use Rattle.object_view.proofs.object.Object.block.Goals as goal

pub returns-then-block-self : goal.returns-then-block-self
returns-then-block-self c =
    let t = c.self.inside.tables in
    let w = word_at t.bytes.now in
    let p = c.args.self.now.code.program in
    let b = c.args.block in
    let blocks = blocks_seen t.bytes.now _ c.self.view_is in
    sym (ap (λ bs. option_map (block_shown (first_of p b)) (slice_get bs b)) blocks ∙ ap (option_map (block_shown (first_of p b)))
    (past_tabulated (block_in w) 0 (w 2) b (omega (arith, t.blocks_parsed))))

pub returns : goal.returns
returns c =
    let t = c.self.inside.tables in
    let w = word_at t.bytes.now in
    let p = c.args.self.now.code.program in
    let b = c.args.block in
    let blocks = blocks_seen t.bytes.now _ c.self.view_is in
    let first = first_of_tabulated w p (w 2) b blocks (omega (arith, t.blocks_parsed)) in
    let len = length_tabulated (λ n. shown (instr_in w n)) (instrs_below w b) (count_in (w (6 + b))) in
    let same = c.first_of.ensures.counted ∙ sym first in
    let e = c.entry-entry.ensures in
    let is : Some record {
      inputs = c.inputs.result;
      outputs = c.outputs.result;
      slots = c.slots.result;
      instrs = c.instrs.result;
      first =
          c.first_of.result;
    } ≡ Some (block_shown (first_of p b) (block_in w b)) =
    rw (c.inputs.ensures, c.outputs.ensures, c.slots.ensures, c.instrs.ensures, e, same, len) refl in
    is ∙ sym (ap (λ bs. option_map (block_shown (first_of p b)) (slice_get bs b)) blocks ∙ ap (option_map (block_shown (first_of p b)))
    (get_tabulated (block_in w) 0 (w 2) b b (omega (arith, t.blocks_parsed)) (omega arith)))
