use Rattle.object_view.specs.Fields.{word_at}
use Rattle.object_view.specs.Reading.{block_in}
use Rattle.object_view.proofs.Tabulated.{length_tabulated, first_of_tabulated}
use Rattle.object_view.proofs.Views.{blocks_seen}
use Rattle.std.proofs.Common.{length, sym, ap, ◌∙◌, arith}
use Rattle.semantics.specs.Program.{first_of}
use Rattle.object_view.proofs.object.Object.instrs.Goals as goal

pub returns-clause-exact : goal.returns-clause-exact
returns-clause-exact c =
    let t = c.self.inside.tables in
    let w = word_at t.bytes.now in
    let b = blocks_seen t.bytes.now _ c.self.view_is in
    let n = ap length b ∙ length_tabulated (block_in w) 0 (w 2) in
    t.instrs_parsed ∙ sym (ap (first_of c.args.self.now.code.program) n ∙ first_of_tabulated w c.args.self.now.code.program (w 2) (w 2) b (omega arith))
