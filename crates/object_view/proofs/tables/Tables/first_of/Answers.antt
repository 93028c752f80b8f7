use Rattle.std.proofs.Common.{arith}
use Rattle.object_view.specs.Fields.{word_at}
use Rattle.object_view.proofs.Each.{below_all}
use Rattle.object_view.proofs.tables.Tables.first_of.Goals as goal

pub returns-clause-few : goal.returns-clause-few
returns-clause-few c =
    let w = word_at c.args.self.now.bytes.now in
    let s = c.args.self.now in
    let all = below_all w c.loop-earlier.earlier (w 2) (omega (arith, s.blocks_parsed)) in
    omega (arith, s.instrs_parsed, all, c.loop-earlier.invariant.counted)
