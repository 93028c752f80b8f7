use Rattle.std.proofs.Common.{arith}
use Rattle.std.proofs.lemmas.Grind.{common_steps}
use Rattle.desugar.proofs.Gaps.{dropped_first}
use Rattle.desugar.proofs.maker.Maker.finished_first.Goals as goal

pub returns : goal.returns
returns g c = grind (arith, common_steps, dropped_first c.args.self.now.words c.args.words)
