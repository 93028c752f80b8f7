use Rattle.std.proofs.Common.{arith}
use Rattle.object_view.proofs.Codes.{code_known}
use Rattle.object_view.proofs.words.Head.known_code.Goals as goal

pub returns : goal.returns
returns c =
    let h = code_known c.args.self.word c.requires in
    record {
      code = omega (arith, h.0, h.1);
      there = omega (arith, h.0, h.1);
      within = omega (arith, h.0, h.1);
    }
