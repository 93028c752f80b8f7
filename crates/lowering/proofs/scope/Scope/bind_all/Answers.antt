use Rattle.std.proofs.Common.{◌≡◌, min, length, arith}
use Rattle.lowering.proofs.Nodes.{scoped_min}
use Rattle.lowering.proofs.scope.Scope.bind_all.Goals as goal

pub loop-i-init : goal.loop-i-init
loop-i-init g c =
    let e : c.min-i.result ≡ min (length c.args.names.now) (length c.args.sources.now) = search c.min-i.ensures in
    record {
      in_names = omega arith;
      in_sources = omega arith;
      bound = scoped_min c.args.names.now c.args.sources.now c.args.self.now c.min-i.result e;
    }
