use Rattle.std.proofs.Common.{◌≡◌, arith}
use Rattle.mesh.specs.Places.{part_of}
use Rattle.mesh.proofs.WordSteps.{tries_stop}
use Rattle.mesh.proofs.words.stop_at.Goals as goal

pub compare_exchange-requires : goal.compare_exchange-requires
compare_exchange-requires g c = let t = c.requires.table in let s = c.requires.seat in let words : c.args.top.now.table_id.words ≡ 258 = t.1 in (
  t.0,
  omega arith,
  tries_stop g.B.Bundle.tokens _ _ _ _ c.args.place.now.me.0 c.args.place.now.me.1 (part_of c.args.place.now) s.2 s.1 c.args.reason
      c.requires.reason,
)

pub returns-clause-one : goal.returns-clause-one
returns-clause-one g c = (c.compare_exchange.ensures.2 (part_of c.args.place.now) c.requires.seat.2).1
