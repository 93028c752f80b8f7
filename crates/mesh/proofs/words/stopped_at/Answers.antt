use Rattle.std.proofs.Common.{◌≡◌, arith}
use mathlib.Core.Option.{none}
use Rattle.atomic_table.specs.Table.{step}
use Rattle.mesh.specs.Places.{part_of}
use Rattle.mesh.proofs.WordSteps.{looks_stop}
use Rattle.mesh.proofs.words.stopped_at.Goals as goal

pub load-requires : goal.load-requires
load-requires g c = let t = c.requires.table in let s = c.requires.seat in let words : c.args.top.now.table_id.words ≡ 258 = t.1 in
    (t.0, omega arith, looks_stop g.B.Bundle.tokens _ _ _ _ c.args.place.now.me.0 c.args.place.now.me.1 (part_of c.args.place.now) s.2 s.1 (step 0 0 0 0 none))
