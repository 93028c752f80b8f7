use Rattle.std.proofs.Common.{◌≡◌, ◌++◌, length, map}
use Rattle.mesh.specs.Seats.{AreAt, accounts}
use Rattle.mesh.proofs.mesh.Mesh.joined.Given as goal

abbrev pub invariant-loop-seat : goal.invariant-loop-seat
invariant-loop-seat g l = (l.all.mesh ≡ l.self) × AreAt l.self l.seats.items × (map (λ s. s.own) l.fn.seats.items ≡ map (λ s. s.own) l.seats.items
    ++ accounts l.all)

abbrev pub decreases-loop-seat : goal.decreases-loop-seat
decreases-loop-seat g l = length l.seats.items
