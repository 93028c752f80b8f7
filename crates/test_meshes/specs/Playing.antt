-- What stays true of a player.
use Rattle.std.specs.Prelude.{◌≡◌, ◌<◌, ◌≤◌, ◌^◌, List, []}
use Rattle.mesh.specs.Deeds.{created}
use Rattle.tags.specs.declared.token.Token.{Token}
use Rattle.mesh.specs.Seats.{MeshId, SeatView, AllTo, Has}
use Rattle.test_meshes.specs.declared.player.Player.{Player}

-- its seat is one of this mesh, and it counts what it makes
abbrev pub IsAt : MeshId → Player → Type 0
IsAt mesh p =
    (p.seat.mesh ≡ mesh) × (p.seat.joined ≡ []) × (p.elements ≡ mesh.elements) × (p.next < mesh.elements) × (p.previous < mesh.elements)
    × (p.made ≤ 2 ^ 40) × (created p.seat.own.deeds ≡ p.made)

-- and it holds what it keeps, which is for the next element
abbrev pub IsPlaying : MeshId → Player → Type 0
IsPlaying mesh p = IsAt mesh p × Has p.seat.own.held p.kept.items × AllTo mesh.elements p.next p.kept.items

-- a seat of this mesh, of one element, that holds these tokens
abbrev pub Holds : MeshId → SeatView → List Token → Type 0
Holds mesh s tokens = (s.mesh ≡ mesh) × (s.joined ≡ []) × Has s.own.held tokens
