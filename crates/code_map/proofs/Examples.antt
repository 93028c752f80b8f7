-- The owners of small graphs' objects, by computation.
use Rattle.std.proofs.Common.{refl}
use Rattle.schemas.specs.Blocks.{with_kind, with_nodes, entries, finished, plain_build}
use Rattle.schemas.specs.Ends.{join_ends, closed, closed_nodes, released}
use Rattle.schemas.specs.Expanded.{plain_code}
use Rattle.code_map.specs.Parts.{plain_parts}
use Rattle.code_map.specs.Owners.{plain_owners}
use Rattle.code_map.specs.Examples.{LiteralIsLeftOut, CopiesAreOwned, JoinsAreOwned}

pub literal_is_left_out : LiteralIsLeftOut
unfolding with_kind with_nodes entries finished plain_build join_ends closed closed_nodes released plain_code plain_parts plain_owners
literal_is_left_out = refl

pub copies_are_owned : CopiesAreOwned
unfolding with_kind with_nodes entries finished plain_build join_ends closed closed_nodes released plain_code plain_parts plain_owners
copies_are_owned = refl

pub joins_are_owned : JoinsAreOwned
unfolding with_kind with_nodes entries finished plain_build join_ends closed closed_nodes released plain_code plain_parts plain_owners
joins_are_owned = refl
