-- What an element of an image comes from, and the mark of an instruction in the marks of its block.
use Rattle.std.proofs.Common.{◌≡◌, ℕ, List, refl, Option, Some, None, unwrap_or, []}
use Rattle.std.specs.Prelude.{slice_get}
use Rattle.semantics.specs.declared.program.Mark.{Mark}
use Rattle.semantics.specs.declared.program.Mark.TheVariants.{Unmarked}
use Rattle.semantics.specs.Plan.{mark_in}
use Rattle.fanout.specs.Narrowed.{mark_of}

-- MARKS
pub one_mark : (o : Option Mark) → unwrap_or o Unmarked ≡ elim o as (λ x. Mark) [ None ↦ Unmarked | Some m ↦ m ]
one_mark None = refl
one_mark (Some m) = refl

pub same_mark : (o : Option (List Mark)) (n : ℕ) → mark_of (unwrap_or o []) n ≡ mark_in o n
same_mark None n = refl
same_mark (Some ms) n = one_mark (slice_get ms n)
