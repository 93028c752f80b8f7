-- That the runs of an orderly plan that use each frame once are bounded.
use Rattle.std.specs.Prelude.{◌≡◌, ℕ, ◌≤◌, length, Some, slice_get}
use Rattle.semantics.specs.Program.{Instr, CodeBlock, Program}
use Rattle.semantics.specs.Plan.{Plan}
use Rattle.semantics.specs.Orderly.{Orderly}
use Rattle.law_fresh_frames.specs.Fresh.{BoundedOnce}

-- no instruction has more than one first and one second destination
abbrev pub HasFewDests : Program → Type 0
HasFewDests p = (b n : ℕ) (c : CodeBlock) (i : Instr) → slice_get p.blocks b ≡ Some c → slice_get c.instrs n ≡ Some i
    → (length i.firsts ≤ 1) × (length i.seconds ≤ 1)

-- No credits are needed for it: each port gets a token once, except those of `take` and `give`, and each firing makes
-- few tokens for these.
abbrev pub OrderlyIsBounded : Type 0
OrderlyIsBounded = (p : Plan) → Orderly p → HasFewDests p.program → BoundedOnce p
