-- How many destinations the instructions of every plan have.
use Rattle.std.specs.Prelude.{◌≡◌, ℕ, ◌+◌, Bool, true, false, List, length, Some, slice_get, All, ⊤}
use Rattle.semantics.specs.Graph.{Graph, flow_of}
use Rattle.semantics.specs.WellFormed.{WellFormed}
use Rattle.semantics.specs.declared.program.Op.{Op}
use Rattle.semantics.specs.declared.program.Op.TheVariants.{Fetch, Store, Frame, Ask, Link, Take, Give, Drain, Release}
use Rattle.semantics.specs.Program.{Instr, CodeBlock}
use Rattle.semantics.specs.Plan.{HasShape}
use Rattle.schemas.specs.Expanded.{expanded}

-- it has as many destinations as its kind wants
abbrev pub IsShaped : Instr → Type 0
IsShaped i = HasShape i.op (length i.firsts) (length i.seconds)

abbrev pub AreShaped : CodeBlock → Type 0
AreShaped c = All IsShaped c.instrs

-- each instruction of the plan of every well-formed graph has as many destinations as its kind wants
abbrev pub PlansAreShaped : Type 0
PlansAreShaped = (g : Graph) → WellFormed g → All AreShaped (expanded (flow_of g)).program.blocks

-- exactly one destination where it is answered, a link, or a `give` or `drain`, and none at a `take` or at `release`
abbrev pub HasExactShape : Op → ℕ → ℕ → Type 0
HasExactShape (Fetch a) m n = (m ≡ 1) × (n ≡ 0)
HasExactShape (Store a) m n = (m ≡ 1) × (n ≡ 0)
HasExactShape Frame m n = (m ≡ 1) × (n ≡ 0)
HasExactShape (Ask o) m n = (m ≡ 1) × (n ≡ 0)
HasExactShape (Link b) m n = (m ≡ 1) × (n ≡ 0)
HasExactShape (Give k) m n = (m ≡ 1) × (n ≡ 0)
HasExactShape (Drain k) m n = (m ≡ 1) × (n ≡ 0)
HasExactShape (Take k) m n = (m ≡ 0) × (n ≡ 0)
HasExactShape (Release o) m n = (m ≡ 0) × (n ≡ 0)
HasExactShape op m n = ⊤

abbrev pub IsExact : Instr → Type 0
IsExact i = HasExactShape i.op (length i.firsts) (length i.seconds)

abbrev pub AreExact : CodeBlock → Type 0
AreExact c = All IsExact c.instrs

-- the same of loops' credits, and a link signals to none
abbrev pub PlansAreExact : Type 0
PlansAreExact = (g : Graph) → WellFormed g → All AreExact (expanded (flow_of g)).program.blocks

abbrev pub is_release : Op → Bool
is_release (Release o) = true
is_release op = false

-- an instruction is `release` exactly if it is the last one
abbrev pub EndsInRelease : List Instr → Type 0
EndsInRelease is = (p : ℕ) (i : Instr) → slice_get is p ≡ Some i → (is_release i.op ≡ true → p + 1 ≡ length is) × (p + 1 ≡ length is → is_release i.op ≡ true)

-- the code blocks of the plan of every well-formed graph end in `release`, which occurs nowhere else
abbrev pub PlansEndInRelease : Type 0
PlansEndInRelease = (g : Graph) → WellFormed g → (b : ℕ) (c : CodeBlock) → slice_get (expanded (flow_of g)).program.blocks b ≡ Some c → EndsInRelease c.instrs
