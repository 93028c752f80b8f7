-- Which operators take an operand from the code, and which literals are left out then.
use Rattle.std.specs.Prelude.{ℕ, ◌+◌, ℤ, Bool, true, false, ◌&&◌, List, ◌∷◌, Option, Some, None, ◌==◌, slice_get, slice_index_or, if◌then◌else◌, []}
use Rattle.tags.specs.declared.token.Port.{Port}
use Rattle.tags.specs.declared.token.Port.TheVariants.{Left, Right}
use Rattle.semantics.specs.declared.program.Dest.{Dest}
use Rattle.semantics.specs.declared.program.Op.{Op}
use Rattle.semantics.specs.declared.program.Op.TheVariants.{Apply2, Apply2Right, Apply2Left, Lit}
use Rattle.semantics.specs.Program.{Instr, CodeBlock}
use Rattle.semantics.specs.Plan.{Plan}
use Rattle.folding.specs.declared.namers.Namer.{Namer}
use Rattle.folding.specs.declared.namers.Namer.TheVariants.{One}
use Rattle.folding.specs.declared.folds.Fold.{Fold}
use Rattle.folding.specs.declared.folds.Fold.TheVariants.{Unchanged, OnRight, LeftLiteral}
use Rattle.folding.specs.Namers.{Namers, namer_at, namers_of}

abbrev pub literal_in : Op → Option ℤ
literal_in (Lit z) = Some z
literal_in op = None

abbrev pub literal_at : Option Instr → Option ℤ
literal_at None = None
literal_at (Some i) = literal_in i.op

-- both sides are the first destinations, or both the second ones
abbrev pub same_side : Bool → Bool → Bool
same_side true t = t
same_side false true = false
same_side false false = true

-- two ports are named once each, and from one list of destinations
abbrev pub same_source : Namer → Namer → Bool
same_source (One m s) (One n t) = (m == n) && same_side s t
same_source x y = false

-- The literal that goes to a port, if it is a `lit` that names it, whose own source is that of another port.
abbrev pub literal_by : List Namer → List Instr → Namer → Namer → Option ℤ
literal_by lefts is (One m s) other = if same_source (namer_at lefts m) other then literal_at (slice_get is m) else None
literal_by lefts is x other = None

-- by the literal of the left port, and by that of the right one
abbrev pub fold_by : Option ℤ → Option ℤ → Fold
fold_by l (Some z) = OnRight z
fold_by (Some z) None = LeftLiteral z
fold_by None None = Unchanged

-- what the n-th instruction takes from the code
abbrev pub fold_of : Namers → List Instr → ℕ → Op → Fold
fold_of ns is n (Apply2 op) = fold_by (literal_by ns.lefts is (namer_at ns.lefts n) (namer_at ns.rights n))
    (literal_by ns.lefts is (namer_at ns.rights n) (namer_at ns.lefts n))
fold_of ns is n op = Unchanged

-- the instructions from the n-th on
abbrev pub folds_from : Namers → List Instr → ℕ → List Instr → List Fold
folds_from ns all n [] = []
folds_from ns all n (i ∷ is) = fold_of ns all n i.op ∷ folds_from ns all (n + 1) is

abbrev pub folds_of : Plan → CodeBlock → List Fold
folds_of p c = folds_from (namers_of p c) c.instrs 0 c.instrs

abbrev pub fold_at : List Fold → ℕ → Fold
fold_at fs n = slice_index_or fs n Unchanged

abbrev pub is_folded : Fold → Bool
is_folded Unchanged = false
is_folded f = true

-- the port at which no word arrives any more
abbrev pub is_closed : Fold → Port → Bool
is_closed (OnRight z) Right = true
is_closed (LeftLiteral z) Left = true
is_closed f q = false

-- the other operand arrives at the left port
abbrev pub new_port : Fold → Port → Port
new_port Unchanged q = q
new_port f q = Left

abbrev pub new_op : Fold → Op → Op
new_op (OnRight z) (Apply2 op) = Apply2Right op z
new_op (LeftLiteral z) (Apply2 op) = Apply2Left op z
new_op f op = op

-- a destination of the n-th instruction is a port at which no word arrives any more
abbrev pub closed_to : List Fold → ℕ → Dest → Bool
closed_to fs n d = is_closed (fold_at fs (n + d.ahead)) d.port

abbrev pub all_closed : List Fold → ℕ → List Dest → Bool
all_closed fs n [] = true
all_closed fs n (d ∷ ds) = if closed_to fs n d then all_closed fs n ds else false

abbrev pub is_used : List Dest → List Dest → Bool
is_used [] [] = false
is_used ds es = true

abbrev pub is_lit : Op → Bool
is_lit (Lit z) = true
is_lit op = false

-- a literal of which all uses are in the code now
abbrev pub is_gone : List Fold → ℕ → Instr → Bool
is_gone fs n i = is_lit i.op && (is_used i.firsts i.seconds && (all_closed fs n i.firsts && all_closed fs n i.seconds))

-- the instructions from the n-th on
abbrev pub gone_from : List Fold → ℕ → List Instr → List Bool
gone_from fs n [] = []
gone_from fs n (i ∷ is) = is_gone fs n i ∷ gone_from fs (n + 1) is
