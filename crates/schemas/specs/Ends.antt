-- The ends of each region, and how they are joined.
use Rattle.std.specs.Prelude.{ℕ, ◌+◌, Bool, true, false, not, ◌&&◌, ◌==◌, List, [], ◌∷◌, ◌++◌, length, Option, Some, None, if◌then◌else◌}
use Rattle.tags.specs.declared.token.Port.{Port}
use Rattle.tags.specs.declared.token.Port.TheVariants.{Left, Right}
use Rattle.semantics.specs.declared.graph.Region.{Region}
use Rattle.semantics.specs.declared.graph.Region.TheVariants.{Root, Arm}
use Rattle.semantics.specs.declared.graph.Kind.{Kind}
use Rattle.semantics.specs.declared.graph.Kind.TheVariants.{Cond}
use Rattle.semantics.specs.declared.program.Mark.{Mark}
use Rattle.semantics.specs.declared.program.Mark.TheVariants.{Unmarked, OfCond, OfFlag}
use Rattle.semantics.specs.declared.program.Op.{Op}
use Rattle.semantics.specs.declared.program.Op.TheVariants.{Copy, Sync, Take, Release}
use Rattle.semantics.specs.Graph.{Node}
use Rattle.semantics.specs.Program.{Instr}
use Rattle.schemas.specs.declared.builder.Outlet.{Outlet}
use Rattle.schemas.specs.declared.ends.End.{End}
use Rattle.schemas.specs.Builds.{Build, first_of, second_of, quieted, connected, behind, meeting, mark_of, region_of}

abbrev pub end_at : Region → Outlet → End
end_at region o = record { region = region; outlet = o }

abbrev pub is_empty : {X : Type 0} → List X → Bool
is_empty [] = true
is_empty (x ∷ xs) = false

abbrev pub is_take : Op → Bool
is_take (Take k) = true
is_take op = false

abbrev pub is_end : Instr → Bool
is_end i = not (is_take i.op) && is_empty i.firsts

abbrev pub pushed_if : List End → Bool → Region → Outlet → List End
pushed_if ends test region o = if test then ends ++ end_at region o ∷ [] else ends

abbrev pub noted : List End → Mark → Region → Instr → ℕ → List End
noted ends (OfCond k) region i n = pushed_if (pushed_if ends (is_empty i.firsts) (Arm k true) (first_of n)) (is_empty i.seconds) (Arm k false) (second_of n)
noted ends OfFlag region i n = ends
noted ends Unmarked region i n = pushed_if ends (is_end i) region (first_of n)

-- from the instruction at a place on
abbrev pub ends_from : List End → Build → ℕ → List Instr → List End
ends_from ends b n [] = ends
ends_from ends b n (i ∷ is) = ends_from (noted ends (mark_of b.marks n) (region_of b.regions n) i n) b (n + 1) is

abbrev pub ends_of : Build → List End
ends_of b = ends_from [] b 0 b.instrs

-- JOINS. A chain: the first two ends, and then each one more.
abbrev pub same_region : Region → Region → Bool
same_region Root Root = true
same_region (Arm k side) (Arm l other) = (k == l) && (if side then other else not other)
same_region r s = false

pub record Signalled : Type 0 where
  pub build : Build
  pub signal : Option Outlet

abbrev pub no_signal : Option Outlet
no_signal = None

abbrev pub join_with : Build → Option Outlet → Outlet → Region → Signalled
join_with b None o region = record { build = b; signal = Some o }
join_with b (Some s) o region = record { build = meeting b Sync Unmarked region s o; signal = Some (first_of (length b.instrs)) }

abbrev pub join_end : Build → Option Outlet → End → Region → Signalled
join_end b signal e region = if same_region e.region region then join_with b signal e.outlet region else record { build = b; signal = signal }

unfoldable pub join_ends : Build → Option Outlet → Region → List End → Signalled
join_ends b signal region [] = record { build = b; signal = signal }
join_ends b signal region (e ∷ es) = join_ends (join_end b signal e region).build (join_end b signal e region).signal region es

abbrev pub signalled : Build → Option Outlet → ℕ → Port → Build
signalled b None place port = b
signalled b (Some o) place port = connected b o place port

-- CONDITIONALS, from the last one to the first one
pub record Closing : Type 0 where
  pub build : Build
  pub ends : List End

abbrev pub closing : Build → List End → Closing
closing b ends = record { build = b; ends = ends }

-- the copy in which it ends, to which the signals of the arms go
abbrev pub copied : Build → Option Outlet → Option Outlet → List End → Region → Closing
copied b first second ends region = closing (signalled (signalled (quieted b Copy region) first (length b.instrs) Left) second (length b.instrs) Left)
    (ends ++ end_at region (first_of (length b.instrs)) ∷ [])

-- none where neither arm has an end
abbrev pub ended : Build → Option Outlet → Option Outlet → List End → Region → Closing
ended b None None ends region = closing b ends
ended b None (Some o) ends region = copied b None (Some o) ends region
ended b (Some o) second ends region = copied b (Some o) second ends region

-- with the signal of the one arm
abbrev pub closed_with : Signalled → List End → ℕ → Region → Closing
closed_with s ends k region = ended (join_ends s.build None (Arm k false) ends).build s.signal (join_ends s.build None (Arm k false) ends).signal ends region

unfoldable pub closed : Build → List End → ℕ → Region → Closing
closed b ends k region = closed_with (join_ends b None (Arm k true) ends) ends k region

abbrev pub closed_kind : Closing → ℕ → Kind ℕ → Region → Closing
closed_kind c n Cond region = closed c.build c.ends n region
closed_kind c n kind region = c

abbrev pub closed_node : Closing → ℕ → Node ℕ → Closing
closed_node c n node = closed_kind c n node.kind node.region

unfoldable pub closed_nodes : Closing → ℕ → List (Node ℕ) → Closing
closed_nodes c n [] = c
closed_nodes c n (node ∷ nodes) = closed_node (closed_nodes c (n + 1) nodes) n node

-- BLOCKS
abbrev pub released_by : Signalled → ℕ → Build
released_by s offset = signalled (behind s.build (first_of 0) (Release offset) Root) s.signal (length s.build.instrs) Right

unfoldable pub released : Build → List End → ℕ → Build
released b ends offset = released_by (join_ends b None Root ends) offset
