-- The code of each kind of node, added to what there is.
use Rattle.std.specs.Prelude.{ℕ, ◌+◌, Bool, List, [], ◌∷◌, length, if◌then◌else◌}
use Rattle.tags.specs.declared.value.Origin.{Origin}
use Rattle.tags.specs.declared.token.Port.TheVariants.{Left}
use Rattle.semantics.specs.declared.graph.Region.{Region}
use Rattle.semantics.specs.declared.graph.Region.TheVariants.{Arm}
use Rattle.semantics.specs.declared.graph.Source.{Source}
use Rattle.semantics.specs.declared.program.Mark.TheVariants.{Unmarked, OfCond}
use Rattle.semantics.specs.declared.program.Op.{Op}
use Rattle.semantics.specs.declared.program.Op.TheVariants.{Copy, Sync, Switch, Frame, Link, Send, Open, Take, Give, Drain}
use Rattle.schemas.specs.declared.builder.Outlet.{Outlet}
use Rattle.schemas.specs.Builds.{Build, nowhere, first_of, second_of, added, quieted, connected, outlet_of, trigger_of, exited, behind, meeting}
use Rattle.schemas.specs.Builds.{operands, alternatives, copies, first_source}

abbrev pub operator : Build → Op → Origin → Region → List Source → Build
operator b op origin region ss = exited (operands (added b op origin Unmarked region) (length b.instrs) 0 ss) (first_of (length b.instrs))

-- what has a copy after the instruction that was added last
abbrev pub copied : Build → ℕ → Region → Build
copied b place region = exited (behind b (first_of place) Copy region) (first_of (length b.instrs))

abbrev pub shared_answer : Build → Op → Origin → Region → List Source → Build
shared_answer b op origin region ss = copied (operands (added b op origin Unmarked region) (length b.instrs) 0 ss) (length b.instrs) region

abbrev pub trigger_switch : Build → ℕ → Region → List Source → Build
trigger_switch b k region ss = exited (meeting b Switch (OfCond k) region (outlet_of b (first_source ss)) (outlet_of b (first_source ss)))
    (first_of (length b.instrs))

-- where nothing takes a trigger, it has no instruction
abbrev pub conditional : Build → Bool → ℕ → Region → List Source → Build
conditional b triggered k region ss = if triggered then trigger_switch b k region ss else exited b nowhere

abbrev pub enter : Build → ℕ → Bool → List Source → Source → Build
enter b k side ss predicate =
    exited (meeting b Switch (OfCond k) (Arm k side) (outlet_of b (first_source ss)) (outlet_of b predicate))
    (if side then first_of (length b.instrs) else second_of (length b.instrs))

abbrev pub merge : Build → Region → List Source → Build
merge b region ss = exited (alternatives (quieted b Copy region) (length b.instrs) ss) (first_of (length b.instrs))

-- INVOCATIONS
abbrev pub sends : Build → Outlet → ℕ → Region → ℕ → List Source → Build
sends b frame block region from [] = b
sends b frame block region from (s ∷ ss) = sends (meeting b (Send block (from + 1)) Unmarked region frame (outlet_of b s)) frame block region (from + 1) ss

-- the copies of a landing, to which a link at that place leads
abbrev pub landed : Build → ℕ → ℕ → Region → Build
landed b link outputs region = exited (connected (copies b region outputs) (first_of link) (length b.instrs) Left) (first_of (length b.instrs))

-- with the copy of the frame at that place
abbrev pub linked : Build → ℕ → ℕ → ℕ → Region → List Source → Build
linked b copy block outputs region ss = landed (sends (behind b (first_of copy) (Link block) region) (first_of copy) block region 0 ss)
    (length b.instrs) outputs region

abbrev pub invoke : Build → ℕ → ℕ → ℕ → Region → List Source → Build
invoke b frame block outputs region ss = linked (behind b (first_of frame) Copy region) (length b.instrs) block outputs region ss

unfoldable pub called : Build → Outlet → ℕ → ℕ → Region → List Source → Build
called b signal block outputs region ss = quieted (invoke (behind b signal Frame region) (length b.instrs) block outputs region ss) Copy region

abbrev pub call : Build → ℕ → ℕ → Region → List Source → Build
call b block outputs region ss = called b (trigger_of b region) block outputs region ss

-- JOINS
pub record Joined : Type 0 where
  pub build : Build
  pub signal : Outlet

abbrev pub join_sources : Build → Outlet → Region → List Source → Joined
join_sources b signal region [] = record { build = b; signal = signal }
join_sources b signal region (s ∷ ss) = join_sources (meeting b Sync Unmarked region signal (outlet_of b s)) (first_of (length b.instrs)) region ss

abbrev pub called_by : Joined → ℕ → ℕ → Region → List Source → Build
called_by j block outputs region ss = called j.build j.signal block outputs region ss

abbrev pub strict_call : Build → ℕ → ℕ → Region → List Source → Build
strict_call b block outputs region [] = b
strict_call b block outputs region (s ∷ ss) = called_by (join_sources b (outlet_of b s) region ss) block outputs region (s ∷ ss)

-- LOOPS
-- with `give` at that place and `drain` at that one
abbrev pub ended : Build → ℕ → ℕ → Region → Build
ended b give drain region = connected (behind b (first_of give) Copy region) (first_of drain) (length b.instrs) Left

-- with `give` at that place
abbrev pub drained : Build → ℕ → ℕ → Region → Build
drained b give bound region = ended (quieted b (Drain bound) region) give (length b.instrs) region

abbrev pub credits : Build → ℕ → Region → Build
credits b bound region = drained (quieted (quieted b (Give bound) region) (Take bound) region) (length b.instrs) bound region

-- with `open` at that place
abbrev pub opened : Build → ℕ → ℕ → ℕ → Region → List Source → Build
opened b at block bound region ss = credits (invoke (behind b (first_of at) Frame region) (length b.instrs) block (length ss) region ss) bound region

abbrev pub repeat : Build → ℕ → ℕ → Region → List Source → Build
repeat b block bound region ss = opened (behind b (trigger_of b region) (Open bound) region) (length b.instrs) block bound region ss
