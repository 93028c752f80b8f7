-- How a block gives its outputs.
use Rattle.std.specs.Prelude.{ℕ, zero, suc, ◌+◌, true, false, List, [], ◌∷◌, length}
use Rattle.semantics.specs.declared.graph.Region.{Region}
use Rattle.semantics.specs.declared.graph.Region.TheVariants.{Root, Arm}
use Rattle.semantics.specs.declared.graph.Source.{Source}
use Rattle.semantics.specs.declared.program.Mark.TheVariants.{Unmarked, OfFlag}
use Rattle.semantics.specs.declared.program.Op.TheVariants.{Copy, Switch, Frame, Send, Return, Ask}
use Rattle.schemas.specs.declared.builder.Outlet.{Outlet}
use Rattle.schemas.specs.declared.tail.Turn.{Turn}
use Rattle.schemas.specs.Builds.{Build, outlet, first_of, second_of, outlet_of, behind, meeting}

-- PLAIN. One return for each output, from a first one on.
abbrev pub returns : Build → ℕ → List Source → Build
returns b from [] = b
returns b from (s ∷ ss) = returns (meeting b (Return from) Unmarked Root (first_of 0) (outlet_of b s)) (from + 1) ss

-- A LOOP VARIANT
abbrev pub switches : Build → Outlet → List Source → Build
switches b flag [] = b
switches b flag (s ∷ ss) = switches (meeting b Switch OfFlag Root (outlet_of b s) flag) flag ss

abbrev pub next_values : Build → ℕ → Region → Outlet → ℕ → ℕ → Build
next_values b block region frame values zero = b
next_values b block region frame values (suc n) = meeting (next_values b block region frame values n) (Send block (n + 1)) Unmarked region frame
    (outlet values n false)

abbrev pub last_values : Build → Region → Outlet → ℕ → ℕ → Build
last_values b region continuation values zero = b
last_values b region continuation values (suc n) = meeting (last_values b region continuation values n) (Return n) Unmarked region continuation
    (outlet values n true)

-- the switches of the continuation and of the flag
abbrev pub turned_continuation : Build → Outlet → Build
turned_continuation b flag = meeting b Switch OfFlag Root (first_of 0) flag

abbrev pub turned_flag : Build → Outlet → Build
turned_flag b flag = meeting (turned_continuation b flag) Switch OfFlag Root flag flag

unfoldable pub turning : Build → Outlet → List Source → Build
turning b flag values = switches (turned_flag b flag) flag values

unfoldable pub turn_of : Build → Outlet → ℕ → Turn
turn_of b flag count = record {
  continuation = length b.instrs;
  flag = length (turned_continuation b flag).instrs;
  values = length (turned_flag b flag).instrs;
  count = count;
}

-- with the copy of the frame at that place
abbrev pub sent : Build → ℕ → ℕ → Region → Turn → Build
sent b copy block region t = next_values (meeting b (Send block 0) Unmarked region (first_of copy) (first_of t.continuation)) block region
    (first_of copy) t.values t.count

-- with `frame` at that place
abbrev pub framed : Build → ℕ → ℕ → Region → Turn → Build
framed b frame block region t = sent (behind b (first_of frame) Copy Root) (length b.instrs) block region t

-- with `ask` at that place
abbrev pub asked : Build → ℕ → ℕ → Region → Turn → Build
asked b ask block region t = framed (behind b (first_of ask) Frame Root) (length b.instrs) block region t

unfoldable pub go_on : Build → ℕ → Region → Turn → Build
go_on b block region t = asked (meeting b (Ask (t.count + 1)) Unmarked Root (first_of t.continuation) (first_of t.flag)) (length b.instrs) block region t

unfoldable pub stop : Build → Region → Turn → Build
stop b region t = meeting (last_values b region (second_of t.continuation) t.values t.count) (Return (t.count + 2)) Unmarked region
    (second_of t.continuation) (second_of t.flag)

abbrev pub turned : Build → Turn → ℕ → ℕ → Build
turned b t block k = stop (go_on b block (Arm k true) t) (Arm k false) t

abbrev pub iterate : Build → ℕ → ℕ → List Source → Build
iterate b block k [] = b
iterate b block k (s ∷ ss) = turned (turning b (outlet_of b s) ss) (turn_of b (outlet_of b s) (length ss)) block k
