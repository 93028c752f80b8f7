-- Why a run asks: its frame requests and credits are for invocations that the meaning calls for, and loops keep their bounds.
use Rattle.std.specs.Prelude.{◌≡◌, ◌≢◌, ℕ, ◌+◌, ◌≤◌, Bool, true, false, ℤ, List, [], ◌∷◌, ◌++◌, map, length, Option, Some, None, slice_get, ◌==◌}
use Rattle.std.specs.Prelude.{if◌then◌else◌, flat_map, IsPermutation, All, count_by, sum, nat_lt}
use Rattle.tags.specs.declared.token.To.{To}
use Rattle.tags.specs.declared.token.Token.{Token}
use Rattle.semantics.specs.declared.graph.Kind.{Kind}
use Rattle.semantics.specs.declared.graph.Kind.TheVariants.{Loop}
use Rattle.semantics.specs.Graph.{Flow, Block, Node}
use Rattle.semantics.specs.Meaning as Meaning
use Rattle.semantics.specs.Meaning.{Context, Main, Called, Turned, State, Activity, Stood, Due}
use Rattle.semantics.specs.declared.program.Op.{Op}
use Rattle.semantics.specs.declared.program.Op.TheVariants.{Open, Take}
use Rattle.semantics.specs.Program.{Instr, CodeBlock, Program, instr_at}
use Rattle.semantics.specs.Machine.{Machine, Store, Events, value_in}

-- The filled outputs and the full cells, with their values, are the same.
pub record SameSeen (m : Store) (s : Meaning.Memory) : Type 0 where
  pub outputs : (j : ℕ) → m.outputs j ≡ s.outputs j
  pub cells : (x : ℕ) → value_in (m.cells x) ≡ s.cells x

-- how many frame requests a run took
abbrev pub is_request : To → Bool
is_request To.Manager = true
is_request to = false

abbrev pub request_count : Events → ℕ
request_count events = count_by (λ (ev : ℕ × Token). is_request ev.1.to) events

-- these invocations differ, and the run calls for each of them
abbrev pub AllDue : Flow → List Activity → (Meaning.Tagged → Type 0) → List Context → Type 0
AllDue fl run stood cs = All (λ c. Due fl run stood c × (c ≢ Main)) cs × ((i j : ℕ) (c : Context) → slice_get cs i ≡ Some c → slice_get cs j ≡ Some c → i ≡ j)

-- CREDITS. Each `open` and each `take` that happens grants a credit or waits for one, and a `give` to a waiter grants the
-- one that its `take` waited for: so these events are the credits granted or waited for.
abbrev pub seeks_credit : Option Instr → Bool
seeks_credit None = false
seeks_credit (Some i) = elim i.op as (λ x. Bool) [ Open k ↦ true | Take k ↦ true | _ ↦ false ]

abbrev pub is_credit_event : Program → To → Bool
is_credit_event p (To.Instr f ip q) = seeks_credit (instr_at p ip)
is_credit_event p to = false

abbrev pub credit_count : Program → Events → ℕ
credit_count p events = count_by (λ (ev : ℕ × Token). is_credit_event p ev.1.to) events

abbrev pub is_turn : Context → Bool
is_turn (Turned c n i) = true
is_turn c = false

-- The frame requests and the credits are for invocations that a run of the meaning calls for, each once.
pub record HasCause (fl : Flow) (p : Program) (inputs : List ℤ) (events : Events) (m : Machine) : Type 0 where
  pub run : List Activity
  pub state : State
  pub is_run : Meaning.Run fl (Meaning.start inputs) run state
  pub seen : SameSeen m.store state.memory
  pub due : List Context
  pub are_due : AllDue fl run (Stood fl (Meaning.start inputs) run state is_run) due
  pub enough : request_count events ≤ length due
  pub credits : credit_count p events ≤ count_by is_turn due

-- BOUNDS. The code blocks are the graph's blocks in order, and after them, once more, those that some loop names.
abbrev pub bounds_of : Kind ℕ → List ℕ
bounds_of (Loop f k) = k ∷ []
bounds_of kind = []

abbrev pub loop_bounds : Block ℕ → List ℕ
loop_bounds b = flat_map (λ (n : Node ℕ). bounds_of n.kind) b.nodes

abbrev pub opened_by : Op → List ℕ
opened_by (Open k) = k ∷ []
opened_by op = []

abbrev pub open_bounds : CodeBlock → List ℕ
open_bounds c = flat_map (λ (i : Instr). opened_by i.op) c.instrs

abbrev pub loops_to : ℕ → Kind ℕ → Bool
loops_to f (Loop g k) = g == f
loops_to f kind = false

abbrev pub is_looped : Flow → ℕ → Bool
is_looped fl f = nat_lt 0 (sum (map (λ (b : Block ℕ). count_by (λ (n : Node ℕ). loops_to f n.kind) b.nodes) fl.blocks))

abbrev pub looped_from : Flow → ℕ → List (Block ℕ) → List (Block ℕ)
looped_from fl f [] = []
looped_from fl f (b ∷ bs) = if is_looped fl f then b ∷ looped_from fl (f + 1) bs else looped_from fl (f + 1) bs

-- the graph block of each code block
abbrev pub coded_blocks : Flow → List (Block ℕ)
coded_blocks fl = fl.blocks ++ looped_from fl 0 fl.blocks

abbrev pub HasBounds : Flow → Program → Type 0
HasBounds fl p = (length p.blocks ≡ length (coded_blocks fl))
    × ((b : ℕ) (c : CodeBlock) (g : Block ℕ) → slice_get p.blocks b ≡ Some c → slice_get (coded_blocks fl) b ≡ Some g
    → IsPermutation (open_bounds c) (loop_bounds g))
