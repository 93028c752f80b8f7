-- A run, one activity at a time, of the first token in the list that can act.
use Rattle.std.specs.Prelude.{ℕ, zero, suc, ◌+◌, Bool, true, false, ◌&&◌, ◌==◌, ℤ, List, [], ◌∷◌, ◌++◌, map, length, Option, Some, None, slice_get}
use Rattle.std.specs.Prelude.{if◌then◌else◌}
use Rattle.tags.specs.declared.value.Value.{Value}
use Rattle.tags.specs.declared.value.Value.TheVariants.{Int}
use Rattle.semantics.specs.Graph.{Graph, Block, place_of, block_names}
use Rattle.oracle.specs.declared.invocations.Made.{Made}
use Rattle.oracle.specs.declared.invocations.Made.TheVariants.{Main, Called, Turned}
use Rattle.oracle.specs.declared.invocations.Invocation.{Invocation}
use Rattle.oracle.specs.declared.shapes.Shape.{Shape}
use Rattle.oracle.specs.Deeds.{Deed, Sends, Steers, Enters, EntersAll, Stops, Reads, Fills, Puts}
use Rattle.oracle.specs.declared.state.Gate.TheVariants.{Free, Defers, Clashes}
use Rattle.oracle.specs.declared.tokens.Spot.TheVariants.{Operand}
use Rattle.oracle.specs.declared.tokens.Token.{Token}
use Rattle.oracle.specs.declared.sending.Sent.{Sent}
use Rattle.oracle.specs.declared.report.MeanEnd.{MeanEnd}
use Rattle.oracle.specs.declared.report.MeanEnd.TheVariants.{Rest, Clash, Steps}
use Rattle.oracle.specs.declared.report.Full.{Full}
use Rattle.oracle.specs.Lines.{shape_in, spots_in, outputs_at}
use Rattle.oracle.specs.Sending.{sent_tokens, steered_tokens, entering_tokens, token_at}
use Rattle.oracle.specs.Acting.{all_there, remaining_of, values_of, deed_in, gate_of, held_in, filled_in}

pub record Plain : Type 0 where
  pub invocations : List Invocation
  pub fresh : List Token
  pub waiting : List Token
  pub deferred : List Token
  pub cells : List (Option Value)
  pub outputs : List (Option Value)

abbrev pub plain : List Invocation → List Token → List Token → List Token → List (Option Value) → List (Option Value) → Plain
plain xs fresh waiting deferred cells outputs = record {
  invocations = xs;
  fresh = fresh;
  waiting = waiting;
  deferred = deferred;
  cells = cells;
  outputs = outputs;
}

-- JOINING a token with its partners
pub data Matched : Type 0 where
  Alone : Matched
  Joins : (left : List Token) (values : List Value) (deed : Deed) → Matched
  Fails : Matched

abbrev pub joins : List Token → List Value → Option Deed → Matched
joins left vs None = Fails
joins left vs (Some d) = Joins left vs d

abbrev pub join_values : Graph → List Token → Token → Invocation → Shape → List Value → Matched
join_values g w t x shape vs = if length vs == length (spots_in shape) then joins (remaining_of t (spots_in shape) w) vs
    (deed_in g t.context x shape vs) else Fails

abbrev pub join_all : Graph → List Token → Token → Invocation → Shape → Matched
join_all g w t x shape =
    join_values g w t x shape (values_of t (spots_in shape) w)

abbrev pub join_shape : Graph → List Token → Token → Invocation → Option Shape → Matched
join_shape g w t x None = Alone
join_shape g w t x (Some shape) = if all_there t (spots_in shape) w then join_all g w t x shape else Alone

abbrev pub join_in : Graph → List Token → Token → Option Invocation → Matched
join_in g w t None = Alone
join_in g w t (Some x) = join_shape g w t x (shape_in g x.made x.block t.spot)

abbrev pub join_of : Graph → List Invocation → List Token → Token → Matched
join_of g xs w t = join_in g w t (slice_get xs t.context)

-- WHAT COMES NEXT
pub data Came : Type 0 where
  Acts : (state : Plain) (values : List Value) (deed : Deed) → Came
  Ends : (state : Plain) (end : MeanEnd) → Came
  Broken : Came

abbrev pub next_of : Graph → List Invocation → List (Option Value) → List (Option Value) → List Token → List Token → List Token → Came
next_of g xs cells outputs [] w d = Ends (plain xs [] w d cells outputs) Rest
next_of g xs cells outputs (t ∷ ts) w d =
    elim (join_of g xs w t) [
      | Alone ↦ next_of g xs cells outputs ts (w ++ t ∷ []) d
      | Joins left vs deed ↦ elim (gate_of cells deed) [
        | Free ↦ Acts (plain xs ts left d cells outputs) vs deed
        | Defers ↦ next_of g xs cells outputs ts left (d ++ t ∷ [])
        | Clashes a i ↦ Ends (plain xs ts left d cells outputs) (Clash a i)
      ]
      | Fails ↦ Broken
    ]

-- INVOCATIONS
abbrev pub same_made : Made → Made → Bool
same_made Main Main = true
same_made (Called c n) (Called d m) = (c == d) && (n == m)
same_made (Turned c n i) (Turned d m j) = (c == d) && (n == m) && (i == j)
same_made x y = false

abbrev pub made_from : Made → ℕ → List Invocation → Option ℕ
made_from made i [] = None
made_from made i (x ∷ xs) = if same_made x.made made then Some i else made_from made (i + 1) xs

abbrev pub number_or : List Invocation → Option ℕ → ℕ
number_or xs None = length xs
number_or xs (Some i) = i

abbrev pub more_if : List Invocation → Made → ℕ → Option ℕ → List Invocation
more_if xs made block None = xs ++ record { made = made; block = block } ∷ []
more_if xs made block (Some i) = xs

abbrev pub number_in : List Invocation → Made → ℕ
number_in xs made = number_or xs (made_from made 0 xs)

abbrev pub with_made : List Invocation → Made → ℕ → List Invocation
with_made xs made block = more_if xs made block (made_from made 0 xs)

-- PERFORMING
abbrev pub sent_by : Sent → Made → ℕ → ℕ → Option (List ℕ × Block (List ℕ)) → List Token
sent_by x made n p None = []
sent_by x made n p (Some b) = sent_tokens x made n p b.1

abbrev pub sent_if : Graph → Sent → ℕ → ℕ → Option Invocation → List Token
sent_if g x n p None = []
sent_if g x n p (Some i) = sent_by x i.made n p (slice_get g.blocks i.block)

abbrev pub sent_in : Graph → List Invocation → Sent → ℕ → ℕ → List Token
sent_in g xs x n p = sent_if g x n p (slice_get xs x.context)

abbrev pub steered_by : Sent → ℕ → Option (List ℕ × Block (List ℕ)) → List Token
steered_by x k None = []
steered_by x k (Some b) = steered_tokens x k b.1.inputs b.1.nodes

abbrev pub steered_if : Graph → Sent → ℕ → Option Invocation → List Token
steered_if g x k None = []
steered_if g x k (Some i) = steered_by x k (slice_get g.blocks i.block)

abbrev pub steered_in : Graph → List Invocation → Sent → ℕ → List Token
steered_in g xs x k = steered_if g x k (slice_get xs x.context)

abbrev pub sent_of : ℕ → Value → Sent
sent_of c v = record { context = c; value = v }

abbrev pub answered : Graph → List Invocation → ℕ → ℕ → Option Value → List Token
answered g xs c n None = []
answered g xs c n (Some v) = sent_in g xs (sent_of c v) n 0

-- a value enters an invocation, which is made if it does not exist
abbrev pub entered : Plain → Made → ℕ → ℕ → Value → Plain
entered s made f i v = plain (with_made s.invocations made f) (s.fresh ++ token_at (sent_of (number_in s.invocations made) v) (Operand i 0) ∷ [])
    s.waiting s.deferred s.cells s.outputs

abbrev pub performed : Graph → Plain → List Value → Deed → Plain
performed g s vs (Sends c n p v) = plain s.invocations (s.fresh ++ sent_in g s.invocations (sent_of c v) n p) s.waiting s.deferred s.cells s.outputs
performed g s vs (Steers c k v) = plain s.invocations (s.fresh ++ steered_in g s.invocations (sent_of c v) k) s.waiting s.deferred s.cells s.outputs
performed g s vs (Enters made f i v) = entered s made f i v
performed g s vs (EntersAll made f) = plain (with_made s.invocations made f) (s.fresh ++ entering_tokens (number_in s.invocations made) 0 vs)
    s.waiting s.deferred s.cells s.outputs
performed g s vs Stops = s
performed g s vs (Reads c n x) = plain s.invocations (s.fresh ++ answered g s.invocations c n (held_in s.cells x)) s.waiting s.deferred s.cells s.outputs
performed g s vs (Fills c n x a i v) = plain s.invocations ((s.fresh ++ s.deferred) ++ sent_in g s.invocations (sent_of c v) n 0) s.waiting []
    (filled_in s.cells x v) s.outputs
performed g s vs (Puts j v) = plain s.invocations s.fresh s.waiting s.deferred s.cells (filled_in s.outputs j v)

-- A RUN of at most a given number of activities
abbrev pub next_in : Graph → Plain → Came
next_in g s = next_of g s.invocations s.cells s.outputs s.fresh s.waiting s.deferred

abbrev pub run_of : Graph → ℕ → Plain → Option (MeanEnd × Plain)
run_of g zero s = elim (next_in g s) [ Acts t vs d ↦ Some (Steps, t) | Ends t e ↦ Some (e, t) | Broken ↦ None ]
run_of g (suc k) s = elim (next_in g s) [ Acts t vs d ↦ run_of g k (performed g t vs d) | Ends t e ↦ Some (e, t) | Broken ↦ None ]

abbrev pub nones : ℕ → List (Option Value)
nones zero = []
nones (suc n) = None ∷ nones n

abbrev pub no_cells : List (List ℕ × ℕ) → List (Option Value)
no_cells [] = []
no_cells (a ∷ as') = nones a.1 ++ no_cells as'

abbrev pub main_place : Graph → ℕ
main_place g = place_of g.main (block_names g)

abbrev pub start_of : Graph → List ℤ → Plain
start_of g inputs =
    plain (record { made = Main; block = main_place g } ∷ []) (entering_tokens 0 0 (map (λ (z : ℤ). Int z) inputs)) [] []
    (no_cells g.arrays) (nones (outputs_at g (main_place g)))

-- THE REPORT
abbrev pub full_if : ℕ → ℕ → Option Value → List Full
full_if a i None = []
full_if a i (Some v) = record { array = a; index = i; value = v } ∷ []

-- from cell x on, which is index i of array a, a given number of cells
abbrev pub full_from : List (Option Value) → ℕ → ℕ → ℕ → ℕ → List Full
full_from cells a x i zero = []
full_from cells a x i (suc n) = full_if a i (held_in cells x) ++ full_from cells a (x + 1) (i + 1) n

abbrev pub full_in : List (Option Value) → ℕ → ℕ → List (List ℕ × ℕ) → List Full
full_in cells a x [] = []
full_in cells a x (b ∷ bs) = full_from cells a x 0 b.1 ++ full_in cells (a + 1) (x + b.1) bs

-- how the run ends, its outputs, and its full cells
abbrev pub end_result_of : Graph → Option (MeanEnd × Plain) → Option (MeanEnd × List (Option Value) × List Full)
end_result_of g None = None
end_result_of g (Some r) = Some (r.0, r.1.outputs, full_in r.1.cells 0 0 g.arrays)

abbrev pub run_result : Graph → List ℤ → ℕ → Option (MeanEnd × List (Option Value) × List Full)
run_result g inputs steps = end_result_of g (run_of g steps (start_of g inputs))
