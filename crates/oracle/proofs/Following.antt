-- A run of numbered invocations follows a run of the meaning.
use Rattle.std.proofs.Common.{◌≡◌, ℕ, ◌<◌, ℤ, List, [], ◌∷◌, ◌++◌, map, length, Option, Some, IsPermutation, sym, subst, append_assoc, append-nil}
use Rattle.std.specs.Prelude.{⊤}
use Rattle.std.proofs.lemmas.List.Sorted.{IsPermutation-trans, IsPermutation-append_left, IsPermutation-append_right}
use Rattle.tags.specs.declared.value.Value.{Value}
use Rattle.semantics.specs.Graph.{Graph, flow_of}
use Rattle.semantics.specs.Meaning.{Context, State, Activity, taken, deed, Run, start}
use Rattle.lemmas.proofs.Permutations.{Each, permutation_exchange}
use Rattle.oracle.specs.declared.report.MeanEnd.{MeanEnd}
use Rattle.oracle.specs.declared.report.MeanEnd.TheVariants.{Rest, Clash, Steps}
use Rattle.oracle.specs.Deeds.{Deed, Puts}
use Rattle.oracle.specs.declared.state.Gate.TheVariants.{Free}
use Rattle.oracle.specs.declared.tokens.Token.{Token}
use Rattle.oracle.specs.Lines.{total_of, outputs_at}
use Rattle.oracle.specs.Acting.{gate_of, held_in}
use Rattle.oracle.specs.Running.{Plain, main_place, Came, Acts, Ends, Broken}
use Rattle.oracle.specs.Meant.{tagged_of, deed_of}
use Rattle.oracle.specs.Naming.{Named, IsKnown}
use Rattle.oracle.specs.Reporting.{IsEnd}
use Rattle.oracle.proofs.Apart.{MadesDiffer, EachMade}
use Rattle.oracle.proofs.Counted.{Touched, past_of}
use Rattle.oracle.proofs.Entering.{AreKnown}
use Rattle.oracle.proofs.Filling.{memory_of}
use Rattle.oracle.proofs.Turning.{DeedTurn}
use Rattle.oracle.proofs.Views.{TurnBelow}
use Rattle.oracle.proofs.Waiting.{Stuck, IsDeferred}

abbrev pub all_tokens : Plain → List Token
all_tokens s = s.fresh ++ (s.waiting ++ s.deferred)

-- the state of the meaning that a run's state stands for
abbrev pub meant : List Context → Plain → State
meant cs s = record { tokens = map (tagged_of cs) (all_tokens s); memory = memory_of s.cells s.outputs }

-- what holds of the invocations, the memory, and the tokens that were looked at
pub record Sound (g : Graph) (k : ℕ) (s : Plain) : Type 0 where
  pub names : List Context
  pub named : Named g s.invocations names
  pub differ : MadesDiffer s.invocations
  pub turns : EachMade (TurnBelow k) s.invocations
  pub known : AreKnown (length s.invocations) (all_tokens s)
  pub stuck : Stuck (flow_of g) (map (tagged_of names) s.waiting)
  pub defers : Each (IsDeferred (flow_of g) (held_in s.cells)) (map (tagged_of names) s.deferred)
  pub cell_count : length s.cells ≡ total_of g.arrays
  pub output_count : length s.outputs ≡ outputs_at g (main_place g)

-- k activities of the meaning lead to the state
pub record RunsSoFar (g : Graph) (inputs : List ℤ) (k : ℕ) (s : Plain) : Type 0 where
  pub sound : Sound g k s
  pub run : List Activity
  pub is_run : Run (flow_of g) (start inputs) run (meant sound.names s)
  pub count : length run ≡ k
  pub past : Touched (past_of run (meant sound.names s).tokens) sound.names

-- an output that a deed fills exists
abbrev pub PutLow : Deed → Plain → Type 0
PutLow (Puts j v) s = j < length s.outputs
PutLow d s = ⊤

-- k activities lead to a state in which an activity with this deed is enabled; its tokens are out already
pub record Ready (g : Graph) (inputs : List ℤ) (k : ℕ) (s : Plain) (vs : List Value) (d : Deed) : Type 0 where
  pub sound : Sound g k s
  pub run : List Activity
  pub old : State
  pub is_run : Run (flow_of g) (start inputs) run old
  pub count : length run ≡ k
  pub activity : Activity
  pub takes : IsPermutation old.tokens (taken activity ++ map (tagged_of sound.names) (all_tokens s))
  pub memory : old.memory ≡ memory_of s.cells s.outputs
  pub does : deed (flow_of g) activity ≡ Some (deed_of sound.names vs d)
  pub is_known : IsKnown g sound.names (length s.invocations) vs d
  pub free : gate_of s.cells d ≡ Free
  pub turn : DeedTurn k d
  pub put : PutLow d s
  pub some : 0 < length vs
  pub past : Touched (past_of run old.tokens) sound.names

-- k activities lead to a state with that memory, in which the run ends
pub record Ended (g : Graph) (inputs : List ℤ) (k : ℕ) (cells outputs : List (Option Value)) (e : MeanEnd) : Type 0 where
  pub run : List Activity
  pub state : State
  pub is_run : Run (flow_of g) (start inputs) run state
  pub count : length run ≡ k
  pub memory : state.memory ≡ memory_of cells outputs
  pub cell_count : length cells ≡ total_of g.arrays
  pub output_count : length outputs ≡ outputs_at g (main_place g)
  pub ended : IsEnd g k run state e

-- the same of a rest, and what the numbered invocations stand for
pub record Rested (g : Graph) (inputs : List ℤ) (k : ℕ) (s : Plain) : Type 0 where
  pub ended : Ended g inputs k s.cells s.outputs Rest
  pub names : List Context
  pub named : Named g s.invocations names
  pub differ : MadesDiffer s.invocations
  pub past : Touched (past_of ended.run ended.state.tokens) names
  pub stuck : s.deferred ≡ [] → Stuck (flow_of g) ended.state.tokens

abbrev pub Outcome : Graph → List ℤ → ℕ → Came → Type 0
Outcome g inputs k (Acts s vs d) = Ready g inputs k s vs d
Outcome g inputs k (Ends s Rest) = Rested g inputs k s
Outcome g inputs k (Ends s (Clash a i)) = Ended g inputs k s.cells s.outputs (Clash a i)
Outcome g inputs k (Ends s Steps) = ⊥
Outcome g inputs k Broken = ⊥

-- LISTS IN ANOTHER ORDER

pub moved_first : {X : Type 0} (t : X) (ts rest : List X) → IsPermutation (t ∷ (ts ++ rest)) (ts ++ (t ∷ rest))
moved_first t ts rest = permutation_exchange (t ∷ []) ts rest

-- the first of the fresh ones waits
pub to_waiting : {X : Type 0} (t : X) (ts w d : List X) → IsPermutation ((t ∷ ts) ++ (w ++ d)) (ts ++ ((w ++ t ∷ []) ++ d))
to_waiting t ts w d =
    IsPermutation-trans _ _ _ (moved_first t ts (w ++ d))
    (IsPermutation-append_right ts (t ∷ (w ++ d)) ((w ++ t ∷ []) ++ d) (subst (λ l. IsPermutation (t ∷ (w ++ d)) l) (sym (append_assoc w (t ∷ []) d))
    (moved_first t w d)))

-- the first of the fresh ones is deferred
pub to_deferred : {X : Type 0} (t : X) (ts w d : List X) → IsPermutation ((t ∷ ts) ++ (w ++ d)) (ts ++ (w ++ (d ++ t ∷ [])))
to_deferred {X} t ts w d =
    let one : IsPermutation (t ∷ (w ++ d)) (w ++ (t ∷ d)) = moved_first t w d in
    let last : IsPermutation (t ∷ d) (d ++ t ∷ []) = subst (λ l. IsPermutation (t ∷ l) (d ++ t ∷ [])) (append-nil d) (moved_first t d []) in
    IsPermutation-trans _ _ _ (moved_first t ts (w ++ d))
    (IsPermutation-append_right ts _ _ (IsPermutation-trans _ _ _ one (IsPermutation-append_right w _ _ last)))

-- the first of the fresh ones and its partners are taken out
pub to_taken : {X : Type 0} (t : X) (ts w d aa left : List X) → IsPermutation (t ∷ w) (aa ++ left)
    → IsPermutation ((t ∷ ts) ++ (w ++ d)) (aa ++ (ts ++ (left ++ d)))
to_taken t ts w d aa left p =
    let one : IsPermutation ((t ∷ w) ++ d) ((aa ++ left) ++ d) = IsPermutation-append_left d (t ∷ w) (aa ++ left) p in
    let two : IsPermutation (t ∷ (w ++ d)) (aa ++ (left ++ d)) = subst (λ l. IsPermutation (t ∷ (w ++ d)) l) (append_assoc aa left d) one in
    IsPermutation-trans _ _ _ (moved_first t ts (w ++ d)) (IsPermutation-trans _ _ _ (IsPermutation-append_right ts _ _ two)
    (permutation_exchange ts aa (left ++ d)))

-- new ones are after the fresh ones
pub to_fresh : {X : Type 0} (fresh new rest : List X) → IsPermutation ((fresh ++ new) ++ rest) (new ++ (fresh ++ rest))
to_fresh fresh new rest = subst (λ l. IsPermutation l (new ++ (fresh ++ rest))) (sym (append_assoc fresh new rest)) (permutation_exchange fresh new rest)

-- and the deferred ones with them
pub to_woken : {X : Type 0} (fresh w d new : List X) → IsPermutation (((fresh ++ d) ++ new) ++ (w ++ [])) (new ++ (fresh ++ (w ++ d)))
to_woken {X} fresh w d new =
    let one : IsPermutation (((fresh ++ d) ++ new) ++ (w ++ [])) (new ++ ((fresh ++ d) ++ (w ++ []))) = to_fresh (fresh ++ d) new (w ++ []) in
    let two : IsPermutation (d ++ (w ++ [])) (w ++ (d ++ [])) = permutation_exchange d w [] in
    let three : IsPermutation (fresh ++ (d ++ (w ++ []))) (fresh ++ (w ++ d)) = IsPermutation-append_right fresh _ _
    (subst (λ l. IsPermutation (d ++ (w ++ [])) (w ++ l)) (append-nil d) two) in
    IsPermutation-trans _ _ _ one (IsPermutation-append_right new _ _ (subst (λ l. IsPermutation l (fresh ++ (w ++ d)))
    (sym (append_assoc fresh d (w ++ []))) three))
