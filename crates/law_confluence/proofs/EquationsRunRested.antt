-- A whole run that came to rest, with what is known of all runs, and what follows from where its tokens came from.
use Rattle.std.proofs.Common.{◌≡◌, ℕ, ◌⊎◌, ℤ, List, [], ◌∷◌, ◌++◌, length, Some, flat_map, inl, inr, refl, sym, ap, ◌∙◌, subst, ⊎_elim, Contains}
use Rattle.std.proofs.lemmas.List.Sorted.{IsPermutation-sym}
use Rattle.std.proofs.lemmas.Option.{same_Some}
use Rattle.tags.specs.declared.value.Value.{Value}
use Rattle.semantics.specs.Graph.{Block, Flow}
use Rattle.semantics.specs.Meaning.{Context, Main, Tagged, tagged, Statement, Port, State, Memory, Effect, Activity, taken, Deed, Says, Reads, Fills, Puts}
use Rattle.semantics.specs.Meaning.{Message, Sends, tokens_of, adds, deed, done, Step, Run, Stood, Due, ArmsTaken, arms_round, start, block_of}
use Rattle.semantics.specs.Graph.{node_count}
use Rattle.semantics.specs.declared.graph.Region.{Region}
use Rattle.law_confluence.specs.Outcome.{SameTag}
use Rattle.lemmas.proofs.Permutations.{Within, Each, within_append, within_left, within_right, within_flat_map, within_from, within_to, within_permutation}
use Rattle.lemmas.proofs.Permutations.{put_first, put_later}
use Rattle.law_confluence.proofs.ActivityKeys.{Unique, unique_same}
use Rattle.law_confluence.proofs.ActivityDeeds.{CellsKept, full_of}
use Rattle.law_confluence.proofs.ActivityDiamond.{deed_of}
use Rattle.law_confluence.proofs.HistoryRuns.{run_cells}
use Rattle.law_confluence.proofs.HistoryLaws.{IsFlowWell, Lawful}
use Rattle.law_confluence.proofs.History.{stood_ever}
use Rattle.law_confluence.proofs.HistoryDue.{ever_stood}
use Rattle.law_confluence.specs.EquationsHave.{SaysIn, Gives}
use Rattle.law_confluence.proofs.EquationsGraphForms.{IsShaped}
use Rattle.law_confluence.proofs.EquationsRunSaid.{added}

pub record Rested : Type 0 where
  pub flow : Flow
  pub inputs : List ℤ
  pub run : List Activity
  pub state : State
  pub is_run : Run flow (start inputs) run state
  pub well : IsFlowWell flow
  pub shaped : IsShaped flow
  pub main : Block ℕ
  pub is_main : block_of flow Main ≡ Some main
  pub count : length inputs ≡ main.inputs
  pub unique : Unique (flat_map taken run ++ state.tokens)
  pub lawful : (x : Tagged) → Stood flow (start inputs) run state is_run x → Lawful flow (Stood flow (start inputs) run state is_run) x
  pub due : (x : Tagged) → Stood flow (start inputs) run state is_run x → Due flow run (Stood flow (start inputs) run state is_run) x.context
  pub happens : (a : Activity) (d : Deed) → deed flow a ≡ Some d → Each (Stood flow (start inputs) run state is_run) (taken a) → Within a run

-- a token that was present
abbrev pub Came : Rested → Tagged → Type 0
Came z x = Stood z.flow (start z.inputs) z.run z.state z.is_run x

abbrev pub IsDueIn : Rested → Context → Type 0
IsDueIn z c = Due z.flow z.run (Came z) c

abbrev pub GivesIn : Rested → Context → ℕ → ℕ → Value → Type 0
GivesIn z c n p v = Gives z.flow z.run z.state.memory c n p v

-- all conditionals round a region took its sides
abbrev pub RegionTaken : Rested → Context → Block ℕ → Region → Type 0
RegionTaken z c b r = ArmsTaken (Came z) c (arms_round (node_count b) b r)

-- what an activity of the run says
pub record Said (fl : Flow) (run : List Activity) (m : Memory) (x : Tagged) : Type 0 where
  pub activity : Activity
  pub does : Deed
  pub message : Message
  pub in_run : Within activity run
  pub is_deed : deed fl activity ≡ Some does
  pub says : SaysIn m does message
  pub inside : Within x (tokens_of fl message)

abbrev pub SaidIn : Rested → Tagged → Type 0
SaidIn z x = Said z.flow z.run z.state.memory x

-- a deed that is done says a message, or puts an output
pub meant : (fl : Flow) (m n : Memory) (d : Deed) (E : Effect) → CellsKept m n → done fl m d ≡ Some E
    → ((y : Message) × SaysIn n d y × (E.added ≡ tokens_of fl y)) ⊎ ((j : ℕ) × (v : Value) × (d ≡ Puts j v) × (E.added ≡ []))
meant fl m n (Says y) E keeps e = inl (y, refl, added fl m n (Says y) E y keeps e refl)
meant fl m n (Reads c k x) E keeps e =
    let f = full_of (m.cells x) (λ v. adds (tokens_of fl (Sends c k 0 v)) m) E e in
    let says : SaysIn n (Reads c k x) (Sends c k 0 f.0) = (f.0, keeps x f.0 f.1, refl) in
    inl (Sends c k 0 f.0, says, added fl m n (Reads c k x) E (Sends c k 0 f.0) keeps e says)
meant fl m n (Fills c k x v) E keeps e = inl (Sends c k 0 v, refl, added fl m n (Fills c k x v) E (Sends c k 0 v) keeps e refl)
meant fl m n (Puts j v) E keeps e = inr (j, v, refl, ap (λ (E : Effect). E.added) (sym (same_Some _ E e)))

later_said : (fl : Flow) (a : Activity) (run : List Activity) (m : Memory) (x : Tagged) → Said fl run m x → Said fl (a ∷ run) m x
later_said fl a run m x h = record {
  activity = h.activity;
  does = h.does;
  message = h.message;
  in_run = (a ∷ h.in_run.0, put_later h.activity a h.in_run.0 run h.in_run.1);
  is_deed = h.is_deed;
  says = h.says;
  inside = h.inside;
}

step_from : (fl : Flow) (s t u : State) (a : Activity) (run : List Activity) (q : Step fl a s t) → CellsKept s.memory u.memory → (x : Tagged)
    → Contains t.tokens x → Contains s.tokens x ⊎ Said fl (a ∷ run) u.memory x
step_from fl s t u a run q keeps x k =
    let d = deed_of fl s.memory a q.does q.allowed in
    let there = within_permutation x t.tokens (q.does.added ++ q.rest) q.leaves (within_from x t.tokens k) in
    ⊎_elim (λ (l : Within x q.does.added).
    ⊎_elim (λ (y : (y : Message) × SaysIn u.memory d.0 y × (q.does.added ≡ tokens_of fl y)). inr record {
      activity = a;
      does = d.0;
      message = y.0;
      in_run = (run, put_first a run);
      is_deed = d.1;
      says = y.1;
      inside = subst (λ l. Within x l) y.2 l;
    })
    (λ none. absurd ((subst (λ l. Within x l) none.3 l).1))
    (meant fl s.memory u.memory d.0 q.does keeps d.2))
    (λ l. inl (within_to x s.tokens (within_permutation x (taken a ++ q.rest) s.tokens (IsPermutation-sym _ _ q.takes) (within_right x (taken a) q.rest l))))
    (within_append x q.does.added q.rest there)

-- a token that was present was there at first, or an activity said it
pub run_from : (fl : Flow) (s t : State) (run : List Activity) (r : Run fl s run t) (x : Tagged) → Stood fl s run t r x
    → Contains s.tokens x ⊎ Said fl run t.memory x
run_from fl s t [] r x h = inl (within_to x s.tokens (within_permutation x t.tokens s.tokens (IsPermutation-sym _ _ r.0) (within_from x t.tokens h)))
run_from fl s t (a ∷ run) r x (inl h) = inl h
run_from fl s t (a ∷ run) r x (inr h) =
    ⊎_elim (λ k. step_from fl s r.0 t a run r.1 (run_cells fl s t (a ∷ run) r) x k)
    (λ k. inr (later_said fl a run t.memory x k))
    (run_from fl r.0 t run r.2 x h)

-- an activity of a run says a message, or puts an output
pub run_told : (fl : Flow) (s t : State) (run : List Activity) (r : Run fl s run t) (a : Activity) → Within a run → (d : Deed) → deed fl a ≡ Some d
    → ((y : Message) × SaysIn t.memory d y) ⊎ ((j : ℕ) × (v : Value) × (d ≡ Puts j v))
run_told fl s t [] r a h d e = absurd h.1
run_told fl s t (b ∷ run) r a (zs, inl h) d e =
    let its = deed_of fl s.memory b r.1.does r.1.allowed in
    let same : its.0 ≡ d = same_Some its.0 d (sym its.1 ∙ ap (λ a. deed fl a) (sym h.0) ∙ e) in
    ⊎_elim (λ y. inl (y.0, y.1)) (λ p. inr (p.0, p.1, p.2))
    (meant fl s.memory t.memory d r.1.does (run_cells fl s t (b ∷ run) r) (subst (λ d. done fl s.memory d ≡ Some r.1.does) same its.2))
run_told fl s t (b ∷ run) r a (zs, inr h) d e = run_told fl r.0 t run r.2 a (h.0, h.2) d e

module _ (z : Rested) where
  pub from : (x : Tagged) → Came z x → Contains (start z.inputs).tokens x ⊎ SaidIn z x
  from x h = run_from z.flow (start z.inputs) z.state z.run z.is_run x h

  pub tells : (a : Activity) → Within a z.run → (d : Deed) → deed z.flow a ≡ Some d
      → ((y : Message) × SaysIn z.state.memory d y) ⊎ ((j : ℕ) × (v : Value) × (d ≡ Puts j v))
  tells a h d e = run_told z.flow (start z.inputs) z.state z.run z.is_run a h d e

  pub took : (a : Activity) → Within a z.run → (x : Tagged) → Within x (taken a) → Came z x
  took a h x k =
      ever_stood z.flow (start z.inputs) z.state z.run z.is_run x
      (within_left x (flat_map taken z.run) z.state.tokens (within_flat_map taken a x z.run h k))

  pub one : (x y : Tagged) → Came z x → Came z y → SameTag x y → x ≡ y
  one x y h k same =
      unique_same (flat_map taken z.run ++ z.state.tokens) z.unique x y (stood_ever z.flow (start z.inputs) z.state z.run z.is_run x h)
      (stood_ever z.flow (start z.inputs) z.state z.run z.is_run y k) same

  -- one value at one place
  pub one_at : (c : Context) (s : Statement) (q : Port) (v w : Value) → Came z (tagged c s q v) → Came z (tagged c s q w) → v ≡ w
  one_at c s q v w h k = ap (λ (x : Tagged). x.value) (one (tagged c s q v) (tagged c s q w) h k (refl, refl, refl))
