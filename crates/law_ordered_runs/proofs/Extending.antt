-- RUNS THAT GO ON: by an activity all of whose tokens have been present; and what stays so.
use Rattle.std.proofs.Common.{◌≡◌, ℕ, ◌⊎◌, ℤ, Bool, true, false, ◌==◌, eqb-true, List, [], ◌∷◌, ◌++◌, Some, Contains, flat_map, inl, inr, refl, sym, ap, ◌∙◌, subst, ⊎_elim, eq-eqb}
use Rattle.std.proofs.Common.{if◌then◌else◌}
use Rattle.std.proofs.lemmas.List.Concat.{flat_map-append}
use Rattle.std.proofs.lemmas.List.Elements.{Contains-append_left, Contains-append_right}
use Rattle.std.proofs.lemmas.List.Sorted.{IsPermutation-sym}
use Rattle.std.proofs.lemmas.Option.{same_Some}
use Rattle.tags.specs.declared.value.Value.{Value}
use Rattle.semantics.specs.Graph.{Graph, Flow, flow_of}
use Rattle.semantics.specs.WellFormed.{WellFormed}
use Rattle.semantics.specs.Meaning.{Context, Tagged, Memory, State, Effect, Activity, taken, Deed, Says, Reads, Fills, Puts, Message, Sends, tokens_of, adds}
use Rattle.semantics.specs.Meaning.{with_cell, done_if, deed, done, Step, Run, Stood, start}
use Rattle.lemmas.proofs.Contains.{contains_head, contains_cases, contains_none, contains_get}
use Rattle.lemmas.proofs.Permutations.{Within, Each, within_to, within_append, within_left, within_right, within_permutation}
use Rattle.law_confluence.specs.Outcome.{AreInputsOf}
use Rattle.law_confluence.specs.EquationsHave.{SaysIn, Gives}
use Rattle.law_confluence.proofs.ActivityDeeds.{CellsKept, empty_of, full_of}
use Rattle.law_confluence.proofs.ActivityDiamond.{deed_of}
use Rattle.law_confluence.proofs.OutcomeDeterminacy.{same_refl}
use Rattle.law_confluence.proofs.History.{stood_ever}
use Rattle.law_confluence.proofs.HistoryDue.{ever_stood}
use Rattle.law_confluence.proofs.HistoryRuns.{run_append, step_cells, run_cells}
use Rattle.law_confluence.proofs.EquationsRunSaid.{said_stood}
use Rattle.law_ordered_runs.specs.RunsGoOn.{Allows}
use Rattle.law_ordered_runs.proofs.GoingOn.{goes_on}

-- a run so far
pub record Going (g : Graph) (inputs : List ℤ) : Type 0 where
  pub run : List Activity
  pub state : State
  pub is_run : Run (flow_of g) (start inputs) run state

-- A store that has happened filled its cell.
pub fills_full : (fl : Flow) (s t : State) (run : List Activity) (r : Run fl s run t) (a : Activity) (c : Context) (n x : ℕ) (v : Value) → Contains run a
    → deed fl a ≡ Some (Fills c n x v) → t.memory.cells x ≡ Some v
fills_full fl s t [] r a c n x v h e = absurd (contains_none a h)
fills_full fl s t (b ∷ run) r a c n x v h e =
    ⊎_elim (λ f. now (subst (λ a. deed fl a ≡ Some (Fills c n x v)) (sym f) e)) (λ k. fills_full fl r.0 t run r.2 a c n x v k e) (contains_cases b run a h)
  where
    now : deed fl b ≡ Some (Fills c n x v) → t.memory.cells x ≡ Some v
    now f =
        let d = deed_of fl s.memory b r.1.does r.1.allowed in
        let same : d.0 ≡ Fills c n x v = same_Some d.0 (Fills c n x v) (sym d.1 ∙ f) in
        let empty = empty_of (s.memory.cells x) (adds (tokens_of fl (Sends c n 0 v)) (with_cell s.memory x v)) r.1.does
        (subst (λ d. done fl s.memory d ≡ Some r.1.does) same d.2) in
        let memory : with_cell s.memory x v ≡ r.1.does.memory = ap (λ (E : Effect). E.memory) (same_Some _ r.1.does empty.1) in
        run_cells fl r.0 t run r.2 x v
        (ap (λ (m : Memory). m.cells x) (r.1.memory ∙ sym memory) ∙ ap (λ (t : Bool). if t then Some v else s.memory.cells x) (eq-eqb x x refl))

module _ (g : Graph) (inputs : List ℤ) (well : WellFormed g) (count : AreInputsOf g inputs) where
  abbrev fl : Flow
  fl = flow_of g

  abbrev pub Came : Going g inputs → Tagged → Type 0
  Came x t = Stood fl (start inputs) x.run x.state x.is_run t

  -- one goes on to the other: what has happened, what has been present, and what is full stay so
  pub record On (x y : Going g inputs) : Type 0 where
    pub kept : (a : Activity) → Contains x.run a → Contains y.run a
    pub came : (t : Tagged) → Came x t → Came y t
    pub cells : CellsKept x.state.memory y.state.memory

  pub on_same : (x : Going g inputs) → On x x
  on_same x = record { kept = λ a h. h; came = λ t h. h; cells = λ q v e. e }

  pub on_then : (x y z : Going g inputs) → On x y → On y z → On x z
  on_then x y z h k = record {
    kept = λ a i. k.kept a (h.kept a i);
    came = λ t i. k.came t (h.came t i);
    cells = λ q v e. k.cells q v (h.cells q v e);
  }

  -- BY ONE STEP
  after : (x : Going g inputs) (a : Activity) (t : State) → Step fl a x.state t → Going g inputs
  after x a t p = record { run = x.run ++ a ∷ []; state = t; is_run = run_append fl (start inputs) x.state t x.run (a ∷ []) x.is_run (t, p, same_refl t) }

  came_after : (x : Going g inputs) (a : Activity) (t : State) (p : Step fl a x.state t) (u : Tagged) → Came x u → Came (after x a t p) u
  unfolding after
  came_after x a t p u h =
      ever_stood fl (start inputs) t (x.run ++ a ∷ []) (after x a t p).is_run u
      (⊎_elim (λ k. spent (within_left u (flat_map taken x.run) (flat_map taken (a ∷ [])) k)) there
      (within_append u (flat_map taken x.run) x.state.tokens (stood_ever fl (start inputs) x.state x.run x.is_run u h)))
    where
      spent : Within u (flat_map taken x.run ++ flat_map taken (a ∷ [])) → Within u (flat_map taken (x.run ++ a ∷ []) ++ t.tokens)
      spent k = within_left u (flat_map taken (x.run ++ a ∷ [])) t.tokens (subst (λ l. Within u l) (sym (flat_map-append taken x.run (a ∷ []))) k)

      there : Within u x.state.tokens → Within u (flat_map taken (x.run ++ a ∷ []) ++ t.tokens)
      there k =
          ⊎_elim (λ i. spent (within_right u (flat_map taken x.run) (flat_map taken (a ∷ [])) (within_left u (taken a) [] i)))
          (λ i. within_right u (flat_map taken (x.run ++ a ∷ [])) t.tokens
          (within_permutation u (p.does.added ++ p.rest) t.tokens (IsPermutation-sym _ _ p.leaves) (within_right u p.does.added p.rest i)))
          (within_append u (taken a) p.rest (within_permutation u x.state.tokens (taken a ++ p.rest) p.takes k))

  -- BY AN ACTIVITY all of whose tokens have been present: it has happened, or happens now
  pub record Extended (x : Going g inputs) (a : Activity) (d : Deed) : Type 0 where
    pub to : Going g inputs
    pub on : On x to
    pub grows : (to.run ≡ x.run) ⊎ (to.run ≡ x.run ++ a ∷ [])
    pub happened : Contains to.run a
    pub is_deed : deed fl a ≡ Some d
    pub memory : (to.state.memory ≡ x.state.memory) ⊎ ((E : Effect) × (done fl x.state.memory d ≡ Some E) × (to.state.memory ≡ E.memory))

  pub extend : (x : Going g inputs) (a : Activity) (d : Deed) → deed fl a ≡ Some d → Each (Came x) (taken a) → Allows x.state.memory d → Extended x a d
  unfolding after
  extend x a d e h ok = go (goes_on g inputs well count x.run x.state x.is_run a d e h ok)
    where
      go : Within a x.run ⊎ ((t : State) × Step fl a x.state t) → Extended x a d
      go (inl k) = record { to = x; on = on_same x; grows = inl refl; happened = within_to a x.run k; is_deed = e; memory = inl refl }
      go (inr p) = record {
        to = after x a p.0 p.1;
        on = record {
          kept = λ b k. Contains-append_left x.run (a ∷ []) b k;
          came = λ u k. came_after x a p.0 p.1 u k;
          cells = step_cells fl x.state p.0 a p.1;
        };
        grows = inr refl;
        happened = Contains-append_right x.run (a ∷ []) a (contains_head a []);
        is_deed = e;
        memory = inr (p.1.does, ap (λ o. done_if fl x.state.memory o) (sym e) ∙ p.1.allowed, p.1.memory);
      }

  -- WHAT AN ACTIVITY SAYS has been present as tokens.
  pub said_came : (x : Going g inputs) (a : Activity) (d : Deed) (y : Message) → Contains x.run a → deed fl a ≡ Some d → SaysIn x.state.memory d y
      → (t : Tagged) → Within t (tokens_of fl y) → Came x t
  said_came x a d y h e says t k =
      let at = contains_get x.run a h in said_stood fl (start inputs) x.state x.run x.is_run at.0 a d y at.1 e says t k

  -- A VALUE stays given.
  says_on : (m n : Memory) → CellsKept m n → (d : Deed) (y : Message) → SaysIn m d y → SaysIn n d y
  says_on m n keeps (Says x) y h = h
  says_on m n keeps (Reads c k x) y h = (h.0, keeps x h.0 h.1, h.2)
  says_on m n keeps (Fills c k x v) y h = h
  says_on m n keeps (Puts j v) y h = h

  pub gives_on : (x y : Going g inputs) → On x y → (c : Context) (n p : ℕ) (v : Value) → Gives fl x.run x.state.memory c n p v
      → Gives fl y.run y.state.memory c n p v
  gives_on x y on c n p v h = (h.0, h.1, on.kept h.0 h.2, h.3, says_on x.state.memory y.state.memory on.cells h.1 (Sends c n p v) h.4)

  -- A VALUE THAT IS SAID is given, and the memory is as before.
  pub said_gives : (x : Going g inputs) (a : Activity) (c : Context) (n p : ℕ) (v : Value) (e : Extended x a (Says (Sends c n p v)))
      → Gives fl e.to.run e.to.state.memory c n p v
  said_gives x a c n p v e = (a, Says (Sends c n p v), e.happened, e.is_deed, refl)

  pub said_memory : (x : Going g inputs) (a : Activity) (y : Message) (e : Extended x a (Says y)) → e.to.state.memory ≡ x.state.memory
  said_memory x a y e =
      ⊎_elim (λ h. h) (λ (h : (E : Effect) × (done fl x.state.memory (Says y) ≡ Some E) × (e.to.state.memory ≡ E.memory)).
      h.2 ∙ ap (λ (E : Effect). E.memory) (sym (same_Some _ h.0 h.1))) e.memory

  -- WHAT A FETCH READS is given, and the memory is as before.
  pub read_gives : (x : Going g inputs) (a : Activity) (c : Context) (n q : ℕ) (v : Value) (e : Extended x a (Reads c n q)) → x.state.memory.cells q ≡ Some v
      → Gives fl e.to.run e.to.state.memory c n 0 v
  read_gives x a c n q v e full = (a, Reads c n q, e.happened, e.is_deed, (v, e.on.cells q v full, refl))

  pub read_memory : (x : Going g inputs) (a : Activity) (c : Context) (n q : ℕ) (e : Extended x a (Reads c n q)) → e.to.state.memory ≡ x.state.memory
  read_memory x a c n q e =
      ⊎_elim (λ h. h) (λ (h : (E : Effect) × (done fl x.state.memory (Reads c n q) ≡ Some E) × (e.to.state.memory ≡ E.memory)).
      (let f = full_of (x.state.memory.cells q) (λ v. adds (tokens_of fl (Sends c n 0 v)) x.state.memory) h.0 h.1 in
      h.2 ∙ ap (λ (E : Effect). E.memory) (sym (same_Some _ h.0 f.2)))) e.memory

  -- WHAT A STORE FILLS is full, and given; each other cell is as before.
  pub filled_gives : (x : Going g inputs) (a : Activity) (c : Context) (n q : ℕ) (v : Value) (e : Extended x a (Fills c n q v))
      → Gives fl e.to.run e.to.state.memory c n 0 v
  filled_gives x a c n q v e = (a, Fills c n q v, e.happened, e.is_deed, refl)

  pub filled_full : (x : Going g inputs) (a : Activity) (c : Context) (n q : ℕ) (v : Value) (e : Extended x a (Fills c n q v))
      → e.to.state.memory.cells q ≡ Some v
  filled_full x a c n q v e = fills_full fl (start inputs) e.to.state e.to.run e.to.is_run a c n q v e.happened e.is_deed

  pub filled_other : (x : Going g inputs) (a : Activity) (c : Context) (n q : ℕ) (v : Value) (e : Extended x a (Fills c n q v)) (r : ℕ)
      → (e.to.state.memory.cells r ≡ x.state.memory.cells r) ⊎ (q ≡ r)
  filled_other x a c n q v e r =
      ⊎_elim (λ h. inl (ap (λ (m : Memory). m.cells r) h)) (λ (h : (E : Effect) × (done fl x.state.memory (Fills c n q v) ≡ Some E)
      × (e.to.state.memory ≡ E.memory)). changed h.0 h.1 h.2) e.memory
    where
      changed : (E : Effect) → done fl x.state.memory (Fills c n q v) ≡ Some E → e.to.state.memory ≡ E.memory
          → (e.to.state.memory.cells r ≡ x.state.memory.cells r) ⊎ (q ≡ r)
      changed E f h =
          let empty = empty_of (x.state.memory.cells q) (adds (tokens_of fl (Sends c n 0 v)) (with_cell x.state.memory q v)) E f in
          let memory : e.to.state.memory ≡ with_cell x.state.memory q v = h ∙ sym (ap (λ (E : Effect). E.memory) (same_Some _ E empty.1)) in
          go (q == r) refl (ap (λ (m : Memory). m.cells r) memory)
        where
          go : (t : Bool) → (q == r) ≡ t → e.to.state.memory.cells r ≡ (if q == r then Some v else x.state.memory.cells r)
              → (e.to.state.memory.cells r ≡ x.state.memory.cells r) ⊎ (q ≡ r)
          go true g k = inr (eqb-true q r g)
          go false g k = inl (k ∙ ap (λ (t : Bool). if t then Some v else x.state.memory.cells r) g)
