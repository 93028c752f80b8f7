-- The meaning follows each move of a net, where it follows each firing by itself, whatever else there is.
use Rattle.std.proofs.Common.{◌≡◌, List, ◌∷◌, ◌++◌, refl, sym, ap, ◌∙◌, subst, ℤ, append_assoc, []}
use Rattle.std.specs.Prelude.{IsPermutation, flat_map, ⊤}
use Rattle.std.proofs.lemmas.List.Concat.{flat_map-append}
use Rattle.std.proofs.lemmas.List.Sorted.{IsPermutation-refl, IsPermutation-trans, IsPermutation-append, IsPermutation-append_left}
use Rattle.semantics.specs.Graph.{Flow}
use Rattle.semantics.specs.Meaning as Meaning
use Rattle.semantics.specs.Meaning.{State, Activity, Tagged, Memory, Run, Reached, Leads, start, effect}
use Rattle.law_confluence.proofs.Orders.{at_last, flat_map-IsPermutation, shuffled, Part, ◌⊕◌}
use Rattle.law_confluence.proofs.Net.{NetConfig, NetMove, Waits, Fires}

-- a run from a state with the same tokens, in another order
pub run_from : (fl : Flow) (run : List Activity) (old mid new : State) → Meaning.Same old mid → Run fl mid run new → Run fl old run new
run_from fl [] old mid new s r = (IsPermutation-trans _ _ _ s.0 r.0, s.1 ∙ r.1)
run_from fl (a ∷ run) old mid new s r = (
  r.0,
  record {
    does = r.1.does;
    rest = r.1.rest;
    allowed = ap (λ m. effect fl m a) s.1 ∙ r.1.allowed;
    takes = IsPermutation-trans _ _ _ s.0 r.1.takes;
    leaves = r.1.leaves;
    memory = r.1.memory;
  },
  r.2,
)

-- one run after another
pub run_join : (fl : Flow) (first second : List Activity) (old mid new : State) → Run fl old first mid → Run fl mid second new
    → Run fl old (first ++ second) new
run_join fl [] second old mid new r s = run_from fl second old mid new r s
run_join fl (a ∷ first) second old mid new r s = (r.0, r.1, run_join fl first second r.0 mid new r.2 s)

abbrev pub state_of : List Tagged → Memory → State
state_of ts m = record { tokens = ts; memory = m }

module _ {I F : Type 0} (fl : Flow) (inputs : List ℤ) (takes makes : F → List I) (meant : I → List Tagged) (memory : List F → Memory) where
  -- the state of the meaning that the net stands for
  pub record NetMeans (c : NetConfig I F) (s : State) : Type 0 where
    pub reached : Reached fl inputs s
    pub tokens : IsPermutation s.tokens (flat_map meant (c.pending ++ c.waiting))
    pub memory_is : s.memory ≡ memory c.fired

  -- a firing is some activities, in any surroundings
  abbrev pub Simulates : F → List F → Type 0
  Simulates f fired = (rest : List Tagged)
      → Leads fl (state_of (flat_map meant (takes f) ++ rest) (memory fired)) (state_of (flat_map meant (makes f) ++ rest) (memory (f ∷ fired)))

  abbrev pub OnFires : NetConfig I F → (c d : NetConfig I F) → NetMove takes makes c d → Type 0
  OnFires e c d (Waits i rest p q) = ⊤
  OnFires e c d (Fires f now kept rest others p q both eq) = Simulates f e.fired

  -- THE MEANING FOLLOWS each move whose firing it follows
  pub net_means : (c d : NetConfig I F) (s : State) → NetMeans c s → (m : NetMove takes makes c d) → OnFires c c d m → (t : State) × NetMeans d t
  net_means c d s f (Waits i rest p e) sim = (
    s,
    subst (λ (d : NetConfig I F). NetMeans d s) (sym e) (record {
      reached = f.reached;
      tokens = IsPermutation-trans _ _ _ f.tokens (flat_map-IsPermutation meant _ _ (IsPermutation-trans _ _ _ (IsPermutation-append_left c.waiting _ _ p)
          (shuffled ((i ∷ []) ∷ rest ∷ c.waiting ∷ []) ((Part 0 ⊕ Part 1) ⊕ Part 2) (Part 1 ⊕ (Part 0 ⊕ Part 2)) refl)));
      memory_is = f.memory_is;
    }),
  )
  net_means c d s f (Fires g now kept rest others p q both e) sim =
      let frame = flat_map meant (rest ++ others) in
      let perm : IsPermutation (c.pending ++ c.waiting) (takes g ++ (rest ++ others)) =
      IsPermutation-trans _ _ _ (IsPermutation-append _ _ _ _ p q) (IsPermutation-trans _ _ _
      (shuffled (now ∷ rest ∷ kept ∷ others ∷ []) ((Part 0 ⊕ Part 1) ⊕ (Part 2 ⊕ Part 3)) ((Part 0 ⊕ Part 2) ⊕ (Part 1 ⊕ Part 3)) refl)
      (IsPermutation-append_left (rest ++ others) _ _ both)) in
      let now : IsPermutation s.tokens (flat_map meant (takes g) ++ frame) =
      at_last (IsPermutation-trans _ _ _ f.tokens (flat_map-IsPermutation meant _ _ perm)) (flat_map-append meant (takes g) (rest ++ others)) in
      let led = sim frame in
      let t = state_of (flat_map meant (makes g) ++ frame) (memory (g ∷ c.fired)) in (
        t,
        subst (λ (d : NetConfig I F). NetMeans d t) (sym e) (record {
          reached =
              record {
                run = f.reached.run ++ led.0;
                is_run =
                    run_join fl f.reached.run led.0 (start inputs) s t f.reached.is_run
                    (run_from fl led.0 s (state_of (flat_map meant (takes g) ++ frame) (memory c.fired)) t (now, f.memory_is) led.1);
              };
          tokens = IsPermutation-same' (sym (flat_map-append meant (makes g) (rest ++ others))
              ∙ ap (flat_map meant) (sym (append_assoc (makes g) rest others)));
          memory_is = refl;
        }),
      )
    where
      IsPermutation-same' : {xs ys : List Tagged} → xs ≡ ys → IsPermutation xs ys
      IsPermutation-same' {xs = xs} e = subst (λ l. IsPermutation xs l) e (IsPermutation-refl xs)
