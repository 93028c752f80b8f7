-- No token of a run lies deeper than the run is long: each activity reaches at most one invocation or one turn further.
use Rattle.std.proofs.Common.{ℕ, ◌+◌, ◌<◌, ◌≤◌, ℤ, List, [], ◌∷◌, ◌++◌, length, inl, inr, ap, subst, arith, ⊎_elim, map}
use Rattle.std.proofs.lemmas.List.Sorted.{IsPermutation-sym}
use Rattle.tags.specs.declared.value.Value.{Value}
use Rattle.tags.specs.declared.value.Value.TheVariants.{Int}
use Rattle.semantics.specs.Graph.{Flow}
use Rattle.semantics.specs.Meaning.{Context, Main, Tagged, State, Activity, Fires, taken, Message, Enters, tokens_of, Step, Run, Stood, start}
use Rattle.lemmas.proofs.Permutations.{Within, Each, each_within, each_weaker, within_append, within_right, within_from, within_permutation}
use Rattle.law_confluence.proofs.ActivityDiamond.{deed_of, held_from}
use Rattle.law_confluence.proofs.History.{spoken}
use Rattle.law_confluence.proofs.ActivityUses.{Member, tokens_member, entering_member}
use Rattle.law_confluence.proofs.ActivityRows.{Row, RowFires, RowSteers, RowGates, RowQuiet, RowMerges, RowCalls, RowStrict, RowLoops, RowReturns, RowAgain}
use Rattle.law_confluence.proofs.ActivityRows.{RowLeaves, rows}
use Rattle.law_confluence.proofs.HistoryLaws.{IsFlowWell}
use Rattle.law_confluence.proofs.HistoryGrounds.{strict_inputs}
use Rattle.law_confluence.specs.EquationsContexts.{depth}
use Rattle.law_confluence.proofs.EquationsRunRested.{Rested, Came}

-- what a message reaches lies at most one deeper
abbrev Near : ℕ → Flow → Message → Type 0
Near most fl m = (x : Tagged) → Member fl m x → depth x.context ≤ most + 1

module _ (fl : Flow) (w : IsFlowWell fl) (most : ℕ) where
  abbrev Shallow : Tagged → Type 0
  Shallow x = depth x.context ≤ most

  first : (c : Context) (n : ℕ) (vs : List Value) → 0 < length vs → Each Shallow (taken (Fires c n vs)) → depth c ≤ most
  first c n [] l h = absurd (omega arith)
  first c n (v ∷ vs) l h = h.0

  near : (a : Activity) (m : Message) → Row fl a m → Each Shallow (taken a) → (x : Tagged) → Member fl m x → depth x.context ≤ most + 1
  near a m (RowFires c n vs v ea em class l) h x k =
      let low = first c n vs l (subst (λ a. Each Shallow (taken a)) ea h) in
      let same = ap depth (subst (λ m. Member fl m x) em k).0 in omega arith
  near a m (RowSteers c n v ea em) h x k =
      let low = (subst (λ a. Each Shallow (taken a)) ea h).0 in
      let same = ap depth (subst (λ m. Member fl m x) em k).0 in omega arith
  near a m (RowGates c n v b k' ea em class region) h x k =
      let low = (subst (λ a. Each Shallow (taken a)) ea h).0 in
      let same = ap depth (subst (λ m. Member fl m x) em k).0 in omega arith
  near a m (RowQuiet some em) h x k = absurd (subst (λ m. Member fl m x) em k)
  near a m (RowMerges c n i v ea em class) h x k =
      let low = (subst (λ a. Each Shallow (taken a)) ea h).0 in
      let same = ap depth (subst (λ m. Member fl m x) em k).0 in omega arith
  near a m (RowCalls c n i v ea em class) h x k =
      let low = (subst (λ a. Each Shallow (taken a)) ea h).0 in
      let same = ap depth (subst (λ m. Member fl m x) em k).0 in omega arith
  near a m (RowStrict c n vs ea em class mode) h x k =
      let some = strict_inputs fl w c n vs class mode in
      let low = first c n vs (omega (arith, some.2, some.3)) (subst (λ a. Each Shallow (taken a)) ea h) in
      let same = ap depth (subst (λ m. Member fl m x) em k).0 in omega arith
  near a m (RowLoops c n i v ea em class) h x k =
      let low = (subst (λ a. Each Shallow (taken a)) ea h).0 in
      let same = ap depth (subst (λ m. Member fl m x) em k).0 in omega arith
  near a m (RowReturns c n j v ea em) h x k =
      let low = (subst (λ a. Each Shallow (taken a)) ea h).0 in
      let same = ap depth (subst (λ m. Member fl m x) em k).0 in omega arith
  near a m (RowAgain c n i j b v ea em on) h x k =
      let low = (subst (λ a. Each Shallow (taken a)) ea h).0 in
      let same = ap depth (subst (λ m. Member fl m x) em k).0 in omega arith
  near a m (RowLeaves c n i j b v ea em off) h x k =
      let low = (subst (λ a. Each Shallow (taken a)) ea h).0 in
      let same = ap depth (subst (λ m. Member fl m x) em k).0 in omega arith

  step_near : (a : Activity) (s t : State) → Step fl a s t → ((x : Tagged) → Within x s.tokens → depth x.context ≤ most) → (x : Tagged) → Within x t.tokens
      → depth x.context ≤ most + 1
  step_near a s t p h x k =
      let d = deed_of fl s.memory a p.does p.allowed in
      let said = spoken fl s.memory d.0 p.does d.2 in
      let held : Each Shallow (taken a) = each_weaker (λ x. Within x s.tokens) Shallow h (taken a) (held_from s.tokens (taken a) p.rest p.takes) in
      ⊎_elim (λ (l : Within x p.does.added).
      near a said.0 (rows fl a d.0 said.0 d.1 said.1) held x
      (each_within (Member fl said.0) x (tokens_of fl said.0) (subst (λ l. Within x l) said.2 l) (tokens_member fl said.0)))
      (λ l. let low = h x (within_permutation x (taken a ++ p.rest) s.tokens (IsPermutation-sym _ _ p.takes) (within_right x (taken a) p.rest l)) in
      omega arith)
      (within_append x p.does.added p.rest (within_permutation x t.tokens (p.does.added ++ p.rest) p.leaves k))

run_near : (fl : Flow) → IsFlowWell fl → (run : List Activity) (s t : State) (r : Run fl s run t) (most : ℕ)
    → ((x : Tagged) → Within x s.tokens → depth x.context ≤ most)
    → (x : Tagged) → Stood fl s run t r x → depth x.context ≤ most + length run
run_near fl w [] s t r most h x k =
    let low = h x (within_permutation x t.tokens s.tokens (IsPermutation-sym _ _ r.0) (within_from x t.tokens k)) in omega arith
run_near fl w (a ∷ run) s t r most h x (inl k) = let low = h x (within_from x s.tokens k) in omega arith
run_near fl w (a ∷ run) s t r most h x (inr k) =
    let low = run_near fl w run r.0 t r.2 (most + 1) (step_near fl w most a s r.0 r.1 h) x k in omega arith

pub shallow : (z : Rested) (x : Tagged) → Came z x → depth x.context ≤ length z.run
shallow z x h =
    let vs = map (λ (w : ℤ). Int w) z.inputs in
    let low = run_near z.flow z.well z.run (start z.inputs) z.state z.is_run 0
    (λ x k. let same = ap depth (each_within (Member z.flow (Enters Main 0 vs)) x (start z.inputs).tokens k (entering_member z.flow Main 0 vs)).0 in
    omega arith) x h in
    omega arith
