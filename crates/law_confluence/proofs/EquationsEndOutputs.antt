-- The outputs at the end are those that the run has put.
use Rattle.std.proofs.Common.{◌≡◌, ℕ, ◌⊎◌, Bool, true, false, List, [], ◌∷◌, Option, Some, ◌==◌, if◌then◌else◌, inl, inr, refl, sym, ap, ap₂, ◌∙◌, subst}
use Rattle.std.proofs.Common.{⊎_elim, eqb-true, eq-eqb}
use Rattle.std.proofs.lemmas.Option.{same_Some}
use Rattle.tags.specs.declared.value.Value.{Value}
use Rattle.semantics.specs.Graph.{Flow}
use Rattle.semantics.specs.Meaning.{Main, AtOut, Operand, State, Memory, Effect, Activity, Outputs, Deed, Says, Reads, Fills, Puts, Sends, tokens_of, adds}
use Rattle.semantics.specs.Meaning.{with_cell, at_place, deed, done, Step, Run}
use Rattle.lemmas.proofs.Permutations.{Within, put_later}
use Rattle.law_confluence.proofs.ActivityDeeds.{full_of, empty_of}
use Rattle.law_confluence.proofs.ActivityDiamond.{deed_of}
use Rattle.law_confluence.proofs.ActivityShapes.{showing}
use Rattle.law_confluence.proofs.EquationsRunRested.{Rested, one_at}
use Rattle.law_confluence.proofs.EquationsRunOrigins.{took_all}

-- what a deed does to the outputs
outputs_after : (fl : Flow) (m : Memory) (d : Deed) (E : Effect) → done fl m d ≡ Some E
    → (E.memory.outputs ≡ m.outputs) ⊎ ((j : ℕ) × (v : Value) × (d ≡ Puts j v) × (E.memory.outputs ≡ at_place m.outputs j v))
outputs_after fl m (Says y) E e = inl (ap (λ (E : Effect). E.memory.outputs) (sym (same_Some _ E e)))
outputs_after fl m (Reads c n x) E e =
    let f = full_of (m.cells x) (λ v. adds (tokens_of fl (Sends c n 0 v)) m) E e in
    inl (ap (λ (E : Effect). E.memory.outputs) (sym (same_Some _ E f.2)))
outputs_after fl m (Fills c n x v) E e =
    let f = empty_of (m.cells x) (adds (tokens_of fl (Sends c n 0 v)) (with_cell m x v)) E e in
    inl (ap (λ (E : Effect). E.memory.outputs) (sym (same_Some _ E f.1)))
outputs_after fl m (Puts j v) E e = inr (j, v, refl, ap (λ (E : Effect). E.memory.outputs) (sym (same_Some _ E e)))

output_before : (fl : Flow) (s t : State) (a : Activity) → Step fl a s t → (j : ℕ) (v : Value) → t.memory.outputs j ≡ Some v
    → (s.memory.outputs j ≡ Some v) ⊎ (a ≡ Outputs j v)
output_before fl s t a p j v e =
    let d = deed_of fl s.memory a p.does p.allowed in
    let after = ap (λ (m : Memory). m.outputs j) (sym p.memory) ∙ e in
    ⊎_elim (λ same. inl (ap (λ (f : ℕ → Option Value). f j) (sym same) ∙ after))
    (λ puts.
    let is : a ≡ Outputs puts.0 puts.1 = showing fl a puts.0 puts.1 (d.1 ∙ ap Some puts.2) in
    go puts.0 puts.1 is (puts.0 == j) refl (ap (λ (f : ℕ → Option Value). f j) (sym puts.3) ∙ after))
    (outputs_after fl s.memory d.0 p.does d.2)
  where
    go : (k : ℕ) (w : Value) → a ≡ Outputs k w → (t : Bool) → (k == j) ≡ t → (if t then Some w else s.memory.outputs j) ≡ Some v
        → (s.memory.outputs j ≡ Some v) ⊎ (a ≡ Outputs j v)
    go k w is true f g = inr (is ∙ ap₂ (λ k w. Outputs k w) (eqb-true k j f) (same_Some w v g))
    go k w is false f g = inl g

run_shown : (fl : Flow) (s t : State) (run : List Activity) (r : Run fl s run t) (j : ℕ) (v : Value) → t.memory.outputs j ≡ Some v
    → (s.memory.outputs j ≡ Some v) ⊎ Within (Outputs j v) run
run_shown fl s t [] r j v e = inl (ap (λ (m : Memory). m.outputs j) r.1 ∙ e)
run_shown fl s t (a ∷ run) r j v e =
    ⊎_elim (λ k. ⊎_elim (λ old. inl old) (λ is. inr (run, inl (sym is, refl))) (output_before fl s r.0 a r.1 j v k))
    (λ k. inr (a ∷ k.0, put_later (Outputs j v) a k.0 run k.1))
    (run_shown fl r.0 t run r.2 j v e)

-- AN OUTPUT THAT IS PUT STAYS FULL
abbrev IsFull : Option Value → Type 0
IsFull o = (w : Value) × (o ≡ Some w)

placed_full : (f : ℕ → Option Value) (k j : ℕ) (v : Value) → IsFull (f j) ⊎ (k ≡ j) → IsFull (at_place f k v j)
placed_full f k j v h = go (k == j) refl h
  where
    go : (t : Bool) → (k == j) ≡ t → IsFull (f j) ⊎ (k ≡ j) → IsFull (if t then Some v else f j)
    go true e h = (v, refl)
    go false e (inl h) = h
    go false e (inr h) = let f = eq-eqb k j h in absurd (cc)

step_full : (fl : Flow) (s t : State) (a : Activity) → Step fl a s t → (j : ℕ) (v : Value) → IsFull (s.memory.outputs j) ⊎ (a ≡ Outputs j v)
    → IsFull (t.memory.outputs j)
step_full fl s t a p j v h =
    let d = deed_of fl s.memory a p.does p.allowed in
    let after = ap (λ (m : Memory). m.outputs j) p.memory in
    subst IsFull (sym after)
    (⊎_elim (λ same. subst (λ (f : ℕ → Option Value). IsFull (f j)) (sym same.0) same.1)
    (λ puts. subst (λ (f : ℕ → Option Value). IsFull (f j)) (sym puts.3) (placed_full s.memory.outputs puts.0 j puts.1
    (⊎_elim (λ full. inl full) (λ is. inr (let q = showing fl a puts.0 puts.1 (d.1 ∙ ap Some puts.2) in cc)) h)))
    (changed d.0 d.1 d.2 h))
  where
    changed : (d : Deed) → deed fl a ≡ Some d → done fl s.memory d ≡ Some p.does → IsFull (s.memory.outputs j) ⊎ (a ≡ Outputs j v)
        → ((p.does.memory.outputs ≡ s.memory.outputs) × IsFull (s.memory.outputs j))
        ⊎ ((k : ℕ) × (w : Value) × (d ≡ Puts k w) × (p.does.memory.outputs ≡ at_place s.memory.outputs k w))
    changed d e f (inl full) = ⊎_elim (λ same. inl (same, full)) (λ puts. inr puts) (outputs_after fl s.memory d p.does f)
    changed d e f (inr is) =
        let puts : d ≡ Puts j v = same_Some d (Puts j v) (sym e ∙ ap (deed fl) is) in
        inr (j, v, puts, ap (λ (E : Effect). E.memory.outputs) (sym (same_Some _ p.does (subst (λ d. done fl s.memory d ≡ Some p.does) puts f))))

stays_full : (fl : Flow) (s t : State) (run : List Activity) (r : Run fl s run t) (j : ℕ) (v : Value) → IsFull (s.memory.outputs j) ⊎ Within (Outputs j v) run
    → IsFull (t.memory.outputs j)
stays_full fl s t [] r j v (inl h) = subst (λ (m : Memory). IsFull (m.outputs j)) r.1 h
stays_full fl s t [] r j v (inr h) = absurd h.1
stays_full fl s t (a ∷ run) r j v (inl h) = stays_full fl r.0 t run r.2 j v (inl (step_full fl s r.0 a r.1 j v (inl h)))
stays_full fl s t (a ∷ run) r j v (inr (zs, inl h)) = stays_full fl r.0 t run r.2 j v (inl (step_full fl s r.0 a r.1 j v (inr (sym h.0))))
stays_full fl s t (a ∷ run) r j v (inr (zs, inr h)) = stays_full fl r.0 t run r.2 j v (inr (h.0, h.2))

module _ (z : Rested) where
  pub shown : (j : ℕ) (v : Value) → z.state.memory.outputs j ≡ Some v → Within (Outputs j v) z.run
  shown j v e = ⊎_elim (λ first. absurd (cc)) (λ h. h) (run_shown z.flow _ z.state z.run z.is_run j v e)

  pub shows : (j : ℕ) (v : Value) → Within (Outputs j v) z.run → z.state.memory.outputs j ≡ Some v
  shows j v h =
      let full = stays_full z.flow _ z.state z.run z.is_run j v (inr h) in
      let its = shown j full.0 full.1 in
      let same = one_at z Main (AtOut j) (Operand 0) v full.0 (took_all z (Outputs j v) h).0 (took_all z (Outputs j full.0) its).0 in
      full.1 ∙ ap Some (sym same)
