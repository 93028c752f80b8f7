-- Which destinations are closed ports, and that only literals name such ports.
use Rattle.std.proofs.Common.{◌≡◌, refl, sym, ap, ◌∙◌, ℕ, ℤ, zero, suc, ◌+◌, ◌⊎◌, inl, inr, Bool, true, false, ◌||◌, List, [], ◌∷◌, ◌++◌, Option, Some}
use Rattle.std.proofs.Common.{if◌then◌else◌}
use Rattle.std.specs.Prelude.{slice_get}
use Rattle.std.proofs.lemmas.List.Concat.{flat_map-append}
use Rattle.semantics.specs.declared.program.Dest.{Dest}
use Rattle.semantics.specs.declared.program.Op.TheVariants.{Lit}
use Rattle.semantics.specs.Program.{Instr, CodeBlock}
use Rattle.semantics.specs.Plan.{Plan}
use Rattle.folding.specs.Folds.{is_closed}
use Rattle.folding.specs.Places.{layout_of, folds_at, gone_at}
use Rattle.folding.specs.Moved.{is_shut, new_dest, moved_dests}
use Rattle.folding.specs.Laws.{dests_of, IsDropped}
use Rattle.folding.proofs.Taken.{leaves_out}
use Rattle.folding.proofs.Pairs.{closed_one, closed_in, closed_uses, uses_in}
use Rattle.folding.proofs.Cases.{value_at, closed_by}

module _ (p : Plan) (c : CodeBlock) where
  abbrev Shut : ℕ → Dest → Bool
  Shut m d = is_closed (folds_at (layout_of p c) (m + d.ahead)) d.port

  -- some destination is a closed port, or none is
  pub closed_or : (m : ℕ) (us : List Dest)
      → (closed_in p c m us ≡ []) ⊎ ((k : ℕ) × (d : Dest) × (slice_get us k ≡ Some d) × (is_closed (folds_at (layout_of p c) (m + d.ahead)) d.port ≡ true))
  closed_or m [] = inl refl
  closed_or m (u ∷ us) = go (Shut m u) refl (closed_or m us)
    where
      go : (b : Bool) → Shut m u ≡ b → (closed_in p c m us ≡ []) ⊎ ((k : ℕ) × (d : Dest) × (slice_get us k ≡ Some d) × (Shut m d ≡ true))
          → (closed_in p c m (u ∷ us) ≡ []) ⊎ ((k : ℕ) × (d : Dest) × (slice_get (u ∷ us) k ≡ Some d) × (Shut m d ≡ true))
      go true e r = inr (0, u, refl, e)
      go false e (inl none) = inl (λ k. (if e k then (m + u.ahead) ∷ [] else []) ++ none k)
      go false e (inr r) = inr (suc r.0, r.1, r.2, r.3)

  -- only literals name closed ports
  pub lit_or : (m : ℕ) (j : Instr) → slice_get c.instrs m ≡ Some j → (closed_uses p c m ≡ []) ⊎ ((z : ℤ) × (j.op ≡ Lit z))
  lit_or m j at = go (closed_or m j.firsts) (closed_or m j.seconds)
    where
      go : (closed_in p c m j.firsts ≡ []) ⊎ ((k : ℕ) × (d : Dest) × (slice_get j.firsts k ≡ Some d) × (Shut m d ≡ true))
          → (closed_in p c m j.seconds ≡ []) ⊎ ((k : ℕ) × (d : Dest) × (slice_get j.seconds k ≡ Some d) × (Shut m d ≡ true))
          → (closed_uses p c m ≡ []) ⊎ ((z : ℤ) × (j.op ≡ Lit z))
      go (inl a) (inl b) =
          inl (ap (λ (o : Option Instr). closed_in p c m (uses_in p c o)) at ∙ flat_map-append (closed_one p c m) j.firsts j.seconds ∙ (λ k. a k ++ b k))
      go (inr r) o = inr (value_at p c (m + (r.1).ahead), (closed_by p c m r.0 j false r.1 at r.2 r.3).0)
      go (inl a) (inr r) = inr (value_at p c (m + (r.1).ahead), (closed_by p c m r.0 j true r.1 at r.2 r.3).0)

  none_left : (xs ys : List ℕ) → xs ++ ys ≡ [] → (xs ≡ []) × (ys ≡ [])
  none_left [] ys e = (refl, e)
  none_left (x ∷ xs) ys e = absurd (cc)

  first_shut : (m : ℕ) (us : List Dest) (u : Dest) → slice_get us 0 ≡ Some u → Shut m u ≡ true → closed_in p c m us ≡ [] → ⊥
  first_shut m [] u at e none = absurd (cc)
  first_shut m (x ∷ us) u at e none =
      let same : x ≡ u = cc in
      let some : closed_one p c m x ≡ (m + x.ahead) ∷ [] = ap (λ (b : Bool). if b then (m + x.ahead) ∷ [] else []) (ap (Shut m) same ∙ e) in
      let k : closed_one p c m x ≡ [] = (none_left (closed_one p c m x) (closed_in p c m us) none).0 in
      let d : (m + x.ahead) ∷ [] ≡ [] = sym some ∙ k in
      cc

  pub any_shut : (m : ℕ) (us : List Dest) (k : ℕ) (u : Dest) → slice_get us k ≡ Some u → is_closed (folds_at (layout_of p c) (m + u.ahead)) u.port ≡ true
      → closed_in p c m us ≡ [] → ⊥
  any_shut m [] k u at e none = absurd (cc)
  any_shut m (x ∷ us) zero u at e none = first_shut m (x ∷ us) u at e none
  any_shut m (x ∷ us) (suc k) u at e none = any_shut m us k u at e (none_left (closed_one p c m x) (closed_in p c m us) none).1

  -- what is left out names a closed port
  pub gone_some : (m : ℕ) (j : Instr) → slice_get c.instrs m ≡ Some j → gone_at (layout_of p c) m ≡ true → closed_uses p c m ≡ [] → ⊥
  gone_some m j at gone none = go (leaves_out p c m j at gone).used
    where
      L : IsDropped p c m j
      L = leaves_out p c m j at gone

      both : closed_in p c m j.firsts ++ closed_in p c m j.seconds ≡ []
      both = sym (flat_map-append (closed_one p c m) j.firsts j.seconds) ∙ sym (ap (λ (o : Option Instr). closed_in p c m (uses_in p c o)) at) ∙ none

      go : (s : Bool) × (d : Dest) × (slice_get (dests_of j s) 0 ≡ Some d) → ⊥
      go (false, d, e) = first_shut m j.firsts d e (L.closed false 0 d e) (none_left (closed_in p c m j.firsts) (closed_in p c m j.seconds) both).0
      go (true, d, e) = first_shut m j.seconds d e (L.closed true 0 d e) (none_left (closed_in p c m j.firsts) (closed_in p c m j.seconds) both).1

  -- and sends to nothing in the new code
  moved_none : (m : ℕ) (us : List Dest) → ((k : ℕ) (d : Dest) → slice_get us k ≡ Some d → Shut m d ≡ true) → moved_dests (layout_of p c) m us ≡ []
  moved_none m [] all = refl
  moved_none m (u ∷ us) all =
      let e : is_shut (layout_of p c) (m + u.ahead) u.port ≡ true = or_true (gone_at (layout_of p c) (m + u.ahead)) (Shut m u) (all 0 u refl) in
      (λ k. (if e k then [] else new_dest (layout_of p c) m (m + u.ahead) u.port ∷ []) ++ moved_none m us (λ k x e. all (suc k) x e) k)
    where
      or_true : (a b : Bool) → b ≡ true → (a || b) ≡ true
      or_true true b e = refl
      or_true false b e = e

  pub gone_silent : (m : ℕ) (j : Instr) (s : Bool) → slice_get c.instrs m ≡ Some j → gone_at (layout_of p c) m ≡ true
      → moved_dests (layout_of p c) m (dests_of j s) ≡ []
  gone_silent m j s at gone = moved_none m (dests_of j s) (λ k d e. (leaves_out p c m j at gone).closed s k d e)
