-- What is counted at a frame since its last release is what is counted in its tenure.
use Rattle.std.proofs.Common.{◌≡◌, refl, sym, ap, ◌∙◌, subst, ℕ, ◌+◌, ◌*◌, ◌⊎◌, inl, inr, Bool, ℤ, List, [], ◌∷◌, ◌++◌, Contains, arith}
use Rattle.std.specs.Prelude.{◌==◌, if◌then◌else◌}
use Rattle.std.proofs.lemmas.Bool.{eq-eqb}
use Rattle.std.proofs.lemmas.List.Elements.{All-head, All-tail}
use Rattle.std.proofs.lemmas.List.Sorted.{IsPermutation-trans}
use Rattle.lemmas.proofs.Contains.{contains_cases, contains_none}
use Rattle.tags.specs.declared.token.Word.{Word}
use Rattle.tags.specs.declared.token.To.{To}
use Rattle.tags.specs.declared.token.Token.{Token}
use Rattle.semantics.specs.Program.{Program}
use Rattle.semantics.specs.Machine.{Machine, Store, Size, Event, Events, Run, at_start, Happens}
use Rattle.semantics.specs.Plan.{Plan}
use Rattle.semantics.specs.Handed.{handed_by, IsJustOut, NoRelease, Tenure}
use Rattle.semantics.specs.Orderly.{IsFreeAtRelease}
use Rattle.law_reuse.proofs.FramesFold.{ne_eqb}
use Rattle.law_reuse.proofs.FramesSnoc.{tally}
use Rattle.law_reuse.proofs.BoundsTallies.{Counter, count_at, count_request, count_release}
use Rattle.law_reuse.proofs.Frames.{So, so_start, so_next, so_after, counted_next}
use Rattle.law_reuse.proofs.FramesNames.{Known, known}

-- ---- an event and a run after a run

run_then : (p : Program) (z : Size) (a b c m : Machine) (before : Events) (e : ℕ) (t : Token) (later : Events) → Run p z a before b → Event p z e t b c
    → Run p z c later m → Run p z a (before ++ (e, t) ∷ later) m
run_then p z a b c m [] e t later r ev s = (
  c,
  record {
    made = ev.made;
    rest = ev.rest;
    addressed = ev.addressed;
    takes = IsPermutation-trans _ _ _ r.0 ev.takes;
    happens = subst (λ (s : Store). Happens p (z.elements * z.frames) s t.to t.word ev.made c.store) r.1 ev.happens;
    leaves = ev.leaves;
  },
  s,
)
run_then p z a b c m (x ∷ before) e t later r ev s = (r.0, r.1, run_then p z r.0 b c m before e t later r.2 ev s)

module _ (P : Plan) (p : Program) (z : Size) where
  so_then : (so : So) (a b c m : Machine) (before : Events) (e : ℕ) (t : Token) (later : Events) (r : Run p z a before b) (ev : Event p z e t b c)
      (s : Run p z c later m) (x : Counter) (f : ℕ)
      → (so_after P p so z a (before ++ (e, t) ∷ later) m (run_then p z a b c m before e t later r ev s)).counted x f
      ≡ (so_after P p (so_next P p (so_after P p so z a before b r) b.store t.to ev.made c.store) z c later m s).counted x f
  unfolding run_then
  so_then so a b c m [] e t later r ev s x f = ap (λ (o : Store). (so_after P p (so_next P p so o t.to ev.made c.store) z c later m s).counted x f) (sym r.1)
  so_then so a b c m (y ∷ before) e t later r ev s x f = so_then (so_next P p so a.store y.1.to r.1.made r.0.store) r.0 b c m before e t later r.2 ev s x f

  -- an event that is no release of the frame adds what it counts
  adds : (counted : Counter → ℕ → ℕ) (old : Store) (to : To) (made : List Token) (x : Counter) (f : ℕ) → (to ≡ To.Release f → ⊥)
      → counted_next P p counted old to made x f ≡ counted x f + count_at P p x f old to made
  adds counted old (To.Release g) made x f ne =
      let none = count_release P p x f g old made in
      ap (λ (b : Bool). if b then 0 else counted x f) (ne_eqb g f (λ e. ne (ap (λ (x : ℕ). To.Release x) e))) ∙ omega (arith, none)
  adds counted old (To.Instr g ip q) made x f ne = refl
  adds counted old (To.Fetch y) made x f ne = refl
  adds counted old (To.Store y v) made x f ne = refl
  adds counted old To.Manager made x f ne = refl
  adds counted old (To.Host j) made x f ne = refl

  counted_part : (so : So) (a m : Machine) (part : Events) (r : Run p z a part m) (x : Counter) (f : ℕ) → NoRelease f part
      → (so_after P p so z a part m r).counted x f ≡ so.counted x f + tally (count_at P p x f) p z a part m r
  counted_part so a m [] r x f stays = omega arith
  counted_part so a m (y ∷ part) r x f stays =
      let first = adds so.counted a.store y.1.to r.1.made x f (All-head (λ (ev : ℕ × Token). ev.1.to ≡ To.Release f → ⊥) y part stays) in
      let more = counted_part (so_next P p so a.store y.1.to r.1.made r.0.store) r.0 m part r.2 x f
      (All-tail (λ (ev : ℕ × Token). ev.1.to ≡ To.Release f → ⊥) y part stays) in
      omega (arith, first, more)

  -- nothing is counted at a frame that has just gone out
  zero_out : (total : ℕ) (old : Machine) (new : Store) (so : So) (to : To) (w : Word) (made : List Token) (x : Counter) (f : ℕ) → Known old so
      → Happens p total old.store to w made new → Contains (handed_by to made) f
      → counted_next P p so.counted old.store to made x f ≡ 0
  zero_out total old new so To.Manager (Word.Back c) made x f K (inl e) inside =
      go (contains_cases e.0 [] f (subst (λ (l : List Token). Contains (handed_by To.Manager l) f) e.3 inside))
    where
      go : (e.0 ≡ f) ⊎ Contains [] f → so.counted x f + count_at P p x f old.store To.Manager made ≡ 0
      go (inl is) = let a = K.zero x f (ap old.store.out (sym is) ∙ e.2) in let b = count_request P p x f old.store made in omega (arith, a, b)
      go (inr n) = absurd (contains_none f n)
  zero_out total old new so To.Manager (Word.Back c) made x f K (inr e) inside =
      absurd (contains_none f (subst (λ (l : List Token). Contains (handed_by To.Manager l) f) e.1 inside))
  zero_out total old new so (To.Release g) w made x f K (out, inl e) inside =
      absurd (contains_none f (subst (λ (l : List Token). Contains (handed_by (To.Release g) l) f) e.1 inside))
  zero_out total old new so (To.Release g) w made x f K (out, inr e) inside =
      go (contains_cases g [] f (subst (λ (l : List Token). Contains (handed_by (To.Release g) l) f) e.3 inside))
    where
      go : (g ≡ f) ⊎ Contains [] f → (if g == f then 0 else so.counted x f) ≡ 0
      go (inl is) = ap (λ (b : Bool). if b then 0 else so.counted x f) (eq-eqb g f is)
      go (inr n) = absurd (contains_none f n)
  zero_out total old new so To.Manager (Word.Val v) made x f K e inside = absurd e
  zero_out total old new so To.Manager (Word.Frame g) made x f K e inside = absurd e
  zero_out total old new so (To.Instr g ip q) w made x f K e inside = absurd (contains_none f inside)
  zero_out total old new so (To.Fetch y) w made x f K e inside = absurd (contains_none f inside)
  zero_out total old new so (To.Store y v) w made x f K e inside = absurd (contains_none f inside)
  zero_out total old new so (To.Host j) w made x f K e inside = absurd (contains_none f inside)

  -- The run of a tenure, from the start.
  pub record TenureRun (inputs : List ℤ) (f : ℕ) (first : Machine) (part : Events) (m : Machine) (run : Run p z first part m) : Type 0 where
    pub events : Events
    pub whole : Run p z (at_start p inputs) events m
    pub counted : (x : Counter) → (so_after P p so_start z (at_start p inputs) events m whole).counted x f ≡ tally (count_at P p x f) p z first part m run

  pub tenure_run : (inputs : List ℤ) (f : ℕ) (m : Machine) → ((events : Events) (m : Machine) → Run p z (at_start p inputs) events m → IsFreeAtRelease m)
      → (t : Tenure p z inputs f m) → TenureRun inputs f t.first t.part m t.run
  tenure_run inputs f m frees t = go t.just_out
    where
      at_once : (run : Run p z (at_start p inputs) t.part m) → TenureRun inputs f (at_start p inputs) t.part m run
      at_once run =
          record {
            events = t.part;
            whole = run;
            counted = λ x. (let a = counted_part so_start (at_start p inputs) m t.part run x f t.stays in omega (arith, a));
          }

      go : IsJustOut p z inputs f t.first → TenureRun inputs f t.first t.part m t.run
      go (inl (zero, is)) = subst (λ (a : Machine). (run : Run p z a t.part m) → TenureRun inputs f a t.part m run) (sym is) at_once t.run
      go (inr (before, old, e, k, out, run, inside)) =
          let so : So = so_after P p so_start z (at_start p inputs) before old run in
          let K = known P p z inputs frees before old so_start (λ x F. refl) run in
          record {
            events = before ++ (e, k) ∷ t.part;
            whole = run_then p z (at_start p inputs) old t.first m before e k t.part run out t.run;
            counted = λ x. (let a = so_then so_start (at_start p inputs) old t.first m before e k t.part run out t.run x f in
                let b = counted_part (so_next P p so old.store k.to out.made t.first.store) t.first m t.part t.run x f t.stays in
                let c = zero_out (z.elements * z.frames) old t.first.store so k.to k.word out.made x f K out.happens inside in
                omega (arith, a, b, c));
          }
