-- A frame that is out has a tenure.
use Rattle.std.proofs.Common.{◌≡◌, refl, sym, ap, ◌∙◌, subst, ℕ, ◌*◌, ◌⊎◌, inl, inr, ℤ, Bool, true, false, true≢false, List, [], ◌∷◌, ◌++◌}
use Rattle.std.proofs.Common.{IsPermutation, Contains, arith}
use Rattle.std.proofs.lemmas.Bool.{cases_eq, eqb-true}
use Rattle.std.proofs.lemmas.List.Elements.{All-push}
use Rattle.std.proofs.lemmas.List.Sorted.{IsPermutation-refl, IsPermutation-trans}
use Rattle.lemmas.proofs.Contains.{contains_head}
use Rattle.tags.specs.declared.token.Word.{Word}
use Rattle.tags.specs.declared.token.To.{To}
use Rattle.tags.specs.declared.token.Token.{Token}
use Rattle.semantics.specs.Program.{Program, instr_at}
use Rattle.semantics.specs.Rule.{rule_at}
use Rattle.semantics.specs.Machine.{Machine, Store, Size, Event, Events, Run, at_start, Happens, slot_in, slot_used, outputs_of}
use Rattle.semantics.specs.Handed.{handed_by, NoRelease, Tenure}
use Rattle.law_reuse.proofs.FramesFold.{put_same, put_other}
use Rattle.law_reuse.proofs.FramesSnoc.{run_snoc}
use Rattle.law_reuse.proofs.Frames.{fires_out, fetches_out, stores_out, hosts_out}

same_out : (old new : Store) (f : ℕ) → new.out ≡ old.out → new.out f ≡ true → old.out f ≡ true
same_out old new f e h = sym (ap (λ (o : ℕ → Bool). o f) e) ∙ h

-- a frame that is out was handed out by this event, or it was out and was not released
out_since : (q : Program) (total : ℕ) (old new : Store) (to : To) (w : Word) (made : List Token) (f : ℕ) → Happens q total old to w made new
    → new.out f ≡ true
    → Contains (handed_by to made) f ⊎ ((old.out f ≡ true) × (to ≡ To.Release f → ⊥))
out_since q total old new (To.Instr g ip port) w made f e h =
    inr (
      same_out old new f (fires_out old new g (slot_used (instr_at q ip))
          (rule_at q record { frame = g; ip = ip } (instr_at q ip) (slot_in old g (slot_used (instr_at q ip))) port w) made e).0 h,
      λ k. absurd (cc),
    )
out_since q total old new (To.Fetch x) (Word.Back c) made f e h =
    inr (same_out old new f (fetches_out old new x c (old.cells x) made e).0 h, λ k. absurd (cc))
out_since q total old new (To.Store x v) (Word.Back c) made f e h =
    inr (same_out old new f (stores_out old new x v c (old.cells x) made e).0 h, λ k. absurd (cc))
out_since q total old new (To.Host j) w made f e h =
    inr (same_out old new f (hosts_out (outputs_of q) old new j w made e).0 h, λ k. absurd (cc))
out_since q total old new To.Manager (Word.Back c) made f (inl (g, low, was, makes, is)) h = go (cases_eq g f)
  where
    go : (g ≡ f) ⊎ (g ≡ f → ⊥) → Contains (handed_by To.Manager made) f ⊎ ((old.out f ≡ true) × (To.Manager ≡ To.Release f → ⊥))
    go (inl same) = inl (subst (λ (l : List Token). Contains (handed_by To.Manager l) f) (sym makes) (subst (Contains (g ∷ [])) same (contains_head g [])))
    go (inr ne) = inr (sym (put_other old.out g true f ne) ∙ sym (ap (λ (s : Store). s.out f) is) ∙ h, λ k. absurd (cc))
out_since q total old new To.Manager (Word.Back c) made f (inr (all, makes, is)) h =
    inr (sym (ap (λ (s : Store). s.out f) is) ∙ h, λ k. absurd (cc))
out_since q total old new (To.Release g) w made f (out, inl (idle, makes, is)) h = go (cases_eq g f)
  where
    name : (x y : ℕ) → To.Release x ≡ To.Release y → x ≡ y
    name x y e = cc

    go : (g ≡ f) ⊎ (g ≡ f → ⊥) → Contains (handed_by (To.Release g) made) f ⊎ ((old.out f ≡ true) × (To.Release g ≡ To.Release f → ⊥))
    go (inl same) = absurd (true≢false (sym h ∙ ap (λ (s : Store). s.out f) is ∙ put_same old.out g false f same))
    go (inr ne) = inr (sym (put_other old.out g false f ne) ∙ sym (ap (λ (s : Store). s.out f) is) ∙ h, λ k. ne (name g f k))
out_since q total old new (To.Release g) w made f (out, inr (c, rest, moved, makes, is)) h = go (cases_eq g f)
  where
    name : (x y : ℕ) → To.Release x ≡ To.Release y → x ≡ y
    name x y e = cc

    go : (g ≡ f) ⊎ (g ≡ f → ⊥) → Contains (handed_by (To.Release g) made) f ⊎ ((old.out f ≡ true) × (To.Release g ≡ To.Release f → ⊥))
    go (inl same) = inl (subst (λ (l : List Token). Contains (handed_by (To.Release g) l) f) (sym makes) (subst (Contains (g ∷ [])) same (contains_head g [])))
    go (inr ne) = inr (sym (ap (λ (s : Store). s.out f) is) ∙ h, λ k. ne (name g f k))
out_since q total old new to w made f e h = absurd e

none_released : (f : ℕ) → NoRelease f []
none_released f k d low = absurd (omega (arith, low))

run_ends : (q : Program) (z : Size) (a m c : Machine) (events : Events) → Run q z a events m → IsPermutation m.pool c.pool → c.store ≡ m.store
    → Run q z a events c
run_ends q z a m c [] r p e = (IsPermutation-trans _ _ _ r.0 p, e ∙ r.1)
run_ends q z a m c (x ∷ events) r p e = (r.0, r.1, run_ends q z r.0 m c events r.2 p e)

module _ (q : Program) (z : Size) (inputs : List ℤ) where
  abbrev HasTenures : Machine → Type 0
  HasTenures m = (f : ℕ) → m.store.out f ≡ true → Tenure q z inputs f m

  next : (done : Events) (m c : Machine) (e : ℕ) (t : Token) → HasTenures m → Run q z (at_start q inputs) done m → Event q z e t m c → HasTenures c
  next done m c e t T r ev f out = go (out_since q (z.elements * z.frames) m.store c.store t.to t.word ev.made f ev.happens out)
    where
      go : Contains (handed_by t.to ev.made) f ⊎ ((m.store.out f ≡ true) × (t.to ≡ To.Release f → ⊥)) → Tenure q z inputs f c
      go (inl inside) = record {
        first = c;
        just_out = inr (done, m, e, t, ev, r, inside);
        part = [];
        run = (IsPermutation-refl c.pool, refl);
        stays = none_released f;
      }
      go (inr (was, not)) = let t' = T f was in record {
        first = t'.first;
        just_out = t'.just_out;
        part = t'.part ++ (e, t) ∷ [];
        run = run_snoc q z t'.first m c t'.part e t t'.run ev;
        stays = All-push (λ (ev : ℕ × Token). ev.1.to ≡ To.Release f → ⊥) t'.part (e, t) t'.stays not;
      }

  tenures_on : (later done : Events) (m c : Machine) → HasTenures m → Run q z (at_start q inputs) done m → Run q z m later c → HasTenures c
  tenures_on [] done m c T before r = λ f out. let t = T f (ap (λ (s : Store). s.out f) (sym r.1) ∙ out) in record {
    first = t.first;
    just_out = t.just_out;
    part = t.part;
    run = run_ends q z t.first m c t.part t.run r.0 r.1;
    stays = t.stays;
  }
  tenures_on (x ∷ later) done m c T before r =
      tenures_on later (done ++ (x.0, x.1) ∷ []) r.0 c (next done m r.0 x.0 x.1 T before r.1)
      (run_snoc q z (at_start q inputs) m r.0 done x.0 x.1 before r.1) r.2

  pub tenure : (events : Events) (m : Machine) → Run q z (at_start q inputs) events m → (f : ℕ) → m.store.out f ≡ true → Tenure q z inputs f m
  tenure events m r = tenures_on events [] (at_start q inputs) m start (IsPermutation-refl _, refl) r
    where
      start : HasTenures (at_start q inputs)
      start f out = record {
        first = at_start q inputs;
        just_out = inl (eqb-true f 0 out, refl);
        part = [];
        run = (IsPermutation-refl _, refl);
        stays = none_released f;
      }
