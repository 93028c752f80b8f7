-- Nets with conditionals are lawful: an inlet that two parts feed gets a word from only one of them, since they lie in
-- opposite arms, and one word decided between those.
use Rattle.std.proofs.Common.{◌≡◌, ◌<◌, ◌≤◌, Bool, true, false, not, List, ◌∷◌, sym, ap, ◌∙◌, subst, inl, inr, ◌⊎◌, []}
use Rattle.std.specs.Prelude.{All, Contains}
use Rattle.std.proofs.lemmas.List.Elements.{All-contains, All-weaker, All-contains_itself}
use Rattle.lemmas.proofs.Contains.{contains_head, contains_tail}
use Rattle.law_confluence.specs.OrdersTotals.{total}
use Rattle.law_confluence.proofs.Net.{IsLawful, FiresOnce, hit}

module _ {I X F R K : Type 0} (inlet : I → X) (same : X → X → Bool) (takes makes : F → List I) (begins : List I) (role : F → R)
    -- what is known of an inlet from the wires alone
    (Fits : X → Type 0)
    -- which conditional's word an inlet takes, and whether a word is true; in which arms an inlet lies
    (IsPredicate : X → K → Type 0) (is_true : I → Bool) (InArm : X → K → Bool → Type 0)
    -- the part that makes a conditional's word, and what it says
    (source : K → R) (says : F → Bool) where
  -- a firing shows which way a conditional goes: it takes something in that arm, or the word itself
  abbrev pub Proves : F → K → Bool → Type 0
  Proves f k side = ((i : I) × Contains (takes f) i × InArm (inlet i) k side) ⊎ ((i : I) × Contains (takes f) i × IsPredicate (inlet i) k × (is_true i ≡ side))

  -- it has been decided
  abbrev pub Decided : List F → K → Bool → Type 0
  Decided fired k side = (h : F) × Contains fired h × (role h ≡ source k) × (says h ≡ side)

  pub record IsAllowed (fired : List F) (i : I) : Type 0 where
    pub fits : Fits (inlet i)
    pub arms : (k : K) (side : Bool) → InArm (inlet i) k side → Decided fired k side
    pub word : (k : K) → IsPredicate (inlet i) k → Decided fired k (is_true i)

  abbrev pub AllFit : F → Type 0
  AllFit f = All (λ (i : I). Fits (inlet i)) (takes f)

  -- what can be read off the wires
  pub record HasArms : Type 0 where
    -- only what lies in an arm, or a switch of its conditional on that side, leads into the arm
    pub enters : (f : F) (i : I) (k : K) (side : Bool) → AllFit f → Contains (makes f) i → InArm (inlet i) k side → Proves f k side
    -- a conditional's word comes from its source
    pub words : (f : F) (i : I) (k : K) → AllFit f → Contains (makes f) i → IsPredicate (inlet i) k → (role f ≡ source k) × (says f ≡ is_true i)
    pub makes_fit : (f : F) → AllFit f → All (λ (i : I). Fits (inlet i)) (makes f)
    pub begins_fit : All (λ (i : I). Fits (inlet i)) begins
    pub none_first : (i : I) → Contains begins i → ((k : K) (side : Bool) → InArm (inlet i) k side → ⊥) × ((k : K) → IsPredicate (inlet i) k → ⊥)
    pub begins_once : (x : X) → total (hit inlet same takes makes begins role x) begins ≤ 1
    pub makes_once : (f : F) (x : X) → AllFit f → total (hit inlet same takes makes begins role x) (makes f) ≤ 1
    pub begins_apart : (f : F) (x : X) → AllFit f → 0 < total (hit inlet same takes makes begins role x) (makes f)
        → total (hit inlet same takes makes begins role x) begins ≡ 0
    -- an inlet is fed by one part
    pub feeders : (f h : F) (x : X) → AllFit f → AllFit h → 0 < total (hit inlet same takes makes begins role x) (makes f)
        → 0 < total (hit inlet same takes makes begins role x) (makes h) → role f ≡ role h
    -- two firings of a part take one inlet, or go with different sides of a conditional, as those of a merge
    pub rivals : (f h : F) → AllFit f → AllFit h → role f ≡ role h
        → ((z : X) × (0 < total (hit inlet same takes makes begins role z) (takes f)) × (0 < total (hit inlet same takes makes begins role z) (takes h)))
        ⊎ ((k : K) × (side : Bool) × Proves f k side × Proves h k (not side))

  module _ (laws : HasArms) where
    -- both sides are not decided
    opposed : (fired : List F) (k : K) (side : Bool) → FiresOnce inlet same takes makes begins role fired → Decided fired k side → Decided fired k (not side)
        → ⊥
    opposed fired k side once (f, cf, rf, sf) (h, ch, rh, sh) = differ side (sym sf ∙ ap says (once f h cf ch (rf ∙ sym rh)) ∙ sh)
      where
        differ : (t : Bool) → t ≡ not t → ⊥
        differ true e = cc
        differ false e = cc

    -- what an allowed firing shows has been decided
    shown_decided : (f : F) (fired : List F) (k : K) (side : Bool) → All (IsAllowed fired) (takes f) → Proves f k side → Decided fired k side
    shown_decided f fired k side all (inl (i, c, a)) = (All-contains (IsAllowed fired) (takes f) i all c).arms k side a
    shown_decided f fired k side all (inr (i, c, w, t)) = subst (Decided fired k) t ((All-contains (IsAllowed fired) (takes f) i all c).word k w)

    all_fit : (f : F) (fired : List F) → All (IsAllowed fired) (takes f) → AllFit f
    all_fit f fired all = All-weaker (IsAllowed fired) (λ (i : I). Fits (inlet i)) (λ i a. a.fits) (takes f) all

    decided_later : (f : F) (fired : List F) (k : K) (side : Bool) → Decided fired k side → Decided (f ∷ fired) k side
    decided_later f fired k side (h, c, r, s) = (h, contains_tail f fired h c, r, s)

    pub arms_lawful : IsLawful inlet same takes makes begins role IsAllowed
    arms_lawful = record {
      later =
          λ f fired i
          a. record {
            fits = a.fits;
            arms = λ k side q. decided_later f fired k side (a.arms k side q);
            word = λ k q. decided_later f fired k (is_true i) (a.word k q);
          };
      makes_allowed = λ f fired all. All-weaker (Contains (makes f)) (IsAllowed (f ∷ fired)) (λ i c. record {
        fits = All-contains (λ (i : I). Fits (inlet i)) (makes f) i (laws.makes_fit f (all_fit f fired all)) c;
        arms = λ k side a. decided_later f fired k side (shown_decided f fired k side all (laws.enters f i k side (all_fit f fired all) c a));
        word = λ k q. let h = laws.words f i k (all_fit f fired all) c q in (f, contains_head f fired, h.0, h.1);
      }) (makes f) (All-contains_itself (makes f));
      starts = All-weaker (Contains begins) (IsAllowed []) (λ i c. record {
        fits = All-contains (λ (i : I). Fits (inlet i)) begins i laws.begins_fit c;
        arms = λ k side a. absurd ((laws.none_first i c).0 k side a);
        word = λ k q. absurd ((laws.none_first i c).1 k q);
      }) begins (All-contains_itself begins);
      begins_once = laws.begins_once;
      makes_once = λ f fired x all. laws.makes_once f x (all_fit f fired all);
      begins_apart = λ f fired x all. laws.begins_apart f x (all_fit f fired all);
      feeders = λ f h fired x mine theirs p q. laws.feeders f h x (all_fit f fired mine) (all_fit h fired theirs) p q;
      rivals = λ f h fired once c mine theirs e. share f h fired once mine theirs (laws.rivals f h (all_fit f fired mine) (all_fit h fired theirs) e);
    }
      where
        share : (f h : F) (fired : List F) → FiresOnce inlet same takes makes begins role fired → All (IsAllowed fired) (takes f)
            → All (IsAllowed fired) (takes h)
            → ((z : X) × (0 < total (hit inlet same takes makes begins role z) (takes f)) × (0 < total (hit inlet same takes makes begins role z) (takes h)))
            ⊎ ((k : K) × (side : Bool) × Proves f k side × Proves h k (not side))
            → (z : X) × (0 < total (hit inlet same takes makes begins role z) (takes f)) × (0 < total (hit inlet same takes makes begins role z) (takes h))
        share f h fired once mine theirs (inl t) = t
        share f h fired once mine theirs (inr (k, side, pf, ph)) =
            absurd (opposed fired k side once (shown_decided f fired k side mine pf) (shown_decided h fired k (not side) theirs ph))
