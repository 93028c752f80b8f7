-- What results from some firings alone: what is near was made by one of them, or from what was near.
use Rattle.std.proofs.Common.{ℤ, List, [], ◌∷◌, ◌++◌, refl, sym, subst, inl, inr, ◌⊎◌}
use Rattle.std.specs.Prelude.{Contains, flat_map, IsPermutation}
use Rattle.std.proofs.lemmas.List.Sorted.{IsPermutation-trans, IsPermutation-sym, IsPermutation-append, IsPermutation-append_left, Contains-permutation}
use Rattle.std.proofs.lemmas.List.Elements.{Contains-append_left, Contains-append_right, Contains-append_cases}
use Rattle.lemmas.proofs.Contains.{contains_head, contains_none, contains_tail}
use Rattle.semantics.specs.Graph.{Flow}
use Rattle.law_confluence.proofs.Orders.{shuffled, Part, ◌⊕◌}
use Rattle.law_confluence.proofs.Net.{Waits, Fires}
use Rattle.law_net.specs.ContextsParts.{Item, Firing}
use Rattle.law_net.specs.Contexts.{Wires}
use Rattle.law_net.specs.ContextsFirings.{Config, Move, begin, begins, takes, makes, ProperMoves, Still, Then}
use Rattle.law_net.specs.ContextsPackages.{AllFit}
use Rattle.law_net.proofs.WiredSends.{first_taken, takes_first}
use Rattle.law_net.proofs.WiredWords.{Begins, begin_cases}
use Rattle.law_net.proofs.WiredNets.{all_of}

module _ (fl : Flow) (w : Wires) where
  -- firings stay
  fired_move : (a b : Config) → Move fl w a b → (h : Firing) → Contains a.fired h → Contains b.fired h
  fired_move a b (Waits i rest x e) h d = subst (λ (b : Config). Contains b.fired h) (sym e) d
  fired_move a b (Fires f now kept rest others x y both e) h d = subst (λ (b : Config). Contains b.fired h) (sym e) (contains_tail f a.fired h d)

  fired_grow : (a b : Config) → ProperMoves fl w a b → (h : Firing) → Contains a.fired h → Contains b.fired h
  fired_grow a b (Still e) h d = d
  fired_grow a b (Then x mid y m proper more) h d = fired_grow mid b more h (fired_move a mid m h d)

  module _ (Near : Item → Type 0) (Cause : Firing → Type 0)
      (made : (f : Firing) → AllFit fl w (takes fl f) → (i : Item) → Contains (makes fl w f) i → Near i → Cause f ⊎ Near (first_taken fl w f f.part)) where
    abbrev pub HasCause : List Firing → Type 0
    HasCause fired = (h : Firing) × Contains fired h × Cause h

    -- all that is near has its cause
    abbrev pub Traced : Config → Type 0
    Traced d = (i : Item) → Contains (all_of fl d) i → Near i → HasCause d.fired

    cause_later : (f : Firing) (fired : List Firing) → HasCause fired → HasCause (f ∷ fired)
    cause_later f fired (h, a, b) = (h, contains_tail f fired h a, b)

    traced_move : (a b : Config) → Move fl w a b → ((h : Firing) → Contains b.fired h → AllFit fl w (takes fl h)) → Traced a → Traced b
    traced_move a b (Waits i rest x e) fit old = subst Traced (sym e) (λ j h. old j (Contains-permutation _ _ j (IsPermutation-sym _ _ perm) h))
      where
        perm : IsPermutation (a.pending ++ (a.waiting ++ flat_map (takes fl) a.fired)) (rest ++ ((i ∷ a.waiting) ++ flat_map (takes fl) a.fired))
        perm = IsPermutation-trans _ _ _ (IsPermutation-append_left (a.waiting ++ flat_map (takes fl) a.fired) _ _ x)
            (shuffled ((i ∷ []) ∷ rest ∷ a.waiting ∷ flat_map (takes fl) a.fired ∷ []) ((Part 0 ⊕ Part 1) ⊕ (Part 2 ⊕ Part 3))
            (Part 1 ⊕ ((Part 0 ⊕ Part 2) ⊕ Part 3)) refl)
    traced_move a b (Fires f now kept rest others x y both e) fit old =
        let mine = fit f (subst (λ (b : Config). Contains b.fired f) (sym e) (contains_head f a.fired)) in
        subst Traced (sym e) (λ j h near. pick mine j
        (Contains-append_cases (makes fl w f) (rest ++ (others ++ (takes fl f ++ flat_map (takes fl) a.fired))) j (Contains-permutation _ _ j joined h)) near)
      where
        joined : IsPermutation ((makes fl w f ++ rest) ++ (others ++ (takes fl f ++ flat_map (takes fl) a.fired)))
            (makes fl w f ++ (rest ++ (others ++ (takes fl f ++ flat_map (takes fl) a.fired))))
        joined =
            shuffled (makes fl w f ∷ rest ∷ others ∷ takes fl f ∷ flat_map (takes fl) a.fired ∷ []) ((Part 0 ⊕ Part 1) ⊕ (Part 2 ⊕ (Part 3 ⊕ Part 4)))
            (Part 0 ⊕ (Part 1 ⊕ (Part 2 ⊕ (Part 3 ⊕ Part 4)))) refl

        perm : IsPermutation (a.pending ++ (a.waiting ++ flat_map (takes fl) a.fired)) (rest ++ (others ++ (takes fl f ++ flat_map (takes fl) a.fired)))
        perm = IsPermutation-trans _ _ _ (IsPermutation-append _ _ _ _ x (IsPermutation-append_left (flat_map (takes fl) a.fired) _ _ y))
            (IsPermutation-trans _ _ _ (shuffled (now ∷ rest ∷ kept ∷ others ∷ flat_map (takes fl) a.fired ∷ [])
            ((Part 0 ⊕ Part 1) ⊕ ((Part 2 ⊕ Part 3) ⊕ Part 4)) ((Part 0 ⊕ Part 2) ⊕ (Part 1 ⊕ (Part 3 ⊕ Part 4))) refl)
            (IsPermutation-trans _ _ _ (IsPermutation-append_left (rest ++ (others ++ flat_map (takes fl) a.fired)) _ _ both)
            (shuffled (takes fl f ∷ rest ∷ others ∷ flat_map (takes fl) a.fired ∷ []) (Part 0 ⊕ (Part 1 ⊕ (Part 2 ⊕ Part 3)))
            (Part 1 ⊕ (Part 2 ⊕ (Part 0 ⊕ Part 3))) refl)))

        old_item : (j : Item) → Contains (rest ++ (others ++ (takes fl f ++ flat_map (takes fl) a.fired))) j → Near j → HasCause (f ∷ a.fired)
        old_item j h near = cause_later f a.fired (old j (Contains-permutation _ _ j (IsPermutation-sym _ _ perm) h) near)

        taken_item : (j : Item) → Contains (takes fl f) j → Contains (rest ++ (others ++ (takes fl f ++ flat_map (takes fl) a.fired))) j
        taken_item j h =
            Contains-append_right rest (others ++ (takes fl f ++ flat_map (takes fl) a.fired)) j
            (Contains-append_right others (takes fl f ++ flat_map (takes fl) a.fired) j (Contains-append_left (takes fl f) (flat_map (takes fl) a.fired) j h))

        by_maker : Cause f ⊎ Near (first_taken fl w f f.part) → HasCause (f ∷ a.fired)
        by_maker (inl cause) = (f, contains_head f a.fired, cause)
        by_maker (inr near) = old_item (first_taken fl w f f.part) (taken_item (first_taken fl w f f.part) (takes_first fl w f)) near

        pick : AllFit fl w (takes fl f) → (j : Item) → Contains (makes fl w f) j ⊎ Contains (rest ++ (others ++ (takes fl f ++ flat_map (takes fl) a.fired))) j
            → Near j → HasCause (f ∷ a.fired)
        pick mine j (inl h) near = by_maker (made f mine j h near)
        pick mine j (inr h) near = old_item j h near

    traced_moves : (a b : Config) → ProperMoves fl w a b → ((h : Firing) → Contains b.fired h → AllFit fl w (takes fl h)) → Traced a → Traced b
    traced_moves a b (Still e) fit old = old
    traced_moves a b (Then x mid y m proper more) fit old = traced_moves mid b more fit (traced_move a mid m (λ h d. fit h (fired_grow mid b more h d)) old)

    -- where nothing near is there at the beginning
    pub traced : (inputs : List ℤ) (b : Config) → ProperMoves fl w (begin inputs) b → ((h : Firing) → Contains b.fired h → AllFit fl w (takes fl h))
        → ((i : Item) → Begins inputs i → Near i → ⊥) → Traced b
    traced inputs b moves fit none =
        traced_moves (begin inputs) b moves fit (λ i h near. start i near (Contains-append_cases (begins inputs) [] i h))
      where
        start : (i : Item) → Near i → Contains (begins inputs) i ⊎ Contains [] i → HasCause []
        start i near (inl d) = absurd (none i (begin_cases inputs i d) near)
        start i near (inr d) = absurd (contains_none i d)
