-- Wired plans starve for credits alone only where no run of the meaning keeps within: the count.
use Rattle.std.proofs.Common.{◌≡◌, refl, sym, ◌∙◌, subst, ℕ, ◌+◌, ◌-◌, ◌<◌, ◌⊎◌, inl, inr, ℤ, Bool, true, false, List, [], ◌∷◌, ◌++◌, map}
use Rattle.std.proofs.Common.{length, Some, Option, arith, Contains, if◌then◌else◌}
use Rattle.std.specs.Prelude.{slice_get}
use Rattle.std.proofs.lemmas.List.{length-map}
use Rattle.std.proofs.lemmas.List.Elements.{Contains-append_left, Contains-append_right, Contains-append_cases}
use Rattle.std.proofs.lemmas.List.Sorted.{Contains-permutation, IsPermutation-sym}
use Rattle.lemmas.proofs.Alls.{all_from}
use Rattle.lemmas.proofs.Contains.{contains_cases, contains_head, contains_none, contains_map, get_contains}
use Rattle.tags.specs.declared.token.Cont.{Cont}
use Rattle.tags.specs.declared.slot.SlotState.TheVariants.{Waiter}
use Rattle.semantics.specs.declared.graph.Kind.{Kind}
use Rattle.semantics.specs.Graph.{Flow, Node}
use Rattle.semantics.specs.Meaning.{Context, Turned, Tagged, Activity, AtRest, node_of}
use Rattle.semantics.specs.Machine.{Machine, Resting}
use Rattle.semantics.specs.Plan.{Plan}
use Rattle.law_confluence.specs.OrdersTotals.{one, total}
use Rattle.law_confluence.proofs.History.{flow_determinate}
use Rattle.law_net.specs.ContextsParts.{Giver, Item}
use Rattle.law_net.specs.ContextsBlocks.{bound_at}
use Rattle.law_net.specs.Contexts.{Wires, block_in}
use Rattle.law_net.specs.ContextsFirings.{Config}
use Rattle.law_net.specs.ContextsMirror.{Past, only, is_item_at, items_at}
use Rattle.law_net.specs.ContextsTheorem.{IsGood}
use Rattle.law_net.specs.ContextsPackages.{InputsFit, Keeps}
use Rattle.law_net.proofs.RunsPigeons.{item_here}
use Rattle.law_net.proofs.WiredNets.{count_total}
use Rattle.law_end.proofs.RestStores.{fits_main}
use Rattle.law_end.proofs.RestStory.{story}
use Rattle.law_loops_complete.specs.Within.{SomeKeepsWithin, IsMissing, IsUnderWay, IsIn, place_of, HasBound}
use Rattle.law_loops_complete.proofs.Within.{flow_missing}
use Rattle.law_loop_credits.proofs.WithinNext.{next_is_held}
use Rattle.law_loop_credits.proofs.WithinHeld.{held_has_token}
use Rattle.law_loop_credits.proofs.WithinDone.{done_is_given_back}
use Rattle.law_loop_credits.proofs.WithinPlaces.{Absent, absent, under_way_or, one_turn, at_middle}
use Rattle.law_loop_credits.specs.NetsWait.{EndsWell, NetsStarveOutside}
use Rattle.law_loop_credits.specs.WithinParts.{IsGivenBack, NextOfTurn}
use Rattle.law_loop_credits.proofs.WaitsNet.{AtLoop, at_loop, Bounded, bounded, count}

has_bound : (o : Option (Node ℕ)) (line : Node ℕ) (f k : ℕ) → o ≡ Some line → line.kind ≡ Kind.Loop f k → HasBound o k
has_bound o line f k e is = subst (λ (o : Option (Node ℕ)). HasBound o k) (sym e) (f, is)

only_length : (test : Item → Bool) (items : List Item) → length (only test items) ≡ total (λ (i : Item). one (test i)) items
only_length test [] = refl
only_length test (i ∷ items) = go (test i) (only_length test items)
  where
    go : (t : Bool) → length (only test items) ≡ total (λ (i : Item). one (test i)) items
        → length ((if t then i ∷ [] else []) ++ only test items) ≡ one t + total (λ (i : Item). one (test i)) items
    go true more = omega (arith, more)
    go false more = omega (arith, more)

only_has : (test : Item → Bool) (items : List Item) (i : Item) → Contains items i → test i ≡ true → Contains (only test items) i
only_has test [] i k e = absurd (contains_none i k)
only_has test (j ∷ items) i k e = go (contains_cases j items i k) (only_has test items i)
  where
    here : (t : Bool) → t ≡ true → Contains ((if t then i ∷ [] else []) ++ only test items) i
    here true e = contains_head i (only test items)
    here false e = absurd (cc)

    go : (j ≡ i) ⊎ Contains items i → (Contains items i → test i ≡ true → Contains (only test items) i) → Contains (only test (j ∷ items)) i
    go (inl same) more =
        subst (λ (j : Item). Contains ((if test j then j ∷ [] else []) ++ only test items) i) (sym same) (here (test i) e)
    go (inr c) more = Contains-append_right (if test j then j ∷ [] else []) (only test items) i (more c e)

module _ (fl : Flow) (p : Plan) (w : Wires) (good : IsGood fl p w)
    (inputs : List ℤ) (past : Past) (m : Machine) (fit : InputsFit fl inputs) (kept : Keeps fl p w inputs past m) (rest : Resting m)
    (calm : m.store.requests ≡ []) (within : SomeKeepsWithin fl inputs) (ends : EndsWell fl inputs) where
  abbrev net : Config
  net = kept.tracks.net

  abbrev part : List Activity
  part = (story fl p w inputs past m good fit kept).run

  -- THE COUNT, where the activity that is missing is of iteration u
  module _ (M : IsMissing fl within.run part (story fl p w inputs past m good fit kept).state) (H : NextOfTurn fl w m net M.next) where
    abbrev c : Context
    c = H.context

    abbrev n : ℕ
    n = H.node

    abbrev u : ℕ
    u = H.turn

    abbrev most : ℕ
    most = bound_at (block_in fl c) n

    -- the numbers of the iterations that gave back
    given : List ℕ
    given = map (λ (i : Item). i.inlet.way) (only (is_item_at c (Giver n)) net.waiting)

    given_long : length given ≡ items_at c (Giver n) net.waiting
    unfolding given
    given_long =
        length-map (only (is_item_at c (Giver n)) net.waiting) (λ (i : Item). i.inlet.way) ∙ only_length (is_item_at c (Giver n)) net.waiting
        ∙ sym (count_total (is_item_at c (Giver n)) net.waiting)

    in_given : (t : ℕ) → IsGivenBack net c n t → Contains given t
    unfolding given
    in_given t G =
        subst (Contains (map (λ (i : Item). i.inlet.way) (only (is_item_at c (Giver n)) net.waiting))) G.number
        (contains_map (λ (i : Item). i.inlet.way) (only (is_item_at c (Giver n)) net.waiting) G.give
        (only_has (is_item_at c (Giver n)) net.waiting G.give G.waits (item_here c (Giver n) G.give G.of_loop G.at_giver)))

    -- before u - 1, those that did not
    A : Absent (u - 1) given
    A = absent (u - 1) given

    under_way : (t : ℕ) → Contains A.ts t → IsUnderWay within.run c n (length M.before) t
    under_way t k = go (under_way_or c n t M.before M.next M.later)
      where
        low : t < u - 1
        low = A.low t k

        happened : ((a : Activity) → Contains M.later a → IsIn (Turned c n t) (place_of a) → ⊥) → (a : Activity) → Contains within.run a
            → IsIn (Turned c n t) (place_of a) → Contains part a
        happened none a inside of = by (Contains-append_cases M.before (M.next ∷ M.later) a (subst (λ (l : List Activity). Contains l a) M.splits inside))
          where
            late : (M.next ≡ a) ⊎ Contains M.later a → Contains part a
            late (inl e) =
                let same = one_turn c n t u (place_of M.next) (subst (λ (a : Activity). IsIn (Turned c n t) (place_of a)) (sym e) of) H.inside in
                absurd (omega (arith, low, same))
            late (inr d) = absurd (none a d of)

            by : Contains M.before a ⊎ Contains (M.next ∷ M.later) a → Contains part a
            by (inl d) = Contains-permutation (M.before ++ M.others) part a (IsPermutation-sym _ _ M.made) (Contains-append_left M.before M.others a d)
            by (inr d) = late (contains_cases M.next M.later a d)

        go : IsUnderWay (M.before ++ M.next ∷ M.later) c n (length M.before) t
            ⊎ ((a : Activity) → Contains M.later a → IsIn (Turned c n t) (place_of a) → ⊥) → IsUnderWay within.run c n (length M.before) t
        go (inl way) = subst (λ (l : List Activity). IsUnderWay l c n (length M.before) t) (sym M.splits) way
        go (inr none) =
            absurd (A.none t k (in_given t (done_is_given_back fl p w inputs past m good fit kept rest calm c n u t H.waits (omega (arith, low))
            ends within.run within.state within.rests within.is_run (happened none))))

    soon : (t : ℕ) → Contains A.ts t → (t + 1 < u) × IsUnderWay within.run c n (length M.before) t
    soon t k = let l = A.low t k in (omega (arith, l), under_way t k)

    never : ⊥
    never =
        let B : Bounded fl p w inputs past m good fit kept c n u H.waits = bounded fl p w inputs past m good fit kept c n u H.waits in
        let few = within.within c n most u (length M.before) M.next (has_bound (node_of fl c n) B.line B.callee most B.there B.loops)
        (subst (λ (l : List Activity). slice_get l (length M.before) ≡ Some M.next) (sym M.splits) (at_middle M.before M.next M.later)) H.inside A.ts
        (all_from (λ (t : ℕ). (t + 1 < u) × IsUnderWay within.run c n (length M.before) t) A.ts (λ i t e. soon t (get_contains A.ts i t e))) A.apart in
        let many = A.many in let long = given_long in let sum = count fl p w inputs past m good fit kept c n u H.waits in
        omega (arith, few, many, long, sum)

  starves : (f s : ℕ) (x : Cont) → m.store.slots f s ≡ Waiter x → ⊥
  starves f s x e =
      go (flow_missing fl good.well inputs (fits_main fl p w inputs past m good fit kept) within.state within.rests.at_rest within.rests.no_clash within.run
      within.is_run part (story fl p w inputs past m good fit kept).state (story fl p w inputs past m good fit kept).is_run)
    where
      go : AtRest fl (story fl p w inputs past m good fit kept).state ⊎ IsMissing fl within.run part (story fl p w inputs past m good fit kept).state → ⊥
      go (inl quiet) =
          let L : AtLoop fl p w inputs past m good fit kept = at_loop fl p w inputs past m good fit kept f s x e in
          let T = held_has_token fl p w inputs past m good fit kept rest calm L.context L.node L.turn L.waits in
          let same = (flow_determinate fl good.well inputs (fits_main fl p w inputs past m good fit kept) within.state within.rests.reached
          within.rests.at_rest within.rests.no_clash).one_end (story fl p w inputs past m good fit kept).state
          record { run = (story fl p w inputs past m good fit kept).run; is_run = (story fl p w inputs past m good fit kept).is_run } quiet in
          contains_none T.token (subst (λ (ts : List Tagged). Contains ts T.token) (ends.none_left within.state within.rests)
          (Contains-permutation _ _ T.token same.0 T.stands))
      go (inr M) = never M (next_is_held fl p w inputs past m good fit kept rest calm M.next M.after M.enabled)

pub nets_starve_outside : NetsStarveOutside
nets_starve_outside fl p w good inputs past m fit kept f s x e rest calm within ends =
    starves fl p w good inputs past m fit kept rest calm within ends f s x e
