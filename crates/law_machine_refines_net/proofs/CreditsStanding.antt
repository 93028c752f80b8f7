-- What is at the instructions of a loop's credits: at each inlet one item, and nothing before the loop is opened.
use Rattle.std.proofs.Common.{◌≡◌, ℕ, ◌<◌, ◌≤◌, true, false, List, [], ◌∷◌, ◌++◌, refl, sym, ap, ◌∙◌, subst, inl, inr, ◌⊎◌, arith, true≢false}
use Rattle.std.specs.Prelude.{IsPermutation, Contains, flat_map}
use Rattle.std.proofs.lemmas.Bool.{cases_eq}
use Rattle.std.proofs.lemmas.List.Elements.{Contains-append_left, Contains-append_right, Contains-append_cases}
use Rattle.std.proofs.lemmas.List.Sorted.{IsPermutation-trans, IsPermutation-sym, IsPermutation-append_left, Contains-permutation}
use Rattle.lemmas.proofs.Contains.{contains_head, contains_tail}
use Rattle.tags.specs.declared.token.Port.TheVariants.{Left}
use Rattle.law_confluence.specs.OrdersTotals.{one}
use Rattle.law_confluence.proofs.Orders.{total-append, total-IsPermutation, shuffled, Part as Piece, ◌⊕◌}
use Rattle.law_net.specs.ContextsParts.{Part, Opener, Giver, Taker, Drainer, Drained, DrainReturn, End, inlet, Item, item, Spot, spot_of, same_spot}
use Rattle.law_net.specs.ContextsBlocks.{is_loop, waits_in}
use Rattle.law_net.specs.Contexts.{block_in}
use Rattle.law_net.specs.ContextsFirings.{takes, times}
use Rattle.law_net.proofs.ContextsSames.{hits_at, hit_counted, same_spot-refl}
use Rattle.law_net.proofs.WiredNets.{once_all, taken_in}
use Rattle.law_net.proofs.WiredSends.{first_taken, takes_first, first_context}
use Rattle.law_net.proofs.CreditsTurns.{spot_at, taken_all, drained_taken}
use Rattle.law_net.proofs.CreditsOpened.{NTaker}
use Rattle.law_net.proofs.Credits as Credits
use Rattle.law_machine_refines_net.specs.MovesCases.{Taking, net_of, is_quiet}
use Rattle.law_machine_refines_net.proofs.MovesFitted.{IsHere, among}
use Rattle.law_machine_refines_net.proofs.CreditsBooks.{c, con}

-- WHERE THEY ARE after an event that takes item i
module _ (s : Taking) where
  pub others_there : (j : Item) → Contains s.others j → Contains (net_of s).pending j
  others_there j h = Contains-permutation _ _ j (IsPermutation-sym _ _ s.perm) (contains_tail s.i s.others j h)

  pub taken_there : Contains (net_of s).pending s.i
  taken_there = Contains-permutation _ _ s.i (IsPermutation-sym _ _ s.perm) (contains_head s.i s.others)

  pub rest_there : (j : Item) → Contains (s.others ++ (net_of s).waiting) j → IsHere s j
  rest_there j h = pick (Contains-append_cases s.others (net_of s).waiting j h)
    where
      pick : Contains s.others j ⊎ Contains (net_of s).waiting j → IsHere s j
      pick (inl h) = Contains-append_left (net_of s).pending (net_of s).waiting j (others_there j h)
      pick (inr h) = Contains-append_right (net_of s).pending (net_of s).waiting j h

  -- what is not quiet was there
  pub was_there : (made left : List Item) → ((j : Item) → Contains made j → is_quiet j.inlet.part ≡ true) → (j : Item) → is_quiet j.inlet.part ≡ false
      → Contains ((made ++ s.others) ++ left) j → Contains (s.others ++ left) j
  was_there made left quiet j e h = first (Contains-append_cases (made ++ s.others) left j h)
    where
      second : Contains made j ⊎ Contains s.others j → Contains (s.others ++ left) j
      second (inl h) = absurd (true≢false (sym (quiet j h) ∙ e))
      second (inr h) = Contains-append_left s.others left j h

      first : Contains (made ++ s.others) j ⊎ Contains left j → Contains (s.others ++ left) j
      first (inl h) = second (Contains-append_cases made s.others j h)
      first (inr h) = Contains-append_right s.others left j h

  -- no other is where item i is
  pub no_twin : (j : Item) → Contains (s.others ++ (net_of s).waiting) j → spot_of s.i ≡ spot_of j → ⊥
  no_twin j h e =
      let N = net_of s in let x = spot_of s.i in let f : Item → ℕ = λ (i : Item). one (same_spot x (spot_of i)) in
      let few = once_all s.fl s.w s.inputs N s.keeps.sound x in
      let a = total-append f N.pending (N.waiting ++ flat_map (takes s.fl) N.fired) in let b = total-append f N.waiting (flat_map (takes s.fl) N.fired) in
      let p = total-IsPermutation f N.pending (s.i ∷ s.others) s.perm in let o : f s.i ≡ 1 = ap one (same_spot-refl x) in
      let two = subst (λ (y : Spot). 0 < hits_at y (s.others ++ N.waiting)) (sym e) (hit_counted (s.others ++ N.waiting) j h) in
      let k = total-append f s.others N.waiting in omega (arith, few, a, b, p, o, two, k)

module _ (s : Taking) (n : ℕ) (l : is_loop (block_in s.fl s.i.context) n ≡ true) where
  pub spot_here : (j : Item) → IsHere s j → j.context ≡ c s n l → (r : Part) → j.inlet.part ≡ r → waits_in (block_in s.fl s.i.context) r ≡ false → (t : ℕ)
      → j.inlet.way ≡ t → spot_of j ≡ record { context = s.i.context; inlet = inlet r Left t }
  spot_here j h a r e none t o = spot_at s.fl s.p s.w s.inputs s.q s.m s.good s.keeps s.i.context (con s n l) n l j (among s j h) a r e none t o

  -- BEFORE IT IS OPENED
  module _ (never : times s.i.context (Opener n) (net_of s).fired ≡ 0) where
    no_more : 0 < times s.i.context (Opener n) (net_of s).fired → ⊥
    no_more h = omega (arith, never, h)

    pub no_take_yet : (j : Item) → IsHere s j → j.context ≡ s.i.context → j.inlet.part ≡ Taker n → ⊥
    no_take_yet j h a e =
        no_more (Credits.near_opened s.fl s.p s.w s.inputs s.q s.m s.good s.keeps s.i.context (con s n l) n l j (among s j h) (NTaker a e))

    pub no_give_yet : (j : Item) → IsHere s j → j.context ≡ s.i.context → j.inlet.part ≡ Giver n → ⊥
    no_give_yet j h a e =
        no_more (Credits.given_opened s.fl s.p s.w s.inputs s.q s.m s.good s.keeps s.i.context (con s n l) n l (Giver n) End (λ t. refl)
        (λ b. refl) refl j (among s j h) a e)

    pub no_drain_yet : (j : Item) → IsHere s j → j.context ≡ s.i.context → j.inlet.part ≡ Drainer n → ⊥
    no_drain_yet j h a e =
        no_more (Credits.given_opened s.fl s.p s.w s.inputs s.q s.m s.good s.keeps s.i.context (con s n l) n l (Drainer n) DrainReturn (λ t. refl)
        (λ b. refl) refl j (among s j h) a e)

    pub none_taken_yet : times s.i.context (Taker n) (net_of s).fired ≡ 0
    none_taken_yet = pick (cases_eq (times s.i.context (Taker n) (net_of s).fired) 0)
      where
        pick : (times s.i.context (Taker n) (net_of s).fired ≡ 0) ⊎ (times s.i.context (Taker n) (net_of s).fired ≡ 0 → ⊥)
            → times s.i.context (Taker n) (net_of s).fired ≡ 0
        pick (inl e) = e
        pick (inr x) =
            let h = Credits.firing_of s.i.context (Taker n) (net_of s).fired (omega (arith, x)) in
            let j = first_taken s.fl s.w h.0 h.0.part in
            let arrive = taken_all s.fl s.p s.w s.inputs s.q s.m s.good s.keeps j (taken_in s.fl (net_of s).fired h.0 j h.1 (takes_first s.fl s.w h.0)) in
            absurd (no_more (Credits.near_opened s.fl s.p s.w s.inputs s.q s.m s.good s.keeps s.i.context (con s n l) n l j arrive
            (NTaker (first_context s.fl s.w h.0 h.0.part ∙ h.2) (ap (λ (r : Part). (first_taken s.fl s.w h.0 r).inlet.part) h.3))))

    pub none_over_yet : times s.i.context (Drained n) (net_of s).fired ≡ 0
    none_over_yet = pick (cases_eq (times s.i.context (Drained n) (net_of s).fired) 0)
      where
        pick : (times s.i.context (Drained n) (net_of s).fired ≡ 0) ⊎ (times s.i.context (Drained n) (net_of s).fired ≡ 0 → ⊥)
            → times s.i.context (Drained n) (net_of s).fired ≡ 0
        pick (inl e) = e
        pick (inr x) =
            let h = Credits.firing_of s.i.context (Drained n) (net_of s).fired (omega (arith, x)) in
            let k = item h.0.context (inlet (Drainer n) Left h.0.turns) h.0.left in
            let arrive = taken_all s.fl s.p s.w s.inputs s.q s.m s.good s.keeps k
            (drained_taken s.fl s.p s.w s.inputs s.q s.m s.good s.keeps s.i.context (con s n l) n l h.0 h.1 h.2 h.3) in
            absurd (no_more (Credits.given_opened s.fl s.p s.w s.inputs s.q s.m s.good s.keeps s.i.context (con s n l) n l (Drainer n) DrainReturn
            (λ t. refl) (λ b. refl) refl k arrive h.2 refl))

-- and where item i waits
pub waited_perm : (s : Taking) → IsPermutation (s.others ++ (s.i ∷ (net_of s).waiting)) ((net_of s).pending ++ (net_of s).waiting)
waited_perm s =
    IsPermutation-trans _ _ _ (shuffled ((s.i ∷ []) ∷ s.others ∷ (net_of s).waiting ∷ []) (Piece 1 ⊕ (Piece 0 ⊕ Piece 2)) ((Piece 0 ⊕ Piece 1) ⊕ Piece 2) refl)
    (IsPermutation-append_left (net_of s).waiting _ _ (IsPermutation-sym _ _ s.perm))

pub waited_there : (s : Taking) (j : Item) → Contains (s.others ++ (s.i ∷ (net_of s).waiting)) j → IsHere s j
waited_there s j h = Contains-permutation _ _ j (waited_perm s) h

-- each is where no other is
pub apart : (s : Taking) (x : Spot) → hits_at x (s.others ++ (s.i ∷ (net_of s).waiting)) ≤ 1
apart s x =
    let f : Item → ℕ = λ (i : Item). one (same_spot x (spot_of i)) in let N = net_of s in
    let few = once_all s.fl s.w s.inputs N s.keeps.sound x in
    let a = total-append f N.pending (N.waiting ++ flat_map (takes s.fl) N.fired) in let b = total-append f N.waiting (flat_map (takes s.fl) N.fired) in
    let p = total-IsPermutation f N.pending (s.i ∷ s.others) s.perm in let o = total-append f s.others (s.i ∷ N.waiting) in omega (arith, few, a, b, p, o)

pub meet_not : (s : Taking) (i j : Item) → Contains s.others i → Contains (s.i ∷ (net_of s).waiting) j → spot_of i ≡ spot_of j → ⊥
meet_not s i j a b e =
    let few = apart s (spot_of j) in let t = total-append (λ (i : Item). one (same_spot (spot_of j) (spot_of i))) s.others (s.i ∷ (net_of s).waiting) in
    let o = hit_counted (s.i ∷ (net_of s).waiting) j b in let u = subst (λ (z : Spot). 0 < hits_at z s.others) e (hit_counted s.others i a) in
    omega (arith, few, t, o, u)
