-- The credits that were given back: each is a signal of a turn of its own, and as many as there were turns are those of all turns.
use Rattle.std.proofs.Common.{◌≡◌, ℕ, zero, suc, ◌+◌, ◌<◌, ◌≤◌, Bool, true, false, not, List, [], ◌∷◌, ◌++◌, length, refl, sym, ap, ◌∙◌, subst, inl, inr, ◌⊎◌}
use Rattle.std.proofs.Common.{arith, true≢false}
use Rattle.std.specs.Prelude.{IsPermutation, Contains}
use Rattle.std.proofs.lemmas.Bool.{cases_eq}
use Rattle.std.proofs.lemmas.List.Sorted.{IsPermutation-refl, IsPermutation-trans, IsPermutation-sym, IsPermutation-append_right, IsPermutation-middle}
use Rattle.std.proofs.lemmas.List.Sorted.{Contains-permutation, length_permutation}
use Rattle.lemmas.proofs.Contains.{contains_cases, contains_head, contains_none, contains_tail}
use Rattle.tags.specs.declared.token.Port.TheVariants.{Left}
use Rattle.semantics.specs.Graph.{Flow}
use Rattle.semantics.specs.Meaning.{Context}
use Rattle.law_confluence.specs.OrdersTotals.{one, total}
use Rattle.law_confluence.proofs.Orders.{total-IsPermutation, shuffled, Part as Piece, ◌⊕◌}
use Rattle.law_net.specs.ContextsParts.{Part, Giver, inlet, signal, Item, item, Firing, Spot, spot_of, same_spot}
use Rattle.law_net.specs.ContextsBlocks.{is_loop}
use Rattle.law_net.specs.Contexts.{Wires, block_in}
use Rattle.law_net.specs.ContextsWires.{is_unwired}
use Rattle.law_net.specs.ContextsFirings.{begins, takes, makes, given_back}
use Rattle.law_net.specs.ContextsMirror.{is_in_cell}
use Rattle.law_net.specs.ContextsPackages.{AllFit}
use Rattle.law_net.proofs.ContextsSames.{hits_at, hit_found, hit_counted, same_spot-refl}
use Rattle.law_net.proofs.WiredGifts.{Gift, GHeld, GAsked, GArgument, GFanned, GEntry, GInput, GShown, GLanding, GLeaves, GDrains, GFreed, GDone, GCallDone}
use Rattle.law_net.proofs.WiredGifts.{GGiver, GTaker, GNextFramer, GNextAsked, GNextFanned, GNextEntry, GNextInput, GLoopDone}
use Rattle.law_net.proofs.WiredWords.{Begins, AtEntry, AtInput, begin_cases}
use Rattle.law_net.proofs.WiredFed.{MadeAt, ByGift, ByWire, made_at, sent_there}
use Rattle.law_net.proofs.WiredNets.{all_born}
use Rattle.law_net.proofs.RunsArrives.{fired_fit}
use Rattle.law_net.proofs.RunsPigeons.{few_pigeons}
use Rattle.law_net.proofs.CreditsTurns.{left_at}
use Rattle.law_machine_refines_net.specs.MovesCases.{Taking, net_of}
use Rattle.law_machine_refines_net.proofs.MovesLists.{kept_by, kept_yes, kept_no, taken_out}
use Rattle.law_machine_refines_net.proofs.MovesFitted.{IsHere, among, bare, bare_item}
use Rattle.law_machine_refines_net.proofs.CreditsBooks.{con}

abbrev is_giver : Part → Bool
is_giver (Giver n) = true
is_giver r = false

-- WHAT IS GIVEN BACK is a signal
gift_signal : (fl : Flow) (w : Wires) (f : Firing) (i : Item) (n : ℕ) → Gift fl w f i → i.inlet.part ≡ Giver n → i.word ≡ signal
gift_signal fl w f i n g e = go g
  where
    no : (j : Item) → i ≡ j → is_giver j.inlet.part ≡ false → i.word ≡ signal
    no j q o = absurd (true≢false (sym (ap is_giver e) ∙ ap (λ (i : Item). is_giver i.inlet.part) q ∙ o))

    go : Gift fl w f i → i.word ≡ signal
    go (GHeld m a b q) = no _ q refl
    go (GAsked m a q) = no _ q refl
    go (GArgument m o v a b h q) = no _ q refl
    go (GFanned m a q) = no _ q refl
    go (GEntry m a q) = no _ q refl
    go (GInput m o a q) = no _ q refl
    go (GShown j a b q) = no _ q refl
    go (GLanding d m j a b q) = no _ q refl
    go (GLeaves d m t j a b q) = no _ q refl
    go (GDrains d m t a b q) = no _ q refl
    go (GFreed a q) = no _ q refl
    go (GDone a b q) = no _ q refl
    go (GCallDone d m a b q) = no _ q refl
    go (GGiver d m t a b q) = ap (λ (i : Item). i.word) q
    go (GTaker d m t a b q) = no _ q refl
    go (GNextFramer m t a b q) = no _ q refl
    go (GNextAsked a q) = no _ q refl
    go (GNextFanned a q) = no _ q refl
    go (GNextEntry d m t a b q) = no _ q refl
    go (GNextInput d m t j a b q) = no _ q refl
    go (GLoopDone m a q) = no _ q refl

module _ (s : Taking) (n : ℕ) (l : is_loop (block_in s.fl s.i.context) n ≡ true) where
  pub give_signal : (j : Item) → IsHere s j → j.inlet.part ≡ Giver n → j.word ≡ signal
  give_signal j h e = born (all_born s.fl s.w s.inputs (net_of s) s.keeps.tracks.moves j (among s j h))
    where
      begun : Begins s.inputs j → j.word ≡ signal
      begun (AtEntry q) = absurd (true≢false (sym (ap is_giver e) ∙ ap (λ (i : Item). is_giver i.inlet.part) q))
      begun (AtInput m z o q) = absurd (true≢false (sym (ap is_giver e) ∙ ap (λ (i : Item). is_giver i.inlet.part) q))

      made : (f : Firing) → AllFit s.fl s.w (takes s.fl f) → MadeAt s.fl s.p s.w s.good f j → j.word ≡ signal
      made f fit (ByGift g) = gift_signal s.fl s.w f j n g e
      made f fit (ByWire x) =
          let t = sent_there s.fl s.p s.w s.good f j fit x in absurd (true≢false (sym (ap (is_unwired (block_in s.fl j.context)) e) ∙ t.2))

      born : Contains (begins s.inputs) j ⊎ ((f : Firing) × Contains (net_of s).fired f × Contains (makes s.fl s.w f) j) → j.word ≡ signal
      born (inl x) = begun (begin_cases s.inputs j x)
      born (inr (f, d, y)) =
          let fit = fired_fit s.fl s.p s.w s.inputs s.q s.m s.good s.keeps f d in made f fit (made_at s.fl s.p s.w s.good f j fit y)

  -- so it is known by its turn
  pub give_is : (j : Item) → IsHere s j → j.context ≡ s.i.context → j.inlet.part ≡ Giver n → j ≡ item s.i.context (inlet (Giver n) Left j.inlet.way) signal
  give_is j h a e =
      let port = left_at s.fl s.p s.w s.inputs s.q s.m s.good s.keeps s.i.context (con s n l) n l j (among s j h) a (Giver n) e refl in
      bare_item j (bare s j h (ap is_in_cell e)) (Giver n) Left j.inlet.way e port refl
      ∙ (λ t. item (a t) (inlet (Giver n) Left j.inlet.way) (give_signal j h e t))

-- ALL OF THEM
module _ (c : Context) (n : ℕ) where
  abbrev credit : ℕ → Item
  credit t = item c (inlet (Giver n) Left t) signal

  abbrev AreCredits : ℕ → List Item → Type 0
  AreCredits m items = (i : Item) → Contains items i → (t : ℕ) × (t < m) × (i ≡ credit t)

  abbrev AreApart : List Item → Type 0
  AreApart items = (x : Spot) → hits_at x items ≤ 1

  all_count : (items : List Item) → total (λ (i : Item). one true) items ≡ length items
  all_count [] = refl
  all_count (i ∷ items) = let a = all_count items in omega (arith, a)

  -- as many as there are turns are one for each
  pub all_credits : (m : ℕ) (items : List Item) → AreCredits m items → AreApart items → length items ≡ m → IsPermutation items (given_back c n m)
  all_credits zero [] are apart e = IsPermutation-refl []
  all_credits zero (i ∷ items) are apart e = absurd (omega (arith, e))
  all_credits (suc m) items are apart e = pick (cases_eq (hits_at (spot_of (credit m)) items) 0) (λ rest a b o. all_credits m rest a b o)
    where
      few : hits_at (spot_of (credit m)) items ≡ 0 → length items ≤ m
      few z =
          let a = few_pigeons (λ i. true) (λ t. spot_of (credit t)) m items apart (λ i h y. let o = are i h in (o.0, below i h o.0 o.1 o.2, ap spot_of o.2)) in
          let b = all_count items in omega (arith, a, b)
        where
          below : (i : Item) → Contains items i → (t : ℕ) → t < suc m → i ≡ credit t → t < m
          below i h t y q = differs (cases_eq t m)
            where
              differs : (t ≡ m) ⊎ (t ≡ m → ⊥) → t < m
              differs (inr x) = omega (arith, y, x)
              differs (inl x) =
                  let o = hit_counted items i h in let q' = subst (λ (z : Spot). 0 < hits_at z items) (ap spot_of q ∙ ap (λ t. spot_of (credit t)) x) o in
                  absurd (omega (arith, q', z))

      pick : (hits_at (spot_of (credit m)) items ≡ 0) ⊎ (hits_at (spot_of (credit m)) items ≡ 0 → ⊥)
          → ((rest : List Item) → AreCredits m rest → AreApart rest → length rest ≡ m → IsPermutation rest (given_back c n m))
          → IsPermutation items (given_back c n (suc m))
      pick (inl z) more = let a = few z in absurd (omega (arith, a, e))
      pick (inr x) more =
          let o = hit_found (spot_of (credit m)) items (omega (arith, x)) in
          let k = are o.0 o.1 in
          let way : k.0 ≡ m = ap (λ (z : Spot). z.inlet.way) (sym (ap spot_of k.2) ∙ o.2) in
          let this : o.0 ≡ credit m = k.2 ∙ ap credit way in
          let b = taken_out items o.0 o.1 in
          let perm : IsPermutation items (credit m ∷ (b.0 ++ b.1)) =
          subst (λ (z : Item). IsPermutation items (z ∷ (b.0 ++ b.1))) this
          (subst (λ (y : List Item). IsPermutation y (o.0 ∷ (b.0 ++ b.1))) (sym b.2) (IsPermutation-middle b.0 o.0 b.1)) in
          IsPermutation-trans _ _ _ perm (IsPermutation-append_right (credit m ∷ []) _ _
          (more (b.0 ++ b.1) (left perm) (fewer perm) (let a = length_permutation _ _ perm in omega (arith, a, e))))
        where
          hits_sum : (rest : List Item) → IsPermutation items (credit m ∷ rest) → (z : Spot)
              → hits_at z items ≡ one (same_spot z (spot_of (credit m))) + hits_at z rest
          hits_sum rest perm z = total-IsPermutation (λ (i : Item). one (same_spot z (spot_of i))) items (credit m ∷ rest) perm

          fewer : {rest : List Item} → IsPermutation items (credit m ∷ rest) → AreApart rest
          fewer {rest = rest} perm z = let a = hits_sum rest perm z in let b = apart z in omega (arith, a, b)

          left : {rest : List Item} → IsPermutation items (credit m ∷ rest) → AreCredits m rest
          left {rest = rest} perm i h =
              let o = are i (Contains-permutation _ _ i (IsPermutation-sym _ _ perm) (contains_tail (credit m) rest i h)) in (o.0, below o.0 o.1 o.2, o.2)
            where
              below : (t : ℕ) → t < suc m → i ≡ credit t → t < m
              below t y q = differs (cases_eq t m)
                where
                  differs : (t ≡ m) ⊎ (t ≡ m → ⊥) → t < m
                  differs (inr x) = omega (arith, y, x)
                  differs (inl x) =
                      let a = hits_sum rest perm (spot_of (credit m)) in let b = apart (spot_of (credit m)) in
                      let o = ap one (same_spot-refl (spot_of (credit m))) in
                      let k = subst (λ (z : Spot). 0 < hits_at z rest) (ap spot_of q ∙ ap (λ t. spot_of (credit t)) x) (hit_counted rest i h) in
                      absurd (omega (arith, a, b, o, k))

-- SPLITTING a list by a test
pub split_by : {X : Type 0} (test : X → Bool) (xs : List X) → IsPermutation xs (kept_by test xs ++ kept_by (λ x. not (test x)) xs)
split_by test [] = IsPermutation-refl []
split_by test (x ∷ xs) = go (test x) refl (split_by test xs)
  where
    go : (t : Bool) → test x ≡ t → IsPermutation xs (kept_by test xs ++ kept_by (λ x. not (test x)) xs)
        → IsPermutation (x ∷ xs) (kept_by test (x ∷ xs) ++ kept_by (λ x. not (test x)) (x ∷ xs))
    go true e p =
        subst (λ y. IsPermutation (x ∷ xs) y) (sym (λ t. kept_yes test x xs e t ++ kept_no (λ x. not (test x)) x xs (ap not e) t))
        (IsPermutation-append_right (x ∷ []) _ _ p)
    go false e p = subst (λ y. IsPermutation (x ∷ xs) y) (sym (λ t. kept_no test x xs e t ++ kept_yes (λ x. not (test x)) x xs (ap not e) t))
        (IsPermutation-trans _ _ _ (IsPermutation-append_right (x ∷ []) _ _ p)
        (shuffled ((x ∷ []) ∷ kept_by test xs ∷ kept_by (λ x. not (test x)) xs ∷ []) (Piece 0 ⊕ (Piece 1 ⊕ Piece 2)) (Piece 1 ⊕ (Piece 0 ⊕ Piece 2)) refl))

-- a list of one
pub only_one : (x : Item) (items : List Item) → Contains items x → ((i : Item) → Contains items i → spot_of i ≡ spot_of x) → hits_at (spot_of x) items ≤ 1
    → items ≡ x ∷ []
only_one x [] h same few = absurd (contains_none x h)
only_one x (i ∷ []) h same few = pick (contains_cases i [] x h)
  where
    pick : (i ≡ x) ⊎ Contains [] x → i ∷ [] ≡ x ∷ []
    pick (inl e) = ap (λ y. y ∷ []) e
    pick (inr d) = absurd (contains_none x d)
only_one x (i ∷ (j ∷ items)) h same few =
    let a = same i (contains_head i (j ∷ items)) in let b = same j (contains_tail i (j ∷ items) j (contains_head j items)) in
    let o : one (same_spot (spot_of x) (spot_of i)) ≡ 1 = ap one (ap (same_spot (spot_of x)) a ∙ same_spot-refl (spot_of x)) in
    let u : one (same_spot (spot_of x) (spot_of j)) ≡ 1 = ap one (ap (same_spot (spot_of x)) b ∙ same_spot-refl (spot_of x)) in
    absurd (omega (arith, few, o, u))
