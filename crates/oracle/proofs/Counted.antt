-- What a run has touched: every token that was there is in an invocation with a name, and every such invocation had a token.
use Rattle.std.proofs.Common.{◌≡◌, ℕ, zero, suc, ◌<◌, ◌⊎◌, inl, inr, List, [], ◌∷◌, ◌++◌, map, length, Option, Some, None, slice_get, IsPermutation}
use Rattle.std.proofs.Common.{refl, sym, ap, ◌∙◌, subst, arith, ⊎_elim, flat_map, append-nil}
use Rattle.std.proofs.lemmas.Bool.{cases_lt}
use Rattle.std.proofs.lemmas.List.{length-append}
use Rattle.std.proofs.lemmas.List.Sorted.{IsPermutation-sym, IsPermutation-append_right}
use Rattle.semantics.specs.Graph.{Graph}
use Rattle.semantics.specs.Meaning.{Context, Tagged, Activity, taken}
use Rattle.semantics.specs.Meaning as Meaning
use Rattle.lemmas.proofs.Permutations.{Within, put_first, put_later, within_permutation, within_append, within_left, within_right}
use Rattle.lemmas.proofs.Permutations.{within_to}
use Rattle.lemmas.proofs.Contains.{contains_get}
use Rattle.oracle.specs.declared.invocations.Made.{Made}
use Rattle.oracle.specs.declared.invocations.Invocation.{Invocation}
use Rattle.oracle.specs.declared.tokens.Spot.{Spot}
use Rattle.oracle.specs.declared.tokens.Token.{Token}
use Rattle.oracle.specs.Agreeing.{own}
use Rattle.oracle.specs.Running.{made_from, more_if, number_or, number_in}
use Rattle.oracle.specs.Meant.{name_in, tagged_of}
use Rattle.oracle.specs.Naming.{IsEntered}
use Rattle.oracle.proofs.Entering.{AreKnown}
use Rattle.oracle.proofs.Steering.{AreOf}

-- the first name is main's
pub record Touched (past : List Tagged) (names : List Context) : Type 0 where
  pub others : List Context
  pub first : names ≡ Meaning.Main ∷ others
  pub seen : (x : Tagged) → Within x past → Within x.context names
  pub touched : (c : Context) → Within c names → (c ≡ Meaning.Main) ⊎ ((x : Tagged) × Within x past × (x.context ≡ c))

-- all tokens that were taken or are there
abbrev pub past_of : List Activity → List Tagged → List Tagged
past_of run tokens = flat_map taken run ++ tokens

-- in another order
pub touched_moved : (run : List Activity) (old new : List Tagged) (names : List Context) → IsPermutation old new → Touched (past_of run old) names
    → Touched (past_of run new) names
touched_moved run old new names p h =
    let q : IsPermutation (past_of run old) (past_of run new) = IsPermutation-append_right (flat_map taken run) old new p in
    record {
      others = h.others;
      first = h.first;
      seen = λ x k. h.seen x (within_permutation x (past_of run new) (past_of run old) (IsPermutation-sym _ _ q) k);
      touched = λ c k. ⊎_elim (λ e. inl e) (λ t. inr (t.0, within_permutation t.0 (past_of run old) (past_of run new) q t.1, t.2)) (h.touched c k);
    }

-- NAMES AND NUMBERS
pub name_within : (cs : List Context) (i : ℕ) → i < length cs → Within (name_in cs i) cs
name_within [] i h = absurd (omega (arith, h))
name_within (c ∷ cs) zero h = (cs, put_first c cs)
name_within (c ∷ cs) (suc i) h = let r = name_within cs i (omega (arith, h)) in (c ∷ r.0, put_later (name_in cs i) c r.0 cs r.1)

pub name_of_get : (cs : List Context) (i : ℕ) (c : Context) → slice_get cs i ≡ Some c → (i < length cs) × (name_in cs i ≡ c)
name_of_get [] i c e = cc
name_of_get (d ∷ cs) zero c e = (omega arith, cc)
name_of_get (d ∷ cs) (suc i) c e = let r = name_of_get cs i c e in let low = r.0 in (omega (arith, low), r.1)

pub number_of_name : (cs : List Context) (c : Context) → Within c cs → (i : ℕ) × (i < length cs) × (name_in cs i ≡ c)
number_of_name cs c h = let k = contains_get cs c (within_to c cs h) in let r = name_of_get cs k.0 c k.1 in (k.0, r.0, r.1)

-- a token of a known invocation
pub token_named : (names : List Context) (m : ℕ) (ts : List Token) → m ≡ length names → AreKnown m ts → (x : Tagged) → Within x (map (tagged_of names) ts)
    → Within x.context names
token_named names m [] is h x k = absurd k.1
token_named names m (t ∷ ts) is h x (zs, inl p) =
    let low = h.0 in
    subst (λ (y : Tagged). Within y.context names) (sym p.0) (name_within names t.context (omega (arith, low, is)))
token_named names m (t ∷ ts) is h x (zs, inr p) = token_named names m ts is h.1 x (p.0, p.2)

-- ONE MORE ACTIVITY
taken_more : (run : List Activity) (a : Activity) (x : Tagged) → Within x (flat_map taken (run ++ a ∷ [])) → Within x (flat_map taken run) ⊎ Within x (taken a)
taken_more [] a x h = inr (subst (Within x) (append-nil (taken a)) h)
taken_more (b ∷ run) a x h =
    ⊎_elim (λ l. inl (within_left x (taken b) (flat_map taken run) l))
    (λ r. ⊎_elim (λ l. inl (within_right x (taken b) (flat_map taken run) l)) (λ l. inr l) (taken_more run a x r))
    (within_append x (taken b) (flat_map taken (run ++ a ∷ [])) h)

old_taken : (run : List Activity) (a : Activity) (x : Tagged) → Within x (flat_map taken run) → Within x (flat_map taken (run ++ a ∷ []))
old_taken [] a x h = absurd h.1
old_taken (b ∷ run) a x h =
    ⊎_elim (λ l. within_left x (taken b) (flat_map taken (run ++ a ∷ [])) l)
    (λ r. within_right x (taken b) (flat_map taken (run ++ a ∷ [])) (old_taken run a x r)) (within_append x (taken b) (flat_map taken run) h)

last_taken : (run : List Activity) (a : Activity) (x : Tagged) → Within x (taken a) → Within x (flat_map taken (run ++ a ∷ []))
last_taken [] a x h = within_left x (taken a) [] h
last_taken (b ∷ run) a x h = within_right x (taken b) (flat_map taken (run ++ a ∷ [])) (last_taken run a x h)

module _ (run : List Activity) (a : Activity) (old new added rest : List Tagged) (takes : IsPermutation old (taken a ++ rest))
    (leaves : IsPermutation new (added ++ rest)) where
  was : (x : Tagged) → Within x (past_of (run ++ a ∷ []) new) → Within x (past_of run old) ⊎ Within x added
  was x h =
      ⊎_elim
      (λ t. ⊎_elim (λ l. inl (within_left x (flat_map taken run) old l))
      (λ l. inl (within_right x (flat_map taken run) old (within_permutation x (taken a ++ rest) old (IsPermutation-sym _ _ takes)
      (within_left x (taken a) rest l)))) (taken_more run a x t))
      (λ n. ⊎_elim (λ l. inr l)
      (λ l. inl (within_right x (flat_map taken run) old (within_permutation x (taken a ++ rest) old (IsPermutation-sym _ _ takes)
      (within_right x (taken a) rest l)))) (within_append x added rest (within_permutation x new (added ++ rest) leaves n)))
      (within_append x (flat_map taken (run ++ a ∷ [])) new h)

  left_there : (x : Tagged) → Within x (added ++ rest) → Within x (past_of (run ++ a ∷ []) new)
  left_there x h =
      within_right x (flat_map taken (run ++ a ∷ [])) new (within_permutation x (added ++ rest) new (IsPermutation-sym _ _ leaves) h)

  still : (x : Tagged) → Within x (past_of run old) → Within x (past_of (run ++ a ∷ []) new)
  still x h =
      ⊎_elim (λ l. within_left x (flat_map taken (run ++ a ∷ [])) new (old_taken run a x l))
      (λ o. ⊎_elim (λ l. within_left x (flat_map taken (run ++ a ∷ [])) new (last_taken run a x l)) (λ l. left_there x (within_right x added rest l))
      (within_append x (taken a) rest (within_permutation x old (taken a ++ rest) takes o)))
      (within_append x (flat_map taken run) old h)

  pub touched_more : (names more : List Context) → Touched (past_of run old) names
      → (others : List Context) → more ≡ Meaning.Main ∷ others
      → ((c : Context) → Within c names → Within c more)
      → ((x : Tagged) → Within x new → Within x.context more)
      → ((c : Context) → Within c more → Within c names ⊎ ((x : Tagged) × Within x added × (x.context ≡ c)))
      → Touched (past_of (run ++ a ∷ []) new) more
  touched_more names more h others first wide known fresh = record {
    others = others;
    first = first;
    seen = λ x k. ⊎_elim (λ o. wide x.context (h.seen x o))
        (λ l. known x (within_permutation x (added ++ rest) new (IsPermutation-sym _ _ leaves) (within_left x added rest l))) (was x k);
    touched = λ c k. ⊎_elim
        (λ o. ⊎_elim (λ e. inl e) (λ t. inr (t.0, still t.0 t.1, t.2)) (h.touched c o))
        (λ f. inr (f.0, left_there f.0 (within_left f.0 added rest f.1), f.2)) (fresh c k);
  }

-- AN INVOCATION IS ENTERED
place_cases : (xs : List Invocation) (made : Made) (block : ℕ) (o : Option ℕ) (i : ℕ) → i < length (more_if xs made block o)
    → (i < length xs) ⊎ (i ≡ number_or xs o)
place_cases xs made block None i h =
    let long = length-append xs (record { made = made; block = block } ∷ []) in
    ⊎_elim (λ low. inl low) (λ high. inr (omega (arith, long, high, h))) (cases_lt i (length xs))
place_cases xs made block (Some k) i h = inl h

module _ (g : Graph) (xs : List Invocation) (names : List Context) (made : Made) (block : ℕ) (count : length names ≡ length xs)
    (e : IsEntered g xs names made block) where
  pub entered_wide : (c : Context) → Within c names → Within c e.names
  entered_wide c h =
      let k = number_of_name names c h in
      let low = k.1 in
      let more = e.more in
      subst (λ c. Within c e.names) (e.kept k.0 low ∙ k.2) (name_within e.names k.0 (omega (arith, low, more)))

  pub entered_first : (others : List Context) → names ≡ Meaning.Main ∷ others → (rest : List Context) × (e.names ≡ Meaning.Main ∷ rest)
  entered_first others is =
      go e.names refl
    where
      one : 0 < length names
      one = let long = ap length is in omega (arith, long)

      head : name_in e.names 0 ≡ Meaning.Main
      head = e.kept 0 one ∙ ap (λ cs. name_in cs 0) is

      go : (cs : List Context) → e.names ≡ cs → (rest : List Context) × (e.names ≡ Meaning.Main ∷ rest)
      go [] q = let more = e.more in let none = ap length q in absurd (omega (arith, more, none, one))
      go (c ∷ cs) q = (cs, q ∙ ap (λ c. c ∷ cs) (ap (λ cs. name_in cs 0) (sym q) ∙ head))

  -- the new one has these tokens
  pub entered_fresh : (new : List Token) → AreOf (number_in xs made) new → 0 < length new → (c : Context) → Within c e.names
      → Within c names ⊎ ((x : Tagged) × Within x (map (tagged_of e.names) new) × (x.context ≡ c))
  entered_fresh [] of some c h = absurd (omega (arith, some))
  entered_fresh (t ∷ new) of some c h =
      let k = number_of_name e.names c h in
      let low = k.1 in
      let wide = e.named.count in
      ⊎_elim
      (λ old. inl (subst (λ c. Within c names) (sym (e.kept k.0 (omega (arith, old, count))) ∙ k.2) (name_within names k.0 (omega (arith, old, count)))))
      (λ is. inr (
        tagged_of e.names t,
        (map (tagged_of e.names) new, put_first (tagged_of e.names t) (map (tagged_of e.names) new)),
        ap (name_in e.names) (of.0 ∙ sym is) ∙ k.2,
      ))
      (place_cases xs made block (made_from made 0 xs) k.0 (omega (arith, low, wide)))

-- an activity takes the token that was looked at, so it takes some
pub own_some : (q : Spot) (ss : List Spot) → own q ss ≡ 1 → 0 < length ss
own_some q [] h = cc
own_some q (s ∷ ss) h = omega arith
