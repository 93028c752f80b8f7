-- An invocation is entered.
use Rattle.std.proofs.Common.{◌≡◌, ℕ, zero, suc, ◌+◌, ◌<◌, ◌≤◌, ◌⊎◌, inl, inr, Bool, true, false, ◌&&◌, ◌==◌, List, [], ◌∷◌, ◌++◌, map, length}
use Rattle.std.proofs.Common.{Option, Some, None, slice_get, if◌then◌else◌, refl, sym, ap, ◌∙◌, subst, arith, eqb-true}
use Rattle.std.proofs.lemmas.List.{length-append}
use Rattle.std.proofs.lemmas.Bool.{and_parts}
use Rattle.std.proofs.lemmas.Option.{slice_get_within, same_Some}
use Rattle.semantics.specs.Graph.{Graph, flow_of}
use Rattle.semantics.specs.Meaning.{Context, Tagged, block_number}
use Rattle.semantics.specs.Meaning as Meaning
use Rattle.lemmas.proofs.Permutations.{Each}
use Rattle.oracle.specs.declared.invocations.Made.{Made}
use Rattle.oracle.specs.declared.invocations.Made.TheVariants.{Main, Called, Turned}
use Rattle.oracle.specs.declared.invocations.Invocation.{Invocation}
use Rattle.oracle.specs.declared.tokens.Token.{Token}
use Rattle.oracle.specs.Running.{same_made, made_from, number_or, more_if}
use Rattle.oracle.specs.Meant.{name_in, made_of, tagged_of, statement_of, port_of}
use Rattle.oracle.specs.Naming.{IsBelow, CanEnter, Named, IsEntered}

pub made_same : (a b : Made) → same_made a b ≡ true → a ≡ b
made_same Main Main h = refl
made_same (Called c n) (Called d m) h = let p = and_parts (c == d) (n == m) h in ap (λ k. Called k n) (eqb-true c d p.0)
    ∙ ap (λ k. Called d k) (eqb-true n m p.1)
made_same (Turned c n i) (Turned d m j) h =
    let p = and_parts ((c == d) && (n == m)) (i == j) h in
    let q = and_parts (c == d) (n == m) p.0 in
    ap (λ k. Turned k n i) (eqb-true c d q.0) ∙ ap (λ k. Turned d k i) (eqb-true n m q.1) ∙ ap (λ k. Turned d m k) (eqb-true i j p.1)
made_same a b h = cc

pub made_found : (made : Made) (i k : ℕ) (xs : List Invocation) → made_from made i xs ≡ Some k → (j : ℕ) × (x : Invocation) × (k ≡ i + j)
    × (slice_get xs j ≡ Some x) × (x.made ≡ made)
made_found made i k [] h = cc
made_found made i k (x ∷ xs) h =
    let Goal : Type 0 = (j : ℕ) × (y : Invocation) × (k ≡ i + j) × (slice_get (x ∷ xs) j ≡ Some y) × (y.made ≡ made) in
    let cases : (b : Bool) → same_made x.made made ≡ b → (if b then Some i else made_from made (i + 1) xs) ≡ Some k → Goal
    = λ b. elim b as (λ b. same_made x.made made ≡ b → (if b then Some i else made_from made (i + 1) xs) ≡ Some k → Goal) [
      | true ↦ λ e q. let is = same_Some i k q in (0, x, omega (arith, is), refl, made_same x.made made e)
      | false ↦ λ e q. let r = made_found made (i + 1) k xs q in let is = r.2 in (suc r.0, r.1, omega (arith, is), r.3, r.4)
    ] in
    cases (same_made x.made made) refl h

-- LISTS with one more at the end
name_kept : (cs : List Context) (d : Context) (i : ℕ) → i < length cs → name_in (cs ++ d ∷ []) i ≡ name_in cs i
name_kept [] d i h = absurd (omega (arith, h))
name_kept (c ∷ cs) d zero h = refl
name_kept (c ∷ cs) d (suc i) h = name_kept cs d i (omega (arith, h))

name_last : (cs : List Context) (d : Context) → name_in (cs ++ d ∷ []) (length cs) ≡ d
name_last [] d = refl
name_last (c ∷ cs) d = name_last cs d

pub get_last : (xs : List Invocation) (y : Invocation) (i : ℕ) (x : Invocation) → slice_get (xs ++ y ∷ []) i ≡ Some x
    → (slice_get xs i ≡ Some x) ⊎ ((i ≡ length xs) × (y ≡ x))
get_last [] y zero x h = inr (refl, same_Some y x h)
get_last [] y (suc i) x h = cc
get_last (z ∷ xs) y zero x h = inl h
get_last (z ∷ xs) y (suc i) x h =
    let r = get_last xs y i x h in
    elim r as (λ r. (slice_get (z ∷ xs) (suc i) ≡ Some x) ⊎ ((suc i ≡ length (z ∷ xs)) × (y ≡ x))) [
      | inl e ↦ inl e
      | inr e ↦ let is = e.0
          in inr (omega (arith, is), e.1)
    ]

made_kept : (cs : List Context) (d : Context) (made : Made) → IsBelow (length cs) made → made_of (cs ++ d ∷ []) made ≡ made_of cs made
made_kept cs d Main h = refl
made_kept cs d (Called by n) h = ap (λ c. Meaning.Called c n) (name_kept cs d by h)
made_kept cs d (Turned by n i) h = ap (λ c. Meaning.Turned c n i) (name_kept cs d by h)

below_more : (m n : ℕ) (made : Made) → m ≤ n → IsBelow m made → IsBelow n made
below_more m n Main le h = tt
below_more m n (Called by k) le h = omega (arith, le, h)
below_more m n (Turned by k i) le h = omega (arith, le, h)

pub entered_law : (g : Graph) (xs : List Invocation) (cs : List Context) (made : Made) (block : ℕ) → Named g xs cs
    → CanEnter g cs (length xs) made block → IsEntered g xs cs made block
entered_law g xs cs made block named can =
    let d = made_of cs made in
    let y : Invocation = record { made = made; block = block } in
    let Goal : Option ℕ → Type 0 = λ o. (names : List Context) × Named g (more_if xs made block o) names
    × ((i : ℕ) → i < length cs → name_in names i ≡ name_in cs i) × (length cs ≤ length names)
    × (number_or xs o < length names) × (name_in names (number_or xs o) ≡ made_of cs made) in
    let cases : (o : Option ℕ) → made_from made 0 xs ≡ o → Goal o
    = λ o. elim o as (λ o. made_from made 0 xs ≡ o → Goal o) [
      | None ↦ λ e.
          let count = named.count in
          let can_here : IsBelow (length cs) made = subst (λ n. IsBelow n made) (sym count) can.0 in
          let long_cs = length-append cs (d ∷ []) in
          let long_xs = length-append xs (y ∷ []) in
          let old_made : (i : ℕ) (x : Invocation) → slice_get xs i ≡ Some x → made_of (cs ++ d ∷ []) x.made ≡ name_in (cs ++ d ∷ []) i
          = λ i x h. let low = slice_get_within xs i x h in made_kept cs d x.made (subst (λ n. IsBelow n x.made) (sym count) (named.below i x h))
          ∙ named.made i x h ∙ sym (name_kept cs d i (omega (arith, low, count))) in
          let old_block : (i : ℕ) (x : Invocation) → slice_get xs i ≡ Some x → block_number (flow_of g) (name_in (cs ++ d ∷ []) i) ≡ Some x.block
          = λ i x h. let low = slice_get_within xs i x h in ap (block_number (flow_of g)) (name_kept cs d i (omega (arith, low, count))) ∙ named.block i x h in
          let at_end : name_in (cs ++ d ∷ []) (length xs) ≡ d = ap (name_in (cs ++ d ∷ [])) (sym count) ∙ name_last cs d in
          let all : Named g (xs ++ y ∷ []) (cs ++ d ∷ []) = record {
            count = omega (arith, count, long_cs, long_xs);
            made = λ i x h. elim (get_last xs y i x h) as (λ r. made_of (cs ++ d ∷ []) x.made ≡ name_in (cs ++ d ∷ []) i) [
              | inl e ↦ old_made i x e
              | inr e ↦ subst (λ z. made_of (cs ++ d ∷ []) z.made ≡ name_in (cs ++ d ∷ []) i) e.1 (made_kept cs d made can_here ∙ sym at_end
                  ∙ ap (name_in (cs ++ d ∷ [])) (sym e.0))
            ];
            block = λ i x h. elim (get_last xs y i x h) as (λ r. block_number (flow_of g) (name_in (cs ++ d ∷ []) i) ≡ Some x.block) [
              | inl e ↦ old_block i x e
              | inr e ↦ subst (λ z. block_number (flow_of g) (name_in (cs ++ d ∷ []) i) ≡ Some z.block) e.1
                  (ap (λ k. block_number (flow_of g) (name_in (cs ++ d ∷ []) k)) e.0 ∙ ap (block_number (flow_of g)) at_end ∙ can.1)
            ];
            below = λ i x h. elim (get_last xs y i x h) as (λ r. IsBelow (length (xs ++ y ∷ [])) x.made) [
              | inl e ↦ below_more (length xs) (length (xs ++ y ∷ [])) x.made (omega (arith, long_xs)) (named.below i x e)
              | inr e ↦ subst (λ z. IsBelow (length (xs ++ y ∷ [])) z.made) e.1 (below_more (length xs) (length (xs ++ y ∷ [])) made
                  (omega (arith, long_xs)) can.0)
            ];
          } in
          (cs ++ d ∷ [], all, name_kept cs d, omega (arith, long_cs), omega (arith, count, long_cs), at_end)
      | Some k ↦ λ e.
          let r = made_found made 0 k xs e in
          let at_k : k ≡ r.0 = let is = r.2 in omega (arith, is) in
          let low = slice_get_within xs r.0 r.1 r.3 in
          let count = named.count in
          (cs, named, (λ i h. refl), omega arith, omega (arith, at_k, low, count), ap (name_in cs) at_k ∙ sym (named.made r.0 r.1 r.3) ∙ ap (made_of cs) r.4)
    ] in
    let all = cases (made_from made 0 xs) refl in
    record { names = all.0; named = all.1; kept = all.2; more = all.3; number = all.4; name = all.5 }

-- TOKENS of invocations that are there
abbrev pub AreKnown : ℕ → List Token → Type 0
AreKnown m ts = Each (λ (t : Token). t.context < m) ts

pub tokens_kept : (cs ds : List Context) → ((i : ℕ) → i < length cs → name_in ds i ≡ name_in cs i) → (ts : List Token) → AreKnown (length cs) ts
    → map (tagged_of ds) ts ≡ map (tagged_of cs) ts
tokens_kept cs ds kept [] h = refl
tokens_kept cs ds kept (t ∷ ts) h =
    ap (λ z. tagged_of ds t ∷ z) (tokens_kept cs ds kept ts h.1)
    ∙ ap (λ c. Meaning.tagged c (statement_of t.spot) (port_of t.spot) t.value ∷ map (tagged_of cs) ts) (kept t.context h.0)
