-- Where invocations were added, all others keep their names: so what is known keeps its tokens, and a deed stays the same.
use Rattle.std.proofs.Common.{◌≡◌, ℕ, ◌<◌, ◌≤◌, List, [], ◌∷◌, map, length, Some, slice_get, IsPermutation, refl, sym, ap, ◌∙◌, subst, arith}
use Rattle.std.proofs.lemmas.List.Sorted.{IsPermutation-map}
use Rattle.std.proofs.lemmas.Option.{slice_get_within}
use Rattle.lemmas.proofs.SliceGet.{get_some}
use Rattle.tags.specs.declared.value.Value.{Value}
use Rattle.semantics.specs.Graph.{Graph, flow_of}
use Rattle.semantics.specs.Meaning.{Context, block_number, Same}
use Rattle.semantics.specs.Meaning as Meaning
use Rattle.oracle.specs.declared.invocations.Made.{Made}
use Rattle.oracle.specs.declared.invocations.Made.TheVariants.{Main, Called, Turned}
use Rattle.oracle.specs.declared.invocations.Invocation.{Invocation}
use Rattle.oracle.specs.Deeds.{Deed, Sends, Steers, Enters, EntersAll, Stops, Reads, Fills, Puts}
use Rattle.oracle.specs.declared.tokens.Token.{Token}
use Rattle.oracle.specs.Meant.{name_in, made_of, tagged_of, deed_of}
use Rattle.oracle.specs.Naming.{IsBelow, CanEnter, IsKnown, Named}
use Rattle.oracle.specs.Running.{Plain}
use Rattle.oracle.proofs.Entering.{AreKnown, tokens_kept}
use Rattle.oracle.proofs.Filling.{memory_of}
use Rattle.oracle.proofs.Following.{all_tokens, meant}

-- what is there stays, at its number
abbrev pub StartsWith : List Invocation → List Invocation → Type 0
StartsWith ys xs = (i : ℕ) (x : Invocation) → slice_get xs i ≡ Some x → slice_get ys i ≡ Some x

pub as_long : (xs ys : List Invocation) → StartsWith ys xs → length xs ≤ length ys
as_long [] ys more = omega arith
as_long (x ∷ xs) ys more =
    let last = get_some (x ∷ xs) (length xs) (omega arith) in
    let low = slice_get_within ys (length xs) last.0 (more (length xs) last.0 last.1) in
    omega (arith, low)

module _ (g : Graph) (xs ys : List Invocation) (cs ds : List Context) (old : Named g xs cs) (new : Named g ys ds) (more : StartsWith ys xs) where
  abbrev Agrees : Context → Type 0
  Agrees c = (i : ℕ) → i < length xs → name_in cs i ≡ c → name_in ds i ≡ c

  abbrev MadesAgree : Context → Type 0
  MadesAgree c = (made : Made) → IsBelow (length xs) made → made_of cs made ≡ c → made_of ds made ≡ c

  main_agrees : MadesAgree Meaning.Main
  main_agrees Main h e = refl
  main_agrees made h e = cc

  called_agrees : (d : Context) (n : ℕ) → Agrees d → MadesAgree (Meaning.Called d n)
  called_agrees d n one (Called by k) h e =
      let name : name_in cs by ≡ d = cc in
      let node : k ≡ n = cc in
      ap (λ c. Meaning.Called c k) (one by h name) ∙ ap (λ k. Meaning.Called d k) node
  called_agrees d n one made h e = cc

  turned_agrees : (d : Context) (n i : ℕ) → Agrees d → MadesAgree (Meaning.Turned d n i)
  turned_agrees d n i one (Turned by k t) h e =
      let name : name_in cs by ≡ d = cc in
      let node : k ≡ n = cc in
      let turn : t ≡ i = cc in
      ap (λ c. Meaning.Turned c k t) (one by h name) ∙ ap (λ k. Meaning.Turned d k t) node ∙ ap (λ t. Meaning.Turned d n t) turn
  turned_agrees d n i one made h e = cc

  from_made : (c : Context) → MadesAgree c → Agrees c
  from_made c mades i h e =
      let x = get_some xs i h in
      sym (new.made i x.0 (more i x.0 x.1)) ∙ mades x.0.made (old.below i x.0 x.1) (old.made i x.0 x.1 ∙ e)

  all_agree : (c : Context) → Agrees c
  all_agree Meaning.Main = from_made Meaning.Main main_agrees
  all_agree (Meaning.Called d n) = from_made (Meaning.Called d n) (called_agrees d n (all_agree d))
  all_agree (Meaning.Turned d n i) = from_made (Meaning.Turned d n i) (turned_agrees d n i (all_agree d))

  pub name_same : (i : ℕ) → i < length xs → name_in ds i ≡ name_in cs i
  name_same i h = all_agree (name_in cs i) i h refl

  pub made_same : (made : Made) → IsBelow (length xs) made → made_of ds made ≡ made_of cs made
  made_same Main h = refl
  made_same (Called by n) h = ap (λ c. Meaning.Called c n) (name_same by h)
  made_same (Turned by n i) h = ap (λ c. Meaning.Turned c n i) (name_same by h)

  pub tokens_same : (ts : List Token) → AreKnown (length xs) ts → map (tagged_of ds) ts ≡ map (tagged_of cs) ts
  tokens_same ts h =
      let count = old.count in
      tokens_kept cs ds (λ i low. name_same i (omega (arith, low, count))) ts (subst (λ n. AreKnown n ts) (sym count) h)

  pub deed_same : (vs : List Value) (d : Deed) → IsKnown g cs (length xs) vs d → deed_of ds vs d ≡ deed_of cs vs d
  deed_same vs (Sends c n p v) h = ap (λ c. Meaning.Says (Meaning.Sends c n p v)) (name_same c h)
  deed_same vs (Steers c k v) h = ap (λ c. Meaning.Says (Meaning.Steers c k v)) (name_same c h)
  deed_same vs (Enters made f i v) h = ap (λ c. Meaning.Says (Meaning.Enters c i (v ∷ []))) (made_same made h.0)
  deed_same vs (EntersAll made f) h = ap (λ c. Meaning.Says (Meaning.Enters c 0 vs)) (made_same made h.0)
  deed_same vs Stops h = refl
  deed_same vs (Reads c n x) h = ap (λ c. Meaning.Reads c n x) (name_same c h.0)
  deed_same vs (Fills c n x a i v) h = ap (λ c. Meaning.Fills c n x v) (name_same c h.0)
  deed_same vs (Puts j v) h = refl

  below_same : (made : Made) → IsBelow (length xs) made → IsBelow (length ys) made
  below_same Main h = tt
  below_same (Called by n) h = let long = as_long xs ys more in omega (arith, h, long)
  below_same (Turned by n i) h = let long = as_long xs ys more in omega (arith, h, long)

  enter_same : (made : Made) (block : ℕ) → CanEnter g cs (length xs) made block → CanEnter g ds (length ys) made block
  enter_same made block h = (below_same made h.0, ap (block_number (flow_of g)) (made_same made h.0) ∙ h.1)

  pub known_same : (vs : List Value) (d : Deed) → IsKnown g cs (length xs) vs d → IsKnown g ds (length ys) vs d
  known_same vs (Sends c n p v) h = let long = as_long xs ys more in omega (arith, h, long)
  known_same vs (Steers c k v) h = let long = as_long xs ys more in omega (arith, h, long)
  known_same vs (Enters made f i v) h = enter_same made f h
  known_same vs (EntersAll made f) h = enter_same made f h
  known_same vs Stops h = tt
  known_same vs (Reads c n x) h = let long = as_long xs ys more in let low = h.0 in (omega (arith, low, long), h.1)
  known_same vs (Fills c n x a i v) h = let long = as_long xs ys more in let low = h.0 in (omega (arith, low, long), h.1, h.2)
  known_same vs (Puts j v) h = tt

-- the same tokens in another order, and the same memory: the same state
pub state_same : (g : Graph) (s t : Plain) (cs ds : List Context) → Named g s.invocations cs → Named g t.invocations ds
    → StartsWith t.invocations s.invocations → AreKnown (length s.invocations) (all_tokens s)
    → IsPermutation (all_tokens s) (all_tokens t) → s.cells ≡ t.cells → s.outputs ≡ t.outputs → Same (meant cs s) (meant ds t)
state_same g s t cs ds old new more known p e h = (
  subst (λ l. IsPermutation l (map (tagged_of ds) (all_tokens t))) (tokens_same g s.invocations t.invocations cs ds old new more (all_tokens s) known)
      (IsPermutation-map (tagged_of ds) (all_tokens s) (all_tokens t) p),
  ap (λ c. memory_of c s.outputs) e ∙ ap (memory_of t.cells) h,
)
