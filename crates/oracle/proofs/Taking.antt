-- Activities whose tokens are out, and which are not done yet.
use Rattle.std.proofs.Common.{◌≡◌, ℕ, zero, suc, ◌<◌, List, [], ◌∷◌, ◌++◌, map, flat_map, length, Some, slice_get, IsPermutation, inl, inr, refl}
use Rattle.std.proofs.Common.{sym, ap, ap₂, ◌∙◌, subst, arith, ⊎_elim, append_assoc, append-nil}
use Rattle.std.specs.Prelude.{⊤}
use Rattle.std.proofs.lemmas.List.{map-append}
use Rattle.std.proofs.lemmas.List.Sorted.{IsPermutation-refl, IsPermutation-trans, IsPermutation-append_right}
use Rattle.tags.specs.declared.value.Value.{Value}
use Rattle.semantics.specs.Graph.{Graph, flow_of}
use Rattle.semantics.specs.Meaning.{Context, Tagged, Activity, taken, deed}
use Rattle.lemmas.proofs.Permutations.{Within, put_first, put_later, within_append, permutation_exchange}
use Rattle.oracle.specs.Deeds.{Deed, Sends, Steers, Enters, EntersAll, Stops, Reads, Fills, Puts}
use Rattle.oracle.specs.declared.invocations.Invocation.{Invocation}
use Rattle.oracle.specs.declared.tokens.Token.{Token}
use Rattle.oracle.specs.Lines.{outputs_at}
use Rattle.oracle.specs.Running.{main_place}
use Rattle.oracle.specs.Meant.{tagged_of, deed_of}
use Rattle.oracle.specs.Naming.{Named, IsKnown}
use Rattle.oracle.proofs.Entering.{AreKnown}
use Rattle.oracle.proofs.SameNames.{StartsWith, tokens_same, deed_same, known_same, as_long}
use Rattle.oracle.proofs.Turning.{DeedTurn, turn_more}

-- an output that a deed fills exists
abbrev pub IsShown : Graph → Deed → Type 0
IsShown g (Puts j v) = j < outputs_at g (main_place g)
IsShown g d = ⊤

-- these tokens are what the activity takes, and the deed with the values is its own
pub record Taking (g : Graph) (k : ℕ) (cs : List Context) (m : ℕ) (own : List Token) (act : List Value × Deed) (a : Activity) : Type 0 where
  pub known : AreKnown m own
  pub takes : map (tagged_of cs) own ≡ taken a
  pub does : deed (flow_of g) a ≡ Some (deed_of cs act.0 act.1)
  pub is_known : IsKnown g cs m act.0 act.1
  pub turn : DeedTurn k act.1
  pub put : IsShown g act.1
  pub some : 0 < length act.0

-- each in its turn
abbrev pub AreTaking : Graph → ℕ → List Context → ℕ → (Deed → Type 0) → List Token → List (List Value × Deed) → List Activity → Type 0
AreTaking g k cs m P held [] [] = held ≡ []
AreTaking g k cs m P held (act ∷ acts) [] = ⊥
AreTaking g k cs m P held [] (a ∷ as') = ⊥
AreTaking g k cs m P held (act ∷ acts) (a ∷ as') = (own : List Token) × (rest : List Token) × (held ≡ own ++ rest) × Taking g k cs m own act a
    × P act.1 × AreTaking g k cs m P rest acts as'

-- one more at the end
pub taking_more : (g : Graph) (k : ℕ) (cs : List Context) (m : ℕ) (P : Deed → Type 0) (held : List Token) (acts : List (List Value × Deed))
    (as' : List Activity) → AreTaking g k cs m P held acts as'
    → (own : List Token) (act : List Value × Deed) (a : Activity) → Taking g k cs m own act a → P act.1
    → AreTaking g k cs m P (held ++ own) (acts ++ act ∷ []) (as' ++ a ∷ [])
taking_more g k cs m P held [] [] h own act a t p = (own, [], ap (λ l. l ++ own) h ∙ sym (append-nil own), t, p, refl)
taking_more g k cs m P held (b ∷ acts) [] h own act a t p = absurd h
taking_more g k cs m P held [] (b ∷ as') h own act a t p = absurd h
taking_more g k cs m P held (b ∷ acts) (c ∷ as') h own act a t p =
    (h.0, h.1 ++ own, ap (λ l. l ++ own) h.2 ∙ append_assoc h.0 h.1 own, h.3, h.4, taking_more g k cs m P h.1 acts as' h.5 own act a t p)

pub turn_later : (k : ℕ) (d : Deed) → DeedTurn k d → DeedTurn (suc k) d
turn_later k (Sends c n p v) h = tt
turn_later k (Steers c n v) h = tt
turn_later k (Enters made f i v) h = turn_more (suc k) made h
turn_later k (EntersAll made f) h = turn_more (suc k) made h
turn_later k Stops h = tt
turn_later k (Reads c n x) h = tt
turn_later k (Fills c n x a i v) h = tt
turn_later k (Puts j v) h = tt

-- by other names, where no name changed
module _ (g : Graph) (k : ℕ) (xs ys : List Invocation) (cs ds : List Context) (old : Named g xs cs) (new : Named g ys ds) (more : StartsWith ys xs) where
  known_more : (ts : List Token) → AreKnown (length xs) ts → AreKnown (length ys) ts
  known_more [] h = tt
  known_more (t ∷ ts) h = let long = as_long xs ys more in let low = h.0 in (omega (arith, low, long), known_more ts h.1)

  pub taking_one : (j : ℕ) (own : List Token) (act : List Value × Deed) (a : Activity) → (DeedTurn k act.1 → DeedTurn j act.1)
      → Taking g k cs (length xs) own act a → Taking g j ds (length ys) own act a
  taking_one j own act a turn t = record {
    known = known_more own t.known;
    takes = tokens_same g xs ys cs ds old new more own t.known ∙ t.takes;
    does = t.does ∙ ap Some (sym (deed_same g xs ys cs ds old new more act.0 act.1 t.is_known));
    is_known = known_same g xs ys cs ds old new more act.0 act.1 t.is_known;
    turn = turn t.turn;
    put = t.put;
    some = t.some;
  }

  pub taking_moved : (j : ℕ) (P Q : Deed → Type 0) → ((d : Deed) → DeedTurn k d → DeedTurn j d) → ((d : Deed) → P d → Q d)
      → (held : List Token) (acts : List (List Value × Deed)) (as' : List Activity) → AreTaking g k cs (length xs) P held acts as'
      → AreTaking g j ds (length ys) Q held acts as'
  taking_moved j P Q turn to held [] [] h = h
  taking_moved j P Q turn to held (b ∷ acts) [] h = absurd h
  taking_moved j P Q turn to held [] (b ∷ as') h = absurd h
  taking_moved j P Q turn to held (b ∷ acts) (c ∷ as') h =
      (h.0, h.1, h.2, taking_one j h.0 b c (turn b.1) h.3, to b.1 h.4, taking_moved j P Q turn to h.1 acts as' h.5)

-- WHAT IS TAKEN in all
pub all_taken : (g : Graph) (k : ℕ) (cs : List Context) (m : ℕ) (P : Deed → Type 0) (held : List Token) (acts : List (List Value × Deed))
    (as' : List Activity) → AreTaking g k cs m P held acts as'
    → map (tagged_of cs) held ≡ flat_map taken as'
all_taken g k cs m P held [] [] h = ap (map (tagged_of cs)) h
all_taken g k cs m P held (b ∷ acts) [] h = absurd h
all_taken g k cs m P held [] (b ∷ as') h = absurd h
all_taken g k cs m P held (b ∷ acts) (c ∷ as') h =
    ap (map (tagged_of cs)) h.2 ∙ map-append (tagged_of cs) h.0 h.1 ∙ ap₂ (λ (a b : List Tagged). a ++ b) h.3.takes (all_taken g k cs m P h.1 acts as' h.5)

pub as_many : (g : Graph) (k : ℕ) (cs : List Context) (m : ℕ) (P : Deed → Type 0) (held : List Token) (acts : List (List Value × Deed))
    (as' : List Activity) → AreTaking g k cs m P held acts as'
    → length as' ≡ length acts
as_many g k cs m P held [] [] h = refl
as_many g k cs m P held (b ∷ acts) [] h = absurd h
as_many g k cs m P held [] (b ∷ as') h = absurd h
as_many g k cs m P held (b ∷ acts) (c ∷ as') h = ap suc (as_many g k cs m P h.1 acts as' h.5)

-- each activity of the list
pub taking_at : (g : Graph) (k : ℕ) (cs : List Context) (m : ℕ) (P : Deed → Type 0) (held : List Token) (acts : List (List Value × Deed))
    (as' : List Activity) → AreTaking g k cs m P held acts as'
    → (a : Activity) → Within a as' → (own : List Token) × (act : List Value × Deed) × Taking g k cs m own act a × P act.1
taking_at g k cs m P held [] [] h a w = absurd w.1
taking_at g k cs m P held (b ∷ acts) [] h a w = absurd h
taking_at g k cs m P held [] (b ∷ as') h a w = absurd h
taking_at g k cs m P held (b ∷ acts) (c ∷ as') h a (zs, inl p) = (h.0, b, subst (λ x. Taking g k cs m h.0 b x) (sym p.0) h.3, h.4)
taking_at g k cs m P held (b ∷ acts) (c ∷ as') h a (zs, inr p) = taking_at g k cs m P h.1 acts as' h.5 a (p.0, p.2)

-- LISTS
pub flat_within : (u : Tagged) (as' : List Activity) → Within u (flat_map taken as') → (a : Activity) × Within a as' × Within u (taken a)
flat_within u [] w = absurd w.1
flat_within u (a ∷ as') w =
    ⊎_elim (λ l. (a, (as', put_first a as'), l)) (λ r. let h = flat_within u as' r in (h.0, (a ∷ h.1.0, put_later h.0 a h.1.0 as' h.1.1), h.2))
    (within_append u (taken a) (flat_map taken as') w)

-- one of the activities and what the others take
pub one_taken : (as' : List Activity) (i : ℕ) (a : Activity) → slice_get as' i ≡ Some a → (others : List Tagged)
    × IsPermutation (flat_map taken as') (taken a ++ others)
one_taken [] i a e = cc
one_taken (b ∷ as') zero a e = let same : b ≡ a = cc
    in (flat_map taken as', subst (λ x. IsPermutation (taken b ++ flat_map taken as') (taken x ++ flat_map taken as')) same (IsPermutation-refl _))
one_taken (b ∷ as') (suc i) a e =
    let h = one_taken as' i a e in (
      taken b ++ h.0,
      IsPermutation-trans _ _ _ (IsPermutation-append_right (taken b) (flat_map taken as') (taken a ++ h.0) h.1)
          (permutation_exchange (taken b) (taken a) h.0),
    )
