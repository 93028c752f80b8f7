-- One more event at the end of a run.
use Rattle.std.proofs.Common.{◌≡◌, refl, sym, ap, ◌∙◌, subst, ℕ, ◌*◌, ◌⊎◌, inl, inr, ◌+◌, List, [], ◌∷◌, ◌++◌, Option, append_assoc, append-nil, arith}
use Rattle.std.proofs.lemmas.List.Sorted.{IsPermutation-refl, IsPermutation-trans}
use Rattle.tags.specs.declared.token.To.{To}
use Rattle.tags.specs.declared.token.Token.{Token}
use Rattle.semantics.specs.Program.{Program}
use Rattle.semantics.specs.Machine.{Store, Machine, Size, Happens, Event, Events, Run}
use Rattle.semantics.specs.Arcs.{SomeEvent}
use Rattle.semantics.specs.Handed.{handed_by, handed}
use Rattle.semantics.specs.Holders.{Holder, held_by_event, holds}
use Rattle.semantics.specs.Plan.{Plan}

pub run_snoc : (p : Program) (z : Size) (a b c : Machine) (events : Events) (e : ℕ) (t : Token) → Run p z a events b → Event p z e t b c
    → Run p z a (events ++ (e, t) ∷ []) c
run_snoc p z a b c [] e t r ev = (
  c,
  record {
    made = ev.made;
    rest = ev.rest;
    addressed = ev.addressed;
    takes = IsPermutation-trans _ _ _ r.0 ev.takes;
    happens = subst (λ (s : Store). Happens p (z.elements * z.frames) s t.to t.word ev.made c.store) r.1 ev.happens;
    leaves = ev.leaves;
  },
  (IsPermutation-refl c.pool, refl),
)
run_snoc p z a b c (x ∷ events) e t r ev = (r.0, r.1, run_snoc p z r.0 b c events e t r.2 ev)

pub handed_snoc : (p : Program) (z : Size) (a b c : Machine) (events : Events) (e : ℕ) (t : Token) (r : Run p z a events b) (ev : Event p z e t b c)
    → handed p z a (events ++ (e, t) ∷ []) c (run_snoc p z a b c events e t r ev) ≡ handed p z a events b r ++ handed_by t.to ev.made
unfolding run_snoc
handed_snoc p z a b c [] e t r ev = append-nil (handed_by t.to ev.made)
handed_snoc p z a b c (x ∷ events) e t r ev =
    ap (λ (l : List ℕ). handed_by x.1.to r.1.made ++ l) (handed_snoc p z r.0 b c events e t r.2 ev)
    ∙ sym (append_assoc (handed_by x.1.to r.1.made) (handed p z r.0 events b r.2) (handed_by t.to ev.made))

-- some event of the longer run
pub some_snoc : (K : Token → List Token → Machine → Type 0) (p : Program) (z : Size) (a b c : Machine) (events : Events) (e : ℕ) (t : Token)
    (r : Run p z a events b) (ev : Event p z e t b c)
    → SomeEvent K p z a (events ++ (e, t) ∷ []) c (run_snoc p z a b c events e t r ev) → SomeEvent K p z a events b r ⊎ K t ev.made c
unfolding run_snoc
some_snoc K p z a b c [] e t r ev (inl k) = inr k
some_snoc K p z a b c [] e t r ev (inr k) = absurd k
some_snoc K p z a b c (x ∷ events) e t r ev (inl k) = inl (inl k)
some_snoc K p z a b c (x ∷ events) e t r ev (inr k) = go (some_snoc K p z r.0 b c events e t r.2 ev k)
  where
    go : SomeEvent K p z r.0 events b r.2 ⊎ K t ev.made c → SomeEvent K p z a (x ∷ events) b r ⊎ K t ev.made c
    go (inl k) = inl (inr k)
    go (inr k) = inr k

-- who holds a slot after it
pub holds_snoc : (P : Plan) (p : Program) (f s : ℕ) (before : Option Holder) (z : Size) (a b c : Machine) (events : Events) (e : ℕ) (t : Token)
    (r : Run p z a events b) (ev : Event p z e t b c)
    → holds P p f s before z a (events ++ (e, t) ∷ []) c (run_snoc p z a b c events e t r ev)
    ≡ held_by_event P p f s (holds P p f s before z a events b r) t.to c.store
unfolding run_snoc
holds_snoc P p f s before z a b c [] e t r ev = refl
holds_snoc P p f s before z a b c (x ∷ events) e t r ev = holds_snoc P p f s (held_by_event P p f s before x.1.to (r.0).store) z r.0 b c events e t r.2 ev

-- ---- what a run counts

-- of an event: by the state before it, the place of its token, and what it made
abbrev pub Count : Type 0
Count = Store → To → List Token → ℕ

abbrev pub tally : (K : Count) (p : Program) (z : Size) (old : Machine) (events : Events) (new : Machine) → Run p z old events new → ℕ
tally K p z old [] new run = 0
tally K p z old (ev ∷ later) new run = K old.store ev.1.to run.1.made + tally K p z run.0 later new run.2

pub tally_snoc : (K : Count) (p : Program) (z : Size) (a b c : Machine) (events : Events) (e : ℕ) (t : Token) (r : Run p z a events b) (ev : Event p z e t b c)
    → tally K p z a (events ++ (e, t) ∷ []) c (run_snoc p z a b c events e t r ev) ≡ tally K p z a events b r + K b.store t.to ev.made
unfolding run_snoc
tally_snoc K p z a b c [] e t r ev =
    let same : K a.store t.to ev.made ≡ K b.store t.to ev.made = ap (λ (s : Store). K s t.to ev.made) (sym r.1) in omega (arith, same)
tally_snoc K p z a b c (x ∷ events) e t r ev = let more = tally_snoc K p z r.0 b c events e t r.2 ev in omega (arith, more)
