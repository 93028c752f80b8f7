-- The books are complete.
use Rattle.std.proofs.Common.{◌≡◌, refl, sym, ◌∙◌, ap, subst, ℕ, Bool, true, false, List, [], ◌∷◌, ◌++◌, drop, Option, Some, None, arith}
use Rattle.std.specs.Prelude.{nat_lt, IsPermutation, ◌⊎◌}
use Rattle.std.proofs.Common.{inl, inr}
use Rattle.std.proofs.lemmas.Bool.{lt-ltb, le-ltb}
use Rattle.tags.specs.declared.value.Value.{Value}
use Rattle.tags.specs.declared.token.Cont.{Cont}
use Rattle.tags.specs.declared.token.Word.{Word}
use Rattle.tags.specs.declared.token.To.{To}
use Rattle.tags.specs.declared.token.Token.{Token}
use Rattle.tags.specs.declared.slot.SlotState.{SlotState}
use Rattle.semantics.specs.Program.{Program, instr_at}
use Rattle.semantics.specs.Rule.{Outcome, Becomes, Excluded}
use Rattle.semantics.specs.Machine.{CellState, Vacant, Full, Deferred, Store, Happens, Fires, Fetches, Stores, Requests, Releases, Hosts, outputs_of}
use Rattle.semantics.specs.Machine.{slot_used, with_slot, with_slot_in, with_cell, with_requests, with_out, answer}
use Rattle.semantics.proofs.Stores.{slot_filled}
use Rattle.frame_order.specs.InOrder.{IsInOrder}
use Rattle.replay.specs.Books.{changed, change_of, slot_change, host_change, readers_of}

-- an instruction: its slot has what it was set to
fired : (s n : Store) (f : ℕ) (r : Option ℕ) (v : SlotState) → n ≡ with_slot_in s f r v → n ≡ changed (slot_change n f r) s
fired s n f None v e = e
fired s n f (Some r) v e = e ∙ ap (λ (x : SlotState). with_slot s f r x) (sym (ap (λ (m : Store). m.slots f r) e ∙ slot_filled s f r v))

fires : (s n : Store) (f : ℕ) (r : Option ℕ) (o : Outcome) (made : List Token) → Fires s f r o made n → n ≡ changed (slot_change n f r) s
fires s n f r (Excluded rule) made h = absurd h
fires s n f r (Becomes v ts) made h = fired s n f r v h.1

fetched : (p : Program) (s n : Store) (x : ℕ) (c : Cont) (made : List Token) (state : CellState) → s.cells x ≡ state → Fetches s x c state made n
    → n ≡ changed (change_of p n (To.Fetch x) (Word.Back c) made) s
fetched p s n x c made Vacant is h = subst (λ (ts : List Token). n ≡ changed (change_of p n (To.Fetch x) (Word.Back c) ts) s) (sym h.0)
    (h.1 ∙ ap (λ (k : CellState). with_cell s x (Deferred (readers_of k ++ c ∷ []))) (sym is))
fetched p s n x c made (Deferred rs) is h = subst (λ (ts : List Token). n ≡ changed (change_of p n (To.Fetch x) (Word.Back c) ts) s) (sym h.0)
    (h.1 ∙ ap (λ (k : CellState). with_cell s x (Deferred (readers_of k ++ c ∷ []))) (sym is))
fetched p s n x c made (Full v) is h = subst (λ (ts : List Token). n ≡ changed (change_of p n (To.Fetch x) (Word.Back c) ts) s) (sym h.0) h.1

stored : (s n : Store) (x : ℕ) (v : Value) (c : Cont) (made : List Token) (state : CellState) → Stores s x v c state made n → n ≡ with_cell s x (Full v)
stored s n x v c made Vacant h = h.1
stored s n x v c made (Deferred rs) h = h.1
stored s n x v c made (Full w) h = absurd h

requested : (p : Program) (total : ℕ) (s n : Store) (c : Cont) (made : List Token) → Requests total s c made n
    → n ≡ changed (change_of p n To.Manager (Word.Back c) made) s
requested p total s n c made (inl h) = subst (λ (ts : List Token). n ≡ changed (change_of p n To.Manager (Word.Back c) ts) s) (sym h.3) h.4
requested p total s n c made (inr h) = subst (λ (ts : List Token). n ≡ changed (change_of p n To.Manager (Word.Back c) ts) s) (sym h.1) h.2

released : (p : Program) (s n : Store) (f : ℕ) (w : Word) (made : List Token) → Releases s f made n → IsInOrder s (To.Release f) made n
    → n ≡ changed (change_of p n (To.Release f) w made) s
released p s n f w made h = by made refl h.1 where
  by : (ts : List Token) → made ≡ ts → ((s.requests ≡ []) × (made ≡ []) × (n ≡ with_out s f false))
      ⊎ ((c : Cont) × (rest : List Cont) × IsPermutation s.requests (c ∷ rest) × (made ≡ answer c (Word.Frame f) ∷ []) × (n ≡ with_requests s rest))
      → IsInOrder s (To.Release f) ts n → n ≡ changed (change_of p n (To.Release f) w ts) s
  by [] is (inl a) first = a.2
  by (t ∷ ts) is (inl a) first = absurd (let no : t ∷ ts ≡ [] = sym is ∙ a.1 in let bad : ⊥ = cc in bad)
  by [] is (inr a) first = absurd (let no : [] ≡ answer a.0 (Word.Frame f) ∷ [] = sym is ∙ a.3 in let bad : ⊥ = cc in bad)
  by (t ∷ ts) is (inr a) first =
      let rest : n.requests ≡ a.1 = ap (λ (m : Store). m.requests) a.4 in
      let kept : drop 1 s.requests ≡ a.1 = ap (λ (l : List Cont). drop 1 l) first.1 ∙ rest in
      a.4 ∙ ap (λ (l : List Cont). with_requests s l) (sym kept)

hosted : (p : Program) (s n : Store) (j : ℕ) (w : Word) (made : List Token) → Hosts (outputs_of p) s j w made n
    → n ≡ changed (host_change (nat_lt j (outputs_of p)) j w) s
hosted p s n j w made (inl a) =
    let low : nat_lt j (outputs_of p) ≡ true = lt-ltb j (outputs_of p) a.0 in
    subst (λ (b : Bool). n ≡ changed (host_change b j w) s) (sym low) (subst (λ (u : Word). n ≡ changed (host_change true j u) s) (sym a.2.1) a.2.3)
hosted p s n j w made (inr a) =
    let high : nat_lt j (outputs_of p) ≡ false = le-ltb j (outputs_of p) (let e = a.0 in omega (arith, e)) in
    subst (λ (b : Bool). n ≡ changed (host_change b j w) s) (sym high) a.3

-- the store after an event is the store before it with the event's change
pub complete : (p : Program) (total : ℕ) (s n : Store) (to : To) (w : Word) (made : List Token) → Happens p total s to w made n → IsInOrder s to made n
    → n ≡ changed (change_of p n to w made) s
complete p total s n (To.Instr f ip port) w made h first = fires s n f (slot_used (instr_at p ip)) _ made h
complete p total s n (To.Fetch x) (Word.Back c) made h first = fetched p s n x c made (s.cells x) refl h
complete p total s n (To.Store x v) (Word.Back c) made h first = stored s n x v c made (s.cells x) h
complete p total s n To.Manager (Word.Back c) made h first = requested p total s n c made h
complete p total s n (To.Release f) w made h first = released p s n f w made h first
complete p total s n (To.Host j) w made h first = hosted p s n j w made h
complete p total s n (To.Fetch x) w made h first = absurd h
complete p total s n (To.Store x v) w made h first = absurd h
complete p total s n To.Manager w made h first = absurd h
