-- Events that change no slot.
use Rattle.std.proofs.Common.{◌≡◌, refl, ap, ℕ, ◌⊎◌, inl, inr, List}
use Rattle.tags.specs.declared.value.Value.{Value}
use Rattle.tags.specs.declared.token.Port.{Port}
use Rattle.tags.specs.declared.token.Cont.{Cont}
use Rattle.tags.specs.declared.token.Word.{Word}
use Rattle.tags.specs.declared.token.To.{To}
use Rattle.tags.specs.declared.token.Token.{Token}
use Rattle.semantics.specs.Program.{Program}
use Rattle.semantics.specs.Machine.{CellState, Vacant, Full, Deferred, Store as MStore, outputs_of, Fetches, Stores, Requests, Releases, Hosts, Happens}

fetches_slots : (m new : MStore) (x : ℕ) (c : Cont) (y : CellState) (made : List Token) → Fetches m x c y made new → new.slots ≡ m.slots
fetches_slots m new x c Vacant made e = ap (λ (n : MStore). n.slots) e.1
fetches_slots m new x c (Deferred cs) made e = ap (λ (n : MStore). n.slots) e.1
fetches_slots m new x c (Full v) made e = ap (λ (n : MStore). n.slots) e.1

stores_slots : (m new : MStore) (x : ℕ) (v : Value) (c : Cont) (y : CellState) (made : List Token) → Stores m x v c y made new → new.slots ≡ m.slots
stores_slots m new x v c Vacant made e = ap (λ (n : MStore). n.slots) e.1
stores_slots m new x v c (Deferred cs) made e = ap (λ (n : MStore). n.slots) e.1
stores_slots m new x v c (Full w) made e = absurd e

requests_slots : (t : ℕ) (m new : MStore) (c : Cont) (made : List Token) → Requests t m c made new → new.slots ≡ m.slots
requests_slots t m new c made (inl e) = ap (λ (n : MStore). n.slots) e.4
requests_slots t m new c made (inr e) = ap (λ (n : MStore). n.slots) e.2

releases_slots : (m new : MStore) (f : ℕ) (made : List Token) → Releases m f made new → new.slots ≡ m.slots
releases_slots m new f made (out, inl e) = ap (λ (n : MStore). n.slots) e.2
releases_slots m new f made (out, inr e) = ap (λ (n : MStore). n.slots) e.4

hosts_slots : (r : ℕ) (m new : MStore) (j : ℕ) (w : Word) (made : List Token) → Hosts r m j w made new → new.slots ≡ m.slots
hosts_slots r m new j w made (inl e) = ap (λ (n : MStore). n.slots) e.2.3
hosts_slots r m new j w made (inr e) = ap (λ (n : MStore). n.slots) e.3

-- the slots are as before, or an instruction's event it was
pub slots_or : (p : Program) (total : ℕ) (m new : MStore) (to : To) (w : Word) (made : List Token) → Happens p total m to w made new
    → (new.slots ≡ m.slots) ⊎ ((f : ℕ) × (ip : ℕ) × (q : Port) × (to ≡ To.Instr f ip q))
slots_or p total m new (To.Instr f ip q) w made e = inr (f, ip, q, refl)
slots_or p total m new (To.Fetch x) (Word.Back c) made e = inl (fetches_slots m new x c (m.cells x) made e)
slots_or p total m new (To.Store x v) (Word.Back c) made e = inl (stores_slots m new x v c (m.cells x) made e)
slots_or p total m new To.Manager (Word.Back c) made e = inl (requests_slots total m new c made e)
slots_or p total m new (To.Release f) w made e = inl (releases_slots m new f made e)
slots_or p total m new (To.Host j) w made e = inl (hosts_slots (outputs_of p) m new j w made e)
slots_or p total m new to w made e = absurd e
