-- Where frames are handed out in order, an event has one outcome; so a run goes on from the books of its first events.
use Rattle.std.proofs.Common.{◌≡◌, refl, sym, ◌∙◌, ap, subst, ℕ, suc, ◌+◌, ◌*◌, ◌<◌, ◌≤◌, inl, inr, true, false, true≢false, List, [], ◌∷◌}
use Rattle.std.proofs.Common.{◌++◌, length, take, drop}
use Rattle.std.proofs.Common.{get_or, take-append-drop, Option, arith, ⊎_elim}
use Rattle.std.specs.Prelude.{IsPermutation}
use Rattle.std.proofs.lemmas.Bool.{cases_lt}
use Rattle.std.proofs.lemmas.List.{drop_more}
use Rattle.std.proofs.lemmas.List.Sorted.{IsPermutation-trans, IsPermutation-sym, IsPermutation-append_right, IsPermutation-append_comm, length_permutation}
use Rattle.lemmas.proofs.Permutations.{permutation_cancel, perm_from, Put}
use Rattle.tags.specs.declared.value.Value.{Value}
use Rattle.tags.specs.declared.token.Cont.{Cont}
use Rattle.tags.specs.declared.token.Word.{Word}
use Rattle.tags.specs.declared.token.To.{To}
use Rattle.tags.specs.declared.token.Token.{Token}
use Rattle.semantics.specs.Program.{Program, instr_at}
use Rattle.semantics.specs.Rule.{Outcome, Becomes, Excluded, rule_at}
use Rattle.semantics.specs.Machine.{CellState, Vacant, Full, Deferred, Store, Machine, Size, Events, Happens, Fires, Fetches, Stores, Requests, Releases, Hosts}
use Rattle.semantics.specs.Machine.{outputs_of, slot_used, slot_in, with_out, with_requests, with_output, answer}
use Rattle.frame_order.specs.InOrder.{IsInOrder, OrderedEvent, OrderedRun}
use Rattle.frame_order.proofs.InOrder.{run_from}
use Rattle.replay.specs.Views.{EntryView}
use Rattle.replay.specs.Books.{Book, IsEntry, AreEntries, machine_of}

-- WHAT IS MADE, AND THE STORE
abbrev One : List Token → List Token → Store → Store → Type 0
One made more n m = (made ≡ more) × (n ≡ m)

fires_one : (s n m : Store) (f : ℕ) (r : Option ℕ) (o : Outcome) (made more : List Token) → Fires s f r o made n → Fires s f r o more m → One made more n m
fires_one s n m f r (Excluded rule) made more a b = absurd a
fires_one s n m f r (Becomes slot ts) made more a b = (a.0 ∙ sym b.0, a.1 ∙ sym b.1)

fetches_one : (s n m : Store) (x : ℕ) (c : Cont) (state : CellState) (made more : List Token) → Fetches s x c state made n → Fetches s x c state more m
    → One made more n m
fetches_one s n m x c Vacant made more a b = (a.0 ∙ sym b.0, a.1 ∙ sym b.1)
fetches_one s n m x c (Deferred rs) made more a b = (a.0 ∙ sym b.0, a.1 ∙ sym b.1)
fetches_one s n m x c (Full v) made more a b = (a.0 ∙ sym b.0, a.1 ∙ sym b.1)

stores_one : (s n m : Store) (x : ℕ) (v : Value) (c : Cont) (state : CellState) (made more : List Token) → Stores s x v c state made n
    → Stores s x v c state more m → One made more n m
stores_one s n m x v c Vacant made more a b = (a.0 ∙ sym b.0, a.1 ∙ sym b.1)
stores_one s n m x v c (Deferred rs) made more a b = (a.0 ∙ sym b.0, a.1 ∙ sym b.1)
stores_one s n m x v c (Full w) made more a b = absurd a

-- there is one free frame of least number
least_one : (s : Store) (f g : ℕ) → s.out f ≡ false → s.out g ≡ false → ((h : ℕ) → h < f → s.out h ≡ true) → ((h : ℕ) → h < g → s.out h ≡ true) → f ≡ g
least_one s f g free_f free_g below_f below_g = ⊎_elim
    (λ (l : f < g). absurd (true≢false (sym (below_g f l) ∙ free_f)))
    (λ (high : g ≤ f). ⊎_elim
    (λ (l : g < f). absurd (true≢false (sym (below_f g l) ∙ free_g)))
    (λ (low : f ≤ g). let same : f ≡ g = omega (arith, high, low) in same)
    (cases_lt g f))
    (cases_lt f g)

-- a frame that is handed out is that one
least_of : (s n : Store) (c : Cont) (f : ℕ) (made : List Token) → made ≡ answer c (Word.Frame f) ∷ [] → IsInOrder s To.Manager made n
    → (h : ℕ) → h < f → s.out h ≡ true
least_of s n c f made is order h low =
    let first : IsInOrder s To.Manager (answer c (Word.Frame f) ∷ []) n = subst (λ (ts : List Token). IsInOrder s To.Manager ts n) is order in
    first f h refl low

requests_one : (total : ℕ) (s n m : Store) (c : Cont) (made more : List Token) → IsInOrder s To.Manager made n → IsInOrder s To.Manager more m
    → Requests total s c made n → Requests total s c more m → One made more n m
requests_one total s n m c made more p q (inl a) (inl b) =
    let same : a.0 ≡ b.0 = least_one s a.0 b.0 a.2 b.2 (least_of s n c a.0 made a.3 p) (least_of s m c b.0 more b.3 q) in
    (a.3 ∙ ap (λ (f : ℕ). answer c (Word.Frame f) ∷ []) same ∙ sym b.3, a.4 ∙ ap (λ (f : ℕ). with_out s f true) same ∙ sym b.4)
requests_one total s n m c made more p q (inl a) (inr b) = absurd (true≢false (sym (b.0 a.0 a.1) ∙ a.2))
requests_one total s n m c made more p q (inr a) (inl b) = absurd (true≢false (sym (a.0 b.0 b.1) ∙ b.2))
requests_one total s n m c made more p q (inr a) (inr b) = (a.1 ∙ sym b.1, a.2 ∙ sym b.2)

abbrev first_or : Cont → List Cont → Cont
first_or d [] = d
first_or d (c ∷ cs) = c

abbrev rest_in : List Cont → List Cont
rest_in [] = []
rest_in (c ∷ cs) = cs

-- of two lists with the same tokens except for their heads, the heads are the same
alone : (c d : Cont) → (zs : List Cont) × Put c zs (d ∷ []) × (zs ≡ []) → c ≡ d
alone c d (zs, inl h, none) = h.0
alone c d (zs, inr h, none) = absurd h.2

one_head : (c d : Cont) (cs : List Cont) → IsPermutation (c ∷ cs) (d ∷ cs) → c ≡ d
one_head c d cs perm =
    let turned : IsPermutation (cs ++ c ∷ []) (cs ++ d ∷ []) = IsPermutation-trans (cs ++ c ∷ []) (c ∷ cs) (cs ++ d ∷ [])
    (IsPermutation-sym (c ∷ cs) (cs ++ c ∷ []) (IsPermutation-append_comm (c ∷ []) cs))
    (IsPermutation-trans (c ∷ cs) (d ∷ cs) (cs ++ d ∷ []) perm (IsPermutation-append_comm (d ∷ []) cs)) in
    alone c d (perm_from (c ∷ []) (d ∷ []) (permutation_cancel cs (c ∷ []) (d ∷ []) turned))

-- the request that is served is the first
served : (s n : Store) (c : Cont) (f : ℕ) (rest : List Cont) (made : List Token) → made ≡ answer c (Word.Frame f) ∷ [] → n ≡ with_requests s rest
    → IsPermutation s.requests (c ∷ rest) → IsInOrder s (To.Release f) made n → s.requests ≡ c ∷ rest
served s n c f rest made is next perm order =
    let first : IsInOrder s (To.Release f) (answer c (Word.Frame f) ∷ []) n = subst (λ (ts : List Token). IsInOrder s (To.Release f) ts n) is order in
    let left : s.requests ≡ first.0 ∷ rest = first.1 ∙ ap (λ (x : Store). first.0 ∷ x.requests) next in
    let same : first.0 ≡ c = one_head first.0 c rest (subst (λ (l : List Cont). IsPermutation l (c ∷ rest)) left perm) in
    left ∙ ap (λ (d : Cont). d ∷ rest) same

none_waits : (s : Store) (c : Cont) (rest : List Cont) → s.requests ≡ [] → IsPermutation s.requests (c ∷ rest) → ⊥
none_waits s c rest none perm =
    let count : suc (length rest) ≡ length s.requests = length_permutation s.requests (c ∷ rest) perm in
    let zero : length s.requests ≡ 0 = ap (λ (l : List Cont). length l) none in
    omega (arith, count, zero)

releases_one : (s n m : Store) (f : ℕ) (made more : List Token) → IsInOrder s (To.Release f) made n → IsInOrder s (To.Release f) more m
    → Releases s f made n → Releases s f more m → One made more n m
releases_one s n m f made more p q (out, inl a) (also, inl b) = (a.1 ∙ sym b.1, a.2 ∙ sym b.2)
releases_one s n m f made more p q (out, inl a) (also, inr b) = absurd (none_waits s b.0 b.1 a.0 b.2)
releases_one s n m f made more p q (out, inr a) (also, inl b) = absurd (none_waits s a.0 a.1 b.0 a.2)
releases_one s n m f made more p q (out, inr a) (also, inr b) =
    let lists : a.0 ∷ a.1 ≡ b.0 ∷ b.1 = sym (served s n a.0 f a.1 made a.3 a.4 a.2 p) ∙ served s m b.0 f b.1 more b.3 b.4 b.2 q in (
      a.3 ∙ ap (λ (l : List Cont). answer (first_or a.0 l) (Word.Frame f) ∷ []) lists ∙ sym b.3,
      a.4
          ∙ ap (λ (l : List Cont). with_requests s (rest_in l)) lists ∙ sym b.4,
    )

abbrev value_or : Value → Word → Value
value_or d (Word.Val v) = v
value_or d w = d

hosts_one : (results : ℕ) (s n m : Store) (j : ℕ) (w : Word) (made more : List Token) → Hosts results s j w made n → Hosts results s j w more m
    → One made more n m
hosts_one results s n m j w made more (inl a) (inl b) =
    let words : Word.Val a.2.0 ≡ Word.Val b.2.0 = sym a.2.1 ∙ b.2.1 in
    (a.2.2 ∙ sym b.2.2, a.2.3 ∙ ap (λ (u : Word). with_output s j (value_or a.2.0 u)) words ∙ sym b.2.3)
hosts_one results s n m j w made more (inl a) (inr b) = absurd (let low = a.0 in let high = b.0 in let no : ⊥ = omega (arith, low, high) in no)
hosts_one results s n m j w made more (inr a) (inl b) = absurd (let high = a.0 in let low = b.0 in let no : ⊥ = omega (arith, low, high) in no)
hosts_one results s n m j w made more (inr a) (inr b) = (a.2 ∙ sym b.2, a.3 ∙ sym b.3)

one_result : (p : Program) (total : ℕ) (s n m : Store) (to : To) (w : Word) (made more : List Token) → IsInOrder s to made n → IsInOrder s to more m
    → Happens p total s to w made n → Happens p total s to w more m → One made more n m
one_result p total s n m (To.Instr f ip port) w made more a b h k = fires_one s n m f (slot_used (instr_at p ip))
    (rule_at p record { frame = f; ip = ip } (instr_at p ip) (slot_in s f (slot_used (instr_at p ip))) port w) made more h k
one_result p total s n m (To.Fetch x) (Word.Back c) made more a b h k = fetches_one s n m x c (s.cells x) made more h k
one_result p total s n m (To.Fetch x) w made more a b h k = absurd h
one_result p total s n m (To.Store x v) (Word.Back c) made more a b h k = stores_one s n m x v c (s.cells x) made more h k
one_result p total s n m (To.Store x v) w made more a b h k = absurd h
one_result p total s n m To.Manager (Word.Back c) made more a b h k = requests_one total s n m c made more a b h k
one_result p total s n m To.Manager w made more a b h k = absurd h
one_result p total s n m (To.Release f) w made more a b h k = releases_one s n m f made more a b h k
one_result p total s n m (To.Host j) w made more a b h k = hosts_one (outputs_of p) s n m j w made more h k

-- THE MACHINE AFTER AN EVENT
one_next : (p : Program) (z : Size) (e : ℕ) (t : Token) (a m n : Machine) → OrderedEvent p z e t a m → OrderedEvent p z e t a n
    → IsPermutation n.pool m.pool × (m.store ≡ n.store)
one_next p z e t a m n x y =
    let one = one_result p (z.elements * z.frames) a.store m.store n.store t.to t.word x.event.made y.event.made x.in_order y.in_order x.event.happens
    y.event.happens in
    let rests : IsPermutation y.event.rest x.event.rest = permutation_cancel (t ∷ []) y.event.rest x.event.rest
    (IsPermutation-trans (t ∷ y.event.rest) a.pool (t ∷ x.event.rest) (IsPermutation-sym a.pool (t ∷ y.event.rest) y.event.takes) x.event.takes) in
    let left : IsPermutation (y.event.made ++ x.event.rest) m.pool = subst (λ (ts : List Token). IsPermutation (ts ++ x.event.rest) m.pool) one.0
    (IsPermutation-sym m.pool (x.event.made ++ x.event.rest) x.event.leaves) in (
      IsPermutation-trans n.pool (y.event.made ++ y.event.rest) m.pool y.event.leaves
          (IsPermutation-trans (y.event.made ++ y.event.rest) (y.event.made ++ x.event.rest) m.pool
          (IsPermutation-append_right y.event.made y.event.rest x.event.rest rests) left),
      one.1,
    )

-- BOOKS AND RUNS
entry_event : (p : Program) (z : Size) (e : ℕ) (t : Token) (b n : Book) (x : EntryView) → IsEntry p z e t b n x
    → OrderedEvent p z e t (machine_of b) (machine_of n)
entry_event p z e t b n x entry = record {
  event = entry.event;
  in_order = subst (λ (ts : List Token). IsInOrder b.store t.to ts n.store) entry.made
      entry.in_order;
}

-- a run in order goes on from the books of its first events
pub run_after : (p : Program) (z : Size) (b n : Book) (events later : Events) (xs : List EntryView) (last : Machine) → AreEntries p z b events xs n
    → OrderedRun p z (machine_of b) (events ++ later) last → OrderedRun p z (machine_of n) later last
run_after p z b n [] later [] last is run = subst (λ (m : Book). OrderedRun p z (machine_of m) later last) (sym is) run
run_after p z b n [] later (x ∷ xs) last is run = absurd is
run_after p z b n (ev ∷ events) later [] last is run = absurd is
run_after p z b n (ev ∷ events) later (x ∷ xs) last (mid, entry, is) (m, event, run) =
    let same = one_next p z ev.0 ev.1 (machine_of b) m (machine_of mid) event (entry_event p z ev.0 ev.1 b mid x entry) in
    run_after p z mid n events later xs last is (run_from p z (machine_of mid) m last (events ++ later) same.0 same.1 run)

-- the event after the first ones
pub event_after : (p : Program) (z : Size) (b n : Book) (events : Events) (i : ℕ) (ev : ℕ × Token) (xs : List EntryView) (last : Machine)
    → i < length events → ev ≡ get_or events i ev → AreEntries p z b (take i events) xs n → OrderedRun p z (machine_of b) events last
    → (m : Machine) × OrderedEvent p z ev.0 ev.1 (machine_of n) m
event_after p z b n events i ev xs last low is entries run =
    let all : OrderedRun p z (machine_of b) (take i events ++ drop i events) last = subst (λ (es : Events). OrderedRun p z (machine_of b) es last)
    (sym (take-append-drop i events)) run in
    let rest : OrderedRun p z (machine_of n) (drop i events) last = run_after p z b n (take i events) (drop i events) xs last entries all in
    let next : OrderedRun p z (machine_of n) (ev ∷ drop (i + 1) events) last = subst (λ (es : Events). OrderedRun p z (machine_of n) es last)
    (drop_more events i ev low ∙ ap (λ (x : ℕ × Token). x ∷ drop (i + 1) events) (sym is)) rest in
    (next.0, next.1)
