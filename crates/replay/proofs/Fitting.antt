-- What is refused is no event of the machine, or no run of it.
use Rattle.std.proofs.Common.{◌≡◌, refl, sym, ◌∙◌, ap, subst, ℕ, ◌*◌, ◌<◌, Bool, true, false, List, ◌∷◌}
use Rattle.std.proofs.Common.{length}
use Rattle.std.proofs.Common.{Option, Some, None, Result, Err, IfErr, inl, inr, arith}
use Rattle.std.specs.Prelude.{◌==◌, nat_lt, if◌then◌else◌, slice_get, Contains, IfSome, IfNone}
use Rattle.std.proofs.Math.Nat.{mod-eq_of_lt}
use Rattle.std.proofs.lemmas.Bool.{lt-ltb, le-ltb, eq-eqb}
use Rattle.std.proofs.lemmas.List.Sorted.{IsPermutation-sym, Contains-permutation}
use Rattle.tags.specs.declared.value.Value.{Value}
use Rattle.tags.specs.declared.token.Word.{Word}
use Rattle.tags.specs.declared.token.To.{To}
use Rattle.tags.specs.declared.token.Token.{Token}
use Rattle.semantics.specs.declared.program.Op.{Op}
use Rattle.semantics.specs.Program.{Instr, Program, instr_at}
use Rattle.semantics.specs.Rule.{Outcome, Becomes, Excluded, slot_of}
use Rattle.semantics.specs.Machine.{CellState, Full, Store, Machine, Size, Event, Happens, Fires, Stores, Hosts, outputs_of, slot_used}
use Rattle.semantics.specs.Machine.{excluded_by, unless_value, filled, host_rule, stuck_rule}
use Rattle.element.specs.Parts.{bounds}
use Rattle.element.specs.declared.lane.Stepped.{Stepped}
use Rattle.element.specs.Holding.{Holding, LaneView, IsFor, fixed_of}
use Rattle.element.specs.Steps.{Steps, Clashes, Excludes, place_of}
use Rattle.replay.specs.declared.extent.Extent.{Extent}
use Rattle.replay.specs.declared.fault.ReplayRefusal.{ReplayRefusal}
use Rattle.replay.specs.declared.fault.ReplayRefusal.TheVariants.{NotARun, Memory}
use Rattle.replay.specs.declared.slots.Place.{Place}
use Rattle.replay.specs.Books.{Book, machine_of}
use Rattle.replay.specs.Entering.{IsExtent, IsWhole, IsThere, Says, IsExcluded, IsFirstExcluded, Records, place_used, place_in}
use Rattle.replay.proofs.Places.{contained}

-- THE RULES. What happens is excluded by none.
fires_free : (s n : Store) (f : ℕ) (r : Option ℕ) (o : Outcome) (made : List Token) → Fires s f r o made n → excluded_by o ≡ None
fires_free s n f r (Excluded rule) made h = absurd h
fires_free s n f r (Becomes slot ts) made h = refl

hosts_free : (results : ℕ) (s n : Store) (j : ℕ) (w : Word) (made : List Token) → Hosts results s j w made n → host_rule results s j w ≡ None
hosts_free results s n j w made (inl h) =
    let low : nat_lt j results ≡ true = lt-ltb j results h.0 in
    let other : Option ℕ = if j == results then (if s.done then Some 6 else None) else Some 6 in
    ap (λ (b : Bool). if b then (if filled (s.outputs j) then Some 6 else unless_value w) else other) low
    ∙ ap (λ (o : Option Value). if filled o then Some 6 else unless_value w) h.1 ∙ ap unless_value h.2.1
hosts_free results s n j w made (inr h) =
    let is = h.0 in
    let high : nat_lt j results ≡ false = le-ltb j results (omega (arith, is)) in
    let full : Option ℕ = if filled (s.outputs j) then Some 6 else unless_value w in
    let six : Option ℕ = Some 6 in
    let none : Option ℕ = None in
    ap (λ (b : Bool). if b then full else if j == results then (if s.done then six else none) else six) high
    ∙ ap (λ (b : Bool). if b then (if s.done then six else none) else six) (eq-eqb j results is)
    ∙ ap (λ (b : Bool). if b then six else none) h.1

happens_free : (p : Program) (total : ℕ) (s n : Store) (to : To) (w : Word) (made : List Token) → Happens p total s to w made n → stuck_rule p s to w ≡ None
happens_free p total s n (To.Instr f ip port) w made h = fires_free s n f (slot_used (instr_at p ip)) _ made h
happens_free p total s n (To.Fetch x) (Word.Back c) made h = refl
happens_free p total s n (To.Fetch x) w made h = absurd h
happens_free p total s n (To.Store x v) (Word.Back c) made h = refl
happens_free p total s n (To.Store x v) w made h = absurd h
happens_free p total s n To.Manager (Word.Back c) made h = refl
happens_free p total s n To.Manager w made h = absurd h
happens_free p total s n (To.Release f) w made h = let six : Option ℕ = Some 5 in let none : Option ℕ = None in ap (λ (b : Bool). if b then none else six) h.0
happens_free p total s n (To.Host j) w made h = hosts_free (outputs_of p) s n j w made h

-- a cell that is full takes no value
never_stored : (p : Program) (total : ℕ) (s n : Store) (x : ℕ) (v w : Value) (word : Word) (made : List Token) → s.cells x ≡ Full w
    → Happens p total s (To.Store x v) word made n → ⊥
never_stored p total s n x v w (Word.Back c) made full h = subst (λ (state : CellState). Stores s x v c state made n) full h
never_stored p total s n x v w word made full h = absurd h

-- THE LANE'S OLDEST TOKEN
taken_is : (l : LaneView) (u t : Token) → 0 < length l.held.queue → slice_get l.held.queue (place_of l.held 0) ≡ Some u → slice_get l.held.queue 0 ≡ Some t
    → u ≡ t
taken_is l u t some there is =
    let both : Some u ≡ Some t = sym there ∙ ap (λ (i : ℕ). slice_get l.held.queue i) (mod-eq_of_lt some) ∙ is in
    cc (both)

pub clash_excluded : (l : LaneView) (cell : ℕ) → Clashes l.held 0 cell → IsFirstExcluded l
clash_excluded l cell c t there s n total made part h =
    let same = taken_is l c.token t c.picks.some c.picks.token there in
    let to : t.to ≡ To.Store cell c.second.value = ap (λ (u : Token). u.to) (sym same) ∙ c.second.to in
    let full = c.second.full s part in
    never_stored l.program total s n cell c.second.value full.0 t.word made full.1 (subst (λ (x : To). Happens l.program total s x t.word made n) to h)

pub stuck_excluded : (l : LaneView) (rule : ℕ) → Excludes l.program l.held 0 rule → IsFirstExcluded l
stuck_excluded l rule x t there s n total made part h =
    let same = taken_is l x.token t x.picks.some x.picks.token there in
    let free : stuck_rule l.program s t.to t.word ≡ None = happens_free l.program total s n t.to t.word made h in
    let stuck : stuck_rule l.program s t.to t.word ≡ Some rule = subst (λ (u : Token). stuck_rule l.program s u.to u.word ≡ Some rule) same
    (x.excluded s part) in
    let bad : None ≡ Some rule = sym free ∙ stuck in
    let no : ⊥ = cc in no

-- what a step answers
pub clash_steps : (l : LaneView) (cell : ℕ) (x : Stepped) (before : List Token) (new : Holding) (after : List Token) → x ≡ Stepped.Clash cell
    → Steps l.program l.held 0 before x new after → Clashes l.held 0 cell
clash_steps l cell x before new after is s = (subst (λ (y : Stepped). Steps l.program l.held 0 before y new after) is s).0

pub stuck_steps : (l : LaneView) (rule : ℕ) (x : Stepped) (before : List Token) (new : Holding) (after : List Token) → x ≡ Stepped.Stuck rule
    → Steps l.program l.held 0 before x new after → Excludes l.program l.held 0 rule
stuck_steps l rule x before new after is s = (subst (λ (y : Stepped). Steps l.program l.held 0 before y new after) is s).0

-- a slot that an operation has is the one that the instruction names
slot_named : (named slot width : ℕ) → Some named ≡ Some slot → named < width → slot < width
slot_named named slot width e low = let is : named ≡ slot = cc (e) in subst (λ (n : ℕ). n < width) is low

slot_unnamed : (slot width : ℕ) → None ≡ Some slot → slot < width
slot_unnamed slot width e = absurd (let no : None ≡ Some slot = e in let bad : ⊥ = cc in bad)

pub slot_below : (i : Instr) (op : Op) (slot width : ℕ) → slot_of i op ≡ Some slot → i.slot < width → slot < width
slot_below i (Op.Apply2 op) slot width is low = slot_named i.slot slot width is low
slot_below i Op.Sync slot width is low = slot_named i.slot slot width is low
slot_below i Op.Switch slot width is low = slot_named i.slot slot width is low
slot_below i (Op.Store a) slot width is low = slot_named i.slot slot width is low
slot_below i (Op.Send b e) slot width is low = slot_named i.slot slot width is low
slot_below i (Op.Return o) slot width is low = slot_named i.slot slot width is low
slot_below i (Op.Ask o) slot width is low = slot_named i.slot slot width is low
slot_below i (Op.Release o) slot width is low = slot_named i.slot slot width is low
slot_below i (Op.Open k) slot width is low = slot_named i.slot slot width is low
slot_below i (Op.Take k) slot width is low = slot_named i.slot slot width is low
slot_below i (Op.Give k) slot width is low = slot_named i.slot slot width is low
slot_below i (Op.Drain k) slot width is low = slot_named i.slot slot width is low
slot_below i (Op.Apply1 op) slot width is low = slot_unnamed slot width is
slot_below i (Op.Apply2Right op z) slot width is low = slot_unnamed slot width is
slot_below i (Op.Apply2Left op z) slot width is low = slot_unnamed slot width is
slot_below i (Op.Lit z) slot width is low = slot_unnamed slot width is
slot_below i Op.Copy slot width is low = slot_unnamed slot width is
slot_below i (Op.Fetch a) slot width is low = slot_unnamed slot width is
slot_below i Op.Frame slot width is low = slot_unnamed slot width is
slot_below i (Op.Link b) slot width is low = slot_unnamed slot width is

-- where there is none
absent : (P : Type 0) (o : Option ℕ) → o ≡ None → IfNone o P → P
absent P o is h = subst (λ (x : Option ℕ). IfNone x P) is h

-- the slot of a token that the lane can receive is one of the machine's
pub place_there : (p : Program) (x : Extent) (width : ℕ) (l : LaneView) (t : Token) (used : Option Place) → IsWhole p x l → IsExtent p width x
    → IsFor (fixed_of l) t → used ≡ place_used p t.to → IfSome used (λ y. y.slot < width) → IfSome used (IsThere x)
place_there p x width l t used whole extent fit is short =
    subst (λ (y : Option Place). IfSome y (IsThere x)) (sym is) (by t.to fit.near.to (subst (λ (y : Option Place). IfSome y (λ z. z.slot < width)) is short))
  where
    by : (to : To) → Rattle.element.specs.Near.IsNearTo (bounds l.program l.held.part.shape) to → IfSome (place_used p to) (λ y. y.slot < width)
        → IfSome (place_used p to) (IsThere x)
    by (To.Instr f ip port) low narrow = used_there (slot_used (instr_at p ip)) narrow
      where
        used_there : (r : Option ℕ) → IfSome (place_in f r) (λ y. y.slot < width) → IfSome (place_in f r) (IsThere x)
        used_there None narrow = tt
        used_there (Some r) narrow =
            let one = whole.elements in
            let all = whole.frames in
            let count : l.held.part.shape.elements * l.held.part.shape.frames ≡ 1 * x.frames = ap (λ (n : ℕ). n * l.held.part.shape.frames) one
            ∙ ap (λ (n : ℕ). 1 * n) all in
            let wide = extent.slots in
            (omega (arith, count, low), omega (arith, narrow, wide))
    by (To.Fetch y) low narrow = tt
    by (To.Store y v) low narrow = tt
    by To.Manager low narrow = tt
    by (To.Release f) low narrow = tt
    by (To.Host j) low narrow = tt

-- AN EVENT. In the machine that the books have, its token is there.
pub token_there : (p : Program) (z : Size) (e : ℕ) (t : Token) (l : LaneView) (places : List (Option Token)) (b : Book) (m : Machine) → Records l places b
    → Event p z e t (machine_of b) m → (number : ℕ) × (slice_get places number ≡ Some (Some t))
token_there p z e t l places b m records ev = contained places t (subst (λ (ts : List Token). Contains ts t) records.pool
    (Contains-permutation (t ∷ ev.rest) b.pool t (IsPermutation-sym b.pool (t ∷ ev.rest) ev.takes) (let some : 0 < length (t ∷ ev.rest) = omega arith
    in (0, some, refl))))

pub never_there : (places : List (Option Token)) (t : Token) (o : Option ℕ) → o ≡ None
    → IfNone o ((number : ℕ) → slice_get places number ≡ Some (Some t) → ⊥) → (number : ℕ) × (slice_get places number ≡ Some (Some t)) → ⊥
never_there places t o is none found = absent ((number : ℕ) → slice_get places number ≡ Some (Some t) → ⊥) o is none found.0 found.1

pub excluded_unfit : (p : Program) (z : Size) (e : ℕ) (t : Token) (l : LaneView) (places : List (Option Token)) (b : Book) (m : Machine) → l.program ≡ p
    → IsExcluded l t → Records l places b → Event p z e t (machine_of b) m → ⊥
excluded_unfit p z e t l places b m program excluded records ev =
    excluded b.store m.store (z.elements * z.frames) ev.made records.part
    (subst (λ (q : Program). Happens q (z.elements * z.frames) b.store t.to t.word ev.made m.store) (sym program) ev.happens)

-- FAULTS. One that is passed on says what follows of what it said; a lack of memory says nothing.
pub passed_on : {U : Type 0} (P Q : Type 0) (result : Result U ReplayRefusal) (e f : ReplayRefusal) → result ≡ Err e → e ≡ f → (P → Q) → Says f P
    → IfErr result (λ fault. Says fault Q)
passed_on {U} P Q result e NotARun is same go said = subst (λ (r : Result U ReplayRefusal). IfErr r (λ fault. Says fault Q)) (sym is)
    (subst (λ (g : ReplayRefusal). Says g Q) (sym same) (go said))
passed_on {U} P Q result e Memory is same go said = subst (λ (r : Result U ReplayRefusal). IfErr r (λ fault. Says fault Q)) (sym is)
    (subst (λ (g : ReplayRefusal). Says g Q) (sym same) tt)

pub for_memory : {U : Type 0} (Q : Type 0) (result : Result U ReplayRefusal) (e : ReplayRefusal) → result ≡ Err e → e ≡ Memory
    → IfErr result (λ fault. Says fault Q)
for_memory {U} Q result e is same = subst (λ (r : Result U ReplayRefusal). IfErr r (λ fault. Says fault Q)) (sym is)
    (subst (λ (g : ReplayRefusal). Says g Q) (sym same) tt)
