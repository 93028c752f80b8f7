-- What a run counts at a frame: the credits that it grants to a loop, or the iterations of a loop that it releases.
use Rattle.std.proofs.Common.{◌≡◌, refl, ap, ◌∙◌, ℕ, zero, suc, ◌+◌, Bool, false, cond, ◌&&◌, List, [], ◌∷◌, map, Option, Some, None, Contains, arith}
use Rattle.std.specs.Prelude.{if◌then◌else◌, ◌==◌, count_by}
use Rattle.std.proofs.lemmas.Bool.{and_left}
use Rattle.std.proofs.lemmas.List.Sums.{sum_by-cons}
use Rattle.lemmas.proofs.Contains.{contains_head, contains_tail}
use Rattle.tags.specs.declared.token.Port.{Port}
use Rattle.tags.specs.declared.token.Port.TheVariants.{Left}
use Rattle.tags.specs.declared.token.To.{To}
use Rattle.tags.specs.declared.token.Token.{Token}
use Rattle.tags.specs.declared.slot.SlotState.{SlotState}
use Rattle.tags.specs.declared.slot.SlotState.TheVariants as Slot
use Rattle.tags.specs.declared.slot.SlotState.TheVariants.{Empty, Credits, Waiter, Draining}
use Rattle.semantics.specs.declared.program.Op.{Op}
use Rattle.semantics.specs.declared.program.Op.TheVariants.{Open, Take, Give, Release}
use Rattle.semantics.specs.Program.{Instr, Program, instr_at}
use Rattle.semantics.specs.Machine.{Machine, Store, Size, Events, Run, slot_in, slot_used}
use Rattle.semantics.specs.Plan.{Plan}
use Rattle.semantics.specs.Renamed.{re_to, re_token, re_slot}
use Rattle.semantics.specs.Orderly.{NamesTo, is_at, eq_port}
use Rattle.semantics.specs.Holders.{Holder, holder_at, same_holder}
use Rattle.semantics.specs.Credits.{granted_by, granted_in, granted_at, released_by, released_in, released_at, granted, released}
use Rattle.law_reuse.proofs.FramesFold.{Injective, eq_under, ne_eqb}
use Rattle.law_reuse.proofs.FramesSnoc.{Count, tally}

pub data Counter : Type 0 where
  -- the credits of a loop
  Grants : (loop : Holder) → Counter
  -- the iterations of a loop whose landing begins there
  Releases : (base : ℕ) → Counter

abbrev pub count_at : Plan → Program → Counter → ℕ → Count
count_at P q (Grants loop) f = λ s to made. granted_at P q f loop s to
count_at P q (Releases base) f = λ s to made. released_at q f base to made

pub granted_is : (P : Plan) (q : Program) (f : ℕ) (loop : Holder) (z : Size) (old : Machine) (events : Events) (new : Machine) (r : Run q z old events new)
    → granted P q f loop z old events new r ≡ tally (count_at P q (Grants loop) f) q z old events new r
granted_is P q f loop z old [] new r = refl
granted_is P q f loop z old (x ∷ events) new r = ap (λ (n : ℕ). granted_at P q f loop old.store x.1.to + n) (granted_is P q f loop z r.0 events new r.2)

pub released_is : (P : Plan) (q : Program) (f base : ℕ) (z : Size) (old : Machine) (events : Events) (new : Machine) (r : Run q z old events new)
    → released q f base z old events new r ≡ tally (count_at P q (Releases base) f) q z old events new r
released_is P q f base z old [] new r = refl
released_is P q f base z old (x ∷ events) new r = ap (λ (n : ℕ). released_at q f base x.1.to r.1.made + n) (released_is P q f base z r.0 events new r.2)

-- ---- NOTHING IS COUNTED OF OTHER EVENTS

pub count_request : (P : Plan) (q : Program) (x : Counter) (f : ℕ) (s : Store) (made : List Token) → count_at P q x f s To.Manager made ≡ 0
count_request P q (Grants loop) f s made = refl
count_request P q (Releases base) f s made = refl

pub count_release : (P : Plan) (q : Program) (x : Counter) (f g : ℕ) (s : Store) (made : List Token) → count_at P q x f s (To.Release g) made ≡ 0
count_release P q (Grants loop) f g s made = refl
count_release P q (Releases base) f g s made = refl

-- only an instruction's event counts
pub count_apart : (P : Plan) (q : Program) (x : Counter) (f : ℕ) (s : Store) (to : To) (made : List Token) → ((g ip : ℕ) (r : Port) → to ≡ To.Instr g ip r → ⊥)
    → count_at P q x f s to made ≡ 0
count_apart P q x f s (To.Instr g ip r) made ne = absurd (ne g ip r refl)
count_apart P q (Grants loop) f s (To.Fetch y) made ne = refl
count_apart P q (Releases base) f s (To.Fetch y) made ne = refl
count_apart P q (Grants loop) f s (To.Store y v) made ne = refl
count_apart P q (Releases base) f s (To.Store y v) made ne = refl
count_apart P q (Grants loop) f s To.Manager made ne = refl
count_apart P q (Releases base) f s To.Manager made ne = refl
count_apart P q (Grants loop) f s (To.Release g) made ne = refl
count_apart P q (Releases base) f s (To.Release g) made ne = refl
count_apart P q (Grants loop) f s (To.Host j) made ne = refl
count_apart P q (Releases base) f s (To.Host j) made ne = refl

-- ---- UNDER OTHER NUMBERS FOR THE FRAMES

granted_by_re : (h : ℕ → ℕ) (op : Op) (s : SlotState) → granted_by op (re_slot h s) ≡ granted_by op s
granted_by_re h (Open k) Empty = refl
granted_by_re h (Open k) (Slot.Left w) = refl
granted_by_re h (Open k) (Slot.Right w) = refl
granted_by_re h (Open k) (Credits n) = refl
granted_by_re h (Open k) (Waiter c) = refl
granted_by_re h (Open k) (Draining n) = refl
granted_by_re h (Take k) Empty = refl
granted_by_re h (Take k) (Slot.Left w) = refl
granted_by_re h (Take k) (Slot.Right w) = refl
granted_by_re h (Take k) (Credits zero) = refl
granted_by_re h (Take k) (Credits (suc n)) = refl
granted_by_re h (Take k) (Waiter c) = refl
granted_by_re h (Take k) (Draining n) = refl
granted_by_re h (Give k) Empty = refl
granted_by_re h (Give k) (Slot.Left w) = refl
granted_by_re h (Give k) (Slot.Right w) = refl
granted_by_re h (Give k) (Credits n) = refl
granted_by_re h (Give k) (Waiter c) = refl
granted_by_re h (Give k) (Draining n) = refl
granted_by_re h op s = refl

granted_in_re : (h : ℕ → ℕ) (o : Option Instr) (s : SlotState) → granted_in o (re_slot h s) ≡ granted_in o s
granted_in_re h None s = refl
granted_in_re h (Some i) s = granted_by_re h i.op s

at_re : (h : ℕ → ℕ) → Injective h → (f ip : ℕ) (q : Port) (to : To) → is_at (h f) ip q (re_to h to) ≡ is_at f ip q to
at_re h inj f ip q (To.Instr g n r) = ap (λ (b : Bool). b && (n == ip) && eq_port q r) (eq_under h inj g f)
at_re h inj f ip q (To.Fetch x) = refl
at_re h inj f ip q (To.Store x v) = refl
at_re h inj f ip q To.Manager = refl
at_re h inj f ip q (To.Release g) = refl
at_re h inj f ip q (To.Host j) = refl

made_re : (h : ℕ → ℕ) → Injective h → (f ip : ℕ) (q : Port) (made : List Token)
    → count_by (λ (t : Token). is_at (h f) ip q t.to) (map (re_token h) made) ≡ count_by (λ (t : Token). is_at f ip q t.to) made
made_re h inj f ip q [] = refl
made_re h inj f ip q (t ∷ made) =
    let a = sum_by-cons (λ (t : Token). cond (is_at (h f) ip q t.to) 1 0) (re_token h t) (map (re_token h) made) in
    let b = sum_by-cons (λ (t : Token). cond (is_at f ip q t.to) 1 0) t made in
    let c : cond {A = ℕ} (is_at (h f) ip q (re_to h t.to)) 1 0 ≡ cond (is_at f ip q t.to) 1 0 =
    ap (λ (b : Bool). cond {A = ℕ} b 1 0) (at_re h inj f ip q t.to) in
    let d = made_re h inj f ip q made in
    omega (arith, a, b, c, d)

released_by_re : (h : ℕ → ℕ) → Injective h → (op : Op) (f base : ℕ) (made : List Token)
    → released_by op (h f) base (map (re_token h) made) ≡ released_by op f base made
released_by_re h inj (Release o) f base made = made_re h inj f (base + o) Left made
released_by_re h inj op f base made = refl

released_in_re : (h : ℕ → ℕ) → Injective h → (o : Option Instr) (f base : ℕ) (made : List Token)
    → released_in o (h f) base (map (re_token h) made) ≡ released_in o f base made
released_in_re h inj None f base made = refl
released_in_re h inj (Some i) f base made = released_by_re h inj i.op f base made

-- two states of the same slots
abbrev pub SlotsAre : (ℕ → ℕ) → Store → Store → Type 0
SlotsAre h m u = (g r : ℕ) → u.slots (h g) r ≡ re_slot h (m.slots g r)

slot_re : (h : ℕ → ℕ) (m u : Store) → SlotsAre h m u → (g : ℕ) (o : Option ℕ) → slot_in u (h g) o ≡ re_slot h (slot_in m g o)
slot_re h m u S g None = refl
slot_re h m u S g (Some r) = S g r

pub count_re : (P : Plan) (q : Program) (x : Counter) (h : ℕ → ℕ) → Injective h → (f : ℕ) (m u : Store) → SlotsAre h m u → (to : To) (made : List Token)
    → count_at P q x (h f) u (re_to h to) (map (re_token h) made) ≡ count_at P q x f m to made
count_re P q (Grants loop) h inj f m u S (To.Instr g ip r) made =
    (λ k. if eq_under h inj g f k && same_holder loop (holder_at P ip) then granted_in (instr_at q ip) (slot_re h m u S g (slot_used (instr_at q ip)) k) else 0)
    ∙ ap (λ (n : ℕ). if (g == f) && same_holder loop (holder_at P ip) then n else 0) (granted_in_re h (instr_at q ip) (slot_in m g (slot_used (instr_at q ip))))
count_re P q (Releases base) h inj f m u S (To.Instr g ip r) made = released_in_re h inj (instr_at q ip) f base made
count_re P q (Grants loop) h inj f m u S (To.Fetch y) made = refl
count_re P q (Releases base) h inj f m u S (To.Fetch y) made = refl
count_re P q (Grants loop) h inj f m u S (To.Store y v) made = refl
count_re P q (Releases base) h inj f m u S (To.Store y v) made = refl
count_re P q (Grants loop) h inj f m u S To.Manager made = refl
count_re P q (Releases base) h inj f m u S To.Manager made = refl
count_re P q (Grants loop) h inj f m u S (To.Release g) made = refl
count_re P q (Releases base) h inj f m u S (To.Release g) made = refl
count_re P q (Grants loop) h inj f m u S (To.Host j) made = refl
count_re P q (Releases base) h inj f m u S (To.Host j) made = refl

-- ---- A FRAME THAT NOTHING NAMES

off_at : (f ip : ℕ) (q : Port) (to : To) → (NamesTo f to → ⊥) → is_at f ip q to ≡ false
off_at f ip q (To.Instr g n r) none = and_left _ (eq_port q r) (and_left _ (n == ip) (ne_eqb g f none))
off_at f ip q (To.Fetch x) none = refl
off_at f ip q (To.Store x v) none = refl
off_at f ip q To.Manager none = refl
off_at f ip q (To.Release g) none = refl
off_at f ip q (To.Host j) none = refl

off_made : (f ip : ℕ) (q : Port) (made : List Token) → ((t : Token) → Contains made t → NamesTo f t.to → ⊥)
    → count_by (λ (t : Token). is_at f ip q t.to) made ≡ 0
off_made f ip q [] none = refl
off_made f ip q (t ∷ made) none =
    let b = sum_by-cons (λ (t : Token). cond (is_at f ip q t.to) 1 0) t made in
    let c : cond {A = ℕ} (is_at f ip q t.to) 1 0 ≡ 0 = ap (λ (b : Bool). cond {A = ℕ} b 1 0) (off_at f ip q t.to (none t (contains_head t made))) in
    let d = off_made f ip q made (λ k inside. none k (contains_tail t made k inside)) in
    omega (arith, b, c, d)

off_by : (op : Op) (f base : ℕ) (made : List Token) → ((t : Token) → Contains made t → NamesTo f t.to → ⊥) → released_by op f base made ≡ 0
off_by (Release o) f base made none = off_made f (base + o) Left made none
off_by op f base made none = refl

off_in : (o : Option Instr) (f base : ℕ) (made : List Token) → ((t : Token) → Contains made t → NamesTo f t.to → ⊥) → released_in o f base made ≡ 0
off_in None f base made none = refl
off_in (Some i) f base made none = off_by i.op f base made none

pub count_off : (P : Plan) (q : Program) (x : Counter) (f : ℕ) (s : Store) (to : To) (made : List Token) → (NamesTo f to → ⊥)
    → ((t : Token) → Contains made t → NamesTo f t.to → ⊥) → count_at P q x f s to made ≡ 0
count_off P q (Grants loop) f s (To.Instr g ip r) made none made_none =
    ap (λ (b : Bool). if b then granted_in (instr_at q ip) (slot_in s g (slot_used (instr_at q ip))) else 0)
    (and_left _ (same_holder loop (holder_at P ip)) (ne_eqb g f none))
count_off P q (Releases base) f s (To.Instr g ip r) made none made_none = off_in (instr_at q ip) f base made made_none
count_off P q (Grants loop) f s (To.Fetch y) made none made_none = refl
count_off P q (Releases base) f s (To.Fetch y) made none made_none = refl
count_off P q (Grants loop) f s (To.Store y v) made none made_none = refl
count_off P q (Releases base) f s (To.Store y v) made none made_none = refl
count_off P q (Grants loop) f s To.Manager made none made_none = refl
count_off P q (Releases base) f s To.Manager made none made_none = refl
count_off P q (Grants loop) f s (To.Release g) made none made_none = refl
count_off P q (Releases base) f s (To.Release g) made none made_none = refl
count_off P q (Grants loop) f s (To.Host j) made none made_none = refl
count_off P q (Releases base) f s (To.Host j) made none made_none = refl
