-- Arcs that were used: what was taken at the instruction, and that a holder whose end was reached stays empty.
use Rattle.std.proofs.Common.{◌≡◌, refl, sym, ap, ◌∙◌, subst, ℕ, zero, suc, ◌+◌, ◌≤◌, ◌⊎◌, inl, inr, Bool, true, false, not, true≢false, List, [], ◌∷◌, ◌++◌}
use Rattle.std.proofs.Common.{Option, Some, Contains, arith}
use Rattle.std.specs.Prelude.{count_by, slice_get}
use Rattle.std.proofs.lemmas.List.Elements.{Contains-append_left, Contains-append_right, Contains-append_cases}
use Rattle.lemmas.proofs.Contains.{contains_none}
use Rattle.operators.specs.Values.{truth}
use Rattle.tags.specs.declared.value.Value.{Value}
use Rattle.tags.specs.declared.token.Port.{Port}
use Rattle.tags.specs.declared.token.Port.TheVariants.{Left, Right}
use Rattle.tags.specs.declared.token.Word.{Word}
use Rattle.tags.specs.declared.token.To.{To}
use Rattle.tags.specs.declared.token.Token.{Token}
use Rattle.tags.specs.declared.slot.SlotState.{SlotState}
use Rattle.tags.specs.declared.slot.SlotState.TheVariants.{Empty}
use Rattle.semantics.specs.declared.program.Op.{Op}
use Rattle.semantics.specs.declared.program.Op.TheVariants.{Apply2, Sync, Switch, Store, Send, Return, Ask, Open, Take, Give, Drain, Release}
use Rattle.semantics.specs.Program.{Instr, CodeBlock, Program, first_of, instr_at}
use Rattle.semantics.specs.Rule.{token, Point, slot_of}
use Rattle.semantics.specs.Plan.{Plan, is_credit, is_open}
use Rattle.semantics.specs.Sharing.{Arc, arc, arcs_from, arcs_of, arcs_in, is_port, ends_with}
use Rattle.semantics.specs.Orderly.{is_at, often, same_block}
use Rattle.semantics.specs.Wired.{is_dyadic}
use Rattle.semantics.proofs.ArcEnds.{arcs_from_from}
use Rattle.law_reuse.proofs.SlotsPlaced.{IsPlaced, stands_at, stands_block}
use Rattle.law_reuse.proofs.SlotsTurns.{is_counting, is_later, Turn, waits_left, waits_right, meets_right, meets_left, lone, begins, counts}
use Rattle.law_reuse.proofs.SlotsFillings.{at_port, Came, later_on, came_twice, none_some}

-- ---- ARCS

-- an arc starts at an instruction of its block
arc_starts : (p : Plan) (m : ℕ) (is : List Instr) (x : Arc) → Contains (arcs_of p m is) x → (k : ℕ) × (i : Instr) × (slice_get is k ≡ Some i) × (x.from ≡ m + k)
arc_starts p m [] x c = absurd (contains_none x c)
arc_starts p m (i ∷ is) x c = go (Contains-append_cases (arcs_from p m i i.op) (arcs_of p (m + 1) is) x c) (λ c. arc_starts p (m + 1) is x c)
  where
    go : Contains (arcs_from p m i i.op) x ⊎ Contains (arcs_of p (m + 1) is) x
        → (Contains (arcs_of p (m + 1) is) x → (k : ℕ) × (j : Instr) × (slice_get is k ≡ Some j) × (x.from ≡ m + 1 + k))
        → (k : ℕ) × (j : Instr) × (slice_get (i ∷ is) k ≡ Some j) × (x.from ≡ m + k)
    go (inl c) more = let e = arcs_from_from p m i i.op x c in (0, i, refl, omega (arith, e))
    go (inr c) more = let r = more c in let e = r.3 in (suc r.0, r.1, r.2, omega (arith, e))

pub arc_stands : (p : Plan) (b : ℕ) (c : CodeBlock) (x : Arc) → slice_get p.program.blocks b ≡ Some c → Contains (arcs_of p 0 c.instrs) x
    → (i : Instr) × IsPlaced p.program b x.from i
arc_stands p b c x at inside =
    let s = arc_starts p 0 c.instrs x inside in
    let e : x.from ≡ s.0 = (let e = s.3 in omega (arith, e)) in
    (s.1, record { code = c; block = at; instr = ap (slice_get c.instrs) e ∙ s.2 })

-- and all arcs of an instruction are its block's
arcs_there : (p : Plan) (m : ℕ) (is : List Instr) (k : ℕ) (i : Instr) (x : Arc) → slice_get is k ≡ Some i → Contains (arcs_from p (m + k) i i.op) x
    → Contains (arcs_of p m is) x
arcs_there p m [] k i x at c = absurd (cc)
arcs_there p m (j ∷ is) zero i x at c =
    let same : i ≡ j = cc in
    let here : m + 0 ≡ m = omega arith in
    Contains-append_left (arcs_from p m j j.op) (arcs_of p (m + 1) is) x
    (subst (λ (i : Instr). Contains (arcs_from p m i i.op) x) same (subst (λ (n : ℕ). Contains (arcs_from p n i i.op) x) here c))
arcs_there p m (j ∷ is) (suc k) i x at c =
    let here : m + suc k ≡ m + 1 + k = omega arith in
    Contains-append_right (arcs_from p m j j.op) (arcs_of p (m + 1) is) x
    (arcs_there p (m + 1) is k i x at (subst (λ (n : ℕ). Contains (arcs_from p n i i.op) x) here c))

pub stands_arcs : (p : Plan) (b n : ℕ) (i : Instr) (x : Arc) → IsPlaced p.program b n i → Contains (arcs_from p n i i.op) x
    → Contains (arcs_in p (slice_get p.program.blocks b)) x
stands_arcs p b n i x s c =
    let zero_on : n ≡ 0 + n = omega arith in
    subst (λ (o : Option CodeBlock). Contains (arcs_in p o) x) (sym s.block)
    (arcs_there p 0 s.code.instrs n i x s.instr (subst (λ (n : ℕ). Contains (arcs_from p n i i.op) x) zero_on c))

-- ---- PORTS

pub dyadic_port : (op : Op) (q : Port) → is_dyadic op ≡ true → is_port op q ≡ true
dyadic_port (Open k) q d = absurd (true≢false (sym d))
dyadic_port (Take k) q d = absurd (true≢false (sym d))
dyadic_port (Give k) q d = absurd (true≢false (sym d))
dyadic_port (Drain k) q d = absurd (true≢false (sym d))
dyadic_port op q d = refl

pub open_port : (op : Op) → is_open op ≡ true → is_port op Left ≡ true
open_port (Open k) d = refl
open_port op d = absurd (true≢false (sym d))

pub later_port : (op : Op) (q : Port) → is_later op ≡ true → is_port op q ≡ true → ⊥
later_port (Take k) q d e = true≢false (sym e)
later_port (Give k) q d e = true≢false (sym e)
later_port (Drain k) q d e = true≢false (sym e)
later_port op q d e = true≢false (sym d)

pub credit_port : (op : Op) (q : Port) → is_credit op ≡ true → is_port op q ≡ true → (is_open op ≡ true) × (q ≡ Left)
credit_port (Open k) Left d e = (refl, refl)
credit_port (Open k) Right d e = absurd (true≢false (sym e))
credit_port (Take k) q d e = absurd (true≢false (sym e))
credit_port (Give k) q d e = absurd (true≢false (sym e))
credit_port (Drain k) q d e = absurd (true≢false (sym e))
credit_port op q d e = absurd (true≢false (sym d))

often_op : (op : Op) (q : Port) → is_port op q ≡ true → (elim op as (λ x. Bool) [ Give k ↦ true | Take k ↦ true | _ ↦ false ]) ≡ false
often_op (Give k) q e = absurd (true≢false (sym e))
often_op (Take k) q e = absurd (true≢false (sym e))
often_op op q e = refl

pub often_port : (i : Instr) (q : Port) → is_port i.op q ≡ true → often (Some i) ≡ false
often_port i q e = often_op i.op q e

pub open_end : (op : Op) → is_open op ≡ true → ends_with op ≡ true → ⊥
open_end (Open k) d e = true≢false (sym e)
open_end op d e = true≢false (sym d)

pub dyadic_slot : (i : Instr) (op : Op) → is_dyadic op ≡ true → slot_of i op ≡ Some i.slot
dyadic_slot i (Apply2 op) d = refl
dyadic_slot i Sync d = refl
dyadic_slot i Switch d = refl
dyadic_slot i (Store a) d = refl
dyadic_slot i (Send b e) d = refl
dyadic_slot i (Return o) d = refl
dyadic_slot i (Ask o) d = refl
dyadic_slot i (Release o) d = refl
dyadic_slot i op d = absurd (true≢false (sym d))

-- ---- WHAT IS KNOWN OF THE PORTS AT ONE STATE
pub record Ports (p : Plan) (ts pool : List Token) : Type 0 where
  pub once : (f ip : ℕ) (q : Port) → often (instr_at p.program ip) ≡ false → count_by (λ (t : Token). is_at f ip q t.to) (ts ++ pool) ≤ 1
  pub block : (f ip jp : ℕ) (q r : Port) (v w : Word) → Contains (ts ++ pool) (token (To.Instr f ip q) v) → Contains (ts ++ pool) (token (To.Instr f jp r) w)
      → same_block p.program.blocks ip jp ≡ true

pub one_frame : (p : Plan) (ts pool : List Token) → Ports p ts pool → (f a b m n : ℕ) (i j : Instr) (q r : Port) (v w : Word) → IsPlaced p.program a m i
    → IsPlaced p.program b n j
    → Contains (ts ++ pool) (at_port p.program f a m q v) → Contains (ts ++ pool) (at_port p.program f b n r w) → a ≡ b
one_frame p ts pool P f a b m n i j q r v w s t c d =
    stands_block p.program a b m n i j s t (P.block f (first_of p.program a + m) (first_of p.program b + n) q r v w c d)

pub not_twice : (p : Plan) (ts pool : List Token) → Ports p ts pool → (f b n : ℕ) (i : Instr) (q : Port) (v w : Word) → IsPlaced p.program b n i
    → is_port i.op q ≡ true
    → Contains ts (at_port p.program f b n q v) → Contains pool (at_port p.program f b n q w) → ⊥
not_twice p ts pool P f b n i q v w s port c d =
    came_twice ts pool f (first_of p.program b + n) q v w
    (P.once f (first_of p.program b + n) q (ap often (stands_at p.program b n i s) ∙ often_port i q port)) c d

-- holder h of block b is empty for good: each of its ports has got its token
pub record Over (p : Program) (ts : List Token) (slots : ℕ → ℕ → SlotState) (f b h : ℕ) : Type 0 where
  pub empty : slots f h ≡ Empty
  pub came : (n : ℕ) (j : Instr) (q : Port) → IsPlaced p b n j → slot_of j j.op ≡ Some h → is_port j.op q ≡ true → Came p ts f b n q

-- an arc of block b was used in frame f
pub record Used (p : Program) (ts : List Token) (slots : ℕ → ℕ → SlotState) (f b : ℕ) (x : Arc) : Type 0 where
  pub i : Instr
  pub stands : IsPlaced p b x.from i
  pub left : Came p ts f b x.from Left
  pub right : is_dyadic i.op ≡ true → Came p ts f b x.from Right
  -- a switch uses the arcs of the side that its predicate determines
  pub side : i.op ≡ Switch → (v : Value) × Contains ts (at_port p f b x.from Right (Word.Val v)) × (truth v ≡ not x.second)
  pub over : (h : ℕ) → slot_of i i.op ≡ Some h → ends_with i.op ≡ true → Over p ts slots f b h

pub came_later : (p : Program) (ts : List Token) (t : Token) (f b n : ℕ) (q : Port) → Came p ts f b n q → Came p (ts ++ t ∷ []) f b n q
came_later p ts t f b n q c = (c.0, later_on ts t (at_port p f b n q c.0) c.1)

pub same_over : (p : Program) (ts : List Token) (t : Token) (old new : ℕ → ℕ → SlotState) (f b h : ℕ) → new f h ≡ old f h → Over p ts old f b h
    → Over p (ts ++ t ∷ []) new f b h
same_over p ts t old new f b h same O = record { empty = same ∙ O.empty; came = λ n j q s holds port. came_later p ts t f b n q (O.came n j q s holds port) }

pub used_later : (p : Program) (ts : List Token) (t : Token) (old new : ℕ → ℕ → SlotState) (f b : ℕ) (x : Arc) (U : Used p ts old f b x)
    → ((h : ℕ) → Over p ts old f b h → Over p (ts ++ t ∷ []) new f b h) → Used p (ts ++ t ∷ []) new f b x
used_later p ts t old new f b x U keeps = record {
  i = U.i;
  stands = U.stands;
  left = came_later p ts t f b x.from Left U.left;
  right = λ d. came_later p ts t f b x.from Right (U.right d);
  side = λ e. let s = U.side e in (s.0, later_on ts t (at_port p f b x.from Right (Word.Val s.0)) s.1, s.2);
  over = λ h holds ends. keeps h (U.over h holds ends);
}

pub used_same : (p : Program) (ts : List Token) (t : Token) (old new : ℕ → ℕ → SlotState) (f b : ℕ) (x : Arc) → ((g h : ℕ) → new g h ≡ old g h)
    → Used p ts old f b x → Used p (ts ++ t ∷ []) new f b x
used_same p ts t old new f b x same U = used_later p ts t old new f b x U (λ h. same_over p ts t old new f b h (same f h))

-- no event changes an empty slot but by one of the holder's ports
pub no_move : (p : Program) (s : Point) (i : Instr) (slot : SlotState) (q : Port) (w : Word) (v : SlotState) (made : List Token) (h : ℕ)
    → Turn p s i i.op slot q w v made
    → slot ≡ Empty → slot_of i i.op ≡ Some h → is_port i.op q ≡ false → ⊥
no_move p s i slot q w v made h (waits_left d was port is none) empty holds no_port = true≢false (sym (dyadic_port i.op q d) ∙ no_port)
no_move p s i slot q w v made h (waits_right d was port is none) empty holds no_port = true≢false (sym (dyadic_port i.op q d) ∙ no_port)
no_move p s i slot q w v made h (meets_right d l was port is makes) empty holds no_port = true≢false (sym (dyadic_port i.op q d) ∙ no_port)
no_move p s i slot q w v made h (meets_left d r was port is makes) empty holds no_port = true≢false (sym (dyadic_port i.op q d) ∙ no_port)
no_move p s i slot q w v made h (lone none d port) empty holds no_port = none_some h (slot_of i i.op) none holds
no_move p s i slot q w v made h (begins d was port is) empty holds no_port = true≢false (sym (open_port i.op d) ∙ ap (is_port i.op) (sym port) ∙ no_port)
no_move p s i slot q w v made h (counts d was port is) empty holds no_port = true≢false (sym was ∙ ap is_counting empty)
