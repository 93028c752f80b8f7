-- The instructions of a loop have the holder of its `open`, which is the last one before them. So the code of a plain block is
-- written.
use Rattle.std.proofs.Common.{◌≡◌, ℕ, zero, suc, ◌+◌, ◌-◌, ◌<◌, Bool, true, false, List, [], ◌∷◌, ◌++◌, refl, sym, ap, ◌∙◌, subst, arith, if◌then◌else◌, Some}
use Rattle.std.proofs.Common.{None, Option}
use Rattle.std.specs.Prelude.{slice_get, slice_set, slice_index_or, ⊤}
use Rattle.semantics.specs.declared.graph.Kind.{Kind}
use Rattle.semantics.specs.declared.graph.Kind.TheVariants.{Cond}
use Rattle.semantics.specs.declared.program.Dest.{Dest}
use Rattle.semantics.specs.declared.program.Op.{Op}
use Rattle.semantics.specs.declared.program.Op.TheVariants.{Open, Take, Give, Drain}
use Rattle.semantics.specs.Graph.{Node, node_at}
use Rattle.semantics.specs.Program.{Instr}
use Rattle.semantics.specs.Plan.{is_open, is_credit}
use Rattle.schemas.specs.Scopes.{Scope}
use Rattle.schemas.specs.Builds.{Build, with_dest, no_instr, bare, slot_in, takes_holder}
use Rattle.law_wiring.proofs.KeepingSteps.{Stage, code_build, all_keep}
use Rattle.law_wiring.proofs.FactsHolders.{is_later}
use Rattle.law_net.specs.ContextsParts.{Part, Line, Opener, Sender, Landing, Giver, Taker, Drainer, LoopDone}
use Rattle.law_net.specs.ContextsBlocks.{Site, op_of, kind_op}
use Rattle.law_net.specs.ContextsExpanded.{row, invoked}

-- THE LAST OPEN
abbrev pub AreLast : ℕ → List Instr → ℕ → Type 0
AreLast last [] now = last ≡ now
AreLast last (i ∷ is) now = (is_later i.op ≡ true → i.slot ≡ last) × AreLast (if is_open i.op then i.slot else last) is now

last_push : (last now : ℕ) (is : List Instr) (i : Instr) → AreLast last is now → (is_later i.op ≡ true → i.slot ≡ now)
    → AreLast last (is ++ i ∷ []) (if is_open i.op then i.slot else now)
last_push last now [] i h f = (λ l. f l ∙ sym h, ap (λ k. if is_open i.op then i.slot else k) h)
last_push last now (j ∷ is) i h f = (h.0, last_push (if is_open j.op then j.slot else last) now is i h.1 f)

last_set : (last now : ℕ) (is : List Instr) (n : ℕ) (s : Bool) (d : Dest) → AreLast last is now
    → AreLast last (slice_set is n (with_dest (slice_index_or is n no_instr) s d)) now
last_set last now [] n s d h = h
last_set last now (i ∷ is) zero true d h = h
last_set last now (i ∷ is) zero false d h = h
last_set last now (i ∷ is) (suc n) s d h = (h.0, last_set (if is_open i.op then i.slot else last) now is n s d h.1)

-- a later part of a loop has no holder of its own
later_slot : (op : Op) (holders opened : ℕ) → is_later op ≡ true → (if takes_holder op then holders else if is_credit op then opened else 0) ≡ opened
later_slot (Take k) holders opened e = refl
later_slot (Give k) holders opened e = refl
later_slot (Drain k) holders opened e = refl
later_slot op holders opened e = absurd (cc)

open_slot : (op : Op) (holders opened : ℕ)
    → (if is_open op then (if takes_holder op then holders else if is_credit op then opened else 0) else opened) ≡ (if is_open op then holders else opened)
open_slot (Open k) holders opened = refl
open_slot op holders opened = refl

abbrev Lasts : Stage → Build → Type 0
Lasts s b = AreLast 0 b.instrs b.opened

pub code_lasts : (s : Scope) (turn : Option ℕ) → AreLast 0 (code_build s turn).instrs (code_build s turn).opened
code_lasts = all_keep Lasts
    (λ s t b op o m r e f h. subst (AreLast 0 (b.instrs ++ bare op o (slot_in b op) ∷ [])) (open_slot op b.holders b.opened)
    (last_push 0 b.opened b.instrs (bare op o (slot_in b op)) h (later_slot op b.holders b.opened)))
    (λ s b o to p h. last_set 0 b.opened b.instrs (o.place + o.port) o.second (record { ahead = (to - o.place) - o.port; port = p }) h)
    (λ s b o h. h) refl

-- before the first open
last_before : (last now : ℕ) (is : List Instr) (g : ℕ) (y : Instr) → AreLast last is now → slice_get is g ≡ Some y → is_later y.op ≡ true
    → ((m : ℕ) (z : Instr) → m < g → slice_get is m ≡ Some z → is_open z.op ≡ false) → y.slot ≡ last
last_before last now [] g y h e l f = absurd (cc)
last_before last now (i ∷ is) zero y h e l f = let same : i ≡ y = cc in ap (λ (z : Instr). z.slot) (sym same) ∙ h.0 (ap (λ (z : Instr). is_later z.op) same ∙ l)
last_before last now (i ∷ is) (suc g) y h e l f =
    let none = f 0 i (omega arith) refl in
    last_before last now is g y (subst (λ t. AreLast (if t then i.slot else last) is now) none h.1) e l (λ m z k q. f (suc m) z (omega (arith, k)) q)

pub slots_meet : (last now : ℕ) (is : List Instr) → AreLast last is now → (k g : ℕ) (x y : Instr) → slice_get is k ≡ Some x → slice_get is g ≡ Some y → k < g
    → is_open x.op ≡ true → is_later y.op ≡ true
    → ((m : ℕ) (z : Instr) → k < m → m < g → slice_get is m ≡ Some z → is_open z.op ≡ false) → y.slot ≡ x.slot
slots_meet last now [] h k g x y e q l o t f = absurd (cc)
slots_meet last now (i ∷ is) h zero zero x y e q l o t f = absurd (omega (arith, l))
slots_meet last now (i ∷ is) h zero (suc g) x y e q l o t f =
    let same : i ≡ x = cc in
    let opens : is_open i.op ≡ true = ap (λ (z : Instr). is_open z.op) same ∙ o in
    last_before i.slot now is g y (subst (λ u. AreLast (if u then i.slot else last) is now) opens h.1) q t
    (λ m z k w. f (suc m) z (omega arith) (omega (arith, k)) w) ∙ ap (λ (z : Instr). z.slot) same
slots_meet last now (i ∷ is) h (suc k) zero x y e q l o t f = absurd (omega (arith, l))
slots_meet last now (i ∷ is) h (suc k) (suc g) x y e q l o t f =
    slots_meet (if is_open i.op then i.slot else last) now is h.1 k g x y e q (omega (arith, l)) o t
    (λ m z a c w. f (suc m) z (omega (arith, a)) (omega (arith, c)) w)

-- NO OPENERS
abbrev pub is_opener : Part → Bool
is_opener (Opener n) = true
is_opener r = false

kind_no_open : (k : Kind ℕ) → is_open (kind_op k) ≡ false
kind_no_open Cond = refl
kind_no_open k = refl

pub no_open : (variant : ℕ → ℕ) (s : Site) (r : Part) → is_opener r ≡ false → is_open (op_of variant s r) ≡ false
no_open variant s (Line n) h = go (node_at s.block n)
  where
    go : (o : Option (Node ℕ)) → is_open (elim o as (λ x. Op) [ None ↦ Op.Copy | Some line ↦ kind_op line.kind ]) ≡ false
    go None = refl
    go (Some x) = kind_no_open x.kind
no_open variant s (Opener n) h = absurd (cc)
no_open variant s r h = refl

abbrev pub NoOpeners : List Part → Type 0
NoOpeners [] = ⊤
NoOpeners (r ∷ rs) = (is_opener r ≡ false) × NoOpeners rs

no_get : (rs : List Part) (i : ℕ) (r : Part) → NoOpeners rs → slice_get rs i ≡ Some r → is_opener r ≡ false
no_get [] i r h e = absurd (cc)
no_get (x ∷ rs) zero r h e = let same : x ≡ r = cc in ap is_opener (sym same) ∙ h.0
no_get (x ∷ rs) (suc i) r h e = no_get rs i r h.1 e

no_both : (rs qs : List Part) → NoOpeners rs → NoOpeners qs → NoOpeners (rs ++ qs)
no_both [] qs h k = k
no_both (r ∷ rs) qs h k = (h.0, no_both rs qs h.1 k)

no_row : (f : ℕ → Part) (from n : ℕ) → ((j : ℕ) → is_opener (f j) ≡ false) → NoOpeners (row f from n)
no_row f from zero h = tt
no_row f from (suc n) h = (h from, no_row f (from + 1) n h)

-- after the opener of a loop
pub behind_opener : (n m i : ℕ) (r : Part) → slice_get (Opener n ∷ invoked n m m ++ (Giver n ∷ Taker n ∷ Drainer n ∷ LoopDone n ∷ [])) (suc i) ≡ Some r
    → is_opener r ≡ false
behind_opener n m i r e =
    no_get (invoked n m m ++ (Giver n ∷ Taker n ∷ Drainer n ∷ LoopDone n ∷ [])) i r
    (no_both (invoked n m m) (Giver n ∷ Taker n ∷ Drainer n ∷ LoopDone n ∷ [])
    (refl, (refl, (refl, no_both (row (Sender n) 0 m) (row (Landing n) 0 m) (no_row (Sender n) 0 m (λ j. refl)) (no_row (Landing n) 0 m (λ j. refl)))))
    (refl, (refl, (refl, (refl, tt))))) e
