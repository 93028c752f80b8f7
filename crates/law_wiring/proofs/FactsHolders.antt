-- The holders of a code block: each loop's instructions have the number of its `open`, and no two of them are alike.
use Rattle.std.proofs.Common.{◌≡◌, ℕ, ◌+◌, ◌<◌, ◌≤◌, ◌⊎◌, Bool, true, false, List, [], ◌∷◌, ◌++◌, length, refl, sym, ap, ◌∙◌, subst, arith, if◌then◌else◌, inl}
use Rattle.std.proofs.Common.{inr, Some}
use Rattle.std.specs.Prelude.{slice_get, ⊤}
use Rattle.std.proofs.lemmas.Bool.{cases_lt}
use Rattle.tags.specs.declared.value.Origin.{Origin}
use Rattle.tags.specs.declared.token.Port.{Port}
use Rattle.semantics.specs.declared.graph.Region.{Region}
use Rattle.semantics.specs.declared.program.Mark.{Mark}
use Rattle.semantics.specs.declared.program.Op.{Op}
use Rattle.semantics.specs.declared.program.Op.TheVariants.{Apply1, Apply2, Apply2Right, Apply2Left, Lit, Copy, Sync, Switch, Fetch, Store, Frame, Link, Send}
use Rattle.semantics.specs.declared.program.Op.TheVariants.{Return, Ask, Open, Take, Give, Drain, Release}
use Rattle.semantics.specs.Program.{Instr}
use Rattle.semantics.specs.Plan.{is_open, is_credit}
use Rattle.semantics.specs.Wired.{LoopPart, Takes, Gives, Drains, NoPart, part_of, bound_of}
use Rattle.schemas.specs.declared.builder.Outlet.{Outlet}
use Rattle.schemas.specs.Builds.{Build, nothing, takes_holder, bare, slot_in, added, connected}
use Rattle.law_wiring.proofs.FactsHeads.{push_cases, push_old, heads, heads_connected, heads_added}
use Rattle.law_wiring.proofs.KeepingSteps.{Stage, Idle, Opening, Giving, Taking, Step, Plain, Opened, Given, Taken, Drained}
use Rattle.law_wiring.proofs.ArcsLists.{get_new}

-- OPERATIONS. `take`, `give` and `drain` have the holder of their loop.
abbrev pub is_later_part : LoopPart → Bool
is_later_part (Takes k) = true
is_later_part (Gives k) = true
is_later_part (Drains k) = true
is_later_part p = false

abbrev pub is_later : Op → Bool
is_later op = is_later_part (part_of op)

pub holder_first : (op : Op) → takes_holder op ≡ true → is_later op ≡ false
holder_first (Apply1 u) e = refl
holder_first (Apply2 u) e = refl
holder_first (Apply2Right u z) e = refl
holder_first (Apply2Left u z) e = refl
holder_first (Lit z) e = refl
holder_first Copy e = refl
holder_first Sync e = refl
holder_first Switch e = refl
holder_first (Fetch a) e = refl
holder_first (Store a) e = refl
holder_first Frame e = refl
holder_first (Link b) e = refl
holder_first (Send b x) e = refl
holder_first (Return x) e = refl
holder_first (Ask x) e = refl
holder_first (Open k) e = refl
holder_first (Take k) e = absurd (cc)
holder_first (Give k) e = absurd (cc)
holder_first (Drain k) e = absurd (cc)
holder_first (Release x) e = refl

no_open : (op : Op) → part_of op ≡ NoPart → is_open op ≡ false
no_open (Apply1 u) e = refl
no_open (Apply2 u) e = refl
no_open (Apply2Right u z) e = refl
no_open (Apply2Left u z) e = refl
no_open (Lit z) e = refl
no_open Copy e = refl
no_open Sync e = refl
no_open Switch e = refl
no_open (Fetch a) e = refl
no_open (Store a) e = refl
no_open Frame e = refl
no_open (Link b) e = refl
no_open (Send b x) e = refl
no_open (Return x) e = refl
no_open (Ask x) e = refl
no_open (Open k) e = absurd (cc)
no_open (Take k) e = refl
no_open (Give k) e = refl
no_open (Drain k) e = refl
no_open (Release x) e = refl

-- WHAT HOLDS, of instructions without their destinations
abbrev pub OpenAt : List Instr → ℕ → ℕ → Type 0
OpenAt hs k slot = (m : ℕ) × (i : Instr) × (slice_get hs m ≡ Some i) × (i.op ≡ Open k) × (i.slot ≡ slot)

-- no such part of the loop with that holder is there
abbrev pub Fresh : List Instr → ℕ → LoopPart → Type 0
Fresh hs slot p = (n : ℕ) (j : Instr) → slice_get hs n ≡ Some j → j.slot ≡ slot → part_of j.op ≡ p → ⊥

abbrev AtStage : Stage → List Instr → ℕ → Type 0
AtStage (Idle xs) hs slot = ⊤
AtStage (Opening xs k) hs slot = OpenAt hs k slot × Fresh hs slot (Gives k) × Fresh hs slot (Takes k) × Fresh hs slot (Drains k)
AtStage (Giving xs k) hs slot = OpenAt hs k slot × Fresh hs slot (Takes k) × Fresh hs slot (Drains k)
AtStage (Taking xs k) hs slot = OpenAt hs k slot × Fresh hs slot (Drains k)

pub record Held (s : Stage) (hs : List Instr) (holders opened : ℕ) : Type 0 where
  pub below : (n : ℕ) (j : Instr) → slice_get hs n ≡ Some j → takes_holder j.op ≡ true → j.slot < holders
  pub first : (m n : ℕ) (i j : Instr) → slice_get hs m ≡ Some i → slice_get hs n ≡ Some j → takes_holder i.op ≡ true → takes_holder j.op ≡ true
      → i.slot ≡ j.slot → m ≡ n
  pub used : (h : ℕ) → h < holders → (n : ℕ) × (i : Instr) × (slice_get hs n ≡ Some i) × (takes_holder i.op ≡ true) × (i.slot ≡ h)
  pub told : (n : ℕ) (j : Instr) → slice_get hs n ≡ Some j → is_later j.op ≡ true → OpenAt hs (bound_of (part_of j.op)) j.slot
  pub once : (m n : ℕ) (i j : Instr) → slice_get hs m ≡ Some i → slice_get hs n ≡ Some j → is_later i.op ≡ true → i.slot ≡ j.slot → part_of i.op ≡ part_of j.op
      → m ≡ n
  pub stage : AtStage s hs opened

-- ONE MORE INSTRUCTION
open_push : (hs : List Instr) (x : Instr) (k slot : ℕ) → OpenAt hs k slot → OpenAt (hs ++ x ∷ []) k slot
open_push hs x k slot h = (h.0, h.1, push_old hs x h.1 h.0 h.2, h.3, h.4)

fresh_push : (hs : List Instr) (x : Instr) (slot : ℕ) (p : LoopPart) → Fresh hs slot p → (part_of x.op ≡ p → ⊥) → Fresh (hs ++ x ∷ []) slot p
fresh_push hs x slot p h f n j e = go (push_cases hs x j n e)
  where
    go : (slice_get hs n ≡ Some j) ⊎ ((n ≡ length hs) × (x ≡ j)) → j.slot ≡ slot → part_of j.op ≡ p → ⊥
    go (inl a) s q = h n j a s q
    go (inr a) s q = f (ap (λ (y : Instr). part_of y.op) a.1 ∙ q)

stage_push : (s : Stage) (hs : List Instr) (x : Instr) (slot : ℕ) → part_of x.op ≡ NoPart → AtStage s hs slot → AtStage s (hs ++ x ∷ []) slot
stage_push (Idle xs) hs x slot e h = tt
stage_push (Opening xs k) hs x slot e h = (
  open_push hs x k slot h.0,
  fresh_push hs x slot (Gives k) h.1 (λ f. cc),
  fresh_push hs x slot (Takes k) h.2 (λ f. cc),
  fresh_push hs x slot (Drains k) h.3 (λ f. cc),
)
stage_push (Giving xs k) hs x slot e h =
    (open_push hs x k slot h.0, fresh_push hs x slot (Takes k) h.1 (λ f. cc), fresh_push hs x slot (Drains k) h.2 (λ f. cc))
stage_push (Taking xs k) hs x slot e h = (open_push hs x k slot h.0, fresh_push hs x slot (Drains k) h.1 (λ f. cc))

-- what holds of the part of a loop that an instruction may be
abbrev Later : List Instr → Instr → Type 0
Later hs x = is_later x.op ≡ true → OpenAt hs (bound_of (part_of x.op)) x.slot × Fresh hs x.slot (part_of x.op)

told_push : (s : Stage) (hs : List Instr) (x : Instr) (holders opened : ℕ) → Held s hs holders opened → Later hs x
    → (n : ℕ) (j : Instr) → slice_get (hs ++ x ∷ []) n ≡ Some j → is_later j.op ≡ true → OpenAt (hs ++ x ∷ []) (bound_of (part_of j.op)) j.slot
told_push s hs x holders opened h f n j e l = go (push_cases hs x j n e)
  where
    go : (slice_get hs n ≡ Some j) ⊎ ((n ≡ length hs) × (x ≡ j)) → OpenAt (hs ++ x ∷ []) (bound_of (part_of j.op)) j.slot
    go (inl a) = open_push hs x (bound_of (part_of j.op)) j.slot (h.told n j a l)
    go (inr a) =
        subst (λ (y : Instr). OpenAt (hs ++ x ∷ []) (bound_of (part_of y.op)) y.slot) a.1
        (open_push hs x (bound_of (part_of x.op)) x.slot (f (ap (λ (y : Instr). is_later y.op) a.1 ∙ l)).0)

once_push : (s : Stage) (hs : List Instr) (x : Instr) (holders opened : ℕ) → Held s hs holders opened → Later hs x
    → (m n : ℕ) (i j : Instr) → slice_get (hs ++ x ∷ []) m ≡ Some i → slice_get (hs ++ x ∷ []) n ≡ Some j → is_later i.op ≡ true → i.slot ≡ j.slot
    → part_of i.op ≡ part_of j.op → m ≡ n
once_push s hs x holders opened h f m n i j e g l q p = go (push_cases hs x i m e) (push_cases hs x j n g)
  where
    go : (slice_get hs m ≡ Some i) ⊎ ((m ≡ length hs) × (x ≡ i)) → (slice_get hs n ≡ Some j) ⊎ ((n ≡ length hs) × (x ≡ j)) → m ≡ n
    go (inl a) (inl b) = h.once m n i j a b l q p
    go (inr a) (inr b) = a.0 ∙ sym b.0
    go (inl a) (inr b) =
        let part : part_of x.op ≡ part_of i.op = ap (λ (y : Instr). part_of y.op) b.1 ∙ sym p in
        let slot : x.slot ≡ i.slot = ap (λ (y : Instr). y.slot) b.1 ∙ sym q in
        absurd ((f (ap is_later_part part ∙ l)).1 m i a (sym slot) (sym part))
    go (inr a) (inl b) =
        let part : part_of x.op ≡ part_of j.op = ap (λ (y : Instr). part_of y.op) a.1 ∙ p in
        let slot : x.slot ≡ j.slot = ap (λ (y : Instr). y.slot) a.1 ∙ q in
        let later : is_later x.op ≡ true = ap (λ (y : Instr). is_later y.op) a.1 ∙ l in
        absurd ((f later).1 n j b (sym slot) (sym part))

-- an instruction without a holder of its own
other_push : (s t : Stage) (hs : List Instr) (x : Instr) (holders opened : ℕ) → Held s hs holders opened → takes_holder x.op ≡ false → Later hs x
    → AtStage t (hs ++ x ∷ []) opened → Held t (hs ++ x ∷ []) holders opened
other_push s t hs x holders opened h bare_op f at = record {
  below = λ n j e p. old n j e p (push_cases hs x j n e);
  first = λ m n i j e g p q r. pair m n i j p q r (push_cases hs x i m e) (push_cases hs x j n g);
  used = λ k l. let u = h.used k l in (u.0, u.1, push_old hs x u.1 u.0 u.2, u.3, u.4);
  told = told_push s hs x holders opened h f;
  once = once_push s hs x holders opened h f;
  stage = at;
}
  where
    never : (j : Instr) → takes_holder j.op ≡ true → x ≡ j → ⊥
    never j p a = let q : takes_holder x.op ≡ true = ap (λ (y : Instr). takes_holder y.op) a ∙ p in absurd (cc)

    old : (n : ℕ) (j : Instr) → slice_get (hs ++ x ∷ []) n ≡ Some j → takes_holder j.op ≡ true → (slice_get hs n ≡ Some j) ⊎ ((n ≡ length hs) × (x ≡ j))
        → j.slot < holders
    old n j e p (inl a) = h.below n j a p
    old n j e p (inr a) = absurd (never j p a.1)

    pair : (m n : ℕ) (i j : Instr) → takes_holder i.op ≡ true → takes_holder j.op ≡ true → i.slot ≡ j.slot
        → (slice_get hs m ≡ Some i) ⊎ ((m ≡ length hs) × (x ≡ i)) → (slice_get hs n ≡ Some j) ⊎ ((n ≡ length hs) × (x ≡ j)) → m ≡ n
    pair m n i j p q r (inl a) (inl b) = h.first m n i j a b p q r
    pair m n i j p q r (inr a) b = absurd (never i p a.1)
    pair m n i j p q r (inl a) (inr b) = absurd (never j q b.1)

-- an instruction with a holder of its own, which is the next one
holder_push : (s t : Stage) (hs : List Instr) (x : Instr) (holders opened now : ℕ) → Held s hs holders opened → takes_holder x.op ≡ true → x.slot ≡ holders
    → AtStage t (hs ++ x ∷ []) now → Held t (hs ++ x ∷ []) (holders + 1) now
holder_push s t hs x holders opened now h has slot at = record {
  below = λ n j e p. old n j p (push_cases hs x j n e);
  first = λ m n i j e g p q r. pair m n i j p q r (push_cases hs x i m e) (push_cases hs x j n g);
  used = any;
  told = told_push s hs x holders opened h no_later;
  once = once_push s hs x holders opened h no_later;
  stage = at;
}
  where
    no_later : Later hs x
    no_later l = let f = holder_first x.op has in absurd (cc)

    old : (n : ℕ) (j : Instr) → takes_holder j.op ≡ true → (slice_get hs n ≡ Some j) ⊎ ((n ≡ length hs) × (x ≡ j)) → j.slot < holders + 1
    old n j p (inl a) = let l = h.below n j a p in omega (arith, l)
    old n j p (inr a) = let q : x.slot ≡ j.slot = ap (λ (y : Instr). y.slot) a.1 in omega (arith, q, slot)

    pair : (m n : ℕ) (i j : Instr) → takes_holder i.op ≡ true → takes_holder j.op ≡ true → i.slot ≡ j.slot
        → (slice_get hs m ≡ Some i) ⊎ ((m ≡ length hs) × (x ≡ i)) → (slice_get hs n ≡ Some j) ⊎ ((n ≡ length hs) × (x ≡ j)) → m ≡ n
    pair m n i j p q r (inl a) (inl b) = h.first m n i j a b p q r
    pair m n i j p q r (inr a) (inr b) = a.0 ∙ sym b.0
    pair m n i j p q r (inl a) (inr b) =
        let l = h.below m i a p in
        let s : x.slot ≡ j.slot = ap (λ (y : Instr). y.slot) b.1 in
        absurd (omega (arith, l, s, slot, r))
    pair m n i j p q r (inr a) (inl b) =
        let l = h.below n j b q in
        let s : x.slot ≡ i.slot = ap (λ (y : Instr). y.slot) a.1 in
        absurd (omega (arith, l, s, slot, r))

    any : (k : ℕ) → k < holders + 1 → (n : ℕ) × (i : Instr) × (slice_get (hs ++ x ∷ []) n ≡ Some i) × (takes_holder i.op ≡ true) × (i.slot ≡ k)
    any k l = go (cases_lt k holders)
      where
        go : (k < holders) ⊎ (holders ≤ k) → (n : ℕ) × (i : Instr) × (slice_get (hs ++ x ∷ []) n ≡ Some i) × (takes_holder i.op ≡ true) × (i.slot ≡ k)
        go (inl a) = let u = h.used k a in (u.0, u.1, push_old hs x u.1 u.0 u.2, u.3, u.4)
        go (inr a) = (length hs, x, get_new hs x, has, omega (arith, l, a, slot))

-- THE STEPS
abbrev pub Holds : Stage → Build → Type 0
Holds s b = Held s (heads b.instrs) b.holders b.opened

adds_plain : (s : Stage) (hs : List Instr) (holders opened : ℕ) (op : Op) (o : Origin) → part_of op ≡ NoPart → Held s hs holders opened
    → Held s (hs ++ bare op o (if takes_holder op then holders else if is_credit op then opened else 0) ∷ [])
    (if takes_holder op then holders + 1 else holders) opened
adds_plain s hs holders opened op o e h = go (takes_holder op) refl
  where
    go : (t : Bool) → takes_holder op ≡ t
        → Held s (hs ++ bare op o (if t then holders else if is_credit op then opened else 0) ∷ []) (if t then holders + 1 else holders) opened
    go true f = holder_push s s hs (bare op o holders) holders opened opened h f refl (stage_push s hs (bare op o holders) opened e h.stage)
    go false f =
        let slot : ℕ = if is_credit op then opened else 0 in
        other_push s s hs (bare op o slot) holders opened h f (λ l. let none : is_later op ≡ false = ap is_later_part e in absurd (cc))
        (stage_push s hs (bare op o slot) opened e h.stage)

adds_open : (xs : List ℕ) (hs : List Instr) (holders opened k : ℕ) (o : Origin) → Held (Idle xs) hs holders opened
    → Held (Opening xs k) (hs ++ bare (Open k) o holders ∷ []) (holders + 1) holders
adds_open xs hs holders opened k o h =
    let x : Instr = bare (Open k) o holders in
    holder_push (Idle xs) (Opening xs k) hs x holders opened holders h refl refl (
      (length hs, x, get_new hs x, refl, refl),
      fresh_push hs x holders (Gives k) (no_such (Gives k) refl) (λ f. cc),
      fresh_push hs x holders (Takes k) (no_such (Takes k) refl) (λ f. cc),
      fresh_push hs x holders (Drains k) (no_such (Drains k) refl) (λ f. cc),
    )
  where
    no_such : (p : LoopPart) → is_later_part p ≡ true → Fresh hs holders p
    no_such p l n j e s q =
        let t = h.told n j e (ap is_later_part q ∙ l) in
        let b = h.below t.0 t.1 t.2 (ap takes_holder t.3) in
        let at = t.4 in
        absurd (omega (arith, b, at, s))

adds_give : (xs : List ℕ) (hs : List Instr) (holders opened k : ℕ) (o : Origin) → Held (Opening xs k) hs holders opened
    → Held (Giving xs k) (hs ++ bare (Give k) o opened ∷ []) holders opened
adds_give xs hs holders opened k o h =
    let x : Instr = bare (Give k) o opened in
    let at = h.stage in
    other_push (Opening xs k) (Giving xs k) hs x holders opened h refl (λ l. (at.0, at.1))
    (open_push hs x k opened at.0, fresh_push hs x opened (Takes k) at.2 (λ f. cc), fresh_push hs x opened (Drains k) at.3 (λ f. cc))

adds_take : (xs : List ℕ) (hs : List Instr) (holders opened k : ℕ) (o : Origin) → Held (Giving xs k) hs holders opened
    → Held (Taking xs k) (hs ++ bare (Take k) o opened ∷ []) holders opened
adds_take xs hs holders opened k o h =
    let x : Instr = bare (Take k) o opened in
    let at = h.stage in
    other_push (Giving xs k) (Taking xs k) hs x holders opened h refl (λ l. (at.0, at.1))
    (open_push hs x k opened at.0, fresh_push hs x opened (Drains k) at.2 (λ f. cc))

adds_drain : (xs : List ℕ) (hs : List Instr) (holders opened k : ℕ) (o : Origin) → Held (Taking xs k) hs holders opened
    → Held (Idle (xs ++ k ∷ [])) (hs ++ bare (Drain k) o opened ∷ []) holders opened
adds_drain xs hs holders opened k o h =
    let x : Instr = bare (Drain k) o opened in
    let at = h.stage in
    other_push (Taking xs k) (Idle (xs ++ k ∷ [])) hs x holders opened h refl (λ l. (at.0, at.1)) tt

-- what is added to the heads
abbrev Added : Stage → Build → Op → Origin → Type 0
Added t b op o =
    Held t (heads b.instrs ++ bare op o (slot_in b op) ∷ []) (if takes_holder op then b.holders + 1 else b.holders) (if is_open op then b.holders else b.opened)

step_keeps : (s t : Stage) (b : Build) (op : Op) (o : Origin) → Step s op t → Holds s b → Added t b op o
step_keeps s t b op o (Plain part same) h =
    subst (λ u. Held t (heads b.instrs ++ bare op o (slot_in b op) ∷ []) (if takes_holder op then b.holders + 1 else b.holders)
    (if u then b.holders else b.opened)) (sym (no_open op part))
    (adds_plain t (heads b.instrs) b.holders b.opened op o part (subst (λ u. Holds u b) same h))
step_keeps s t b op o (Opened xs k part before after) h =
    subst (λ u. Added u b op o) (sym after)
    (subst (λ x. Added (Opening xs k) b x o) (sym part) (adds_open xs (heads b.instrs) b.holders b.opened k o (subst (λ u. Holds u b) before h)))
step_keeps s t b op o (Given xs k part before after) h =
    subst (λ u. Added u b op o) (sym after)
    (subst (λ x. Added (Giving xs k) b x o) (sym part) (adds_give xs (heads b.instrs) b.holders b.opened k o (subst (λ u. Holds u b) before h)))
step_keeps s t b op o (Taken xs k part before after) h =
    subst (λ u. Added u b op o) (sym after)
    (subst (λ x. Added (Taking xs k) b x o) (sym part) (adds_take xs (heads b.instrs) b.holders b.opened k o (subst (λ u. Holds u b) before h)))
step_keeps s t b op o (Drained xs k part before after) h =
    subst (λ u. Added u b op o) (sym after)
    (subst (λ x. Added (Idle (xs ++ k ∷ [])) b x o) (sym part) (adds_drain xs (heads b.instrs) b.holders b.opened k o (subst (λ u. Holds u b) before h)))

pub adds_hold : (s t : Stage) (b : Build) (op : Op) (o : Origin) (m : Mark) (r : Region) → Step s op t → Holds s b → Holds t (added b op o m r)
adds_hold s t b op o m r e h =
    subst (λ hs. Held t hs (if takes_holder op then b.holders + 1 else b.holders) (if is_open op then b.holders else b.opened))
    (sym (heads_added b.instrs op o (slot_in b op)))
    (step_keeps s t b op o e h)

pub links_hold : (s : Stage) (b : Build) (o : Outlet) (to : ℕ) (p : Port) → Holds s b → Holds s (connected b o to p)
links_hold s b o to p h = subst (λ hs. Held s hs b.holders b.opened) (sym (heads_connected b.instrs o to p)) h

pub begins : Holds (Idle []) nothing
begins = record {
  below = λ n j e p. absurd (cc);
  first = λ m n i j e f p q r. absurd (cc);
  used = λ h l. absurd (omega (arith, l));
  told = λ n j e l. absurd (cc);
  once = λ m n i j e f l q p. absurd (cc);
  stage = tt;
}
