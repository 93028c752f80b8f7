-- In a wired plan a turn waits for a credit only where the meaning calls for it, and its number is at least the bound.
use Rattle.std.proofs.Common.{◌≡◌, ℕ, zero, suc, ◌+◌, ◌-◌, ◌≤◌, ℤ, Bool, true, false, ◌⊎◌, inl, inr, List, [], ◌∷◌, Option, Some, None, refl, sym}
use Rattle.std.proofs.Common.{ap, ◌∙◌, subst, arith, ltb-true, if◌then◌else◌}
use Rattle.std.specs.Prelude.{Contains}
use Rattle.std.proofs.lemmas.List.Elements.{Contains-append_right}
use Rattle.lemmas.proofs.Contains.{contains_head}
use Rattle.tags.specs.declared.token.Port.{Port}
use Rattle.tags.specs.declared.token.Port.TheVariants.{Left, Right}
use Rattle.tags.specs.declared.token.Cont.{Cont}
use Rattle.tags.specs.declared.token.Word.{Word}
use Rattle.tags.specs.declared.slot.SlotState.TheVariants.{Empty, Waiter, Draining}
use Rattle.tags.specs.declared.slot.SlotState.TheVariants as Slot
use Rattle.semantics.specs.declared.graph.Kind.{Kind}
use Rattle.semantics.specs.Graph.{Block, Flow, Node, node_at}
use Rattle.semantics.specs.Meaning.{Context, Turned, IsLoop, block_of, node_of, node_in}
use Rattle.semantics.specs.Plan.{Plan}
use Rattle.semantics.specs.Machine.{Machine}
use Rattle.law_net.specs.ContextsParts.{Part, Opener, Giver, Taker, Item, Firing}
use Rattle.law_net.specs.ContextsBlocks.{is_loop, bound_in, bound_at}
use Rattle.law_net.specs.Contexts.{Wires, block_in, wiring_in, IsContext}
use Rattle.law_net.specs.ContextsCredits.{Ledger, waits_or}
use Rattle.law_net.specs.ContextsFirings.{Config, frame_at}
use Rattle.law_net.specs.ContextsLaws.{way_fits}
use Rattle.law_net.specs.ContextsMirror.{Past, on_side, only, is_item_at, items_at, is_over, granted_of, first_cont, conts_of, slot_of, in_slot, frame_of, word_of, KeepsCredits}
use Rattle.law_net.specs.ContextsTheorem.{IsGood}
use Rattle.law_net.specs.ContextsPackages.{Keeps, InputsFit}
use Rattle.law_net.proofs.WiredInvoked.{block_here}
use Rattle.law_net.proofs.WiredNets.{only_contains}
use Rattle.law_net.proofs.RunsPigeons.{item_there}
use Rattle.law_net.proofs.Credits.{keeps, book, slot_is}
use Rattle.law_end.proofs.OverMade.{Mirrors, fits, left_stands}
use Rattle.law_end.proofs.RestStory.{story}
use Rattle.law_end.proofs.CausesDues.{IsDue}
use Rattle.law_end.proofs.CausesCalled.{taker_due}
use Rattle.law_loops_complete.specs.Loops.{SomeOutgrows}
use Rattle.law_loop_credits.specs.NetsWait.{TakeWaits, NetsWaitForMore}

waiter_of : (o v d : Bool) (x : Option Cont) (y z : ℕ) (b : Cont)
    → (if o then (if v then Empty else if d then Draining y else waits_or x (Slot.Credits z)) else Empty) ≡ Waiter b → x ≡ Some b
waiter_of false v d x y z b e = absurd (cc)
waiter_of true true d x y z b e = absurd (cc)
waiter_of true false true x y z b e = absurd (cc)
waiter_of true false false None y z b e = absurd (cc)
waiter_of true false false (Some a) y z b e = cc

side_apart : (r : Port) (w : Word) (c : Cont) → on_side r w ≡ Waiter c → ⊥
side_apart Left w c e = cc
side_apart Right w c e = cc

empty_apart : (c : Cont) → Empty ≡ Waiter c → ⊥
empty_apart c e = cc

-- a loop's bound
loop_of : (k : Kind ℕ) → IsLoop k → (f : ℕ) × (k ≡ Kind.Loop f (bound_in k))
loop_of (Kind.Loop f k) l = (f, refl)
loop_of (Kind.Lit z) l = absurd l
loop_of (Kind.Apply1 o) l = absurd l
loop_of (Kind.Apply2 o) l = absurd l
loop_of Kind.Cond l = absurd l
loop_of Kind.Enter l = absurd l
loop_of (Kind.Merge k) l = absurd l
loop_of (Kind.Fetch a) l = absurd l
loop_of (Kind.Store a) l = absurd l
loop_of (Kind.Call f) l = absurd l
loop_of (Kind.StrictCall f) l = absurd l

some_block : (a : Option (Block ℕ)) (b : Block ℕ) (n : ℕ) → a ≡ Some b → node_in a n ≡ node_at b n
some_block a b n e = ap (λ (x : Option (Block ℕ)). node_in x n) e

waiter_forms : (o v d : Bool) (x : Option Cont) (y z : ℕ) (b : Cont)
    → (if o then (if v then Empty else if d then Draining y else waits_or x (Slot.Credits z)) else Empty) ≡ Waiter b → v ≡ false
waiter_forms false v d x y z b e = absurd (cc)
waiter_forms true true d x y z b e = absurd (cc)
waiter_forms true false d x y z b e = refl

module _ (fl : Flow) (p : Plan) (w : Wires) (inputs : List ℤ) (past : Past) (m : Machine) (good : IsGood fl p w) (fit : InputsFit fl inputs)
    (kept : Keeps fl p w inputs past m) where
  abbrev net : Config
  net = kept.tracks.net

  abbrev done : List Firing
  done = net.fired

  -- the loop in whose slot the waiter is, and the number of the iteration that waits
  pub record AtLoop : Type 0 where
    pub context : Context
    pub node : ℕ
    pub turn : ℕ
    pub waits : TakeWaits fl w m net context node turn

  pub at_loop : (f s : ℕ) (x : Cont) → m.store.slots f s ≡ Waiter x → AtLoop
  at_loop f s x e = go (kept.tracks.stands.slots.empty f s)
    where
      of_base : (kept.tracks.stands.base f s ≡ Empty)
          ⊎ ((c : Context) × (n : ℕ) × IsContext fl c × (is_loop (block_in fl c) n ≡ true) × (frame_at fl done c ≡ Some f)
          × ((wiring_in fl w c).slot (Opener n) ≡ s))
          → m.store.slots f s ≡ kept.tracks.stands.base f s → AtLoop
      of_base (inl none) same = absurd (empty_apart x (sym none ∙ sym same ∙ e))
      of_base (inr (c, n, con, l, at, slot)) same = record {
        context = c;
        node = n;
        turn = granted_of net c n;
        waits = record {
          is_context = con;
          is_loop' = l;
          frame = f;
          has_frame = at;
          asker = x;
          asks = ap (m.store.slots f) slot ∙ e;
          number = refl;
        };
      }

      go : (m.store.slots f s ≡ kept.tracks.stands.base f s)
          ⊎ ((j : Item) × Contains (only (in_slot fl) net.waiting) j × (frame_of fl done j.context ≡ f) × (slot_of fl w j ≡ s)) → AtLoop
      go (inl same) = of_base (kept.tracks.stands.others f s) same
      go (inr (j, inside, a, d)) =
          absurd (side_apart j.inlet.port (word_of fl p w done j.word) x
          (sym (kept.tracks.stands.slots.waits j inside) ∙ (λ k. m.store.slots (a k) (d k)) ∙ e))

  module _ (c : Context) (n u : ℕ) (T : TakeWaits fl w m net c n u) where
    abbrev log : Ledger
    log = book fl p w inputs past m good kept c T.is_context n T.is_loop'

    abbrev most : ℕ
    most = bound_at (block_in fl c) n

    ledger_waits : log.waiter ≡ Some T.asker
    ledger_waits =
        waiter_of log.opened log.over log.draining log.waiter (log.granted - log.given) (most - (log.granted - log.given)) T.asker
        (sym (slot_is fl p w inputs past m good kept c T.is_context n T.is_loop' T.frame T.has_frame) ∙ T.asks)

    law : KeepsCredits fl p w net c n
    law = keeps fl p w inputs past m good kept c T.is_context n T.is_loop'

    -- the take that waits
    pub waiting_take : (i : Item) × Contains net.waiting i × (i.context ≡ c) × (i.inlet.part ≡ Taker n)
    waiting_take =
        let i = first (only (is_item_at c (Taker n)) net.waiting) ledger_waits in
        let there = only_contains (is_item_at c (Taker n)) net.waiting i.0 i.1 in
        let at = item_there c (Taker n) i.0 there.1 in
        (i.0, there.0, at.0, at.1)
      where
        first : (items : List Item) → first_cont (conts_of fl p w done items) ≡ Some T.asker → (i : Item) × Contains items i
        first [] none = absurd (cc)
        first (i ∷ items) some = (i, contains_head i items)

    abbrev i : Item
    i = waiting_take.0

    stands : Mirrors fl p w inputs past m good fit kept i
    stands = left_stands fl p w inputs past m good fit kept i (Contains-append_right net.pending net.waiting i waiting_take.1)

    -- its number is that of the turns that were granted, which are at least the bound
    late : most ≤ i.inlet.way
    late =
        let a = law.takes i (Contains-append_right net.pending net.waiting i waiting_take.1) waiting_take.2 waiting_take.3 in
        let b = (law.law.waits T.asker ledger_waits).0 in omega (arith, a, b)

    abbrev DueHere : Context → Type 0
    DueHere c = IsDue fl p w inputs past m good fit kept good.earlier c

    due_now : DueHere (Turned c n i.inlet.way)
    due_now = by_way i.inlet.way refl
      where
        by_way : (t : ℕ) → i.inlet.way ≡ t → DueHere (Turned c n t)
        by_way zero g =
            let more = ltb-true 0 i.inlet.way (ap (λ (r : Part). way_fits fl i.context r i.inlet.port i.inlet.way) (sym waiting_take.3)
            ∙ (fits fl p w inputs past m good fit kept i stands).way) in
            absurd (omega (arith, more, g))
        by_way (suc t) g =
            subst (λ (c : Context). DueHere (Turned c n (suc t))) waiting_take.2
            (taker_due fl p w inputs past m good fit kept good.earlier i stands n t waiting_take.3 g)

    -- the bound, in the graph
    pub record Bounded : Type 0 where
      pub line : Node ℕ
      pub callee : ℕ
      pub there : node_of fl c n ≡ Some line
      pub loops : line.kind ≡ Kind.Loop callee most

    pub bounded : Bounded
    bounded =
        let due = due_now in
        let line = due.1.0 in
        let here : node_at (block_in fl c) n ≡ Some line =
        sym (some_block (block_of fl c) (block_in fl c) n (block_here fl p w good c T.is_context)) ∙ due.1.1 in
        let bound : most ≡ bound_in line.kind = ap (λ (o : Option (Node ℕ)). elim o as (λ x. ℕ) [ None ↦ 0 | Some line ↦ bound_in line.kind ]) here in
        let loop = loop_of line.kind due.1.2 in
        record { line = line; callee = loop.0; there = due.1.1; loops = loop.1 ∙ ap (Kind.Loop loop.0) (sym bound) }

    pub outgrown : SomeOutgrows fl inputs
    outgrown =
        let due = due_now in
        let low = late in (
          most,
          record {
            run = (story fl p w inputs past m good fit kept).run;
            state = (story fl p w inputs past m good fit kept).state;
            is_run = (story fl p w inputs past m good fit kept).is_run;
            context = c;
            node = n;
            line = bounded.line;
            callee = bounded.callee;
            there = bounded.there;
            loops = bounded.loops;
            due = (due.0, due.1, due.2, λ j less. due.3 j (omega (arith, low, less)));
          },
        )

    -- it is not over
    pub not_over : is_over net c n ≡ false
    not_over =
        waiter_forms log.opened log.over log.draining log.waiter (log.granted - log.given) (most - (log.granted - log.given)) T.asker
        (sym (slot_is fl p w inputs past m good kept c T.is_context n T.is_loop' T.frame T.has_frame) ∙ T.asks)

    -- the iterations that were granted are the bound more than those whose credits were given back, and what was given back waits
    pub count : (u ≡ items_at c (Giver n) net.waiting + most)
    count =
        let a = (law.law.waits T.asker ledger_waits).0 in
        let b : log.given ≡ items_at c (Giver n) net.waiting =
        ap (λ (t : Bool). if t then granted_of net c n else items_at c (Giver n) net.waiting) not_over in
        let d = T.number in omega (arith, a, b, d)

pub nets_wait_for_more : NetsWaitForMore
nets_wait_for_more fl p w good inputs past m fit kept = record { ever = λ f s x e. shown f s x e; last = λ f s x e rest none. shown f s x e }
  where
    shown : (f s : ℕ) (x : Cont) → m.store.slots f s ≡ Waiter x → SomeOutgrows fl inputs
    shown f s x e =
        let L = at_loop fl p w inputs past m good fit kept f s x e in outgrown fl p w inputs past m good fit kept L.context L.node L.turn L.waits
