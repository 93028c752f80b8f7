-- Where the arcs of the plan of a well-formed graph lead, read off its wires: a destination is the place of an inlet, and what has an
-- inlet is first in its row.
use Rattle.std.proofs.Common.{◌≡◌, ℕ, zero, suc, ◌+◌, ◌-◌, ◌<◌, ◌≤◌, Bool, true, false, ◌&&◌, ◌||◌, ◌⊎◌, inl, inr, List, [], ◌∷◌, ◌++◌, map, length}
use Rattle.std.proofs.Common.{refl, sym, ap, ◌∙◌, subst, arith, if◌then◌else◌, Option, Some, None, nat_lt, lt-ltb, le-ltb}
use Rattle.std.specs.Prelude.{slice_get, Contains, flat_map}
use Rattle.std.proofs.lemmas.Bool.{cases_lt, eq-eqb, or_cases}
use Rattle.std.proofs.lemmas.Option.{slice_get_within}
use Rattle.std.proofs.lemmas.List.Elements.{All-weaker, All-contains_itself, Contains-append_left, Contains-append_right, Contains-append_cases}
use Rattle.std.proofs.lemmas.List.Sorted.{Contains-permutation}
use Rattle.lemmas.proofs.Alls.{all_at}
use Rattle.lemmas.proofs.Contains.{contains_cases, contains_none, contains_map, contains_mapped, contains_flat_mapped}
use Rattle.tags.specs.declared.token.Port.{Port}
use Rattle.tags.specs.declared.token.Port.TheVariants.{Left, Right}
use Rattle.semantics.specs.declared.graph.Kind.{Kind}
use Rattle.semantics.specs.declared.program.Dest.{Dest}
use Rattle.semantics.specs.declared.program.Op.{Op}
use Rattle.semantics.specs.declared.program.Op.TheVariants.{Apply2, Sync, Switch, Store, Send, Return, Ask, Release, Link}
use Rattle.semantics.specs.Graph.{Node, Block, Flow, Graph, flow_of, node_at}
use Rattle.semantics.specs.WellFormed.{WellFormed}
use Rattle.semantics.specs.Text.{HasText}
use Rattle.semantics.specs.Program.{Instr, CodeBlock}
use Rattle.semantics.specs.Plan.{Plan, landing, landing_in, is_credit}
use Rattle.semantics.specs.Rule.{slot_of}
use Rattle.semantics.specs.Bytes as Bytes
use Rattle.semantics.specs.Cause.{loops_to, is_looped}
use Rattle.semantics.specs.Wired.{is_dyadic, IsInstrAt}
use Rattle.semantics.specs.Sharing as Sharing
use Rattle.semantics.specs.Sharing.{Arc, arc, arcs_to, row, arcs_from, arcs_of}
use Rattle.semantics.proofs.ArcEnds.{arcs_to_dest}
use Rattle.semantics.proofs.Lines.{body_is_looped}
use Rattle.code.specs.Sound.{LandsLeft, IsTied, IsSoundDest, DestsAreSound}
use Rattle.law_wiring.specs.Arcs.{is_row, ArcsPassEntries, RightArcsMeet, ArcsAreSound, HasSizes, BlocksHaveSizes}
use Rattle.schemas.specs.Variants.{variants_of}
use Rattle.schemas.specs.Blocks.{IsSmallBlock}
use Rattle.schemas.specs.Expanded.{plain_code, variant_code, expanded}
use Rattle.schemas.proofs.Small.{small_flow}
use Rattle.law_net.specs.ContextsParts.{Part, Entry, Line, Framer, Fanned, Linker, Landing, CallDone, Giver, Taker, Drainer, LoopDone, Asker, NextFramer}
use Rattle.law_net.specs.ContextsParts.{NextFanned, Inlet, inlet}
use Rattle.law_net.specs.ContextsBlocks as Blocks
use Rattle.law_net.specs.ContextsBlocks.{Side, side, Wiring, Site, there_in, waits_in, op_of, kind_op, is_kind, is_call, is_loop, invokes, result_count}
use Rattle.law_net.specs.ContextsBlocks.{kind_results, code_called, callee_code, outputs_in}
use Rattle.law_net.specs.ContextsWires.{answered_at, is_unwired, wired_port, leads_to, ip_and_port}
use Rattle.law_net.specs.ContextsExpanded.{variant_in}
use Rattle.law_net.proofs.ContextsBlocks.{waits_dyadic}
use Rattle.law_wiring.specs.WrittenFit.{IsCallee, Takes}
use Rattle.law_wiring.proofs.BoundsWholes.{same_looped}
use Rattle.law_wiring.proofs.FactsCodes.{plain_at, variant_at}
use Rattle.law_wiring.proofs.CodeCompose.{codes_are_there}
use Rattle.law_wiring.proofs.CodeRead.{IsRead, code_read, Stands, stands}

-- AN ARC IS OF A DESTINATION, or of a landing
abbrev ByDest : ℕ → Instr → Arc → Type 0
ByDest n i x = (d : Dest) × Contains (i.firsts ++ i.seconds) d × (x.to ≡ Sharing.inlet (n + d.ahead) d.port)

abbrev ByLanding : Plan → ℕ → Instr → Op → Arc → Type 0
ByLanding p n i op x =
    (block : ℕ) × (d : Dest) × (k : ℕ) × (op ≡ Link block) × Contains i.firsts d × (n + d.ahead ≤ k) × (k < (n + d.ahead) + landing p block)
    × (x.to ≡ Sharing.inlet k Left)

row_back : (n from count : ℕ) (x : Arc) → Contains (row n from count) x → (k : ℕ) × (from ≤ k) × (k < from + count) × (x.to ≡ Sharing.inlet k Left)
row_back n from zero x c = absurd (contains_none x c)
row_back n from (suc count) x c = go (contains_cases (arc n false (Sharing.inlet from Left)) (row n (from + 1) count) x c) (row_back n (from + 1) count x)
  where
    go : (arc n false (Sharing.inlet from Left) ≡ x) ⊎ Contains (row n (from + 1) count) x
        → (Contains (row n (from + 1) count) x → (k : ℕ) × (from + 1 ≤ k) × (k < (from + 1) + count) × (x.to ≡ Sharing.inlet k Left))
        → (k : ℕ) × (from ≤ k) × (k < from + suc count) × (x.to ≡ Sharing.inlet k Left)
    go (inl e) ih = (from, omega arith, omega arith, ap (λ (y : Arc). y.to) (sym e))
    go (inr h) ih = let r = ih h in let a = r.1 in let b = r.2 in (r.0, omega (arith, a), omega (arith, b), r.3)

second_dest : (n : ℕ) (i : Instr) (x : Arc) → Contains (arcs_to n true i.seconds) x → ByDest n i x
second_dest n i x c = let r = arcs_to_dest n true i.seconds x c in (r.0, right r.0 r.1, r.2)
  where
    right : (d : Dest) → Contains i.seconds d → Contains (i.firsts ++ i.seconds) d
    right d h = Contains-append_right i.firsts i.seconds d h

either_dest : (n : ℕ) (i : Instr) (x : Arc) → Contains (arcs_to n false i.firsts ++ arcs_to n true i.seconds) x → ByDest n i x
either_dest n i x c = go (Contains-append_cases (arcs_to n false i.firsts) (arcs_to n true i.seconds) x c)
  where
    go : Contains (arcs_to n false i.firsts) x ⊎ Contains (arcs_to n true i.seconds) x → ByDest n i x
    go (inl h) = let r = arcs_to_dest n false i.firsts x h in (r.0, Contains-append_left i.firsts i.seconds r.0 r.1, r.2)
    go (inr h) = second_dest n i x h

link_arc : (p : Plan) (n : ℕ) (i : Instr) (block : ℕ) (x : Arc)
    → Contains (flat_map (λ (d : Dest). row n (n + d.ahead) (landing p block)) i.firsts) x ⊎ Contains (arcs_to n true i.seconds) x
    → ByDest n i x ⊎ ByLanding p n i (Link block) x
link_arc p n i block x (inl h) =
    let r = contains_flat_mapped (λ (d : Dest). row n (n + d.ahead) (landing p block)) i.firsts x h in
    let k = row_back n (n + r.0.ahead) (landing p block) x r.2 in
    inr (block, r.0, k.0, refl, r.1, k.1, k.2, k.3)
link_arc p n i block x (inr h) = inl (second_dest n i x h)

arc_from : (p : Plan) (n : ℕ) (i : Instr) (op : Op) (x : Arc) → Contains (arcs_from p n i op) x → ByDest n i x ⊎ ByLanding p n i op x
arc_from p n i (Link b) x c =
    link_arc p n i b x (Contains-append_cases (flat_map (λ (d : Dest). row n (n + d.ahead) (landing p b)) i.firsts) (arcs_to n true i.seconds) x c)
arc_from p n i op x c = inl (either_dest n i x c)

abbrev FromOne : Plan → ℕ → List Instr → Arc → Type 0
FromOne p n is x = (k : ℕ) × (i : Instr) × (slice_get is k ≡ Some i) × (ByDest (n + k) i x ⊎ ByLanding p (n + k) i i.op x)

arc_of : (p : Plan) (n : ℕ) (is : List Instr) (x : Arc) → Contains (arcs_of p n is) x → FromOne p n is x
arc_of p n [] x c = absurd (contains_none x c)
arc_of p n (i ∷ is) x c = go (Contains-append_cases (arcs_from p n i i.op) (arcs_of p (n + 1) is) x c) (arc_of p (n + 1) is x)
  where
    go : Contains (arcs_from p n i i.op) x ⊎ Contains (arcs_of p (n + 1) is) x → (Contains (arcs_of p (n + 1) is) x → FromOne p (n + 1) is x)
        → FromOne p n (i ∷ is) x
    go (inl h) ih = (0, i, refl, subst (λ m. ByDest m i x ⊎ ByLanding p m i i.op x) (let is_so : n ≡ n + 0 = omega arith in is_so) (arc_from p n i i.op x h))
    go (inr h) ih =
        let r = ih h in
        (suc r.0, r.1, r.2, subst (λ m. ByDest m r.1 x ⊎ ByLanding p m r.1 r.1.op x) (let is_so : (n + 1) + r.0 ≡ n + suc r.0 = omega arith in is_so) r.3)

-- RIGHT PORTS
dyadic_slot : (i : Instr) (op : Op) → is_dyadic op ≡ true
    → (elim (slot_of i op) as (λ x. Bool) [ None ↦ false | Some r ↦ if is_credit op then false else true ]) ≡ true
dyadic_slot i (Apply2 op) h = refl
dyadic_slot i Sync h = refl
dyadic_slot i Switch h = refl
dyadic_slot i (Store a) h = refl
dyadic_slot i (Send b e) h = refl
dyadic_slot i (Return o) h = refl
dyadic_slot i (Ask o) h = refl
dyadic_slot i (Release o) h = refl
dyadic_slot i op h = absurd (cc)

abbrev MeetsAt : List Instr → ℕ → Type 0
MeetsAt is n = (j : Instr) × (slice_get is n ≡ Some j) × (is_dyadic j.op ≡ true)

meets_bytes : (is : List Instr) (n : ℕ) → MeetsAt is n → Bytes.is_dyadic (slice_get is n) ≡ true
meets_bytes is n h = ap Bytes.is_dyadic h.1 ∙ dyadic_slot h.0 h.0.op h.2

-- PARTS. What is in a row, but not first
abbrev is_behind : Block ℕ → Part → Bool
is_behind b Entry = true
is_behind b (Line n) = nat_lt n b.inputs
is_behind b (Landing n (suc j)) = true
is_behind b (CallDone n) = true
is_behind b (Giver n) = true
is_behind b (Taker n) = true
is_behind b (Drainer n) = true
is_behind b r = false

-- has no inlet along a wire
given_behind : (b : Block ℕ) (r : Part) → is_unwired b r ≡ false → is_behind b r ≡ false
given_behind b Entry h = h
given_behind b (Line n) h = h
given_behind b (Landing n zero) h = refl
given_behind b (Landing n (suc j)) h = h
given_behind b (CallDone n) h = h
given_behind b (Giver n) h = h
given_behind b (Taker n) h = h
given_behind b (Drainer n) h = h
given_behind b r h = refl

landing_behind : (b : Block ℕ) (n j : ℕ) → 0 < j → is_behind b (Landing n j) ≡ true
landing_behind b n zero l = absurd (omega (arith, l))
landing_behind b n (suc j) l = refl

line_links_not : (o : Option (Node ℕ)) (k : ℕ) → elim o as (λ x. Op) [ None ↦ Op.Copy | Some line ↦ kind_op line.kind ] ≡ Link k → ⊥
line_links_not None k e = absurd (cc)
line_links_not (Some line) k e = by_kind line.kind e
  where
    by_kind : (kind : Kind ℕ) → kind_op kind ≡ Link k → ⊥
    by_kind (Kind.Lit z) e = absurd (cc)
    by_kind (Kind.Apply1 op) e = absurd (cc)
    by_kind (Kind.Apply2 op) e = absurd (cc)
    by_kind (Kind.Fetch a) e = absurd (cc)
    by_kind (Kind.Store a) e = absurd (cc)
    by_kind kind e = absurd (cc)

-- a link is a linker's
linker_of : (v : ℕ → ℕ) (s : Site) (k : ℕ) (r : Part) → op_of v s r ≡ Link k → (n : ℕ) × (r ≡ Linker n) × (callee_code v s.block n ≡ k)
linker_of v s k (Linker n) e = (n, refl, cc)
linker_of v s k (Line n) e = absurd (line_links_not (node_at s.block n) k e)
linker_of v s k r e = absurd (cc)

-- HOW LONG LANDINGS ARE
abbrev LineOf : (Kind ℕ → Bool) → Block ℕ → ℕ → Type 0
LineOf test b n = (line : Node ℕ) × (node_at b n ≡ Some line) × (test line.kind ≡ true)

line_of : (test : Kind ℕ → Bool) (b : Block ℕ) (n : ℕ) → is_kind test b n ≡ true → LineOf test b n
line_of test b n h = go (node_at b n) refl h
  where
    go : (o : Option (Node ℕ)) → node_at b n ≡ o → elim o as (λ x. Bool) [ None ↦ false | Some line ↦ test line.kind ] ≡ true → LineOf test b n
    go None e h = absurd (cc)
    go (Some line) e h = (line, e, h)

call_names : (fl : Flow) (v : ℕ → ℕ) (m : ℕ) (k : Kind ℕ) → Blocks.call_kind k ≡ true → Takes fl k m
    → (f : ℕ) × IsCallee fl f m × (code_called v k ≡ f) × (kind_results fl m k ≡ outputs_in (slice_get fl.blocks f))
call_names fl v m (Kind.Call f) h t = (f, t, refl, refl)
call_names fl v m (Kind.StrictCall f) h t = (f, t, refl, refl)
call_names fl v m k h t = absurd (cc)

loop_names : (fl : Flow) (v : ℕ → ℕ) (m : ℕ) (k : Kind ℕ) → Blocks.loop_kind k ≡ true → Takes fl k m
    → (f : ℕ) × IsCallee fl f m × (code_called v k ≡ v f) × (kind_results fl m k ≡ m) × (loops_to f k ≡ true)
loop_names fl v m (Kind.Loop f d) h t = (f, t.0, refl, refl, eq-eqb f f refl)
loop_names fl v m k h t = absurd (cc)

pub plain_outputs : (v : ℕ) (bs : List (Block ℕ)) (vars : List ℕ) (n : ℕ) (b : Block ℕ) → (plain_code v bs vars n b).code.outputs ≡ b.outputs
unfolding plain_code
plain_outputs v bs vars n b = refl

variant_inputs : (v : ℕ) (bs : List (Block ℕ)) (vars : List ℕ) (n : ℕ) (b : Block ℕ) → (variant_code v bs vars n b).code.inputs ≡ b.inputs
unfolding variant_code
variant_inputs v bs vars n b = refl

module _ (g : Graph) (text : HasText g) (well : WellFormed g) where
  abbrev fl : Flow
  fl = flow_of g

  abbrev plan : Plan
  plan = expanded (flow_of g)

  abbrev v : ℕ → ℕ
  v = variant_in (flow_of g)

  plain_landing : (f : ℕ) (b : Block ℕ) → slice_get fl.blocks f ≡ Some b → landing plan f ≡ b.outputs + 1
  plain_landing f b e =
      ap (λ t. landing_in t (slice_get plan.program.blocks f)) (lt-ltb f (length fl.blocks) (slice_get_within fl.blocks f b e))
      ∙ ap (landing_in true) (plain_at fl.version fl.blocks f b e) ∙ ap (λ k. k + 1) (plain_outputs fl.version fl.blocks (variants_of fl.blocks) f b)

  turn_landing : (f : ℕ) (b : Block ℕ) → slice_get fl.blocks f ≡ Some b → is_looped fl f ≡ true → landing plan (v f) ≡ b.inputs + 3
  turn_landing f b e l =
      ap (λ t. landing_in t (slice_get plan.program.blocks (v f))) (le-ltb (v f) (length fl.blocks) ((codes_are_there g well).others f b e l))
      ∙ ap (landing_in false) (variant_at fl.version fl.blocks f b e (same_looped fl f ∙ l))
      ∙ ap (λ k. k + 3) (variant_inputs fl.version fl.blocks (variants_of fl.blocks) f b)

  -- A CODE BLOCK
  module _ (c : CodeBlock) (x : IsRead (flow_of g) c) where
    abbrev s : Site
    s = x.site

    abbrev b : Block ℕ
    b = x.site.block

    abbrev place : Part → ℕ
    place r = x.wiring.place r

    abbrev IsThere : Part → Type 0
    IsThere r = there_in (flow_of g) x.site x.wiring r ≡ true

    abbrev Lands : ℕ → ℕ → Type 0
    Lands n k = (0 < result_count fl b n) × (landing plan (callee_code v b n) ≡ result_count fl b n + k)

    results_of : (n : ℕ) (line : Node ℕ) → node_at b n ≡ Some line → result_count fl b n ≡ kind_results fl (length line.sources) line.kind
    results_of n line e = ap (λ (o : Option (Node ℕ)). elim o as (λ x. ℕ) [ None ↦ 0 | Some y ↦ kind_results fl (length y.sources) y.kind ]) e

    callee_of : (n : ℕ) (line : Node ℕ) → node_at b n ≡ Some line → callee_code v b n ≡ code_called v line.kind
    callee_of n line e = ap (λ (o : Option (Node ℕ)). elim o as (λ x. ℕ) [ None ↦ 0 | Some y ↦ code_called v y.kind ]) e

    call_lands : (n : ℕ) → is_call b n ≡ true → Lands n 1
    call_lands n h =
        let line = line_of Blocks.call_kind b n h in
        let names = call_names fl v (length line.0.sources) line.0.kind line.2 (x.fit.nodes n line.0 line.1).takes in
        let results : result_count fl b n ≡ names.1.block.outputs = results_of n line.0 line.1 ∙ names.3 ∙ ap outputs_in names.1.there in
        let some = names.1.some_output in (
          omega (arith, results, some),
          ap (landing plan) (callee_of n line.0 line.1 ∙ names.2) ∙ plain_landing names.0 names.1.block names.1.there
              ∙ ap (λ k. k + 1) (sym results),
        )

    loop_lands : (n : ℕ) → is_loop b n ≡ true → Lands n 3
    loop_lands n h =
        let line = line_of Blocks.loop_kind b n h in
        let names = loop_names fl v (length line.0.sources) line.0.kind line.2 (x.fit.nodes n line.0 line.1).takes in
        let results : result_count fl b n ≡ length line.0.sources = results_of n line.0 line.1 ∙ names.3 in
        let looped = body_is_looped fl s.number n names.0 b line.0 x.there line.1 names.4 in
        let some = names.1.some_input in (
          omega (arith, results, some),
          ap (landing plan) (callee_of n line.0 line.1 ∙ names.2) ∙ turn_landing names.0 names.1.block names.1.there looped
              ∙ ap (λ k. k + 3) (names.1.takes ∙ sym results),
        )

    some_landing : (n : ℕ) → invokes b n ≡ true → 0 < result_count fl b n
    some_landing n h =
        elim (or_cases (is_call b n) (is_loop b n) h) as (λ y. 0 < result_count fl b n) [ inl t ↦ (call_lands n t).0 | inr t ↦ (loop_lands n t).0 ]

    landing_there : (n j : ℕ) → invokes b n ≡ true → j < result_count fl b n → IsThere (Landing n j)
    landing_there n j h l = ap (λ t. t && nat_lt j (result_count fl b n)) h ∙ lt-ltb j (result_count fl b n) l

    -- what is in a landing
    record InRow (n j : ℕ) : Type 0 where
      part : Part
      there : IsThere part
      at : place part ≡ place (Landing n 0) + j
      row : is_row (op_of v x.site part) ≡ true
      behind : 0 < j → is_behind b part ≡ true

    result_row : (n j : ℕ) → invokes b n ≡ true → j < result_count fl b n → InRow n j
    result_row n j h l =
        let there = landing_there n j h l in
        record { part = Landing n j; there = there; at = x.laid.landing n j there; row = refl; behind = λ k. landing_behind b n j k }

    call_row : (n j : ℕ) → is_call b n ≡ true → invokes b n ≡ true → j < result_count fl b n + 1 → InRow n j
    call_row n j t h l = go (cases_lt j (result_count fl b n))
      where
        go : (j < result_count fl b n) ⊎ (result_count fl b n ≤ j) → InRow n j
        go (inl k) = result_row n j h k
        go (inr k) =
            let at = x.laid.call_done n t in
            record { part = CallDone n; there = t; at = omega (arith, at, k, l); row = refl; behind = λ z. refl }

    loop_row : (n j : ℕ) → is_loop b n ≡ true → invokes b n ≡ true → j < result_count fl b n + 3 → InRow n j
    loop_row n j t h l = go (cases_lt j (result_count fl b n)) (cases_lt j (result_count fl b n + 1)) (cases_lt j (result_count fl b n + 2))
      where
        go : (j < result_count fl b n) ⊎ (result_count fl b n ≤ j) → (j < result_count fl b n + 1) ⊎ (result_count fl b n + 1 ≤ j)
            → (j < result_count fl b n + 2) ⊎ (result_count fl b n + 2 ≤ j) → InRow n j
        go (inl k) y z = result_row n j h k
        go (inr k) (inl y) z =
            let at = (x.laid.credits n t).0 in record { part = Giver n; there = t; at = omega (arith, at, k, y); row = refl; behind = λ i. refl }
        go (inr k) (inr y) (inl z) =
            let at = (x.laid.credits n t).0 in
            let next = (x.laid.credits n t).1 in
            record { part = Taker n; there = t; at = omega (arith, at, next, y, z); row = refl; behind = λ i. refl }
        go (inr k) (inr y) (inr z) =
            let at = (x.laid.credits n t).0 in
            let next = (x.laid.credits n t).2 in
            record { part = Drainer n; there = t; at = omega (arith, at, next, z, l); row = refl; behind = λ i. refl }

    in_row : (n j : ℕ) → invokes b n ≡ true → j < landing plan (callee_code v b n) → InRow n j
    in_row n j h l =
        elim (or_cases (is_call b n) (is_loop b n) h) as (λ y. InRow n j) [
          | inl t ↦ (let long = (call_lands n t).1 in call_row n j t h (omega (arith, l, long)))
          | inr t ↦ (let long = (loop_lands n t).1 in loop_row n j t h (omega (arith, l, long)))
        ]

    -- INLETS
    record Target (y : Inlet) : Type 0 where
      there : IsThere y.part
      first : is_behind b y.part ≡ false
      right : y.port ≡ Right → waits_in b y.part ≡ true

    left : (r : Part) → Left ≡ Right → waits_in b r ≡ true
    left r e = absurd (cc)

    only : (z y : Inlet) → Target z → Contains (z ∷ []) y → Target y
    only z y t k = elim (contains_cases z [] y k) as (λ u. Target y) [ inl e ↦ subst Target e t | inr none ↦ absurd (contains_none y none) ]

    answer_target : (r : Part) (y : Inlet) → IsThere r → Contains (answered_at r) y → Target y
    answer_target (Framer n) y h k = only (inlet (Fanned n) Left 0) y (record { there = h; first = refl; right = left (Fanned n) }) k
    answer_target (Linker n) y h k =
        only (inlet (Landing n 0) Left 0) y (record { there = landing_there n 0 h (some_landing n h); first = refl; right = left (Landing n 0) }) k
    answer_target (Giver n) y h k = only (inlet (LoopDone n) Left 0) y (record { there = h; first = refl; right = left (LoopDone n) }) k
    answer_target (Drainer n) y h k = only (inlet (LoopDone n) Left 0) y (record { there = h; first = refl; right = left (LoopDone n) }) k
    answer_target NextFramer y h k = only (inlet NextFanned Left 0) y (record { there = h; first = refl; right = left NextFanned }) k
    answer_target Asker y h k = only (inlet NextFramer Left 0) y (record { there = h; first = refl; right = left NextFramer }) k
    answer_target r y h k = absurd (contains_none y k)

    wire_target : (t : Side) (y : Inlet) → IsThere t.part → Contains (x.wiring.wire t) y → Target y
    wire_target t y h k =
        let f = x.fed.inlets t y h k in
        record { there = f.0; first = given_behind b y.part f.3; right = λ q. subst (λ p. wired_port b y.part p ≡ true) q f.2 }

    target : (t : Side) (y : Inlet) → IsThere t.part → Contains (answered_at t.part ++ x.wiring.wire t) y → Target y
    target t y h k =
        elim (Contains-append_cases (answered_at t.part) (x.wiring.wire t) y k) as (λ u. Target y)
        [ inl a ↦ answer_target t.part y h a | inr a ↦ wire_target t y h a ]

    -- past the entries
    past : (r : Part) → IsThere r → is_behind b r ≡ false → b.inputs < place r
    past r h f = go (cases_lt b.inputs (place r))
      where
        same : (q : Part) → r ≡ q → is_behind b q ≡ true → ⊥
        same q e t = let u = ap (is_behind b) e in absurd (cc)

        at_entry : (k : ℕ) → place r ≡ k → k ≤ b.inputs → ⊥
        at_entry zero e l = same Entry (x.laid.apart r Entry h refl (e ∙ sym x.laid.entry)) refl
        at_entry (suc k) e l =
            let low : k < b.inputs = omega (arith, l) in
            let at = x.laid.entries k low in
            let is : nat_lt k b.inputs ≡ true = lt-ltb k b.inputs low in
            let there : IsThere (Line k) = ap (λ t. t || is_kind Blocks.plain_kind b k) is in
            same (Line k) (x.laid.apart r (Line k) h there (omega (arith, e, at))) is

        go : (b.inputs < place r) ⊎ (place r ≤ b.inputs) → b.inputs < place r
        go (inl l) = l
        go (inr l) = absurd (at_entry (place r) refl l)

    -- INSTRUCTIONS. The inlet of a destination
    abbrev Standing : ℕ → Instr → Type 0
    Standing n i = Stands (flow_of g) x.site x.wiring n i

    record Reaches (n : ℕ) (r : Part) (second : Bool) (d : Dest) : Type 0 where
      to : Inlet
      named : Contains (answered_at r ++ x.wiring.wire (side r second)) to
      at : leads_to n d ≡ ip_and_port x.wiring to

    first_reaches : (n : ℕ) (i : Instr) (d : Dest) (h : Standing n i) → Contains i.firsts d → Reaches n h.part false d
    first_reaches n i d h k =
        let f : Dest → ℕ × Port = leads_to (place h.part) in
        let ys : List Inlet = answered_at h.part ++ x.wiring.wire (side h.part false) in
        let y = contains_mapped (ip_and_port x.wiring) ys (f d)
        (Contains-permutation (map f i.firsts) (map (ip_and_port x.wiring) ys) (f d) h.is.firsts (contains_map f i.firsts d k)) in
        record { to = y.0; named = y.1; at = ap (λ m. leads_to m d) (sym h.at) ∙ sym y.2 }

    second_reaches : (n : ℕ) (i : Instr) (d : Dest) (h : Standing n i) → Contains i.seconds d → Reaches n h.part true d
    second_reaches n i d h k =
        let f : Dest → ℕ × Port = leads_to (place h.part) in
        let ys : List Inlet = x.wiring.wire (side h.part true) in
        let y = contains_mapped (ip_and_port x.wiring) ys (f d)
        (Contains-permutation (map f i.seconds) (map (ip_and_port x.wiring) ys) (f d) h.is.seconds (contains_map f i.seconds d k)) in
        record { to = y.0; named = Contains-append_right (answered_at h.part) ys y.0 y.1; at = ap (λ m. leads_to m d) (sym h.at) ∙ sym y.2 }

    -- a destination lies ahead, and is an inlet
    record Leads (n : ℕ) (d : Dest) : Type 0 where
      to : Inlet
      target : Target to
      place_is : n + d.ahead ≡ place to.part
      port_is : d.port ≡ to.port
      later : n < place to.part

    leads_by : (n : ℕ) (i : Instr) (d : Dest) (second : Bool) (h : Standing n i) → Reaches n h.part second d → Leads n d
    leads_by n i d second h r = record {
      to = r.to;
      target = target (side h.part second) r.to h.there r.named;
      place_is = ap (λ (z : ℕ × Port). z.0) r.at;
      port_is = ap (λ (z : ℕ × Port). z.1) r.at;
      later = let low = x.leads.forward (side h.part second) r.to h.there r.named in let at = h.at in omega (arith, low, at);
    }

    leads : (n : ℕ) (i : Instr) (d : Dest) → IsInstrAt c n i → Contains (i.firsts ++ i.seconds) d → Leads n d
    leads n i d e k =
        let h = stands (flow_of g) c x n i e in
        elim (Contains-append_cases i.firsts i.seconds d k) as (λ u. Leads n d)
        [ inl a ↦ leads_by n i d false h (first_reaches n i d h a) | inr a ↦ leads_by n i d true h (second_reaches n i d h a) ]

    meets : (n : ℕ) (d : Dest) → Leads n d → d.port ≡ Right → MeetsAt c.instrs (n + d.ahead)
    meets n d l q =
        let here = x.laid.here l.to.part l.target.there in
        (here.0, ap (slice_get c.instrs) l.place_is ∙ here.1, ap is_dyadic here.2.op ∙ waits_dyadic v s l.to.part (l.target.right (sym l.port_is ∙ q)))

    -- LANDINGS
    record LandsAt (m block : ℕ) (d : Dest) : Type 0 where
      node : ℕ
      invoked : invokes b node ≡ true
      callee : callee_code v b node ≡ block
      at : leads_to m d ≡ ip_and_port x.wiring (inlet (Landing node 0) Left 0)

    lands_at : (m block : ℕ) (i : Instr) (d : Dest) → IsInstrAt c m i → i.op ≡ Link block → Contains i.firsts d → LandsAt m block d
    lands_at m block i d e op k =
        let h = stands (flow_of g) c x m i e in
        let l = linker_of v s block h.part (sym h.is.op ∙ op) in
        let r = subst (λ q. Reaches m q false d) l.1 (first_reaches m i d h k) in
        let alone = subst (λ ys. Contains (answered_at (Linker l.0) ++ ys) r.to) (x.fed.sides (side (Linker l.0) false) (inr refl)) r.named in
        let same = elim (contains_cases (inlet (Landing l.0 0) Left 0) [] r.to alone) as (λ u. inlet (Landing l.0 0) Left 0 ≡ r.to)
        [ inl a ↦ a | inr none ↦ absurd (contains_none r.to none) ] in
        record { node = l.0; invoked = subst IsThere l.1 h.there; callee = l.2; at = r.at ∙ ap (ip_and_port x.wiring) (sym same) }

    -- the part at a place of a landing
    landed : (m block k : ℕ) (d : Dest) (l : LandsAt m block d) → m + d.ahead ≤ k → k < m + d.ahead + landing plan block
        → InRow l.node (k - place (Landing l.node 0))
    landed m block k d l from below =
        let at : m + d.ahead ≡ place (Landing l.node 0) = ap (λ (z : ℕ × Port). z.0) l.at in
        let long = ap (landing plan) l.callee in
        in_row l.node (k - place (Landing l.node 0)) l.invoked (omega (arith, at, long, from, below))

    not_tied : (k : ℕ) (r : Part) → IsThere r → is_behind b r ≡ false → place r ≡ suc k → IsTied plan c k → ⊥
    not_tied k r h f e (inl low) = let a = past r h f in let inputs = x.laid.inputs in omega (arith, a, e, low, inputs)
    not_tied k r h f e (inr (m, t)) =
        let l = lands_at m t.block t.link t.dest t.there t.links t.named in
        let at : m + t.dest.ahead ≡ place (Landing l.node 0) = ap (λ (z : ℕ × Port). z.0) l.at in
        let from = t.from in
        let to = t.to in
        let row = landed m t.block (suc k) t.dest l (omega (arith, from)) (omega (arith, to)) in
        let its = row.at in
        let same = ap (is_behind b) (x.laid.apart r row.part h row.there (omega (arith, e, its, at, from))) in
        let behind = row.behind (omega (arith, at, from)) in
        absurd (cc)

    dest_sound : (n : ℕ) (i : Instr) (d : Dest) → IsInstrAt c n i → Contains (i.firsts ++ i.seconds) d → IsSoundDest plan c n d
    dest_sound n i d e k =
        let l = leads n i d e k in
        let here = x.laid.here l.to.part l.target.there in
        let within = slice_get_within c.instrs (place l.to.part) here.0 here.1 in
        let at = l.place_is in
        let later = l.later in
        let over = past l.to.part l.target.there l.target.first in
        let inputs = x.laid.inputs in
        let last : ℕ = place l.to.part - 1 in
        record {
          dest =
              record {
                later = omega (arith, at, later);
                inside = omega (arith, at, within);
                right = λ q. meets_bytes c.instrs (n + d.ahead) (meets n d l q);
              };
          past = omega (arith, at, over, inputs);
          apart = (last, omega (arith, later), omega (arith, at, later), not_tied last l.to.part l.target.there l.target.first (omega (arith, later)));
        }

    lands_left : (n : ℕ) (i : Instr) (op : Op) → IsInstrAt c n i → i.op ≡ op → LandsLeft op i.firsts
    lands_left n i (Link block) there same =
        All-weaker (Contains i.firsts) (λ (d : Dest). d.port ≡ Left) (λ d q. ap (λ (z : ℕ × Port). z.1) (lands_at n block i d there same q).at) i.firsts
        (All-contains_itself i.firsts)
    lands_left n i op there same = tt

    landing_stands : (m k block : ℕ) (i : Instr) (d : Dest) → IsInstrAt c m i → i.op ≡ Link block → Contains i.firsts d → m + d.ahead ≤ k
        → k < m + d.ahead + landing plan block → (j : Instr) × IsInstrAt c k j × (is_row j.op ≡ true)
    landing_stands m k block i d there links named from below =
        let l = lands_at m block i d there links named in
        let at : m + d.ahead ≡ place (Landing l.node 0) = ap (λ (z : ℕ × Port). z.0) l.at in
        let row = landed m block k d l from below in
        let here = x.laid.here row.part row.there in
        let its = row.at in
        let same : k ≡ place row.part = omega (arith, its, at, from) in
        (here.0, ap (slice_get c.instrs) same ∙ here.1, ap is_row here.2.op ∙ row.row)

    arc_past : (k : ℕ) (i : Instr) (y : Arc) → IsInstrAt c k i → ByDest k i y ⊎ ByLanding plan k i i.op y → c.inputs < y.to.place
    arc_past k i y there (inl (d, named, to)) =
        let a = (dest_sound k i d there named).past in
        let e : y.to.place ≡ k + d.ahead = ap (λ (q : Sharing.Inlet). q.place) to in
        omega (arith, a, e)
    arc_past k i y there (inr (block, d, m, op, named, from, below, to)) =
        let a = (dest_sound k i d there (Contains-append_left i.firsts i.seconds d named)).past in
        let e : y.to.place ≡ m = ap (λ (q : Sharing.Inlet). q.place) to in
        omega (arith, a, e, from)

    arc_right : (k : ℕ) (i : Instr) (y : Arc) → IsInstrAt c k i → y.to.port ≡ Right → ByDest k i y ⊎ ByLanding plan k i i.op y → MeetsAt c.instrs y.to.place
    arc_right k i y there right (inl (d, named, to)) =
        subst (MeetsAt c.instrs) (sym (ap (λ (q : Sharing.Inlet). q.place) to))
        (meets k d (leads k i d there named) (sym (ap (λ (q : Sharing.Inlet). q.port) to) ∙ right))
    arc_right k i y there right (inr (block, d, m, op, named, from, below, to)) = let e = ap (λ (q : Sharing.Inlet). q.port) to in absurd (cc)

    has_sizes : IsSmallBlock b → HasSizes c
    has_sizes small =
        let p = x.laid.inputs in
        let q = x.laid.outputs in
        let t = x.fit.some_input in
        let u = x.fit.some_output in
        let few = small.inputs in
        let fewer = small.outputs in
        let last : ℕ = b.inputs - 1 in
        let low : last < b.inputs = omega (arith, t) in
        let here = x.laid.here (Line last) (ap (λ z. z || is_kind Blocks.plain_kind b last) (lt-ltb last b.inputs low)) in
        let within = slice_get_within c.instrs (place (Line last)) here.0 here.1 in
        let at = x.laid.entries last low in
        record {
          inputs = (omega (arith, p, t), omega (arith, p, few));
          outputs = (omega (arith, q, u), omega (arith, q, fewer));
          size = omega (arith, p, within, at, t);
        }

  -- ALL OF THEM
  from_zero : (A : ℕ → Type 0) (k : ℕ) → A (0 + k) → A k
  from_zero A k h = subst A (let is_so : 0 + k ≡ k = omega arith in is_so) h

  abbrev read : (n : ℕ) (c : CodeBlock) → slice_get (expanded (flow_of g)).program.blocks n ≡ Some c → IsRead (flow_of g) c
  read n c e = code_read g well n c e

  dests_sound : DestsAreSound (expanded (flow_of g))
  dests_sound b n c d h = dest_sound c (read b c h.block) n h.i d h.there h.named

  arcs_pass_entries : ArcsPassEntries (expanded (flow_of g))
  arcs_pass_entries b c y e h =
      let r = arc_of plan 0 c.instrs y h in
      arc_past c (read b c e) r.0 r.1 y r.2 (from_zero (λ m. ByDest m r.1 y ⊎ ByLanding plan m r.1 r.1.op y) r.0 r.3)

  right_arcs_meet : RightArcsMeet (expanded (flow_of g))
  right_arcs_meet b c y e h right =
      let r = arc_of plan 0 c.instrs y h in
      arc_right c (read b c e) r.0 r.1 y r.2 right (from_zero (λ m. ByDest m r.1 y ⊎ ByLanding plan m r.1 r.1.op y) r.0 r.3)

  all_sound : ArcsAreSound (expanded (flow_of g))
  all_sound = record {
    dests = dests_sound;
    lefts = λ b n c i e there. lands_left c (read b c e) n i i.op there refl;
    entries = arcs_pass_entries;
    rights = right_arcs_meet;
    landings = λ b m k block c i d e there links named from below. landing_stands c (read b c e) m k block i d there links named from below;
  }

  all_sizes : BlocksHaveSizes (expanded (flow_of g))
  all_sizes = record {
    each = λ n c e.
        let x = read n c e in
        has_sizes c x (all_at IsSmallBlock (flow_of g).blocks x.site.number x.site.block (small_flow g well text).small x.there);
  }

pub arcs_go_forward : (g : Graph) → HasText g → WellFormed g → ArcsAreSound (expanded (flow_of g))
arcs_go_forward g text well = all_sound g text well

pub plans_have_sizes : (g : Graph) → HasText g → WellFormed g → BlocksHaveSizes (expanded (flow_of g))
plans_have_sizes g text well = all_sizes g text well
