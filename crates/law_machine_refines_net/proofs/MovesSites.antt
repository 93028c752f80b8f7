-- The code of each context, and the instruction of each of its parts.
use Rattle.std.proofs.Common.{◌≡◌, ℕ, ◌-◌, Bool, true, false, [], map, refl, sym, ap, ◌∙◌, subst, arith, true≢false, Option, Some, None, nat_lt, lt-ltb, eq-eqb}
use Rattle.std.proofs.Common.{if◌then◌else◌, sum, cond}
use Rattle.std.specs.Prelude.{slice_get, count_by}
use Rattle.std.proofs.lemmas.List.Sums.{sum-map}
use Rattle.lemmas.proofs.Sums.{one_of_sum}
use Rattle.semantics.specs.declared.graph.Kind.{Kind}
use Rattle.semantics.specs.declared.graph.Kind.TheVariants.{Loop}
use Rattle.semantics.specs.Graph.{Node, Block, Flow, node_at}
use Rattle.semantics.specs.Meaning.{Context, Main, Called, Turned, block_number, block_numbered, callee, callee_of, callee_in}
use Rattle.semantics.specs.Cause.{is_looped, loops_to}
use Rattle.semantics.specs.Program.{Instr, instr_at}
use Rattle.semantics.specs.Plan.{Plan}
use Rattle.semantics.proofs.Lines.{block_is_there}
use Rattle.law_reuse.proofs.SlotsPlaced.{IsPlaced, stands_at}
use Rattle.law_net.specs.ContextsParts.{Part, Asked, NextAsked, InCell, Drained, Shown, Done, Freed}
use Rattle.law_net.specs.ContextsBlocks.{Site, Wiring, there_in, is_kind, is_loop, loop_kind}
use Rattle.law_net.specs.Contexts.{Wires, or_zero, or_none, no_block, code_in, site_in, wiring_in, IsContext}
use Rattle.law_net.specs.ContextsWires.{IsWiredCode, AreWiredBy, Runs, IsInstr}
use Rattle.law_net.specs.ContextsLaws.{spot_there}
use Rattle.law_net.specs.ContextsMirror.{ip_of, is_instr}

-- A LOOP'S BLOCK IS LOOPED
node_within : (b : Block ℕ) (n : ℕ) (line : Node ℕ) → node_at b n ≡ Some line → (i : ℕ) × (slice_get b.nodes i ≡ Some line)
node_within b n line e = go (nat_lt n b.inputs) e
  where
    go : (t : Bool) → (if t then None else slice_get b.nodes (n - b.inputs)) ≡ Some line → (i : ℕ) × (slice_get b.nodes i ≡ Some line)
    go true e = absurd (cc)
    go false e = (n - b.inputs, e)

abbrev as_one : Bool → ℕ
as_one t = cond t 1 0

counted : (fl : Flow) (f j i : ℕ) (b : Block ℕ) (line : Node ℕ) → slice_get fl.blocks j ≡ Some b → slice_get b.nodes i ≡ Some line → loops_to f line.kind ≡ true
    → is_looped fl f ≡ true
counted fl f j i b line at there loops =
    let in_block = one_of_sum (λ (n : Node ℕ). cond (loops_to f n.kind) 1 0) b.nodes i line there in
    let one : as_one (loops_to f line.kind) ≡ 1 = ap as_one loops in
    let in_flow = one_of_sum (λ (b : Block ℕ). count_by (λ (n : Node ℕ). loops_to f n.kind) b.nodes) fl.blocks j b at in
    let s = sum-map (λ (b : Block ℕ). count_by (λ (n : Node ℕ). loops_to f n.kind) b.nodes) fl.blocks in
    lt-ltb 0 (sum (map (λ (b : Block ℕ). count_by (λ (n : Node ℕ). loops_to f n.kind) b.nodes) fl.blocks)) (omega (arith, in_block, one, in_flow, s))

abbrev no_node : Option (Node ℕ)
no_node = None

-- what is no block has no node
pub no_kind : (test : Kind ℕ → Bool) (n : ℕ) → is_kind test no_block n ≡ false
no_kind test n = ap (λ (x : Option (Node ℕ)). elim x as (λ y. Bool) [ None ↦ false | Some line ↦ test line.kind ]) (none (nat_lt n 0))
  where
    none : (t : Bool) → (if t then no_node else slice_get [] (n - 0)) ≡ no_node
    none true = refl
    none false = refl

-- the block that a loop runs is looped
turn_looped : (fl : Flow) (o : Option ℕ) (n : ℕ) → is_loop (or_none (block_numbered fl o)) n ≡ true
    → is_looped fl (or_zero (callee_in (block_numbered fl o) n)) ≡ true
turn_looped fl o n e = by_block (block_numbered fl o) refl e
  where
    by_kind : (j : ℕ) (b : Block ℕ) (line : Node ℕ) (k : Kind ℕ) → slice_get fl.blocks j ≡ Some b → node_at b n ≡ Some line → line.kind ≡ k → loop_kind k ≡ true
        → is_looped fl (or_zero (callee_of (Some line))) ≡ true
    by_kind j b line (Loop f k) at here kind e =
        let r = node_within b n line here in
        let c : or_zero (callee_of (Some line)) ≡ f = ap (λ k. or_zero (callee k)) kind in
        subst (λ f. is_looped fl f ≡ true) (sym c) (counted fl f j r.0 b line at r.1 (ap (loops_to f) kind ∙ eq-eqb f f refl))
    by_kind j b line k at here kind e = absurd (true≢false (sym e))

    by_node : (j : ℕ) (b : Block ℕ) → slice_get fl.blocks j ≡ Some b → (x : Option (Node ℕ)) → node_at b n ≡ x
        → elim x as (λ y. Bool) [ None ↦ false | Some line ↦ loop_kind line.kind ] ≡ true → is_looped fl (or_zero (callee_of x)) ≡ true
    by_node j b at None here e = absurd (true≢false (sym e))
    by_node j b at (Some line) here e = by_kind j b line line.kind at here refl e

    by_block : (x : Option (Block ℕ)) → block_numbered fl o ≡ x → is_loop (or_none x) n ≡ true → is_looped fl (or_zero (callee_in x n)) ≡ true
    by_block None at e = absurd (true≢false (sym e ∙ no_kind loop_kind n))
    by_block (Some b) at e = let k = block_is_there fl o b at in by_node k.0 b k.2 (node_at b n) refl e

-- EACH CONTEXT'S CODE IS WIRED
module _ (fl : Flow) (p : Plan) (w : Wires) (wired : AreWiredBy fl p w) where
  abbrev pub Coded : Context → Type 0
  Coded c = IsWiredCode fl p w.variant (Runs fl w (code_in fl w c)) (site_in fl w c) (wiring_in fl w c)

  at_plain : (o : Option ℕ) (b : Block ℕ) → block_numbered fl o ≡ Some b
      → IsWiredCode fl p w.variant (Runs fl w (or_zero o))
      (record { block = or_none (block_numbered fl o); number = or_zero o; turns = false; own = or_zero o }) (w.wiring (or_zero o))
  at_plain None b e = absurd (cc)
  at_plain (Some i) b e =
      subst (λ (x : Option (Block ℕ)). IsWiredCode fl p w.variant (Runs fl w i) (record { block = or_none x; number = i; turns = false; own = i }) (w.wiring i))
      (sym e) (wired.plain i b e)

  at_turn : (o : Option ℕ) (b : Block ℕ) → block_numbered fl o ≡ Some b → is_looped fl (or_zero o) ≡ true
      → IsWiredCode fl p w.variant (Runs fl w (w.variant (or_zero o)))
      (record { block = or_none (block_numbered fl o); number = or_zero o; turns = true; own = w.variant (or_zero o) }) (w.wiring (w.variant (or_zero o)))
  at_turn None b e l = absurd (cc)
  at_turn (Some i) b e l =
      subst (λ (x : Option (Block ℕ)). IsWiredCode fl p w.variant (Runs fl w (w.variant i))
      (record { block = or_none x; number = i; turns = true; own = w.variant i }) (w.wiring (w.variant i))) (sym e) (wired.turns i b e l)

  pub coded : (c : Context) → IsContext fl c → Coded c
  coded Main h = at_plain (Some fl.main) h.0 h.1
  coded (Called c n) h = at_plain (block_number fl (Called c n)) h.2.0 h.2.1
  coded (Turned c n i) h = at_turn (block_number fl (Turned c n i)) h.2.0 h.2.1 (turn_looped fl (block_number fl c) n h.1)

  -- the instruction of a part
  pub record Seated (c : Context) (r : Part) : Type 0 where
    pub instr : Instr
    pub stands : IsPlaced p.program (code_in fl w c) ((wiring_in fl w c).place r) instr
    pub at : instr_at p.program (ip_of fl p w c r) ≡ Some instr
    pub is : IsInstr fl p w.variant (site_in fl w c) (wiring_in fl w c) r instr

  pub seated : (c : Context) (r : Part) → IsContext fl c → there_in fl (site_in fl w c) (wiring_in fl w c) r ≡ true → Seated c r
  seated c r h there =
      let k = coded c h in let i = k.laid.here r there in
      let s : IsPlaced p.program (code_in fl w c) ((wiring_in fl w c).place r) i.0 = record { code = k.code; block = k.there; instr = i.1 } in
      record { instr = i.0; stands = s; at = stands_at p.program (code_in fl w c) ((wiring_in fl w c).place r) i.0 s; is = i.2 }

-- PARTS. What is there has an instruction, and what has one is there
pub there_instr : (fl : Flow) (s : Site) (w : Wiring) (r : Part) → there_in fl s w r ≡ true → is_instr r ≡ true
there_instr fl s w (Asked n) e = absurd (true≢false (sym e))
there_instr fl s w NextAsked e = absurd (true≢false (sym e))
there_instr fl s w (InCell n) e = absurd (true≢false (sym e))
there_instr fl s w (Drained n) e = absurd (true≢false (sym e))
there_instr fl s w (Shown j) e = absurd (true≢false (sym e))
there_instr fl s w Done e = absurd (true≢false (sym e))
there_instr fl s w Freed e = absurd (true≢false (sym e))
there_instr fl s w r e = refl

pub spot_instr : (fl : Flow) (w : Wires) (c : Context) (r : Part) → is_instr r ≡ true → spot_there fl w c r ≡ true
    → there_in fl (site_in fl w c) (wiring_in fl w c) r ≡ true
spot_instr fl w c (Asked n) i e = absurd (true≢false (sym i))
spot_instr fl w c NextAsked i e = absurd (true≢false (sym i))
spot_instr fl w c (InCell n) i e = absurd (true≢false (sym i))
spot_instr fl w c (Drained n) i e = absurd (true≢false (sym i))
spot_instr fl w c (Shown j) i e = absurd (true≢false (sym i))
spot_instr fl w c Done i e = absurd (true≢false (sym i))
spot_instr fl w c Freed i e = absurd (true≢false (sym i))
spot_instr fl w c r i e = e
