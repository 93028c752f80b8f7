-- What a call or a loop invokes, and the code of every context.
use Rattle.std.proofs.Common.{◌≡◌, ℕ, zero, suc, ◌-◌, ◌<◌, Bool, true, false, List, [], ◌∷◌, map, length, sum, refl, sym, ap, ◌∙◌, subst, inl, inr, ◌⊎◌, arith}
use Rattle.std.proofs.Common.{true≢false, Option, Some, None, lt-ltb, eq-eqb, if◌then◌else◌}
use Rattle.std.specs.Prelude.{slice_get, count_by}
use Rattle.semantics.specs.declared.graph.Kind.{Kind}
use Rattle.semantics.specs.Graph.{Block, Flow, Node, node_at}
use Rattle.semantics.specs.Meaning.{Context, Main, Called, Turned, callee, callee_of, callee_in, block_numbered, block_number, block_of}
use Rattle.semantics.specs.Cause.{is_looped, loops_to}
use Rattle.semantics.specs.Plan.{Plan}
use Rattle.law_confluence.proofs.HistoryLaws.{well_at}
use Rattle.law_confluence.specs.OrdersTotals.{one, total}
use Rattle.law_confluence.proofs.Orders.{total-sum_by}
use Rattle.std.proofs.lemmas.List.Sums.{sum-map}
use Rattle.std.proofs.lemmas.Bool.{or_cases}
use Rattle.std.proofs.lemmas.Option.{same_Some}
use Rattle.semantics.proofs.Lines.{line_listed}
use Rattle.law_net.specs.ContextsBlocks.{is_kind, call_kind, loop_kind, strict_kind, is_call, is_loop, is_strict, invokes, source_count, outputs_in}
use Rattle.law_net.specs.ContextsBlocks.{kind_results, result_count}
use Rattle.law_net.specs.Contexts.{Wires, or_zero, or_none, block_in, code_in, site_in, wiring_in, child, IsContext}
use Rattle.law_net.specs.ContextsWires.{IsWiredCode, Runs, AreLawful, plain_site, turn_site}
use Rattle.law_net.specs.ContextsTheorem.{IsGood}
use Rattle.law_net.proofs.WiredNets.{count_total}

-- the line of a node of some kind
pub kind_line : (test : Kind ℕ → Bool) (b : Block ℕ) (n : ℕ) → is_kind test b n ≡ true → (line : Node ℕ) × (node_at b n ≡ Some line) × (test line.kind ≡ true)
kind_line test b n e = go (node_at b n) refl e
  where
    go : (o : Option (Node ℕ)) → node_at b n ≡ o → (elim o as (λ x. Bool) [ None ↦ false | Some line ↦ test line.kind ]) ≡ true
        → (line : Node ℕ) × (node_at b n ≡ Some line) × (test line.kind ≡ true)
    go None g h = absurd (true≢false (sym h))
    go (Some line) g h = (line, g, h)

pub no_kind : (test : Kind ℕ → Bool) (b : Block ℕ) (n : ℕ) (line : Node ℕ) → node_at b n ≡ Some line → test line.kind ≡ false → is_kind test b n ≡ false
no_kind test b n line e h = ap (λ (o : Option (Node ℕ)). elim o as (λ x. Bool) [ None ↦ false | Some line ↦ test line.kind ]) e ∙ h

call_or_loop : (kind : Kind ℕ) → call_kind kind ≡ true → loop_kind kind ≡ false
call_or_loop (Kind.Call f) h = refl
call_or_loop (Kind.StrictCall f) h = refl
call_or_loop kind h = absurd (true≢false (sym h))

pub not_loop : (b : Block ℕ) (n : ℕ) → is_call b n ≡ true → is_loop b n ≡ false
not_loop b n h = let k = kind_line call_kind b n h in no_kind loop_kind b n k.0 k.1 (call_or_loop k.0.kind k.2)

strict_or_not : (kind : Kind ℕ) → strict_kind kind ≡ true → call_kind kind ≡ true
strict_or_not (Kind.StrictCall f) h = refl
strict_or_not kind h = absurd (true≢false (sym h))

pub strict_call : (b : Block ℕ) (n : ℕ) → is_strict b n ≡ true → is_call b n ≡ true
strict_call b n h =
    let k = kind_line strict_kind b n h in
    ap (λ (o : Option (Node ℕ)). elim o as (λ x. Bool) [ None ↦ false | Some line ↦ call_kind line.kind ]) k.1 ∙ strict_or_not k.0.kind k.2

call_names : (fl : Flow) (m : ℕ) (kind : Kind ℕ) → call_kind kind ≡ true
    → (f : ℕ) × (callee kind ≡ Some f) × (kind_results fl m kind ≡ outputs_in (slice_get fl.blocks f))
call_names fl m (Kind.Call f) h = (f, refl, refl)
call_names fl m (Kind.StrictCall f) h = (f, refl, refl)
call_names fl m kind h = absurd (true≢false (sym h))

pub loop_names : (fl : Flow) (m : ℕ) (kind : Kind ℕ) → loop_kind kind ≡ true
    → (f : ℕ) × (callee kind ≡ Some f) × (kind_results fl m kind ≡ m) × (loops_to f kind ≡ true)
loop_names fl m (Kind.Loop f k) h = (f, refl, refl, eq-eqb f f refl)
loop_names fl m kind h = absurd (true≢false (sym h))

counted_line : (f : ℕ) (nodes : List (Node ℕ)) (j : ℕ) (line : Node ℕ) → slice_get nodes j ≡ Some line → loops_to f line.kind ≡ true
    → 0 < total (λ (n : Node ℕ). one (loops_to f n.kind)) nodes
counted_line f [] j line e h = absurd (cc)
counted_line f (x ∷ nodes) zero line e h = let same : x ≡ line = cc in let o = ap one (ap (λ (n : Node ℕ). loops_to f n.kind) same ∙ h) in omega (arith, o)
counted_line f (x ∷ nodes) (suc j) line e h = let m = counted_line f nodes j line e h in omega (arith, m)

counted_block : (g : Block ℕ → ℕ) (bs : List (Block ℕ)) (i : ℕ) (b : Block ℕ) → slice_get bs i ≡ Some b → 0 < g b → 0 < sum (map g bs)
counted_block g bs i b e h = let m = go bs i e in let s = sum-map g bs in let t = total-sum_by g bs in omega (arith, m, s, t)
  where
    go : (bs : List (Block ℕ)) (i : ℕ) → slice_get bs i ≡ Some b → 0 < total g bs
    go [] i e = absurd (cc)
    go (x ∷ bs) zero e = let same : x ≡ b = cc in let o = ap g same in omega (arith, o, h)
    go (x ∷ bs) (suc i) e = let m = go bs i e in omega (arith, m)

module _ (fl : Flow) (p : Plan) (w : Wires) (good : IsGood fl p w) where
  -- BLOCKS OF CONTEXTS
  has_block : (c : Context) → (b : Block ℕ) × (block_of fl c ≡ Some b) → block_of fl c ≡ Some (block_in fl c)
  has_block c (b, e) = e ∙ ap Some (sym (ap or_none e))

  pub block_here : (c : Context) → IsContext fl c → block_of fl c ≡ Some (block_in fl c)
  block_here Main h = has_block Main h
  block_here (Called c n) h = has_block (Called c n) h.2
  block_here (Turned c n i) h = has_block (Turned c n i) h.2

  -- WHAT A NODE INVOKES
  pub record Invoked (c : Context) (n : ℕ) (d : Context) : Type 0 where
    pub number : ℕ
    pub numbered : block_number fl d ≡ Some number
    pub named : (line : Node ℕ) → node_at (block_in fl c) n ≡ Some line → callee line.kind ≡ Some number
    pub found : slice_get fl.blocks number ≡ Some (block_in fl d)
    pub inputs : (block_in fl d).inputs ≡ source_count (block_in fl c) n
    pub some_input : 0 < (block_in fl d).inputs

  invoked_by : (c d : Context) (n f : ℕ) (line : Node ℕ) → IsContext fl c → node_at (block_in fl c) n ≡ Some line → callee line.kind ≡ Some f
      → block_number fl d ≡ callee_in (block_numbered fl (block_number fl c)) n → (i : Invoked c n d) × (i.number ≡ f)
  invoked_by c d n f line h e g same =
      let b = block_here c h in
      let well = (well_at fl good.well c (block_in fl c) b n line e).invokes f g in
      let number : block_number fl d ≡ Some f = same ∙ ap (λ (o : Option (Block ℕ)). callee_in o n) b ∙ ap callee_of e ∙ g in
      let block : block_in fl d ≡ well.0 = ap (λ (o : Option ℕ). or_none (block_numbered fl o)) number ∙ ap or_none well.1 in (
        record {
          number = f;
          numbered = number;
          named = λ line' e'. let same : line ≡ line' = same_Some line line' (sym e ∙ e') in ap (λ (l : Node ℕ). callee l.kind) (sym same) ∙ g;
          found = well.1 ∙ ap Some (sym block);
          inputs =
              ap (λ (b : Block ℕ). b.inputs) block ∙ well.2
              ∙ sym (ap (λ (o : Option (Node ℕ)). elim o as (λ x. ℕ) [ None ↦ 0 | Some line ↦ length line.sources ]) e);
          some_input = subst (λ (b : Block ℕ). 0 < b.inputs) (sym block) well.3;
        },
        refl,
      )

  pub call_invoked : (c : Context) (n : ℕ) → IsContext fl c → is_call (block_in fl c) n ≡ true
      → Invoked c n (Called c n) × (result_count fl (block_in fl c) n ≡ (block_in fl (Called c n)).outputs)
  call_invoked c n h e =
      let k = kind_line call_kind (block_in fl c) n e in
      let f = call_names fl (length k.0.sources) k.0.kind k.2 in
      let i = invoked_by c (Called c n) n f.0 k.0 h k.1 f.1 refl in (
        i.0,
        ap (λ (o : Option (Node ℕ)). elim o as (λ x. ℕ) [ None ↦ 0 | Some line ↦ kind_results fl (length line.sources) line.kind ]) k.1 ∙ f.2
            ∙ ap (λ (f : ℕ). outputs_in (slice_get fl.blocks f)) (sym i.1) ∙ ap outputs_in i.0.found,
      )

  pub loop_invoked : (c : Context) (n t : ℕ) → IsContext fl c → is_loop (block_in fl c) n ≡ true
      → Invoked c n (Turned c n t) × (result_count fl (block_in fl c) n ≡ (block_in fl (Turned c n t)).inputs)
  loop_invoked c n t h e =
      let k = kind_line loop_kind (block_in fl c) n e in
      let f = loop_names fl (length k.0.sources) k.0.kind k.2 in
      let i = invoked_by c (Turned c n t) n f.0 k.0 h k.1 f.1 refl in (
        i.0,
        ap (λ (o : Option (Node ℕ)). elim o as (λ x. ℕ) [ None ↦ 0 | Some line ↦ kind_results fl (length line.sources) line.kind ]) k.1 ∙ f.2
            ∙ sym (ap (λ (o : Option (Node ℕ)). elim o as (λ x. ℕ) [ None ↦ 0 | Some line ↦ length line.sources ]) k.1) ∙ sym i.0.inputs,
      )

  has_found : (c d : Context) (n : ℕ) → Invoked c n d → (b : Block ℕ) × (block_of fl d ≡ Some b)
  has_found c d n i = (block_in fl d, ap (block_numbered fl) i.numbered ∙ i.found)

  pub is_called : (c : Context) (n : ℕ) → IsContext fl c → is_call (block_in fl c) n ≡ true → IsContext fl (Called c n)
  is_called c n h e = (h, e, has_found c (Called c n) n (call_invoked c n h e).0)

  pub is_turned : (c : Context) (n t : ℕ) → IsContext fl c → is_loop (block_in fl c) n ≡ true → IsContext fl (Turned c n t)
  is_turned c n t h e = (h, e, has_found c (Turned c n t) n (loop_invoked c n t h e).0)

  -- the child of a call or a loop
  pub data Child (c : Context) (n : ℕ) (d : Context) : Type 0 where
    ByCall : is_call (block_in fl c) n ≡ true → d ≡ Called c n → Child c n d
    ByLoop : is_loop (block_in fl c) n ≡ true → d ≡ Turned c n 0 → Child c n d

  pub child_cases : (c : Context) (n : ℕ) → invokes (block_in fl c) n ≡ true → Child c n (child fl c n)
  child_cases c n h = pick (or_cases (is_call (block_in fl c) n) (is_loop (block_in fl c) n) h)
    where
      pick : (is_call (block_in fl c) n ≡ true) ⊎ (is_loop (block_in fl c) n ≡ true) → Child c n (child fl c n)
      pick (inl e) = ByCall e (ap (λ (t : Bool). if t then Turned c n 0 else Called c n) (not_loop (block_in fl c) n e))
      pick (inr e) = ByLoop e (ap (λ (t : Bool). if t then Turned c n 0 else Called c n) e)

  pub child_here : (c : Context) (n : ℕ) (d : Context) → IsContext fl c → Child c n d → IsContext fl d × Invoked c n d
  child_here c n d h (ByCall e g) = subst (λ (d : Context). IsContext fl d × Invoked c n d) (sym g) (is_called c n h e, (call_invoked c n h e).0)
  child_here c n d h (ByLoop e g) = subst (λ (d : Context). IsContext fl d × Invoked c n d) (sym g) (is_turned c n 0 h e, (loop_invoked c n 0 h e).0)

  -- CODE
  pub looped_at : (c : Context) (n t f : ℕ) → IsContext fl c → is_loop (block_in fl c) n ≡ true → block_number fl (Turned c n t) ≡ Some f
      → is_looped fl f ≡ true
  looped_at c n t f h e g =
      let k = kind_line loop_kind (block_in fl c) n e in
      let names = loop_names fl (length k.0.sources) k.0.kind k.2 in
      let b = block_here c h in
      let number : Some names.0 ≡ Some f = sym names.1 ∙ sym (ap callee_of k.1) ∙ sym (ap (λ (o : Option (Block ℕ)). callee_in o n) b) ∙ g in
      let same : names.0 ≡ f = cc in
      let loops = subst (λ (f : ℕ). loops_to f k.0.kind ≡ true) same names.3 in
      let one' = counted_line f (block_in fl c).nodes (n - (block_in fl c).inputs) k.0 (line_listed (block_in fl c) n k.0 k.1) loops in
      let many = count_total (λ (n : Node ℕ). loops_to f n.kind) (block_in fl c).nodes in
      let at = block_at c b in
      lt-ltb 0 (sum (map (λ (b : Block ℕ). count_by (λ (n : Node ℕ). loops_to f n.kind) b.nodes) fl.blocks))
      (counted_block (λ (b : Block ℕ). count_by (λ (n : Node ℕ). loops_to f n.kind) b.nodes) fl.blocks at.0 (block_in fl c) at.1 (omega (arith, one', many)))
    where
      block_at : (c : Context) → block_of fl c ≡ Some (block_in fl c) → (i : ℕ) × (slice_get fl.blocks i ≡ Some (block_in fl c))
      block_at c e = go (block_number fl c) e
        where
          go : (o : Option ℕ) → block_numbered fl o ≡ Some (block_in fl c) → (i : ℕ) × (slice_get fl.blocks i ≡ Some (block_in fl c))
          go None e = absurd (cc)
          go (Some i) e = (i, e)

  -- the code of a context
  abbrev pub CodeOf : Context → Type 0
  CodeOf c = IsWiredCode fl p w.variant (Runs fl w (code_in fl w c)) (site_in fl w c) (wiring_in fl w c)

  abbrev PlainCode : Context → Option ℕ → Type 0
  PlainCode c o = IsWiredCode fl p w.variant (Runs fl w (or_zero o)) (plain_site (block_in fl c) (or_zero o)) (w.wiring (or_zero o))

  plain_code : (c : Context) (o : Option ℕ) → block_numbered fl o ≡ Some (block_in fl c) → PlainCode c o
  plain_code c None e = absurd (cc)
  plain_code c (Some i) e = good.wired.plain i (block_in fl c) e

  abbrev TurnCode : Context → Option ℕ → Type 0
  TurnCode c o =
      IsWiredCode fl p w.variant (Runs fl w (w.variant (or_zero o))) (turn_site (block_in fl c) (or_zero o) (w.variant (or_zero o)))
      (w.wiring (w.variant (or_zero o)))

  turn_code : (c : Context) (o : Option ℕ) → block_numbered fl o ≡ Some (block_in fl c) → ((f : ℕ) → o ≡ Some f → is_looped fl f ≡ true) → TurnCode c o
  turn_code c None e l = absurd (cc)
  turn_code c (Some i) e l = good.wired.turns i (block_in fl c) e (l i refl)

  pub code_at : (c : Context) → IsContext fl c → CodeOf c
  code_at Main h = plain_code Main (block_number fl Main) (block_here Main h)
  code_at (Called c n) h = plain_code (Called c n) (block_number fl (Called c n)) (block_here (Called c n) h)
  code_at (Turned c n i) h = turn_code (Turned c n i) (block_number fl (Turned c n i)) (block_here (Turned c n i) h) (λ f e. looped_at c n i f h.0 h.1 e)

  pub lawful_at : (c : Context) → IsContext fl c → AreLawful fl (site_in fl w c) (wiring_in fl w c)
  lawful_at c h = (code_at c h).lawful
