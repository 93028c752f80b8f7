-- The code block of a context.
use Rattle.std.proofs.Common.{◌≡◌, ℕ, ◌-◌, true, false, Option, Some, None, refl, sym, ap, ◌∙◌, subst, true≢false, eq-eqb}
use Rattle.std.specs.Prelude.{slice_get}
use Rattle.semantics.specs.declared.graph.Kind.{Kind}
use Rattle.semantics.specs.Graph.{Node, Block, Flow}
use Rattle.semantics.specs.Plan.{Plan}
use Rattle.semantics.specs.Meaning.{Context, Main, Called, Turned, block_number, block_numbered, callee_in, callee_of}
use Rattle.semantics.specs.Cause.{is_looped, loops_to}
use Rattle.semantics.proofs.Lines.{line_listed, body_is_looped}
use Rattle.law_net.specs.ContextsBlocks.{loop_kind, is_loop}
use Rattle.law_net.specs.Contexts.{Wires, or_zero, or_none, no_block, code_in, site_in, wiring_in, IsContext}
use Rattle.law_net.specs.ContextsWires.{IsWiredCode, Runs, AreWiredBy}
use Rattle.law_net_refines_meaning.proofs.FiringsNodes.{kind_is}

loops_there : (kind : Kind ℕ) → loop_kind kind ≡ true → (f : ℕ) × (loops_to f kind ≡ true) × ((c : Node ℕ) → c.kind ≡ kind → callee_of (Some c) ≡ Some f)
loops_there (Kind.Loop g k) e =
    (g, eq-eqb g g refl, λ c q. ap (λ (k : Kind ℕ). callee_of (Some (record { region = c.region; kind = k; sources = c.sources }))) q)
loops_there k e = absurd (true≢false (sym e))

module _ (fl : Flow) (p : Plan) (w : Wires) (wired : AreWiredBy fl p w) where
  abbrev pub CodeAt : Context → Type 0
  CodeAt c = IsWiredCode fl p w.variant (Runs fl w (code_in fl w c)) (site_in fl w c) (wiring_in fl w c)

  -- by the number of its block
  plain_code : (o : Option ℕ) (b : Block ℕ) → block_numbered fl o ≡ Some b
      → IsWiredCode fl p w.variant (Runs fl w (or_zero o))
      (record { block = or_none (block_numbered fl o); number = or_zero o; turns = false; own = or_zero o }) (w.wiring (or_zero o))
  plain_code None b e = absurd (cc)
  plain_code (Some i) b e =
      subst (λ (x : Block ℕ). IsWiredCode fl p w.variant (Runs fl w i) (record { block = x; number = i; turns = false; own = i }) (w.wiring i))
      (sym (ap or_none e)) (wired.plain i b e)

  turn_code : (o : Option ℕ) (b : Block ℕ) → block_numbered fl o ≡ Some b → is_looped fl (or_zero o) ≡ true
      → IsWiredCode fl p w.variant (Runs fl w (w.variant (or_zero o)))
      (record { block = or_none (block_numbered fl o); number = or_zero o; turns = true; own = w.variant (or_zero o) }) (w.wiring (w.variant (or_zero o)))
  turn_code None b e l = absurd (cc)
  turn_code (Some i) b e l =
      subst (λ (x : Block ℕ). IsWiredCode fl p w.variant (Runs fl w (w.variant i)) (record { block = x; number = i; turns = true; own = w.variant i })
      (w.wiring (w.variant i))) (sym (ap or_none e)) (wired.turns i b e l)

  -- what a loop runs is looped
  is_looped_at : (o : Option ℕ) (n : ℕ) → is_loop (or_none (block_numbered fl o)) n ≡ true → is_looped fl (or_zero (callee_in (block_numbered fl o) n)) ≡ true
  is_looped_at None n e = let k = kind_is no_block loop_kind n e in let g = line_listed no_block n k.0 k.1 in absurd (cc)
  is_looped_at (Some i) n e = go (slice_get fl.blocks i) refl e
    where
      go : (x : Option (Block ℕ)) → slice_get fl.blocks i ≡ x → is_loop (or_none x) n ≡ true → is_looped fl (or_zero (callee_in x n)) ≡ true
      go None f e = let k = kind_is no_block loop_kind n e in let g = line_listed no_block n k.0 k.1 in absurd (cc)
      go (Some b) f e =
          let (line, en, kind) = kind_is b loop_kind n e in
          let k = loops_there line.kind kind in
          let callee : callee_in (Some b) n ≡ Some k.0 = ap callee_of en ∙ k.2 line refl in
          subst (λ (o : Option ℕ). is_looped fl (or_zero o) ≡ true) (sym callee) (body_is_looped fl i n k.0 b line f en k.1)

  pub code_at : (c : Context) → IsContext fl c → CodeAt c
  code_at Main h = plain_code (block_number fl Main) h.0 h.1
  code_at (Called c n) h = plain_code (block_number fl (Called c n)) h.2.0 h.2.1
  code_at (Turned c n i) h = turn_code (block_number fl (Turned c n i)) h.2.0 h.2.1 (is_looped_at (block_number fl c) n h.1)
