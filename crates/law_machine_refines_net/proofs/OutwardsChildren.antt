-- What a node invokes: its code, where its values arrive, and the landing to which it returns.
use Rattle.std.proofs.Common.{◌≡◌, ℕ, ◌+◌, ◌<◌, true, sym, ap, ◌∙◌, subst, arith, le-ltb, Option, Some, None}
use Rattle.semantics.specs.Graph.{Node, Flow}
use Rattle.semantics.specs.Meaning.{Context, Called, Turned}
use Rattle.semantics.specs.Program.{first_of}
use Rattle.semantics.specs.Plan.{Plan, landing, landing_in}
use Rattle.law_net.specs.ContextsParts.{Entry, Line, Landing}
use Rattle.law_net.specs.ContextsBlocks.{call_kind, code_called, callee_code, invokes, source_count}
use Rattle.law_net.specs.Contexts.{Wires, or_zero, block_in, code_in, child, IsContext}
use Rattle.law_net.specs.ContextsMirror.{ip_of, row_of}
use Rattle.law_net.specs.ContextsTheorem.{IsGood}
use Rattle.law_net.proofs.WiredInvoked.{kind_line, call_invoked, loop_invoked, looped_at, code_at, Child, ByCall, ByLoop, child_cases, child_here}
use Rattle.law_net.proofs.RunsLands.{loop_code, call_code}
use Rattle.law_net.specs.ContextsBlocks as Blocks

module _ (fl : Flow) (p : Plan) (w : Wires) (good : IsGood fl p w) where
  called_code : (d : Context) (n : ℕ) → IsContext fl (Called d n) → callee_code w.variant (block_in fl d) n ≡ code_in fl w (Called d n)
  called_code d n h =
      let line = kind_line call_kind (block_in fl d) n h.1 in let i = (call_invoked fl p w good d n h.0 h.1).0 in
      ap (λ (x : Option (Node ℕ)). elim x as (λ x. ℕ) [ None ↦ 0 | Some line ↦ code_called w.variant line.kind ]) line.1
      ∙ call_code w.variant line.0.kind i.number line.2 (i.named line.0 line.1) ∙ sym (ap or_zero i.numbered)

  pub turned_code : (d : Context) (n t : ℕ) → IsContext fl (Turned d n t) → callee_code w.variant (block_in fl d) n ≡ code_in fl w (Turned d n t)
  turned_code d n t h =
      let line = kind_line Blocks.loop_kind (block_in fl d) n h.1 in let i = (loop_invoked fl p w good d n t h.0 h.1).0 in
      ap (λ (x : Option (Node ℕ)). elim x as (λ x. ℕ) [ None ↦ 0 | Some line ↦ code_called w.variant line.kind ]) line.1
      ∙ loop_code w.variant line.0.kind i.number line.2 (i.named line.0 line.1) ∙ ap w.variant (sym (ap or_zero i.numbered))

  pub child_code : (c : Context) (n : ℕ) → IsContext fl c → invokes (block_in fl c) n ≡ true
      → callee_code w.variant (block_in fl c) n ≡ code_in fl w (child fl c n)
  child_code c n h e = by_case (child fl c n) (child_cases fl p w good c n e)
    where
      by_case : (d : Context) → Child fl p w good c n d → callee_code w.variant (block_in fl c) n ≡ code_in fl w d
      by_case d (ByCall k g) = called_code c n (subst (IsContext fl) g (child_here fl p w good c n d h (ByCall k g)).0) ∙ ap (code_in fl w) (sym g)
      by_case d (ByLoop k g) = turned_code c n 0 (subst (IsContext fl) g (child_here fl p w good c n d h (ByLoop k g)).0) ∙ ap (code_in fl w) (sym g)

  -- the landing of a loop
  pub turn_landing : (d : Context) (n t : ℕ) → IsContext fl (Turned d n t) → row_of fl p w d (Landing n 0) ≡ (block_in fl (Turned d n t)).inputs + 3
  turn_landing d n t h =
      let c = Turned d n t in let i = (loop_invoked fl p w good d n t h.0 h.1).0 in
      let over = good.wired.others i.number (block_in fl c) i.found (looped_at fl p w good d n t i.number h.0 h.1 i.numbered) in
      let count = good.wired.plain_count in let at = ap w.variant (ap or_zero i.numbered) in
      let k = code_at fl p w good c h in
      ap (landing p) (turned_code d n t h)
      ∙ (λ s. landing_in (le-ltb (code_in fl w c) p.plain (omega (arith, over, count, at)) s) (k.there s))
      ∙ ap (λ (o : ℕ). o + 3) k.laid.inputs

  -- WHERE WORDS ARRIVE in a context: its continuation first, then its inputs
  pub entry_at : (c : Context) → IsContext fl c → ip_of fl p w c Entry ≡ first_of p.program (code_in fl w c)
  entry_at c h = let e = (code_at fl p w good c h).laid.entry in omega (arith, e)

  pub line_at : (c : Context) (i : ℕ) → IsContext fl c → i < (block_in fl c).inputs → ip_of fl p w c (Line i) ≡ first_of p.program (code_in fl w c) + (i + 1)
  line_at c i h l = let e = (code_at fl p w good c h).laid.entries i l in omega (arith, e)
