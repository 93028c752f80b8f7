-- The results of a call go to where it was made.
use Rattle.std.proofs.Common.{◌≡◌, ℕ, ◌+◌, ◌<◌, Bool, true, false, ◌&&◌, ◌||◌, [], ◌∷◌, length, refl, sym, ap, ◌∙◌, subst, arith, true≢false, Option, Some}
use Rattle.std.proofs.Common.{None, nat_lt, lt-ltb, ltb-true}
use Rattle.std.specs.Prelude.{slice_get}
use Rattle.std.proofs.lemmas.Option.{slice_get_within}
use Rattle.tags.specs.declared.token.Port.TheVariants.{Left}
use Rattle.semantics.specs.declared.graph.Kind.{Kind}
use Rattle.semantics.specs.declared.graph.Kind.TheVariants as Kinds
use Rattle.semantics.specs.Graph.{Node, Block, Flow, node_at}
use Rattle.semantics.specs.Meaning.{Context, Called, callee, callee_of, callee_in, block_of, block_numbered}
use Rattle.semantics.specs.Plan.{Plan, landing, landing_in}
use Rattle.law_net.specs.ContextsParts.{Result, Landing, inlet, Item, item}
use Rattle.law_net.specs.ContextsBlocks.{is_loop, call_kind, result_count, kind_results, outputs_in, callee_code, code_called, there_in}
use Rattle.law_net.specs.Contexts.{Wires, block_in, site_in, wiring_in, or_none, IsContext, HasBlock}
use Rattle.law_net.specs.ContextsMirror.{row_of}
use Rattle.law_net.specs.ContextsTheorem.{IsGood}
use Rattle.law_net.proofs.ContextsBlocks.{has_block}
use Rattle.law_machine_refines_net.specs.MovesCases.{Taking, Followed}
use Rattle.law_machine_refines_net.proofs.MovesLists.{contains_one}
use Rattle.law_machine_refines_net.proofs.MovesSites.{coded}
use Rattle.law_machine_refines_net.proofs.MovesParts.{is_credit}
use Rattle.law_machine_refines_net.proofs.MovesLoops.{calm_books}
use Rattle.law_machine_refines_net.proofs.MovesFitted.{fits, there, taken_here}
use Rattle.law_machine_refines_net.proofs.SendsRules.{at}
use Rattle.law_machine_refines_net.proofs.SendsInwards.{meant_at}
use Rattle.law_machine_refines_net.proofs.OutwardsReturning.{back, returns_follow}

-- THE BLOCK THAT A CALL RUNS
pub record Callee (fl : Flow) (p : Plan) (w : Wires) (d : Context) (n : ℕ) : Type 0 where
  pub number : ℕ
  pub code : callee_code w.variant (block_in fl d) n ≡ number
  pub block : slice_get fl.blocks number ≡ Some (block_in fl (Called d n))
  pub results : result_count fl (block_in fl d) n ≡ (block_in fl (Called d n)).outputs

in_block : (fl : Flow) (d : Context) (n : ℕ) → HasBlock fl d → callee_in (block_of fl d) n ≡ callee_of (node_at (block_in fl d) n)
in_block fl d n (b, e) = subst (λ (o : Option (Block ℕ)). callee_in o n ≡ callee_of (node_at (or_none o) n)) (sym e) refl

pub callee_is : (fl : Flow) (p : Plan) (w : Wires) (d : Context) (n : ℕ) → IsContext fl (Called d n) → Callee fl p w d n
callee_is fl p w d n h = go (node_at (block_in fl d) n) refl h.1
  where
    found : (f : ℕ) → callee_of (node_at (block_in fl d) n) ≡ Some f → slice_get fl.blocks f ≡ Some (block_in fl (Called d n))
    found f e =
        let k = h.2 in
        let same : block_of fl (Called d n) ≡ slice_get fl.blocks f = ap (block_numbered fl) (in_block fl d n (has_block fl d h.0) ∙ e) in
        sym same ∙ k.1 ∙ ap (λ (b : Block ℕ). Some b) (sym (ap or_none k.1))

    outputs : (f : ℕ) → slice_get fl.blocks f ≡ Some (block_in fl (Called d n)) → outputs_in (slice_get fl.blocks f) ≡ (block_in fl (Called d n)).outputs
    outputs f e = ap outputs_in e

    by_kind : (line : Node ℕ) → node_at (block_in fl d) n ≡ Some line → (k : Kind ℕ) → line.kind ≡ k → call_kind k ≡ true → Callee fl p w d n
    by_kind line at (Kinds.Call f) q e =
        let b = found f (ap callee_of at ∙ ap callee q) in record {
          number = f;
          code = ap (λ (x : Option (Node ℕ)). elim x as (λ y. ℕ) [ None ↦ 0 | Some line ↦ code_called w.variant line.kind ]) at ∙ ap (code_called w.variant) q;
          block = b;
          results =
              ap (λ (x : Option (Node ℕ)). elim x as (λ y. ℕ) [ None ↦ 0 | Some line ↦ kind_results fl (length line.sources) line.kind ]) at
              ∙ ap (kind_results fl (length line.sources)) q ∙ outputs f b;
        }
    by_kind line at (Kinds.StrictCall f) q e =
        let b = found f (ap callee_of at ∙ ap callee q) in record {
          number = f;
          code = ap (λ (x : Option (Node ℕ)). elim x as (λ y. ℕ) [ None ↦ 0 | Some line ↦ code_called w.variant line.kind ]) at ∙ ap (code_called w.variant) q;
          block = b;
          results =
              ap (λ (x : Option (Node ℕ)). elim x as (λ y. ℕ) [ None ↦ 0 | Some line ↦ kind_results fl (length line.sources) line.kind ]) at
              ∙ ap (kind_results fl (length line.sources)) q ∙ outputs f b;
        }
    by_kind line at k q e = absurd (true≢false (sym e))

    go : (x : Option (Node ℕ)) → node_at (block_in fl d) n ≡ x → elim x as (λ y. Bool) [ None ↦ false | Some line ↦ call_kind line.kind ] ≡ true
        → Callee fl p w d n
    go None at e = absurd (true≢false (sym e))
    go (Some line) at e = by_kind line at line.kind refl e

-- how long its landing is
pub call_landing : (fl : Flow) (p : Plan) (w : Wires) (good : IsGood fl p w) (d : Context) (n : ℕ) → IsContext fl (Called d n)
    → row_of fl p w d (Landing n 0) ≡ (block_in fl (Called d n)).outputs + 1
call_landing fl p w good d n h =
    let k = callee_is fl p w d n h in
    let c = good.wired.plain k.number (block_in fl (Called d n)) k.block in
    let l = slice_get_within fl.blocks k.number (block_in fl (Called d n)) k.block in
    let m = good.wired.plain_count in
    let plain : nat_lt k.number p.plain ≡ true = lt-ltb k.number p.plain (omega (arith, l, m)) in
    ap (landing p) k.code ∙ (λ t. landing_in (plain t) (c.there t)) ∙ ap (λ m. m + 1) c.laid.outputs

-- A RESULT of a call
module _ (s : Taking) (d : Context) (n j : ℕ) (in_call : s.i.context ≡ Called d n) (e : s.i.inlet.part ≡ Result j) where
  abbrev l : Taking
  l = meant_at s (Called d n) (Result j) in_call e

  context : IsContext s.fl (Called d n)
  context = (fits l l.i (taken_here l)).is_context

  within : j < (block_in s.fl (Called d n)).outputs
  within = ltb-true j (block_in s.fl (Called d n)).outputs (there l l.i (taken_here l) refl)

  lands : there_in s.fl (site_in s.fl s.w d) (wiring_in s.fl s.w d) (Landing n j) ≡ true
  lands =
      let k = callee_is s.fl s.p s.w d n context in let w = within in let r = k.results in
      let less : nat_lt j (result_count s.fl (block_in s.fl d) n) ≡ true = lt-ltb j (result_count s.fl (block_in s.fl d) n) (omega (arith, w, r)) in
      ap (λ t. (t || is_loop (block_in s.fl d) n) && nat_lt j (result_count s.fl (block_in s.fl d) n)) context.1 ∙ less

  pub call_returns : Followed s
  call_returns = returns_follow s (Result j) (Called d n) d n j 0 (Landing n j) in_call e refl refl refl (record {
    op_is = refl;
    left_is = λ k h. h;
    right_is = λ k h. h;
    none = refl;
    single = refl;
    makes_is = λ h k. refl;
    is_q = refl;
    q_held = refl;
    no_giver = λ m. refl;
    place = (let k = (coded s.fl s.p s.w s.good.wired d context.0).laid.landing n j lands in omega (arith, k));
    low = (let w = within in let r = call_landing s.fl s.p s.w s.good d n context in omega (arith, w, r));
    books =
        λ k x m. calm_books (back s (Result j) (Called d n) d n j 0 (Landing n j) in_call e refl refl refl) (item d (inlet (Landing n j) Left 0) k ∷ [])
        (λ y h. ap (λ (y : Item). is_credit y.inlet.part) (sym (contains_one (item d (inlet (Landing n j) Left 0) k) y h))) x m;
  })
