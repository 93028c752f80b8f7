-- What leaves goes to its uses, in every context that runs a block.
use Rattle.std.proofs.Common.{◌≡◌, ℕ, ◌+◌, Bool, true, false, ◌&&◌, ◌||◌, [], ◌∷◌, refl, sym, ap, ◌∙◌, subst, Some, None, Option, ◌==◌, nat_lt}
use Rattle.std.specs.Prelude.{slice_get, IsPermutation}
use Rattle.std.proofs.lemmas.Bool.{eqb-true}
use Rattle.tags.specs.declared.value.Value.{Value}
use Rattle.tags.specs.declared.token.Port.TheVariants.{Left, Right}
use Rattle.semantics.specs.declared.graph.Kind.{Kind}
use Rattle.semantics.specs.declared.graph.Kind.TheVariants.{Fetch, Store}
use Rattle.semantics.specs.Graph.{Node, Block, Flow, node_at}
use Rattle.semantics.specs.Meaning.{Context, Main, Called, Turned, AtOut, Operand, block_of, block_number, result_uses}
use Rattle.semantics.proofs.Lines.{block_is_there}
use Rattle.law_net.specs.ContextsParts.{Line, Answer, TurnValue, NextSender, LastReturn, inlet}
use Rattle.law_net.specs.ContextsBlocks.{side, Site, Wiring, there_in, is_kind, cell_kind, plain_kind, exit, invokes, result_count}
use Rattle.law_net.specs.Contexts.{Wires, IsContext, number_in, or_zero}
use Rattle.law_net.specs.ContextsMeant.{settled_sent}
use Rattle.law_net.specs.ContextsWires.{plain_site, GoesToUses, Runs, meant_along, has_port}
use Rattle.law_net.proofs.ContextsBlocks.{has_block}
use Rattle.law_wiring.specs.Written.{is_shared, along, leaves_at, wires_in}
use Rattle.law_wiring.specs.WrittenFit.{IsFit}
use Rattle.law_wiring.specs.WrittenHalves.{IsWritten}
use Rattle.law_wiring.proofs.WrittenArms.{exit_is}
use Rattle.law_wiring.proofs.Uses.{IsPort}
use Rattle.law_wiring.proofs.UsesAll.{call_told}
use Rattle.law_wiring.proofs.UsesSilent.{silent}
use Rattle.law_wiring.proofs.UsesCopies.{copy_along}

-- OF ANY SITE, in the contexts in which what leaves goes to its uses
module _ (fl : Flow) (s : Site) where
  abbrev pub GoesOn : Context → Type 0
  GoesOn c = (v : Value) (n q : ℕ) → IsPort s n q
      → IsPermutation (meant_along fl c v (along s.block (leaves_at s n q) (wires_in fl s))) (settled_sent fl c n q v)

  -- a turn's value goes to the next turn, or back
  abbrev pub TurnsOn : Wiring → Type 0
  TurnsOn w = (j : ℕ) → there_in fl s w (TurnValue (j + 1)) ≡ true
      → (w.wire (side (TurnValue (j + 1)) false) ≡ inlet (NextSender (j + 1)) Right 0 ∷ [])
      × (w.wire (side (TurnValue (j + 1)) true) ≡ inlet (LastReturn j) Right 0 ∷ [])

module _ (fl : Flow) (s : Site) (fit : IsFit fl s.block) (w : Wiring) (h : IsWritten fl s w) where
  both_are : (t u : Bool) → (t && u) ≡ true → (t ≡ true) × (u ≡ true)
  both_are true true h = (refl, refl)
  both_are true false h = absurd (cc)
  both_are false u h = absurd (cc)

  pub copied : (n : ℕ) → there_in fl s w (Answer n) ≡ true → w.wire (side (Line n) false) ≡ inlet (Answer n) Left 0 ∷ []
  copied n t =
      let d = both_are (is_kind cell_kind s.block n) (w.answers n) t in
      let e = both_are (is_kind cell_kind s.block n) (is_shared s n) (sym (h.answers n) ∙ d.1) in
      h.wire (side (Line n) false) (line_there n d.0) ∙ copy_along fl s n d.0 e.1
    where
      plain : (k : Kind ℕ) → cell_kind k ≡ true → plain_kind k ≡ true
      plain (Fetch a) e = refl
      plain (Store a) e = refl
      plain k e = absurd (cc)

      line_there : (n : ℕ) → is_kind cell_kind s.block n ≡ true → (nat_lt n s.block.inputs || is_kind plain_kind s.block n) ≡ true
      line_there n e = or_true (nat_lt n s.block.inputs) (is_kind plain_kind s.block n) (go (node_at s.block n) e)
        where
          or_true : (t u : Bool) → u ≡ true → (t || u) ≡ true
          or_true true u f = refl
          or_true false u f = f

          go : (o : Option (Node ℕ)) → elim o as (λ x. Bool) [ None ↦ false | Some line ↦ cell_kind line.kind ] ≡ true
              → elim o as (λ x. Bool) [ None ↦ false | Some line ↦ plain_kind line.kind ] ≡ true
          go None f = absurd (cc)
          go (Some x) f = plain x.kind f

  -- the ports of a node
  port_is : (n q : ℕ) → has_port fl s.block n q ≡ true → IsPort s n q
  port_is n q e none = go (invokes s.block n) none e
    where
      go : (t : Bool) → t ≡ false → ((t && nat_lt q (result_count fl s.block n)) || (q == 0)) ≡ true → q ≡ 0
      go true a f = absurd (cc)
      go false a f = eqb-true q 0 f

  pub site_goes_to_uses : (Here : Context → Type 0) → ((c : Context) → Here c → GoesOn fl s c) → TurnsOn fl s w → GoesToUses fl Here s w
  site_goes_to_uses Here goes turns = record {
    uses = λ c n q v here there port.
        let wires : w.wire (exit s.block w n q) ≡ along s.block (leaves_at s n q) (wires_in fl s) = h.wire (exit s.block w n q) there
        ∙ ap (λ u. along s.block u (wires_in fl s)) (exit_is s w n q h.answers) in
        subst (λ xs. IsPermutation (meant_along fl c v xs) (settled_sent fl c n q v)) (sym wires) (goes c here v n q (port_is n q port));
    answers = λ n t. copied n t;
    nothing = λ c t v here there is_silent apart.
        ap (meant_along fl c v) (h.wire t there) ∙ silent fl s fit c v t is_silent (λ x e. apart x.node x.port (exit_is s w x.node x.port h.answers ∙ e));
    turn_value = turns;
  }

module _ (fl : Flow) (i : ℕ) (b : Block ℕ) (there : slice_get fl.blocks i ≡ Some b) (w : Wires) where
  pub number_is : (c : Context) → IsContext fl c → number_in fl c ≡ i → block_of fl c ≡ Some b
  number_is c h e =
      let x = has_block fl c h in
      let m = block_is_there fl (block_number fl c) x.0 x.1 in
      let same : m.0 ≡ i = sym (ap or_zero m.1) ∙ e in
      x.1 ∙ sym m.2 ∙ ap (slice_get fl.blocks) same ∙ there

  -- no turn runs the code of a call
  abbrev pub RunsNoTurn : Type 0
  RunsNoTurn = (c : Context) (n j : ℕ) → Runs fl w i (Turned c n j) → ⊥

  module _ (none : RunsNoTurn) where
    runs_block : (c : Context) → Runs fl w i c → block_of fl c ≡ Some b
    runs_block Main h = number_is Main h.0 h.1
    runs_block (Called c n) h = number_is (Called c n) h.0 h.1
    runs_block (Turned c n j) h = absurd (none c n j h)

    runs_plain : (c : Context) → Runs fl w i c → (j : ℕ) → result_uses c b.inputs j ≡ (AtOut j, Operand 0) ∷ []
    runs_plain Main h j = refl
    runs_plain (Called c n) h j = refl
    runs_plain (Turned c n k) h j = absurd (none c n k h)

    pub goes_to_uses : IsFit fl b → IsWritten fl (plain_site b i) (w.wiring i) → GoesToUses fl (Runs fl w i) (plain_site b i) (w.wiring i)
    goes_to_uses fit h =
        site_goes_to_uses fl (plain_site b i) fit (w.wiring i) h (Runs fl w i)
        (λ c run v n q port. call_told fl (plain_site b i) fit c v (runs_block c run) n q port refl (runs_plain c run)) (λ j t. absurd (cc))
