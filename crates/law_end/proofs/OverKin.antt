-- When a context's last part has fired, so has the last part of each context that it invoked, and what invoked it has sent what it sends
-- there.
use Rattle.std.proofs.Common.{◌≡◌, ℕ, zero, suc, ◌+◌, ◌<◌, ℤ, true, List, ◌++◌, refl, sym, subst, arith, lt-ltb, nat_lt}
use Rattle.std.specs.Prelude.{Contains}
use Rattle.std.proofs.lemmas.Bool.{or_left}
use Rattle.tags.specs.declared.token.Port.TheVariants.{Left}
use Rattle.semantics.specs.declared.graph.Region.TheVariants.{Root}
use Rattle.semantics.specs.Graph.{Flow}
use Rattle.semantics.specs.Meaning.{Context, Main, Called, Turned}
use Rattle.semantics.specs.Plan.{Plan}
use Rattle.semantics.specs.Machine.{Machine}
use Rattle.law_net.specs.ContextsParts.{Part, Line, Linker, Sender, CallDone, LoopDone, NextSender, End, inlet, Item, Firing, role}
use Rattle.law_net.specs.ContextsBlocks.{lies_in, source_count, entered, is_kind, plain_kind}
use Rattle.law_net.specs.Contexts.{Wires, block_in, IsContext}
use Rattle.law_net.specs.ContextsAround.{Way}
use Rattle.law_net.specs.ContextsFirings.{HasFired}
use Rattle.law_net.specs.ContextsMirror.{Past}
use Rattle.law_net.specs.ContextsTheorem.{IsGood}
use Rattle.law_net.specs.ContextsPackages.{InputsFit, Keeps}
use Rattle.law_net.proofs.WiredFed.{giver_of, UUnwired}
use Rattle.law_net.proofs.WiredInvoked.{call_invoked, loop_invoked}
use Rattle.law_net.proofs.WiredRounds.{round_node, round_turn, under, input_root}
use Rattle.law_end.specs.Over.{IsOpen}
use Rattle.law_end.proofs.OverMade.{fired, Mirrors, taken_stands, left_stands, fits, given_by, first_in, call_linked, loop_linked, turn_linked}
use Rattle.law_end.proofs.OverOpen.{stands_open, root_open}
use Rattle.law_end.proofs.OverBack.{context_of, entered_by}
use Rattle.law_end.proofs.OverLeft.{ends_last, calls_over, loops_over}

module _ (fl : Flow) (p : Plan) (w : Wires) (inputs : List ℤ) (past : Past) (m : Machine) (good : IsGood fl p w) (fit : InputsFit fl inputs)
    (kept : Keeps fl p w inputs past m) where
  abbrev done : List Firing
  done = fired fl p w inputs past m good fit kept

  abbrev Left' : Item → Type 0
  Left' i = Contains (kept.tracks.net.pending ++ kept.tracks.net.waiting) i

  stood : (i : Item) → Left' i → Mirrors fl p w inputs past m good fit kept i
  stood i d = left_stands fl p w inputs past m good fit kept i d

  -- WHAT IT INVOKED: where something is left of it, it was called for
  inner_open : (d : Context) → IsContext fl d → (i : Item) → Left' i → i.context ≡ d → IsOpen fl w done d Root
  inner_open d con i l a =
      root_open fl p w inputs past m good fit kept d con (entered (block_in fl d) i.inlet.part i.inlet.way)
      (stands_open fl p w inputs past m good fit kept d con i (stood i l) a)

  pub called_over : (c : Context) (n : ℕ) → HasFired c End done → (i : Item) → Left' i → i.context ≡ Called c n → HasFired (Called c n) End done
  called_over c n last i l a =
      let con : IsContext fl (Called c n) = subst (IsContext fl) a (fits fl p w inputs past m good fit kept i (stood i l)).is_context in
      let round : IsOpen fl w done c (lies_in (block_in fl c) n) =
      (λ x d. inner_open (Called c n) con i l a x
      (under fl (Called c n) Root x (subst (λ (ways : List Way). Contains ways x) (round_node fl p w good c n con.0) d))) in
      calls_over fl p w inputs past m good fit kept c n ((ends_last fl p w inputs past m good fit kept c last).fired (CallDone n) con.1 refl round)

  pub turned_over : (c : Context) (n t : ℕ) → HasFired c End done → (i : Item) → Left' i → i.context ≡ Turned c n t → HasFired (Turned c n t) End done
  turned_over c n t last i l a =
      let con : IsContext fl (Turned c n t) = subst (IsContext fl) a (fits fl p w inputs past m good fit kept i (stood i l)).is_context in
      let round : IsOpen fl w done c (lies_in (block_in fl c) n) =
      (λ x d. inner_open (Turned c n t) con i l a x (under fl (Turned c n t) Root x (round_turn fl p w good c n t x con.0 d))) in
      let over = loops_over fl p w inputs past m good fit kept c n
      ((ends_last fl p w inputs past m good fit kept c last).fired (LoopDone n) con.1 refl round) in
      over.ended t (over.none_later i t l a)

  -- WHAT INVOKED IT: its inputs were sent
  pub input_by : (c : Context) (l : ℕ) → HasFired c End done → l < (block_in fl c).inputs → (c ≡ Main → ⊥) → (d : Context) (r : Part)
      → giver_of fl c (Line l) 0 ≡ role d r 0 → HasFired d r done
  input_by c l last low inner d r giver =
      let given : nat_lt l (block_in fl c).inputs ≡ true = lt-ltb l (block_in fl c).inputs low in
      let over = ends_last fl p w inputs past m good fit kept c last in
      let f = over.fired (Line l) (or_left (nat_lt l (block_in fl c).inputs) (is_kind plain_kind (block_in fl c) l) given) refl
      (subst (IsOpen fl w done c) (sym (input_root (block_in fl c) l low)) over.opened) in
      let (i, d', a, e) = first_in fl p w inputs past m good fit kept c (Line l) f in
      let (h, b, x, y, u) = given_by fl p w inputs past m good fit kept c (inlet (Line l) Left 0) (UUnwired given) (λ e g. inner e) d r 0 giver i
      (taken_stands fl p w inputs past m good fit kept i d') a e in
      (h, b, x, y)

  pub record FrameUsed (e : Context) (n : ℕ) : Type 0 where
    pub linker : HasFired e (Linker n) (fired fl p w inputs past m good fit kept)
    pub senders : (l : ℕ) → l < source_count (block_in fl e) n → HasFired e (Sender n l) (fired fl p w inputs past m good fit kept)

  called_not : (e : Context) (n : ℕ) → Called e n ≡ Main → ⊥
  called_not e n g = absurd (cc)

  turned_not : (e : Context) (n t : ℕ) → Turned e n t ≡ Main → ⊥
  turned_not e n t g = absurd (cc)

  pub call_sent : (e : Context) (n : ℕ) → HasFired (Called e n) End done → FrameUsed e n
  call_sent e n last =
      let con = context_of fl p w inputs past m good fit kept (Called e n) End last in
      let same = (call_invoked fl p w good e n con.0 con.1).0.inputs in
      record {
        linker = call_linked fl p w inputs past m good fit kept e n (entered_by fl p w inputs past m good fit kept (Called e n) last);
        senders = λ l low. input_by (Called e n) l last (omega (arith, low, same)) (called_not e n) e (Sender n l) refl;
      }

  pub loop_sent : (e : Context) (n : ℕ) → HasFired (Turned e n 0) End done → FrameUsed e n
  loop_sent e n last =
      let con = context_of fl p w inputs past m good fit kept (Turned e n 0) End last in
      let same = (loop_invoked fl p w good e n 0 con.0 con.1).0.inputs in
      record {
        linker = loop_linked fl p w inputs past m good fit kept e n (entered_by fl p w inputs past m good fit kept (Turned e n 0) last);
        senders = λ l low. input_by (Turned e n 0) l last (omega (arith, low, same)) (turned_not e n 0) e (Sender n l) refl;
      }

  -- and so were those of the next turn
  pub next_sent : (e : Context) (n t : ℕ) → HasFired (Turned e n (suc t)) End done → (j : ℕ) → j < (block_in fl (Turned e n t)).inputs + 1
      → HasFired (Turned e n t) (NextSender j) done
  next_sent e n t last zero low =
      turn_linked fl p w inputs past m good fit kept e n t (entered_by fl p w inputs past m good fit kept (Turned e n (suc t)) last)
  next_sent e n t last (suc j) low = input_by (Turned e n (suc t)) j last (omega (arith, low)) (turned_not e n (suc t)) (Turned e n t) (NextSender (suc j)) refl
