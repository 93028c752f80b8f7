-- What asks for a frame or a credit does so for an invocation that is due.
use Rattle.std.proofs.Common.{◌≡◌, ℕ, suc, ℤ, true, List, refl, sym, ap, ◌∙◌, subst}
use Rattle.std.specs.Prelude.{Contains}
use Rattle.semantics.specs.Graph.{Flow}
use Rattle.semantics.specs.Plan.{Plan}
use Rattle.semantics.specs.Meaning.{Context, Called, Turned}
use Rattle.semantics.specs.Machine.{Machine}
use Rattle.law_net.specs.ContextsParts.{Part, Framer, Opener, Taker, Asked, Item}
use Rattle.law_net.specs.ContextsBlocks.{is_call, entered}
use Rattle.law_net.specs.Contexts.{Wires, block_in, IsContext}
use Rattle.law_net.specs.ContextsAround.{Way}
use Rattle.law_net.specs.ContextsFirings.{HasFired}
use Rattle.law_net.specs.ContextsLaws.{spot_there, arms_of}
use Rattle.law_net.specs.ContextsMirror.{Past}
use Rattle.law_net.specs.ContextsTheorem.{IsGood}
use Rattle.law_net.specs.ContextsPackages.{Keeps, InputsFit}
use Rattle.law_net.proofs.WiredInvoked.{is_turned}
use Rattle.law_net.proofs.WiredRounds.{root_region, round_node, round_next}
use Rattle.law_end.specs.Over.{IsOpen}
use Rattle.law_end.proofs.OverMade.{Mirrors, fits, allowed}
use Rattle.law_end.proofs.OverOpen.{stands_open, root_open}
use Rattle.law_net.specs.ContextsOperands.{SourcesAreEarlier}
use Rattle.law_end.proofs.CausesDues.{IsDue, call_due, turn_due}
use Rattle.law_end.proofs.CausesKnown.{known_due}
use Rattle.law_end.proofs.CausesStrict.{strict_fired}

module _ (fl : Flow) (p : Plan) (w : Wires) (inputs : List ℤ) (past : Past) (m : Machine) (good : IsGood fl p w) (fit : InputsFit fl inputs)
    (kept : Keeps fl p w inputs past m) (earlier : SourcesAreEarlier fl) where
  abbrev pub DueHere : Context → Type 0
  DueHere c = IsDue fl p w inputs past m good fit kept earlier c

  module _ (i : Item) (stood : Mirrors fl p w inputs past m good fit kept i) where
    con : IsContext fl i.context
    con = (fits fl p w inputs past m good fit kept i stood).is_context

    there : (r : Part) → i.inlet.part ≡ r → spot_there fl w i.context r ≡ true
    there r e = ap (spot_there fl w i.context) (sym e) ∙ (fits fl p w inputs past m good fit kept i stood).there

    opened : (r : Part) → i.inlet.part ≡ r → IsOpen fl w kept.tracks.net.fired i.context (entered (block_in fl i.context) r i.inlet.way)
    opened r e =
        subst (λ (r : Part). IsOpen fl w kept.tracks.net.fired i.context (entered (block_in fl i.context) r i.inlet.way)) e
        (stands_open fl p w inputs past m good fit kept i.context con i stood refl)

    -- where any item is
    pub context_due : DueHere i.context
    context_due =
        known_due fl p w inputs past m good fit kept earlier (strict_fired fl p w inputs past m good fit kept earlier) i.context con
        (kept.tracks.stands.known i stood)
        (λ x d. root_open fl p w inputs past m good fit kept i.context con (entered (block_in fl i.context) i.inlet.part i.inlet.way)
        (stands_open fl p w inputs past m good fit kept i.context con i stood refl) x
        (subst (λ (l : List Way). Contains l x) (sym (root_region fl i.context)) d))

    -- a call's request for a frame
    pub asked_due : (n : ℕ) → i.inlet.part ≡ Asked n → is_call (block_in fl i.context) n ≡ true → HasFired i.context (Framer n) kept.tracks.net.fired
        → DueHere (Called i.context n)
    asked_due n e call f =
        call_due fl p w inputs past m good fit kept earlier i.context n con call context_due (opened (Asked n) e)
        (strict_fired fl p w inputs past m good fit kept earlier i.context n f)

    -- the credit of a loop's first turn, and of a later one
    pub opened_due : (n : ℕ) → i.inlet.part ≡ Opener n → DueHere (Turned i.context n 0)
    opened_due n e = turn_due fl p w inputs past m good fit kept earlier i.context n 0 con (there (Opener n) e) context_due
        (λ x d. opened (Opener n) e x (subst (λ (l : List Way). Contains l x) (sym (round_node fl p w good i.context n con)) d))

    pub taker_due : (n t : ℕ) → i.inlet.part ≡ Taker n → i.inlet.way ≡ suc t → DueHere (Turned i.context n (suc t))
    taker_due n t e way = turn_due fl p w inputs past m good fit kept earlier i.context n (suc t) con (there (Taker n) e) context_due
        (λ x d. (allowed fl p w inputs past m good fit kept i stood).arms x.choice x.side
        (subst (λ (l : List Way). Contains l x) (sym ((λ k. arms_of fl i.context (e k) (way k))))
        (round_next fl p w good i.context n t x (is_turned fl p w good i.context n t con (there (Taker n) e)) d)))
