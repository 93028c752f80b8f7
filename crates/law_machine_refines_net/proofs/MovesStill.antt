-- Firings that hand out no frame and are of no loop's credits: all tokens stay as they were.
use Rattle.std.proofs.Common.{◌≡◌, true, false, ◌&&◌, List, [], ◌∷◌, refl, sym, ap, ◌∙◌, true≢false, None}
use Rattle.lemmas.proofs.Bools.{and_false}
use Rattle.tags.specs.declared.token.To.{To}
use Rattle.semantics.specs.Graph.{Flow}
use Rattle.semantics.specs.Meaning.{Context}
use Rattle.semantics.specs.Plan.{Plan}
use Rattle.law_confluence.specs.EquationsContexts.{same_context}
use Rattle.law_net.specs.ContextsParts.{Part, Framer, Opener, Giver, Taker, Drainer, Asked, NextAsked, InCell, Drained, Shown, Done, Freed, Item, Firing}
use Rattle.law_net.specs.ContextsParts.{same_part}
use Rattle.law_net.specs.Contexts.{Wires}
use Rattle.law_net.specs.ContextsFirings.{handed_to, renewed, ProperAt, is_firing, times}
use Rattle.law_net.specs.ContextsMirror.{frame_of, ip_of, to_of, is_instr}
use Rattle.law_machine_refines_net.specs.MovesCases.{is_still}
use Rattle.law_machine_refines_net.proofs.MovesLists.{count_no}
use Rattle.law_machine_refines_net.proofs.MovesParts.{is_lending}

-- a firing that hands out no frame, and is of no loop's credits and no cell's
pub still_lends : (r : Part) → is_still r ≡ true → is_lending r ≡ false
still_lends (Opener n) e = absurd (true≢false (sym e))
still_lends (Taker n) e = absurd (true≢false (sym e))
still_lends (Drained n) e = absurd (true≢false (sym e))
still_lends r e = refl

pub still_hands : (fl : Flow) (c : Context) (r : Part) → is_still r ≡ true → handed_to fl c r ≡ None
still_hands fl c (Asked n) e = absurd (true≢false (sym e))
still_hands fl c NextAsked e = absurd (true≢false (sym e))
still_hands fl c r e = refl

pub still_renews : (fl : Flow) (f : Firing) (r : Part) → is_still r ≡ true → renewed fl f r ≡ []
still_renews fl f (Framer n) e = absurd (true≢false (sym e))
still_renews fl f r e = refl

pub still_proper : (fl : Flow) (fired : List Firing) (f : Firing) (r : Part) → is_still r ≡ true → ProperAt fl fired f r
still_proper fl fired f (Framer n) e = absurd (true≢false (sym e))
still_proper fl fired f (Asked n) e = absurd (true≢false (sym e))
still_proper fl fired f NextAsked e = absurd (true≢false (sym e))
still_proper fl fired f (InCell n) e = absurd (true≢false (sym e))
still_proper fl fired f (Drained n) e = absurd (true≢false (sym e))
still_proper fl fired f (Giver n) e = absurd (true≢false (sym e))
still_proper fl fired f (Drainer n) e = absurd (true≢false (sym e))
still_proper fl fired f r e = tt

pub not_firing : (c : Context) (r : Part) (f : Firing) → same_part f.part r ≡ false → is_firing c r f ≡ false
not_firing c r f e = ap (λ t. same_context f.context c && t) e ∙ and_false (same_context f.context c)

-- a firing that is not of the part does not count
pub times_no : (c : Context) (r : Part) (f : Firing) (fired : List Firing) → same_part f.part r ≡ false → times c r (f ∷ fired) ≡ times c r fired
times_no c r f fired e = count_no (is_firing c r) f fired (not_firing c r f e)

-- an instruction's token
pub to_instr : (fl : Flow) (p : Plan) (w : Wires) (fired : List Firing) (i : Item) (r : Part) → is_instr r ≡ true
    → to_of fl p w fired i r ≡ To.Instr (frame_of fl fired i.context) (ip_of fl p w i.context r) i.inlet.port
to_instr fl p w fired i (Asked n) e = absurd (true≢false (sym e))
to_instr fl p w fired i NextAsked e = absurd (true≢false (sym e))
to_instr fl p w fired i (InCell n) e = absurd (true≢false (sym e))
to_instr fl p w fired i (Drained n) e = absurd (true≢false (sym e))
to_instr fl p w fired i (Shown j) e = absurd (true≢false (sym e))
to_instr fl p w fired i Done e = absurd (true≢false (sym e))
to_instr fl p w fired i Freed e = absurd (true≢false (sym e))
to_instr fl p w fired i r e = refl
