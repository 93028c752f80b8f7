-- The law of one event, from a step of a lane; and events of different elements.
use Rattle.std.proofs.Common.{◌≡◌, sym, ◌∙◌, subst, ◌*◌, [], ◌++◌, List}
use Rattle.std.proofs.lemmas.List.Sorted.{IsPermutation-refl}
use Rattle.tags.specs.declared.token.Token.{Token}
use Rattle.semantics.specs.Machine.{Machine, Happens}
use Rattle.element.specs.Steps.{IsAfter}
use Rattle.frame_order.specs.InOrder.{IsInOrder}
use Rattle.element.proofs.Opening.{others_stay}
use Rattle.frame_order.proofs.InOrder.{part_in_order}
use Rattle.law_linearization.specs.HistoryLaws.{StepsAct, ActsCommute}

pub steps_act : StepsAct
steps_act p old new pick before after step s part =
    let m : Machine = record { store = s; pool = old.queue ++ (before ++ []) } in
    let a : IsAfter p old step.token new after [] step.made m = step.event m [] part (IsPermutation-refl (old.queue ++ (before ++ []))) in
    let happens : Happens p (old.part.shape.elements * old.part.shape.frames) s step.token.to step.token.word step.made a.next.store
    =
    subst (λ (made : List Token). Happens p (old.part.shape.elements * old.part.shape.frames) s step.token.to step.token.word made a.next.store) a.makes
    a.event.happens in
    let in_order : IsInOrder s step.token.to step.made a.next.store =
    part_in_order p (old.part.shape.elements * old.part.shape.frames) old.part new.part s a.next.store step.token.to step.token.word step.made a.event.addressed
    step.shape part a.part step.first happens in
    (a.next.store, happens, a.part, a.same, in_order)

pub acts_commute : ActsCommute
acts_commute g e i mine other old new own theirs ne same part =
    others_stay g.program mine.shape other old new same (theirs.elements ∙ sym own.elements)
    (λ (eq : other.shape.element ≡ mine.shape.element). ne (sym theirs.element ∙ eq ∙ own.element)) theirs.own_element theirs.own_elements part
