use Rattle.std.proofs.Common.{◌≡◌, sym, ap, subst, arith}
use Rattle.element.specs.Holding.{Holding, held_in}
use Rattle.element.specs.Parts.{Part}
use Rattle.element.specs.Openings.{IsOpening}
use Rattle.element.proofs.lane.Lane.new.Goals as goal

pub invariant_of-result : goal.invariant_of-result
invariant_of-result g c =
    let p = g.C.Instructions.program c.args.code.now in
    let held : Holding = held_in c.in_ok-contents.contents in
    let e = c.in_ok-contents.ensures.exact in
    let opens = c.in_ok-contents.ensures.starts p (subst (λ (h : Part). IsOpening p h) (sym (ap (λ (h : Holding). h.part) e)) c.requires.opening) in
    let none : held.made ≡ 0 = ap (λ (h : Holding). h.made) e in
    let width : held.part.shape.width ≡ c.args.bank.width = ap (λ (h : Holding). h.part.shape.width) e in
    let slots = c.requires.width in
    record {
      sound = opens.0;
      width = omega arith;
      made = omega arith;
      few = c.requires.few;
    }

pub returns-clause-sound : goal.returns-clause-sound
returns-clause-sound g c =
    let p = g.C.Instructions.program c.args.code.now in
    let e = c.in_ok-contents.ensures.exact in
    (c.in_ok-contents.ensures.starts p (subst (λ (h : Part). IsOpening p h) (sym (ap (λ (h : Holding). h.part) e)) c.requires.opening)).0

pub returns-clause-starts : goal.returns-clause-starts
returns-clause-starts g c =
    let p = g.C.Instructions.program c.args.code.now in
    let e = c.in_ok-contents.ensures.exact in
    (c.in_ok-contents.ensures.starts p (subst (λ (h : Part). IsOpening p h) (sym (ap (λ (h : Holding). h.part) e)) c.requires.opening)).1
