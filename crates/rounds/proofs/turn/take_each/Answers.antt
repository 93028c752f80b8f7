use Rattle.std.proofs.Common.{◌≡◌, ◌∙◌, ap, subst, ◌<◌, ◌++◌, ◌∷◌, [], arith}
use Rattle.std.proofs.lemmas.List.{length-append}
use Rattle.semantics.specs.Program.{Program}
use Rattle.element.specs.Holding.{Fixed, IsSoundLane}
use Rattle.element.specs.Steps.{Does, Steps}
use Rattle.element.specs.declared.lane.Stepped.{Stepped}
use Rattle.rounds.proofs.Turning.{turns_more, one_token, noted_more}
use Rattle.rounds.proofs.turn.take_each.Goals as goal

pub events-preserved : goal.events-preserved
events-preserved g c =
    let inv = c.events.invariant in
    let so_far = inv.turns in
    let start = c.args.lane.now in
    let old = c.events.lane in
    let next = c.step.new.self in
    let program = ap (λ (f : Fixed). f.program) inv.fixed in
    let steps = ap (λ (f : Fixed). f.steps) inv.fixed in
    let does = subst (λ (p : Program). Does p old.held 0 c.events.sent.items next.held c.step.new.sent.items) program
    (subst (λ (s : Stepped). Steps old.program old.held 0 c.events.sent.items s next.held c.step.new.sent.items) c.in-Did.is c.in-Some-step.ensures.exact) in
    let some = c.in-Some.ensures.some.some in
    let allowed = c.in-Some-step.ensures.allowed some in
    let few : old.held.made < start.steps = omega arith in
    let fixed = c.step.ensures.fixed ∙ inv.fixed in
    let sound = subst (λ (p : Program). IsSoundLane p next.held) (ap (λ (f : Fixed). f.program) fixed) c.step.ensures.sound in
    let token = one_token old.held 0 does.token c.in-Some.token does.picks c.in-Some.ensures.some in
    let element : c.element.result ≡ start.held.part.shape.element = c.element.ensures ∙ ap (λ (f : Fixed). f.shape.element) fixed in
    record {
      sound = λ _. c.step.ensures.sound;
      made = (let m = inv.made in let d = does.count in omega (arith, m, d));
      fixed = fixed;
      turns = (
        so_far.0 ++ does.token ∷ [],
        turns_more start.program start.steps start.held c.args.sent.now.items so_far.0 old.held c.events.sent.items next.held c.step.new.sent.items
            so_far.1 does few sound,
        noted_more g.L.Log.KEEPS_EVENTS c.args.log.now.events.items c.events.log.events.items c.make_room.new.self.events.items
            c.note.new.self.events.items c.element.result start.held.part.shape.element so_far.0 does.token c.in-Some.token so_far.2
            c.make_room.ensures.same c.note.ensures element token,
        (let l = length-append so_far.0 (does.token ∷ []) in let b = so_far.3 in omega arith),
      );
    }
