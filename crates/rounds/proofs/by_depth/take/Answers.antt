use Rattle.std.proofs.Common.{◌≡◌, sym, ◌∙◌, ap, subst, ℕ, ◌∷◌, []}
use Rattle.tags.specs.declared.token.Token.{Token}
use Rattle.semantics.specs.Machine.{Events}
use Rattle.element.specs.Holding.{Fixed}
use Rattle.element.specs.Steps.{Steps}
use Rattle.element.specs.declared.lane.Stepped.{Stepped}
use Rattle.schedule.specs.Steps.{logged}
use Rattle.rounds.proofs.Turning.{one_token}
use Rattle.rounds.proofs.by_depth.take.Goals as goal

pub returns-in-Did-clause-did : goal.returns-in-Did-clause-did
returns-in-Did-clause-did g c =
    let old = c.args.lane.now in
    let next = c.step.new.self in
    let keeps = g.L.Log.KEEPS_EVENTS in
    let before = c.args.log.now.events.items in
    let does = subst (λ (s : Stepped). Steps old.program old.held c.args.at c.args.sent.now.items s next.held c.step.new.sent.items) c.in-Did.is
    c.in-Some-step.ensures.exact in
    let token = one_token old.held c.args.at does.token c.in-Some.token does.picks c.in-Some.ensures.some in
    let e = old.held.part.shape.element in
    let element : c.element.result ≡ e = c.element.ensures ∙ ap (λ (f : Fixed). f.shape.element) c.step.ensures.fixed in (
      does,
      c.note.ensures
          ∙ ap (λ (l : Events). logged keeps l ((c.element.result, c.in-Some.token) ∷ [])) c.make_room.ensures.same
          ∙ ap (λ (n : ℕ). logged keeps before ((n, c.in-Some.token) ∷ [])) element
          ∙ ap (λ (t : Token). logged keeps before ((e, t) ∷ [])) (sym token),
    )

pub returns-in-Did-clause-few : goal.returns-in-Did-clause-few
returns-in-Did-clause-few g c = c.in-Some-step.ensures.allowed c.in-Some.ensures.some.some
