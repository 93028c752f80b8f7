use Rattle.std.proofs.Common.{◌≡◌, refl, ◌∙◌, sym, ap, subst, true, ◌≤◌, [], ◌++◌, length, Some, None, inl, inr, arith, append_assoc}
use Rattle.std.proofs.lemmas.List.{append-nil}
use Rattle.semantics.specs.Machine.{Events}
use Rattle.schedule.specs.declared.halt.Halt.{Halt}
use Rattle.schedule.specs.Setting.{Setting}
use Rattle.schedule.specs.State.{state_of}
use Rattle.schedule.specs.Steps.{logged}
use Rattle.schedule.specs.Runs.{Plays}
use Rattle.schedule.proofs.Playing.{play_more, play_rest, logged_more, setting_stays}
use Rattle.schedule.proofs.elements.Elements.play.Goals as goal

pub returns-in-Some-clause-exact : goal.returns-in-Some-clause-exact
returns-in-Some-clause-exact g c =
    let s = state_of g.C.Instructions.program g.C.Instructions.width c.loop-element.self in
    let next = state_of g.C.Instructions.program g.C.Instructions.width c.advance.new.self in
    let k = c.loop-element.element-index in
    let x = c.in-Some.ensures.exact in
    let played = c.loop-element.invariant.played in
    let here = play_more true c.args.picks.now k (0, 0) s next next x.0 [] (Some c.in-Some.halt) c.in-Some.halt c.loop-element-test.true x.1
    (refl, refl, refl) in
    let all = played.1 next c.in-Some.halt (x.0 ++ []) here in
    let same : played.0 ++ (x.0 ++ []) ≡ played.0 ++ x.0 = ap (λ (l : Events). played.0 ++ l) (append-nil x.0) in (
      played.0 ++ x.0,
      subst (λ (l : Events). Plays true c.args.picks.now (state_of g.C.Instructions.program g.C.Instructions.width c.args.self.now) next
          c.in-Some.halt l) same all,
      logged_more g.L.Log.KEEPS_EVENTS c.args.log.now.events.items c.loop-element.log.events.items c.advance.new.log.events.items played.0 x.0 played.2 x.2,
    )

pub loop-element-preserved : goal.loop-element-preserved
loop-element-preserved g c =
    let s0 = state_of g.C.Instructions.program g.C.Instructions.width c.args.self.now in
    let s = state_of g.C.Instructions.program g.C.Instructions.width c.loop-element.self in
    let next = state_of g.C.Instructions.program g.C.Instructions.width c.advance.new.self in
    let k = c.loop-element.element-index in
    let x = c.in-None.ensures.exact in
    let played = c.loop-element.invariant.played in
    record {
      well = c.in-None.ensures.well;
      elements = ap (λ (z : Setting). z.elements) (setting_stays s next _ _ x.1.answer x.0 x.1.step) ∙ c.loop-element.invariant.elements;
      played = (
        played.0 ++ x.0,
        (λ last halt later rest. subst (λ (l : Events). Plays true c.args.picks.now s0 last halt l) (sym (append_assoc played.0 x.0 later))
            (played.1 last halt (x.0 ++ later) (play_more true c.args.picks.now k (0, 0) s next last x.0 later None halt c.loop-element-test.true x.1 rest))),
        logged_more g.L.Log.KEEPS_EVENTS c.args.log.now.events.items c.loop-element.log.events.items c.advance.new.log.events.items played.0 x.0 played.2 x.2,
      );
    }

pub returns-then-has_tokens-clause-exact : goal.returns-then-has_tokens-clause-exact
returns-then-has_tokens-clause-exact g c =
    let s = state_of g.C.Instructions.program g.C.Instructions.width c.loop-element.self in
    let played = c.loop-element.invariant.played in
    let past : length c.args.picks.now ≤ c.loop-element.element-index = (let p = c.loop-element-test.false in omega arith) in
    let all = played.1 s Halt.Steps [] (play_rest c.args.picks.now c.loop-element.element-index s Halt.Steps past
    (inr (c.has_tokens.ensures.yes c.if-has_tokens.true, refl))) in
    (played.0 ++ [], all, played.2 ∙ ap (λ (l : Events). logged g.L.Log.KEEPS_EVENTS c.args.log.now.events.items l) (sym (append-nil played.0)))

pub returns-else-has_tokens-clause-exact : goal.returns-else-has_tokens-clause-exact
returns-else-has_tokens-clause-exact g c =
    let s = state_of g.C.Instructions.program g.C.Instructions.width c.loop-element.self in
    let played = c.loop-element.invariant.played in
    let past : length c.args.picks.now ≤ c.loop-element.element-index = (let p = c.loop-element-test.false in omega arith) in
    let all = played.1 s Halt.NoToken [] (play_rest c.args.picks.now c.loop-element.element-index s Halt.NoToken past
    (inl (c.has_tokens.ensures.no c.if-has_tokens.false, refl))) in
    (played.0 ++ [], all, played.2 ∙ ap (λ (l : Events). logged g.L.Log.KEEPS_EVENTS c.args.log.now.events.items l) (sym (append-nil played.0)))
