use Rattle.std.proofs.Common.{refl, subst, ℕ, [], ◌∷◌, Option, Some, None, Ok}
use Rattle.tags.specs.declared.token.Cont.{Cont}
use Rattle.tags.specs.declared.token.Word.{Word}
use Rattle.semantics.specs.Machine.{answer}
use Rattle.element.specs.Holding.{Holding, held_in, taken, with_part}
use Rattle.element.specs.Changed.{with_manager, IsReleased}
use Rattle.element.proofs.Acting.{acts, acts_none}
use Rattle.element.proofs.Changing.{released}
use Rattle.element.proofs.contents.Contents.frees.Goals as goal

pub returns-in-Ok-Some-clause-did : goal.returns-in-Ok-Some-clause-did
returns-in-Ok-Some-clause-did g c = λ yes p sound.
    let old : Holding = held_in c.args.self.now in
    let t = c.args._token.now in
    let f = c.args.frame in
    let given : Cont × ℕ = (c.in-Ok-Some.cont, c.in-Ok-Some.frame) in
    let manager = c.release.new.manager in
    let asked = subst (λ (r : Option (Cont × ℕ)). IsReleased old.part.manager f (Ok r) manager) c.in-Ok-Some.field-0-is c.in-Ok-Some.ensures in
    let changes = released p old.part t f old.part.manager manager (Some given) sound.part c.requires.address c.requires.served refl asked in
    acts p old old (taken (with_part old (with_manager old.part manager)) c.args.at) (held_in c.answers.new.self) c.args.at t
    (answer c.in-Ok-Some.cont (Word.Frame c.in-Ok-Some.frame) ∷ []) (with_manager old.part manager) c.args.sent.now.items c.args.sent.now.items
    c.answers.new.sent.items
    refl refl changes refl c.answers.ensures.held c.answers.ensures.sent

pub returns-in-Ok-None-clause-did : goal.returns-in-Ok-None-clause-did
returns-in-Ok-None-clause-did g c = λ yes p sound.
    let old : Holding = held_in c.args.self.now in
    let t = c.args._token.now in
    let f = c.args.frame in
    let manager = c.release.new.manager in
    let asked = subst (λ (r : Option (Cont × ℕ)). IsReleased old.part.manager f (Ok r) manager) c.in-Ok-None.field-0-is c.in-Ok-None.ensures in
    let changes = released p old.part t f old.part.manager manager None sound.part c.requires.address c.requires.served refl asked in
    acts_none p old old (held_in c.is_taken.new.self) c.args.at t (with_manager old.part manager) c.args.sent.now.items c.args.sent.now.items
    refl refl changes c.is_taken.ensures.held
