use Rattle.std.proofs.Common.{◌≡◌, refl, sym, ◌∙◌, subst, ℕ, [], ◌∷◌, Option, Some, None, Ok}
use Rattle.tags.specs.declared.token.Word.{Word}
use Rattle.semantics.specs.Machine.{answer}
use Rattle.element.specs.Holding.{Holding, held_in, taken, with_part}
use Rattle.element.specs.Changed.{with_manager, IsRequested}
use Rattle.element.proofs.Acting.{acts, acts_none}
use Rattle.element.proofs.Changing.{requested}
use Rattle.element.proofs.contents.Contents.grants.Goals as goal

pub returns-in-Ok-Some-clause-did : goal.returns-in-Ok-Some-clause-did
returns-in-Ok-Some-clause-did g c = λ yes p sound near.
    let old : Holding = held_in c.args.self.now in
    let t = c.args.token.now in
    let cont = c.in-Back.cont in
    let manager = c.request_within.new.manager in
    let word : t.word ≡ Word.Back cont = sym c.word.ensures ∙ sym c.unpack.ensures ∙ c.in-Back.is in
    let asked = subst (λ (r : Option ℕ). IsRequested old.part.manager cont (Ok r) manager) c.in-Ok-Some.field-0-is c.in-Ok-Some.ensures in
    let changes = requested p old.part t cont old.part.manager manager (Some c.in-Ok-Some.frame) sound.part c.requires.address word near
    c.requires.served refl asked in
    acts p old old (taken (with_part old (with_manager old.part manager)) c.args.at) (held_in c.answers.new.self) c.args.at t
    (answer cont (Word.Frame c.in-Ok-Some.frame) ∷ []) (with_manager old.part manager) c.args.sent.now.items c.args.sent.now.items
    c.answers.new.sent.items
    refl refl changes refl c.answers.ensures.held c.answers.ensures.sent

pub returns-in-Ok-None-clause-did : goal.returns-in-Ok-None-clause-did
returns-in-Ok-None-clause-did g c = λ yes p sound near.
    let old : Holding = held_in c.args.self.now in
    let t = c.args.token.now in
    let cont = c.in-Back.cont in
    let manager = c.request_within.new.manager in
    let word : t.word ≡ Word.Back cont = sym c.word.ensures ∙ sym c.unpack.ensures ∙ c.in-Back.is in
    let asked = subst (λ (r : Option ℕ). IsRequested old.part.manager cont (Ok r) manager) c.in-Ok-None.field-0-is c.in-Ok-None.ensures in
    let changes = requested p old.part t cont old.part.manager manager None sound.part c.requires.address word near c.requires.served refl asked in
    acts_none p old old (held_in c.is_taken.new.self) c.args.at t (with_manager old.part manager) c.args.sent.now.items c.args.sent.now.items
    refl refl changes c.is_taken.ensures.held
