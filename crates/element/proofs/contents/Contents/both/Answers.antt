use Rattle.std.proofs.Common.{sym, subst, Option, List}
use Rattle.tags.specs.declared.token.Token.{Token}
use Rattle.tags.specs.declared.slot.SlotState.TheVariants.{Empty}
use Rattle.element.specs.Fired.{point_of}
use Rattle.element.specs.Holding.{Holding, held_in}
use Rattle.element.specs.Changed.{with_state}
use Rattle.element.specs.Acts.{FiresAs}
use Rattle.element.specs.declared.lane.Stepped.TheVariants.{Did}
use Rattle.element.proofs.contents.Contents.both.Goals as goal

pub returns-in-Some-clause-did : goal.returns-in-Some-clause-did
returns-in-Some-clause-did g c = λ yes.
    let before = c.args.sent.now.items in
    let old : Holding = held_in c.args.self.now in
    let made : Option (List Token) → Type 0 = λ m. FiresAs m (with_state old.part c.args.place Empty) old c.args.arrival.now.at before Did
    (held_in c.pass.new.self) before in
    subst made (sym (c.in-Some.ensures (g.C.Instructions.program c.args.code.now) (point_of c.args.arrival.now.point))) (c.pass.ensures.did yes before)

pub returns-in-Some-leave-clause-did : goal.returns-in-Some-leave-clause-did
returns-in-Some-leave-clause-did g c = λ yes.
    let before = c.args.sent.now.items in
    let after = c.pass_out.new.sent.items in
    let old : Holding = held_in c.args.self.now in
    let made : Option (List Token) → Type 0 = λ m. FiresAs m (with_state old.part c.args.place Empty) old c.args.arrival.now.at before Did
    (held_in c.pass_out.new.self) after in
    subst made (sym c.in-Some-leave.ensures) (c.pass_out.ensures.did yes)

pub returns-in-Some-release-clause-did : goal.returns-in-Some-release-clause-did
returns-in-Some-release-clause-did g c = λ yes.
    let before = c.args.sent.now.items in
    let after = c.release-in-Some-release.new.sent.items in
    let old : Holding = held_in c.args.self.now in
    let made : Option (List Token) → Type 0 = λ m. FiresAs m (with_state old.part c.args.place Empty) old c.args.arrival.now.at before Did
    (held_in c.release-in-Some-release.new.self) after in
    subst made (sym (c.in-Some-release.ensures (g.C.Instructions.program c.args.code.now))) (c.release-in-Some-release.ensures.did yes)
