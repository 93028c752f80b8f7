use Rattle.std.proofs.Common.{◌≡◌, ◌+◌, ◌++◌, ◌∷◌, [], length, ap, ◌∙◌, rules, arith, length-append}
use Rattle.mesh.specs.Seats.{fresh_seat}
use Rattle.mesh.proofs.Seating.{popped_fresh}
use Rattle.test_meshes.proofs.row.both_seats.Goals as goal

pub returns-clause-zero : goal.returns-clause-zero
returns-clause-zero g c =
    let is : c.args.seats.items ≡ c.pop.new.self.items ++ c.in-Some.one ∷ [] = search rules in
    let also : c.pop.new.self.items ≡ c.pop-2.new.self.items ++ c.in-Some-pop.zero ∷ [] = search rules in
    let two : length c.args.seats.items ≡ length c.pop.new.self.items + 1 = ap length is ∙ length-append c.pop.new.self.items (c.in-Some.one ∷ []) in
    let one : length c.pop.new.self.items ≡ length c.pop-2.new.self.items + 1 = ap length also
    ∙ length-append c.pop-2.new.self.items (c.in-Some-pop.zero ∷ []) in
    let all : length c.args.seats.items ≡ 2 = c.requires.seats.0 in
    let none : length c.pop-2.new.self.items ≡ 0 = omega arith in
    (popped_fresh c.args.mesh.now c.pop-2.new.self.items c.pop.new.self.items c.in-Some-pop.zero also
    (popped_fresh c.args.mesh.now c.pop.new.self.items c.args.seats.items c.in-Some.one is c.requires.seats.1).0).1
    ∙ ap (fresh_seat c.args.mesh.now) none

pub returns-clause-one : goal.returns-clause-one
returns-clause-one g c =
    let is : c.args.seats.items ≡ c.pop.new.self.items ++ c.in-Some.one ∷ [] = search rules in
    let two : length c.args.seats.items ≡ length c.pop.new.self.items + 1 = ap length is ∙ length-append c.pop.new.self.items (c.in-Some.one ∷ []) in
    let all : length c.args.seats.items ≡ 2 = c.requires.seats.0 in
    let one : length c.pop.new.self.items ≡ 1 = omega arith in
    (popped_fresh c.args.mesh.now c.pop.new.self.items c.args.seats.items c.in-Some.one is c.requires.seats.1).1 ∙ ap (fresh_seat c.args.mesh.now) one
