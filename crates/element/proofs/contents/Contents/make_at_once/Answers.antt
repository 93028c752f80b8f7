use Rattle.std.proofs.Common.{◌≡◌, ◌∙◌, ◌+◌, ◌*◌, ◌≤◌, true, length, arith}
use Rattle.std.specs.Prelude.{vec_len}
use Rattle.std.specs.Vec.{vec_capacity}
use Rattle.std.proofs.lemmas.Grind.{common_steps}
use Rattle.element.specs.Holding.{Holding, held_in}
use Rattle.element.proofs.Turns.{sends_more}
use Rattle.element.proofs.Aside.{others_more}
use Rattle.element.proofs.contents.Contents.make_at_once.Goals as goal

pub returns-then-not-make_part-clause-exact : goal.returns-then-not-make_part-clause-exact
returns-then-not-make_part-clause-exact g c = λ steps most.
    let inv = c.parts.invariant in
    let old : Holding = held_in c.parts.self in
    let so_far = inv.made steps most in
    let counted : old.made + c.parts.left ≡ c.args.self.now.queue.gone + c.args.events = inv.gone in
    let fits : c.min-part.result ≤ c.parts.left = grind (arith, common_steps) in
    let more = c.make_part.ensures.exact steps (omega (arith, counted, fits, most)) in
    sends_more (g.C.Instructions.program c.args.code.now) steps so_far.0 more.0 (held_in c.args.self.now) old (held_in c.make_part.new.self)
    c.args.sent.now.items c.parts.sent.items c.make_part.new.sent.items so_far.1 more.1

pub parts-preserved-then-waiting-lt-MANY : goal.parts-preserved-then-waiting-lt-MANY
parts-preserved-then-waiting-lt-MANY g c =
    let inv = c.parts.invariant in
    let old : Holding = held_in c.parts.self in
    let counted : old.made + c.parts.left ≡ c.args.self.now.queue.gone + c.args.events = inv.gone in
    let fits : c.min-part.result ≤ c.parts.left = grind (arith, common_steps) in
    let yes : c.make_part.result ≡ true = grind (arith, common_steps) in
    let gone : c.make_part.new.self.queue.gone ≡ old.made + c.min-part.result = c.make_part.ensures.all yes in
    let room : length old.queue + 2 * c.parts.left + 1 ≤ c.parts.self.queue.room = inv.room in
    let len : length c.make_part.new.self.queue.items ≤ length old.queue + 2 * c.min-part.result = c.make_part.ensures.len in
    let capacity : c.make_part.new.self.queue.room ≡ c.parts.self.queue.room = c.make_part.ensures.capacity in
    let sent_len : vec_len c.make_part.new.sent ≤ vec_len c.parts.sent + 2 * c.min-part.result = c.make_part.ensures.sent_len in
    let sent_capacity : vec_capacity c.make_part.new.sent ≡ vec_capacity c.parts.sent = c.make_part.ensures.sent_capacity in
    record {
      gone = omega (arith, counted, fits, gone);
      made = λ steps most.
          let so_far = inv.made steps most in
          let more = c.make_part.ensures.exact steps (omega (arith, counted, fits, most)) in
          sends_more (g.C.Instructions.program c.args.code.now) steps so_far.0 more.0 (held_in c.args.self.now) old (held_in c.make_part.new.self)
          c.args.sent.now.items c.parts.sent.items c.make_part.new.sent.items so_far.1 more.1;
      others = λ holds steps most.
          let so_far = inv.others holds steps most in
          let more = c.make_part.ensures.others holds steps (omega (arith, counted, fits, most)) in
          others_more (g.C.Instructions.program c.args.code.now) steps so_far.0 more.0 (held_in c.args.self.now) old (held_in c.make_part.new.self)
          c.args.sent.now.items c.parts.sent.items c.make_part.new.sent.items so_far.1 more.1;
      len = (let before = inv.len in let now = c.make_part.ensures.made_len in omega arith);
      capacity = c.make_part.ensures.capacity ∙ inv.capacity;
      least = (let before = inv.least in let now = c.make_part.ensures.least in omega arith);
      sound = c.make_part.ensures.sound;
      shape = c.make_part.ensures.shape ∙ inv.shape;
      room = omega (arith, room, len, capacity, fits);
      sent_room = λ no. let sent_room = inv.sent_room no in omega (arith, sent_room, sent_len, sent_capacity, fits);
    }

pub returns-then-not-make_part-2-clause-exact : goal.returns-then-not-make_part-2-clause-exact
returns-then-not-make_part-2-clause-exact g c = λ steps most.
    let inv = c.parts.invariant in
    let old : Holding = held_in c.parts.self in
    let so_far = inv.made steps most in
    let counted : old.made + c.parts.left ≡ c.args.self.now.queue.gone + c.args.events = inv.gone in
    let fits : c.min-part-else-waiting-lt-MANY.result ≤ c.parts.left = grind (arith, common_steps) in
    let more = c.make_part-else-waiting-lt-MANY.ensures.exact steps (omega (arith, counted, fits, most)) in
    sends_more (g.C.Instructions.program c.args.code.now) steps so_far.0 more.0 (held_in c.args.self.now) old (held_in c.make_part-else-waiting-lt-MANY.new.self)
    c.args.sent.now.items c.parts.sent.items c.make_part-else-waiting-lt-MANY.new.sent.items so_far.1 more.1

pub parts-preserved : goal.parts-preserved
parts-preserved g c =
    let inv = c.parts.invariant in
    let old : Holding = held_in c.parts.self in
    let counted : old.made + c.parts.left ≡ c.args.self.now.queue.gone + c.args.events = inv.gone in
    let fits : c.min-part-else-waiting-lt-MANY.result ≤ c.parts.left = grind (arith, common_steps) in
    let yes : c.make_part-else-waiting-lt-MANY.result ≡ true = grind (arith, common_steps) in
    let gone : c.make_part-else-waiting-lt-MANY.new.self.queue.gone ≡ old.made + c.min-part-else-waiting-lt-MANY.result = c.make_part-else-waiting-lt-MANY.ensures.all yes in
    let room : length old.queue + 2 * c.parts.left + 1 ≤ c.parts.self.queue.room = inv.room in
    let len : length c.make_part-else-waiting-lt-MANY.new.self.queue.items ≤ length old.queue + 2 * c.min-part-else-waiting-lt-MANY.result = c.make_part-else-waiting-lt-MANY.ensures.len in
    let capacity : c.make_part-else-waiting-lt-MANY.new.self.queue.room ≡ c.parts.self.queue.room = c.make_part-else-waiting-lt-MANY.ensures.capacity in
    let sent_len : vec_len c.make_part-else-waiting-lt-MANY.new.sent ≤ vec_len c.parts.sent + 2 * c.min-part-else-waiting-lt-MANY.result = c.make_part-else-waiting-lt-MANY.ensures.sent_len in
    let sent_capacity : vec_capacity c.make_part-else-waiting-lt-MANY.new.sent ≡ vec_capacity c.parts.sent = c.make_part-else-waiting-lt-MANY.ensures.sent_capacity in
    record {
      gone = omega (arith, counted, fits, gone);
      made = λ steps most.
          let so_far = inv.made steps most in
          let more = c.make_part-else-waiting-lt-MANY.ensures.exact steps (omega (arith, counted, fits, most)) in
          sends_more (g.C.Instructions.program c.args.code.now) steps so_far.0 more.0 (held_in c.args.self.now) old (held_in c.make_part-else-waiting-lt-MANY.new.self)
          c.args.sent.now.items c.parts.sent.items c.make_part-else-waiting-lt-MANY.new.sent.items so_far.1 more.1;
      others = λ holds steps most.
          let so_far = inv.others holds steps most in
          let more = c.make_part-else-waiting-lt-MANY.ensures.others holds steps (omega (arith, counted, fits, most)) in
          others_more (g.C.Instructions.program c.args.code.now) steps so_far.0 more.0 (held_in c.args.self.now) old (held_in c.make_part-else-waiting-lt-MANY.new.self)
          c.args.sent.now.items c.parts.sent.items c.make_part-else-waiting-lt-MANY.new.sent.items so_far.1 more.1;
      len = (let before = inv.len in let now = c.make_part-else-waiting-lt-MANY.ensures.made_len in omega arith);
      capacity = c.make_part-else-waiting-lt-MANY.ensures.capacity ∙ inv.capacity;
      least = (let before = inv.least in let now = c.make_part-else-waiting-lt-MANY.ensures.least in omega arith);
      sound = c.make_part-else-waiting-lt-MANY.ensures.sound;
      shape = c.make_part-else-waiting-lt-MANY.ensures.shape ∙ inv.shape;
      room = omega (arith, room, len, capacity, fits);
      sent_room = λ no. let sent_room = inv.sent_room no in omega (arith, sent_room, sent_len, sent_capacity, fits);
    }

pub returns-then-not-make_part-clause-others : goal.returns-then-not-make_part-clause-others
returns-then-not-make_part-clause-others g c = λ holds steps most.
    let inv = c.parts.invariant in
    let old : Holding = held_in c.parts.self in
    let so_far = inv.others holds steps most in
    let counted : old.made + c.parts.left ≡ c.args.self.now.queue.gone + c.args.events = inv.gone in
    let fits : c.min-part.result ≤ c.parts.left = grind (arith, common_steps) in
    let more = c.make_part.ensures.others holds steps (omega (arith, counted, fits, most)) in
    others_more (g.C.Instructions.program c.args.code.now) steps so_far.0 more.0 (held_in c.args.self.now) old (held_in c.make_part.new.self)
    c.args.sent.now.items c.parts.sent.items c.make_part.new.sent.items so_far.1 more.1

pub returns-then-not-make_part-2-clause-others : goal.returns-then-not-make_part-2-clause-others
returns-then-not-make_part-2-clause-others g c = λ holds steps most.
    let inv = c.parts.invariant in
    let old : Holding = held_in c.parts.self in
    let so_far = inv.others holds steps most in
    let counted : old.made + c.parts.left ≡ c.args.self.now.queue.gone + c.args.events = inv.gone in
    let fits : c.min-part-else-waiting-lt-MANY.result ≤ c.parts.left = grind (arith, common_steps) in
    let more = c.make_part-else-waiting-lt-MANY.ensures.others holds steps (omega (arith, counted, fits, most)) in
    others_more (g.C.Instructions.program c.args.code.now) steps so_far.0 more.0 (held_in c.args.self.now) old (held_in c.make_part-else-waiting-lt-MANY.new.self)
    c.args.sent.now.items c.parts.sent.items c.make_part-else-waiting-lt-MANY.new.sent.items so_far.1 more.1
