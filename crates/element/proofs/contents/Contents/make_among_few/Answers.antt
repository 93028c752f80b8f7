use Rattle.std.proofs.Common.{◌≡◌, sym, ◌∙◌, ap, subst, suc, ◌+◌, ◌-◌, ◌*◌, ◌<◌, ◌≤◌, true, false, List, length, get_or, arith}
use Rattle.std.specs.Prelude.{vec_len}
use Rattle.std.proofs.lemmas.Grind.{common_steps}
use Rattle.tags.specs.declared.token.Token.{Token}
use Rattle.element.specs.declared.lane.Stepped.TheVariants.{Did}
use Rattle.element.specs.Holding.{Holding, held_in}
use Rattle.element.specs.Acts.{Acts}
use Rattle.element.specs.Steps.{SendsEvents}
use Rattle.element.specs.ByDepth.{SendsOthers}
use Rattle.element.proofs.Stepping.{sound_as, shape_as}
use Rattle.element.proofs.Turns.{oldest, oldest_acts, one_event_more, fewer_by_one}
use Rattle.element.proofs.Aside.{one_other_more}
use Rattle.element.proofs.contents.Contents.make_among_few.Goals as goal

pub events-preserved : goal.events-preserved
events-preserved g c =
    let p = g.C.Instructions.program c.args.code.now in
    let inv = c.events.invariant in
    let start : Holding = held_in c.args.self.now in
    let first = c.args.sent.now.items in
    let old : Holding = held_in c.events.self in
    let before = c.events.sent.items in
    let new : Holding = held_in c.acts_at_once.new.self in
    let after = c.acts_at_once.new.sent.items in
    let t = c.oldest-token.result in
    let end = c.gone-gone.result + c.args.events in
    let so_far : c.events.gone ≡ old.made = inv.gone in
    let may : c.may_take.result ≡ true = grind (arith, common_steps) in
    let waits : c.events.gone < c.may_take.new.stop = c.may_take.ensures.yes may in
    let within : c.may_take.new.stop ≤ end = c.may_take.ensures.stop in
    let waiting : c.may_take.new.stop ≤ c.events.gone + length old.queue = c.may_take.ensures.waiting in
    let more : c.events.gone < end = omega (arith, waits, within) in
    let some : 0 < length old.queue = omega (arith, waits, waiting) in
    let yes : c.acts_at_once.result ≡ true = grind (arith, common_steps) in
    let oldest_is : t ≡ get_or old.queue 0 t = c.oldest-token.ensures in
    let acts : Acts p old 0 t before new after = c.acts_at_once.ensures.did yes in
    let at = oldest_acts p old t before Did new after acts in
    let count : new.made ≡ old.made + 1 = ap (λ (h : Holding). h.made) acts.held in
    let fewer : length old.queue ≤ length new.queue + 1 = fewer_by_one p old t before new after acts some in
    let len : length new.queue ≤ length old.queue + 2 = c.acts_at_once.ensures.len in
    let sent_len : vec_len c.acts_at_once.new.sent ≤ vec_len c.events.sent + 2 = c.acts_at_once.ensures.sent_len in
    let before_len : length old.queue + 2 * (end - c.events.gone) ≤ length c.args.self.now.queue.items + 2 * c.args.events = inv.len in
    let before_sent : vec_len c.events.sent + 2 * (end - c.events.gone) ≤ vec_len c.args.sent.now + 2 * c.args.events = inv.sent_len in
    record {
      gone = omega arith;
      before = omega arith;
      within = within;
      waiting = omega (arith, waiting, fewer);
      made = λ steps most.
          let few : old.made < steps = omega arith in
          let made = inv.made steps most in
          (suc made.0, one_event_more p steps made.0 start old new t first before after made.1 inv.sound some oldest_is few acts);
      others = λ holds steps most.
          let few : old.made < steps = omega arith in
          let made = inv.others holds steps most in (
            suc made.0,
            one_other_more p steps made.0 start old new t first before after made.1 inv.sound some oldest_is few acts (c.acts_at_once.ensures.held holds yes),
          );
      least = (let l = inv.least in omega arith);
      sound = sound_as p old 0 t before inv.sound some (oldest old t oldest_is) Did new after at;
      shape = shape_as p old 0 t before inv.sound some (oldest old t oldest_is) Did new after at ∙ inv.shape;
      len = omega arith;
      capacity = c.acts_at_once.ensures.capacity ∙ inv.capacity;
      sent_len = omega arith;
      sent_capacity = c.acts_at_once.ensures.sent_capacity ∙ inv.sent_capacity;
    }

pub returns-then-not-acts_at_once-clause-exact : goal.returns-then-not-acts_at_once-clause-exact
returns-then-not-acts_at_once-clause-exact g c = λ steps most.
    let p = g.C.Instructions.program c.args.code.now in
    let start : Holding = held_in c.args.self.now in
    let first = c.args.sent.now.items in
    let no : c.acts_at_once.result ≡ false = grind (arith, common_steps) in
    let begun : c.gone-gone.result ≡ start.made = c.gone-gone.ensures in
    let made = c.events.invariant.made steps (omega (arith, begun, most)) in (
      made.0,
      subst (λ (ts : List Token). SendsEvents p steps made.0 start first (held_in c.acts_at_once.new.self) ts) (sym (c.acts_at_once.ensures.unsent no))
          (subst (λ (h : Holding). SendsEvents p steps made.0 start first h c.events.sent.items) (sym (c.acts_at_once.ensures.not no)) made.1),
    )

pub returns-then-not-acts_at_once-clause-others : goal.returns-then-not-acts_at_once-clause-others
returns-then-not-acts_at_once-clause-others g c = λ holds steps most.
    let p = g.C.Instructions.program c.args.code.now in
    let start : Holding = held_in c.args.self.now in
    let first = c.args.sent.now.items in
    let no : c.acts_at_once.result ≡ false = grind (arith, common_steps) in
    let begun : c.gone-gone.result ≡ start.made = c.gone-gone.ensures in
    let made = c.events.invariant.others holds steps (omega (arith, begun, most)) in (
      made.0,
      subst (λ (ts : List Token). SendsOthers p steps made.0 start first (held_in c.acts_at_once.new.self) ts) (sym (c.acts_at_once.ensures.unsent no))
          (subst (λ (h : Holding). SendsOthers p steps made.0 start first h c.events.sent.items) (sym (c.acts_at_once.ensures.not no)) made.1),
    )
