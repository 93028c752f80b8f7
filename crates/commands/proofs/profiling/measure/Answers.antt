use Rattle.std.proofs.Common.{ℕ, List, sym, subst, ◌≡◌, ◌+◌, length, map, refl, false}
use Rattle.schedule.specs.declared.config.Config.{Config}
use Rattle.schedule.specs.declared.take.Take.{Take}
use Rattle.replay.specs.declared.moment.Moment.{Moment}
use Rattle.profile_text.specs.Picture.{greatest_from}
use Rattle.driver.specs.declared.fault.Fault.{Fault}
use Rattle.driver.specs.declared.order.Order.{Order}
use Rattle.driver.specs.ListedEvents.{AreMoments, IsWatched}
use Rattle.driver.specs.Objects.{ShowsObject, RunsObject}
use Rattle.driver.specs.Orders.{RunsByRounds}
use Rattle.driver.specs.Refused.{IsRefused}
use Rattle.driver.proofs.TextObjects.{refused_as_text}
use Rattle.driver.proofs.Truth.{is_watched_in_rounds}
use Rattle.commands.specs.declared.profiling.Quantity.{Quantity}
use Rattle.commands.specs.Profiled.{config_with, quantity_in}
use Rattle.commands.specs.Served.{token_order}
use Rattle.commands.proofs.profiling.measure.Goals as goal

pub returns : goal.returns
returns g c = λ text gr compiled.
    let report = c.in-Ok-watch_rounds.counted.watched.report in
    let moments = c.in-Ok-watch_rounds.counted.watched.moments.items in
    let bytes = c.args.code.now.bytes in
    let rounds = c.in-Ok-watch_rounds.counted.rounds in
    let config = config_with c.args.options.now c.args.elements in
    record {
      graph = gr;
      bytes = bytes;
      report = report;
      moments = moments;
      watched = subst (λ (t : Take). IsWatched (Order.InRounds t) text gr bytes c.args.inputs.now config false report moments) c.token_order.ensures
          (is_watched_in_rounds c.token_order.result text gr bytes c.args.inputs.now config false report moments compiled
          (subst (λ (d : Config). ShowsObject bytes c.args.inputs.now d false false report) c.config_with-config.ensures c.in-Ok-watch_rounds.ensures.shows)
          (subst (λ (d : Config). AreMoments bytes c.args.inputs.now d report moments) c.config_with-config.ensures c.in-Ok-watch_rounds.ensures.moments));
      kept = c.wants_memory.ensures c.if-wants_memory.false;
      number = c.row_of.ensures.number;
      rounds = subst (λ (n : ℕ). RunsObject bytes c.args.inputs.now config (RunsByRounds (token_order c.args.options.now.take) false n) report)
          (sym c.row_of.ensures.rounds) (subst (λ (t : Take). RunsObject bytes c.args.inputs.now config (RunsByRounds t false rounds) report)
          c.token_order.ensures (subst (λ (d : Config). RunsObject bytes c.args.inputs.now d (RunsByRounds c.token_order.result false rounds) report)
          c.config_with-config.ensures c.in-Ok-watch_rounds.ensures.rounds));
      tokens = subst (λ (l : List Moment). c.row_of.result.tokens ≡ greatest_from (length c.args.inputs.now + 1) (map (quantity_in Quantity.Tokens) l))
          c.deref.ensures.value c.row_of.ensures.tokens;
      slots = subst (λ (l : List Moment). c.row_of.result.slots ≡ greatest_from 0 (map (quantity_in Quantity.Slots) l)) c.deref.ensures.value
          c.row_of.ensures.slots;
      frames = subst (λ (l : List Moment). c.row_of.result.frames ≡ greatest_from 1 (map (quantity_in Quantity.Frames) l)) c.deref.ensures.value
          c.row_of.ensures.frames;
      end = c.row_of.ensures.end;
      waiting = c.row_of.ensures.waiting;
    }

pub returns-in_default : goal.returns-in_default
returns-in_default g c = λ text gr compiled. (Fault.Memory, tt, refl)

pub returns-then-wants_memory : goal.returns-then-wants_memory
returns-then-wants_memory g c = λ text gr compiled. (Fault.Memory, tt, refl)

pub returns-in-Err : goal.returns-in-Err
returns-in-Err g c = λ text gr compiled. (
  c.in-Err.fault,
  subst (λ (d : Config). IsRefused text c.args.inputs.now d c.in-Err.fault) c.config_with-config.ensures
      (refused_as_text text gr c.args.code.now.bytes c.args.inputs.now c.config_with-config.result compiled c.in-Err.fault c.in-Err.ensures.shows),
  c.fault_refusal.ensures,
)
