use Rattle.std.proofs.Common.{◌≡◌, ◌∙◌, sym, ap, subst, ℤ, pos, ◌+◌, ◌<◌, ◌∷◌, [], List, length, map, take, get_or, arith, rules}
use mir.Val.{to_z, of_z}
use mir.Syntax.{w64}
use Rattle.std.proofs.lemmas.List.{get_or_default}
use Rattle.std.proofs.lemmas.Grind.{common_steps}
use Rattle.tags.specs.declared.value.Value.TheVariants.{Int}
use Rattle.tags.specs.declared.token.Port.TheVariants.{Left}
use Rattle.tags.specs.declared.token.Word.{Word}
use Rattle.tags.specs.declared.token.To.{To}
use Rattle.tags.specs.declared.token.Token.{Token}
use Rattle.semantics.specs.Rule.{token}
use Rattle.std.proofs.lemmas.List.Elements.{All-weaker}
use Rattle.element.specs.Near.{IsNearToken}
use Rattle.element.specs.Holding.{Holding, Fixed, held_of, fixed_of, bounds_at}
use Rattle.schedule.specs.State.{AllFrom, IsAt, IsNearIn, delivered}
use Rattle.schedule.specs.Starts.{start_tokens}
use Rattle.schedule.proofs.Tokens.{delivered_twice}
use Rattle.schedule.proofs.Memory.{delivered_at}
use Rattle.schedule.proofs.Starting.{start_more}
use Rattle.schedule.proofs.machine.give_inputs.Goals as goal

pub loop-input-init : goal.loop-input-init
loop-input-init g c =
    let got = c.in_ok-receive.ensures.ok in
    record {
      count = c.receive.ensures.count ∙ c.requires.count;
      at = subst (λ (l : List Holding). AllFrom (IsAt c.args.elements) 0 l) (sym got) (delivered_at c.args.elements 0 (start_tokens c.args.first [])
          (map held_of c.args.lanes.now.items) c.requires.at);
      fixed = c.receive.ensures.fixed;
      given = got;
      ip = omega arith;
    }

pub loop-input-preserved : goal.loop-input-preserved
loop-input-preserved g c =
    let old = map held_of c.loop-input.lanes.items in
    let read : ℤ = get_or c.args.inputs.now c.loop-input.input-index (pos 0) in
    let x : ℤ = to_z w64 (of_z w64 read) in
    let low : c.loop-input.input-index < length c.args.inputs.now = grind (arith, common_steps) in
    let same : x ≡ read = search rules in
    let is : x ≡ get_or c.args.inputs.now c.loop-input.input-index x = same ∙ get_or_default c.args.inputs.now c.loop-input.input-index (pos 0) x low in
    let t : Token = token (To.Instr 0 (c.loop-input.ip + 1) Left) (Word.Val (Int x)) in
    let got : map held_of c.receive-in-loop-input.new.lanes.items ≡ delivered (t ∷ []) old = c.in_ok-receive-2.ensures.ok in
    let more = start_more c.args.first c.loop-input.ip c.loop-input.input-index c.args.inputs.now x low is c.loop-input.invariant.ip in
    record {
      count = c.receive-in-loop-input.ensures.count ∙ c.loop-input.invariant.count;
      at = subst (λ (l : List Holding). AllFrom (IsAt c.args.elements) 0 l) (sym got) (delivered_at c.args.elements 0 (t ∷ []) old c.loop-input.invariant.at);
      fixed = c.receive-in-loop-input.ensures.fixed ∙ c.loop-input.invariant.fixed;
      given = got ∙ ap (λ (l : List Holding). delivered (t ∷ []) l) c.loop-input.invariant.given
          ∙ delivered_twice (start_tokens c.args.first (take c.loop-input.input-index c.args.inputs.now)) (t ∷ []) (map held_of c.args.lanes.now.items)
          ∙ ap (λ (ts : List Token). delivered ts (map held_of c.args.lanes.now.items)) more;
      ip = omega arith;
    }

pub receive-requires-in-loop-input-clause-near : goal.receive-requires-in-loop-input-clause-near
receive-requires-in-loop-input-clause-near g c =
    let read : ℤ = get_or c.args.inputs.now c.loop-input.input-index (pos 0) in
    let t : Token = token (To.Instr 0 (c.loop-input.ip + 1) Left) (Word.Val (Int (to_z w64 (of_z w64 read)))) in
    subst (λ (fs : List Fixed). IsNearIn fs t) (sym c.loop-input.invariant.fixed)
    (All-weaker (λ (f : Fixed). 0 < (bounds_at f).frames) (λ (f : Fixed). IsNearToken (bounds_at f) t)
    (λ (f : Fixed) some. record { to = some; word = tt }) (map fixed_of c.args.lanes.now.items) c.requires.frames)

pub returns-in_err-receive-2-clause-fixed : goal.returns-in_err-receive-2-clause-fixed
returns-in_err-receive-2-clause-fixed g c = c.receive-in-loop-input.ensures.fixed ∙ c.loop-input.invariant.fixed

pub returns-clause-fixed : goal.returns-clause-fixed
returns-clause-fixed g c = c.loop-input.invariant.fixed
