use Rattle.std.proofs.Common.{◌≡◌, ◌∙◌, ap, ℤ, pos, ◌+◌, ◌<◌, ◌∷◌, ◌++◌, [], List, length, get_or, arith, rules}
use mir.Val.{to_z, of_z}
use mir.Syntax.{w64}
use Rattle.std.proofs.lemmas.List.{get_or_default}
use Rattle.std.proofs.lemmas.Grind.{common_steps}
use Rattle.tags.specs.declared.value.Value.TheVariants.{Int}
use Rattle.tags.specs.declared.token.Port.TheVariants.{Left}
use Rattle.tags.specs.declared.token.Word.{Word}
use Rattle.tags.specs.declared.token.To.{To}
use Rattle.tags.specs.declared.token.Token.{Token}
use Rattle.semantics.specs.Rule.{token}
use Rattle.replay.proofs.Ledgers.{start_more}
use Rattle.replay.proofs.ledger.start_tokens.Goals as goal

pub loop-input-preserved : goal.loop-input-preserved
loop-input-preserved g c =
    let read : ℤ = get_or c.args.inputs.now c.loop-input.input-index (pos 0) in
    let x : ℤ = to_z w64 (of_z w64 read) in
    let low : c.loop-input.input-index < length c.args.inputs.now = grind (arith, common_steps) in
    let same : x ≡ read = search rules in
    let is : x ≡ get_or c.args.inputs.now c.loop-input.input-index x = same ∙ get_or_default c.args.inputs.now c.loop-input.input-index (pos 0) x low in
    let t : Token = token (To.Instr 0 (c.loop-input.ip + 1) Left) (Word.Val (Int x)) in
    let place = c.loop-input.invariant.ip in
    record {
      items = c.in_ok-push-2.ensures.items
          ∙ ap (λ (ts : List Token). ts ++ t ∷ []) c.loop-input.invariant.items
          ∙ start_more c.args.main c.loop-input.ip c.loop-input.input-index c.args.inputs.now x low is place;
      ip = omega (arith, place);
    }
