use Rattle.std.proofs.Common.{◌∙◌, ap, map}
use Rattle.std.proofs.lemmas.Result.{IfOk-weaker}
use Rattle.code_map.proofs.Passes.{map_owned}
use Rattle.code_map.proofs.code_map.Goals as goal

pub returns : goal.returns
returns g c =
    let owners = ap (map (λ os. os.items)) c.deref.ensures.value ∙ c.in_ok-owners.ensures in
    record {
      exact = IfOk-weaker c.joined.result _ _
          (λ v join. map_owned c.args.checked.now _ _ _ _ _ v.items c.in_ok-plan.ensures.exact owners c.in_ok-numbered.ensures
          c.in_ok-folded.ensures.exact c.in_ok-narrowed.ensures.exact join) c.joined.ensures;
    }
