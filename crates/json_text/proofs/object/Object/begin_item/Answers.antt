use Rattle.std.proofs.lemmas.Result.{err_from_is_err_and}
use Rattle.json_text.specs.Json.{list_begin, list_close}
use Rattle.json_text.proofs.Steps.{after, stopped}
use Rattle.json_text.proofs.object.Object.begin_item.Goals as goal

pub returns-in_err-close_list : goal.returns-in_err-close_list
returns-in_err-close_list g c =
    let p = err_from_is_err_and c.from_residual.result c.from_residual.ensures.1 in
    rw p.1 (stopped c.in_err-close_list.field-0.0 p.0 _ _ (list_close c.args.self.now) (list_begin c.args.list.now) c.in_err-close_list.ensures)

pub returns : goal.returns
returns g c =
    after c.close_list.result _ _ _ _ (list_close c.args.self.now) (list_begin c.args.list.now) c.in_ok-close_list.was c.close_list.ensures (c.begin_list.ensures)
