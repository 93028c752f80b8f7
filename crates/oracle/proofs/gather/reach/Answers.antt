use Rattle.std.proofs.Common.{map, ap, ◌∙◌}
use Rattle.oracle.specs.Rows.{rows_of}
use Rattle.oracle.proofs.RowLists.{row_added}
use Rattle.oracle.proofs.gather.reach.Goals as goal

pub loop-rows-preserved : goal.loop-rows-preserved
loop-rows-preserved g c =
    ap (λ xs. rows_of (map (λ v. v.items) xs)) c.in_ok-push.ensures.items ∙ row_added (λ v. v.items) c.loop-rows.rows.items c.new.result c.new.ensures.items
    ∙ c.loop-rows.invariant
