use Rattle.std.proofs.Common.{rules, ◌≡◌, ◌↔◌, IsTrue}
use Rattle.surface_check.proofs.OpenParts.{ranks_same}
use Rattle.surface_check.proofs.opened.same_ranks.Goals as goal

pub returns : goal.returns
returns c =
    let equal : IsTrue c.eq.result ↔ (c.args.found.now ≡ c.args.ranks.now) = search rules in
    ranks_same c.eq.result c.args.found.now c.args.ranks.now equal
