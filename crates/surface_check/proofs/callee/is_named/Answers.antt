use Rattle.std.proofs.Common.{rules, ◌≡◌, ◌↔◌, IsTrue}
use Rattle.surface_check.proofs.Places.{is_same_name}
use Rattle.surface_check.proofs.callee.is_named.Goals as goal

pub returns : goal.returns
returns c =
    let equal : IsTrue c.eq.result ↔ (c.args.name.now ≡ c.args.text.now) = search rules in
    is_same_name c.eq.result c.args.name.now c.args.text.now equal
