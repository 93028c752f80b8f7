use Rattle.std.proofs.Common.{◌≡◌, ℕ, ◌/◌, subst, arith}
use Rattle.tags.specs.declared.token.Port.{Port}
use Rattle.tags.specs.declared.token.To.{To}
use Rattle.tags.specs.declared.token.Token.{Token}
use Rattle.packed.proofs.TokensBack.{low_is_instr}
use Rattle.packed.proofs.token.PackedToken.frame.Goals as goal

pub returns-clause-some : goal.returns-clause-some
returns-clause-some c =
    let i = c.self.inside in
    subst (λ (t : Token). (ip : ℕ) × (p : Port) × (t.to ≡ To.Instr (i.place / 4294967296) ip p)) c.self.view_is
    (low_is_instr i.head i.body i.place i.value c.self.invariant (omega arith))
