use Rattle.std.proofs.Common.{◌∙◌, sym, subst, true≢false}
use Rattle.std.specs.Prelude.{IsTrue}
use Rattle.tags.specs.declared.token.Token.{Token}
use Rattle.tags.specs.contracts.token.TokenEq.TheImpl.Laws.{laws-law}
use Rattle.replay.proofs.Same.{same, same_exact}
use Rattle.replay.proofs.ledger.is_same.Goals as goal

pub returns-clause-yes : goal.returns-clause-yes
returns-clause-yes c = λ e. same_exact c.args.left.now c.args.right.now (sym c.eq.ensures ∙ e)

pub returns-clause-no : goal.returns-clause-no
returns-clause-no c = λ e is.
    let t : Token = c.args.left.now in
    let equal : IsTrue (same t c.args.right.now) = subst (λ (u : Token). IsTrue (same t u)) is (laws-law.refl t) in
    true≢false (sym equal ∙ sym c.eq.ensures ∙ e)
