use Rattle.std.proofs.Common.{◌≡◌, refl, sym, ap, ◌∙◌, List, [], ◌∷◌, ◌++◌, drop, arith}
use Rattle.std.proofs.lemmas.List.{drop_all, append-nil}
use Rattle.source.specs.declared.word.Word.{Word}
use Rattle.desugar.specs.declared.frame.Given.{Given}
use Rattle.desugar.specs.Forms.{carried_firsts}
use Rattle.desugar.proofs.forms.push_carried_firsts.Goals as goal

none_first : {N : Type 0} (xs : List (Given N)) → carried_firsts xs [] ≡ []
none_first [] = refl
none_first (x ∷ xs) = refl

pub returns-else-index-firsts : goal.returns-else-index-firsts
returns-else-index-firsts g c =
    let i = c.loop-index.index in
    let none = drop_all i c.args.firsts.now (omega arith) in
    let words = c.loop-index.words.items in
    let names = drop i c.args.names.now in
    sym (append-nil words) ∙ ap (λ (ws : List (Word _)). words ++ ws) (sym (none_first names) ∙ ap (λ fs. carried_firsts names fs) (sym none)) ∙ c.loop-index.invariant
