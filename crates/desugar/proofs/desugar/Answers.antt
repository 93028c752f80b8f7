use Rattle.std.proofs.Common.{◌≡◌, ◌∙◌, sym, ap, ℕ, List, [], Bool, None, drop}
use Rattle.std.proofs.lemmas.List.{drop_all}
use Rattle.surface.specs.declared.word.Word.{Word}
use Rattle.desugar.specs.Code.{numbers}
use Rattle.desugar.specs.NumbersDesugar.{begun}
use Rattle.desugar.specs.Open.{flags_of}
use Rattle.desugar.specs.Passed.{paired}
use Rattle.desugar.specs.Steps.{State, steps}
use Rattle.desugar.proofs.Backward.{flagged_paired}
use Rattle.desugar.proofs.desugar.Goals as goal

pub returns : goal.returns
returns g c =
    let ws : List (Word ℕ) = c.args.words.now in
    let fs : List Bool = c.in_ok-flags.flags.items in
    let i = c.loop-index.index in
    let t = numbers c.args.table.now.entries c.args.names in
    let made : State ℕ = c.loop-index.maker in
    let none : drop i ws ≡ [] = drop_all i ws c.loop-index-test.false in
    let done : steps t made (paired (drop i ws) (drop i fs)) ≡ made = ap (λ (xs : List (Word ℕ)). steps t made (paired xs (drop i fs))) none in
    let found : fs ≡ flags_of None ws = c.in_ok-flags.ensures.flags in
    let all = sym done ∙ c.loop-index.invariant ∙ ap (λ (xs : List Bool). steps t begun (paired ws xs)) found
    ∙ ap (λ (ps : List (Word ℕ × Bool)). steps t begun ps) (flagged_paired None ws) in
    c.into_words.ensures ∙ ap (λ (s : State ℕ). s.words) all
