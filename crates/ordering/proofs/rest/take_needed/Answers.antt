use Rattle.std.proofs.Common.{refl, sym, ◌∙◌, ap, List, ◌++◌, take, take-append-drop, slice_get}
use Rattle.lemmas.proofs.SliceGet.{get_some}
use Rattle.tags.specs.declared.token.Token.{Token}
use Rattle.ordering.proofs.Placing.{first_of_dropped}
use Rattle.ordering.proofs.rest.take_needed.Goals as goal

pub returns-clause-taken : goal.returns-clause-taken
returns-clause-taken g c =
    let ts = c.args.rest.needed.now in
    let n = c.take_first-count.result in (
      take n ts,
      sym (take-append-drop n ts) ∙ ap (λ (l : List Token). take n ts ++ l) (sym c.split.ensures.back),
      c.take_first-count.ensures.taken,
      refl,
      refl,
      refl,
    )

pub returns-clause-stuck : goal.returns-clause-stuck
returns-clause-stuck g c some blocks =
    let first = get_some c.split.result.1.now 0 some in (
      first.0,
      first.1,
      c.take_first-count.ensures.missing first.0 (sym (first_of_dropped c.take_first-count.result c.args.rest.needed.now)
          ∙ ap (λ (l : List Token). slice_get l 0) (sym c.split.ensures.back) ∙ first.1),
    )
