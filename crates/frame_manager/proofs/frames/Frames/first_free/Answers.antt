use Rattle.std.proofs.Common.{◌+◌, ◌*◌, ◌^◌, ◌<◌, ap, sym, subst, ◌∙◌, get_or, arith, w64}
use Rattle.std.specs.Int.{trailing_zeros}
use Rattle.std.proofs.lemmas.List.{get_or_read}
use Rattle.frame_manager.specs.Bits.{bit_of, IsFirst}
use Rattle.frame_manager.specs.Flags.{IsLeastFree}
use Rattle.frame_manager.specs.Managed.{NoneFree}
use Rattle.frame_manager.proofs.Flagged.{none_free, least_free, if_none, word_inside}
use Rattle.frame_manager.proofs.frames.Frames.first_free.Goals as goal

pub returns-in_err-place-clause-none : goal.returns-in_err-place-clause-none
returns-in_err-place-clause-none g c =
    if_none c.from_residual.result _ (subst NoneFree c.self.view_is
    (none_free c.self.inside.count c.self.inside.words.items c.self.inside.groups.items c.self.invariant
    (λ w. ap (λ ws. bit_of ws w) (sym c.deref.ensures.value) ∙ c.in_err-place.ensures.none w)))

pub returns-clause-some : goal.returns-clause-some
returns-clause-some g c =
    let first : IsFirst c.self.inside.groups.items c.in_ok-place.place = subst (λ ws. IsFirst ws c.in_ok-place.place) c.deref.ensures.value
    c.in_ok-place.ensures.some in
    let inside = word_inside c.self.inside.count c.self.inside.words.items c.self.inside.groups.items c.in_ok-place.place c.self.invariant first in
    let read = get_or_read c.self.inside.words.items c.in_ok-place.place c.index-word.result.now inside c.index-word.ensures 0 in
    let fits : get_or c.self.inside.words.items c.in_ok-place.place 0 < 2 ^ 64 = omega (arith, read) in
    subst (λ word. IsLeastFree c.args.self.now (64 * c.in_ok-place.place + trailing_zeros w64 word)) (sym read)
    (subst (λ flags. IsLeastFree flags (64 * c.in_ok-place.place + trailing_zeros w64 (get_or c.self.inside.words.items c.in_ok-place.place 0))) c.self.view_is
    (least_free c.self.inside.count c.self.inside.words.items c.self.inside.groups.items c.in_ok-place.place c.self.invariant first fits))
