use Rattle.std.proofs.Common.{◌<◌, ◌^◌, sym, subst}
use Rattle.tags.specs.declared.token.Cont.{Cont}
use Rattle.tags.specs.declared.token.Word.{Word}
use Rattle.element.specs.Fired.{HasRoom, HasRoomInWord}
use Rattle.element.proofs.firing.pairs.ReleasesPair.release.Goals as goal

pub further-ip-requires : goal.further-ip-requires
further-ip-requires c =
    let back : HasRoomInWord (Word.Back c.in-Back-Frame.field-0) = subst (λ (w : Word). HasRoomInWord w) (sym c.in-Back-Frame.ensures) c.requires.room in
    let few : c.in-Back-Frame.ip < 2 ^ 31 = subst (λ (k : Cont). HasRoom k) c.in-Back-Frame.field-0-is back in
    few
