use Rattle.std.proofs.Common.{◌==◌, ap, sym, ◌∙◌}
use Rattle.std.proofs.lemmas.Bool.{le-ltb}
use Rattle.frame_manager.specs.Bits.{bit_of}
use Rattle.frame_manager.specs.Flags.{flag_at}
use Rattle.frame_manager.proofs.Flagged.{flag_by_test, flag_past}
use Rattle.frame_manager.proofs.frames.Frames.is_out.Goals as goal

pub returns-then-frame-self : goal.returns-then-frame-self
returns-then-frame-self g c =
    flag_by_test c.self.inside.count c.self.inside.words.items c.args.frame c.contains.result c.if-frame-self.true
    (c.contains.ensures ∙ ap (λ ws. bit_of ws c.args.frame == 1) c.deref.ensures.value)
    ∙ ap (λ flags. flag_at flags c.args.frame) c.self.view_is

pub returns-else-frame-self : goal.returns-else-frame-self
returns-else-frame-self g c =
    le-ltb _ _ c.if-frame-self.false ∙ sym (flag_past c.self.inside.count c.self.inside.words.items c.args.frame c.if-frame-self.false)
    ∙ ap (λ flags. flag_at flags c.args.frame) c.self.view_is
