use Rattle.std.proofs.Common.{◌∙◌}
use Rattle.object_view.proofs.Codes.{operator_known, flag_known}
use Rattle.object_view.proofs.words.Head.known_operator.Goals as goal

pub with_flag-requires : goal.with_flag-requires
with_flag-requires c = flag_known c.args.self.word c.args.op c.requires.there c.requires.code

pub returns : goal.returns
returns c = operator_known c.args.self.word c.args.op c.requires.code ∙ c.with_flag.ensures
