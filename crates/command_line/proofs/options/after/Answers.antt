use Rattle.std.proofs.lemmas.Str.Pattern.{strip_prefix_char}
use Rattle.command_line.proofs.WordForms.{after-from}
use Rattle.command_line.proofs.options.after.Goals as goal

pub returns : goal.returns
returns c = after-from c.args.first c.args.word.now c.strip_prefix.result (strip_prefix_char c.args.first c.args.word.now c.strip_prefix.result
    c.strip_prefix.ensures.cases c.requires)
