use Rattle.json_text.proofs.Strings as Strings
use Rattle.json_text.proofs.law.strings_are_whole.Goals as goal

pub returns : goal.returns
returns c = Strings.strings_are_whole
