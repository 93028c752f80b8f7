use Rattle.std.proofs.Common.{sym, ap}
use Rattle.profile_text.specs.ProfileText.{whole_of, hundredths_of}
use Rattle.profile_text.proofs.numbers.parallelism_of.Goals as goal

pub returns-then-span-eq0-clause-whole : goal.returns-then-span-eq0-clause-whole
returns-then-span-eq0-clause-whole c = sym (ap (whole_of c.args.work) c.if-span-eq0.true)

pub returns-then-span-eq0-clause-hundredths : goal.returns-then-span-eq0-clause-hundredths
returns-then-span-eq0-clause-hundredths c = sym (ap (hundredths_of c.args.work) c.if-span-eq0.true)
