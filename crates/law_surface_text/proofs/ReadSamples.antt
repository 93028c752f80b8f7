-- The samples are read: the words are those of their trees. And the first fault of other texts.
use Rattle.std.specs.Prelude.{◌≡◌, ℕ, List, codes, Result, Ok, Err, refl}
use Rattle.source.specs.declared.fault.FaultKind.{FaultKind as CoreFaultKind}
use Rattle.source.specs.declared.fault.FaultKind.TheVariants.{Unexpected, Unended, NotACell}
use Rattle.surface.specs.declared.fault.Fault.{Fault}
use Rattle.surface.specs.declared.fault.FaultKind.TheVariants.{Core}
use Rattle.surface.specs.declared.token.Token.{Token}
use Rattle.surface.specs.Tokens.{lexed}
use Rattle.surface.specs.Words.{Words, program_words}
use Rattle.surface.specs.Samples.{constants_text, constants, counting_text, counting, carrying_text, carrying, counter_hides_text}
use Rattle.surface.specs.Samples.{counter_hides, nested_for_text, nested_for, both_text, both, either_text, either, lets_inside_text}
use Rattle.surface.specs.Samples.{lets_inside, tests_text, tests, tests_under_text, tests_under, chains_text, chains, whens_text, whens}
use Rattle.surface.specs.Samples.{table_text, table, cube_text, cube, built_in_text, built_in, of_pairs_text, of_pairs, own_min_text}
use Rattle.surface.specs.Samples.{own_min, instances_text, instances, passed_on_text, passed_on, numbered_text, numbered, prefixes_text}
use Rattle.surface.specs.Samples.{prefixes}
use Rattle.law_surface_text.specs.Automaton.{parsed}

abbrev parsed_then : List ℕ → Result (List Token) Fault → Result Words Fault
parsed_then text (Ok ts) = parsed text ts
parsed_then text (Err fault) = Err fault

abbrev read : List ℕ → Result Words Fault
read text = parsed_then text (lexed text)

abbrev refused : CoreFaultKind → ℕ → Result Words Fault
refused kind at = Err (record { kind = Core kind; at = at })

constants_read : read constants_text ≡ Ok (program_words constants)
constants_read = refl

counting_read : read counting_text ≡ Ok (program_words counting)
counting_read = refl

carrying_read : read carrying_text ≡ Ok (program_words carrying)
carrying_read = refl

counter_hides_read : read counter_hides_text ≡ Ok (program_words counter_hides)
counter_hides_read = refl

nested_for_read : read nested_for_text ≡ Ok (program_words nested_for)
nested_for_read = refl

both_read : read both_text ≡ Ok (program_words both)
both_read = refl

either_read : read either_text ≡ Ok (program_words either)
either_read = refl

lets_inside_read : read lets_inside_text ≡ Ok (program_words lets_inside)
lets_inside_read = refl

tests_read : read tests_text ≡ Ok (program_words tests)
tests_read = refl

tests_under_read : read tests_under_text ≡ Ok (program_words tests_under)
tests_under_read = refl

chains_read : read chains_text ≡ Ok (program_words chains)
chains_read = refl

whens_read : read whens_text ≡ Ok (program_words whens)
whens_read = refl

table_read : read table_text ≡ Ok (program_words table)
table_read = refl

cube_read : read cube_text ≡ Ok (program_words cube)
cube_read = refl

built_in_read : read built_in_text ≡ Ok (program_words built_in)
built_in_read = refl

of_pairs_read : read of_pairs_text ≡ Ok (program_words of_pairs)
of_pairs_read = refl

own_min_read : read own_min_text ≡ Ok (program_words own_min)
own_min_read = refl

instances_read : read instances_text ≡ Ok (program_words instances)
instances_read = refl

passed_on_read : read passed_on_text ≡ Ok (program_words passed_on)
passed_on_read = refl

numbered_read : read numbered_text ≡ Ok (program_words numbered)
numbered_read = refl

prefixes_read : read prefixes_text ≡ Ok (program_words prefixes)
prefixes_read = refl

when_in_a_list : read (codes "fn f(n) { if n { 1 }, 2 }") ≡ refused Unexpected 20
when_in_a_list = refl

when_at_the_end : read (codes "fn f(n) { if n { 1 } }") ≡ refused Unexpected 21
when_at_the_end = refl

not_under_a_sum : read (codes "fn f(n) { 1 + not n }") ≡ refused Unexpected 14
not_under_a_sum = refl

store_to_a_sum : read (codes "fn f(n) { n + 1 := 2 }") ≡ refused NotACell 16
store_to_a_sum = refl

open_for : read (codes "fn f(n) { for i in 0..n") ≡ refused Unended 23
open_for = refl
