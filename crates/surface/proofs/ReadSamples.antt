-- The texts of the samples have the tokens of their trees, which fit, and keep the rules.
use Rattle.std.specs.Prelude.{◌≡◌, ℕ, List, [], length, Ok, Err, refl}
use Rattle.std.proofs.Common.{arith, inl}
use Rattle.surface.specs.declared.token.Token.{Token}
use Rattle.surface.specs.Tokens.{lexed}
use Rattle.surface.specs.Spelled.{program_tokens}
use Rattle.surface.specs.Parses.{Parses}
use Rattle.surface.specs.Rules.{checked}
use Rattle.surface.specs.Samples.{constants_text, constants, counting_text, counting, carrying_text, carrying, counter_hides_text}
use Rattle.surface.specs.Samples.{counter_hides, nested_for_text, nested_for, both_text, both, either_text, either, lets_inside_text}
use Rattle.surface.specs.Samples.{lets_inside, tests_text, tests, tests_under_text, tests_under, chains_text, chains, whens_text}
use Rattle.surface.specs.Samples.{whens, table_text, table, cube_text, cube, built_in_text, built_in, of_pairs_text, of_pairs}
use Rattle.surface.specs.Samples.{own_min_text, own_min, instances_text, instances, passed_on_text, passed_on, numbered_text, numbered}
use Rattle.surface.specs.Samples.{prefixes_text, prefixes}
use Rattle.surface.proofs.Spelling.{spelled}

abbrev read : List ℕ → List Token
read text = elim (lexed text) as (λ _. List Token) [ Ok ts ↦ ts | Err fault ↦ [] ]

constants_read : Parses constants_text (read constants_text) constants
constants_read = record { fits = (omega arith, ((tt, omega arith, (omega arith, inl (tt)), omega arith), ((omega arith, tt, ((tt, omega arith, tt, omega arith), omega arith, tt, omega arith)), tt))); depth = omega arith; spelled = spelled constants_text (program_tokens constants) (read constants_text) refl refl }

constants_good : checked (length constants_text) constants ≡ Ok tt
constants_good = refl

counting_read : Parses counting_text (read counting_text) counting
counting_read = record { fits = ((omega arith, tt, (tt, omega arith, tt, tt, (tt, omega arith, omega arith, omega arith))), tt); depth = omega arith; spelled = spelled counting_text (program_tokens counting) (read counting_text) refl refl }

counting_good : checked (length counting_text) counting ≡ Ok tt
counting_good = refl

carrying_read : Parses carrying_text (read carrying_text) carrying
carrying_read = record { fits = ((omega arith, omega arith, (omega arith, tt, (tt, omega arith, omega arith, omega arith), ((omega arith, tt), refl), ((tt, omega arith, tt, omega arith), (tt, omega arith, tt, omega arith)))), tt); depth = omega arith; spelled = spelled carrying_text (program_tokens carrying) (read carrying_text) refl refl }

carrying_good : checked (length carrying_text) carrying ≡ Ok tt
carrying_good = refl

counter_hides_read : Parses counter_hides_text (read counter_hides_text) counter_hides
counter_hides_read = record { fits = ((omega arith, tt, (tt, omega arith, tt, tt, (tt, tt))), tt); depth = omega arith; spelled = spelled counter_hides_text (program_tokens counter_hides) (read counter_hides_text) refl refl }

counter_hides_good : checked (length counter_hides_text) counter_hides ≡ Ok tt
counter_hides_good = refl

nested_for_read : Parses nested_for_text (read nested_for_text) nested_for
nested_for_read = record { fits = ((omega arith, tt, (tt, omega arith, tt, tt, (tt, tt, omega arith, (tt, refl), (tt, omega arith, tt, omega arith)))), tt); depth = omega arith; spelled = spelled nested_for_text (program_tokens nested_for) (read nested_for_text) refl refl }

nested_for_good : checked (length nested_for_text) nested_for ≡ Ok tt
nested_for_good = refl

both_read : Parses both_text (read both_text) both
both_read = record { fits = ((omega arith, tt, ((tt, omega arith, tt, omega arith), omega arith, (tt, omega arith, tt, omega arith), omega arith)), tt); depth = omega arith; spelled = spelled both_text (program_tokens both) (read both_text) refl refl }

both_good : checked (length both_text) both ≡ Ok tt
both_good = refl

either_read : Parses either_text (read either_text) either
either_read = record { fits = ((omega arith, tt, (((tt, omega arith, tt, omega arith), omega arith, (tt, omega arith), omega arith), omega arith, omega arith, omega arith)), tt); depth = omega arith; spelled = spelled either_text (program_tokens either) (read either_text) refl refl }

either_good : checked (length either_text) either ≡ Ok tt
either_good = refl

lets_inside_read : Parses lets_inside_text (read lets_inside_text) lets_inside
lets_inside_read = record { fits = ((omega arith, tt, (tt, omega arith, ((tt, omega arith, tt, omega arith), omega arith, tt, omega arith), omega arith)), tt); depth = omega arith; spelled = spelled lets_inside_text (program_tokens lets_inside) (read lets_inside_text) refl refl }

lets_inside_good : checked (length lets_inside_text) lets_inside ≡ Ok tt
lets_inside_good = refl

tests_read : Parses tests_text (read tests_text) tests
tests_read = record { fits = ((omega arith, tt, (omega arith, tt, refl, (((tt, omega arith, omega arith, omega arith), omega arith, ((tt, omega arith, omega arith, omega arith), omega arith, ((tt, omega arith, omega arith, omega arith), omega arith), omega arith), omega arith), (tt, omega arith, omega arith, omega arith)))), tt); depth = omega arith; spelled = spelled tests_text (program_tokens tests) (read tests_text) refl refl }

tests_good : checked (length tests_text) tests ≡ Ok tt
tests_good = refl

tests_under_read : Parses tests_under_text (read tests_under_text) tests_under
tests_under_read = record { fits = ((omega arith, tt, (omega arith, tt, refl, ((tt, omega arith, omega arith, omega arith), ((tt, omega arith, tt, omega arith), omega arith, tt, omega arith)))), tt); depth = omega arith; spelled = spelled tests_under_text (program_tokens tests_under) (read tests_under_text) refl refl }

tests_under_good : checked (length tests_under_text) tests_under ≡ Ok tt
tests_under_good = refl

chains_read : Parses chains_text (read chains_text) chains
chains_read = record { fits = ((omega arith, tt, (tt, omega arith, (refl, refl, (((tt, omega arith, tt, omega arith), omega arith, tt, omega arith), omega arith, omega arith)))), tt); depth = omega arith; spelled = spelled chains_text (program_tokens chains) (read chains_text) refl refl }

chains_good : checked (length chains_text) chains ≡ Ok tt
chains_good = refl

whens_read : Parses whens_text (read whens_text) whens
whens_read = record { fits = (omega arith, ((omega arith, tt, (((tt, omega arith, omega arith, omega arith), (omega arith, omega arith)), ((tt, (omega arith, tt, (tt, tt)), ((tt, omega arith, omega arith, omega arith), ((omega arith, omega arith), omega arith))), omega arith))), tt)); depth = omega arith; spelled = spelled whens_text (program_tokens whens) (read whens_text) refl refl }

whens_good : checked (length whens_text) whens ≡ Ok tt
whens_good = refl

table_read : Parses table_text (read table_text) table
table_read = record { fits = ((omega arith, omega arith), ((omega arith, tt, ((((tt, omega arith, omega arith, omega arith), tt), omega arith), (omega arith, omega arith))), tt)); depth = omega arith; spelled = spelled table_text (program_tokens table) (read table_text) refl refl }

table_good : checked (length table_text) table ≡ Ok tt
table_good = refl

cube_read : Parses cube_text (read cube_text) cube
cube_read = record { fits = ((omega arith, (omega arith, omega arith)), ((omega arith, tt, (tt, (tt, omega arith))), tt)); depth = omega arith; spelled = spelled cube_text (program_tokens cube) (read cube_text) refl refl }

cube_good : checked (length cube_text) cube ≡ Ok tt
cube_good = refl

built_in_read : Parses built_in_text (read built_in_text) built_in
built_in_read = record { fits = ((omega arith, omega arith), ((omega arith, tt, (((tt, (tt, omega arith, omega arith, omega arith)), omega arith, ((omega arith, tt), omega arith, tt, omega arith), omega arith), omega arith, (tt, omega arith), omega arith)), tt)); depth = omega arith; spelled = spelled built_in_text (program_tokens built_in) (read built_in_text) refl refl }

built_in_good : checked (length built_in_text) built_in ≡ Ok tt
built_in_good = refl

of_pairs_read : Parses of_pairs_text (read of_pairs_text) of_pairs
of_pairs_read = record { fits = ((omega arith, omega arith, (tt, (omega arith, inl (tt)))), ((omega arith, tt, tt), tt)); depth = omega arith; spelled = spelled of_pairs_text (program_tokens of_pairs) (read of_pairs_text) refl refl }

of_pairs_good : checked (length of_pairs_text) of_pairs ≡ Ok tt
of_pairs_good = refl

own_min_read : Parses own_min_text (read own_min_text) own_min
own_min_read = record { fits = ((omega arith, tt, tt), ((omega arith, tt, tt), tt)); depth = omega arith; spelled = spelled own_min_text (program_tokens own_min) (read own_min_text) refl refl }

own_min_good : checked (length own_min_text) own_min ≡ Ok tt
own_min_good = refl

instances_read : Parses instances_text (read instances_text) instances
instances_read = record { fits = (omega arith, (omega arith, ((omega arith, tt, tt), ((omega arith, tt, (((tt, tt), omega arith, (tt, tt), omega arith), omega arith, (tt, omega arith), omega arith)), tt)))); depth = omega arith; spelled = spelled instances_text (program_tokens instances) (read instances_text) refl refl }

instances_good : checked (length instances_text) instances ≡ Ok tt
instances_good = refl

passed_on_read : Parses passed_on_text (read passed_on_text) passed_on
passed_on_read = record { fits = (omega arith, ((omega arith, omega arith), ((omega arith, tt, ((tt, tt), omega arith, tt, omega arith)), ((omega arith, tt, ((tt, omega arith), omega arith, (tt, omega arith), omega arith)), ((omega arith, tt, (tt, (tt, tt))), tt))))); depth = omega arith; spelled = spelled passed_on_text (program_tokens passed_on) (read passed_on_text) refl refl }

passed_on_good : checked (length passed_on_text) passed_on ≡ Ok tt
passed_on_good = refl

numbered_read : Parses numbered_text (read numbered_text) numbered
numbered_read = record { fits = (omega arith, (omega arith, ((omega arith, tt, tt), ((omega arith, tt, ((tt, omega arith), omega arith, (tt, omega arith), omega arith)), tt)))); depth = omega arith; spelled = spelled numbered_text (program_tokens numbered) (read numbered_text) refl refl }

numbered_good : checked (length numbered_text) numbered ≡ Ok tt
numbered_good = refl

prefixes_read : Parses prefixes_text (read prefixes_text) prefixes
prefixes_read = record { fits = ((omega arith, tt, ((tt, omega arith, omega arith, omega arith), omega arith, tt, omega arith)), tt); depth = omega arith; spelled = spelled prefixes_text (program_tokens prefixes) (read prefixes_text) refl refl }

prefixes_good : checked (length prefixes_text) prefixes ≡ Ok tt
prefixes_good = refl
