use Rattle.law_desugar.proofs.CoreIsChecked.{code_is_good, prefix_is_tables, plain_code_is_good}
use Rattle.law_desugar.proofs.desugared_code_is_good.Goals as goal

pub returns : goal.returns
returns c =
    let few = c.tables_are_free.ensures.few in
    let words = code_is_good few c.good_programs_give_good.ensures.good c.placed_programs_are_good.ensures.law c.words_are_placed.ensures.numbers
    c.words_are_placed.ensures.places in
    let prefix = prefix_is_tables few c.prefix_is_free.ensures.law c.tables_are_free.ensures.names c.tables_are_free.ensures.prefix in
    record {
      words = words;
      prefix = prefix;
      plain = plain_code_is_good few c.prefix_is_free.ensures.law c.tables_are_free.ensures.free prefix c.core_is_made.ensures.words c.core_is_made.ensures.spelled words;
    }
