use Rattle.std.proofs.Common.{◌+◌, ◌*◌, arith, rules, ap, ◌∙◌, length-drop}
use Rattle.std.proofs.lemmas.List.{take_all}
use Rattle.object_view.specs.Fields.{word_at}
use Rattle.object_view.specs.Reading.{instrs_below}
use Rattle.object_view.proofs.Facts.{counts_from}
use Rattle.object_view.proofs.tables.Tables.find.Goals as goal

pub invariant_of-result : goal.invariant_of-result
invariant_of-result c =
    let w = word_at c.args.bytes.now in
    let f = counts_from w c.in_default.ensures.fit in
    record {
      version_parsed = search rules;
      blocks_parsed = c.word_at-blocks.ensures;
      literals_parsed = c.word_at-2.ensures;
      arrays_parsed = c.word_at-3.ensures;
      main_parsed = c.word_at-4.ensures;
      code_follows = take_all _ _ (omega (arith, length-drop (8 * (6 + c.word_at-blocks.result)) c.args.bytes.now));
      instrs_parsed = c.in-Ok.ensures.counted ∙ ap (instrs_below w) c.word_at-blocks.ensures;
      whole = omega (
        arith,
        c.in_default-check_length.ensures.whole,
        c.in-Ok.ensures.counted,
        ap (instrs_below w) c.word_at-blocks.ensures,
        c.word_at-blocks.ensures,
        c.word_at-2.ensures,
        c.word_at-3.ensures,
      );
      main_there = omega (arith, f.main_there, c.word_at-blocks.ensures, c.word_at-4.ensures);
      few_blocks = omega (arith, f.few_blocks, c.word_at-blocks.ensures);
      few_instrs = omega (arith, f.few_blocks, c.word_at-blocks.ensures, c.in-Ok.ensures.few);
      few_literals = omega (arith, f.few_literals, c.word_at-2.ensures);
      few_arrays = omega (arith, f.few_arrays, c.word_at-3.ensures);
    }
