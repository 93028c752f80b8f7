use Rattle.std.proofs.Common.{◌≡◌, ◌⊎◌, ◌∙◌, ap, sym, subst, ℕ, List, length, Err}
use Rattle.source.specs.Tokens.{program_of}
use Rattle.source.specs.Rules.{checked}
use Rattle.source.specs.Words.{NamedWords, IsProgram}
use Rattle.source_check.specs.declared.Checked.{Checked}
use Rattle.source_check.specs.Stack.{out_of_memory}
use Rattle.lowered_text.specs.Lowers.{of_rules}
use Rattle.lowered_text.proofs.Refused.{Tree, tree_of, reported_of, later_fault}
use Rattle.lowered_text.proofs.programs.good_source.Goals as goal

pub returns-in-Err : goal.returns-in-Err
returns-in-Err g c = λ text r.
    let s = c.args.source in
    let t : Tree text s.program.names s.program.words = tree_of text s.text.now s.program.names s.program.words s.inputs.now r in
    reported_of text s.text.now c.in-Err.broken.fault c.reported.result r.text_is (later_fault text c.in-Err.broken.fault (of_rules t.tree t.of_text)
    (subst (λ (xs : List ℕ). (c.in-Err.broken.fault ≡ out_of_memory) ⊎ (checked (length xs) t.tree ≡ Err c.in-Err.broken.fault)) r.text_is
    (c.in-Err.ensures.refused t.tree t.words)))
    c.reported.ensures

pub returns-in-Ok-name_loops : goal.returns-in-Ok-name_loops
returns-in-Ok-name_loops g c = λ text r.
    let s = c.args.source in
    let t : Tree text s.program.names s.program.words = tree_of text s.text.now s.program.names s.program.words s.inputs.now r in
    let P : NamedWords → Type 0 = λ ws. IsProgram ws.names ws.words t.tree in
    let same : c.in-Ok-name_loops.named.checked.program ≡ s.program =
    ap (λ (k : Checked g.row.A.Denot). k.program) c.in-Ok-name_loops.ensures.same ∙ c.in-Ok.ensures.same in
    record {
      text_is = r.text_is;
      inputs_are = r.inputs_are;
      tree = t.tree;
      good = record {
        program = t.of_text;
        checked = c.in-Ok.checked.checked.checked t.tree (length (program_of text)) (subst P (sym c.in-Ok.ensures.same) t.words);
      };
      words = subst P (sym same) t.words;
    }
