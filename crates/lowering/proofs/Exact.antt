-- What is gone over is the program.
use Rattle.std.proofs.Common.{◌≡◌, ℕ, List, [], ◌∷◌, map, Result, Ok, Err, refl, sym, ◌∙◌, ap}
use Rattle.std.specs.Prelude.{⊤}
use Rattle.source.specs.declared.fault.Fault.{Fault}
use Rattle.semantics.specs.Graph.{Block}
use Rattle.source.specs.declared.word.Word.{Word}
use Rattle.source.specs.Tree.{Name, Program}
use Rattle.source.specs.Words.{name_of}
use Rattle.source.specs.Lowered.{MadeBlock, made_blocks, blocks_of, arrays_of, graph_of, graph_block, lowered, sizes}
use Rattle.source.specs.First.{◌>>=◌}
use Rattle.source.specs.Words.{IsProgram}
use Rattle.source_check.specs.Checked.{IsChecked}
use Rattle.lowering.specs.Plans.{Plan}
use Rattle.lowering.specs.State.{State}
use Rattle.lowering.specs.Functions.{between}
use Rattle.lowering.specs.Machine.{run}
use Rattle.lowering.specs.Blocks.{named_blocks}
use Rattle.lowering.specs.Scan.{gathered_plans}
use Rattle.lowering.specs.Results.{gathered_arrays, gathered_results}
use Rattle.lowering.specs.Numbered.{names_gathered, run_numbered, gathered_table, gathered_cells, gathered_blocks}
use Rattle.lowering.specs.Built.{Places, places_of, IsLowered}
use Rattle.lowering.proofs.Lowers.{machine_lowers, blocks_are_made, blocks_of_graph}
use Rattle.lowering.proofs.ResultsGathered.{results_are_gathered, arrays_are_gathered}
use Rattle.lowering.proofs.Numbers.{same_run, same_arrays, same_results}

pub arrays_exact : (names : List Name) (ws : List (Word ℕ)) (p : Program) → IsProgram names ws p
    → gathered_cells names ws ≡ arrays_of p
arrays_exact names ws p i = same_arrays names ws ∙ ap gathered_arrays i.words.words ∙ arrays_are_gathered p

pub blocks_exact : (names : List Name) (ws : List (Word ℕ)) (p : Program) → IsChecked names ws → IsProgram names ws p
    → gathered_blocks names ws ≡ named_blocks p p
blocks_exact names ws p c i =
    ap (λ s. s.done) (same_run p names (gathered_table names ws)
    (λ n h. same_results names ws i.words.distinct i.words.known n h ∙ ap (λ vs. gathered_results vs (name_of names n)) i.words.words
    ∙ results_are_gathered p (name_of names n))
    ws (between (gathered_plans (names_gathered names ws)) []) i.words.known)
    ∙ ap (λ vs. (run p (between (gathered_plans vs) []) vs).done) i.words.words
    ∙ ap (λ s. s.done) (machine_lowers p 0 i.fits (c.checked p 0 i))

-- the blocks of the graph, and their places
pub graph_exact : (bs : List (Name × MadeBlock)) (p : Program) → bs ≡ named_blocks p p
    → map (λ (b : Name × MadeBlock). graph_block b.0 b.1) bs ≡ blocks_of p p
graph_exact bs p e = ap (λ (cs : List (Name × MadeBlock)). map (λ (b : Name × MadeBlock). graph_block b.0 b.1) cs) e ∙ blocks_of_graph p

pub made_exact : (bs : List (Name × MadeBlock)) (p : Program) → bs ≡ named_blocks p p → map (λ (b : Name × MadeBlock). b.1) bs ≡ made_blocks p p
made_exact bs p e = ap (λ (cs : List (Name × MadeBlock)). map (λ (b : Name × MadeBlock). b.1) cs) e ∙ blocks_are_made p

places_apart : (bs : List (Name × MadeBlock)) → map (λ (b : Name × MadeBlock). places_of b.1) bs ≡ map places_of (map (λ (b : Name × MadeBlock). b.1) bs)
places_apart [] = refl
places_apart (b ∷ bs) = ap (λ ps. places_of b.1 ∷ ps) (places_apart bs)

pub places_exact : (bs : List (Name × MadeBlock)) (p : Program) → bs ≡ named_blocks p p
    → map (λ (b : Name × MadeBlock). places_of b.1) bs ≡ map places_of (made_blocks p p)
places_exact bs p e = places_apart bs ∙ ap (map places_of) (made_exact bs p e)

pub sized : (p : Program) → sizes 0 (made_blocks p p) ≡ Ok tt → lowered p ≡ Ok (graph_of p)
sized p e = ap (λ (r : Result ⊤ Fault). r >>= λ fits. Ok (graph_of p)) e

pub too_big : (p : Program) (f : Fault) → sizes 0 (made_blocks p p) ≡ Err f → lowered p ≡ Err f
too_big p f e = ap (λ (r : Result ⊤ Fault). r >>= λ fits. Ok (graph_of p)) e

-- what the machine made of the words
abbrev pub Made : List Name → List (Word ℕ) → List (Name × ℕ) → List (Name × MadeBlock) → Type 0
Made names ws cells bs = (cells ≡ gathered_cells names ws) × (bs ≡ gathered_blocks names ws)

pub good_exact : (names : List Name) (ws : List (Word ℕ)) (cells : List (Name × ℕ)) (bs seen : List (Name × MadeBlock)) (code : List (Name × Block Name))
    (origins : List Places) (r : Result ⊤ Fault) (u : ⊤) → IsChecked names ws → Made names ws cells bs → seen ≡ bs
    → r ≡ sizes 0 (map (λ (b : Name × MadeBlock). b.1) seen) → r ≡ Ok u
    → code ≡ map (λ (b : Name × MadeBlock). graph_block b.0 b.1) bs → origins ≡ map (λ (b : Name × MadeBlock). places_of b.1) bs
    → (p : Program) → IsProgram names ws p → IsLowered p cells code origins
good_exact names ws cells bs seen code origins r u c m v e h d o p i =
    let b : bs ≡ named_blocks p p = m.1 ∙ blocks_exact names ws p c i in
    let k : sizes 0 (made_blocks p p) ≡ r = ap (sizes 0) (sym (made_exact seen p (v ∙ b))) ∙ sym e in
    record {
      lowered = sized p (k ∙ h);
      arrays = m.0 ∙ arrays_exact names ws p i;
      code = d ∙ graph_exact bs p b;
      places = o ∙ places_exact bs p b;
    }

pub bad_exact : (names : List Name) (ws : List (Word ℕ)) (cells : List (Name × ℕ)) (bs seen : List (Name × MadeBlock)) (r : Result ⊤ Fault) (f : Fault)
    → IsChecked names ws → Made names ws cells bs → seen ≡ bs → r ≡ sizes 0 (map (λ (b : Name × MadeBlock). b.1) seen) → r ≡ Err f
    → (p : Program) → IsProgram names ws p → lowered p ≡ Err f
bad_exact names ws cells bs seen r f c m v e h p i =
    let b : bs ≡ named_blocks p p = m.1 ∙ blocks_exact names ws p c i in
    let k : sizes 0 (made_blocks p p) ≡ r = ap (sizes 0) (sym (made_exact seen p (v ∙ b))) ∙ sym e in
    too_big p f (k ∙ h)

-- the machine over the words, with what they say
pub went : (names gathered_names run_names : List Name) (ws gathered_words run_words : List (Word ℕ)) (t table : List ℕ) (ps : List Plan) (begun ended : State)
    (bs : List (Name × MadeBlock)) → gathered_names ≡ names → gathered_words ≡ ws → run_names ≡ names → table ≡ t → run_words ≡ ws
    → ps ≡ gathered_plans (names_gathered gathered_names gathered_words) → t ≡ gathered_table gathered_names gathered_words → begun ≡ between ps []
    → ended ≡ run_numbered run_names table begun run_words → bs ≡ ended.done
    → bs ≡ gathered_blocks names ws
went names gathered_names run_names ws gathered_words run_words t table ps begun ended bs a b c d e f g h i j =
    let k : ended ≡ run_numbered names (gathered_table names ws) (between (gathered_plans (names_gathered names ws)) []) ws =
    rw (i, c, d, e, h, f, g, a, b) refl in
    j ∙ ap (λ (s : State). s.done) k
