-- What a command reads of a file.
use Rattle.std.proofs.Common.{◌≡◌, ℕ, List, ◌++◌, length, take, Bool, true, false, Some, Ok, ap, ◌∙◌, refl, sym}
use Rattle.std.specs.Prelude.{⊤, if◌then◌else◌}
use Rattle.std.proofs.lemmas.List.{take_at}
use Rattle.command_line.specs.declared.inputs.Inputs.{Inputs}
use Rattle.sink.specs.Sends.{Sends}
use Rattle.files.specs.Files.{are_given, inputs_lines}
use Rattle.files.specs.declared.content.Reads.{Reads}
use Rattle.semantics.specs.Graph.{Graph}
use Rattle.semantics.specs.Text.{text_of}
use Rattle.source.specs.Tokens.{inputs_of}
use Rattle.source.specs.Tree.{Program}
use Rattle.lowered_text.specs.Lowers.{Lowers}
use Rattle.lowered_text.specs.Texts.{graph_and_inputs}
use Rattle.commands.specs.Input.{graph_length}
use Rattle.commands.proofs.GraphEnds.{texts_end_at_main}
use Rattle.commands.proofs.PipedRuns.{lowered_graphs_have_texts}
use Rattle.commands.specs.FileInputs.{IsLowered, IsOfProgram, followed, graph_part, inputs_after}

-- what was sent to a vector
pub sent : (E : Type 0) (x : ⊤) (old new text : List ℕ) → Sends {E = E} (Ok x) (Some old) (Some new) text → new ≡ old ++ text
unfolding Sends
sent E x old new text s = s

ends_there : (text : List ℕ) (p : Program) (g : Graph) → Lowers text p g → (rest : List ℕ) → graph_length (text_of g ++ rest) ≡ length (text_of g)
ends_there text p g lowers rest = texts_end_at_main g rest (lowered_graphs_have_texts text p g lowers)

-- the graph with which what `lower` prints begins
graph_of : (text : List ℕ) (p : Program) (g : Graph) → Lowers text p g → (bytes : List ℕ) → bytes ≡ graph_and_inputs text p g → graph_part bytes ≡ text_of g
graph_of text p g lowers bytes is =
    ap graph_part is ∙ (ap (λ (n : ℕ). take n (text_of g ++ inputs_of text)) (ends_there text p g lowers (inputs_of text))
    ∙ take_at (text_of g) (inputs_of text) (length (text_of g)) refl)

pub is_graph : (ins : Inputs) (text bytes input : List ℕ) → IsLowered text bytes → input ≡ graph_part bytes → IsOfProgram Reads.Graph ins text input
is_graph ins text bytes input (p, g, lowers, is) read = (p, g, lowers, read ∙ graph_of text p g lowers bytes is)

pub is_run : (ins : Inputs) (text bytes input : List ℕ) → IsLowered text bytes → input ≡ followed ins bytes → IsOfProgram Reads.Inputs ins text input
is_run ins text bytes input (p, g, lowers, is) read = (p, g, lowers, go (are_given ins) refl)
  where
    go : (given : Bool) → are_given ins ≡ given → input ≡ text_of g ++ inputs_after ins text
    go true e = read ∙ rw e (ap (λ (xs : List ℕ). xs ++ inputs_lines ins) (graph_of text p g lowers bytes is))
    go false e = read ∙ rw e is
