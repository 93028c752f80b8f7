-- Enough frames: what one run of the meaning tells of them; and a run of the text's graph that can start has as many inputs as main.
use Rattle.std.proofs.Common.{◌≡◌, ◌≢◌, ◌⊎◌, inl, inr, refl, sym, ap, ◌∙◌, ℕ, ◌+◌, ℤ, List, length, Option, Some, None}
use Rattle.std.specs.Prelude.{option_map, slice_get}
use Rattle.std.proofs.lemmas.Option.{slice_get-map}
use Rattle.semantics.specs.Graph.{Graph, Block, flow_of}
use Rattle.semantics.specs.Faithful.{inputs_in, inputs_of}
use Rattle.semantics.specs.Program.{Code}
use Rattle.schedule.specs.declared.config.Config.{Config}
use Rattle.schedule.specs.Setting.{inputs_of as inputs_in_code}
use Rattle.oracle.specs.Agreeing.{block_in}
use Rattle.oracle.specs.Calling.{CallsFor}
use Rattle.oracle.specs.Lines.{inputs_at, inputs_in as own_inputs}
use Rattle.oracle.specs.Running.{main_place}
use Rattle.driver.specs.declared.needs.EnoughFrames.{EnoughFrames}
use Rattle.driver.specs.Needs.{AreEnough, AreFramesFor}
use Rattle.driver.specs.Refused.{IsCompiled, IsReadyObject}

-- of the frames for what it calls for
pub enough_of : (g : Graph) (inputs : List ℤ) (activities elements called iterations : ℕ) → CallsFor g inputs activities called iterations
    → (frames : EnoughFrames) → AreFramesFor elements (1 + called) frames → AreEnough g inputs activities elements frames
enough_of g inputs activities elements called iterations calls (EnoughFrames.Each n) h = (called, iterations, calls, h)
enough_of g inputs activities elements called iterations calls (EnoughFrames.TooMany n) h = (called, iterations, calls, h)
enough_of g inputs activities elements called iterations calls EnoughFrames.Untold h = absurd h

same_in_block : (g : Graph) (o : Option (List ℕ × Block (List ℕ))) → own_inputs o ≡ inputs_in (option_map (block_in g) o)
same_in_block g None = refl
same_in_block g (Some b) = refl

-- main has as many inputs in the graph as in its flow
same_inputs : (g : Graph) → inputs_at g (main_place g) ≡ inputs_of (flow_of g)
same_inputs g = same_in_block g (slice_get g.blocks (main_place g)) ∙ ap inputs_in (sym (slice_get-map (block_in g) g.blocks (main_place g)))

inputs_fit : (text : List ℕ) (g : Graph) (bytes : List ℕ) (inputs : List ℤ) (c : Config) → IsCompiled text g bytes → IsReadyObject bytes inputs c
    → length inputs ≡ inputs_at g (main_place g)
inputs_fit text g bytes inputs c k ready =
    ready.inputs_fit ∙ ap (λ (x : Code). inputs_in_code x.program) (ready.only g.version k.object.code k.object.object)
    ∙ k.object.made.inputs ∙ sym (same_inputs g)

pub told_of_text : (text : List ℕ) (g : Graph) (bytes : List ℕ) (inputs : List ℤ) (c : Config) → IsCompiled text g bytes → IsReadyObject bytes inputs c
    → (frames : EnoughFrames)
    → (length inputs ≢ inputs_at g (main_place g)) ⊎ AreEnough g inputs c.steps c.elements frames → AreEnough g inputs c.steps c.elements frames
told_of_text text g bytes inputs c k ready frames (inl unfit) = absurd (unfit (inputs_fit text g bytes inputs c k ready))
told_of_text text g bytes inputs c k ready frames (inr told) = told
