-- Main's body is active in the run's first invocation, and its parameters agree with the inputs.
use Rattle.std.proofs.Common.{◌≡◌, ℕ, ◌<◌, ℤ, Bool, true, false, List, [], ◌∷◌, length, map, is_some, Option, Some, None, Ok, if◌then◌else◌, refl, sym, ap, ◌∙◌}
use Rattle.std.proofs.Common.{subst, arith}
use Rattle.std.specs.Prelude.{slice_get}
use Rattle.std.proofs.lemmas.List.{length-map}
use Rattle.lemmas.proofs.SliceGet.{map_get_back}
use Rattle.std.proofs.lemmas.Option.{slice_get_within, same_Some}
use Rattle.tags.specs.declared.value.Value.{Value}
use Rattle.tags.specs.declared.value.Value.TheVariants.{Int}
use Rattle.tags.specs.declared.value.Origin.{Origin}
use Rattle.semantics.specs.declared.graph.Source.{Source}
use Rattle.semantics.specs.Graph.{Block, Graph, node_count, place_of, same_name, block_names, flow_of}
use Rattle.semantics.specs.WellFormed.{WellFormed}
use Rattle.semantics.specs.Meaning.{Main, State, Activity, Run, Stood, block_of, start}
use Rattle.semantics.specs.Faithful.{inputs_in}
use Rattle.semantics.proofs.Lines.{same_name_is}
use Rattle.law_confluence.specs.Outcome.{AreInputsOf}
use Rattle.law_confluence.specs.Equations.{Has}
use Rattle.law_confluence.specs.EquationsSettled.{Settled}
use Rattle.law_confluence.proofs.EquationsGraphFormed.{shaped}
use Rattle.source.specs.declared.fault.FaultKind.TheVariants.{NoMain}
use Rattle.source.specs.Tree.{Name, Function, Item, Cells, Defines, Program}
use Rattle.source.specs.Fits.{FitsBody}
use Rattle.source.specs.Outside.{bare, body_uses}
use Rattle.source.specs.First.{◌>>=◌, must}
use Rattle.source.specs.Rules.{function_in, main_name, written_or_one, body_values, functions_checked, heads, no_items}
use Rattle.source.specs.Counts.{IsGood}
use Rattle.source.specs.Evaluates.{entered}
use Rattle.source.specs.Lowered.{MadeBlock, Lowered, Spot, inputs_from, port, turn_site, lower_body, function_scope, function_blocks, made_blocks, graph_of}
use Rattle.source.specs.Lowered.{sizes, lowered}
use Rattle.source.proofs.CountedSources.{inputs_count}
use Rattle.source.proofs.Steps.{then_ok, must_ok, ok_same}
use Rattle.source.proofs.Counted.{each_good}
use Rattle.law_language.specs.MeansHolds.{resolved, block_in, HasBlocks}
use Rattle.law_language.specs.MeansAgrees.{Agrees, Have}
use Rattle.law_language.specs.Means.{IsActive}
use Rattle.law_language.proofs.MeansInputs.{root_taken, input_gives, have_inputs_from}
use Rattle.source.proofs.Holding.{holds_whole}
use Rattle.law_language.proofs.MeansHolding.{resolved_all}
use Rattle.source.proofs.NamesUsed.{body_used}
use Rattle.law_language.proofs.MeansNamesAgree.{agrees_each, known_in}

-- A GOOD PROGRAM'S FUNCTIONS are good, and there is a main.
pub record IsGoodFunction (p : Program) (f : Function) : Type 0 where
  pub fits : FitsBody false f.body
  pub values : body_values p (bare f.params) f.body ≡ Ok (written_or_one f.results)

some_main : (o : Option Function) → is_some o ≡ true → (f : Function) × (o ≡ Some f)
some_main None h = cc
some_main (Some f) h = (f, refl)

pub main_function : (p : Program) → IsGood p → (f : Function) × (function_in p main_name ≡ Some f)
main_function p good =
    let s = then_ok (heads no_items p) (λ all. must (is_some (function_in p main_name)) NoMain good.end >>= (λ main. functions_checked p p)) tt good.checked in
    let t = then_ok (must (is_some (function_in p main_name)) NoMain good.end) (λ main. functions_checked p p) tt s.2 in
    some_main (function_in p main_name) (must_ok (is_some (function_in p main_name)) NoMain good.end t.0 t.1)

pub each_function_good : (p : Program) → IsGood p → (f : Name) (g : Function) → function_in p f ≡ Some g → IsGoodFunction p g
each_function_good p good f g e = let h = each_good p good f g e in record { fits = h.0; values = h.1 }

-- NAMES
pub function_named : (items : List Item) (f : Name) (h : Function) → function_in items f ≡ Some h → f ≡ h.name.name
function_named [] f h e = cc
function_named (Cells x len ∷ items) f h e = function_named items f h e
function_named (Defines k ∷ items) f h e = go (same_name f k.name.name) refl e (λ e. function_named items f h e)
  where
    go : (t : Bool) → same_name f k.name.name ≡ t → (if t then Some k else function_in items f) ≡ Some h → (function_in items f ≡ Some h → f ≡ h.name.name)
        → f ≡ h.name.name
    go true s e later = same_name_is f k.name.name s ∙ ap (λ (k : Function). k.name.name) (same_Some k h e)
    go false s e later = later e

pub graph_is : (p : Program) (g : Graph) → lowered p ≡ Ok g → graph_of p ≡ g
graph_is p g h = let s = then_ok (sizes 0 (made_blocks p p)) (λ fits. Ok (graph_of p)) g h in ok_same (graph_of p) g s.2

-- THE BODY'S PLACE
abbrev pub main_spot : Function → Spot
main_spot f = record { next = length f.params; loops = 0 }

abbrev pub main_lowered : Program → Function → Lowered
main_lowered p f = lower_body p (turn_site f.name.name) (main_spot f) (function_scope f) f.body

abbrev pub main_made : Program → Function → MadeBlock
main_made p f = record { at = f.name.at; loop = 0; inputs = length f.params; nodes = (main_lowered p f).nodes; results = (main_lowered p f).sources }

module _ (p : Program) (g : Graph) (origin : ℕ → Origin) (inputs : List ℤ) (run : List Activity) (s : State) (r : Run (flow_of g) (start inputs) run s)
    (st : Settled (flow_of g) inputs run s r) (well : WellFormed g) (count : AreInputsOf g inputs) (is : graph_of p ≡ g)
    (f : Function) (named : function_in p main_name ≡ Some f) (placed : HasBlocks g origin f.name.name (function_blocks p f)) where
  abbrev pub block : Block ℕ
  block = block_in g f.name.name (main_made p f)

  same_main : g.main ≡ f.name.name
  same_main = sym (ap (λ (g : Graph). g.main) is) ∙ function_named p main_name f named

  pub main_is : block_of (flow_of g) Main ≡ Some block
  main_is = ap (λ x. slice_get (flow_of g).blocks (place_of x (block_names g))) same_main ∙ placed.0.is_there

  pub as_many : length inputs ≡ length f.params
  as_many = count ∙ ap inputs_in main_is

  some_input : 0 < length f.params
  some_input = (shaped g well (place_of f.name.name (block_names g)) block placed.0.is_there).some_input

  abbrev HasIt : Source → Value → Type 0
  HasIt x v = Has (flow_of g) inputs run s r Main x v

  abbrev HaveIt : List Source → List Value → Type 0
  HaveIt xs vs = Have (flow_of g) inputs run s r Main xs vs

  pub input_is : (i : ℕ) → i < length f.params → (z : ℤ) × (slice_get inputs i ≡ Some z) × HasIt (port i 0) (Int z)
  input_is i low =
      let v = input_gives (flow_of g) inputs run s r st Main block main_is tt i low in
      (v.2.0, v.2.1, subst (λ v. HasIt (port i 0) v) v.2.2 v.1)

  pub have_inputs : HaveIt (inputs_from 0 (length f.params)) (map (λ (z : ℤ). Int z) inputs)
  have_inputs = have_inputs_from (flow_of g) inputs run s r Main (map (λ (z : ℤ). Int z) inputs) 0 (length f.params)
      (length-map inputs (λ (z : ℤ). Int z) ∙ as_many)
      (λ k v e.
      let w = map_get_back (λ (z : ℤ). Int z) inputs k v e in
      let low = slice_get_within inputs k w.0 w.1 in let same = as_many in
      let got = input_is k (omega (arith, low, same)) in
      let is : got.0 ≡ w.0 = same_Some got.0 w.0 (sym got.1 ∙ w.1) in
      subst (λ i. HasIt (port i 0) v) (omega arith) (subst (λ v. HasIt (port k 0) v) (ap (λ (z : ℤ). Int z) is ∙ w.2) got.2))

  -- IT IS ACTIVE
  pub main_stands : IsActive p g origin inputs run s r Main (turn_site f.name.name) (main_spot f) (main_lowered p f)
  main_stands =
      let first = input_gives (flow_of g) inputs run s r st Main block main_is tt 0 some_input in
      record {
        number = place_of f.name.name (block_names g);
        block = block;
        is_number = ap (λ x. Some (place_of x (block_names g))) same_main;
        is_block = placed.0.is_there;
        due = tt;
        taken = root_taken (Stood (flow_of g) (start inputs) run s r) Main block (node_count block);
        trigger = first.0;
        triggered = first.1;
        lines = holds_whole block (map (resolved g) (main_lowered p f).nodes) (resolved_all g (main_lowered p f).nodes);
        traced = placed.0.traced;
        loops = placed.1;
      }

  pub main_agrees : IsGoodFunction p f → Agrees (flow_of g) inputs run s r Main (function_scope f) (entered f.params (map (λ (z : ℤ). Int z) inputs) [])
      (body_uses f.body)
  main_agrees good =
      agrees_each (flow_of g) inputs run s r Main (function_scope f) (entered f.params (map (λ (z : ℤ). Int z) inputs) []) (bare f.params) (body_uses f.body)
      (λ x e. known_in (flow_of g) inputs run s r Main f.params (inputs_from 0 (length f.params)) (map (λ (z : ℤ). Int z) inputs) [] [] have_inputs
      (sym (inputs_count 0 (length f.params))) x e)
      (body_used p (bare f.params) f.body (written_or_one f.results) good.values)
