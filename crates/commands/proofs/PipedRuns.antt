-- What `run` reads of what `lower` prints.
use Rattle.std.proofs.Common.{◌≡◌, ◌⊎◌, inl, inr, ℕ, ℤ, Bool, false, List, [], ◌∷◌, ◌++◌, length, take, drop, Option, Some, Result, Ok, refl, sym}
use Rattle.std.proofs.Common.{ap, subst, ◌∙◌}
use Rattle.std.specs.declared.io.Error.{Error}
use Rattle.std.proofs.lemmas.List.{take_at, drop_at}
use Rattle.std.proofs.lemmas.List.Elements.{All-nil, All-cons, All-head, All-tail}
use Rattle.lemmas.proofs.Permutations.{Each, each_append_back}
use Rattle.semantics.specs.Graph.{Graph}
use Rattle.semantics.specs.Report.{Report}
use Rattle.semantics.specs.Text.{HasText, IsText, text_of}
use Rattle.graph_file.specs.Reading.{text_from}
use Rattle.graph_file.proofs.Sound.{read}
use Rattle.graph_file.proofs.Complete.{text_gives}
use Rattle.report_text.specs.ReportText.{report_text}
use Rattle.schedule.specs.declared.config.Config.{Config}
use Rattle.command_line.specs.declared.Asked.{Asked}
use Rattle.command_line.specs.declared.Lowering.{Lowering}
use Rattle.driver.specs.declared.order.Order.{Order}
use Rattle.command_line.specs.declared.Request.{Request}
use Rattle.command_line.specs.declared.RunOptions.{RunOptions}
use Rattle.driver.specs.Headline.{ReportsQuietly}
use Rattle.outcomes.specs.declared.refusal.Refusal.{Refusal}
use Rattle.outcomes.specs.declared.outcome.Outcome.{Outcome}
use Rattle.outcomes.specs.Outcomes.{ending_of}
use Rattle.source.specs.declared.token.Token.{Token}
use Rattle.source.specs.Tokens.{program_of, inputs_of, IsSpelledName}
use Rattle.source.specs.Tree.{Item, Cells, Defines, Program}
use Rattle.source.specs.Spelled.{Spelling, lexeme, item_tokens, program_tokens, AreSpelled}
use Rattle.source.specs.Rules.{item_name, item_names}
use Rattle.source_tokens.proofs.Standing.{all_stand}
use Rattle.source_text.specs.Naming.{IsWellSpelled}
use Rattle.source_text.specs.Reading.{AreWellSpelled}
use Rattle.source_text.proofs.Trees.{are_well_spelled}
use Rattle.law_language.specs.LoweredHasText.{HasSpelledNames}
use Rattle.law_language.proofs.LoweredHasText.{lowering_has_text}
use Rattle.lowered_text.specs.Lowers.{Lowers}
use Rattle.lowered_text.specs.Texts.{graph_and_inputs}
use Rattle.commands.specs.declared.input.InputFault.{InputFault}
use Rattle.commands.specs.Input.{integers_of}
use Rattle.commands.specs.Refusals.{unread_as}
use Rattle.commands.specs.Lowered.{PrintsLowered}
use Rattle.commands.specs.Served.{Parts, Prints, Refuses, PrintsRun, IsRunOf, IsNoRunOf, WhyNoRun, config_of}
use Rattle.commands.specs.Answered.{ServesRequest, ServesAsked}
use Rattle.commands.specs.Piped.{IsProgramRun, IsNoProgramRun, PrintsProgramRun, PipesRunPrograms, CommandsRunPrograms}
use Rattle.commands.proofs.GraphEnds.{texts_end_at_main}

-- NAMES of a tree are those of tokens, and so as texts have them
abbrev SaysSpelled : Spelling → Type 0
SaysSpelled s = IsWellSpelled s.lexeme

say_spelled : (text : List ℕ) (ss : List Spelling) (ts : List Token) → AreSpelled text ss ts → AreWellSpelled text ts → Each SaysSpelled ss
say_spelled text [] ts are well = tt
say_spelled text (s ∷ ss) [] are well = absurd are
say_spelled text (s ∷ ss) (t ∷ ts) are well =
    let Well = λ (t : Token). IsWellSpelled (lexeme text t) in
    (subst IsWellSpelled are.0.0 (All-head Well t ts well), say_spelled text ss ts are.1 (All-tail Well t ts well))

item_spelled : (i : Item) → Each SaysSpelled (item_tokens i) → IsSpelledName (item_name i).name
item_spelled (Cells x len) said = said.1.0
item_spelled (Defines f) said = said.1.0

items_spelled : (p : Program) → Each SaysSpelled (program_tokens p) → HasSpelledNames p
items_spelled [] said = All-nil IsSpelledName
items_spelled (i ∷ items) said =
    let split = each_append_back SaysSpelled (item_tokens i) (program_tokens items) said in
    All-cons IsSpelledName (item_name i).name (item_names items) (item_spelled i split.0) (items_spelled items split.1)

pub lowered_graphs_have_texts : (text : List ℕ) (p : Program) (g : Graph) → Lowers text p g → HasText g
lowered_graphs_have_texts text p g lowers =
    let good = lowers.lowered.good in
    let tokens = good.program.tokens in
    let well = are_well_spelled (program_of text) tokens (all_stand (program_of text) tokens good.program.lexed) in
    lowering_has_text p g (record { fits = good.program.parses.fits; end = length (program_of text); checked = good.checked })
    (items_spelled p (say_spelled (program_of text) (program_tokens p) tokens good.program.parses.spelled well)) lowers.lowered.lowered

-- THE PARTS OF AN INPUT that begins with the text of a graph
same_parts : (a b c d : List ℕ) → a ++ b ≡ c ++ d → length a ≡ length c → (a ≡ c) × (b ≡ d)
same_parts a b c d whole long = (
  sym (take_at a b (length c) long) ∙ ap (λ (xs : List ℕ). take (length c) xs) whole ∙ take_at c d (length c) refl,
  sym (drop_at a b (length c) long) ∙ ap (λ (xs : List ℕ). drop (length c) xs) whole ∙ drop_at c d (length c) refl,
)

pub inputs_are_divided : (g : Graph) (rest : List ℕ) → HasText g → (parts : Parts (text_of g ++ rest)) → (parts.text ≡ text_of g) × (parts.lines ≡ rest)
inputs_are_divided g rest has parts =
    same_parts parts.text parts.lines (text_of g) rest parts.whole (parts.end ∙ texts_end_at_main g rest has)

-- a text is of one graph
same_read : (g h : Graph) → read g ≡ read h → g ≡ h
same_read g h e = cc

one_graph : (g h : Graph) → HasText g → HasText h → text_of g ≡ text_of h → g ≡ h
one_graph g h has also same = same_read g h (sym (text_gives g has) ∙ ap text_from same ∙ text_gives h also)

-- of a text of which a report is true
its_text : (order : Order) (text : List ℕ) (g : Graph) (inputs : List ℤ) (c : Config) (may_stop : Bool) (r : Report)
    → ReportsQuietly order text g inputs c may_stop r → IsText text g
its_text (Order.InTurn take) text g inputs c may_stop r true_of = true_of.2.2.0.is_text
its_text (Order.InRounds take) text g inputs c may_stop r true_of = true_of.2.2.is_text
its_text (Order.Free take) text g inputs c may_stop r true_of = true_of.2.2.is_text

module _ (text : List ℕ) (p : Program) (g : Graph) (lowers : Lowers text p g) (o : RunOptions) where
  -- RUNS
  has_text : HasText g
  has_text = lowered_graphs_have_texts text p g lowers

  program_run : (h : Graph) (r : Report) → IsRunOf (graph_and_inputs text p g) o h r → (h ≡ g) × IsProgramRun text g o r
  program_run h r run =
      let divided = inputs_are_divided g (inputs_of text) has_text run.parts in
      let is = its_text run.order run.parts.text h run.inputs (config_of o) false r run.truth in
      let same : h ≡ g = one_graph h g is.1 has_text (sym is.0 ∙ divided.0) in
      let of_text : ReportsQuietly run.order (text_of g) h run.inputs (config_of o) false r =
      subst (λ (bytes : List ℕ). ReportsQuietly run.order bytes h run.inputs (config_of o) false r) divided.0 run.truth in (
        same,
        record {
          inputs = run.inputs;
          integers = ap integers_of (sym divided.1) ∙ run.integers;
          order = run.order;
          named = run.named;
          truth = subst (λ (x : Graph). ReportsQuietly run.order (text_of g) x run.inputs (config_of o) false r) same of_text;
        },
      )

  no_program_run : (f : Refusal) → IsNoRunOf (graph_and_inputs text p g) o f → IsNoProgramRun text g o f
  no_program_run f none =
      let divided = inputs_are_divided g (inputs_of text) has_text none.parts in
      subst (λ (bytes : List ℕ). (f ≡ Refusal.Memory) ⊎ WhyNoRun (integers_of bytes) (text_of g) o f) divided.1
      (subst (λ (bytes : List ℕ). (f ≡ Refusal.Memory) ⊎ WhyNoRun (integers_of none.parts.lines) bytes o f) divided.0 none.why)

  prints_program_run : (result : Result Outcome Error) (old new : Option (List ℕ)) → PrintsRun result old new (graph_and_inputs text p g) o
      → PrintsProgramRun result old new text g o
  prints_program_run result old new (inl (h, r, run, prints)) =
      let is = program_run h r run in
      inl (r, is.1, subst (λ (x : Graph). Prints result old new (report_text x.arrays r) (Outcome.Reported (ending_of r))) is.0 prints)
  prints_program_run result old new (inr (f, none, refuses)) = inr (f, no_program_run f none, refuses)

-- THE PIPE
pub pipe_runs_program : PipesRunPrograms
pipe_runs_program text piped (inl (p, g, lowers, prints)) = (
  p,
  g,
  lowers,
  λ o result old new runs.
      prints_program_run text p g lowers o result old new (subst (λ (bytes : List ℕ). PrintsRun result old new bytes o) prints.1 runs),
)
pipe_runs_program text piped (inr (f, refused, refuses)) = absurd (let done = refuses.0 in cc)

-- of two command lines
served_lowering : (text piped : List ℕ) → ServesRequest {E = Error} (Some text) (Ok Outcome.Done) (Some []) (Some piped) (Request.Lower Lowering.Graph)
    → PrintsLowered {E = Error} graph_and_inputs (Ok Outcome.Done) (Some []) (Some piped) text
served_lowering text piped (inl (input, is, few, answers)) =
    subst (λ (bytes : List ℕ). PrintsLowered {E = Error} graph_and_inputs (Ok Outcome.Done) (Some []) (Some piped) bytes) is answers
served_lowering text piped (inr (fault, refuses)) = absurd (let done = refuses.0 in cc)

served_run : (piped : List ℕ) (o : RunOptions) (result : Result Outcome Error) (old new : Option (List ℕ))
    → ServesRequest (Some piped) result old new (Request.Run o)
    → PrintsRun result old new piped o ⊎ ((fault : InputFault) × Refuses result old new (unread_as fault))
served_run piped o result old new (inl (input, is, few, answers)) = inl (subst (λ (bytes : List ℕ). PrintsRun result old new bytes o) is answers)
served_run piped o result old new (inr refused) = inr refused

pub commands_run_program : CommandsRunPrograms
commands_run_program lowering running o lowers_asked run_asked text piped lowered =
    let asked_so : ServesAsked {E = Error} (Some text) (Ok Outcome.Done) (Some []) (Some piped) (Asked.Request (Request.Lower Lowering.Graph)) =
    subst (λ (a : Asked). ServesAsked {E = Error} (Some text) (Ok Outcome.Done) (Some []) (Some piped) a) lowers_asked lowered in
    let pipe = pipe_runs_program text piped (served_lowering text piped asked_so) in (
      pipe.0,
      pipe.1,
      pipe.2,
      λ result old new served.
          runs pipe.1 (pipe.3 o) result old new
          (served_run piped o result old new (subst (λ (a : Asked). ServesAsked (Some piped) result old new a) run_asked served)),
    )
  where
    runs : (g : Graph)
        → ((result : Result Outcome Error) (old new : Option (List ℕ)) → PrintsRun result old new piped o → PrintsProgramRun result old new text g o)
        → (result : Result Outcome Error) (old new : Option (List ℕ))
        → PrintsRun result old new piped o ⊎ ((fault : InputFault) × Refuses result old new (unread_as fault))
        → PrintsProgramRun result old new text g o ⊎ ((fault : InputFault) × Refuses result old new (unread_as fault))
    runs g prints result old new (inl printed) = inl (prints result old new printed)
    runs g prints result old new (inr refused) = inr refused
