-- What refuses an input, or what is made of it.
use Rattle.std.proofs.Common.{◌≡◌, ℕ, ℤ, List, ◌++◌, length, Bool, false, inl, inr, Result, Ok, Err, refl, sym, ◌∙◌, subst}
use Rattle.std.specs.Prelude.{Option, Some, None, ⊤}
use Rattle.std.specs.Io.KnownBytes.{Appends}
use Rattle.sink.specs.Sends.{Sends}
use Rattle.tags.specs.declared.value.Value.{Value}
use Rattle.semantics.specs.Graph.{Graph}
use Rattle.semantics.specs.Report.{Report}
use Rattle.schedule.specs.declared.config.Config.{Config}
use Rattle.schedule.specs.declared.config.StartFault.{StartFault}
use Rattle.schedule.specs.Unlisted.{Quietly}
use Rattle.oracle.specs.declared.report.MeanEnd.{MeanEnd}
use Rattle.oracle.specs.declared.report.Full.{Full}
use Rattle.oracle.specs.Reporting.{IsMeant}
use Rattle.driver.specs.declared.order.Order.{Order}
use Rattle.command_line.specs.declared.RunOptions.{RunOptions}
use Rattle.command_line.specs.declared.inputs.Inputs.{Inputs}
use Rattle.driver.specs.declared.fault.Fault.{Fault}
use Rattle.commands.specs.declared.input.LinesFault.{LinesFault}
use Rattle.outcomes.specs.declared.refusal.Refusal.{Refusal}
use Rattle.outcomes.specs.declared.outcome.Outcome.{Outcome}
use Rattle.commands.specs.Input.{graph_length, integers_of, IsBadInput}
use Rattle.driver.specs.Objects.{ShowsObjectIn}
use Rattle.driver.specs.Refused.{IsGoodText, IsReady, IsReadyObject, IsBadText, IsNoObject, IsRefused, IsRefusedMeaning, IsRefusedObject}
use Rattle.commands.specs.Refusals.{refused_as}
use Rattle.commands.specs.Served.{Prints, Parts, config_of, order_in, IsRefusedLine, IsNoRunOf, WhyNoRun, IsMeaningOf, IsNoMeaningOf, WhyNoMeaning, IsExecOf, IsNoExecOf}

-- WHAT IS PRINTED
pub printed : (E : Type 0) (x : ⊤) (o : Outcome) (old new : Option (List ℕ)) (sent text : List ℕ) (outcome : Outcome) → sent ≡ text → o ≡ outcome
    → Sends {E = E} (Ok x) old new sent → Prints {E = E} (Ok o) old new text outcome
unfolding Sends
printed E x o old new sent text outcome same is h = (is, subst (λ (l : List ℕ). Appends old new l) same h)

pub stopped : (E : Type 0) (e : E) (old new : Option (List ℕ)) (sent text : List ℕ) (outcome : Outcome) → sent ≡ text
    → Sends {E = E} (Err e) old new sent → Prints {E = E} (Err e) old new text outcome
unfolding Sends
stopped E e old new sent text outcome same h = (h.0, h.1, sym same ∙ h.2, h.3)

-- a line that is no integer
pub bad_line_of : (lines : List ℕ) (f : LinesFault) (n : ℕ) → f ≡ LinesFault.BadLine n → IsBadInput lines f → integers_of lines ≡ Err n
bad_line_of lines f n is bad = subst (λ (x : LinesFault). IsBadInput lines x) is bad

-- EXEC
pub executed : (bytes : List ℕ) (o : RunOptions) (inputs : List ℤ) (r : Report) (order : Order) → order_in o ≡ Some order → (c : Config) → c ≡ config_of o
    → (may_stop : Bool) → may_stop ≡ false → Quietly (ShowsObjectIn order bytes inputs c may_stop) r
    → IsExecOf bytes o (Inputs.Integers (record { items = inputs })) r
executed bytes o inputs r order named c same may_stop never shows = record {
  inputs = inputs;
  integers = refl;
  order = order;
  named = named;
  shows = subst (λ (b : Bool). Quietly (ShowsObjectIn order bytes inputs (config_of o) b) r) never
      (subst (λ (d : Config). Quietly (ShowsObjectIn order bytes inputs d may_stop) r) same shows);
}

pub refused_exec : (bytes : List ℕ) (o : RunOptions) (inputs : List ℤ) (c : Config) → c ≡ config_of o → (fault : Fault) → IsRefusedObject bytes inputs c fault
    → (f : Refusal) → f ≡ refused_as fault → IsNoExecOf bytes o (Inputs.Integers (record { items = inputs })) f
refused_exec bytes o inputs c same fault refused f reported = inr
    (inr (inl (fault, subst (λ (d : Config). IsRefusedObject bytes inputs d fault) same refused, reported)))

pub no_mode_to_exec : (bytes : List ℕ) (o : RunOptions) (inputs : List ℤ) (c : Config) → c ≡ config_of o → IsReadyObject bytes inputs c → order_in o ≡ None
    → IsNoExecOf bytes o (Inputs.Integers (record { items = inputs })) (Refusal.Start StartFault.BadConfig)
no_mode_to_exec bytes o inputs c same ready order = inr (inr (inr (subst (λ (d : Config). IsReadyObject bytes inputs d) same ready, order, refl)))

pub unopened_exec : (bytes : List ℕ) (o : RunOptions) (ins : Inputs) (fault : Fault) → IsNoObject bytes fault → (f : Refusal) → f ≡ refused_as fault
    → IsNoExecOf bytes o ins f
unopened_exec bytes o ins (Fault.Read x) none f reported = absurd none
unopened_exec bytes o ins (Fault.Check x) none f reported = absurd none
unopened_exec bytes o ins (Fault.TooManySlots b) none f reported = absurd none
unopened_exec bytes o ins (Fault.TooFar b) none f reported = absurd none
unopened_exec bytes o ins (Fault.Object x) none f reported = inr (inl (x, none.0, reported))
unopened_exec bytes o ins (Fault.Start x) none f reported = absurd none
unopened_exec bytes o ins Fault.Memory none f reported = inl reported

module _ (input text lines : List ℕ) (whole : text ++ lines ≡ input) (end : length text ≡ graph_length input) where
  abbrev parts : Parts input
  parts = record { text = text; lines = lines; whole = whole; end = end }

  -- RUN
  pub no_memory : (o : RunOptions) → IsNoRunOf input o Refusal.Memory
  no_memory o = record { parts = parts; why = inl refl }

  pub refused_run : (o : RunOptions) (inputs : List ℤ) → integers_of lines ≡ Ok inputs → (c : Config) → c ≡ config_of o → (fault : Fault)
      → IsRefused text inputs c fault
      → (f : Refusal) → f ≡ refused_as fault → IsNoRunOf input o f
  refused_run o inputs integers c same fault refused f reported = record {
    parts = parts;
    why = inr (subst (λ (z : Result (List ℤ) ℕ). WhyNoRun z text o f) (sym integers)
        (inl (fault, subst (λ (d : Config). IsRefused text inputs d fault) same refused, reported)));
  }

  pub no_mode : (o : RunOptions) (inputs : List ℤ) → integers_of lines ≡ Ok inputs → (c : Config) → c ≡ config_of o → IsReady text inputs c → order_in o ≡ None
      → IsNoRunOf input o (Refusal.Start StartFault.BadConfig)
  no_mode o inputs integers c same ready order = record {
    parts = parts;
    why = inr (subst (λ (z : Result (List ℤ) ℕ). WhyNoRun z text o (Refusal.Start StartFault.BadConfig)) (sym integers)
        (inr (subst (λ (d : Config). IsReady text inputs d) same ready, order, refl)));
  }

  pub bad_line : (o : RunOptions) (n : ℕ) (f : Refusal) → integers_of lines ≡ Err n → IsRefusedLine text n f → IsNoRunOf input o f
  bad_line o n f integers refused = record {
    parts = parts;
    why = inr (subst (λ (z : Result (List ℤ) ℕ). WhyNoRun z text o f) (sym integers) refused);
  }

  -- MEAN
  pub meant : (steps : ℕ) (g : Graph) (e : MeanEnd) (outputs : List (Option Value)) (cells : List Full) (inputs : List ℤ) → integers_of lines ≡ Ok inputs
      → IsGoodText text g → IsMeant g inputs steps e outputs cells → IsMeaningOf input steps g e outputs cells
  meant steps g e outputs cells inputs integers good is = record { parts = parts; inputs = inputs; integers = integers; good = good; meant = is }

  pub no_memory_to_mean : IsNoMeaningOf input Refusal.Memory
  no_memory_to_mean = record { parts = parts; why = inl refl }

  pub refused_meaning : (inputs : List ℤ) → integers_of lines ≡ Ok inputs → (fault : Fault) → IsRefusedMeaning text inputs fault → (f : Refusal) → f
      ≡ refused_as fault → IsNoMeaningOf input f
  refused_meaning inputs integers fault refused f reported = record {
    parts = parts;
    why = inr (subst (λ (z : Result (List ℤ) ℕ). WhyNoMeaning z text f) (sym integers) (fault, refused, reported));
  }

  pub bad_text : (n : ℕ) → integers_of lines ≡ Err n → (fault : Fault) → IsBadText text fault → (f : Refusal) → f ≡ refused_as fault → IsNoMeaningOf input f
  bad_text n integers fault bad f reported = record {
    parts = parts;
    why = inr (subst (λ (z : Result (List ℤ) ℕ). WhyNoMeaning z text f) (sym integers) (inl (fault, bad, reported)));
  }

  pub bad_line_to_mean : (n : ℕ) (g : Graph) → integers_of lines ≡ Err n → IsGoodText text g → IsNoMeaningOf input (Refusal.InputLine n)
  bad_line_to_mean n g integers good = record {
    parts = parts;
    why = inr (subst (λ (z : Result (List ℤ) ℕ). WhyNoMeaning z text (Refusal.InputLine n)) (sym integers) (inr ((g, good), refl)));
  }
