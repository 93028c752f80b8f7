-- What an input gives, or why it does not, stated of the commands that read it.
use Rattle.std.proofs.Common.{Option, ◌≡◌, ℕ, ℤ, List, Bool, true, false, inl, inr, ◌⊎◌, Result, Ok, Err, refl, sym, subst}
use Rattle.std.specs.Prelude.{Some, None, is_some}
use Rattle.semantics.specs.Graph.{Graph}
use Rattle.semantics.specs.Report.{Report}
use Rattle.schedule.specs.declared.config.Config.{Config}
use Rattle.schedule.specs.declared.config.StartFault.{StartFault}
use Rattle.schedule.specs.Starts.{IsGood}
use Rattle.oracle.specs.declared.report.MeanEnd.{MeanEnd}
use Rattle.oracle.specs.Gathering.{wave_counts}
use Rattle.oracle.specs.Waves.{AreWavesOf}
use Rattle.replay.specs.declared.moment.Moment.{Moment}
use Rattle.replay.specs.Views.{BooksView}
use Rattle.profile_text.specs.declared.lines.MachineRow.{MachineRow}
use Rattle.driver.specs.declared.order.Order.{Order}
use Rattle.command_line.specs.declared.RunOptions.{RunOptions}
use Rattle.command_line.specs.declared.sizes.Sizes.{Sizes}
use Rattle.driver.specs.declared.fault.Fault.{Fault}
use Rattle.driver.specs.Headline.{ReportsQuietly}
use Rattle.driver.specs.ListedEvents.{ListsEvents, IsWatched, HasBooks}
use Rattle.driver.specs.Refused.{IsGoodText, IsReady, IsRefused, IsRefusedMeaning}
use Rattle.outcomes.specs.declared.refusal.Refusal.{Refusal}
use Rattle.commands.specs.declared.profiling.ProfileFormat.{ProfileFormat}
use Rattle.commands.specs.Input.{integers_of}
use Rattle.commands.specs.Refusals.{refused_as}
use Rattle.commands.specs.Feed.{IsFeed, IsNoFeed}
use Rattle.commands.specs.Agreed.{HasNoOrder, IsNoOrderOf, WhyNoOrder}
use Rattle.commands.specs.Traced.{IsTraceOf, IsPageOf}
use Rattle.commands.specs.Profiled.{IsNoProfileOf, IsProfileOf, WhyNoProfile, IsNoRow, LacksOrder, AreRows, IsSufficient, sizes_below}
use Rattle.profile_text.specs.declared.sufficient.Sufficient.{Sufficient}
use Rattle.commands.specs.Served.{Parts, IsReportedAs, IsRunOf, IsNoRunOf, IsRefusedLine, WhyNoRun, config_of, order_in}

-- a cause that the integers decide, where there are none
abbrev Bad : (parts : List ℕ) → Result (List ℤ) ℕ → Refusal → Type 0
Bad text z f = (n : ℕ) × (z ≡ Err n) × IsRefusedLine text n f

no_run : (text : List ℕ) (z : Result (List ℤ) ℕ) (o : RunOptions) (f : Refusal) → (f ≡ Refusal.Memory) ⊎ Bad text z f
    → (f ≡ Refusal.Memory) ⊎ WhyNoRun z text o f
no_run text z o f (inl memory) = inl memory
no_run text z o f (inr bad) = inr (subst (λ (y : Result (List ℤ) ℕ). WhyNoRun y text o f) (sym bad.1) bad.2)

no_order : (text : List ℕ) (z : Result (List ℤ) ℕ) (o : RunOptions) (count : ℕ) (f : Refusal) → (f ≡ Refusal.Memory) ⊎ Bad text z f
    → (f ≡ Refusal.Memory) ⊎ WhyNoOrder z text o count f
no_order text z o count f (inl memory) = inl memory
no_order text z o count f (inr bad) = inr (subst (λ (y : Result (List ℤ) ℕ). WhyNoOrder y text o count f) (sym bad.1) bad.2)

no_profile : (text : List ℕ) (z : Result (List ℤ) ℕ) (o : RunOptions) (s : Sizes) (format : ProfileFormat) (f : Refusal)
    → (f ≡ Refusal.Memory) ⊎ Bad text z f → (f ≡ Refusal.Memory) ⊎ WhyNoProfile z text o s format f
no_profile text z o s format f (inl memory) = inl memory
no_profile text z o s format f (inr bad) = inr (subst (λ (y : Result (List ℤ) ℕ). WhyNoProfile y text o s format f) (sym bad.1) bad.2)

module _ (input : List ℕ) (f : Refusal) (none : IsNoFeed input f) where
  pub not_run : (o : RunOptions) → IsNoRunOf input o f
  not_run o = record { parts = none.parts; why = no_run none.parts.text (integers_of none.parts.lines) o f none.why }

  pub not_ordered : (o : RunOptions) (count : ℕ) → IsNoOrderOf input o count f
  not_ordered o count = record { parts = none.parts; why = no_order none.parts.text (integers_of none.parts.lines) o count f none.why }

  pub not_profiled : (o : RunOptions) (s : Sizes) (format : ProfileFormat) → IsNoProfileOf input o s format f
  not_profiled o s format = record { parts = none.parts; why = no_profile none.parts.text (integers_of none.parts.lines) o s format f none.why }

-- why options are refused where they are read last
abbrev pub IsRefusedOption : List ℕ → List ℤ → Config → Refusal → Type 0
IsRefusedOption text inputs c f = IsReportedAs (IsRefused text inputs c) f ⊎ (IsReady text inputs c × (f ≡ Refusal.Start StartFault.BadConfig))

no_mode_of : (text : List ℕ) (inputs : List ℤ) (o : RunOptions) (f : Refusal) → order_in o ≡ None → IsRefusedOption text inputs (config_of o) f
    → WhyNoRun (Ok inputs) text o f
no_mode_of text inputs o f none (inl reported) = inl reported
no_mode_of text inputs o f none (inr ready) = inr (ready.0, none, ready.1)

no_count_of : (text : List ℕ) (inputs : List ℤ) (o : RunOptions) (count : ℕ) (f : Refusal) → (IsGood (config_of o) → HasNoOrder o count)
    → IsRefusedOption text inputs (config_of o) f → WhyNoOrder (Ok inputs) text o count f
no_count_of text inputs o count f none (inl reported) = inl reported
no_count_of text inputs o count f none (inr ready) = inr (ready.0, none ready.0.good, ready.1)

module _ (input text : List ℕ) (inputs : List ℤ) (feed : IsFeed input text inputs) where
  parts : Parts input
  parts = record { text = text; lines = feed.lines; whole = feed.whole; end = feed.end }

  -- what refuses the integers that are there
  stopped_run : (o : RunOptions) (f : Refusal) → WhyNoRun (Ok inputs) text o f → IsNoRunOf input o f
  unfolding parts
  stopped_run o f why = record { parts = parts; why = inr (subst (λ (z : Result (List ℤ) ℕ). WhyNoRun z text o f) (sym feed.integers) why) }

  stopped_order : (o : RunOptions) (count : ℕ) (f : Refusal) → WhyNoOrder (Ok inputs) text o count f → IsNoOrderOf input o count f
  unfolding parts
  stopped_order o count f why = record { parts = parts; why = inr (subst (λ (z : Result (List ℤ) ℕ). WhyNoOrder z text o count f) (sym feed.integers) why) }

  stopped_profile : (o : RunOptions) (s : Sizes) (format : ProfileFormat) (f : Refusal)
      → WhyNoProfile (Ok inputs) text o s format f → IsNoProfileOf input o s format f
  unfolding parts
  stopped_profile o s format f why = record {
    parts = parts;
    why = inr (subst (λ (z : Result (List ℤ) ℕ). WhyNoProfile z text o s format f) (sym feed.integers) why);
  }

  -- RUN AND TRACE
  pub run_of : (o : RunOptions) (g : Graph) (r : Report) (order : Order) → order_in o ≡ Some order → (c : Config) → c ≡ config_of o
      → (may_stop : Bool) → may_stop ≡ false → ReportsQuietly order text g inputs c may_stop r → IsRunOf input o g r
  unfolding parts
  run_of o g r order named c same may_stop never truth = record {
    parts = parts;
    inputs = inputs;
    integers = feed.integers;
    order = order;
    named = named;
    truth = subst (λ (b : Bool). ReportsQuietly order text g inputs (config_of o) b r) never
        (subst (λ (d : Config). ReportsQuietly order text g inputs d may_stop r) same truth);
  }

  pub trace_of : (o : RunOptions) (g : Graph) (bytes : List ℕ) (r : Report) (moments : List Moment) (order : Order) → order_in o ≡ Some order → (c : Config)
      → c ≡ config_of o
      → (may_stop : Bool) → may_stop ≡ false → IsWatched order text g bytes inputs c may_stop r moments → IsTraceOf input o g bytes r moments
  trace_of o g bytes r moments order named c same may_stop never watched = record {
    text = text;
    inputs = inputs;
    feed = feed;
    order = order;
    named = named;
    watched = subst (λ (b : Bool). IsWatched order text g bytes inputs (config_of o) b r moments) never
        (subst (λ (d : Config). IsWatched order text g bytes inputs d may_stop r moments) same watched);
  }

  pub page_of : (o : RunOptions) (first : ℕ) (g : Graph) (bytes : List ℕ) (r : Report) (books : BooksView) (order : Order) → order_in o ≡ Some order → (c : Config)
      → c ≡ config_of o → (may_stop : Bool) → may_stop ≡ false → ListsEvents order text g bytes inputs c may_stop r → HasBooks bytes inputs c first r books
      → IsPageOf input o first g bytes r books
  page_of o first g bytes r books order named c same may_stop never lists books_are = record {
    text = text;
    inputs = inputs;
    feed = feed;
    order = order;
    named = named;
    lists = subst (λ (b : Bool). ListsEvents order text g bytes inputs (config_of o) b r) never
        (subst (λ (d : Config). ListsEvents order text g bytes inputs d may_stop r) same lists);
    kept = subst (λ (d : Config). HasBooks bytes inputs d first r books) same books_are;
  }

  pub no_room : (o : RunOptions) → IsNoRunOf input o Refusal.Memory
  no_room o = record { parts = parts; why = inl refl }

  pub run_refused : (o : RunOptions) (c : Config) → c ≡ config_of o → (fault : Fault) → IsRefused text inputs c fault → (f : Refusal) → f
      ≡ refused_as fault → IsNoRunOf input o f
  run_refused o c same fault refused f reported = stopped_run o f (inl (fault, subst (λ (d : Config). IsRefused text inputs d fault) same refused, reported))

  pub mode_refused : (o : RunOptions) (c : Config) → c ≡ config_of o → order_in o ≡ None → (f : Refusal) → IsRefusedOption text inputs c f → IsNoRunOf input o f
  mode_refused o c same none f why = stopped_run o f (no_mode_of text inputs o f none (subst (λ (d : Config). IsRefusedOption text inputs d f) same why))

  -- ORDERS
  pub order_refused : (o : RunOptions) (count : ℕ) (c : Config) → c ≡ config_of o → (fault : Fault) → IsRefused text inputs c fault → (f : Refusal)
      → f ≡ refused_as fault → IsNoOrderOf input o count f
  order_refused o count c same fault refused f reported = stopped_order o count f
      (inl (fault, subst (λ (d : Config). IsRefused text inputs d fault) same refused, reported))

  pub count_refused : (o : RunOptions) (count : ℕ) (c : Config) → c ≡ config_of o → (IsGood c → HasNoOrder o count) → (f : Refusal)
      → IsRefusedOption text inputs c f → IsNoOrderOf input o count f
  count_refused o count c same none f why =
      stopped_order o count f (no_count_of text inputs o count f (subst (λ (d : Config). IsGood d → HasNoOrder o count) same none)
      (subst (λ (d : Config). IsRefusedOption text inputs d f) same why))

  -- PROFILE
  pub waves_refused : (o : RunOptions) (s : Sizes) (format : ProfileFormat) (fault : Fault) → IsRefusedMeaning text inputs fault
      → (f : Refusal) → f ≡ refused_as fault → IsNoProfileOf input o s format f
  waves_refused o s format fault refused f reported = stopped_profile o s format f (inl (fault, refused, reported))

  pub no_room_for_profile : (o : RunOptions) (s : Sizes) (format : ProfileFormat) (f : Refusal) → f ≡ Refusal.Memory → IsNoProfileOf input o s format f
  no_room_for_profile o s format f memory = record { parts = parts; why = inl memory }

  pub rows_refused : (o : RunOptions) (s : Sizes) (format : ProfileFormat) (g : Graph) (e : MeanEnd) (counts : List ℕ)
      → IsGoodText text g → AreWavesOf g inputs o.steps e counts
      → (f : Refusal) → (f ≡ Refusal.Memory) ⊎ ((format ≡ ProfileFormat.Lines) × IsNoRow text inputs o s f) → IsNoProfileOf input o s format f
  rows_refused o s format g e counts good waves f (inl memory) = no_room_for_profile o s format f memory
  rows_refused o s format g e counts good waves f (inr none) = stopped_profile o s format f (inr ((g, e, counts, good, waves), none.0, inl none.1))

  pub order_of_rows_refused : (o : RunOptions) (s : Sizes) (format : ProfileFormat) (g : Graph) (e : MeanEnd) (counts : List ℕ)
      → IsGoodText text g → AreWavesOf g inputs o.steps e counts
      → (f : Refusal) → (f ≡ Refusal.Memory) ⊎ ((format ≡ ProfileFormat.Lines) × LacksOrder text inputs o f) → IsNoProfileOf input o s format f
  order_of_rows_refused o s format g e counts good waves f (inl memory) = no_room_for_profile o s format f memory
  order_of_rows_refused o s format g e counts good waves f (inr none) =
      stopped_profile o s format f (inr ((g, e, counts, good, waves), none.0, inr none.1))

  pub profile_of : (o : RunOptions) (s : Sizes) (format : ProfileFormat) (g : Graph) (e : MeanEnd) (counts : List ℕ) (rows : List MachineRow)
      (enough : Option Sufficient)
      → IsGoodText text g → AreWavesOf g inputs o.steps e counts → wave_counts g inputs o.steps ≡ Some (e, counts)
      → (format ≡ ProfileFormat.Lines → is_some o.take ≡ true)
      → (format ≡ ProfileFormat.Lines → AreRows text inputs o (sizes_below s 64) rows)
      → (format ≡ ProfileFormat.Lines → IsSufficient g inputs o.steps enough) → IsProfileOf input o s format g e counts rows enough
  profile_of o s format g e counts rows enough good waves reported ordered machine sufficient = record {
    text = text;
    inputs = inputs;
    feed = feed;
    good = good;
    waves = waves;
    reported = reported;
    ordered = ordered;
    machine = machine;
    sufficient = sufficient;
  }
