-- The moments of a run of an object, replayed over the object's code.
use Rattle.std.proofs.Common.{◌≡◌, ◌*◌, ◌∙◌, ℕ, ℤ, Bool, false, List, length, Ok, Err, sym, ap, subst}
use Rattle.semantics.specs.Bytes.{IsObject}
use Rattle.semantics.specs.Machine.{Run, at_start}
use Rattle.semantics.specs.Program.{Code, Program}
use Rattle.semantics.specs.Report.{Report}
use Rattle.object_view.specs.Reading.{Opened, opened}
use Rattle.replay.specs.declared.fault.ReplayRefusal.{ReplayRefusal}
use Rattle.replay.specs.declared.fault.ReplayRefusal.TheVariants.{NotARun}
use Rattle.replay.specs.declared.moment.Moment.{Moment}
use Rattle.replay.specs.DoesAs.{IsReplay, OfRun}
use Rattle.replay.specs.Moments.{Watches}
use Rattle.schedule.specs.declared.config.Config.{Config}
use Rattle.schedule.specs.Setting.{inputs_of}
use Rattle.driver.specs.ListedEvents.{AreMoments}
use Rattle.driver.specs.Objects.{ShowsObject}
use Rattle.driver.specs.Orders.{size_of}

module _ (bytes : List ℕ) (inputs : List ℤ) (c : Config) (may_stop : Bool) (r : Report) (o : Opened) (is : opened bytes ≡ o)
    (object : IsObject bytes o.version o.code) (shows : ShowsObject bytes inputs c false may_stop r) where
  -- it is a run of this code
  pub same : shows.code.program ≡ o.code.program
  same = ap (λ (x : Code). x.program) (shows.only o.version o.code object)

  run : Run o.code.program (size_of c) (at_start o.code.program inputs) r.events shows.shows.last
  run = subst (λ (p : Program). Run p (size_of c) (at_start p inputs) r.events shows.shows.last) same shows.shows.run

  pub fit : length inputs ≡ inputs_of o.code.program
  fit = shows.inputs_fit ∙ ap inputs_of same

  pub seen : (frames count : ℕ) (moments : List Moment) → c.elements * c.frames ≡ frames → inputs_of o.code.program ≡ count
      → IsReplay o.code.program frames count r.events (Ok moments)
      → AreMoments bytes inputs c r moments
  seen frames count moments all ins replay = (
    shows.shows.last,
    subst (λ (x : Opened). Watches x.code.program (size_of c) (at_start x.code.program inputs) r.events moments shows.shows.last) (sym is)
        (replay (size_of c) inputs shows.shows.last all (fit ∙ ins) run),
  )

  pub is_a_run : (frames count : ℕ) (f : ReplayRefusal) → c.elements * c.frames ≡ frames → inputs_of o.code.program ≡ count → f ≡ NotARun
      → IsReplay o.code.program frames count r.events (Err f) → ⊥
  is_a_run frames count f all ins never replay =
      subst (λ (e : ReplayRefusal). OfRun (Err e) (λ moments. Watches o.code.program (size_of c) (at_start o.code.program inputs) r.events moments
      shows.shows.last)) never
      (replay (size_of c) inputs shows.shows.last all (fit ∙ ins) run)
