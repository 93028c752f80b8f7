-- Runs with enough frames.
use Rattle.std.proofs.Common.{◌≡◌, ℕ, ℤ, List, Some, None, inl, inr, subst}
use Rattle.semantics.specs.Graph.{Graph}
use Rattle.schedule.specs.declared.config.Config.{Config}
use Rattle.driver.specs.declared.order.Order.{Order}
use Rattle.command_line.specs.declared.RunOptions.{RunOptions}
use Rattle.driver.specs.declared.fault.Fault.{Fault}
use Rattle.driver.specs.declared.needs.EnoughFrames.{EnoughFrames}
use Rattle.driver.specs.Needs.{AreEnough}
use Rattle.driver.specs.Refused.{IsGoodText, IsReady, IsRefused}
use Rattle.outcomes.specs.declared.refusal.Refusal.{Refusal}
use Rattle.commands.specs.Enough.{HasNoEnough, Tells, unfit_as, with_frames}
use Rattle.commands.specs.Feed.{IsFeed, IsNoFeed}
use Rattle.commands.specs.Refusals.{refused_as}
use Rattle.commands.specs.Served.{config_of, order_in}
use Rattle.commands.proofs.Feeds.{IsRefusedOption, mode_refused, no_room, not_run, run_refused}

pub no_feed : (input : List ℕ) (o : RunOptions) (f : Refusal) → IsNoFeed input f → HasNoEnough input o f
no_feed input o f none = inl (not_run input f none (with_frames o 1))

module _ (input text : List ℕ) (inputs : List ℤ) (feed : IsFeed input text inputs) (o : RunOptions) where
  pub no_memory : HasNoEnough input o Refusal.Memory
  no_memory = inl (no_room input text inputs feed (with_frames o 1))

  module _ (c : Config) (same : c ≡ config_of (with_frames o 1)) where
    pub no_mode : order_in o ≡ None → (f : Refusal) → IsRefusedOption text inputs c f → HasNoEnough input o f
    no_mode none f why = inl (mode_refused input text inputs feed (with_frames o 1) c same none f why)

    pub not_ready : (fault : Fault) → IsRefused text inputs c fault → (f : Refusal) → f ≡ refused_as fault → HasNoEnough input o f
    not_ready fault refused f reported = inl (run_refused input text inputs feed (with_frames o 1) c same fault refused f reported)

    module _ (order : Order) (named : order_in o ≡ Some order) (frames : EnoughFrames)
        (told : IsReady text inputs c × (g : Graph) × IsGoodText text g × AreEnough g inputs c.steps c.elements frames) where
      tells : Tells input o frames
      tells = record {
        text = text;
        inputs = inputs;
        feed = feed;
        ready = subst (λ (d : Config). IsReady text inputs d) same told.0;
        order = order;
        named = named;
        graph = told.1;
        good = told.2;
        told = subst (λ (d : Config). AreEnough told.1 inputs d.steps d.elements frames) same told.3;
      }

      pub each : (n : ℕ) → frames ≡ EnoughFrames.Each n → Tells input o (EnoughFrames.Each n)
      each n is = subst (λ (e : EnoughFrames). Tells input o e) is tells

      pub none : (f : Refusal) (e : EnoughFrames) → frames ≡ e → unfit_as e f → HasNoEnough input o f
      none f e is unfit = inr (e, subst (λ (x : EnoughFrames). Tells input o x) is tells, unfit)
