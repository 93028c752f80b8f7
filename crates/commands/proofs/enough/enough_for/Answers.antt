use Rattle.std.proofs.Common.{ℤ, List, ap, refl, sym, ◌∙◌, subst}
use Rattle.semantics.specs.Graph.{Graph}
use Rattle.driver.specs.declared.needs.EnoughFrames.{EnoughFrames}
use Rattle.driver.specs.Needs.{AreEnough}
use Rattle.driver.specs.Refused.{IsGoodText, IsReady, IsRefused}
use Rattle.outcomes.specs.declared.refusal.Refusal.{Refusal}
use Rattle.commands.specs.Served.{config_of}
use Rattle.commands.proofs.Feeds.{IsRefusedOption}
use Rattle.commands.proofs.EnoughRuns.{each, no_feed, no_memory, no_mode, none, not_ready}
use Rattle.commands.proofs.enough.enough_for.Goals as goal

pub returns-in-Err : goal.returns-in-Err
returns-in-Err g c = no_feed c.args.input.now c.args.options.now c.in-Err.refusal c.in-Err.ensures

pub returns-in_default : goal.returns-in_default
returns-in_default g c = no_memory c.args.input.now _ _ c.in-Ok.ensures c.args.options.now

pub returns-in_default-order_in : goal.returns-in_default-order_in
returns-in_default-order_in g c =
    let same = c.config_of-config.ensures ∙ ap config_of c.with_frames.ensures in
    no_mode c.args.input.now _ _ c.in-Ok.ensures c.args.options.now c.config_of-config.result same (sym c.order_in.ensures ∙ c.in_default-order_in.is)
    c.option_refusal.result
    (subst (λ (zs : List ℤ). IsRefusedOption c.in-Ok.feed.text.now zs c.config_of-config.result c.option_refusal.result) c.deref.ensures.value
    c.option_refusal.ensures)

pub returns-in-Ok-Each : goal.returns-in-Ok-Each
returns-in-Ok-Each g c =
    let same = c.config_of-config.ensures ∙ ap config_of c.with_frames.ensures in
    let text = c.in-Ok.feed.text.now in
    let d = c.config_of-config.result in
    let e = c.in-Ok-Each.field-0 in
    each c.args.input.now _ _ c.in-Ok.ensures c.args.options.now d same c.in-Some._order (sym c.order_in.ensures ∙ c.in-Some.is) e
    (subst (λ (zs : List ℤ). IsReady text zs d × (h : Graph) × IsGoodText text h × AreEnough h zs d.steps d.elements e) c.deref-2.ensures.value
    c.in-Ok-Each.ensures) c.in-Ok-Each.frames c.in-Ok-Each.field-0-is

pub returns-in-Ok-TooMany : goal.returns-in-Ok-TooMany
returns-in-Ok-TooMany g c =
    let same = c.config_of-config.ensures ∙ ap config_of c.with_frames.ensures in
    let text = c.in-Ok.feed.text.now in
    let d = c.config_of-config.result in
    let e = c.in-Ok-TooMany.field-0 in
    none c.args.input.now _ _ c.in-Ok.ensures c.args.options.now d same c.in-Some._order (sym c.order_in.ensures ∙ c.in-Some.is) e
    (subst (λ (zs : List ℤ). IsReady text zs d × (h : Graph) × IsGoodText text h × AreEnough h zs d.steps d.elements e) c.deref-2.ensures.value
    c.in-Ok-TooMany.ensures) (Refusal.TooManyFrames c.in-Ok-TooMany.frames) (EnoughFrames.TooMany c.in-Ok-TooMany.frames) c.in-Ok-TooMany.field-0-is refl

pub returns-in-Ok-Untold : goal.returns-in-Ok-Untold
returns-in-Ok-Untold g c =
    let same = c.config_of-config.ensures ∙ ap config_of c.with_frames.ensures in
    let text = c.in-Ok.feed.text.now in
    let d = c.config_of-config.result in
    let e = c.in-Ok-Untold.field-0 in
    none c.args.input.now _ _ c.in-Ok.ensures c.args.options.now d same c.in-Some._order (sym c.order_in.ensures ∙ c.in-Some.is) e
    (subst (λ (zs : List ℤ). IsReady text zs d × (h : Graph) × IsGoodText text h × AreEnough h zs d.steps d.elements e) c.deref-2.ensures.value
    c.in-Ok-Untold.ensures) Refusal.NotAtRest EnoughFrames.Untold c.in-Ok-Untold.field-0-is refl

pub returns : goal.returns
returns g c =
    let same = c.config_of-config.ensures ∙ ap config_of c.with_frames.ensures in
    let text = c.in-Ok.feed.text.now in
    let d = c.config_of-config.result in
    not_ready c.args.input.now _ _ c.in-Ok.ensures c.args.options.now d same c.in-Err-enough_for_text.fault
    (subst (λ (zs : List ℤ). IsRefused text zs d c.in-Err-enough_for_text.fault) c.deref-2.ensures.value c.in-Err-enough_for_text.ensures)
    c.fault_refusal.result c.fault_refusal.ensures
