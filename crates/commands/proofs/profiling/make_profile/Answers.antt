use Rattle.std.proofs.Common.{◌≡◌, ◌⊎◌, ℤ, List, subst}
use Rattle.std.specs.Prelude.{Some}
use Rattle.oracle.specs.Gathering.{wave_counts}
use Rattle.oracle.specs.Waves.{AreWavesOf}
use Rattle.driver.specs.Refused.{IsRefusedMeaning}
use Rattle.outcomes.specs.declared.refusal.Refusal.{Refusal}
use Rattle.commands.specs.declared.profiling.ProfileFormat.{ProfileFormat}
use Rattle.commands.specs.Profiled.{AreRows, IsNoRow, IsSufficient, LacksOrder, sizes_below}
use Rattle.commands.proofs.Feeds.{no_room_for_profile, not_profiled, order_of_rows_refused, profile_of, rows_refused, waves_refused}
use Rattle.commands.proofs.profiling.make_profile.Goals as goal

pub returns-in-Err : goal.returns-in-Err
returns-in-Err g c = not_profiled c.args.input.now c.in-Err.refusal c.in-Err.ensures c.args.options.now c.args.sizes c.args.format

pub returns-in-Err-waves_text : goal.returns-in-Err-waves_text
returns-in-Err-waves_text g c =
    waves_refused c.args.input.now _ _ c.in-Ok.ensures c.args.options.now c.args.sizes c.args.format c.in-Err-waves_text.fault
    (subst (λ (zs : List ℤ). IsRefusedMeaning c.in-Ok.feed.text.now zs c.in-Err-waves_text.fault) c.deref.ensures.value
    c.in-Err-waves_text.ensures.refused) c.fault_refusal.result c.fault_refusal.ensures

pub returns-in-Some : goal.returns-in-Some
returns-in-Some g c =
    let w = c.in-Ok-waves_text.waves in
    let f = c.in-Some.refusal in
    let o = c.args.options.now in
    let text = c.in-Ok.feed.text.now in
    order_of_rows_refused c.args.input.now _ _ c.in-Ok.ensures o c.args.sizes c.args.format w.checked w.report.end w.report.counts.items
    c.in-Ok-waves_text.ensures.good
    (subst (λ (zs : List ℤ). AreWavesOf w.checked zs o.steps w.report.end w.report.counts.items) c.deref.ensures.value
    c.in-Ok-waves_text.ensures.waves) f
    (subst (λ (zs : List ℤ). (f ≡ Refusal.Memory) ⊎ ((c.args.format ≡ ProfileFormat.Lines) × LacksOrder text zs o f))
    c.deref-2.ensures.value c.in-Some.ensures.some)

pub returns-in-Err-rows_beside : goal.returns-in-Err-rows_beside
returns-in-Err-rows_beside g c =
    let w = c.in-Ok-waves_text.waves in
    let f = c.in-Err-rows_beside.refusal in
    let o = c.args.options.now in
    let text = c.in-Ok.feed.text.now in
    rows_refused c.args.input.now _ _ c.in-Ok.ensures o c.args.sizes c.args.format w.checked w.report.end w.report.counts.items
    c.in-Ok-waves_text.ensures.good
    (subst (λ (zs : List ℤ). AreWavesOf w.checked zs o.steps w.report.end w.report.counts.items) c.deref.ensures.value
    c.in-Ok-waves_text.ensures.waves) f
    (subst (λ (zs : List ℤ). (f ≡ Refusal.Memory) ⊎ ((c.args.format ≡ ProfileFormat.Lines) × IsNoRow text zs o c.args.sizes f))
    c.deref-3.ensures.value (c.in-Err-rows_beside.ensures text c.in-Ok-waves_text.ensures.good))

pub returns : goal.returns
returns g c = no_room_for_profile c.args.input.now _ _ c.in-Ok.ensures c.args.options.now c.args.sizes c.args.format c.in-Err-sufficient_beside.refusal
    c.in-Err-sufficient_beside.ensures

pub returns-in-Ok-sufficient_beside : goal.returns-in-Ok-sufficient_beside
returns-in-Ok-sufficient_beside g c =
    let w = c.in-Ok-waves_text.waves in
    let rows = c.in-Ok-rows_beside.rows.items in
    let enough = c.in-Ok-sufficient_beside.sufficient in
    let o = c.args.options.now in
    let text = c.in-Ok.feed.text.now in
    profile_of c.args.input.now _ _ c.in-Ok.ensures o c.args.sizes c.args.format w.checked w.report.end w.report.counts.items rows enough
    c.in-Ok-waves_text.ensures.good
    (subst (λ (zs : List ℤ). AreWavesOf w.checked zs o.steps w.report.end w.report.counts.items) c.deref.ensures.value
    c.in-Ok-waves_text.ensures.waves)
    (subst (λ (zs : List ℤ). wave_counts w.checked zs o.steps ≡ Some (w.report.end, w.report.counts.items)) c.deref.ensures.value
    c.in-Ok-waves_text.ensures.reported)
    c.in_default-order_refusal.ensures.none
    (subst (λ (zs : List ℤ). c.args.format ≡ ProfileFormat.Lines → AreRows text zs o (sizes_below c.args.sizes 64) rows) c.deref-3.ensures.value
    (c.in-Ok-rows_beside.ensures text c.in-Ok-waves_text.ensures.good))
    (subst (λ (zs : List ℤ). c.args.format ≡ ProfileFormat.Lines → IsSufficient w.checked zs o.steps enough) c.deref-4.ensures.value
    c.in-Ok-sufficient_beside.ensures)
