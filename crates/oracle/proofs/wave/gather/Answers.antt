use Rattle.std.proofs.Common.{◌∷◌, ◌++◌, [], map, ap, sym, ◌∙◌}
use Rattle.std.proofs.lemmas.List.{map-append}
use Rattle.oracle.specs.Acting.{gate_of}
use Rattle.oracle.specs.Rows.{rows_of}
use Rattle.oracle.specs.Gathering.{gathered}
use Rattle.oracle.specs.Pairing.{taken_in}
use Rattle.oracle.specs.Telling.{told}
use Rattle.oracle.proofs.Gaining.{gain_alone, gain_free, gain_defers}
use Rattle.oracle.proofs.wave.gather.Goals as goal

pub loop-token-preserved-in_ok-push-in-Free : goal.loop-token-preserved-in_ok-push-in-Free
loop-token-preserved-in_ok-push-in-Free g c =
    let s = c.loop-token.state in
    let from = rows_of (map (λ v. v.items) s.waiting.items) in
    let to = rows_of (map (λ v. v.items) c.join_among.new.rows.items) in
    let xs = s.invocations in
    let cells = s.cells.items in
    let acts = map (λ a. (a.values.items, told a.act)) c.loop-token.acts.items in (
      c.loop-token.invariant.0 ∙ ap (λ ts. gathered c.args.checked.now xs cells ts from s.deferred.items acts) c.in-Some.ensures.items
          ∙ gain_free c.args.checked.now xs cells c.in-Some.token c.pop_front.new.self.items s.deferred.items from to acts c.in_ok-act.field-0
          c.in-Some-2.act (λ a. taken_in c.join_among.new.spare.taken c.join_among.new.spare.values.items) told
          c.in-Some-2.is c.in_ok-act.ensures (ap (λ cells. gate_of cells (told c.in-Some-2.act)) (sym c.deref.ensures.value) ∙ sym c.ask.ensures ∙ c.in-Free.is)
          ∙ ap (λ as'. gathered c.args.checked.now xs cells c.pop_front.new.self.items to s.deferred.items as')
          (sym (ap (λ l. map (λ a. (a.values.items, told a.act)) l) c.in_ok-push-in-Free.ensures.items
          ∙ map-append (λ a. (a.values.items, told a.act)) c.loop-token.acts.items (c.in_ok-activity-in-Free.activity ∷ [])
          ∙ ap (λ vs. acts ++ (vs, told c.in_ok-activity-in-Free.activity.act) ∷ []) c.in_ok-activity-in-Free.ensures.0
          ∙ ap (λ a. acts ++ (taken_in c.join_among.new.spare.taken c.join_among.new.spare.values.items, told a) ∷ []) c.in_ok-activity-in-Free.ensures.1)),
      c.loop-token.invariant.1,
      c.loop-token.invariant.2,
      c.loop-token.invariant.3,
    )

pub loop-token-preserved-in_ok-push-in-Defers : goal.loop-token-preserved-in_ok-push-in-Defers
loop-token-preserved-in_ok-push-in-Defers g c =
    let s = c.loop-token.state in
    let from = rows_of (map (λ v. v.items) s.waiting.items) in
    let to = rows_of (map (λ v. v.items) c.join_among.new.rows.items) in
    let xs = s.invocations in
    let cells = s.cells.items in
    let acts = map (λ a. (a.values.items, told a.act)) c.loop-token.acts.items in (
      c.loop-token.invariant.0 ∙ ap (λ ts. gathered c.args.checked.now xs cells ts from s.deferred.items acts) c.in-Some.ensures.items
          ∙ gain_defers c.args.checked.now xs cells c.in-Some.token c.pop_front.new.self.items s.deferred.items from to acts c.in_ok-act.field-0
          c.in-Some-2.act (λ a. taken_in c.join_among.new.spare.taken c.join_among.new.spare.values.items) told
          c.in-Some-2.is c.in_ok-act.ensures (ap (λ cells. gate_of cells (told c.in-Some-2.act)) (sym c.deref.ensures.value) ∙ sym c.ask.ensures
          ∙ c.in-Defers.is)
          ∙ ap (λ d. gathered c.args.checked.now xs cells c.pop_front.new.self.items to d acts) (sym c.in_ok-push-in-Defers.ensures.items),
      c.loop-token.invariant.1,
      c.loop-token.invariant.2,
      c.loop-token.invariant.3,
    )

pub loop-token-preserved : goal.loop-token-preserved
loop-token-preserved g c =
    let s = c.loop-token.state in
    let from = rows_of (map (λ v. v.items) s.waiting.items) in
    let to = rows_of (map (λ v. v.items) c.join_among.new.rows.items) in
    let xs = s.invocations in
    let cells = s.cells.items in
    let acts = map (λ a. (a.values.items, told a.act)) c.loop-token.acts.items in (
      c.loop-token.invariant.0 ∙ ap (λ ts. gathered c.args.checked.now xs cells ts from s.deferred.items acts) c.in-Some.ensures.items
          ∙ gain_alone c.args.checked.now xs cells c.in-Some.token c.pop_front.new.self.items s.deferred.items from to acts c.in_ok-act.field-0
          (λ a. taken_in c.join_among.new.spare.taken c.join_among.new.spare.values.items) told
          c.in_default-2.is c.in_ok-act.ensures,
      c.loop-token.invariant.1,
      c.loop-token.invariant.2,
      c.loop-token.invariant.3,
    )
