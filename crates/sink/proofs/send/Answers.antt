use Rattle.std.proofs.Common.{◌≡◌, ◌++◌, [], ℕ, List, take, drop, sym, ap, ◌∙◌, refl, append_assoc, take-append-drop}
use Rattle.std.proofs.lemmas.List.{append-nil, nil_from_length}
use Rattle.std.proofs.lemmas.Bool.{eqb-true}
use Rattle.sink.proofs.Sent.{appends_none, appends_then, appends_kept, sends_some, sends_whole}
use Rattle.sink.proofs.send.Goals as goal

pub loop-rest-init : goal.loop-rest-init
loop-rest-init g c = ([], refl, appends_none _)

pub returns-in-Ok-eq0 : goal.returns-in-Ok-eq0
returns-in-Ok-eq0 g c =
    let i = c.loop-rest.invariant in
    let rest = c.loop-rest.rest.now in
    sends_some _ _ _ (i.0 ++ take c.in-Ok-eq0.field-0 rest) (drop c.in-Ok-eq0.field-0 rest) c.args.bytes.now
    (i.1 ∙ ap (λ (l : List ℕ). i.0 ++ l) (sym (take-append-drop c.in-Ok-eq0.field-0 rest))
    ∙ sym (append_assoc i.0 (take c.in-Ok-eq0.field-0 rest) (drop c.in-Ok-eq0.field-0 rest)))
    (appends_then _ _ _ i.0 (take c.in-Ok-eq0.field-0 rest) i.2 c.in-Ok-eq0.ensures.bytes)

pub loop-rest-preserved : goal.loop-rest-preserved
loop-rest-preserved g c =
    let i = c.loop-rest.invariant in
    let rest = c.loop-rest.rest.now in
    let n = c.in-Ok.n in (
      i.0 ++ take n rest,
      i.1 ∙ ap (λ (l : List ℕ). i.0 ++ l) (sym (take-append-drop n rest)) ∙ sym (append_assoc i.0 (take n rest) (drop n rest))
          ∙ ap (λ (l : List ℕ). (i.0 ++ take n rest) ++ l) (sym c.split_at.ensures.back),
      appends_then _ _ _ i.0 (take n rest) i.2 c.in-Ok.ensures.bytes,
    )

pub returns-in-Err : goal.returns-in-Err
returns-in-Err g c =
    let i = c.loop-rest.invariant in
    sends_some _ _ _ i.0 c.loop-rest.rest.now c.args.bytes.now i.1 (appends_kept _ _ _ i.0 i.2 c.in-Err.ensures.bytes)

pub returns : goal.returns
returns g c =
    let i = c.loop-rest.invariant in
    let none = nil_from_length c.loop-rest.rest.now (eqb-true _ _ (sym c.loop-rest-test.ensures)) in
    let whole : c.args.bytes.now ≡ i.0 = i.1 ∙ ap (λ (l : List ℕ). i.0 ++ l) none ∙ append-nil i.0 in
    sends_whole _ tt _ _ c.args.bytes.now refl (rw whole i.2)
