use Rattle.object_view.specs.Reading.{AreBytes, opened}
use Rattle.object_view.proofs.Sound.{opened_spelt}
use Rattle.object_view.proofs.Lawful.{opened_lawful}
use Rattle.std.proofs.Common.{refl}
use Rattle.std.proofs.Common.{rules, List, ℕ, sym, ap, subst, ◌∙◌}
use Rattle.object_view.specs.Fields.{word_at}
use Rattle.object_view.specs.Checks.{checked, content_checked}
use Rattle.object_view.proofs.Unique.{opened_as, never_refused}
use Rattle.object_view.proofs.Facts.{checked_all, refused_early, refused_late, none_refused}
use Rattle.object_view.proofs.object.Object.open.Goals as goal

pub returns-in-Err-check-clause-refused : goal.returns-in-Err-check-clause-refused
returns-in-Err-check-clause-refused c =
    let same = c.in-Ok.ensures.same in
    let late = ap (λ (bs : List ℕ). content_checked (word_at bs)) (sym same) ∙ sym c.in-Err-check.ensures in
    refused_late c.args.bytes.now c.in-Err-check.fault c.in-Ok.ensures.checked late

pub invariant_of-result : goal.invariant_of-result
invariant_of-result c =
    let same = c.in-Ok.ensures.same in
    let late = ap (λ (bs : List ℕ). content_checked (word_at bs)) (sym same) ∙ sym c.in_default.ensures in
    (ap checked same ∙ checked_all c.args.bytes.now c.in-Ok.ensures.checked late, subst (λ (bs : List ℕ). AreBytes bs) (sym same) (search rules))

pub returns-clause-refused : goal.returns-clause-refused
returns-clause-refused c =
    let same = c.in-Ok.ensures.same in
    let late = ap (λ (bs : List ℕ). content_checked (word_at bs)) (sym same) ∙ sym c.in_default.ensures in
    none_refused c.args.bytes.now (checked_all c.args.bytes.now c.in-Ok.ensures.checked late)

pub returns-in-Err-clause-refused : goal.returns-in-Err-clause-refused
returns-in-Err-clause-refused c = refused_early c.args.bytes.now c.in-Err.fault c.in-Err.ensures.checked

pub returns-clause-object : goal.returns-clause-object
returns-clause-object c =
    let t = c.in-Ok.tables.bytes.now in
    let same = c.in-Ok.ensures.same in
    let late = ap (λ (bs : List ℕ). content_checked (word_at bs)) (sym same) ∙ sym c.in_default.ensures in
    let ok = ap checked same ∙ checked_all c.args.bytes.now c.in-Ok.ensures.checked late in
    let bytes : AreBytes c.args.bytes.now = search rules in
    let all : AreBytes t = subst (λ (bs : List ℕ). AreBytes bs) (sym same) bytes in
    (sym same ∙ opened_spelt t (opened t) all ok refl, opened_lawful t (opened t) all ok refl)

pub returns-in-Err-clause-complete : goal.returns-in-Err-clause-complete
returns-in-Err-clause-complete c = λ version d is. never_refused c.args.bytes.now version d c.in-Err.fault
    (refused_early c.args.bytes.now c.in-Err.fault c.in-Err.ensures.checked) is

pub returns-in-Err-check-clause-complete : goal.returns-in-Err-check-clause-complete
returns-in-Err-check-clause-complete c =
    let same = c.in-Ok.ensures.same in
    let late = ap (λ (bs : List ℕ). content_checked (word_at bs)) (sym same) ∙ sym c.in-Err-check.ensures in
    λ version d is. never_refused c.args.bytes.now version d c.in-Err-check.fault (refused_late c.args.bytes.now c.in-Err-check.fault
    c.in-Ok.ensures.checked late) is

pub returns-clause-complete : goal.returns-clause-complete
returns-clause-complete c =
    let t = c.in-Ok.tables.bytes.now in
    let same = c.in-Ok.ensures.same in
    λ version d is. opened_as c.args.bytes.now version d (opened t) (ap opened (sym same)) is
