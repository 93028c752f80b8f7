-- An object is opened as the version and the code that it is.
use Rattle.std.proofs.Common.{◌≡◌, ℕ, List, None, Some, refl, sym, ap, ◌∙◌}
use Rattle.semantics.specs.Program.{Code}
use Rattle.semantics.specs.Bytes.{bytes_of, IsObject}
use Rattle.object_view.specs.declared.fault.ObjectFault.{ObjectFault}
use Rattle.object_view.specs.Reading.{Opened, opened}
use Rattle.object_view.specs.Checks.{first_refusal}
use Rattle.object_view.specs.Unique.{ReadsBack, IsUnique, AllOpen}
use Rattle.object_view.proofs.Back.{reads_back}
use Rattle.object_view.proofs.Complete.{complete}

pub read_back : ReadsBack
read_back version c is = reads_back version c is

pub opened_as : (bytes : List ℕ) (v : ℕ) (c : Code) (o : Opened) → opened bytes ≡ o → IsObject bytes v c → (o.version ≡ v) × (o.code ≡ c)
opened_as bytes v c o e is =
    let back = reads_back v c is.1 in
    let same : o ≡ opened (bytes_of v c) = sym e ∙ ap opened is.0 in
    (ap (λ (p : Opened). p.version) same ∙ back.0, ap (λ (p : Opened). p.code) same ∙ back.1)

pub unique : IsUnique
unique bytes v w c d is also =
    let first = opened_as bytes v c (opened bytes) refl is in
    let second = opened_as bytes w d (opened bytes) refl also in
    (sym first.0 ∙ second.0, sym first.1 ∙ second.1)

pub all_open : AllOpen
all_open bytes version c is = complete bytes version c is

pub never_refused : (bytes : List ℕ) (v : ℕ) (c : Code) (e : ObjectFault) → first_refusal bytes ≡ Some e → IsObject bytes v c → ⊥
never_refused bytes v c e refused is = differ (sym refused ∙ complete bytes v c is)
  where
    differ : Some e ≡ None → ⊥
    differ q = cc
