-- What opening says of the bytes.
use Rattle.std.proofs.Common.{◌≡◌, ℕ, List, None, refl, subst}
use Rattle.semantics.specs.Program.{Code}
use Rattle.semantics.specs.Bytes.{IsObject}
use Rattle.object_view.specs.Reading.{Opened, opened}
use Rattle.object_view.specs.Checks.{first_refusal}
use Rattle.driver.specs.Disassembled.{IsOpened}

pub is_opened : (bytes : List ℕ) (o : Opened) → o ≡ opened bytes → first_refusal bytes ≡ None → IsObject bytes o.version o.code
    → ((v : ℕ) (c : Code) → IsObject bytes v c → (o.version ≡ v) × (o.code ≡ c)) → IsOpened bytes
is_opened bytes o e unrefused object only =
    let O : Opened → Type 0 = λ x. IsObject bytes x.version x.code in
    let N : Opened → Type 0 = λ x. (v : ℕ) (c : Code) → IsObject bytes v c → (x.version ≡ v) × (x.code ≡ c) in
    record { unrefused = unrefused; object = subst O e object; only = subst N e only }

pub same_bytes : (bytes : List ℕ) → (opened bytes).bytes ≡ bytes
unfolding opened
same_bytes bytes = refl
