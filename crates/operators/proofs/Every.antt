-- There are finitely many operators: what holds of each in the list holds of all.
use Rattle.std.specs.Prelude.{◌≡◌, List, [], ◌∷◌, Bool, true, false, ⊤, if◌then◌else◌}
use Rattle.std.proofs.Common.{refl}
use Rattle.operators.specs.declared.Binary.{Binary}
use Rattle.operators.specs.declared.Binary.TheVariants.{Add, Sub, Mul, Div, Rem, And, Or, Xor, Shl, Shr, Eq, Ne, Lt, Le}
use Rattle.operators.specs.Values.{binaries}

-- it holds of each
abbrev pub OfEach : (Binary → Type 0) → List Binary → Type 0
OfEach P [] = ⊤
OfEach P (op ∷ ops) = P op × OfEach P ops

pub each_binary : (P : Binary → Type 0) → OfEach P binaries → (op : Binary) → P op
each_binary P h Add = h.0
each_binary P h Sub = h.1.0
each_binary P h Mul = h.1.1.0
each_binary P h Div = h.1.1.1.0
each_binary P h Rem = h.1.1.1.1.0
each_binary P h And = h.1.1.1.1.1.0
each_binary P h Or = h.1.1.1.1.1.1.0
each_binary P h Xor = h.1.1.1.1.1.1.1.0
each_binary P h Shl = h.1.1.1.1.1.1.1.1.0
each_binary P h Shr = h.1.1.1.1.1.1.1.1.1.0
each_binary P h Eq = h.1.1.1.1.1.1.1.1.1.1.0
each_binary P h Ne = h.1.1.1.1.1.1.1.1.1.1.1.0
each_binary P h Lt = h.1.1.1.1.1.1.1.1.1.1.1.1.0
each_binary P h Le = h.1.1.1.1.1.1.1.1.1.1.1.1.1.0

-- the same of what can be computed: `all_binary P refl op`
abbrev pub every : (Binary → Bool) → List Binary → Bool
every P [] = true
every P (op ∷ ops) = if P op then every P ops else false

every_is : (P : Binary → Bool) (ops : List Binary) → every P ops ≡ true → OfEach (λ op. P op ≡ true) ops
every_is P [] e = tt
every_is P (op ∷ ops) e = go (P op) refl (every_is P ops)
  where
    go : (t : Bool) → P op ≡ t → (every P ops ≡ true → OfEach (λ o. P o ≡ true) ops) → (P op ≡ true) × OfEach (λ o. P o ≡ true) ops
    go true t rec = (t, rec (let k : every P ops ≡ true = rw t at e in k))
    go false t rec = absurd (let k : false ≡ true = rw t at e in cc)

pub all_binary : (P : Binary → Bool) → every P binaries ≡ true → (op : Binary) → P op ≡ true
all_binary P e = each_binary (λ op. P op ≡ true) (every_is P binaries e)
