-- How many sources a node has, and names without none.
use Rattle.std.proofs.Common.{◌≡◌, ℕ, zero, suc, ◌+◌, List, [], ◌∷◌, length, refl, ap}
use Rattle.operators.specs.declared.Unary.{Unary}
use Rattle.operators.specs.declared.Unary.TheVariants.{Neg, Not}
use Rattle.source.specs.Tree.{Name, Expr, Number, Named, Bracket, Prefix, Infix, Fetch, Store, Call, If, Loop}
use Rattle.source.specs.Outside.{without}
use Rattle.source.specs.Lowered.{Lowered, Site, Spot, ports_from, inputs_from, prefixed}

pub ports_length : (n q k : ℕ) → length (ports_from n q k) ≡ k
ports_length n q zero = refl
ports_length n q (suc k) = ap suc (ports_length n (q + 1) k)

pub inputs_count : (n k : ℕ) → length (inputs_from n k) ≡ k
inputs_count n zero = refl
inputs_count n (suc k) = ap suc (inputs_count (n + 1) k)

pub prefixed_one : (site : Site) (spot : Spot) (at : ℕ) (op : Unary) (e : Expr) (l : Lowered) → length (prefixed site spot at op e l).sources ≡ 1
prefixed_one site spot at Neg (Number u k) l = refl
prefixed_one site spot at Neg (Named u x) l = refl
prefixed_one site spot at Neg (Bracket e) l = refl
prefixed_one site spot at Neg (Prefix u op e) l = refl
prefixed_one site spot at Neg (Infix u s e d) l = refl
prefixed_one site spot at Neg (Fetch u a e) l = refl
prefixed_one site spot at Neg (Store u a e d) l = refl
prefixed_one site spot at Neg (Call u b f es) l = refl
prefixed_one site spot at Neg (If u q a b) l = refl
prefixed_one site spot at Neg (Loop u b f t) l = refl
prefixed_one site spot at Not e l = refl

pub without_none : (ys : List Name) → without [] ys ≡ ys
without_none [] = refl
without_none (y ∷ ys) = ap (λ zs. y ∷ zs) (without_none ys)
