-- What equal places, words and lists have in common, and what is at a place of a list.
use Rattle.std.proofs.Common.{◌≡◌, ℕ, [], ◌∷◌}
use Rattle.tags.specs.declared.token.Port.{Port}
use Rattle.tags.specs.declared.token.Cont.{Cont}
use Rattle.tags.specs.declared.token.Word.{Word}
use Rattle.tags.specs.declared.token.To.{To}

pub instr_parts : (f a g b : ℕ) (r t : Port) → To.Instr f a r ≡ To.Instr g b t → (f ≡ g) × (a ≡ b) × (r ≡ t)
instr_parts f a g b r t e = (cc, cc, cc)

pub back_parts : (c d : Cont) → Word.Back c ≡ Word.Back d → c ≡ d
back_parts c d e = cc

pub cont_parts : (f a g b : ℕ) (r t : Port) → Cont.Frame f a r ≡ Cont.Frame g b t → (f ≡ g) × (a ≡ b) × (r ≡ t)
cont_parts f a g b r t e = (cc, cc, cc)

pub one_part : {X : Type 0} (x y : X) → x ∷ [] ≡ y ∷ [] → x ≡ y
one_part x y e = cc
