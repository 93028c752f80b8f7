-- What the tests of ports and of places say.
use Rattle.std.proofs.Common.{◌≡◌, eq-eqb, false, refl, sym, true, true≢false, ℕ}
use Rattle.std.proofs.lemmas.Bool.{and_from}
use Rattle.tags.specs.declared.token.Port.{Port}
use Rattle.tags.specs.declared.token.Port.TheVariants.{Left, Right}
use Rattle.tags.specs.declared.token.To.{To}
use Rattle.semantics.specs.Orderly.{is_at, eq_port}

pub eq_port_true : (p q : Port) → eq_port p q ≡ true → p ≡ q
eq_port_true Left Left h = refl
eq_port_true Right Right h = refl
eq_port_true p q h = absurd (true≢false (sym h))

pub eq_port_itself : (p : Port) → eq_port p p ≡ true
eq_port_itself Left = refl
eq_port_itself Right = refl

pub is_at_itself : (f ip : ℕ) (p : Port) → is_at f ip p (To.Instr f ip p) ≡ true
is_at_itself f ip p = and_from _ _ (and_from _ _ (eq-eqb f f refl) (eq-eqb ip ip refl)) (eq_port_itself p)
