-- The examples, each by its derivation.
use Rattle.std.specs.Prelude.{◌≡◌, ◌↔◌, ℕ, zero, suc, ◌<◌, pos, [], ◌∷◌, Some, slice_get, slice_index_or, Contains}
use Rattle.std.proofs.Common.{refl, arith, ap, subst}
use Rattle.tags.specs.declared.value.Value.{Value}
use Rattle.tags.specs.declared.value.Value.TheVariants.{Int}
use Rattle.source.specs.Evaluates.{Stores, number, named, bracket, prefix, chain, infix_, fetch, store, call, if_true, if_false, loop, one, more}
use Rattle.source.specs.Evaluates.{lets, does, gives, leaves, goes, ends, again}
use Rattle.source.specs.Examples.{SignsGive, ElseIfGives, StrictCallGives, FactorialGives, SumGives, CountGives, PairsGive, CellsGive, OutsideGives}
use Rattle.source.specs.Examples.{FaultsGive, eight_at_one, eight_at_both, MemoryIsComputed}

pub signs_give : SignsGive
signs_give = record {
  main = _;
  named = refl;
  runs = gives (one (infix_ (infix_ (prefix (named refl)) (prefix (prefix (bracket (named refl))))) (prefix (bracket number))));
}

pub else_if_gives : ElseIfGives
else_if_gives = record {
  main = _;
  named = refl;
  runs = gives (one (if_false (named refl) refl (chain (if_true (infix_ (named refl) number) refl (gives (one number))))));
}

pub strict_call_gives : StrictCallGives
strict_call_gives = record {
  main = _;
  named = refl;
  runs = gives (one (call (more (fetch number refl) (one (named refl))) refl (gives (one (named refl)))));
}

pub factorial_gives : FactorialGives
factorial_gives = record {
  main = _;
  named = refl;
  runs =
      gives (one (if_false (infix_ (named refl) number) refl (gives (one (infix_ (named refl) (call (one (infix_ (named refl) number)) refl
      (gives (one (if_true (infix_ (named refl) number) refl (gives (one number)))))))))));
}

pub sum_gives : SumGives
sum_gives = record {
  main = _;
  named = refl;
  runs =
      lets (one (loop (more number (one number))
      (goes (infix_ (named refl) (named refl)) refl (gives (more (infix_ (named refl) number) (one (infix_ (named refl) (named refl)))))
      (goes (infix_ (named refl) (named refl)) refl (gives (more (infix_ (named refl) number) (one (infix_ (named refl) (named refl)))))
      (leaves (infix_ (named refl) (named refl)) refl)))))
      (gives (one (named refl)));
}

pub count_gives : CountGives
count_gives = record {
  main = _;
  named = refl;
  runs =
      gives (one (loop (one number)
      (again (gives (one (infix_ (named refl) number))) (infix_ (named refl) (named refl)) refl
      (ends (gives (one (infix_ (named refl) number))) (infix_ (named refl) (named refl)) refl))));
}

pub pairs_give : PairsGive
pairs_give = record {
  main = _;
  named = refl;
  runs =
      lets (one (call (one (call (more (named refl) (one number)) refl (gives (more (named refl) (one (named refl)))))) refl (gives (more (named refl) (one
      (named refl)))))) (gives (one (named refl)));
}

pub cells_give : CellsGive
cells_give = record {
  main = _;
  named = refl;
  runs =
      does (one (store number (infix_ (named refl) number))) (gives (one (fetch number refl)));
}

pub outside_gives : OutsideGives
outside_gives = record { main = _; named = refl; runs = gives (one (store (named refl) number)) }

pub faults_give : FaultsGive
faults_give = record { main = _; named = refl; runs = gives (one (infix_ (infix_ (named refl) number) (infix_ (named refl) number))) }

memory_shown : (j : ℕ) → eight_at_both.outputs j ≡ slice_get (Int (pos 8) ∷ []) j
memory_shown zero = refl
memory_shown (suc j) = refl

abbrev stored : Stores
stored = (1, Int (pos 8)) ∷ []

filled_if_stored : (x : ℕ) (v : Value) (k : ℕ) → k < 1 → slice_index_or stored k (x, v) ≡ (x, v) → eight_at_one x ≡ Some v
filled_if_stored x v zero h e = let a : 1 ≡ x = ap (λ (r : ℕ × Value). r.0) e in let b : Int (pos 8) ≡ v = ap (λ (r : ℕ × Value). r.1) e in
    subst (λ y. eight_at_one y ≡ Some v) a (ap Some b)
filled_if_stored x v (suc k) h e = absurd (omega (arith, h))

stored_if_filled : (x : ℕ) (v : Value) → eight_at_one x ≡ Some v → Contains stored (x, v)
stored_if_filled zero v e = cc
stored_if_filled (suc zero) v e = let b : Int (pos 8) ≡ v = cc in (0, omega arith, subst (λ u. Path (ℕ × Value) (1, Int (pos 8)) (1, u)) b refl)
stored_if_filled (suc (suc x)) v e = cc

memory_filled : (x : ℕ) (v : Value) → Contains stored (x, v) ↔ (eight_at_one x ≡ Some v)
memory_filled x v = (λ (c : Contains stored (x, v)). filled_if_stored x v c.0 c.1 c.2, stored_if_filled x v)

memory_once : (i j x : ℕ) (v w : Value) → slice_get stored i ≡ Some (x, v) → slice_get stored j ≡ Some (x, w) → i ≡ j
memory_once zero zero x v w p q = refl
memory_once zero (suc j) x v w p q = cc
memory_once (suc i) zero x v w p q = cc
memory_once (suc i) (suc j) x v w p q = cc

pub memory_is_computed : MemoryIsComputed
memory_is_computed = record { outputs = Int (pos 8) ∷ []; stores = stored; main = cells_give; shown = memory_shown; filled = memory_filled; once = memory_once }
