-- Calls.
use Rattle.std.specs.Prelude.{◌≡◌, refl, ℕ, ◌+◌, ◌==◌, Bool, true, false, ◌∷◌, ◌++◌, Option, None}
use Rattle.std.specs.Prelude.{Some, Result, Ok}
use Rattle.std.proofs.Common.{◌∙◌, ap, sym, arith}
use Rattle.source.specs.declared.fault.FaultKind.TheVariants.{Arity}
use Rattle.source.specs.declared.word.Word.TheVariants as core_word
use Rattle.source.specs.Tree.{Name}
use Rattle.surface.specs.declared.fault.Fault.{Fault}
use Rattle.surface.specs.Tree.{Exprs}
use Rattle.surface.specs.Words.{Words, of_core, part_words}
use Rattle.surface.specs.Outside.{list_uses}
use Rattle.surface.specs.First.{◌>>=◌, must_be}
use Rattle.surface.specs.Known.{Signature, lookup, built_in, callee_of, callee}
use Rattle.surface.specs.Rules.{list_values}
use Rattle.surface_check.specs.declared.frame.Kind.TheVariants as kind
use Rattle.surface_check.specs.declared.frame.Frame.TheVariants as frame
use Rattle.surface_check.specs.Evaluates.{strict_ahead}
use Rattle.surface_check.specs.Pins.{callee_in}
use Rattle.surface_check.specs.Steps.{Open, State, Plain, pushed, callee_at, steps}
use Rattle.surface_check.proofs.HeadsRead.{by_bytes}
use Rattle.surface_check.proofs.Balanced.{parts_balanced}
use Rattle.surface_check.proofs.Over.{Setting, IsDeep, around, runs, notes, having, then_equal, bind_assoc, tested}
use Rattle.surface_check.proofs.OverLists.{OverList, frame_deep}

pub callee_as : (strict : Bool) (f : Name) (o : Option Signature) → callee_in strict (built_in f) o ≡ callee_of strict f o
callee_as true f (Some s) = refl
callee_as false f (Some s) = refl
callee_as true f None = refl
callee_as false f None = refl

-- what is called, where the words after the name say whether the call is strict
pub callee_is : (g : Setting) (strict : Bool) (f : Name) → callee_at by_bytes g.items strict f ≡ callee g.known strict f
callee_is g strict f = ap (λ (o : Option Signature). callee_in strict (built_in f) o) (g.pins.functions f) ∙ callee_as strict f (lookup g.known.functions f)

pub strict_is : (es : Exprs) (at : ℕ) (strict : Bool) (f : Name) (rest : Words)
    → strict_ahead (of_core core_word.List ∷ (part_words es ++ of_core (core_word.Call at strict f) ∷ rest)) 0 ≡ strict
strict_is es at strict f rest = (parts_balanced es).ahead (of_core (core_word.Call at strict f) ∷ rest) 0

nothing_less : (n : ℕ) → 0 + n ≡ n
nothing_less n = omega arith

-- a call that takes so many values
pub takes_as : (g : Setting) (es : Exprs) → OverList g es → (s : Open Name) (at params results : ℕ) (strict : Bool) (f : Name) (rest : Words) → IsDeep s
    → runs g (pushed s (frame.Takes params results)) (of_core core_word.List ∷ (part_words es ++ of_core (core_word.Call at strict f) ∷ rest))
    ≡ ((list_values (around g s) s.scope es >>= λ n. must_be (n == params) Arity at >>= λ all. Ok results) >>= λ n. runs g (having s (notes g s (list_uses es)) n
    at kind.Other) rest)
takes_as g es h s at params results strict f rest d =
    let L : ℕ → Result (State Name) Fault = λ n. runs g (having s (notes g s (list_uses es)) n at kind.Other) rest in
    h (pushed s (frame.Takes params results)) 0 (of_core (core_word.Call at strict f) ∷ rest) (frame_deep s (frame.Takes params results) d)
    ∙ then_equal (list_values (around g s) s.scope es) _ (λ n. (must_be (n == params) Arity at >>= λ all. Ok results) >>= L) (λ n. ap (λ (i : ℕ). (must_be
    (i == params) Arity at >>= λ all. Ok (Plain (having s (notes g s (list_uses es)) results at kind.Other))) >>= λ u. steps by_bytes g.items u rest)
    (nothing_less n)
    ∙ tested (n == params) Arity at (Plain (having s (notes g s (list_uses es)) results at kind.Other)) (λ u. steps by_bytes g.items u rest) results L refl)
    ∙ sym (bind_assoc (list_values (around g s) s.scope es) (λ n. must_be (n == params) Arity at >>= λ all. Ok results) L)
