-- A call as a whole.
use Rattle.std.specs.Prelude.{◌≡◌, refl, ℕ, ◌==◌, codes, Bool, true, false, List, [], ◌∷◌, ◌++◌, length, Option, None, Some, Result, Ok, if◌then◌else◌}
use Rattle.std.proofs.Common.{◌∙◌, ap, append_assoc}
use Rattle.semantics.specs.Graph.{same_name}
use Rattle.source.specs.declared.fault.FaultKind.TheVariants.{NoSuchName, Arity}
use Rattle.source.specs.declared.word.Word.TheVariants as core_word
use Rattle.source.specs.Tree.{Name}
use Rattle.surface.specs.declared.fault.Fault.{Fault}
use Rattle.surface.specs.declared.fault.FaultKind.TheVariants.{Core}
use Rattle.surface.specs.Tree.{Call, Exprs}
use Rattle.surface.specs.Words.{Words, of_core, part_words}
use Rattle.surface.specs.Outside.{list_uses}
use Rattle.surface.specs.First.{◌>>=◌, refused, must_be}
use Rattle.surface.specs.Known.{Min, Max, Abs, Len, Callee, Missing, OfValues, OfArrays, IsBuiltIn, Signature, all_values, callee, callee_of, lookup}
use Rattle.surface.specs.Rules.{Around, same_ranks, measured, list_values, argument_ranks}
use Rattle.surface_check.specs.declared.frame.Kind.TheVariants as kind
use Rattle.surface_check.specs.Steps.{Open, name_part, measured_from, calls_built_in, callee_at, steps}
use Rattle.surface_check.proofs.HeadsRead.{by_bytes}
use Rattle.surface_check.proofs.Over.{Setting, IsDeep, around, runs, notes, having, Over}
use Rattle.surface_check.proofs.OverLists.{OverList}
use Rattle.surface_check.proofs.OverCalls.{callee_is, strict_is, takes_as}
use Rattle.surface_check.proofs.OverArguments.{OverArguments, passes_as}

-- the words of the arguments, and those after them
abbrev pub argument_words : Exprs → ℕ → Bool → Name → Words → Words
argument_words es at strict f rest = of_core core_word.List ∷ (part_words es ++ of_core (core_word.Call at strict f) ∷ rest)

-- what `len` leaves
abbrev pub OverMeasured : Setting → Exprs → Type 0
OverMeasured g es = (s : Open Name) (at : ℕ) (strict : Bool) (f : Name) (rest : Words) → IsDeep s
    → (measured_from by_bytes g.items s at (name_part (part_words es ++ of_core (core_word.Call at strict f) ∷ rest)) >>= λ u. steps by_bytes g.items u
    (argument_words es at strict f rest))
    ≡ (measured (around g s) at es >>= λ n. runs g (having s (notes g s (list_uses es)) n at kind.Other) rest)

-- THE CHOICE of what is called
abbrev called_values : Around → List Name → ℕ → Exprs → Callee → Result ℕ Fault
called_values a scope at es c = elim c as (λ _. Result ℕ Fault) [
  | Missing ↦ refused (Core NoSuchName) at
  | OfValues params results ↦ list_values a scope es >>= λ n. must_be (n == params) Arity at >>= λ all. Ok results
  | OfArrays ranks results ↦ argument_ranks a scope es >>= λ found. must_be (same_ranks found ranks) Arity at >>= λ all. Ok results
  | IsBuiltIn which ↦ elim which as (λ _. Result ℕ Fault) [
    | Len ↦ measured a at es
    | Min ↦ list_values a scope es >>= λ n. must_be (n == 2) Arity at >>= λ all. Ok 1
    | Max ↦ list_values a scope es >>= λ n. must_be (n == 2) Arity at >>= λ all. Ok 1
    | Abs ↦ list_values a scope es >>= λ n. must_be (n == 1) Arity at >>= λ all. Ok 1
  ]
]

no_arrays : (a b c d : Bool) (ranks : List ℕ) (results : ℕ)
    → (if a then IsBuiltIn Min else if b then IsBuiltIn Max else if c then IsBuiltIn Abs else if d then IsBuiltIn Len else Missing) ≡ OfArrays ranks results → ⊥
no_arrays true b c d ranks results h = cc
no_arrays false true c d ranks results h = cc
no_arrays false false true d ranks results h = cc
no_arrays false false false true ranks results h = cc
no_arrays false false false false ranks results h = cc

of_signature : (s : Signature) (b : Bool) (ranks : List ℕ) (results : ℕ) → (if b then OfValues (length s.ranks) s.results else OfArrays s.ranks s.results) ≡ OfArrays
    ranks results
    → Some s ≡ Some (record { ranks = ranks; results = results })
of_signature s true ranks results h = absurd (cc)
of_signature s false ranks results h =
    let p : s.ranks ≡ ranks = cc in
    let q : s.results ≡ results = cc in
    λ i. Some (record { ranks = p i; results = q i })

-- a callee with parameters for arrays is a function
of_arrays : (strict : Bool) (f : Name) (o : Option Signature) (ranks : List ℕ) (results : ℕ) → callee_of strict f o ≡ OfArrays ranks results
    → o ≡ Some (record { ranks = ranks; results = results })
of_arrays true f (Some s) ranks results h = of_signature s (all_values s.ranks) ranks results h
of_arrays false f (Some s) ranks results h = of_signature s (all_values s.ranks) ranks results h
of_arrays true f None ranks results h = absurd (cc)
of_arrays false f None ranks results h = absurd (no_arrays (same_name f (codes "min")) (same_name f (codes "max")) (same_name f (codes "abs"))
    (same_name f (codes "len")) ranks results h)

chosen : (g : Setting) (at : ℕ) (strict : Bool) (f : Name) (es : Exprs) → OverList g es → OverArguments g es → OverMeasured g es → (s : Open Name) (rest : Words)
    → IsDeep s → (c : Callee) → callee g.known strict f ≡ c
    → (calls_built_in by_bytes g.items s at c (argument_words es at strict f rest) >>= λ u. steps by_bytes g.items u (argument_words es at strict f rest))
    ≡ (called_values (around g s) s.scope at es c >>= λ n. runs g (having s (notes g s (list_uses es)) n at kind.Other) rest)
chosen g at strict f es h j m s rest d Missing e = refl
chosen g at strict f es h j m s rest d (OfValues params results) e = takes_as g es h s at params results strict f rest d
chosen g at strict f es h j m s rest d (OfArrays ranks results) e = passes_as g es j s at strict f ranks results rest d (of_arrays strict f
    (lookup g.known.functions f) ranks results e)
chosen g at strict f es h j m s rest d (IsBuiltIn Len) e = m s at strict f rest d
chosen g at strict f es h j m s rest d (IsBuiltIn Min) e = takes_as g es h s at 2 1 strict f rest d
chosen g at strict f es h j m s rest d (IsBuiltIn Max) e = takes_as g es h s at 2 1 strict f rest d
chosen g at strict f es h j m s rest d (IsBuiltIn Abs) e = takes_as g es h s at 1 1 strict f rest d

pub over_call : (g : Setting) (at : ℕ) (strict : Bool) (f : Name) (es : Exprs) → OverList g es → OverArguments g es → OverMeasured g es
    → Over g (Call at strict f es)
over_call g at strict f es h j m s rest d w =
    let ws : Words = argument_words es at strict f rest in
    ap (runs g s) (append_assoc (of_core (core_word.Callee at f) ∷ of_core core_word.List ∷ part_words es) (of_core (core_word.Call at strict f) ∷ []) rest)
    ∙ ap (λ (b : Bool). calls_built_in by_bytes g.items s at (callee_at by_bytes g.items b f) ws >>= λ u. steps by_bytes g.items u ws) (strict_is es at strict f
    rest)
    ∙ ap (λ (c : Callee). calls_built_in by_bytes g.items s at c ws >>= λ u. steps by_bytes g.items u ws) (callee_is g strict f)
    ∙ chosen g at strict f es h j m s rest d (callee g.known strict f) refl
