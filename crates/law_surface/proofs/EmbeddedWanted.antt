-- A program of the core wants no instances.
use Rattle.std.specs.Prelude.{◌≡◌, Bool, true, false, List, [], ◌∷◌, map, codes, Some, refl, if◌then◌else◌, ⊤}
use Rattle.semantics.specs.Graph.{same_name}
use Rattle.source.specs.Tree as core
use Rattle.source.specs.Tree.{Name, NameAt}
use Rattle.surface.specs.Tree.{Exprs}
use Rattle.surface.specs.Known.{Known, Signature, lookup, all_values, Missing, IsBuiltIn, Min, Max, Abs, Len, callee_of, built_in}
use Rattle.surface.specs.Desugar.{Setting}
use Rattle.surface.specs.Instances.{wanted_by, wanted, list_wanted, body_wanted, turn_wanted, arrays_for, in_function, plain_wants, all_wanted}
use Rattle.surface.specs.Embedded.{value_param, embedded_expr, embedded_exprs, embedded_body, embedded_turn, embedded}
use Rattle.law_surface.proofs.EmbeddedRules.{all_are_values}
use Rattle.law_surface.proofs.EmbeddedHeads.{grown, all_grown}

-- no function has a parameter that stands for an array
abbrev pub AllPlain : List (Name × Signature) → Type 0
AllPlain [] = ⊤
AllPlain (entry ∷ entries) = (all_values entry.1.ranks ≡ true) × AllPlain entries

pub plain_grown : (k : Known) (p : core.Program) → AllPlain k.functions → AllPlain (all_grown k p).functions
plain_grown k [] h = h
plain_grown k (core.Cells x len ∷ items) h = plain_grown (grown k (core.Cells x len)) items h
plain_grown k (core.Defines f ∷ items) h = plain_grown (grown k (core.Defines f)) items (all_are_values f.params, h)

built_in_wants : (s : Setting) (f : Name) (es : Exprs) → wanted_by s f es (built_in f) ≡ []
built_in_wants s f es = go (same_name f (codes "min")) (same_name f (codes "max")) (same_name f (codes "abs")) (same_name f (codes "len"))
  where
    go : (b c d e : Bool) → wanted_by s f es (if b then IsBuiltIn Min else if c then IsBuiltIn Max else if d then IsBuiltIn Abs else if e then IsBuiltIn Len
        else Missing) ≡ []
    go true c d e = refl
    go false true d e = refl
    go false false true e = refl
    go false false false true = refl
    go false false false false = refl

called_wants : (s : Setting) (f : Name) (es : Exprs) (strict : Bool) (entries : List (Name × Signature)) → AllPlain entries → wanted_by s f es (callee_of
    strict f (lookup entries f)) ≡ []
called_wants s f es true [] h = refl
called_wants s f es false [] h = built_in_wants s f es
called_wants s f es strict (entry ∷ entries) h = go (same_name f entry.0) (called_wants s f es strict entries h.1)
  where
    go : (b : Bool) → wanted_by s f es (callee_of strict f (lookup entries f)) ≡ [] → wanted_by s f es (callee_of strict f (if b then Some entry.1 else
        lookup entries f)) ≡ []
    go true later = rw h.0 refl
    go false later = later

mutual
  none : (s : Setting) → AllPlain s.known.functions → (e : core.Expr) → wanted s (embedded_expr e) ≡ []
  none s h (core.Number at n) = refl
  none s h (core.Named at x) = refl
  none s h (core.Bracket e) = none s h e
  none s h (core.Prefix at op e) = none s h e
  none s h (core.Infix at sign l r) = rw (none s h l) (none s h r)
  none s h (core.Fetch at a e) = none s h e
  none s h (core.Store at a e d) = rw (none s h e) (none s h d)
  none s h (core.Call at strict f es) = rw (called_wants s f (embedded_exprs es) strict s.known.functions h) (list_none s h es)
  none s h (core.If at p l r) = rw (none s h p) (rw (body_none s h l) (body_none s h r))
  none s h (core.Loop at bound firsts turn) = rw (list_none s h firsts) (turn_none s h turn)

  list_none : (s : Setting) → AllPlain s.known.functions → (es : core.Exprs) → list_wanted s (embedded_exprs es) ≡ []
  list_none s h (core.One e) = none s h e
  list_none s h (core.More e es) = rw (none s h e) (list_none s h es)

  body_none : (s : Setting) → AllPlain s.known.functions → (body : core.Body) → body_wanted s (embedded_body body) ≡ []
  body_none s h (core.Let at targets es rest) = rw (list_none s h es) (body_none s h rest)
  body_none s h (core.Do es rest) = rw (list_none s h es) (body_none s h rest)
  body_none s h (core.Give es) = list_none s h es
  body_none s h (core.Chain e) = none s h e

  turn_none : (s : Setting) → AllPlain s.known.functions → (turn : core.Turn) → turn_wanted s (embedded_turn turn) ≡ []
  turn_none s h (core.Before xs p body) = rw (none s h p) (body_none s h body)
  turn_none s h (core.After xs body p) = rw (body_none s h body) (none s h p)

plain_none : (s : Setting) → AllPlain s.known.functions → (items : core.Program) → plain_wants s (embedded items) ≡ []
plain_none s h [] = refl
plain_none s h (core.Cells x len ∷ items) = plain_none s h items
plain_none s h (core.Defines f ∷ items) =
    rw (all_are_values f.params) (rw (body_none (in_function s (arrays_for (map value_param f.params) [])) h f.body) (plain_none s h items))

pub none_wanted : (s : Setting) → AllPlain s.known.functions → (p : core.Program) → all_wanted s (embedded p) ≡ []
none_wanted s h p = rw (plain_none s h p) refl
