-- CELLS of arrays of one dimension, and CALLS of functions of values.
use Rattle.std.specs.Prelude.{◌≡◌, refl, ℕ, Bool, false, [], ◌∷◌, ◌++◌, length}
use Rattle.std.proofs.Common.{◌∙◌, ap, sym}
use Rattle.source.specs.declared.word.Word.TheVariants as core
use Rattle.source.specs.Tree as tree
use Rattle.source.specs.Tree.{Name}
use Rattle.source.specs.Words.{words, part_words, Words}
use Rattle.surface.specs.Tree.{Expr, Fetch, Store, Call, Exprs, One}
use Rattle.surface.specs.Known.{Callee, Missing, OfValues, OfArrays, IsBuiltIn, callee}
use Rattle.surface.specs.Making.{Made, made, ◌>>=◌}
use Rattle.surface.specs.Desugar.{Setting, array_for, call_made, desugar, desugar_all, desugar_values, desugar_first, desugar_pair}
use Rattle.source.specs.Tree.{Exprs as CoreExprs}
use Rattle.surface.specs.Making.{Made}
use Rattle.std.specs.Prelude.{Option}
use Rattle.desugar.specs.declared.frame.Frame.TheVariants as frame
use Rattle.desugar.specs.Plain.{Ordinary}
use Rattle.desugar.proofs.Noted.{noted, noted_parts, o}
use Rattle.desugar.proofs.Held.{held, same, on}
use Rattle.desugar.specs.StepsDesugar.{names_in}
use Rattle.desugar.proofs.Lists.{call_lists, fetch_lists, store_lists}
use Rattle.desugar.proofs.Over.{Over, OverParts, value, one_lets, two_lets}

pub over_fetch : (s : Setting) (t : Bool) (at : ℕ) (a : Name) (e : Expr) → Over s false e → Over s t (Fetch at a (One e))
over_fetch s t at a e h ws ls g ns fs st =
    let m : Made tree.Expr = desugar s false e g in
    on (names_in s) _ _ _ (o (core.Cell at a) ∷ noted false e) (o (core.Fetch at a) ∷ [])
    (h (ws ++ core.Cell at (array_for s a) ∷ []) ls g ns fs (frame.List (length ws) ∷ st))
    (same (fetch_lists ws (words m.it) (core.Cell at (array_for s a)) (core.Fetch at (array_for s a))) (one_lets ls m.lets))

pub over_store : (s : Setting) (t : Bool) (at : ℕ) (a : Name) (e d : Expr) → Over s false e → Over s false d → Over s t (Store at a (One e) d)
over_store s t at a e d h k ws ls g ns fs st =
    let m : Made tree.Expr = desugar s false e g in
    let n : Made tree.Expr = desugar s false d m.given in
    let cell : Words = ws ++ core.Cell at (array_for s a) ∷ [] in
    on (names_in s) _ _ _ (o (core.Cell at a) ∷ noted false e ++ o core.Index ∷ noted false d) (o (core.Store at a) ∷ [])
    (on (names_in s) _ _ _ (o (core.Cell at a) ∷ noted false e) (o core.Index ∷ noted false d)
    (h cell ls g ns fs (frame.List (length ws) ∷ st))
    (k (cell ++ words m.it ++ core.Index ∷ []) (ls ++ held m.lets) m.given ns fs (frame.List (length ws) ∷ st)))
    (same (store_lists ws (words m.it) (words n.it) (core.Cell at (array_for s a)) core.Index (core.Store at (array_for s a))) (two_lets ls m.lets n.lets))

call_is : (s : Setting) (at : ℕ) (strict : Bool) (f : Name) (es : Exprs) (c : Callee) (all : ℕ → Made CoreExprs) (values : ℕ → Made (Option CoreExprs))
    (first : ℕ → Made tree.Expr) (pair : ℕ → Made (tree.Expr × tree.Expr)) → Ordinary c
    → call_made s at strict f es c all values first pair ≡ (all >>= λ vs. made (tree.Call at strict f vs))
call_is s at strict f es Missing all values first pair h = refl
call_is s at strict f es (OfValues params results) all values first pair h = refl
call_is s at strict f es (OfArrays ranks results) all values first pair h = absurd h
call_is s at strict f es (IsBuiltIn which) all values first pair h = absurd h

pub over_call : (s : Setting) (t : Bool) (at : ℕ) (strict : Bool) (f : Name) (es : Exprs) → Ordinary (callee s.known strict f) → OverParts s es
    → Over s t (Call at strict f es)
over_call s t at strict f es c h ws ls g ns fs st =
    let m : Made CoreExprs = desugar_all s es g in
    let k : (ℕ → Made tree.Expr) = desugar_all s es >>= λ vs. made (tree.Call at strict f vs) in
    on (names_in s) _ _ _ (o (core.Callee at f) ∷ o core.List ∷ noted_parts es) (o (core.Call at strict f) ∷ [])
    (h (ws ++ core.Callee at f ∷ [] ++ core.List ∷ []) ls g ns fs (frame.List (length ws) ∷ st))
    (same (call_lists ws (part_words m.it) (core.Callee at f) core.List (core.Call at strict f)) (one_lets ls m.lets)
    ∙ ap (λ (z : ℕ → Made tree.Expr). value s (Call at strict f es) (z g) ws ls ns fs st) (sym (call_is s at strict f es (callee s.known strict f)
    (λ n. desugar_all s es n) (λ n. desugar_values s es n) (λ n. desugar_first s es n) (λ n. desugar_pair s at es n) c)))
