-- Iterations one after another keep within each bound of at least 2: none before the one before is under way.
use Rattle.std.proofs.Common.{◌≡◌, ℕ, ◌+◌, ◌<◌, List, [], ◌∷◌, Some, arith}
use Rattle.std.proofs.lemmas.List.Elements.{All-head}
use Rattle.std.specs.Prelude.{slice_get}
use Rattle.semantics.specs.Meaning.{Context, Turned, Activity}
use Rattle.law_loops_complete.specs.Within.{place_of, IsIn, IsUnderWay}
use Rattle.law_ordered_runs.specs.InOrder.{OneAfterAnother, OneAfterAnotherKeeps}

none_under_way : (run : List Activity) → OneAfterAnother run → (c : Context) (n u j : ℕ) (b : Activity) → slice_get run j ≡ Some b
    → IsIn (Turned c n u) (place_of b) → (t : ℕ) → t + 1 < u → IsUnderWay run c n j t → ⊥
none_under_way run ordered c n u j b e at t low way =
    let later = way.2 in
    let before = ordered c n t u way.0 j way.1 b (omega (arith, low)) way.3 way.4 e at in
    omega (arith, later, before)

pub one_after_another_keeps : OneAfterAnotherKeeps
one_after_another_keeps fl run ordered least c n k u j b bound e at [] all differ = let low = least c n k bound in omega (arith, low)
one_after_another_keeps fl run ordered least c n k u j b bound e at (t ∷ ts) all differ =
    let h = All-head (λ t. (t + 1 < u) × IsUnderWay run c n j t) t ts all in
    absurd (none_under_way run ordered c n u j b e at t h.0 h.1)
