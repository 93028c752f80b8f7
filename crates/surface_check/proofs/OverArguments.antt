-- Arguments of a function with parameters for arrays.
use Rattle.std.specs.Prelude.{◌≡◌, refl, ℕ, ◌||◌, Bool, true, false, List, [], ◌∷◌, ◌++◌, length, replicate, take, is_some, Option, None, Some}
use Rattle.std.specs.Prelude.{Result, Ok}
use Rattle.std.proofs.Common.{◌∙◌, ap, sym, append_assoc, append-nil}
use Rattle.std.proofs.Math.Seq.{take-append_seam, drop-append_seam}
use Rattle.source.specs.declared.fault.FaultKind.TheVariants.{Arity}
use Rattle.source.specs.declared.word.Word.TheVariants as core_word
use Rattle.source.specs.Tree.{Name}
use Rattle.source.specs.Outside.{is_in}
use Rattle.surface.specs.declared.fault.Fault.{Fault}
use Rattle.surface.specs.Tree.{Expr, Named, Exprs, One, More}
use Rattle.surface.specs.Words.{Words, of_core, words, part_words}
use Rattle.surface.specs.Outside.{uses, list_uses}
use Rattle.surface.specs.First.{◌>>=◌, must_be}
use Rattle.surface.specs.Known.{Signature, lookup}
use Rattle.surface.specs.Rules.{Around, rank_in, rank_of, argument_rank, same_ranks, values, argument_ranks}
use Rattle.source_check.specs.Steps.{since}
use Rattle.surface_check.specs.declared.entry.Entry.{Entry}
use Rattle.surface_check.specs.declared.frame.Kind.TheVariants as kind
use Rattle.surface_check.specs.declared.frame.Frame.{Frame}
use Rattle.surface_check.specs.declared.frame.Frame.TheVariants as frame
use Rattle.surface_check.specs.Pins.{array_in}
use Rattle.surface_check.specs.Steps.{Open, State, Plain, Passing, pushed, ended, lookup_by, no_value, noted, argument, passed, steps}
use Rattle.surface_check.proofs.HeadsRead.{by_bytes}
use Rattle.surface_check.proofs.Over.{Setting, IsDeep, around, runs, notes, having, Over, still_deep, notes_both, then_equal, bind_assoc, tested, rank_is}
use Rattle.surface_check.proofs.OverLists.{frame_deep}

-- THE NAME OF AN ARRAY is no name of a value
or_here : (a : Bool) → (a || true) ≡ true
or_here true = refl
or_here false = refl

pub noted_hidden : (hidden : Name → Bool) (inner : List Name) (k : ℕ) (used : List Name) (x : Name) → hidden x ≡ true → noted by_bytes hidden inner k used x ≡ used
noted_hidden hidden inner k used x h = rw (h, or_here (is_in x inner)) refl

hidden_rank : (o : Option ℕ) (q : Option Entry) (n : ℕ) → rank_in o (array_in q) ≡ Some n → (is_some q || is_some o) ≡ true
hidden_rank (Some m) None n h = refl
hidden_rank (Some m) (Some e) n h = refl
hidden_rank None (Some e) n h = refl
hidden_rank None None n h = absurd (cc)

pub array_noted : (g : Setting) (s : Open Name) (x : Name) (n : ℕ) → rank_of (around g s) x ≡ Some n → notes g s (x ∷ []) ≡ s.used
array_noted g s x n h = noted_hidden (no_value by_bytes g.items s) (since s.turn.base s.scope) s.turn.start s.used x (hidden_rank
    (lookup_by by_bytes s.arrays x) (g.items.item x) n (rank_is g s x ∙ h))

-- so many ranks are found
abbrev pub finding : Open Name → List ℕ → Open Name
finding s rs = record s { found = s.found ++ rs }

abbrev pub OverArguments : Setting → Exprs → Type 0
OverArguments g es = (s : Open Name) (start : ℕ) (rest : Words) → IsDeep s → runs g (pushed s (frame.Passes start)) (part_words es ++ rest)
    ≡ (argument_ranks (around g s) s.scope es >>= λ rs. runs g (pushed (finding (having s (notes g s (list_uses es)) 0 0 kind.Other) rs) (frame.Passes start))
    rest)

-- ONE ARGUMENT: an array, or values
abbrev given : Option ℕ → Result ℕ Fault → Result (List ℕ) Fault
given o r = elim o as (λ _. Result (List ℕ) Fault) [
  | Some rank ↦ Ok (rank ∷ [])
  | None ↦ r >>= λ n. Ok (replicate n 0)
]

-- what one argument leaves
abbrev found_in : Setting → Open Name → ℕ → Expr → Words → List ℕ → Result (State Name) Fault
found_in g s start e ws rs = runs g (pushed (finding (having s (notes g s (uses e)) 0 0 kind.Other) rs) (frame.Passes start)) ws

no_array : (g : Setting) (e : Expr) → Over g e → (s : Open Name) (start : ℕ) (ws : Words) → IsDeep s → argument_rank (around g s) e ≡ None
    → runs g (pushed s (frame.Passes start)) (words e ++ of_core core_word.Part ∷ ws) ≡ ((values (around g s) s.scope e >>= λ n. Ok (replicate n 0)) >>= found_in g s
    start e ws)
no_array g e h s start ws d none =
    h (pushed s (frame.Passes start)) (of_core core_word.Part ∷ ws) (frame_deep s (frame.Passes start) d) (ap (λ (o : Option ℕ). is_some o) none)
    ∙ sym (bind_assoc (values (around g s) s.scope e) (λ n. Ok (replicate n 0)) (found_in g s start e ws))

an_array : (g : Setting) (at : ℕ) (x : Name) (s : Open Name) (start : ℕ) (ws : Words) (rank : ℕ) → rank_of (around g s) x ≡ Some rank
    → runs g (pushed s (frame.Passes start)) (of_core (core_word.Name at x) ∷ of_core core_word.Part ∷ ws) ≡ found_in g s start (Named at x) ws (rank ∷ [])
an_array g at x s start ws rank h =
    ap (λ (o : Option ℕ). argument by_bytes g.items (pushed s (frame.Passes start)) at x o >>= λ u. steps by_bytes g.items u (of_core core_word.Part ∷ ws)) (rank_is g s x
    ∙ h)
    ∙ ap (λ (rs : List ℕ). runs g (record (pushed (having s s.used 0 0 kind.Other) (frame.Passes start)) { found = rs }) ws) (append-nil (s.found ++ rank ∷ []))
    ∙ ap (λ (us : List Name). runs g (pushed (finding (having s us 0 0 kind.Other) (rank ∷ [])) (frame.Passes start)) ws) (sym (array_noted g s x rank h))

argument_as : (g : Setting) (e : Expr) → Over g e → (s : Open Name) (start : ℕ) (ws : Words) → IsDeep s
    → runs g (pushed s (frame.Passes start)) (words e ++ of_core core_word.Part ∷ ws)
    ≡ (given (argument_rank (around g s) e) (values (around g s) s.scope e) >>= found_in g s start e ws)
argument_as g (Named at x) h s start ws d = go (rank_of (around g s) x) refl
  where
    go : (o : Option ℕ) → rank_of (around g s) x ≡ o
        → runs g (pushed s (frame.Passes start)) (words (Named at x) ++ of_core core_word.Part ∷ ws)
        ≡ (given o (values (around g s) s.scope (Named at x)) >>= found_in g s start (Named at x) ws)
    go (Some rank) e = an_array g at x s start ws rank e
    go None e = no_array g (Named at x) h s start ws d e
argument_as g e h s start ws d = no_array g e h s start ws d refl

pub over_one_argument : (g : Setting) (e : Expr) → Over g e → OverArguments g (One e)
over_one_argument g e h s start rest d = ap (runs g (pushed s (frame.Passes start))) (append_assoc (words e) (of_core core_word.Part ∷ []) rest)
    ∙ argument_as g e h s start rest d

-- ARGUMENTS one after another
more_as : (a : Around) (scope : List Name) (e : Expr) (es : Exprs)
    → argument_ranks a scope (More e es) ≡ (given (argument_rank a e) (values a scope e) >>= λ rs. argument_ranks a scope es >>= λ others. Ok (rs ++ others))
more_as a scope e es = go (argument_rank a e)
  where
    go : (o : Option ℕ) → (elim o as (λ _. Result (List ℕ) Fault) [
      | Some rank ↦ argument_ranks a scope es >>= λ others. Ok (rank ∷ others)
      | None ↦ values a scope e >>= λ n. argument_ranks a scope es >>= λ others. Ok (replicate n 0 ++ others)
    ]) ≡ (given o (values a scope e) >>= λ rs. argument_ranks a scope es >>= λ others. Ok (rs ++ others))
    go (Some rank) = refl
    go None = sym (bind_assoc (values a scope e) (λ n. Ok (replicate n 0)) (λ rs. argument_ranks a scope es >>= λ others. Ok (rs ++ others)))

finding_deep : (s : Open Name) (rs : List ℕ) → IsDeep s → IsDeep (finding s rs)
finding_deep s rs d = record { scope = d.scope; used = d.used }

pub over_more_arguments : (g : Setting) (e : Expr) (es : Exprs) → Over g e → OverArguments g es → OverArguments g (More e es)
over_more_arguments g e es h j s start rest d =
    let a : Around = around g s in
    let f : Frame = frame.Passes start in
    let s1 : Open Name = having s (notes g s (uses e)) 0 0 kind.Other in
    let s2 : Open Name = having s (notes g s (uses e ++ list_uses es)) 0 0 kind.Other in
    let L : List ℕ → Result (State Name) Fault = λ rs. runs g (pushed (finding s2 rs) f) rest in
    ap (runs g (pushed s f)) (append_assoc (words e) (of_core core_word.Part ∷ part_words es) rest)
    ∙ argument_as g e h s start (part_words es ++ rest) d
    ∙ then_equal (given (argument_rank a e) (values a s.scope e)) _ (λ rs. (argument_ranks a s.scope es >>= λ others. Ok (rs ++ others)) >>= L)
    (λ rs. j (finding s1 rs) start rest (finding_deep s1 rs (still_deep g s (uses e) 0 0 kind.Other d))
    ∙ then_equal (argument_ranks a s.scope es) _ (λ others. L (rs ++ others))
    (λ others. ap (λ (us : List Name). runs g (pushed (finding (finding (having s us 0 0 kind.Other) rs) others) f) rest) (notes_both g s (uses e) (list_uses es) 0 0
    kind.Other)
    ∙ ap (λ (found : List ℕ). runs g (record (pushed s2 f) { found = found }) rest) (append_assoc s.found rs others))
    ∙ sym (bind_assoc (argument_ranks a s.scope es) (λ others. Ok (rs ++ others)) L))
    ∙ sym (bind_assoc (given (argument_rank a e) (values a s.scope e)) (λ rs. argument_ranks a s.scope es >>= λ others. Ok (rs ++ others)) L)
    ∙ ap (λ (r : Result (List ℕ) Fault). r >>= L) (sym (more_as a s.scope e es))

-- A CALL of a function that has these ranks
pub passes_as : (g : Setting) (es : Exprs) → OverArguments g es → (s : Open Name) (at : ℕ) (strict : Bool) (f : Name) (ranks : List ℕ) (results : ℕ) (rest : Words)
    → IsDeep s → lookup g.known.functions f ≡ Some (record { ranks = ranks; results = results })
    → steps by_bytes g.items (Passing s (length s.found)) (of_core core_word.List ∷ (part_words es ++ of_core (core_word.Call at strict f) ∷ rest))
    ≡ ((argument_ranks (around g s) s.scope es >>= λ found. must_be (same_ranks found ranks) Arity at >>= λ all. Ok results) >>= λ n. runs g (having s (notes g s
    (list_uses es)) n at kind.Other) rest)
passes_as g es h s at strict f ranks results rest d e =
    let start : ℕ = length s.found in
    let s1 : Open Name = having s (notes g s (list_uses es)) 0 0 kind.Other in
    let L : ℕ → Result (State Name) Fault = λ n. runs g (having s (notes g s (list_uses es)) n at kind.Other) rest in
    h s start (of_core (core_word.Call at strict f) ∷ rest) d
    ∙ then_equal (argument_ranks (around g s) s.scope es) _ (λ found. (must_be (same_ranks found ranks) Arity at >>= λ all. Ok results) >>= L)
    (λ found. ap (λ (o : Option Signature). passed (finding s1 found) at start o >>= λ u. steps by_bytes g.items u rest) (g.pins.functions f ∙ e)
    ∙ ap (λ (rs : List ℕ). (must_be (same_ranks rs ranks) Arity at >>= λ all. Ok (Plain (ended (record s1 { found = take start (s.found ++ found) }) results at
    kind.Other))) >>= λ u. steps by_bytes g.items u rest) (drop-append_seam s.found found)
    ∙ ap (λ (rs : List ℕ). (must_be (same_ranks found ranks) Arity at >>= λ all. Ok (Plain (ended (record s1 { found = rs }) results at kind.Other))) >>= λ u. steps
    by_bytes g.items u rest) (take-append_seam s.found found)
    ∙ tested (same_ranks found ranks) Arity at (Plain (ended s1 results at kind.Other)) (λ u. steps by_bytes g.items u rest) results L refl)
    ∙ sym (bind_assoc (argument_ranks (around g s) s.scope es) (λ found. must_be (same_ranks found ranks) Arity at >>= λ all. Ok results) L)
