-- THE WORDS OF A PROGRAM are checked as the rules check the program.
use Rattle.std.specs.Prelude.{◌≡◌, refl, ℕ, Bool, true, false, List, [], ◌∷◌, is_some, None, Result, Ok, Err, ⊤}
use Rattle.std.proofs.Common.{◌∙◌, ap}
use Rattle.source.specs.declared.fault.Fault.{Fault}
use Rattle.source.specs.declared.fault.FaultKind.TheVariants.{NoMain}
use Rattle.semantics.specs.Graph.{same_name}
use Rattle.source.specs.First.{◌>>=◌, must}
use Rattle.source.specs.Tree.{Name, Item, Cells, Defines, Program}
use Rattle.source.specs.Fits.{FitsProgram}
use Rattle.source.specs.Words.{program_words}
use Rattle.source.specs.Rules as rules
use Rattle.source.specs.Rules.{main_name, no_items, heads, function_in, functions_checked, checked}
use Rattle.source_check.specs.Heads.{Heads, no_heads}
use Rattle.source_check.specs.Steps.{State, begun, steps}
use Rattle.source_check.specs.Checks.{is_function, words_checked}
use Rattle.source_check.proofs.Runs.{mapped}
use Rattle.source_check.proofs.Noted.{by_bytes}
use Rattle.source_check.proofs.Trees.{over_functions}
use Rattle.source_check.proofs.HeadsRead.{with_items, all_headed, items_read}
use Rattle.source_check.proofs.Known.{all_known, function_is_known}

items_headed : (items : List Item) (h : Heads Name) → (all_headed h items).item ≡ with_items h.item items
items_headed [] h = refl
items_headed (Cells x len ∷ items) h = items_headed items _
items_headed (Defines f ∷ items) h = items_headed items _

no_answer : (r : Result ⊤ Fault) → (mapped (λ (u : ⊤). begun) r >>= λ (s : State Name). Ok tt) ≡ r
no_answer (Ok u) = refl
no_answer (Err e) = refl

with_main : (b c : Bool) (end : ℕ) (r q : Result ⊤ Fault) → b ≡ c → r ≡ q → (must b NoMain end >>= λ there. r) ≡ (must c NoMain end >>= λ main. q)
with_main true true end r q e h = h
with_main false false end r q e h = refl
with_main true false end r q e h = absurd (cc)
with_main false true end r q e h = absurd (cc)

after_heads : (end : ℕ) (p : Program) → FitsProgram p → (r : Result rules.Heads Fault) → heads no_items p ≡ r
    → (mapped (λ (b : rules.Heads). all_headed no_heads p) r >>= λ (h : Heads Name). must (is_function (h.item main_name)) NoMain end >>= λ there. steps
    (by_bytes h.item) begun (program_words p) >>= λ last. Ok tt)
    ≡ (r >>= λ all. must (is_some (function_in p main_name)) NoMain end >>= λ main. functions_checked p p)
after_heads end p fits (Err e) h = refl
after_heads end p fits (Ok b) h = rw (items_headed p no_heads)
    (with_main (is_function (with_items (λ x. None) p main_name)) (is_some (function_in p main_name)) end _ (functions_checked p p)
    (function_is_known p b h main_name)
    (ap (λ r. r >>= λ (s : State Name). Ok tt) (over_functions (with_items (λ x. None) p) p (all_known p b h) p fits) ∙ no_answer (functions_checked p p)))

pub words_are_checked : (end : ℕ) (p : Program) → FitsProgram p → words_checked same_name main_name end (program_words p) ≡ checked end p
words_are_checked end p fits = rw (items_read p no_heads [] (λ x. refl)) (after_heads end p fits (heads no_items p) refl)
