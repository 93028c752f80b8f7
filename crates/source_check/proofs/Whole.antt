-- The answers of the parts together.
use Rattle.std.specs.Prelude.{◌≡◌, refl, ℕ, ◌⊎◌, Bool, true, false, List, IsOk, Option, Result, Ok, Err, ⊤, is_some}
use Rattle.std.proofs.Common.{◌∙◌, ap, sym, subst, inl, inr}
use Rattle.source.specs.declared.fault.Fault.{Fault}
use Rattle.source.specs.declared.fault.FaultKind.TheVariants.{NoMain}
use Rattle.source.specs.declared.word.Word.{Word}
use Rattle.source.specs.First.{◌>>=◌, must}
use Rattle.source.specs.Tree.{Name, Program}
use Rattle.source.specs.Rules as rules
use Rattle.source.specs.Rules.{checked, heads, no_items, function_in, main_name, functions_checked}
use Rattle.source_check.specs.declared.frame.Entry.{Entry}
use Rattle.source_check.specs.Heads.{Heads, no_heads, through, head_step}
use Rattle.source_check.specs.Steps.{State, begun, steps}
use Rattle.source_check.specs.Checks.{is_function, words_checked}
use Rattle.source.specs.Words.{IsProgram}
use Rattle.source_check.specs.Checked.{IsChecked}
use Rattle.source_check.specs.Numbers.{IsMain}
use Rattle.source_check.specs.Stack.{HeadsGive, DoesAs, out_of_memory, by_number, item_in, numbers}
use Rattle.source_check.proofs.Numbers.{numbers_are_checked}

-- once the heads are read
abbrev rest_checked : List (Option Entry) → ℕ → ℕ → List (Word ℕ) → Result ⊤ Fault
rest_checked entries main end ws = must (is_function (item_in entries main)) NoMain end >>= λ there. steps (numbers entries) begun ws >>= λ last. Ok tt

heads_give : (entries : List (Option Entry)) (main end : ℕ) (ws : List (Word ℕ)) (r : Result (Heads ℕ) Fault) → HeadsGive entries r
    → (r >>= λ h. must (is_function (h.item main)) NoMain end >>= λ there. steps (record { same = by_number; item = h.item }) begun ws >>= λ last. Ok tt) ≡
    rest_checked entries main end ws
heads_give entries main end ws (Ok h) e = rw e refl
heads_give entries main end ws (Err f) e = absurd e

pub read_then : (entries : List (Option Entry)) (main end : ℕ) (ws : List (Word ℕ)) → HeadsGive entries (through (head_step by_number) no_heads ws)
    → words_checked by_number main end ws ≡ rest_checked entries main end ws
read_then entries main end ws e = heads_give entries main end ws (through (head_step by_number) no_heads ws) e

pub unread : (main end : ℕ) (ws : List (Word ℕ)) (f : Fault) → through (head_step by_number) no_heads ws ≡ Err f → words_checked by_number main end ws ≡ Err f
unread main end ws f e = rw e refl

pub no_main : (entries : List (Option Entry)) (main end : ℕ) (ws : List (Word ℕ)) (f : Fault)
    → must (is_function (item_in entries main)) NoMain end ≡ Err f → rest_checked entries main end ws ≡ Err f
no_main entries main end ws f e = rw e refl

pub no_function : (entries : List (Option Entry)) (main end : ℕ) (ws : List (Word ℕ)) (u : ⊤) (f : Fault)
    → must (is_function (item_in entries main)) NoMain end ≡ Ok u
    → steps (numbers entries) begun ws ≡ Err f → rest_checked entries main end ws ≡ Err f
no_function entries main end ws u f m e = rw (m, e) refl

abbrev good : Result ⊤ Fault
good = Ok tt

all_well : (r : Result (State ℕ) Fault) → IsOk r → (r >>= λ (last : State ℕ). good) ≡ good
all_well (Ok s) h = refl
all_well (Err e) h = absurd (cc)

pub functions_well : (entries : List (Option Entry)) (main end : ℕ) (ws : List (Word ℕ)) (u : ⊤) → must (is_function (item_in entries main)) NoMain end ≡ Ok u
    → IsOk (steps (numbers entries) begun ws) → rest_checked entries main end ws ≡ Ok tt
functions_well entries main end ws u m h = rw m (all_well (steps (numbers entries) begun ws) h)

-- A good program is good wherever its text ends.
main_there : (b : Bool) (end other : ℕ) (q : Result ⊤ Fault) → (must b NoMain end >>= λ main. q) ≡ Ok tt → (must b NoMain other >>= λ main. q) ≡ Ok tt
main_there true end other q h = h
main_there false end other q h = absurd (cc)

heads_there : (p : Program) (end other : ℕ) (r : Result rules.Heads Fault) → (r >>= λ all. must (is_some
    (function_in p main_name)) NoMain end >>= λ main. functions_checked p p) ≡ Ok tt
    → (r >>= λ all. must (is_some (function_in p main_name)) NoMain other >>= λ main. functions_checked p p) ≡ Ok tt
heads_there p end other (Ok h) e = main_there (is_some (function_in p main_name)) end other (functions_checked p p) e
heads_there p end other (Err f) e = absurd (cc)

any_end : (end other : ℕ) (p : Program) → checked end p ≡ Ok tt → checked other p ≡ Ok tt
any_end end other p h = heads_there p end other (heads no_items p) h

pub is_checked : (names : List Name) (ws : List (Word ℕ)) (main end : ℕ) → IsMain names main → words_checked by_number main end ws ≡ Ok tt → IsChecked names ws
is_checked names ws main end m h = record { checked = λ p other i. any_end end other p (sym (numbers_are_checked names ws main end p i.fits i.words m) ∙ h) }

pub is_refused : (names : List Name) (ws : List (Word ℕ)) (main end : ℕ) (p : Program) (f : Fault) → IsMain names main → IsProgram names ws p
    → words_checked by_number main end ws ≡ Err f → checked end p ≡ Err f
is_refused names ws main end p f m i h = sym (numbers_are_checked names ws main end p i.fits i.words m) ∙ h

pub all_is_well : (names seen : List Name) (ws gone : List (Word ℕ)) (main end : ℕ) (r : Result ⊤ Fault) (u : ⊤) → seen ≡ names → gone ≡ ws → IsMain seen main
    → DoesAs r tt (words_checked by_number main end gone) → r ≡ Ok u → IsChecked names ws
all_is_well names seen ws gone main end (Ok x) u e d m h q = is_checked names ws main end (subst (λ z. IsMain z main) e m) (ap
    (words_checked by_number main end) (sym d) ∙ h)
all_is_well names seen ws gone main end (Err x) u e d m h q = absurd (cc)

pub first_fault : (names seen : List Name) (ws gone : List (Word ℕ)) (main end : ℕ) (r : Result ⊤ Fault) (f : Fault) (p : Program) → seen ≡ names
    → gone ≡ ws → IsMain seen main
    → DoesAs r tt (words_checked by_number main end gone) → r ≡ Err f → IsProgram names ws p → (f ≡ out_of_memory) ⊎ (checked end p ≡ Err f)
first_fault names seen ws gone main end (Ok x) f p e d m h q i = absurd (cc)
first_fault names seen ws gone main end (Err x) f p e d m (inl h) q i = let k : f ≡ x = cc in inl (k ∙ h)
first_fault names seen ws gone main end (Err x) f p e d m (inr h) q i =
    let k : x ≡ f = cc in
    inr (is_refused names ws main end p f (subst (λ z. IsMain z main) e m) i (ap (words_checked by_number main end) (sym d) ∙ h ∙ ap Err k))
