-- What the answers of code say together.
use Rattle.std.specs.Prelude.{◌≡◌, refl, ℕ, ◌⊎◌, Bool, true, false, List, IsOk, Result, Ok, Err, ⊤, is_some}
use Rattle.std.proofs.Common.{◌∙◌, ap, sym, subst, inl, inr}
use Rattle.source.specs.declared.fault.FaultKind.TheVariants.{NoMain}
use Rattle.source.specs.Tree.{Name}
use Rattle.source.specs.Rules.{main_name}
use Rattle.source_check.specs.Numbers.{IsMain}
use Rattle.surface.specs.declared.fault.Fault.{Fault}
use Rattle.surface.specs.declared.word.Word.{Word}
use Rattle.surface.specs.Tree.{Program}
use Rattle.surface.specs.Words.{IsProgram}
use Rattle.surface.specs.First.{◌>>=◌, must_be}
use Rattle.surface.specs.Known.{Known, nothing, lookup}
use Rattle.surface.specs.Rules.{heads, functions_checked, checked}
use Rattle.surface_check.specs.Heads.{Names, Heads, no_heads, heads_read}
use Rattle.surface_check.specs.Steps.{State, Plain, begun, steps}
use Rattle.surface_check.specs.Checks.{is_function, words_checked, IsChecked}
use Rattle.surface_check.specs.Renamed.{numbers_in}
use Rattle.surface_check.specs.Table.{TableView, item_in, HeadsGive, DoesAs, out_of_memory}
use Rattle.surface_check.proofs.Numbers.{numbers_are_checked}

-- once the heads are read
abbrev pub rest_checked : Names ℕ → TableView → ℕ → ℕ → List (Word ℕ) → Result ⊤ Fault
rest_checked t v main end ws = must_be (is_function (item_in v.entries main)) NoMain end >>= λ there. steps t (record {
  item = item_in v.entries;
  ranks = v.ranks;
}) (Plain begun) ws >>= λ last. Ok tt

heads_give : (t : Names ℕ) (v : TableView) (main end : ℕ) (ws : List (Word ℕ)) (r : Result (Heads ℕ) Fault) → HeadsGive v r
    → (r >>= λ h. must_be (is_function (h.item main)) NoMain end >>= λ there. steps t (record { item = h.item; ranks = h.ranks }) (Plain begun) ws >>=
    λ last. Ok tt) ≡ rest_checked t v main end ws
heads_give t v main end ws (Ok h) e = rw (e.0, e.1) refl
heads_give t v main end ws (Err f) e = absurd e

pub read_then : (t : Names ℕ) (v : TableView) (main end : ℕ) (ws : List (Word ℕ)) → HeadsGive v (heads_read t no_heads ws)
    → words_checked t main end ws ≡ rest_checked t v main end ws
read_then t v main end ws e = heads_give t v main end ws (heads_read t no_heads ws) e

pub unread : (t : Names ℕ) (main end : ℕ) (ws : List (Word ℕ)) (f : Fault) → heads_read t no_heads ws ≡ Err f → words_checked t main end ws ≡ Err f
unread t main end ws f e = rw e refl

pub no_main : (t : Names ℕ) (v : TableView) (main end : ℕ) (ws : List (Word ℕ)) (f : Fault)
    → must_be (is_function (item_in v.entries main)) NoMain end ≡ Err f → rest_checked t v main end ws ≡ Err f
no_main t v main end ws f e = rw e refl

pub no_function : (t : Names ℕ) (v : TableView) (main end : ℕ) (ws : List (Word ℕ)) (u : ⊤) (f : Fault)
    → must_be (is_function (item_in v.entries main)) NoMain end ≡ Ok u
    → steps t (record { item = item_in v.entries; ranks = v.ranks }) (Plain begun) ws ≡ Err f → rest_checked t v main end ws ≡ Err f
no_function t v main end ws u f m e = rw (m, e) refl

abbrev good : Result ⊤ Fault
good = Ok tt

all_well : (r : Result (State ℕ) Fault) → IsOk r → (r >>= λ (last : State ℕ). good) ≡ good
all_well (Ok s) h = refl
all_well (Err e) h = absurd (cc)

pub functions_well : (t : Names ℕ) (v : TableView) (main end : ℕ) (ws : List (Word ℕ)) (u : ⊤)
    → must_be (is_function (item_in v.entries main)) NoMain end ≡ Ok u
    → IsOk (steps t (record { item = item_in v.entries; ranks = v.ranks }) (Plain begun) ws) → rest_checked t v main end ws ≡ Ok tt
functions_well t v main end ws u m h = rw m (all_well (steps t (record { item = item_in v.entries; ranks = v.ranks }) (Plain begun) ws) h)

-- A good program is good wherever its text ends.
main_there : (b : Bool) (end other : ℕ) (q : Result ⊤ Fault) → (must_be b NoMain end >>= λ main. q) ≡ Ok tt → (must_be b NoMain other >>= λ main. q) ≡ Ok tt
main_there true end other q h = h
main_there false end other q h = absurd (cc)

heads_there : (p : Program) (end other : ℕ) (r : Result Known Fault)
    → (r >>= λ known. must_be (is_some (lookup known.functions main_name)) NoMain end >>= λ main. functions_checked known p) ≡ Ok tt
    → (r >>= λ known. must_be (is_some (lookup known.functions main_name)) NoMain other >>= λ main. functions_checked known p) ≡ Ok tt
heads_there p end other (Ok known) e = main_there (is_some (lookup known.functions main_name)) end other (functions_checked known p) e
heads_there p end other (Err f) e = absurd (cc)

pub any_end : (end other : ℕ) (p : Program) → checked end p ≡ Ok tt → checked other p ≡ Ok tt
any_end end other p h = heads_there p end other (heads nothing p) h

pub is_checked : (names : List Name) (ws : List (Word ℕ)) (main end : ℕ) → IsMain names main → words_checked (numbers_in names) main end ws ≡ Ok tt
    → IsChecked names ws
is_checked names ws main end m h = record {
  checked = λ p other i. any_end end other p (sym (numbers_are_checked names ws p main end i.words i.fits m) ∙ h);
}

pub is_refused : (names : List Name) (ws : List (Word ℕ)) (main end : ℕ) (p : Program) (f : Fault) → IsMain names main → IsProgram names ws p
    → words_checked (numbers_in names) main end ws ≡ Err f → checked end p ≡ Err f
is_refused names ws main end p f m i h = sym (numbers_are_checked names ws p main end i.words i.fits m) ∙ h

-- Code looked for `main` in the names `seen`, and checked the words `gone` with the names `read`; they are these names and words.
abbrev pub FoundSo : List Name → List Name → List (Word ℕ) → ℕ → ℕ → Result ⊤ Fault → Type 0
FoundSo seen read gone main end r = IsMain seen main × DoesAs r tt (words_checked (numbers_in read) main end gone)

these_are : (names seen read : List Name) (ws gone : List (Word ℕ)) (main end : ℕ) (r : Result ⊤ Fault) → seen ≡ names → read ≡ names → gone ≡ ws
    → FoundSo seen read gone main end r → FoundSo names names ws main end r
these_are names seen read ws gone main end r e d g s = (
  subst (λ (z : List Name). IsMain z main) e s.0,
  subst (λ (z : List (Word ℕ)). DoesAs r tt (words_checked (numbers_in names) main end z)) g
      (subst (λ (z : List Name). DoesAs r tt (words_checked (numbers_in z) main end gone)) d s.1),
)

well : (names : List Name) (ws : List (Word ℕ)) (main end : ℕ) (r : Result ⊤ Fault) (u : ⊤) → FoundSo names names ws main end r → r ≡ Ok u → IsChecked names ws
well names ws main end (Ok x) u s q = is_checked names ws main end s.0 s.1
well names ws main end (Err x) u s q = absurd (cc)

faulty : (names : List Name) (ws : List (Word ℕ)) (main end : ℕ) (r : Result ⊤ Fault) (f : Fault) (p : Program) → FoundSo names names ws main end r
    → r ≡ Err f → IsProgram names ws p → (f ≡ out_of_memory) ⊎ (checked end p ≡ Err f)
faulty names ws main end (Ok x) f p s q i = absurd (cc)
faulty names ws main end (Err x) f p s q i = go s.1
  where
    go : (x ≡ out_of_memory) ⊎ (words_checked (numbers_in names) main end ws ≡ Err x) → (f ≡ out_of_memory) ⊎ (checked end p ≡ Err f)
    go (inl h) = let k : f ≡ x = cc in inl (k ∙ h)
    go (inr h) = let k : x ≡ f = cc in inr (is_refused names ws main end p f s.0 i (h ∙ ap (λ (z : Fault). Err z) k))

pub all_is_well : (names seen read : List Name) (ws gone : List (Word ℕ)) (main end : ℕ) (r : Result ⊤ Fault) (u : ⊤) → seen ≡ names → read ≡ names
    → gone ≡ ws → FoundSo seen read gone main end r → r ≡ Ok u → IsChecked names ws
all_is_well names seen read ws gone main end r u e d g s q = well names ws main end r u (these_are names seen read ws gone main end r e d g s) q

pub first_fault : (names seen read : List Name) (ws gone : List (Word ℕ)) (main end : ℕ) (r : Result ⊤ Fault) (f : Fault) (p : Program) → seen ≡ names
    → read ≡ names → gone ≡ ws → FoundSo seen read gone main end r → r ≡ Err f → IsProgram names ws p → (f ≡ out_of_memory) ⊎ (checked end p ≡ Err f)
first_fault names seen read ws gone main end r f p e d g s q i = faulty names ws main end r f p (these_are names seen read ws gone main end r e d g s) q i
