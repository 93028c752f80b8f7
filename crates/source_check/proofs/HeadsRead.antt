-- The heads that the steps read are those of the rules.
use Rattle.std.specs.Prelude.{◌≡◌, refl, ℕ, zero, suc, ◌+◌, ◌&&◌, ◌||◌, not, nat_le, nat_lt, Bool, true, false, List, [], ◌∷◌, ◌++◌, length, map}
use Rattle.std.specs.Prelude.{drop, is_some, Option, None, Some, Result, Ok, ⊤, if◌then◌else◌}
use Rattle.std.proofs.Common.{◌∙◌, ap, arith, append_assoc}
use Rattle.std.proofs.lemmas.Bool.{lt-ltb, le-ltb}
use Rattle.source.specs.declared.fault.Fault.{Fault}
use Rattle.source.specs.declared.fault.FaultKind.{FaultKind}
use Rattle.source.specs.declared.fault.FaultKind.TheVariants.{SameName, BadCount, TooMany}
use Rattle.source.specs.declared.word.Word.TheVariants as word
use Rattle.semantics.specs.Graph.{same_name}
use Rattle.source.specs.First.{◌>>=◌, must}
use Rattle.source.specs.Tree.{Name, NameAt, NumberAt, Function, Item, Cells, Defines}
use Rattle.source.specs.Words.{Words, result_words, body_words, program_words}
use Rattle.source.specs.Outside.{is_in}
use Rattle.source.specs.Rules as rules
use Rattle.source.specs.Rules.{few_params, good_results, head, heads, written_or_one, item_name}
use Rattle.source_check.specs.declared.frame.Entry.{Entry}
use Rattle.source_check.specs.declared.frame.Entry.TheVariants as entry
use Rattle.source_check.specs.Heads.{Heads, with_item, through, head_step}
use Rattle.source_check.proofs.Runs.{mapped, in_turn, bind-assoc, steps_append}
use Rattle.source_check.proofs.Still.{body_still}

-- the heads with those of more items
abbrev pub entry_of : Item → Entry
entry_of (Cells x len) = entry.Array
entry_of (Defines f) = entry.Function (length f.params) (written_or_one f.results)

abbrev pub with_items : (Name → Option Entry) → List Item → Name → Option Entry
with_items item [] = item
with_items item (i ∷ items) = with_items (with_item same_name item (item_name i).name (entry_of i)) items

-- one test and two, before what follows
after_one : {S A B : Type 0} (b : Bool) (kind : FaultKind) (at : ℕ) (s : S) (q : Result A Fault) (K : A → Result B Fault) (F : S → Result S Fault) (g : B → S)
    → F s ≡ mapped g (q >>= K) → ((must b kind at >>= λ x. Ok s) >>= F) ≡ mapped g ((must b kind at >>= λ x. q) >>= K)
after_one true kind at s q K F g h = h
after_one false kind at s q K F g h = refl

after_two : {S A B : Type 0} (b c : Bool) (kind other : FaultKind) (at : ℕ) (s : S) (q : Result A Fault) (K : A → Result B Fault) (F : S
    → Result S Fault) (g : B → S)
    → F s ≡ mapped g (q >>= K) → ((must b kind at >>= λ x. must c other at >>= λ y. Ok s) >>= F) ≡ mapped g
    ((must b kind at >>= λ x. must c other at >>= λ y. q) >>= K)
after_two true true kind other at s q K F g h = h
after_two true false kind other at s q K F g h = refl
after_two false c kind other at s q K F g h = refl

-- so many parameters
abbrev counting : Heads Name → ℕ → Heads Name
counting h k = record h { params = k }

one_more : (k m : ℕ) → (k + 1) + m ≡ k + suc m
one_more k m = omega arith

nothing_more : (k : ℕ) → k ≡ k + 0
nothing_more k = omega arith

nothing_less : (k : ℕ) → 0 + k ≡ k
nothing_less k = omega arith

params_read : (h : Heads Name) (k n : ℕ) (xs : List NameAt) → n + k ≡ 16
    → through (head_step same_name) (counting h k) (map (λ (x : NameAt). word.Parameter x.at x.name) xs) ≡ mapped (λ (u : ⊤). counting h (k + length xs))
    (few_params (drop n xs))
params_read h k zero [] d = ap (λ i. Ok (counting h i)) (nothing_more k)
params_read h k (suc n) [] d = ap (λ i. Ok (counting h i)) (nothing_more k)
params_read h k zero (x ∷ xs) d = let e : nat_lt k 16 ≡ false = le-ltb k 16 (omega (arith, d)) in rw e refl
params_read h k (suc n) (x ∷ xs) d = let e : nat_lt k 16 ≡ true = lt-ltb k 16 (omega (arith, d)) in
    rw e (params_read h (k + 1) n xs (omega (arith, d)) ∙ ap (λ i. mapped (λ (u : ⊤). counting h i) (few_params (drop n xs))) (one_more k (length xs)))

results_read : {A B : Type 0} (s : Heads Name) (results : Option NumberAt) (ws : Words) (q : Result A Fault) (K : A → Result B Fault) (g : B → Heads Name)
    → through (head_step same_name) (record s { results = written_or_one results }) ws ≡ mapped g (q >>= K)
    → through (head_step same_name) (record s { results = 1 }) (result_words results ++ ws) ≡ mapped g ((good_results results >>= λ fits. q) >>= K)
results_read s None ws q K g h = h
results_read s (Some n) ws q K g h = after_one (nat_le 1 n.number && nat_le n.number 16) BadCount n.at (record s { results = n.number }) q K (λ u. through
    (head_step same_name) u ws) g h

-- ITEMS
abbrev pub headed : Heads Name → Item → Heads Name
headed h (Cells x len) = record h { item = with_item same_name h.item x.name entry.Array; arrays = h.arrays + 1; cells = h.cells + len.number }
headed h (Defines f) = record h {
  item = with_item same_name h.item f.name.name (entry.Function (length f.params) (written_or_one f.results));
  current = Some f.name.name;
  params = length f.params;
  results = written_or_one f.results;
}

abbrev pub all_headed : Heads Name → List Item → Heads Name
all_headed h [] = h
all_headed h (i ∷ items) = all_headed (headed h i) items

agrees : (item : Name → Option Entry) (x : Name) (e : Entry) (names : List Name) → ((y : Name) → is_some (item y) ≡ is_in y names) → (y : Name)
    → is_some (with_item same_name item x e y) ≡ is_in y (x ∷ names)
agrees item x e names a y = go (same_name y x)
  where
    go : (b : Bool) → is_some (if b then Some e else item y) ≡ (b || is_in y names)
    go true = refl
    go false = a y

body_read : (h : Heads Name) (f : Function) (ws : Words) → through (head_step same_name) h (body_words f.body ++ (word.EndFunction ∷ ws)) ≡ through
    (head_step same_name) h ws
body_read h f ws = steps_append (head_step same_name) (body_words f.body) (word.EndFunction ∷ ws) h
    ∙ ap (λ r. r >>= λ u. through (head_step same_name) u (word.EndFunction ∷ ws)) (body_still h f.body)

pub items_read : (items : List Item) (h : Heads Name) (names : List Name) → ((x : Name) → is_some (h.item x) ≡ is_in x names)
    → through (head_step same_name) h (program_words items) ≡ mapped (λ (b : rules.Heads). all_headed h items) (heads
    (record { names = names; arrays = h.arrays; cells = h.cells }) items)
items_read [] h names a = refl
items_read (Cells x len ∷ items) h names a =
    let h1 : Heads Name = record h { item = with_item same_name h.item x.name entry.Array; arrays = h.arrays + 1 } in
    let next : Result rules.Heads Fault = Ok (record { names = x.name ∷ names; arrays = h.arrays + 1; cells = h.cells + len.number }) in
    rw (a x.name)
    (after_two (not (is_in x.name names)) (nat_lt h.arrays 64) SameName TooMany x.at h1
    (must (nat_le 1 len.number && nat_le len.number 65536) BadCount len.at >>= λ fits. must (nat_le
    (h.cells + len.number) 65536) TooMany len.at >>= λ room. next) (λ b. heads b items)
    (λ u. through (head_step same_name) u (word.Length len.at len.number ∷ program_words items)) _
    (after_two (nat_le 1 len.number && nat_le len.number 65536) (nat_le (h.cells + len.number) 65536) BadCount TooMany len.at (headed h
    (Cells x len)) next (λ b. heads b items)
    (λ u. through (head_step same_name) u (program_words items)) _
    (items_read items (headed h (Cells x len)) (x.name ∷ names) (agrees h.item x.name entry.Array names a))))
items_read (Defines f ∷ items) h names a =
    let x : Name = f.name.name in
    let m : ℕ = length f.params in
    let h1 : Heads Name = record h { current = Some x; params = 0; results = 1 } in
    let next : Result rules.Heads Fault = Ok (record { names = x ∷ names; arrays = h.arrays; cells = h.cells }) in
    let later : rules.Heads → Result rules.Heads Fault = λ b. heads b items in
    let params : Words = map (λ (y : NameAt). word.Parameter y.at y.name) f.params in
    let ending : Words = word.EndFunction ∷ [] in
    let rest : Words = word.Body f.body_at ∷ (body_words f.body ++ (word.EndFunction ∷ program_words items)) in
    rw (
      a x,
      append_assoc ((params ++ result_words f.results) ++ (word.Body f.body_at ∷ body_words f.body)) ending (program_words items),
      append_assoc (params ++ result_words f.results) (word.Body f.body_at ∷ body_words f.body) (word.EndFunction ∷ program_words items),
      append_assoc params (result_words f.results) rest,
    )
    (after_one (not (is_in x names)) SameName f.name.at h1 (few_params (drop 16 f.params) >>= λ few. good_results f.results >>= λ fits. next) later
    (λ u. through (head_step same_name) u (params ++ (result_words f.results ++ rest))) _
    (rw (bind-assoc (few_params (drop 16 f.params)) (λ few. good_results f.results >>= λ fits. next) later)
    (in_turn (head_step same_name) h1 params (result_words f.results ++ rest) (few_params (drop 16 f.params)) (λ few.
    (good_results f.results >>= λ fits. next) >>= later) (λ u. counting h1 (0 + m)) _
    (params_read h1 0 16 f.params refl)
    (λ u. rw (nothing_less m) (results_read (counting h1 m) f.results rest next later _
    (body_read (headed h (Defines f)) f (program_words items)
    ∙ items_read items (headed h (Defines f)) (x ∷ names) (agrees h.item x (entry.Function m (written_or_one f.results)) names a)))))))
