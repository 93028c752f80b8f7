-- The scan over the words of a part finds its plans, and what it uses.
use Rattle.std.proofs.Common.{◌≡◌, ℕ, Bool, true, false, not, ◌||◌, ◌&&◌, List, [], ◌∷◌, ◌++◌, Option, None, Some, map, filter, length, refl, sym}
use Rattle.std.proofs.Common.{◌∙◌, ap, arith, append_assoc, append-nil}
use Rattle.std.specs.Prelude.{if◌then◌else◌}
use Rattle.semantics.specs.Graph.{same_name}
use Rattle.source.specs.declared.word.Word.{Word}
use Rattle.source.specs.declared.word.Word.TheVariants as word
use Rattle.source.specs.Tree.{Name, NameAt, NumberAt, Target, Bind, Drop, Expr, Number, Named, Bracket, Prefix, Infix, Fetch, Store, Call, If, Loop}
use Rattle.source.specs.Tree.{Exprs, One, More, Body, Let, Do, Give, Chain, Turn, Before, After, Function, Item, Cells, Defines, Program, names_of}
use Rattle.source.specs.Words.{Words, words, part_words, first_words, body_words, turn_words, target_word, item_words, program_words, result_words}
use Rattle.source.specs.Fits.{count}
use Rattle.source.specs.Outside.{without, is_in, bare, bound_by, uses, list_uses, body_uses, turn_uses, outside_body, outside_turn}
use Rattle.source.proofs.CountedSources.{without_none}
use Rattle.lowering.specs.Counts.{Counted, ListCounted, BodyCounted, TurnCounted, ItemsCounted}
use Rattle.lowering.specs.Plans.{Plan, plan, plans, list_plans, body_plans, turn_plans, program_plans}
use Rattle.lowering.specs.Scan.{Scan, scan_of, read, scanned, gathered_plans}

scanned_append : (z : Scan) (a b : Words) → scanned z (a ++ b) ≡ scanned (scanned z b) a
scanned_append z [] b = refl
scanned_append z (w ∷ a) b = ap (read w) (scanned_append z a b)

-- first the second half
back : (z t u : Scan) (a b : Words) → scanned z b ≡ t → scanned t a ≡ u → scanned z (a ++ b) ≡ u
back z t u a b e f = scanned_append z a b ∙ ap (λ x. scanned x a) e ∙ f

-- names without these and those
pub kept : (q : Name → Bool) (y : Name) (ys : List Name) → q y ≡ true → filter q (y ∷ ys) ≡ y ∷ filter q ys
kept q y ys e = ap (λ (b : Bool). if b then y ∷ filter q ys else filter q ys) e

pub left_out : (q : Name → Bool) (y : Name) (ys : List Name) → q y ≡ false → filter q (y ∷ ys) ≡ filter q ys
left_out q y ys e = ap (λ (b : Bool). if b then y ∷ filter q ys else filter q ys) e

pub filter_twice : (p q r : Name → Bool) → ((y : Name) → r y ≡ (q y && p y)) → (ys : List Name) → filter p (filter q ys) ≡ filter r ys
filter_twice p q r h [] = refl
filter_twice p q r h (y ∷ ys) = by (q y) refl (p y) refl (filter_twice p q r h ys)
  where
    by : (b : Bool) → q y ≡ b → (c : Bool) → p y ≡ c → filter p (filter q ys) ≡ filter r ys → filter p (filter q (y ∷ ys)) ≡ filter r (y ∷ ys)
    by true e true f ih = ap (filter p) (kept q y ys e) ∙ kept p y (filter q ys) f ∙ ap (λ zs. y ∷ zs) ih
        ∙ sym (kept r y ys (h y ∙ ap (λ (v : Bool). v && p y) e ∙ f))
    by true e false f ih = ap (filter p) (kept q y ys e) ∙ left_out p y (filter q ys) f ∙ ih
        ∙ sym (left_out r y ys (h y ∙ ap (λ (v : Bool). v && p y) e ∙ f))
    by false e c f ih = ap (filter p) (left_out q y ys e) ∙ ih ∙ sym (left_out r y ys (h y ∙ ap (λ (v : Bool). v && p y) e))

neither : (a b : Bool) → not (a || b) ≡ (not b && not (a || false))
neither true true = refl
neither true false = refl
neither false true = refl
neither false false = refl

without_one_more : (x : Name) (xs ys : List Name) → without (x ∷ []) (without xs ys) ≡ without (x ∷ xs) ys
without_one_more x xs ys = filter_twice _ _ _ (λ (y : Name). neither (same_name y x) (is_in y xs)) ys

-- equal parts of a scan
alike : (ps qs : List Plan) (us vs : List Name) (rest : List (List Name)) (at : List ℕ) → ps ≡ qs → us ≡ vs → scan_of ps (us ∷ rest) at
    ≡ scan_of qs (vs ∷ rest) at
alike ps qs us vs rest at e f = cc

abbrev Scans : Words → List Plan → List Name → Type 0
Scans ws ps us = (qs : List Plan) (vs : List Name) (rest : List (List Name)) (at : List ℕ)
    → scanned (scan_of qs (vs ∷ rest) at) ws ≡ scan_of (ps ++ qs) ((us ++ vs) ∷ rest) at

-- one part after another
both : (a b : Words) (ps qs : List Plan) (us vs : List Name) → Scans a ps us → Scans b qs vs → Scans (a ++ b) (ps ++ qs) (us ++ vs)
both a b ps qs us vs f g rs ws rest at = back _ _ _ a b (g rs ws rest at)
    (f (qs ++ rs) (vs ++ ws) rest at ∙ alike _ _ _ _ rest at (sym (append_assoc ps qs rs)) (sym (append_assoc us vs ws)))

-- a body begins with nothing
abbrev ScansBody : Body → Type 0
ScansBody b = (qs : List Plan) (rest : List (List Name)) (at : List ℕ)
    → scanned (scan_of qs ([] ∷ rest) at) (body_words b) ≡ scan_of (body_plans b ++ qs) (body_uses b ∷ rest) at

-- a body of its own, from nothing to what it uses
of_all : (ws : Words) (ps : List Plan) (us : List Name) → Scans ws ps us → (qs : List Plan) (rest : List (List Name)) (at : List ℕ)
    → scanned (scan_of qs ([] ∷ rest) at) ws ≡ scan_of (ps ++ qs) (us ∷ rest) at
of_all ws ps us f qs rest at = f qs [] rest at ∙ ap (λ (vs : List Name). scan_of (ps ++ qs) (vs ∷ rest) at) (append-nil us)

if_scans : (at : ℕ) (q : Expr) (l r : Body) → Scans (words q) (plans q) (uses q) → ScansBody l → ScansBody r
    → Scans (words (If at q l r)) (plans (If at q l r)) (uses (If at q l r))
if_scans at q l r f g h qs vs rest places =
    let second : List Plan = plan at (outside_body r) ∷ (body_plans r ++ qs) in
    let first : List Plan = plan at (outside_body l) ∷ (body_plans l ++ second) in
    let z : Scan = scan_of qs (vs ∷ rest) places in
    let begun : Scan = scan_of qs ([] ∷ vs ∷ rest) (at ∷ places) in
    let both_arms : List Name = (body_uses l ++ body_uses r) ++ vs in
    back z begun _ (words q ++ word.Then ∷ body_words l ++ word.Else ∷ body_words r) (word.EndIf at ∷ []) refl
    (back begun _ _ (words q ++ word.Then ∷ body_words l) (word.Else ∷ body_words r) (ap (read word.Else) (h qs (vs ∷ rest) (at ∷ places)))
    (back _ (scan_of first (both_arms ∷ rest) places) _ (words q) (word.Then ∷ body_words l)
    (ap (read word.Then) (g second (body_uses r ∷ vs ∷ rest) (at ∷ places)))
    (f first both_arms rest places ∙ alike _ _ _ _ rest places (simp append_assoc) (simp append_assoc))))

targets_scan : (targets : List Target) (qs : List Plan) (us vs : List Name) (rest : List (List Name)) (at : List ℕ)
    → scanned (scan_of qs (us ∷ vs ∷ rest) at) (map target_word targets) ≡ scan_of qs (us ∷ without (bound_by targets) vs ∷ rest) at
targets_scan [] qs us vs rest at = ap (λ (ys : List Name). scan_of qs (us ∷ ys ∷ rest) at) (sym (without_none vs))
targets_scan (Drop ∷ targets) qs us vs rest at = targets_scan targets qs us vs rest at
targets_scan (Bind x ∷ targets) qs us vs rest at = ap (read (word.Bind x.at x.name)) (targets_scan targets qs us vs rest at)
    ∙ ap (λ (ys : List Name). scan_of qs (us ∷ ys ∷ rest) at) (without_one_more x.name (bound_by targets) vs)

let_scans : (at : ℕ) (targets : List Target) (es : Exprs) (b : Body) → Scans (part_words es) (list_plans es) (list_uses es) → ScansBody b
    → ScansBody (Let at targets es b)
let_scans at targets es b f g qs rest places =
    let later : List Plan = body_plans b ++ qs in
    back _ (scan_of later ([] ∷ body_uses b ∷ rest) places) _ (word.Let at ∷ map target_word targets ++ word.List ∷ part_words es) (word.EndLet at
    ∷ body_words b)
    (ap (read (word.EndLet at)) (g qs rest places))
    (back _ (scan_of (list_plans es ++ later) (list_uses es ∷ body_uses b ∷ rest) places) _ (word.Let at ∷ map target_word targets) (word.List ∷ part_words es)
    (of_all (part_words es) (list_plans es) (list_uses es) f later (body_uses b ∷ rest) places)
    (ap (read (word.Let at)) (targets_scan targets (list_plans es ++ later) (list_uses es) (body_uses b) rest places)
    ∙ ap (λ (ps : List Plan). scan_of ps (body_uses (Let at targets es b) ∷ rest) places) (sym (append_assoc (list_plans es) (body_plans b) qs))))

do_scans : (es : Exprs) (b : Body) → Scans (part_words es) (list_plans es) (list_uses es) → ScansBody b → ScansBody (Do es b)
do_scans es b f g qs rest places =
    back _ (scan_of (body_plans b ++ qs) (body_uses b ∷ rest) places) _ (part_words es) (word.Do ∷ body_words b) (g qs rest places)
    (f (body_plans b ++ qs) (body_uses b) rest places
    ∙ ap (λ (ps : List Plan). scan_of ps (body_uses (Do es b) ∷ rest) places) (sym (append_assoc (list_plans es) (body_plans b) qs)))

-- what a turn uses, its loop's names among them
abbrev inner_uses : Turn → List Name
inner_uses (Before xs q body) = uses q ++ body_uses body
inner_uses (After xs body q) = body_uses body ++ uses q

abbrev ScansTurn : Turn → Type 0
ScansTurn turn = (at : ℕ) (qs : List Plan) (rest : List (List Name)) (places : List ℕ)
    → scanned (scan_of qs ([] ∷ rest) (at ∷ places)) (turn_words turn) ≡ scan_of (turn_plans at turn ++ qs) ([] ∷ inner_uses turn ∷ rest) (at ∷ places)

before_scans : (xs : List NameAt) (q : Expr) (body : Body) → Scans (words q) (plans q) (uses q) → ScansBody body → ScansTurn (Before xs q body)
before_scans xs q body f g at qs rest places =
    let later : List Plan = plan at (outside_body body) ∷ (body_plans body ++ qs) in
    back _ (scan_of later (body_uses body ∷ rest) (at ∷ places)) _ (word.TestFirst ∷ words q) (word.While ∷ body_words body)
    (ap (read word.While) (g qs rest (at ∷ places)))
    (ap (read word.TestFirst) (f later (body_uses body) rest (at ∷ places))
    ∙ ap (λ (ps : List Plan). scan_of ps ([] ∷ (uses q ++ body_uses body) ∷ rest) (at ∷ places))
    (sym (append_assoc (plans q) (plan at (outside_body body) ∷ body_plans body) qs)))

after_scans : (xs : List NameAt) (q : Expr) (body : Body) → Scans (words q) (plans q) (uses q) → ScansBody body → ScansTurn (After xs body q)
after_scans xs q body f g at qs rest places =
    let later : List Plan = plans q ++ qs in
    back _ (scan_of later ([] ∷ uses q ∷ rest) (at ∷ places)) _ (word.BodyFirst ∷ body_words body) (word.Until ∷ words q)
    (ap (read word.Until) (of_all (words q) (plans q) (uses q) f qs rest (at ∷ places)))
    (ap (read word.BodyFirst) (g later (uses q ∷ rest) (at ∷ places))
    ∙ ap (λ (ps : List Plan). scan_of ps ([] ∷ (body_uses body ++ uses q) ∷ rest) (at ∷ places)) (sym (append_assoc (body_plans body) (plans q) qs)))

abbrev ScansFirsts : List NameAt → Exprs → Type 0
ScansFirsts xs es = (qs : List Plan) (us vs : List Name) (rest : List (List Name)) (at : List ℕ)
    → scanned (scan_of qs (us ∷ vs ∷ rest) at) (first_words xs es) ≡ scan_of (list_plans es ++ qs) ((list_uses es ++ us) ∷ without (bare xs) vs ∷ rest) at

one_first_scans : (x : NameAt) (e : Expr) → Scans (words e) (plans e) (uses e) → ScansFirsts (x ∷ []) (One e)
one_first_scans x e f qs us vs rest at = ap (read (word.Start x.at x.name))
    (back (scan_of qs (us ∷ vs ∷ rest) at) _ _ (words e) (word.First ∷ []) refl (f qs us (vs ∷ rest) at))

more_first_scans : (x : NameAt) (xs : List NameAt) (e : Expr) (es : Exprs) → Scans (words e) (plans e) (uses e) → ScansFirsts xs es
    → ScansFirsts (x ∷ xs) (More e es)
more_first_scans x xs e es f g qs us vs rest at =
    ap (read (word.Start x.at x.name)) (back _ _ _ (words e) (word.First ∷ first_words xs es) (g qs us vs rest at)
    (f (list_plans es ++ qs) (list_uses es ++ us) (without (bare xs) vs ∷ rest) at))
    ∙ ap (λ (ys : List Name). scan_of (plans e ++ (list_plans es ++ qs)) ((uses e ++ (list_uses es ++ us)) ∷ ys ∷ rest) at)
    (without_one_more x.name (bare xs) vs)
    ∙ alike _ _ _ _ (without (bare (x ∷ xs)) vs ∷ rest) at (sym (append_assoc (plans e) (list_plans es) qs)) (sym (append_assoc (uses e) (list_uses es) us))

loop_scans : (at : ℕ) (bound : NumberAt) (firsts : Exprs) (turn : Turn) → ScansFirsts (names_of turn) firsts → ScansTurn turn
    → turn_uses turn ≡ without (bare (names_of turn)) (inner_uses turn)
    → Scans (words (Loop at bound firsts turn)) (plans (Loop at bound firsts turn)) (uses (Loop at bound firsts turn))
loop_scans at bound firsts turn f g same qs vs rest places =
    let z : Scan = scan_of qs (vs ∷ rest) places in
    let begun : Scan = scan_of qs ([] ∷ vs ∷ rest) (at ∷ places) in
    let later : List Plan = turn_plans at turn ++ qs in
    let xs : List NameAt = names_of turn in
    back z begun _ (word.Loop at ∷ word.Bound bound.at bound.number ∷ first_words xs firsts ++ turn_words turn) (word.EndLoop at bound.number ∷ []) refl
    (back begun _ _ (word.Loop at ∷ word.Bound bound.at bound.number ∷ first_words xs firsts) (turn_words turn) (g at qs (vs ∷ rest) places)
    (ap (read (word.Loop at)) (f later [] (inner_uses turn) (vs ∷ rest) (at ∷ places)
    ∙ ap (λ (ys : List Name). scan_of (list_plans firsts ++ later) (ys ∷ without (bare xs) (inner_uses turn) ∷ vs ∷ rest) (at ∷ places))
    (append-nil (list_uses firsts))
    ∙ ap (λ (ys : List Name). scan_of (list_plans firsts ++ later) (list_uses firsts ∷ ys ∷ vs ∷ rest) (at ∷ places)) (sym same))
    ∙ ap (λ (ps : List Plan). scan_of (plan at (outside_turn turn) ∷ ps) (((list_uses firsts ++ turn_uses turn) ++ vs) ∷ rest) places)
    (sym (append_assoc (list_plans firsts) (turn_plans at turn) qs))))

turn_without : (turn : Turn) → turn_uses turn ≡ without (bare (names_of turn)) (inner_uses turn)
turn_without (Before xs q body) = refl
turn_without (After xs body q) = refl

-- a word that says nothing is after, or before
behind : (w : Word Name) (ws : Words) (ps : List Plan) (us : List Name) → ((z : Scan) → read w z ≡ z) → Scans ws ps us → Scans (ws ++ w ∷ []) ps us
behind w ws ps us quiet f qs vs rest at = back _ _ _ ws (w ∷ []) (quiet (scan_of qs (vs ∷ rest) at)) (f qs vs rest at)

mutual
  pub scans : (p : Program) (e : Expr) → Counted p e → Scans (words e) (plans e) (uses e)
  scans p (Number at n) c = λ qs vs rest places. refl
  scans p (Named at x) c = λ qs vs rest places. refl
  scans p (Bracket e) c = behind word.Bracket (words e) (plans e) (uses e) (λ z. refl) (scans p e c)
  scans p (Prefix at op e) c = behind (word.Prefix at op) (words e) (plans e) (uses e) (λ z. refl) (scans p e c.0)
  scans p (Infix at s l r) c = behind (word.Infix at s) (words l ++ word.Left ∷ words r) (plans l ++ plans r) (uses l ++ uses r) (λ z. refl)
      (both (words l) (word.Left ∷ words r) (plans l) (plans r) (uses l) (uses r) (scans p l c.0) (scans p r c.2))
  scans p (Fetch at a e) c = behind (word.Fetch at a) (word.Cell at a ∷ words e) (plans e) (uses e) (λ z. refl) (scans p e c.0)
  scans p (Store at a e d) c = behind (word.Store at a) (word.Cell at a ∷ words e ++ word.Index ∷ words d) (plans e ++ plans d) (uses e ++ uses d) (λ z. refl)
      (both (word.Cell at a ∷ words e) (word.Index ∷ words d) (plans e) (plans d) (uses e) (uses d) (scans p e c.0) (scans p d c.2))
  scans p (Call at strict f es) c = behind (word.Call at strict f) (word.Callee at f ∷ word.List ∷ part_words es) (list_plans es) (list_uses es) (λ z. refl)
      (scans_all p es c)
  scans p (If at q l r) c = if_scans at q l r (scans p q c.0) (scans_body p l c.2) (scans_body p r c.3)
  scans p (Loop at bound firsts turn) c = loop_scans at bound firsts turn (scans_firsts p (names_of turn) firsts c.0 c.1) (scans_turn p turn c.2)
      (turn_without turn)

  pub scans_all : (p : Program) (es : Exprs) → ListCounted p es → Scans (part_words es) (list_plans es) (list_uses es)
  scans_all p (One e) c = behind word.Part (words e) (plans e) (uses e) (λ z. refl) (scans p e c)
  scans_all p (More e es) c = both (words e) (word.Part ∷ part_words es) (plans e) (list_plans es) (uses e) (list_uses es) (scans p e c.0) (scans_all p es c.1)

  pub scans_firsts : (p : Program) (xs : List NameAt) (es : Exprs) → ListCounted p es → count es ≡ length xs → ScansFirsts xs es
  scans_firsts p [] (One e) c same = cc
  scans_firsts p (x ∷ []) (One e) c same = one_first_scans x e (scans p e c)
  scans_firsts p (x ∷ y ∷ xs) (One e) c same = cc
  scans_firsts p [] (More e es) c same = cc
  scans_firsts p (x ∷ xs) (More e es) c same = more_first_scans x xs e es (scans p e c.0) (scans_firsts p xs es c.1 (omega arith))

  pub scans_body : (p : Program) (b : Body) → BodyCounted p b → ScansBody b
  scans_body p (Let at targets es rest) c = let_scans at targets es rest (scans_all p es c.0) (scans_body p rest c.1)
  scans_body p (Do es rest) c = do_scans es rest (scans_all p es c.0) (scans_body p rest c.1)
  scans_body p (Give es) c = of_all (body_words (Give es)) (list_plans es) (list_uses es)
      (behind word.Give (word.List ∷ part_words es) (list_plans es) (list_uses es) (λ z. refl) (scans_all p es c))
  scans_body p (Chain e) c = of_all (body_words (Chain e)) (plans e) (uses e) (behind word.Chain (words e) (plans e) (uses e) (λ z. refl) (scans p e c))

  pub scans_turn : (p : Program) (turn : Turn) → TurnCounted p turn → ScansTurn turn
  scans_turn p (Before xs q body) c = before_scans xs q body (scans p q c.0) (scans_body p body c.2)
  scans_turn p (After xs body q) c = after_scans xs q body (scans p q c.0) (scans_body p body c.2)

-- words that say nothing
params_scan : (z : Scan) (xs : List NameAt) → scanned z (map (λ (x : NameAt). word.Parameter x.at x.name) xs) ≡ z
params_scan z [] = refl
params_scan z (x ∷ xs) = ap (read (word.Parameter x.at x.name)) (params_scan z xs)

results_scan : (z : Scan) (r : Option NumberAt) → scanned z (result_words r) ≡ z
results_scan z None = refl
results_scan z (Some n) = refl

function_scans : (p : Program) (f : Function) (qs : List Plan) → BodyCounted p f.body
    → scanned (scan_of qs [] []) (item_words (Defines f)) ≡ scan_of (body_plans f.body ++ qs) [] []
function_scans p f qs c =
    let head : Words = word.Function f.name.at f.name.name ∷ map (λ (x : NameAt). word.Parameter x.at x.name) f.params in
    let z : Scan = scan_of (body_plans f.body ++ qs) [] [] in
    back (scan_of qs [] []) (scan_of qs ([] ∷ []) []) z (head ++ result_words f.results ++ word.Body f.body_at ∷ body_words f.body) (word.EndFunction ∷ []) refl
    (back _ z z (head ++ result_words f.results) (word.Body f.body_at ∷ body_words f.body) (ap (read (word.Body f.body_at)) (scans_body p f.body c qs [] []))
    (back z z z head (result_words f.results) (results_scan z f.results) (ap (read (word.Function f.name.at f.name.name)) (params_scan z f.params))))

pub program_scans : (p : Program) (items : List Item) → ItemsCounted p items → scanned (scan_of [] [] []) (program_words items)
    ≡ scan_of (program_plans items) [] []
program_scans p [] c = refl
program_scans p (Cells x len ∷ items) c = ap (read (word.Array x.at x.name)) (ap (read (word.Length len.at len.number)) (program_scans p items c))
program_scans p (Defines f ∷ items) c = back _ (scan_of (program_plans items) [] []) _ (item_words (Defines f)) (program_words items)
    (program_scans p items c.1) (function_scans p f (program_plans items) c.0)

pub plans_gathered : (p : Program) → ItemsCounted p p → gathered_plans (program_words p) ≡ program_plans p
plans_gathered p c = ap (λ (z : Scan). z.plans) (program_scans p p c)
