-- NAMES DIFFER: those of items, and so those of arrays, and those of blocks.
use Rattle.std.proofs.Common.{◌≡◌, ℕ, zero, suc, ◌+◌, ◌^◌, ◌<◌, ◌≤◌, ◌||◌, Bool, true, false, List, [], ◌∷◌, ◌++◌, length, map, decimal, codes, Some, Ok, All}
use Rattle.std.proofs.Common.{refl, sym, ap, ◌∙◌, subst, arith, length-append}
use Rattle.std.specs.Prelude.{slice_get}
use Rattle.std.specs.List.{AllByRecursion}
use Rattle.std.specs.Int.Digits.{digits_of}
use Rattle.std.specs.Str.Parse.{digits_value}
use Rattle.std.proofs.lemmas.Fmt.{decimal-digits_of, decimal_is_IsNumeral}
use Rattle.std.proofs.lemmas.Int.Digits.{all_below_base_digits_of}
use Rattle.std.proofs.lemmas.List.{append_cancel_left}
use Rattle.std.proofs.lemmas.List.Elements.{All-head, All-tail}
use Rattle.std.proofs.lemmas.Option.{same_Some}
use Rattle.lemmas.proofs.Lists.{map_append, same_head, same_tail}
use Rattle.lemmas.proofs.Permutations.{Each, each_append, each_weaker, Spread, spread_append, spread_map}
use Rattle.semantics.specs.Graph.{Block, same_name}
use Rattle.semantics.specs.WellFormed.{AllDiffer}
use Rattle.semantics.proofs.Lines.{same_name_itself}
use Rattle.source.specs.Tree.{Name, Function, Item, Cells, Defines, Program}
use Rattle.source.specs.Tokens.{begins, has_double}
use Rattle.source.specs.Outside.{is_in}
use Rattle.source.specs.Rules.{Heads, head, heads, item_name, item_names}
use Rattle.source.specs.Lowered.{MadeBlock, block_name, graph_block, function_blocks, function_scope, turn_site, blocks_of, made_blocks, arrays_of}
use Rattle.source.proofs.Steps.{then_ok}
use Rattle.law_language.proofs.LoweredHeads.{cells_head, function_head}
use Rattle.law_language.proofs.LoweredNumbered.{AreNumbered, numbers_low, blocks_numbered}
use Rattle.law_language.proofs.LoweredFunctions.{body_lowered, main_spot}

-- two names that are not the same
abbrev pub Differ : Name → Name → Type 0
Differ x y = x ≡ y → ⊥

each_got : {X : Type 0} (P : X → Type 0) (xs : List X) (i : ℕ) (x : X) → Each P xs → slice_get xs i ≡ Some x → P x
each_got P [] i x h e = cc
each_got P (y ∷ xs) zero x h e = subst P (same_Some y x e) h.0
each_got P (y ∷ xs) (suc i) x h e = each_got P xs i x h.1 e

pub all_differ : (xs : List Name) → Spread Differ xs → AllDiffer xs
all_differ [] h i j name e f = cc
all_differ (x ∷ xs) h zero zero name e f = refl
all_differ (x ∷ xs) h zero (suc j) name e f = absurd (each_got (Differ x) xs j name h.0 f (same_Some x name e))
all_differ (x ∷ xs) h (suc i) zero name e f = absurd (each_got (Differ x) xs i name h.0 e (same_Some x name f))
all_differ (x ∷ xs) h (suc i) (suc j) name e f = ap suc (all_differ xs h.1 i j name e f)

pub each_of_all : {X : Type 0} (P : X → Type 0) (xs : List X) → All P xs → Each P xs
each_of_all P [] h = tt
each_of_all P (x ∷ xs) h = (All-head P x xs h, each_of_all P xs (All-tail P x xs h))

-- ITEMS
-- the head of an item: its name is new
record IsNew (before next : Heads) (x : Name) : Type 0 where
  pub new : is_in x before.names ≡ false
  pub names : next.names ≡ x ∷ before.names

new_head : (before next : Heads) (i : Item) → head before i ≡ Ok next → IsNew before next (item_name i).name
new_head before next (Cells x len) e =
    let k = cells_head before next x len e in record { new = k.new; names = sym (ap (λ (h : Heads). h.names) k.is) }
new_head before next (Defines h) e =
    let k = function_head before next h e in record { new = k.new; names = sym (ap (λ (h : Heads). h.names) k.is) }

other_name : (x y : Name) (t : Bool) → (same_name y x || t) ≡ false → Differ x y × (t ≡ false)
other_name x y t h = go (same_name y x) refl h
  where
    go : (u : Bool) → same_name y x ≡ u → (u || t) ≡ false → Differ x y × (t ≡ false)
    go true e h = cc
    go false e h = ((λ same. let itself = same_name_itself y in let k = ap (same_name y) same in absurd cc), h)

record AreNew (before : Heads) (xs : List Name) : Type 0 where
  pub new : Each (λ x. is_in x before.names ≡ false) xs
  pub differ : Spread Differ xs

others_new : (x : Name) (names xs : List Name) → Each (λ y. is_in y (x ∷ names) ≡ false) xs → Each (Differ x) xs × Each (λ y. is_in y names ≡ false) xs
others_new x names [] h = (tt, tt)
others_new x names (y ∷ xs) h =
    let k = other_name x y (is_in y names) h.0 in let rest = others_new x names xs h.1 in ((k.0, rest.0), (k.1, rest.1))

items_new : (before after : Heads) (items : List Item) → heads before items ≡ Ok after → AreNew before (item_names items)
items_new before after [] e = record { new = tt; differ = tt }
items_new before after (i ∷ items) e =
    let s = then_ok (head before i) (λ next. heads next items) after e in
    let n = new_head before s.0 i s.1 in
    let rest = items_new s.0 after items s.2 in
    let x : Name = (item_name i).name in
    let k = others_new x before.names (item_names items) (subst (λ names. Each (λ y. is_in y names ≡ false) (item_names items)) n.names rest.new) in
    record { new = (n.new, k.1); differ = (k.0, rest.differ) }

pub items_differ : (before after : Heads) (items : List Item) → heads before items ≡ Ok after → Spread Differ (item_names items)
items_differ before after items e = (items_new before after items e).differ

-- ARRAYS are some of the items
abbrev names_of_arrays : List Item → List Name
names_of_arrays items = map (λ (x : List ℕ × ℕ). x.0) (arrays_of items)

each_array : (P : Name → Type 0) (items : List Item) → Each P (item_names items) → Each P (names_of_arrays items)
each_array P [] h = tt
each_array P (Cells x len ∷ items) h = (h.0, each_array P items h.1)
each_array P (Defines k ∷ items) h = each_array P items h.1

pub arrays_differ : (items : List Item) → Spread Differ (item_names items) → Spread Differ (names_of_arrays items)
arrays_differ [] h = tt
arrays_differ (Cells x len ∷ items) h = (each_array (Differ x.name) items h.0, arrays_differ items h.1)
arrays_differ (Defines k ∷ items) h = arrays_differ items h.1

-- NAMES OF BLOCKS
-- the digits of a number are no marks
digits_low : (ds : List ℕ) → AllByRecursion (λ (d : ℕ). d < 10) ds → Each (λ (c : ℕ). c < 95) (map (λ d. 48 + d) ds)
digits_low [] h = tt
digits_low (d ∷ ds) h = let low = h.0 in (omega (arith, low), digits_low ds h.1)

no_mark : (k : ℕ) (w : List ℕ) → k < 2 ^ 63 → decimal (suc k) ≡ 95 ∷ w → ⊥
no_mark k w few e =
    let low = digits_low (digits_of 10 (suc k)) (all_below_base_digits_of 10 (suc k) (omega arith)) in
    let first = subst (Each (λ (c : ℕ). c < 95)) (sym (decimal-digits_of (suc k) (omega arith) (omega (arith, few))) ∙ e) low in
    let less = first.0 in absurd (omega (arith, less))

same_number : (j k : ℕ) → j < 2 ^ 64 → k < 2 ^ 64 → decimal j ≡ decimal k → j ≡ k
same_number j k low few e = sym (decimal_is_IsNumeral j low).1 ∙ ap (digits_value 10) e ∙ (decimal_is_IsNumeral k few).1

-- a name with `__` in it
doubled : (f u : List ℕ) → has_double (f ++ codes "__" ++ u) ≡ true
doubled [] u = refl
doubled (x ∷ f) u = either (begins (codes "__") (x ∷ (f ++ codes "__" ++ u))) (has_double (f ++ codes "__" ++ u)) (doubled f u)
  where
    either : (t v : Bool) → v ≡ true → (t || v) ≡ true
    either true v e = refl
    either false v e = e

single_rest : (x : ℕ) (f : List ℕ) → has_double (x ∷ f) ≡ false → has_double f ≡ false
single_rest x f h = go (begins (codes "__") (x ∷ f)) (has_double f) h
  where
    go : (t v : Bool) → (t || v) ≡ false → v ≡ false
    go true v h = cc
    go false v h = h

-- what is before the last `__`
none_before : (h u v : List ℕ) → has_double h ≡ false → ((w : List ℕ) → u ≡ 95 ∷ w → ⊥) → 95 ∷ 95 ∷ u ≡ h ++ codes "__" ++ v → [] ≡ h
none_before [] u v single other e = refl
none_before (y ∷ []) u v single other e =
    let t = same_tail 95 y (95 ∷ u) (95 ∷ 95 ∷ v) e in absurd (other v (same_tail 95 95 u (95 ∷ v) t))
none_before (y ∷ z ∷ h) u v single other e =
    let first : 95 ≡ y = same_head 95 y (95 ∷ u) (z ∷ (h ++ codes "__" ++ v)) e in
    let second : 95 ≡ z = same_head 95 z u (h ++ codes "__" ++ v) (same_tail 95 y (95 ∷ u) (z ∷ (h ++ codes "__" ++ v)) e) in
    let no_double = subst (λ (a : ℕ). has_double (a ∷ z ∷ h) ≡ false) (sym first) single in
    let neither = subst (λ (a : ℕ). has_double (95 ∷ a ∷ h) ≡ false) (sym second) no_double in absurd (two h neither)
  where
    two : (h : List ℕ) → has_double (95 ∷ 95 ∷ h) ≡ false → ⊥
    two h e = cc

same_stem : (f h u v : List ℕ) → has_double f ≡ false → has_double h ≡ false → ((w : List ℕ) → u ≡ 95 ∷ w → ⊥) → ((w : List ℕ) → v ≡ 95 ∷ w → ⊥)
    → f ++ codes "__" ++ u ≡ h ++ codes "__" ++ v → f ≡ h
same_stem [] h u v fs hs other none e = none_before h u v hs other e
same_stem (x ∷ f) [] u v fs hs other none e = sym (none_before (x ∷ f) v u fs none (sym e))
same_stem (x ∷ f) (y ∷ h) u v fs hs other none e =
    let first : x ≡ y = same_head x y (f ++ codes "__" ++ u) (h ++ codes "__" ++ v) e in
    let rest = same_stem f h u v (single_rest x f fs) (single_rest y h hs) other none (same_tail x y (f ++ codes "__" ++ u) (h ++ codes "__" ++ v) e) in
    ap (λ (a : ℕ). a ∷ f) first ∙ ap (λ (l : List ℕ). y ∷ l) rest

-- names of blocks determine their functions
function_traced : (f h : Name) (j k : ℕ) → j ≤ 256 → k ≤ 256 → has_double f ≡ false → has_double h ≡ false → block_name f j ≡ block_name h k → f ≡ h
function_traced f h zero zero low few fs hs e = e
function_traced f h zero (suc k) low few fs hs e = let is = doubled h (decimal (suc k)) in let same = ap has_double e in absurd cc
function_traced f h (suc j) zero low few fs hs e = let is = doubled f (decimal (suc j)) in let same = ap has_double e in absurd cc
function_traced f h (suc j) (suc k) low few fs hs e =
    same_stem f h (decimal (suc j)) (decimal (suc k)) fs hs (λ w. no_mark j w (omega (arith, low))) (λ w. no_mark k w (omega (arith, few))) e

-- and their loops
loop_traced : (f : Name) (j k : ℕ) → j ≤ 256 → k ≤ 256 → block_name f j ≡ block_name f k → j ≡ k
loop_traced f zero zero low few e = refl
loop_traced f zero (suc k) low few e =
    let a = length-append (f ++ codes "__") (decimal (suc k)) in
    let b : length (f ++ codes "__") ≡ length f + 2 = length-append f (codes "__") in
    let c = ap length e in absurd (omega (arith, a, b, c))
loop_traced f (suc j) zero low few e =
    let a = length-append (f ++ codes "__") (decimal (suc j)) in
    let b : length (f ++ codes "__") ≡ length f + 2 = length-append f (codes "__") in
    let c = ap length e in absurd (omega (arith, a, b, c))
loop_traced f (suc j) (suc k) low few e =
    same_number (suc j) (suc k) (omega (arith, low)) (omega (arith, few)) (append_cancel_left (f ++ codes "__") (decimal (suc j)) (decimal (suc k)) e)

-- OF ONE FUNCTION
abbrev IsBetween : ℕ → MadeBlock → Type 0
IsBetween n b = (n < b.loop) × (b.loop ≤ 256)

between : (n : ℕ) (bs : List MadeBlock) → n + length bs ≤ 256 → AreNumbered n bs → Each (IsBetween n) bs
between n [] few h = tt
between n (b ∷ bs) few h =
    let first = h.0 in (
      (omega (arith, first), omega (arith, first, few)),
      each_weaker (IsBetween (n + 1)) (IsBetween n) (λ b k. let low = k.0 in (omega (arith, low), k.1)) bs (between (n + 1) bs (omega (arith, few)) h.1),
    )

loops_differ : (f : Name) (n : ℕ) (bs : List MadeBlock) → n + length bs ≤ 256 → AreNumbered n bs
    → Spread (λ (b c : MadeBlock). Differ (block_name f b.loop) (block_name f c.loop)) bs
loops_differ f n [] few h = tt
loops_differ f n (b ∷ bs) few h =
    let first = h.0 in (
      each_weaker (IsBetween (n + 1)) (λ c. Differ (block_name f b.loop) (block_name f c.loop))
          (λ c k. let low = k.0 in λ e. let same = loop_traced f b.loop c.loop (omega (arith, first, few)) k.1 e in absurd (omega (arith, same, first, low))) bs
          (between (n + 1) bs (omega (arith, few)) h.1),
      loops_differ f (n + 1) bs (omega (arith, few)) h.1,
    )

function_differ : (p : Program) (h : Function) → length (function_blocks p h) ≤ 256
    → Spread (λ (b c : MadeBlock). Differ (block_name h.name.name b.loop) (block_name h.name.name c.loop)) (function_blocks p h)
function_differ p h few =
    let f : Name = h.name.name in
    let l : List MadeBlock = (body_lowered p h).blocks in
    let numbered = blocks_numbered p h.body (turn_site f) (main_spot h) (function_scope h) in (
      each_weaker (IsBetween 0) (λ c. Differ f (block_name f c.loop))
          (λ c k. let low = k.0 in λ e. let same = loop_traced f 0 c.loop (omega arith) k.1 e in absurd (omega (arith, same, low))) l
          (between 0 l (omega (arith, few)) numbered),
      loops_differ f 0 l (omega (arith, few)) numbered,
    )

-- OF ALL
-- a name of a block of such a function
record IsOf (P : Name → Type 0) (x : Name) : Type 0 where
  pub function : Name
  pub loop : ℕ
  pub is : x ≡ block_name function loop
  pub low : loop ≤ 256
  pub so : P function

abbrev names_of_blocks : List (Name × Block Name) → List Name
names_of_blocks bs = map (λ (b : List ℕ × Block (List ℕ)). b.0) bs

names_of_made : (f : Name) (bs : List MadeBlock) → names_of_blocks (map (graph_block f) bs) ≡ map (λ (b : MadeBlock). block_name f b.loop) bs
names_of_made f [] = refl
names_of_made f (b ∷ bs) = ap (λ xs. block_name f b.loop ∷ xs) (names_of_made f bs)

pub low_of_function : (p : Program) (h : Function) → length (function_blocks p h) ≤ 256 → Each (λ (b : MadeBlock). b.loop ≤ 256) (function_blocks p h)
low_of_function p h few =
    let l : List MadeBlock = (body_lowered p h).blocks in (
      omega arith,
      each_weaker (λ (b : MadeBlock). b.loop ≤ 0 + length l) (λ (b : MadeBlock). b.loop ≤ 256) (λ b k. omega (arith, k, few)) l
          (numbers_low 0 l (blocks_numbered p h.body (turn_site h.name.name) (main_spot h) (function_scope h))),
    )

own_names : (P : Name → Type 0) (f : Name) (bs : List MadeBlock) → P f → Each (λ (b : MadeBlock). b.loop ≤ 256) bs
    → Each (IsOf P) (map (λ (b : MadeBlock). block_name f b.loop) bs)
own_names P f [] so low = tt
own_names P f (b ∷ bs) so low = (record { function = f; loop = b.loop; is = refl; low = low.0; so = so }, own_names P f bs so low.1)

split_names : (f : Name) (bs : List MadeBlock) (rest : List (Name × Block Name))
    → names_of_blocks (map (graph_block f) bs ++ rest) ≡ map (λ (b : MadeBlock). block_name f b.loop) bs ++ names_of_blocks rest
split_names f bs rest = map_append (λ (b : List ℕ × Block (List ℕ)). b.0) (map (graph_block f) bs) rest ∙ ap (λ xs. xs ++ names_of_blocks rest)
    (names_of_made f bs)

all_names : (P : Name → Type 0) (p : Program) (items : List Item) → Each P (item_names items) → length (made_blocks p items) ≤ 256
    → Each (IsOf P) (names_of_blocks (blocks_of p items))
all_names P p [] so few = tt
all_names P p (Cells x len ∷ items) so few = all_names P p items so.1 few
all_names P p (Defines h ∷ items) so few =
    let f : Name = h.name.name in
    let own : List MadeBlock = function_blocks p h in
    let long = length-append own (made_blocks p items) in
    subst (Each (IsOf P)) (sym (split_names f own (blocks_of p items)))
    (each_append (IsOf P) (map (λ (b : MadeBlock). block_name f b.loop) own) (names_of_blocks (blocks_of p items))
    (own_names P f own so.0 (low_of_function p h (omega (arith, long, few)))) (all_names P p items so.1 (omega (arith, long, few))))

-- another function, with a name without `__`
abbrev IsOther : Name → Name → Type 0
IsOther f h = Differ f h × (has_double h ≡ false)

each_both : (P Q : Name → Type 0) (xs : List Name) → Each P xs → Each Q xs → Each (λ x. P x × Q x) xs
each_both P Q [] h k = tt
each_both P Q (x ∷ xs) h k = ((h.0, k.0), each_both P Q xs h.1 k.1)

across : (f : Name) (bs : List MadeBlock) (later : List Name) → has_double f ≡ false → Each (λ (b : MadeBlock). b.loop ≤ 256) bs → Each (IsOf (IsOther f)) later
    → Each (λ x. Each (Differ x) later) (map (λ (b : MadeBlock). block_name f b.loop) bs)
across f [] later single low others = tt
across f (b ∷ bs) later single low others = (
  each_weaker (IsOf (IsOther f)) (Differ (block_name f b.loop))
      (λ y o e. o.so.0 (function_traced f o.function b.loop o.loop low.0 o.low single o.so.1 (e ∙ o.is))) later others,
  across f bs later single low.1 others,
)

pub blocks_differ : (p : Program) (items : List Item) → Spread Differ (item_names items) → Each (λ x. has_double x ≡ false) (item_names items)
    → length (made_blocks p items) ≤ 256 → Spread Differ (names_of_blocks (blocks_of p items))
blocks_differ p [] differ single few = tt
blocks_differ p (Cells x len ∷ items) differ single few = blocks_differ p items differ.1 single.1 few
blocks_differ p (Defines h ∷ items) differ single few =
    let f : Name = h.name.name in
    let own : List MadeBlock = function_blocks p h in
    let rest : List Name = names_of_blocks (blocks_of p items) in
    let long = length-append own (made_blocks p items) in
    let low = low_of_function p h (omega (arith, long, few)) in
    let others = all_names (IsOther f) p items (each_both (Differ f) (λ x. has_double x ≡ false) (item_names items) differ.0 single.1)
    (omega (arith, long, few)) in
    subst (Spread Differ) (sym (split_names f own (blocks_of p items)))
    (spread_append Differ (map (λ (b : MadeBlock). block_name f b.loop) own) rest
    (spread_map Differ (λ (b : MadeBlock). block_name f b.loop) own (function_differ p h (omega (arith, long, few))))
    (blocks_differ p items differ.1 single.1 (omega (arith, long, few)))
    (across f own rest single.0 low others))
