-- Tokens by their place: no two of a state at one place, and an activity by what it takes.
use Rattle.std.proofs.Common.{◌≡◌, ℕ, zero, suc, ◌+◌, ◌-◌, ◌⊎◌, Bool, true, false, List, [], ◌∷◌, length, Option, Some, None, nat_lt, ◌==◌, if◌then◌else◌, inl}
use Rattle.std.proofs.Common.{inr, refl, sym, ap, ap₂, ◌∙◌, subst, arith, ⊎_elim, eqb-true}
use Rattle.std.specs.Prelude.{slice_get}
use Rattle.std.proofs.lemmas.Option.{same_Some}
use Rattle.tags.specs.declared.value.Value.{Value}
use Rattle.semantics.specs.declared.graph.Region.{Region}
use Rattle.semantics.specs.declared.graph.Region.TheVariants.{Root, Arm}
use Rattle.semantics.specs.declared.graph.Kind.{Kind}
use Rattle.semantics.specs.declared.graph.Kind.TheVariants.{Lit, Apply1, Apply2, Cond, Enter, Merge, Fetch, Store, Call, StrictCall, Loop}
use Rattle.semantics.specs.Graph.{Node, Block, Flow, node_at}
use Rattle.semantics.specs.Meaning.{Context, Main, Called, Turned, Statement, AtNode, AtOut, AtTurn, Port, Operand, Predicate, Flag, Carried, Tagged, tagged}
use Rattle.semantics.specs.Meaning.{Activity, Fires, Gates, Passes, Returns, Turns, Outputs, taken, operands_from, Deed, deed, fired, fired_in, input_passed}
use Rattle.semantics.specs.Meaning.{gated, passed, on_node, on_block, block_of}
use Rattle.lemmas.proofs.Permutations.{Put, Within, Each, Spread, put_later, each_within, spread_put, get_within}
use Rattle.law_confluence.specs.Outcome.{SameTag, TagsDiffer}

abbrev pub Differ : Tagged → Tagged → Type 0
Differ t u = SameTag t u → ⊥

-- no two tokens at one place
abbrev pub Unique : List Tagged → Type 0
Unique ts = Spread Differ ts

pub differ_turn : (t u : Tagged) → Differ t u → Differ u t
differ_turn t u h k = h (sym k.0, sym k.1, sym k.2)

put_other : (t u : Tagged) (zs ts ws : List Tagged) → Put t zs ts → Put u ws ts → (u ≡ t) ⊎ Within u zs
put_other t u zs [] ws p q = absurd p
put_other t u zs (x ∷ ts) ws (inl p) (inl q) = inl (q.0 ∙ sym p.0)
put_other t u zs (x ∷ ts) ws (inl p) (inr q) = inr (q.0, subst (λ l. Put u q.0 l) (sym p.1) q.2)
put_other t u zs (x ∷ ts) ws (inr p) (inl q) = inr (subst (λ l. Within u l) (sym p.1) (p.0, inl (q.0, refl)))
put_other t u zs (x ∷ ts) ws (inr p) (inr q) =
    ⊎_elim (λ e. inl e) (λ w. inr (subst (λ l. Within u l) (sym p.1) (x ∷ w.0, put_later u x w.0 p.0 w.1))) (put_other t u p.0 ts q.0 p.2 q.2)

pub unique_same : (ts : List Tagged) → Unique ts → (t u : Tagged) → Within t ts → Within u ts → SameTag t u → t ≡ u
unique_same ts all t u h k same =
    let apart = (spread_put Differ differ_turn t h.0 ts h.1 all).0 in
    ⊎_elim (λ e. sym e) (λ w. absurd (each_within (Differ t) u h.0 w apart same)) (put_other t u h.0 ts k.0 h.1 k.1)

pub tags_differ : (ts : List Tagged) → Unique ts → TagsDiffer ts
tags_differ [] all i j t u e f same = cc
tags_differ (x ∷ ts) all zero zero t u e f same = refl
tags_differ (x ∷ ts) all zero (suc j) t u e f same =
    absurd (each_within (Differ x) u ts (get_within ts j u f) all.0 (subst (λ x. SameTag x u) (sym (same_Some x t e)) same))
tags_differ (x ∷ ts) all (suc i) zero t u e f same =
    absurd (each_within (Differ x) t ts (get_within ts i t e) all.0 (subst (λ x. SameTag x t) (sym (same_Some x u f)) (sym same.0, sym same.1, sym same.2)))
tags_differ (x ∷ ts) all (suc i) (suc j) t u e f same = ap suc (tags_differ ts all.1 i j t u e f same)

-- HOW A NODE TAKES ITS TOKENS

pub data Mode : Type 0 where
  Together : (count : ℕ) → Mode
  ByGate : Mode
  Alone : Mode
  Never : Mode

abbrev pub mode_of : Kind ℕ → ℕ → Mode
mode_of Enter k = ByGate
mode_of (Merge c) k = Alone
mode_of (Call f) k = Alone
mode_of (Loop f c) k = Alone
mode_of kind k = Together k

abbrev pub mode_node : Option (Node ℕ) → Mode
mode_node None = Never
mode_node (Some n) = mode_of n.kind (length n.sources)

abbrev pub mode_in : Option (Block ℕ) → ℕ → Mode
mode_in None n = Never
mode_in (Some b) n = if nat_lt n b.inputs then Together 1 else mode_node (node_at b n)

abbrev pub mode_at : Flow → Context → ℕ → Mode
mode_at fl c n = mode_in (block_of fl c) n

fired_mode : (fl : Flow) (c : Context) (n : ℕ) (kind : Kind ℕ) (vs : List Value) (d : Deed) (k : ℕ) → fired fl c n kind vs ≡ Some d
    → mode_of kind k ≡ Together k
fired_mode fl c n (Lit z) vs d k e = refl
fired_mode fl c n (Apply1 op) vs d k e = refl
fired_mode fl c n (Apply2 op) vs d k e = refl
fired_mode fl c n Cond vs d k e = refl
fired_mode fl c n (Fetch a) vs d k e = refl
fired_mode fl c n (Store a) vs d k e = refl
fired_mode fl c n (StrictCall f) vs d k e = refl
fired_mode fl c n Enter vs d k e = cc
fired_mode fl c n (Merge m) vs d k e = cc
fired_mode fl c n (Call f) vs d k e = cc
fired_mode fl c n (Loop f m) vs d k e = cc

fires_node : (fl : Flow) (c : Context) (n : ℕ) (vs : List Value) (d : Deed) (x : Option (Node ℕ))
    → on_node x (λ (node : Node ℕ). if length vs == length node.sources then fired fl c n node.kind vs else None) ≡ Some d → mode_node x ≡ Together (length vs)
fires_node fl c n vs d None e = cc
fires_node fl c n vs d (Some node) e = go (length vs == length node.sources) refl e
  where
    go : (t : Bool) → (length vs == length node.sources) ≡ t → (if t then fired fl c n node.kind vs else None) ≡ Some d
        → mode_of node.kind (length node.sources) ≡ Together (length vs)
    go true same f = fired_mode fl c n node.kind vs d (length node.sources) f ∙ ap Together (sym (eqb-true (length vs) (length node.sources) same))
    go false same f = cc

fires_here : (fl : Flow) (c : Context) (n : ℕ) (vs : List Value) (d : Deed) (t : Bool) (x : Option (Node ℕ))
    → (if t then input_passed c n vs else on_node x (λ (node : Node ℕ). if length vs == length node.sources then fired fl c n node.kind vs else None)) ≡ Some d
    → (if t then Together 1 else mode_node x) ≡ Together (length vs)
fires_here fl c n [] d true x e = cc
fires_here fl c n (v ∷ []) d true x e = refl
fires_here fl c n (v ∷ w ∷ vs) d true x e = cc
fires_here fl c n vs d false x e = fires_node fl c n vs d x e

fires_block : (fl : Flow) (c : Context) (n : ℕ) (vs : List Value) (d : Deed) (x : Option (Block ℕ)) → on_block x (fired_in fl c n vs) ≡ Some d
    → mode_in x n ≡ Together (length vs)
fires_block fl c n vs d None e = cc
fires_block fl c n vs d (Some b) e = fires_here fl c n vs d (nat_lt n b.inputs) (node_at b n) e

pub fires_mode : (fl : Flow) (c : Context) (n : ℕ) (vs : List Value) (d : Deed) → deed fl (Fires c n vs) ≡ Some d → mode_at fl c n ≡ Together (length vs)
fires_mode fl c n vs d e = fires_block fl c n vs d (block_of fl c) e

gated_mode : (c : Context) (n : ℕ) (v b : Value) (r : Region) (kind : Kind ℕ) (d : Deed) (k : ℕ) → gated c n v b r kind ≡ Some d → mode_of kind k ≡ ByGate
gated_mode c n v b Root kind d k e = cc
gated_mode c n v b (Arm m side) Enter d k e = refl
gated_mode c n v b (Arm m side) kind d k e = cc

passed_mode : (c : Context) (n i : ℕ) (v : Value) (kind : Kind ℕ) (d : Deed) (k : ℕ) → passed c n i v kind ≡ Some d → mode_of kind k ≡ Alone
passed_mode c n i v (Merge m) d k e = refl
passed_mode c n i v (Call f) d k e = refl
passed_mode c n i v (Loop f m) d k e = refl
passed_mode c n i v kind d k e = cc

-- a node line, at no input
by_node : (f : Node ℕ → Option Deed) (m : Mode) (d : Deed) → ((node : Node ℕ) → f node ≡ Some d → mode_of node.kind (length node.sources) ≡ m)
    → (t : Bool) (x : Option (Node ℕ)) → on_node (if t then None else x) f ≡ Some d → (if t then Together 1 else mode_node (if t then None else x)) ≡ m
by_node f m d h true x e = cc
by_node f m d h false None e = cc
by_node f m d h false (Some node) e = h node e

by_block : (n : ℕ) (f : Node ℕ → Option Deed) (m : Mode) (d : Deed) → ((node : Node ℕ) → f node ≡ Some d → mode_of node.kind (length node.sources) ≡ m)
    → (x : Option (Block ℕ)) → on_block x (λ (k : Block ℕ). on_node (node_at k n) f) ≡ Some d → mode_in x n ≡ m
by_block n f m d h None e = cc
by_block n f m d h (Some b) e = by_node f m d h (nat_lt n b.inputs) (slice_get b.nodes (n - b.inputs)) e

pub gates_mode : (fl : Flow) (c : Context) (n : ℕ) (v b : Value) (d : Deed) → deed fl (Gates c n v b) ≡ Some d → mode_at fl c n ≡ ByGate
gates_mode fl c n v b d e =
    by_block n (λ (node : Node ℕ). gated c n v b node.region node.kind) ByGate d (λ node h. gated_mode c n v b node.region node.kind d (length node.sources) h)
    (block_of fl c) e

pub passes_mode : (fl : Flow) (c : Context) (n i : ℕ) (v : Value) (d : Deed) → deed fl (Passes c n i v) ≡ Some d → mode_at fl c n ≡ Alone
passes_mode fl c n i v d e =
    by_block n (λ (node : Node ℕ). passed c n i v node.kind) Alone d (λ node h. passed_mode c n i v node.kind d (length node.sources) h) (block_of fl c) e

-- AN ACTIVITY BY ONE TOKEN THAT IT TAKES

abbrev pub place_context : Activity → Context
place_context (Fires c n vs) = c
place_context (Gates c n v b) = c
place_context (Passes c n i v) = c
place_context (Returns c n j v) = Called c n
place_context (Turns c n i j b v) = Turned c n i
place_context (Outputs j v) = Main

abbrev pub place_statement : Activity → Statement
place_statement (Fires c n vs) = AtNode n
place_statement (Gates c n v b) = AtNode n
place_statement (Passes c n i v) = AtNode n
place_statement (Returns c n j v) = AtOut j
place_statement (Turns c n i j b v) = AtTurn j
place_statement (Outputs j v) = AtOut j

abbrev pub IsAt : Context → Statement → Tagged → Type 0
IsAt c s t = (t.context ≡ c) × (t.statement ≡ s)

operands_at : (c : Context) (s : Statement) (k : ℕ) (vs : List Value) → Each (IsAt c s) (operands_from c s k vs)
operands_at c s k [] = tt
operands_at c s k (v ∷ vs) = ((refl, refl), operands_at c s (k + 1) vs)

pub taken_at : (a : Activity) → Each (IsAt (place_context a) (place_statement a)) (taken a)
taken_at (Fires c n vs) = operands_at c (AtNode n) 0 vs
taken_at (Gates c n v b) = ((refl, refl), ((refl, refl), tt))
taken_at (Passes c n i v) = ((refl, refl), tt)
taken_at (Returns c n j v) = ((refl, refl), tt)
taken_at (Turns c n i j b v) = ((refl, refl), ((refl, refl), tt))
taken_at (Outputs j v) = ((refl, refl), tt)

-- all these tokens are there
abbrev pub Held : List Tagged → List Tagged → Type 0
Held ts us = Each (λ t. Within t ts) us

operands_same : (ts : List Tagged) → Unique ts → (c c' : Context) (s s' : Statement) (k : ℕ) (vs ws : List Value) → Held ts (operands_from c s k vs)
    → Held ts (operands_from c' s' k ws)
    → c ≡ c' → s ≡ s' → length vs ≡ length ws → vs ≡ ws
operands_same ts all c c' s s' k [] [] h g o r e = refl
operands_same ts all c c' s s' k [] (w ∷ ws) h g o r e = absurd (omega arith)
operands_same ts all c c' s s' k (v ∷ vs) [] h g o r e = absurd (omega arith)
operands_same ts all c c' s s' k (v ∷ vs) (w ∷ ws) h g o r e =
    let one = unique_same ts all (tagged c s (Operand k) v) (tagged c' s' (Operand k) w) h.0 g.0 (o, r, refl) in
    ap₂ (λ x (xs : List Value). x ∷ xs) (ap (λ (t : Tagged). t.value) one) (operands_same ts all c c' s s' (k + 1) vs ws h.1 g.1 o r (omega arith))

-- the token that is at one place, from both
value_same : (ts : List Tagged) → Unique ts → (c c' : Context) (s s' : Statement) (p p' : Port) (v w : Value) → Within (tagged c s p v) ts
    → Within (tagged c' s' p' w) ts
    → c ≡ c' → s ≡ s' → p ≡ p' → v ≡ w
value_same ts all c c' s s' p p' v w h k e f g =
    ap (λ (t : Tagged). t.value) (unique_same ts all (tagged c s p v) (tagged c' s' p' w) h k (e, f, g))

pub within_one : (t u : Tagged) → Within t (u ∷ []) → t ≡ u
within_one t u (zs, inl h) = h.0
within_one t u (zs, inr h) = absurd h.2

together≢ : (m : Mode) (k : ℕ) → m ≡ Together k → m ≡ ByGate → ⊥
together≢ m k p q = cc

modes_agree : (fl : Flow) (c c' : Context) (n n' : ℕ) (m m' : Mode) → mode_at fl c n ≡ m → mode_at fl c' n' ≡ m' → c ≡ c' → AtNode n ≡ AtNode n' → m ≡ m'
modes_agree fl c c' n n' m m' p q e f =
    let g : n ≡ n' = cc in
    sym p ∙ ap₂ (λ x y. mode_at fl x y) e g ∙ q

at_one_place : (fl : Flow) (ts : List Tagged) → Unique ts → (a b : Activity) (d e : Deed) → deed fl a ≡ Some d → deed fl b ≡ Some e
    → Held ts (taken a) → Held ts (taken b) → (x : Tagged) → Within x (taken a) → Within x (taken b)
    → place_context a ≡ place_context b → place_statement a ≡ place_statement b → a ≡ b
at_one_place fl ts all (Fires c n vs) (Fires c' n' ws) d e p q h k x m l same line =
    let modes = modes_agree fl c c' n n' (Together (length vs)) (Together (length ws)) (fires_mode fl c n vs d p) (fires_mode fl c' n' ws e q) same line in
    let lengths : length vs ≡ length ws = cc in
    let values = operands_same ts all c c' (AtNode n) (AtNode n') 0 vs ws h k same line lengths in
    cc
at_one_place fl ts all (Fires c n vs) (Gates c' n' v b) d e p q h k x m l same line =
    let modes = modes_agree fl c c' n n' (Together (length vs)) ByGate (fires_mode fl c n vs d p) (gates_mode fl c' n' v b e q) same line in cc
at_one_place fl ts all (Fires c n vs) (Passes c' n' i v) d e p q h k x m l same line =
    let modes = modes_agree fl c c' n n' (Together (length vs)) Alone (fires_mode fl c n vs d p) (passes_mode fl c' n' i v e q) same line in cc
at_one_place fl ts all (Gates c n v b) (Fires c' n' ws) d e p q h k x m l same line =
    let modes = modes_agree fl c c' n n' ByGate (Together (length ws)) (gates_mode fl c n v b d p) (fires_mode fl c' n' ws e q) same line in cc
at_one_place fl ts all (Gates c n v b) (Gates c' n' w b') d e p q h k x m l same line =
    let one = value_same ts all c c' (AtNode n) (AtNode n') (Operand 0) (Operand 0) v w h.0 k.0 same line refl in
    let two = value_same ts all c c' (AtNode n) (AtNode n') Predicate Predicate b b' h.1.0 k.1.0 same line refl in
    cc
at_one_place fl ts all (Gates c n v b) (Passes c' n' i w) d e p q h k x m l same line =
    let modes = modes_agree fl c c' n n' ByGate Alone (gates_mode fl c n v b d p) (passes_mode fl c' n' i w e q) same line in cc
at_one_place fl ts all (Passes c n i v) (Fires c' n' ws) d e p q h k x m l same line =
    let modes = modes_agree fl c c' n n' Alone (Together (length ws)) (passes_mode fl c n i v d p) (fires_mode fl c' n' ws e q) same line in cc
at_one_place fl ts all (Passes c n i v) (Gates c' n' w b) d e p q h k x m l same line =
    let modes = modes_agree fl c c' n n' Alone ByGate (passes_mode fl c n i v d p) (gates_mode fl c' n' w b e q) same line in cc
at_one_place fl ts all (Passes c n i v) (Passes c' n' j w) d e p q h k x m l same line =
    let one = within_one x (tagged c (AtNode n) (Operand i) v) m in
    let two = within_one x (tagged c' (AtNode n') (Operand j) w) l in
    let ports = ap (λ (t : Tagged). t.port) (sym one ∙ two) in
    let values = ap (λ (t : Tagged). t.value) (sym one ∙ two) in
    cc
at_one_place fl ts all (Returns c n j v) (Returns c' n' k' w) d e p q h k x m l same line =
    let values = value_same ts all (Called c n) (Called c' n') (AtOut j) (AtOut k') (Operand 0) (Operand 0) v w h.0 k.0 same line refl in
    cc
at_one_place fl ts all (Turns c n i j b v) (Turns c' n' i' j' b' v') d e p q h k x m l same line =
    let one = value_same ts all (Turned c n i) (Turned c' n' i') (AtTurn j) (AtTurn j') Flag Flag b b' h.0 k.0 same line refl in
    let two = value_same ts all (Turned c n i) (Turned c' n' i') (AtTurn j) (AtTurn j') Carried Carried v v' h.1.0 k.1.0 same line refl in
    cc
at_one_place fl ts all (Outputs j v) (Outputs k' w) d e p q h k x m l same line =
    let values = value_same ts all Main Main (AtOut j) (AtOut k') (Operand 0) (Operand 0) v w h.0 k.0 refl line refl in
    cc
at_one_place fl ts all a b d e p q h k x m l same line = cc

-- Take two activities that the graph has and whose tokens are there, no two at one place: if they share a token they are one.
pub same_activity : (fl : Flow) (ts : List Tagged) → Unique ts → (a b : Activity) (d e : Deed) → deed fl a ≡ Some d → deed fl b ≡ Some e
    → Held ts (taken a) → Held ts (taken b) → (x : Tagged) → Within x (taken a) → Within x (taken b) → a ≡ b
same_activity fl ts all a b d e p q h k x m l =
    let one = each_within (IsAt (place_context a) (place_statement a)) x (taken a) m (taken_at a) in
    let two = each_within (IsAt (place_context b) (place_statement b)) x (taken b) l (taken_at b) in
    at_one_place fl ts all a b d e p q h k x m l (sym one.0 ∙ two.0) (sym one.1 ∙ two.1)
