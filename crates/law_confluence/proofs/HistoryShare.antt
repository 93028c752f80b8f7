-- Two activities of a run that send to one place take from one place.
use Rattle.std.proofs.Common.{◌≡◌, ℕ, zero, suc, ◌+◌, ◌-◌, ◌<◌, ◌≤◌, ◌⊎◌, true, false, List, [], ◌∷◌, length, Some, inl, inr, refl, sym, ap, ap₂, ◌∙◌, subst}
use Rattle.std.proofs.Common.{subst₂, arith, ⊎_elim}
use Rattle.std.proofs.lemmas.Bool.{cases_eq}
use Rattle.std.specs.Prelude.{slice_get}
use Rattle.tags.specs.declared.value.Value.{Value}
use Rattle.operators.specs.Values.{truth}
use Rattle.semantics.specs.declared.graph.Region.TheVariants.{Arm}
use Rattle.semantics.specs.declared.graph.Source.{Source}
use Rattle.semantics.specs.Graph.{Node, Block, Flow, node_at}
use Rattle.semantics.specs.Meaning.{Context, Main, Called, Turned, Statement, AtNode, AtOut, AtTurn, Port, Operand, Flag, Tagged, tagged, Activity, Fires}
use Rattle.semantics.specs.Meaning.{Gates, Passes, Returns, Turns, taken, block_of, Message, Sends, Steers, Enters}
use Rattle.lemmas.proofs.Permutations.{Within, Each, put_first}
use Rattle.law_confluence.proofs.ActivityUses.{Member}
use Rattle.law_confluence.proofs.ActivityRows.{Class, Plain, Gate, Join, Calling, Strict, Looping, class_of, class_at, region_node, Row, RowFires, RowSteers}
use Rattle.law_confluence.proofs.ActivityRows.{RowGates, RowQuiet, RowMerges, RowCalls, RowStrict, RowLoops, RowReturns, RowAgain, RowLeaves}
use Rattle.law_confluence.proofs.HistoryLaws.{IsFlowWell, well_at, Tokens, ContextLaw, ArmLaw, Lawful, Grounded}
use Rattle.law_confluence.proofs.HistoryGrounds.{joined_arm, row_grounded}
use Rattle.law_confluence.proofs.HistoryRivals.{Rival, BothSend, BothTell, BothEnter, member_rivals}
use Rattle.law_confluence.specs.Outcome.{SameTag}

-- both take a token at one place
abbrev pub Share : Activity → Activity → Type 0
Share a b = (x : Tagged) × (y : Tagged) × Within x (taken a) × Within y (taken b) × SameTag x y

abbrev group : Class → Class
group Strict = Calling
group k = k

-- who sends on the output port p of node n
data Sender (fl : Flow) (a : Activity) (c : Context) (n p : ℕ) : Type 0 where
  SFire : (vs : List Value) → a ≡ Fires c n vs → group (class_at fl c n) ≡ Plain → 0 < length vs → Sender fl a c n p
  SGate : (v b : Value) → a ≡ Gates c n v b → group (class_at fl c n) ≡ Gate → Sender fl a c n p
  SMerge : (i : ℕ) (v : Value) → a ≡ Passes c n i v → group (class_at fl c n) ≡ Join → class_at fl c n ≡ Join → Sender fl a c n p
  SReturn : (v : Value) → a ≡ Returns c n p v → group (class_at fl c n) ≡ Calling → Sender fl a c n p
  SLeave : (i j : ℕ) (b v : Value) → a ≡ Turns c n i j b v → p ≡ j - 1 → truth b ≡ false → group (class_at fl c n) ≡ Looping → Sender fl a c n p

-- who sends to the inputs of an invocation
data Enterer (fl : Flow) (a : Activity) (d : Context) (from : ℕ) (vs : List Value) : Type 0 where
  ECall : (c : Context) (n i : ℕ) (v : Value) → a ≡ Passes c n i v → d ≡ Called c n → from ≡ i → vs ≡ v ∷ [] → class_at fl c n ≡ Calling
      → Enterer fl a d from vs
  EStrict : (c : Context) (n : ℕ) → a ≡ Fires c n vs → d ≡ Called c n → from ≡ 0 → class_at fl c n ≡ Strict → Enterer fl a d from vs
  ELoop : (c : Context) (n i : ℕ) (v : Value) → a ≡ Passes c n i v → d ≡ Turned c n 0 → from ≡ i → vs ≡ v ∷ [] → Enterer fl a d from vs
  EAgain : (c : Context) (n i j : ℕ) (b v : Value) → a ≡ Turns c n i j b v → d ≡ Turned c n (i + 1) → from ≡ j - 1 → vs ≡ v ∷ [] → 1 ≤ j
      → Enterer fl a d from vs

share_first : (c c' : Context) (n n' : ℕ) (vs ws : List Value) → c ≡ c' → n ≡ n' → 0 < length vs → 0 < length ws → Share (Fires c n vs) (Fires c' n' ws)
share_first c c' n n' [] ws e f l k = absurd (omega arith)
share_first c c' n n' (v ∷ vs) [] e f l k = absurd (omega arith)
share_first c c' n n' (v ∷ vs) (w ∷ ws) e f l k =
    (tagged c (AtNode n) (Operand 0) v, tagged c' (AtNode n') (Operand 0) w, (_, put_first _ _), (_, put_first _ _), (e, ap AtNode f, refl))

share_of : (a b a' b' : Activity) → a ≡ a' → b ≡ b' → Share a' b' → Share a b
share_of a b a' b' e f s = subst₂ (λ a b. Share a b) (sym e) (sym f) s

module _ (fl : Flow) (w : IsFlowWell fl) (E : Tokens) (all : (t : Tagged) → E t → Lawful fl E t) (one : (t u : Tagged) → E t → E u → SameTag t u → t ≡ u) where
  value_is : (c : Context) (s : Statement) (q : Port) (v v' : Value) → E (tagged c s q v) → E (tagged c s q v') → v ≡ v'
  value_is c s q v v' h k = ap (λ (t : Tagged). t.value) (one (tagged c s q v) (tagged c s q v') h k (refl, refl, refl))

  -- ---- the sides of a merge
  side_of : (c : Context) (n i : ℕ) (v : Value) (b : Block ℕ) (node : Node ℕ) → block_of fl c ≡ Some b → node_at b n ≡ Some node
      → (class : class_of node.kind ≡ Join) → (k : ℕ)
      → ((j : ℕ) (s : Source) → slice_get node.sources j ≡ Some s
      → ((j ≡ 0) × (region_node (node_at b s.node) ≡ Arm k true)) ⊎ ((j ≡ 1) × (region_node (node_at b s.node) ≡ Arm k false)))
      → E (tagged c (AtNode n) (Operand i) v) → class_at fl c n ≡ Join → ((i ≡ 0) × ArmLaw E c (Arm k true)) ⊎ ((i ≡ 1) × ArmLaw E c (Arm k false))
  side_of c n i v b node eb line class k sides h join =
      let x = joined_arm fl w E all c n i v h join in
      let l = x.5 in
      let blocks : x.0 ≡ b = let e = sym x.2 ∙ eb in cc in
      let nodes : l.0 ≡ node = let e = sym l.2 ∙ ap (λ (b : Block ℕ). node_at b n) blocks ∙ line in cc in
      let get = subst (λ (node : Node ℕ). slice_get node.sources i ≡ Some l.1) nodes l.3 in
      let arm = subst (λ (b : Block ℕ). ArmLaw E c (region_node (node_at b l.1.node))) blocks l.4 in
      ⊎_elim (λ s. inl (s.0, subst (λ r. ArmLaw E c r) s.1 arm)) (λ s. inr (s.0, subst (λ r. ArmLaw E c r) s.1 arm)) (sides i l.1 get)

  both_sides : (c : Context) (k : ℕ) → ArmLaw E c (Arm k true) → ArmLaw E c (Arm k false) → ⊥
  both_sides c k h g =
      let same = value_is c (AtNode k) (Operand 0) h.0 g.0 h.1 g.1 in
      let t = h.2 in
      let f = g.2 in
      let tf = sym t ∙ ap truth same ∙ f in
      cc

  merges_once : (c : Context) (n i i' : ℕ) (v v' : Value) → E (tagged c (AtNode n) (Operand i) v) → E (tagged c (AtNode n) (Operand i') v')
      → class_at fl c n ≡ Join → i ≡ i'
  merges_once c n i i' v v' h g join =
      let x = joined_arm fl w E all c n i v h join in
      let line = (well_at fl w c x.0 x.2 n x.1 x.3).joins x.4 in
      let first = side_of c n i v x.0 x.1 x.2 x.3 x.4 line.0 line.3 h join in
      let second = side_of c n i' v' x.0 x.1 x.2 x.3 x.4 line.0 line.3 g join in
      go line.0 first second
    where
      go : (k : ℕ) → ((i ≡ 0) × ArmLaw E c (Arm k true)) ⊎ ((i ≡ 1) × ArmLaw E c (Arm k false))
          → ((i' ≡ 0) × ArmLaw E c (Arm k true)) ⊎ ((i' ≡ 1) × ArmLaw E c (Arm k false)) → i ≡ i'
      go k (inl p) (inl q) = p.0 ∙ sym q.0
      go k (inl p) (inr q) = absurd (both_sides c k p.1 q.1)
      go k (inr p) (inl q) = absurd (both_sides c k q.1 p.1)
      go k (inr p) (inr q) = p.0 ∙ sym q.0

  -- ---- the iterations of a loop
  pub before : (i' i : ℕ) (c : Context) (n : ℕ) (t : Tagged) → E t → t.context ≡ Turned c n i' → i < i'
      → (j : ℕ) × (b : Value) × E (tagged (Turned c n i) (AtTurn j) Flag b) × (truth b ≡ true)
  before zero i c n t h e l = absurd (omega arith)
  before (suc g) i c n t h e l =
      let law = subst (λ d. ContextLaw fl E d) e (all t h).0 in
      let flag = law.2 g refl in
      ⊎_elim (λ same. (flag.0, flag.1, subst (λ i. E (tagged (Turned c n i) (AtTurn flag.0) Flag flag.1)) (sym same) flag.2, flag.3))
      (λ other. before g i c n (tagged (Turned c n g) (AtTurn flag.0) Flag flag.1) flag.2 refl (omega arith)) (cases_eq i g)

  no_later : (i i' j j' : ℕ) (c : Context) (n : ℕ) (b b' : Value) → E (tagged (Turned c n i) (AtTurn j) Flag b) → E (tagged (Turned c n i') (AtTurn j') Flag b')
      → truth b ≡ false → i < i' → ⊥
  no_later i i' j j' c n b b' h g f l =
      let flag = before i' i c n (tagged (Turned c n i') (AtTurn j') Flag b') g refl l in
      let mine = (all _ h).1 in
      let its = (all _ flag.2).1 in
      let blocks = some_same mine.0 its.0 (sym mine.1 ∙ its.1) in
      let inputs = ap (λ (b : Block ℕ). b.inputs) blocks in
      let there = mine.4 flag.0 its.2 (omega (arith, its.3, inputs)) in
      let same = value_is (Turned c n i) (AtTurn flag.0) Flag b flag.1 there flag.2 in
      let tf = sym f ∙ ap truth same ∙ flag.3 in
      cc
    where
      some_same : {X : Type 0} (x y : X) → Some x ≡ Some y → x ≡ y
      some_same x y e = cc

  leaves_once : (i i' j j' : ℕ) (c : Context) (n : ℕ) (b b' : Value) → E (tagged (Turned c n i) (AtTurn j) Flag b)
      → E (tagged (Turned c n i') (AtTurn j') Flag b') → truth b ≡ false → truth b' ≡ false → i ≡ i'
  leaves_once i i' j j' c n b b' h g f k =
      let up : i < i' → ⊥ = λ l. no_later i i' j j' c n b b' h g f l in
      let down : i' < i → ⊥ = λ l. no_later i' i j' j c n b' b g h k l in
      omega arith

  -- ---- who sends
  class_group : (c c' : Context) (n n' : ℕ) (k : Class) → c ≡ c' → n ≡ n' → class_at fl c n ≡ k → group (class_at fl c' n') ≡ group k
  class_group c c' n n' k e f h = ap group (sym (ap₂ (λ c n. class_at fl c n) e f) ∙ h)

  sender_of : (a : Activity) (c : Context) (n p : ℕ) (v : Value) (m : Message) → Row fl a m → Each E (taken a) → m ≡ Sends c n p v → Sender fl a c n p
  sender_of a c n p v m (RowFires c' n' vs v' ea em class l) h e =
      let eq = sym em ∙ e in let cs : c' ≡ c = cc in let ns : n' ≡ n = cc in
      SFire vs (cc) (class_group c' c n' n Plain cs ns class) l
  sender_of a c n p v m (RowSteers c' n' v' ea em) h e = absurd (cc)
  sender_of a c n p v m (RowGates c' n' v' b k ea em class region) h e =
      let eq = sym em ∙ e in let cs : c' ≡ c = cc in let ns : n' ≡ n = cc in
      SGate v' b (cc) (class_group c' c n' n Gate cs ns class)
  sender_of a c n p v m (RowQuiet some em) h e = absurd (cc)
  sender_of a c n p v m (RowMerges c' n' i v' ea em class) h e =
      let eq = sym em ∙ e in let cs : c' ≡ c = cc in let ns : n' ≡ n = cc in
      SMerge i v' (cc) (class_group c' c n' n Join cs ns class) (sym (ap₂ (λ c n. class_at fl c n) cs ns) ∙ class)
  sender_of a c n p v m (RowCalls c' n' i v' ea em class) h e = absurd (cc)
  sender_of a c n p v m (RowStrict c' n' vs ea em class mode) h e = absurd (cc)
  sender_of a c n p v m (RowLoops c' n' i v' ea em class) h e = absurd (cc)
  sender_of a c n p v m (RowReturns c' n' j v' ea em) h e =
      let eq = sym em ∙ e in let cs : c' ≡ c = cc in let ns : n' ≡ n = cc in
      let law = (all _ (subst (λ a. Each E (taken a)) ea h).0).0 in
      SReturn v' (cc) (⊎_elim (λ k. class_group c' c n' n Calling cs ns k) (λ k. class_group c' c n' n Strict cs ns k) law.1)
  sender_of a c n p v m (RowAgain c' n' i j b v' ea em on) h e = absurd (cc)
  sender_of a c n p v m (RowLeaves c' n' i j b v' ea em off) h e =
      let eq = sym em ∙ e in let cs : c' ≡ c = cc in let ns : n' ≡ n = cc in
      let law = (all _ (subst (λ a. Each E (taken a)) ea h).0).0 in
      SLeave i j b v' (cc) (cc) off (class_group c' c n' n Looping cs ns law.1)

  share_send : (a a' : Activity) (c : Context) (n p : ℕ) → Sender fl a c n p → Sender fl a' c n p → Each E (taken a) → Each E (taken a') → Share a a'
  share_send a a' c n p (SFire vs ea k l) (SFire ws eb k' l') h g = share_of a a' _ _ ea eb (share_first c c n n vs ws refl refl l l')
  share_send a a' c n p (SGate v b ea k) (SGate v' b' eb k') h g =
      share_of a a' _ _ ea eb
      (tagged c (AtNode n) (Operand 0) v, tagged c (AtNode n) (Operand 0) v', (_, put_first _ _), (_, put_first _ _), (refl, refl, refl))
  share_send a a' c n p (SMerge i v ea k0 k) (SMerge i' v' eb k0' k') h g =
      let same = merges_once c n i i' v v' (subst (λ a. Each E (taken a)) ea h).0 (subst (λ a. Each E (taken a)) eb g).0 k in
      share_of a a' _ _ ea eb
      (tagged c (AtNode n) (Operand i) v, tagged c (AtNode n) (Operand i') v', (_, put_first _ _), (_, put_first _ _), (refl, refl, ap Operand same))
  share_send a a' c n p (SReturn v ea k) (SReturn v' eb k') h g =
      share_of a a' _ _ ea eb
      (tagged (Called c n) (AtOut p) (Operand 0) v, tagged (Called c n) (AtOut p) (Operand 0) v', (_, put_first _ _), (_, put_first _ _), (refl, refl, refl))
  share_send a a' c n p (SLeave i j b v ea ep off k) (SLeave i' j' b' v' eb ep' off' k') h g =
      let x = (subst (λ a. Each E (taken a)) ea h).0 in
      let y = (subst (λ a. Each E (taken a)) eb g).0 in
      let same = leaves_once i i' j j' c n b b' x y off off' in
      let low = (all _ x).1.2 in
      let low' = (all _ y).1.2 in
      let turns : j ≡ j' = omega arith in
      share_of a a' _ _ ea eb (
        tagged (Turned c n i) (AtTurn j) Flag b,
        tagged (Turned c n i') (AtTurn j') Flag b',
        (_, put_first _ _),
        (_, put_first _ _),
        (ap (λ i. Turned c n i) same, ap AtTurn turns, refl),
      )
  share_send a a' c n p (SFire vs ea k l) (SGate v' b' eb k') h g = absurd (cc)
  share_send a a' c n p (SFire vs ea k l) (SMerge i' v' eb k' m') h g = absurd (cc)
  share_send a a' c n p (SFire vs ea k l) (SReturn v' eb k') h g = absurd (cc)
  share_send a a' c n p (SFire vs ea k l) (SLeave i' j' b' v' eb ep' off' k') h g = absurd (cc)
  share_send a a' c n p (SGate v b ea k) (SFire ws eb k' l') h g = absurd (cc)
  share_send a a' c n p (SGate v b ea k) (SMerge i' v' eb k' m') h g = absurd (cc)
  share_send a a' c n p (SGate v b ea k) (SReturn v' eb k') h g = absurd (cc)
  share_send a a' c n p (SGate v b ea k) (SLeave i' j' b' v' eb ep' off' k') h g = absurd (cc)
  share_send a a' c n p (SMerge i v ea k m) (SFire ws eb k' l') h g = absurd (cc)
  share_send a a' c n p (SMerge i v ea k m) (SGate v' b' eb k') h g = absurd (cc)
  share_send a a' c n p (SMerge i v ea k m) (SReturn v' eb k') h g = absurd (cc)
  share_send a a' c n p (SMerge i v ea k m) (SLeave i' j' b' v' eb ep' off' k') h g = absurd (cc)
  share_send a a' c n p (SReturn v ea k) (SFire ws eb k' l') h g = absurd (cc)
  share_send a a' c n p (SReturn v ea k) (SGate v' b' eb k') h g = absurd (cc)
  share_send a a' c n p (SReturn v ea k) (SMerge i' v' eb k' m') h g = absurd (cc)
  share_send a a' c n p (SReturn v ea k) (SLeave i' j' b' v' eb ep' off' k') h g = absurd (cc)
  share_send a a' c n p (SLeave i j b v ea ep off k) (SFire ws eb k' l') h g = absurd (cc)
  share_send a a' c n p (SLeave i j b v ea ep off k) (SGate v' b' eb k') h g = absurd (cc)
  share_send a a' c n p (SLeave i j b v ea ep off k) (SMerge i' v' eb k' m') h g = absurd (cc)
  share_send a a' c n p (SLeave i j b v ea ep off k) (SReturn v' eb k') h g = absurd (cc)

  enterer_of : (a : Activity) (d : Context) (from : ℕ) (vs : List Value) (m : Message) → Row fl a m → Each E (taken a) → m ≡ Enters d from vs
      → Enterer fl a d from vs
  enterer_of a d from vs m (RowFires c n ws v ea em class l) h e = absurd (cc)
  enterer_of a d from vs m (RowSteers c n v ea em) h e = absurd (cc)
  enterer_of a d from vs m (RowGates c n v b k ea em class region) h e = absurd (cc)
  enterer_of a d from vs m (RowQuiet some em) h e = absurd (cc)
  enterer_of a d from vs m (RowMerges c n i v ea em class) h e = absurd (cc)
  enterer_of a d from vs m (RowCalls c n i v ea em class) h e = ECall c n i v ea (cc) (cc) (cc) class
  enterer_of a d from vs m (RowStrict c n ws ea em class mode) h e = EStrict c n (cc) (cc) (cc) class
  enterer_of a d from vs m (RowLoops c n i v ea em class) h e = ELoop c n i v ea (cc) (cc) (cc)
  enterer_of a d from vs m (RowReturns c n j v ea em) h e = absurd (cc)
  enterer_of a d from vs m (RowAgain c n i j b v ea em on) h e =
      let low = (all _ (subst (λ a. Each E (taken a)) ea h).0).1.2 in
      EAgain c n i j b v ea (cc) (cc) (cc) low
  enterer_of a d from vs m (RowLeaves c n i j b v ea em off) h e = absurd (cc)

  classes_differ : (c c' : Context) (n n' : ℕ) (k k' : Class) → Called c n ≡ Called c' n' → class_at fl c n ≡ k → class_at fl c' n' ≡ k' → k ≡ k'
  classes_differ c c' n n' k k' e h g = let cs : c ≡ c' = cc in let ns : n ≡ n' = cc in sym h ∙ ap₂ (λ c n. class_at fl c n) cs ns ∙ g

  one_long : (v : Value) (vs : List Value) (i : ℕ) → vs ≡ v ∷ [] → i < length vs → i ≡ 0
  one_long v vs i e l = let k = ap length e in omega arith

  share_enter : (a a' : Activity) (d : Context) (from from' i i' : ℕ) (vs vs' : List Value) → Enterer fl a d from vs → Enterer fl a' d from' vs' → i < length vs
      → i' < length vs' → from + i ≡ from' + i' → Share a a'
  share_enter a a' d from from' i i' vs vs' (ECall c n x v ea ed ef ev k) (ECall c' n' x' v' eb ed' ef' ev' k') l l' at =
      let eq = sym ed ∙ ed' in let cs : c ≡ c' = cc in let ns : n ≡ n' = cc in
      let z = one_long v vs i ev l in
      let z' = one_long v' vs' i' ev' l' in
      let xs : x ≡ x' = omega arith in
      share_of a a' _ _ ea eb
      (tagged c (AtNode n) (Operand x) v, tagged c' (AtNode n') (Operand x') v', (_, put_first _ _), (_, put_first _ _), (cs, ap AtNode ns, ap Operand xs))
  share_enter a a' d from from' i i' vs vs' (EStrict c n ea ed ef k) (EStrict c' n' eb ed' ef' k') l l' at =
      let eq = sym ed ∙ ed' in let cs : c ≡ c' = cc in let ns : n ≡ n' = cc in
      share_of a a' _ _ ea eb (share_first c c' n n' vs vs' cs ns (omega arith) (omega arith))
  share_enter a a' d from from' i i' vs vs' (ELoop c n x v ea ed ef ev) (ELoop c' n' x' v' eb ed' ef' ev') l l' at =
      let eq = sym ed ∙ ed' in let cs : c ≡ c' = cc in let ns : n ≡ n' = cc in
      let z = one_long v vs i ev l in
      let z' = one_long v' vs' i' ev' l' in
      let xs : x ≡ x' = omega arith in
      share_of a a' _ _ ea eb
      (tagged c (AtNode n) (Operand x) v, tagged c' (AtNode n') (Operand x') v', (_, put_first _ _), (_, put_first _ _), (cs, ap AtNode ns, ap Operand xs))
  share_enter a a' d from from' i i' vs vs' (EAgain c n t j b v ea ed ef ev low) (EAgain c' n' t' j' b' v' eb ed' ef' ev' low') l l' at =
      let eq = sym ed ∙ ed' in let cs : c ≡ c' = cc in let ns : n ≡ n' = cc in
      let again : t + 1 ≡ t' + 1 = cc in
      let ts : t ≡ t' = omega arith in
      let z = one_long v vs i ev l in
      let z' = one_long v' vs' i' ev' l' in
      let js : j ≡ j' = omega arith in
      share_of a a' _ _ ea eb (
        tagged (Turned c n t) (AtTurn j) Flag b,
        tagged (Turned c' n' t') (AtTurn j') Flag b',
        (_, put_first _ _),
        (_, put_first _ _),
        (turned_same c c' n n' t t' cs ns ts, ap AtTurn js, refl),
      )
    where
      turned_same : (c c' : Context) (n n' t t' : ℕ) → c ≡ c' → n ≡ n' → t ≡ t' → Turned c n t ≡ Turned c' n' t'
      turned_same c c' n n' t t' e f g = cc
  share_enter a a' d from from' i i' vs vs' (ECall c n x v ea ed ef ev k) (EStrict c' n' eb ed' ef' k') l l' at =
      let eq = classes_differ c c' n n' Calling Strict (sym ed ∙ ed') k k' in absurd (cc)
  share_enter a a' d from from' i i' vs vs' (EStrict c n ea ed ef k) (ECall c' n' x' v' eb ed' ef' ev' k') l l' at =
      let eq = classes_differ c c' n n' Strict Calling (sym ed ∙ ed') k k' in absurd (cc)
  share_enter a a' d from from' i i' vs vs' (ELoop c n x v ea ed ef ev) (EAgain c' n' t' j' b' v' eb ed' ef' ev' low') l l' at =
      let eq = sym ed ∙ ed' in let zero_is : 0 ≡ t' + 1 = cc in absurd (omega arith)
  share_enter a a' d from from' i i' vs vs' (EAgain c n t j b v ea ed ef ev low) (ELoop c' n' x' v' eb ed' ef' ev') l l' at =
      let eq = sym ed ∙ ed' in let zero_is : t + 1 ≡ 0 = cc in absurd (omega arith)
  share_enter a a' d from from' i i' vs vs' (ECall c n x v ea ed ef ev k) (ELoop c' n' x' v' eb ed' ef' ev') l l' at = absurd (cc)
  share_enter a a' d from from' i i' vs vs' (ECall c n x v ea ed ef ev k) (EAgain c' n' t' j' b' v' eb ed' ef' ev' low') l l' at = absurd (cc)
  share_enter a a' d from from' i i' vs vs' (EStrict c n ea ed ef k) (ELoop c' n' x' v' eb ed' ef' ev') l l' at = absurd (cc)
  share_enter a a' d from from' i i' vs vs' (EStrict c n ea ed ef k) (EAgain c' n' t' j' b' v' eb ed' ef' ev' low') l l' at = absurd (cc)
  share_enter a a' d from from' i i' vs vs' (ELoop c n x v ea ed ef ev) (ECall c' n' x' v' eb ed' ef' ev' k') l l' at = absurd (cc)
  share_enter a a' d from from' i i' vs vs' (ELoop c n x v ea ed ef ev) (EStrict c' n' eb ed' ef' k') l l' at = absurd (cc)
  share_enter a a' d from from' i i' vs vs' (EAgain c n t j b v ea ed ef ev low) (ECall c' n' x' v' eb ed' ef' ev' k') l l' at = absurd (cc)
  share_enter a a' d from from' i i' vs vs' (EAgain c n t j b v ea ed ef ev low) (EStrict c' n' eb ed' ef' k') l l' at = absurd (cc)

  teller_of : (a : Activity) (c : Context) (k : ℕ) (v : Value) (m : Message) → Row fl a m → m ≡ Steers c k v → a ≡ Fires c k (v ∷ [])
  teller_of a c k v m (RowFires c' n ws x ea em class l) e = absurd (cc)
  teller_of a c k v m (RowSteers c' n x ea em) e = let eq = sym em ∙ e in let cs : c' ≡ c = cc in let ns : n ≡ k = cc in let vs : x ≡ v = cc in cc
  teller_of a c k v m (RowGates c' n x b k' ea em class region) e = absurd (cc)
  teller_of a c k v m (RowQuiet some em) e = absurd (cc)
  teller_of a c k v m (RowMerges c' n i x ea em class) e = absurd (cc)
  teller_of a c k v m (RowCalls c' n i x ea em class) e = absurd (cc)
  teller_of a c k v m (RowStrict c' n ws ea em class mode) e = absurd (cc)
  teller_of a c k v m (RowLoops c' n i x ea em class) e = absurd (cc)
  teller_of a c k v m (RowReturns c' n j x ea em) e = absurd (cc)
  teller_of a c k v m (RowAgain c' n i j b x ea em on) e = absurd (cc)
  teller_of a c k v m (RowLeaves c' n i j b x ea em off) e = absurd (cc)

  share_rival : (a a' : Activity) (m m' : Message) → Row fl a m → Row fl a' m' → Each E (taken a) → Each E (taken a') → Rival m m' → Share a a'
  share_rival a a' m m' r r' h g (BothSend c n p v v' e f) = share_send a a' c n p (sender_of a c n p v m r h e) (sender_of a' c n p v' m' r' g f) h g
  share_rival a a' m m' r r' h g (BothTell c k v v' e f) =
      share_of a a' _ _ (teller_of a c k v m r e) (teller_of a' c k v' m' r' f) (share_first c c k k (v ∷ []) (v' ∷ []) refl refl (omega arith) (omega arith))
  share_rival a a' m m' r r' h g (BothEnter d from from' vs vs' i i' e f l l' at) =
      share_enter a a' d from from' i i' vs vs' (enterer_of a d from vs m r h e) (enterer_of a' d from' vs' m' r' g f) l l' at

  -- Two activities with tokens of theirs at one place take from one place.
  pub share : (a a' : Activity) (m m' : Message) → Row fl a m → Row fl a' m' → Each E (taken a) → Each E (taken a') → (t u : Tagged) → Member fl m t
      → Member fl m' u → SameTag t u → Share a a'
  share a a' m m' r r' h g t u x y same =
      share_rival a a' m m' r r' h g (member_rivals fl E m m' t u x y same (row_grounded fl w E all a m r h) (row_grounded fl w E all a' m' r' g))

  no_start : (d : Context) (from : ℕ) (vs : List Value) (a : Activity) → Enterer fl a d from vs → d ≡ Main → ⊥
  no_start d from vs a (ECall c n i v ea ed ef ev k) e = cc
  no_start d from vs a (EStrict c n ea ed ef k) e = cc
  no_start d from vs a (ELoop c n i v ea ed ef ev) e = cc
  no_start d from vs a (EAgain c n i j b v ea ed ef ev low) e = cc

  start_rival : (a : Activity) (m : Message) (vs : List Value) → Row fl a m → Each E (taken a) → Rival m (Enters Main 0 vs) → ⊥
  start_rival a m vs r h (BothSend c n p v v' e f) = cc
  start_rival a m vs r h (BothTell c k v v' e f) = cc
  start_rival a m vs r h (BothEnter d from from' us us' i i' e f l l' at) = no_start d from us a (enterer_of a d from us m r h e) (cc)

  -- no activity sends to where a token is at the start
  pub not_at_start : (a : Activity) (m : Message) (vs : List Value) → Row fl a m → Each E (taken a) → Grounded fl E (Enters Main 0 vs) → (t u : Tagged)
      → Member fl m t → Member fl (Enters Main 0 vs) u → SameTag t u → ⊥
  not_at_start a m vs r h g t u x y same = start_rival a m vs r h (member_rivals fl E m (Enters Main 0 vs) t u x y same (row_grounded fl w E all a m r h) g)
