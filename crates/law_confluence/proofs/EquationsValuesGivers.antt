-- Which activity gives a value to a port, by the kind of the node; and that a port gets one value.
use Rattle.std.proofs.Common.{◌≡◌, ℕ, zero, suc, ◌+◌, ◌-◌, ◌<◌, ◌++◌, Bool, true, false, List, [], ◌∷◌, length, Option, Some, None, flat_map, nat_lt}
use Rattle.std.proofs.Common.{if◌then◌else◌, refl, sym, ap, ap₂, ◌∙◌, subst, arith, ⊎_elim}
use Rattle.std.specs.Prelude.{slice_get}
use Rattle.std.proofs.lemmas.Option.{same_Some}
use Rattle.tags.specs.declared.value.Value.{Value}
use Rattle.operators.specs.Values.{truth}
use Rattle.semantics.specs.declared.graph.Region.TheVariants.{Arm}
use Rattle.semantics.specs.declared.graph.Source.{Source}
use Rattle.semantics.specs.declared.graph.Kind.{Kind}
use Rattle.semantics.specs.declared.graph.Kind.TheVariants.{Merge}
use Rattle.semantics.specs.Graph.{Node, Block, node_at}
use Rattle.semantics.specs.Meaning.{Context, Called, Turned, AtNode, AtOut, AtTurn, Operand, Flag, Carried, Tagged, tagged, Memory, Activity, Fires, Gates}
use Rattle.semantics.specs.Meaning.{Passes, Returns, Turns, taken, Deed, Says, Reads, Fills, Puts, Message, Sends, deed, block_of, arm_of, HadTrueFlag}
use Rattle.law_confluence.specs.Outcome.{SameTag}
use Rattle.lemmas.proofs.Permutations.{Within, Each, each_from, within_left, within_flat_map, within_from, put_first}
use Rattle.law_confluence.proofs.ActivityKeys.{same_activity}
use Rattle.law_confluence.proofs.ActivityRows.{Class, Plain, Steering, Gate, Join, Calling, Strict, Looping, Absent, class_of, class_node, class_in, class_at}
use Rattle.law_confluence.proofs.ActivityRows.{region_node, region_at, Row, RowFires, RowSteers, RowGates, RowQuiet, RowMerges, RowCalls, RowStrict, RowLoops}
use Rattle.law_confluence.proofs.ActivityRows.{RowReturns, RowAgain, RowLeaves, rows, region_is_arm}
use Rattle.law_confluence.specs.EquationsHave.{SaysIn}
use Rattle.law_confluence.proofs.EquationsGraphForms.{IsCondAt, HasForm, line_past}
use Rattle.law_confluence.proofs.EquationsRunRested.{Rested, Came, GivesIn, IsDueIn, took, one, one_at}
use Rattle.law_confluence.proofs.HistoryLaws.{ArmLaw}
use Rattle.law_confluence.proofs.EquationsRunRegions.{block_shaped}
use Rattle.law_confluence.proofs.EquationsRunOrigins.{says_speaks, took_all}
use Rattle.law_confluence.proofs.EquationsProgressInvocations.{merge_form}

abbrev pub Gave : Rested → Context → ℕ → ℕ → Value → Class → Type 0
Gave z c n p v Plain =
    (vs : List Value) × (d : Deed) × Within (Fires c n vs) z.run × (deed z.flow (Fires c n vs) ≡ Some d) × SaysIn z.state.memory d (Sends c n 0 v) × (p ≡ 0)
    × (0 < length vs)
Gave z c n p v Gate = (q : Value) × (k : ℕ) × Within (Gates c n v q) z.run × (p ≡ 0) × (region_at z.flow c n ≡ Arm k (truth q))
Gave z c n p v Join = (i : ℕ) × Within (Passes c n i v) z.run × (p ≡ 0)
Gave z c n p v Calling = Within (Returns c n p v) z.run
Gave z c n p v Strict = Within (Returns c n p v) z.run
Gave z c n p v Looping = (t : ℕ) × (q : Value) × Within (Turns c n t (p + 1) q v) z.run × (truth q ≡ false)
Gave z c n p v Steering = ⊥
Gave z c n p v Absent = ⊥

says_one : (m : Memory) (d : Deed) (x y : Message) → SaysIn m d x → SaysIn m d y → x ≡ y
says_one m (Says z) x y h k = sym h ∙ k
says_one m (Reads c n i) x y h k =
    let same = same_Some h.0 k.0 (sym h.1 ∙ k.1) in
    sym h.2 ∙ ap (λ v. Sends c n 0 v) same ∙ k.2
says_one m (Fills c n i v) x y h k = sym h ∙ k
says_one m (Puts j v) x y h k = absurd h

-- the line of a merge
pub record Joined (z : Rested) (c : Context) (n : ℕ) : Type 0 where
  pub block : Block ℕ
  pub line : Node ℕ
  pub cond : ℕ
  pub is_block : block_of z.flow c ≡ Some block
  pub is_line : node_at block n ≡ Some line
  pub kind : line.kind ≡ Merge cond

join_kind : (kind : Kind ℕ) → class_of kind ≡ Join → (k : ℕ) × (kind ≡ Merge k)
join_kind (Merge k) e = (k, refl)
join_kind kind e = absurd (cc)

-- a node line of a class that no input has
pub class_found : (o : Option (Block ℕ)) (n : ℕ) (k : Class) → class_in o n ≡ k → (k ≡ Plain → ⊥) → (k ≡ Absent → ⊥)
    → (b : Block ℕ) × (line : Node ℕ) × (o ≡ Some b) × (node_at b n ≡ Some line) × (class_of line.kind ≡ k)
class_found None n k e plain absent = absurd (absent (sym e))
class_found (Some b) n k e plain absent = let x = found (nat_lt n b.inputs) (slice_get b.nodes (n - b.inputs)) e in (b, x.0, refl, x.1, x.2)
  where
    found : (t : Bool) (x : Option (Node ℕ)) → (if t then Plain else class_node (if t then None else x)) ≡ k
        → (line : Node ℕ) × ((if t then None else x) ≡ Some line) × (class_of line.kind ≡ k)
    found true x f = absurd (plain (sym f))
    found false None f = absurd (absent (sym f))
    found false (Some line) f = (line, refl, f)

pub joined_line : (z : Rested) (c : Context) (n : ℕ) → class_at z.flow c n ≡ Join → Joined z c n
joined_line z c n e =
    let l = class_found (block_of z.flow c) n Join e (λ e. cc) (λ e. cc) in
    let k = join_kind l.1.kind l.4 in
    record { block = l.0; line = l.1; cond = k.0; is_block = l.2; is_line = l.3; kind = k.1 }

module _ (z : Rested) where
  pub in_turns : (c : Context) (n t j : ℕ) (q v : Value) → Within (Turns c n t j q v) z.run
      → Came z (tagged (Turned c n t) (AtTurn j) Flag q) × Came z (tagged (Turned c n t) (AtTurn j) Carried v)
  in_turns c n t j q v h = let all = took_all z (Turns c n t j q v) h in (all.0, all.1.0)

  giver : (a : Activity) (d : Deed) (m : Message) (c : Context) (n p : ℕ) (v : Value) → Within a z.run → deed z.flow a ≡ Some d
      → SaysIn z.state.memory d (Sends c n p v) → Row z.flow a m → m ≡ Sends c n p v
      → Gave z c n p v (class_at z.flow c n)
  giver a d m c n p v h e says (RowFires c' n' vs v' ea em class l) es =
      let eq = sym em ∙ es in
      let cs : c' ≡ c = cc in let ns : n' ≡ n = cc in let ps : p ≡ 0 = cc in
      let fires : a ≡ Fires c n vs = cc in
      subst (λ k. Gave z c n p v k) (sym class ∙ ap₂ (λ c n. class_at z.flow c n) cs ns) (
        vs,
        d,
        subst (λ a. Within a z.run) fires h,
        subst (λ a. deed z.flow a ≡ Some d) fires e,
        subst (λ p. SaysIn z.state.memory d (Sends c n p v)) ps says,
        ps,
        l,
      )
  giver a d m c n p v h e says (RowGates c' n' v' q k ea em class region) es =
      let eq = sym em ∙ es in
      let cs : c' ≡ c = cc in let ns : n' ≡ n = cc in let ps : p ≡ 0 = cc in
      let gates : a ≡ Gates c n v q = cc in
      subst (λ k. Gave z c n p v k) (sym class ∙ ap₂ (λ c n. class_at z.flow c n) cs ns)
      (q, k, subst (λ a. Within a z.run) gates h, ps, ap₂ (λ c n. region_at z.flow c n) (sym cs) (sym ns) ∙ region)
  giver a d m c n p v h e says (RowMerges c' n' i v' ea em class) es =
      let eq = sym em ∙ es in
      let cs : c' ≡ c = cc in let ns : n' ≡ n = cc in let ps : p ≡ 0 = cc in
      let passes : a ≡ Passes c n i v = cc in
      subst (λ k. Gave z c n p v k) (sym class ∙ ap₂ (λ c n. class_at z.flow c n) cs ns) (i, subst (λ a. Within a z.run) passes h, ps)
  giver a d m c n p v h e says (RowReturns c' n' j v' ea em) es =
      let eq = sym em ∙ es in
      let returns : a ≡ Returns c n p v = cc in
      let mine = subst (λ a. Within a z.run) returns h in
      let law = (z.lawful _ (took_all z (Returns c n p v) mine).0).0 in
      ⊎_elim (λ class. subst (λ k. Gave z c n p v k) (sym class) mine) (λ class. subst (λ k. Gave z c n p v k) (sym class) mine) law.1
  giver a d m c n p v h e says (RowLeaves c' n' t j q v' ea em off) es =
      let eq = sym em ∙ es in
      let cs : c' ≡ c = cc in let ns : n' ≡ n = cc in let ps : j - 1 ≡ p = cc in let vs : v' ≡ v = cc in
      let turns : a ≡ Turns c n t j q v = cc in
      let mine = subst (λ a. Within a z.run) turns h in
      let flag = (in_turns c n t j q v mine).0 in
      let law = z.lawful _ flag in
      let low = law.1.2 in
      let js : j ≡ p + 1 = omega (arith, ps, low) in
      subst (λ k. Gave z c n p v k) (sym law.0.1) (t, q, subst (λ j. Within (Turns c n t j q v) z.run) js mine, off)
  giver a d m c n p v h e says (RowSteers c' n' v' ea em) es = absurd (cc)
  giver a d m c n p v h e says (RowQuiet some em) es = absurd (cc)
  giver a d m c n p v h e says (RowCalls c' n' i v' ea em class) es = absurd (cc)
  giver a d m c n p v h e says (RowStrict c' n' vs ea em class mode) es = absurd (cc)
  giver a d m c n p v h e says (RowLoops c' n' i v' ea em class) es = absurd (cc)
  giver a d m c n p v h e says (RowAgain c' n' i j b v' ea em on) es = absurd (cc)

  pub gave : (c : Context) (n p : ℕ) (v : Value) → GivesIn z c n p v → Gave z c n p v (class_at z.flow c n)
  gave c n p v h =
      let speaks = says_speaks z.state.memory h.1 (Sends c n p v) h.4 in
      giver h.0 h.1 (Sends c n p v) c n p v (within_from h.0 z.run h.2) h.3 h.4 (rows z.flow h.0 h.1 (Sends c n p v) h.3 speaks) refl

  -- two activities of the run that take from one place are one
  pub one_activity : (a b : Activity) (d e : Deed) → Within a z.run → Within b z.run → deed z.flow a ≡ Some d → deed z.flow b ≡ Some e → (x y : Tagged)
      → Within x (taken a) → Within y (taken b) → SameTag x y → a ≡ b
  one_activity a b d e h k p q x y g l same =
      let ts = flat_map taken z.run ++ z.state.tokens in
      let held : (a : Activity) → Within a z.run → Each (λ x. Within x ts) (taken a) =
      λ a h. each_from (λ x. Within x ts) (taken a) (λ x k. within_left x (flat_map taken z.run) z.state.tokens (within_flat_map taken a x z.run h k)) in
      let equal = one z x y (took z a h x g) (took z b k y l) same in
      same_activity z.flow ts z.unique a b d e p q (held a h) (held b k) x g (subst (λ y. Within y (taken b)) (sym equal) l)

  first_token : (c : Context) (n : ℕ) (vs : List Value) → 0 < length vs → (v : Value) × Within (tagged c (AtNode n) (Operand 0) v) (taken (Fires c n vs))
  first_token c n [] l = absurd (omega arith)
  first_token c n (v ∷ vs) l = (v, (_, put_first _ _))

  pub one_firing : (c : Context) (n : ℕ) (vs ws : List Value) (d e : Deed) → Within (Fires c n vs) z.run → Within (Fires c n ws) z.run
      → deed z.flow (Fires c n vs) ≡ Some d → deed z.flow (Fires c n ws) ≡ Some e
      → 0 < length vs → 0 < length ws → Fires c n vs ≡ Fires c n ws
  one_firing c n vs ws d e h k p q l m =
      let x = first_token c n vs l in
      let y = first_token c n ws m in
      one_activity (Fires c n vs) (Fires c n ws) d e h k p q _ _ x.1 y.1 (refl, refl, refl)

  -- MERGES: one side of the conditional was taken
  abbrev pub place_of_side : Bool → ℕ
  place_of_side true = 0
  place_of_side false = 1

  pub merge_side : (c : Context) (b : Block ℕ) (n k i : ℕ) (line : Node ℕ) (v : Value) → block_of z.flow c ≡ Some b → node_at b n ≡ Some line
      → line.kind ≡ Merge k → Came z (tagged c (AtNode n) (Operand i) v)
      → (q : Value) × Came z (tagged c (AtNode k) (Operand 0) q) × (i ≡ place_of_side (truth q)) × IsCondAt b k
  merge_side c b n k i line v eb el kind h =
      let form = subst (λ kind. HasForm z.flow b line.region kind line.sources) kind ((block_shaped z c b eb).lines n line el).form in
      let f = merge_form z.flow b line.region k line.sources form in
      let law = (z.lawful _ h).1 in
      let blocks = same_Some law.0 b (sym law.1 ∙ eb) in
      ⊎_elim (λ l. (let same = ap (λ (b : Block ℕ). b.inputs) blocks in let past = line_past b n line el in let low = l.0 in
      absurd (omega (arith, low, same, past.0))))
      (λ l.
      let lines = same_Some l.0 line (sym l.2 ∙ ap (λ (b : Block ℕ). node_at b n) blocks ∙ el) in
      let es : slice_get (f.0 ∷ f.1 ∷ []) i ≡ Some l.1 = ap (λ ss. slice_get ss i) (sym f.2) ∙ ap (λ (l : Node ℕ). slice_get l.sources i) (sym lines) ∙ l.3 in
      go f.0 f.1 f.5 f.6 i l.1 es f.3 (subst (λ r. ArmLaw (Came z) c r)
      (ap (λ (b : Block ℕ). region_node (node_at b l.1.node)) blocks ∙ region_is_arm (node_at b l.1.node)) l.4))
      law.2
    where
      side_is : (q : Value) (side : Bool) → truth q ≡ side → place_of_side side ≡ place_of_side (truth q)
      side_is q side e = ap place_of_side (sym e)

      go : (s t : Source) → arm_of (node_at b s.node) ≡ Arm k true → arm_of (node_at b t.node) ≡ Arm k false → (i : ℕ) (x : Source)
          → slice_get (s ∷ t ∷ []) i ≡ Some x → IsCondAt b k
          → ArmLaw (Came z) c (arm_of (node_at b x.node))
          → (q : Value) × Came z (tagged c (AtNode k) (Operand 0) q) × (i ≡ place_of_side (truth q)) × IsCondAt b k
      go s t sa ta zero x e cond law =
          let same : s ≡ x = cc in
          let arm = subst (λ r. ArmLaw (Came z) c r) (ap (λ (s : Source). arm_of (node_at b s.node)) (sym same) ∙ sa) law in
          (arm.0, arm.1, side_is arm.0 true arm.2, cond)
      go s t sa ta (suc zero) x e cond law =
          let same : t ≡ x = cc in
          let arm = subst (λ r. ArmLaw (Came z) c r) (ap (λ (s : Source). arm_of (node_at b s.node)) (sym same) ∙ ta) law in
          (arm.0, arm.1, side_is arm.0 false arm.2, cond)
      go s t sa ta (suc (suc i)) x e cond law = cc

  -- LOOPS: the flags of a turn are one
  pub true_flag : (c : Context) (n t j : ℕ) (q : Value) → HadTrueFlag (Came z) (Turned c n t) → Came z (tagged (Turned c n t) (AtTurn j) Flag q)
      → truth q ≡ true
  true_flag c n t j q h k =
      let mine = (z.lawful _ k).1 in
      let its = (z.lawful _ h.2).1 in
      let blocks = ap (λ (b : Block ℕ). b.inputs) (same_Some mine.0 its.0 (sym mine.1 ∙ its.1)) in
      let there = mine.4 h.0 its.2 (omega (arith, its.3, blocks)) in
      ap truth (one_at z (Turned c n t) (AtTurn h.0) Flag q h.1 there h.2) ∙ h.3

  not_after : (c : Context) (n t t' j j' : ℕ) (q q' : Value) → Came z (tagged (Turned c n t) (AtTurn j) Flag q)
      → Came z (tagged (Turned c n t') (AtTurn j') Flag q') → truth q ≡ false → t < t' → ⊥
  not_after c n t t' j j' q q' h k off low =
      let due : IsDueIn z (Turned c n t') = z.due _ k in
      let on = true_flag c n t j q (due.3 t low) h in
      cc

  pub last_turn : (c : Context) (n t t' j j' : ℕ) (q q' : Value) → Came z (tagged (Turned c n t) (AtTurn j) Flag q)
      → Came z (tagged (Turned c n t') (AtTurn j') Flag q') → truth q ≡ false → truth q' ≡ false → t ≡ t'
  last_turn c n t t' j j' q q' h k off off' =
      let up : t < t' → ⊥ = λ l. not_after c n t t' j j' q q' h k off l in
      let down : t' < t → ⊥ = λ l. not_after c n t' t j' j q' q k h off' l in
      omega arith

  -- ONE VALUE
  same_gave : (c : Context) (n p : ℕ) (v w : Value) (k : Class) → class_at z.flow c n ≡ k → Gave z c n p v k → Gave z c n p w k → v ≡ w
  same_gave c n p v w Plain e h g =
      let same = one_firing c n h.0 g.0 h.1 g.1 h.2 g.2 h.3 g.3 h.6 g.6 in
      let deeds = same_Some h.1 g.1 (sym h.3 ∙ ap (deed z.flow) same ∙ g.3) in
      let said = says_one z.state.memory g.1 (Sends c n 0 v) (Sends c n 0 w) (subst (λ d. SaysIn z.state.memory d (Sends c n 0 v)) deeds h.4) g.4 in
      cc
  same_gave c n p v w Gate e h g = one_at z c (AtNode n) (Operand 0) v w (took_all z (Gates c n v h.0) h.2).0 (took_all z (Gates c n w g.0) g.2).0
  same_gave c n p v w Join e h g = joined (joined_line z c n e)
    where
      joined : Joined z c n → v ≡ w
      joined l =
          let x = (took_all z (Passes c n h.0 v) h.1).0 in
          let y = (took_all z (Passes c n g.0 w) g.1).0 in
          let one = merge_side c l.block n l.cond h.0 l.line v l.is_block l.is_line l.kind x in
          let two = merge_side c l.block n l.cond g.0 l.line w l.is_block l.is_line l.kind y in
          let q = one_at z c (AtNode l.cond) (Operand 0) one.0 two.0 one.1 two.1 in
          let places : h.0 ≡ g.0 = one.2 ∙ ap (λ q. place_of_side (truth q)) q ∙ sym two.2 in
          one_at z c (AtNode n) (Operand g.0) v w (subst (λ i. Came z (tagged c (AtNode n) (Operand i) v)) places x) y
  same_gave c n p v w Calling e h g = one_at z (Called c n) (AtOut p) (Operand 0) v w (took_all z (Returns c n p v) h).0 (took_all z (Returns c n p w) g).0
  same_gave c n p v w Strict e h g = one_at z (Called c n) (AtOut p) (Operand 0) v w (took_all z (Returns c n p v) h).0 (took_all z (Returns c n p w) g).0
  same_gave c n p v w Looping e h g =
      let x = in_turns c n h.0 (p + 1) h.1 v h.2 in
      let y = in_turns c n g.0 (p + 1) g.1 w g.2 in
      let same = last_turn c n h.0 g.0 (p + 1) (p + 1) h.1 g.1 x.0 y.0 h.3 g.3 in
      one_at z (Turned c n g.0) (AtTurn (p + 1)) Carried v w (subst (λ t. Came z (tagged (Turned c n t) (AtTurn (p + 1)) Carried v)) same x.1) y.1
  same_gave c n p v w Steering e h g = absurd h
  same_gave c n p v w Absent e h g = absurd h

  pub one_value : (c : Context) (n p : ℕ) (v w : Value) → GivesIn z c n p v → GivesIn z c n p w → v ≡ w
  one_value c n p v w h g = same_gave c n p v w (class_at z.flow c n) refl (gave c n p v h) (gave c n p w g)
