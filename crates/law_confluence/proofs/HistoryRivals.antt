-- Two activities that send to one place take from one place.
use Rattle.std.proofs.Common.{◌≡◌, ℕ, ◌+◌, ◌<◌, ◌≤◌, List, length, Option, Some, None, refl, sym, ap, ap₂, ◌∙◌, subst, arith}
use Rattle.std.specs.Prelude.{slice_get}
use Rattle.std.proofs.lemmas.Option.{same_Some}
use Rattle.tags.specs.declared.value.Value.{Value}
use Rattle.semantics.specs.declared.graph.Source.{Source}
use Rattle.semantics.specs.Graph.{Node, Block, Flow, node_at}
use Rattle.semantics.specs.Meaning.{Context, Statement, AtNode, Port, Predicate, Tagged, block_of, Message, Sends, Steers, Enters, Nothing}
use Rattle.law_confluence.proofs.ActivityUses.{IsSource, UseOf, AsOperand, AsResult, AsFlag, AsCarried, Member}
use Rattle.law_confluence.proofs.HistoryLaws.{Tokens, Grounded}
use Rattle.law_confluence.specs.Outcome.{SameTag}

-- MESSAGES WITH TOKENS AT ONE PLACE

pub data Rival (m m' : Message) : Type 0 where
  BothSend : (c : Context) (n p : ℕ) (v v' : Value) → m ≡ Sends c n p v → m' ≡ Sends c n p v' → Rival m m'
  BothTell : (c : Context) (k : ℕ) (v v' : Value) → m ≡ Steers c k v → m' ≡ Steers c k v' → Rival m m'
  BothEnter : (c : Context) (from from' : ℕ) (vs vs' : List Value) (i i' : ℕ) → m ≡ Enters c from vs → m' ≡ Enters c from' vs' → i < length vs → i' < length vs'
      → from + i ≡ from' + i' → Rival m m'

source_same : (n p n' p' : ℕ) (o o' : Option Source) → o ≡ o' → IsSource n p o → IsSource n' p' o' → (n ≡ n') × (p ≡ p')
source_same n p n' p' None o' e h k = absurd h
source_same n p n' p' (Some s) None e h k = absurd k
source_same n p n' p' (Some s) (Some s') e h k =
    let same : s ≡ s' = cc in
    (sym h.0 ∙ ap (λ (s : Source). s.node) same ∙ k.0, sym h.1 ∙ ap (λ (s : Source). s.port) same ∙ k.1)

use_same : (b : Block ℕ) (c c' : Context) (n p n' p' : ℕ) (s s' : Statement) (q q' : Port) → UseOf b c n p s q → UseOf b c' n' p' s' q' → s ≡ s' → q ≡ q'
    → (n ≡ n') × (p ≡ p')
use_same b c c' n p n' p' s s' q q' (AsOperand m i node es eq low line src) (AsOperand m' i' node' es' eq' low' line' src') h k =
    let ms : m ≡ m' = cc in
    let is : i ≡ i' = cc in
    let lines = sym line ∙ ap (λ m. node_at b m) ms ∙ line' in
    let nodes : node ≡ node' = cc in
    source_same n p n' p' _ _ (ap₂ (λ (node : Node ℕ) i. slice_get node.sources i) nodes is) src src'
use_same b c c' n p n' p' s s' q q' (AsResult j es eq src) (AsResult j' es' eq' src') h k =
    let js : j ≡ j' = cc in source_same n p n' p' _ _ (ap (λ j. slice_get b.results j) js) src src'
use_same b c c' n p n' p' s s' q q' (AsFlag j es eq low high src t) (AsFlag j' es' eq' low' high' src' t') h k = source_same n p n' p' _ _ refl src src'
use_same b c c' n p n' p' s s' q q' (AsCarried j es eq low src) (AsCarried j' es' eq' low' src') h k =
    let js : j ≡ j' = cc in source_same n p n' p' _ _ (ap (λ j. slice_get b.results j) js) src src'
use_same b c c' n p n' p' s s' q q' (AsOperand m i node es eq low line src) (AsResult j es' eq' src') h k = absurd (cc)
use_same b c c' n p n' p' s s' q q' (AsOperand m i node es eq low line src) (AsFlag j es' eq' low' high' src' t') h k = absurd (cc)
use_same b c c' n p n' p' s s' q q' (AsOperand m i node es eq low line src) (AsCarried j es' eq' low' src') h k = absurd (cc)
use_same b c c' n p n' p' s s' q q' (AsResult j es eq src) (AsOperand m i node es' eq' low' line' src') h k = absurd (cc)
use_same b c c' n p n' p' s s' q q' (AsResult j es eq src) (AsFlag j' es' eq' low' high' src' t') h k = absurd (cc)
use_same b c c' n p n' p' s s' q q' (AsResult j es eq src) (AsCarried j' es' eq' low' src') h k = absurd (cc)
use_same b c c' n p n' p' s s' q q' (AsFlag j es eq low high src t) (AsOperand m i node es' eq' low' line' src') h k = absurd (cc)
use_same b c c' n p n' p' s s' q q' (AsFlag j es eq low high src t) (AsResult j' es' eq' src') h k = absurd (cc)
use_same b c c' n p n' p' s s' q q' (AsFlag j es eq low high src t) (AsCarried j' es' eq' low' src') h k = absurd (cc)
use_same b c c' n p n' p' s s' q q' (AsCarried j es eq low src) (AsOperand m i node es' eq' low' line' src') h k = absurd (cc)
use_same b c c' n p n' p' s s' q q' (AsCarried j es eq low src) (AsResult j' es' eq' src') h k = absurd (cc)
use_same b c c' n p n' p' s s' q q' (AsCarried j es eq low src) (AsFlag j' es' eq' low' high' src' t') h k = absurd (cc)

-- a use is at no input, and at no predicate
use_past : (b : Block ℕ) (c : Context) (n p m : ℕ) (s : Statement) (q : Port) → UseOf b c n p s q → s ≡ AtNode m → b.inputs ≤ m
use_past b c n p m s q (AsOperand k i node es eq low line src) e = let same : k ≡ m = cc in omega arith
use_past b c n p m s q (AsResult j es eq src) e = absurd (cc)
use_past b c n p m s q (AsFlag j es eq low high src t) e = absurd (cc)
use_past b c n p m s q (AsCarried j es eq low src) e = absurd (cc)

use_no_predicate : (b : Block ℕ) (c : Context) (n p : ℕ) (s : Statement) (q : Port) → UseOf b c n p s q → q ≡ Predicate → ⊥
use_no_predicate b c n p s q (AsOperand k i node es eq low line src) e = cc
use_no_predicate b c n p s q (AsResult j es eq src) e = cc
use_no_predicate b c n p s q (AsFlag j es eq low high src t) e = cc
use_no_predicate b c n p s q (AsCarried j es eq low src) e = cc

module _ (fl : Flow) where
  blocks_same : (c c' : Context) (b b' : Block ℕ) → block_of fl c ≡ Some b → block_of fl c' ≡ Some b' → c ≡ c' → b ≡ b'
  blocks_same c c' b b' e f g = same_Some b b' (sym e ∙ ap (block_of fl) g ∙ f)

  sends_enters : (E : Tokens) (c c' : Context) (n p from : ℕ) (v : Value) (vs : List Value) (t u : Tagged) → Member fl (Sends c n p v) t
      → Member fl (Enters c' from vs) u → SameTag t u → Grounded fl E (Enters c' from vs) → ⊥
  sends_enters E c c' n p from v vs t u h k same g =
      let x = h.2 in
      let y = k.2 in
      let room = g.1 in
      let contexts : c ≡ c' = sym h.0 ∙ same.0 ∙ k.0 in
      let past = use_past x.0 c n p (from + y.0) t.statement t.port x.2 (same.1 ∙ y.2) in
      let blocks = ap (λ (b : Block ℕ). b.inputs) (blocks_same c c' x.0 room.0 x.1 room.1 contexts) in
      omega (arith, past, blocks, room.2, y.1)

  pub member_rivals : (E : Tokens) (m m' : Message) (t u : Tagged) → Member fl m t → Member fl m' u → SameTag t u → Grounded fl E m → Grounded fl E m'
      → Rival m m'
  member_rivals E (Sends c n p v) (Sends c' n' p' v') t u h k same g g' =
      let contexts : c ≡ c' = sym h.0 ∙ same.0 ∙ k.0 in
      let x = h.2 in
      let y = k.2 in
      let blocks = blocks_same c c' x.0 y.0 x.1 y.1 contexts in
      let nodes = use_same x.0 c c' n p n' p' t.statement u.statement t.port u.port x.2
      (subst (λ b. UseOf b c' n' p' u.statement u.port) (sym blocks) y.2) same.1 same.2 in
      BothSend c n p v v' refl (let a = nodes.0 in let b = nodes.1 in cc)
  member_rivals E (Sends c n p v) (Steers c' k v') t u h l same g g' = absurd (use_no_predicate h.2.0 c n p t.statement t.port h.2.2 (same.2 ∙ l.2))
  member_rivals E (Sends c n p v) (Enters c' from vs) t u h k same g g' = absurd (sends_enters E c c' n p from v vs t u h k same g')
  member_rivals E (Steers c k v) (Sends c' n p v') t u h l same g g' = absurd (use_no_predicate l.2.0 c' n p u.statement u.port l.2.2 (sym same.2 ∙ h.2))
  member_rivals E (Steers c k v) (Steers c' k' v') t u h l same g g' =
      let contexts : c ≡ c' = sym h.0 ∙ same.0 ∙ l.0 in
      let x = h.3 in
      let y = l.3 in
      let blocks = blocks_same c c' x.0 y.0 x.4 y.4 contexts in
      let statements = sym x.5 ∙ same.1 ∙ y.5 in
      let ms : x.1 ≡ y.1 = cc in
      let nodes = same_Some x.2 y.2 (sym x.6 ∙ ap₂ (λ (b : Block ℕ) m. node_at b m) blocks ms ∙ y.6) in
      let regions = sym x.7 ∙ ap (λ (n : Node ℕ). n.region) nodes ∙ y.7 in
      BothTell c k v v' refl (cc)
  member_rivals E (Steers c k v) (Enters c' from vs) t u h l same g g' = let ports = sym h.2 ∙ same.2 ∙ l.1 in absurd (cc)
  member_rivals E (Enters c from vs) (Sends c' n p v) t u h k same g g' =
      absurd (sends_enters E c' c n p from v vs u t k h (sym same.0, sym same.1, sym same.2) g)
  member_rivals E (Enters c from vs) (Steers c' k v) t u h l same g g' = let ports = sym h.1 ∙ same.2 ∙ l.2 in absurd (cc)
  member_rivals E (Enters c from vs) (Enters c' from' vs') t u h k same g g' =
      let contexts : c ≡ c' = sym h.0 ∙ same.0 ∙ k.0 in
      let x = h.2 in
      let y = k.2 in
      let statements = sym x.2 ∙ same.1 ∙ y.2 in
      BothEnter c from from' vs vs' x.0 y.0 refl (cc) x.1 y.1 (cc)
  member_rivals E Nothing m' t u h k same g g' = absurd h
  member_rivals E m Nothing t u h k same g g' = absurd k
