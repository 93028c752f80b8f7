-- What only controls stands for no token, or for the same tokens as what it sends on.
use Rattle.std.proofs.Common.{◌≡◌, ℕ, zero, suc, ◌+◌, Bool, true, false, not, List, [], ◌∷◌, ◌++◌, flat_map, Some, refl, sym, ap, ◌∙◌, true≢false, append-nil}
use Rattle.std.proofs.lemmas.List.Concat.{flat_map-append}
use Rattle.std.proofs.lemmas.Bool.{not-true}
use Rattle.lemmas.proofs.Bools.{first_of_and}
use Rattle.tags.specs.declared.value.Value.{Value}
use Rattle.tags.specs.declared.token.Port.TheVariants.{Left, Right}
use Rattle.operators.specs.Values.{truth}
use Rattle.semantics.specs.declared.graph.Region.{Region}
use Rattle.semantics.specs.declared.graph.Kind.{Kind}
use Rattle.semantics.specs.Graph.{Node, Flow}
use Rattle.semantics.specs.Plan.{Plan}
use Rattle.semantics.specs.Meaning.{Context, Main, Called, Turned, tagged, AtOut, Operand, block_of, node_of, node_in}
use Rattle.semantics.specs.Cause.{is_turn}
use Rattle.law_net.specs.ContextsParts.{Part, Entry, Line, Trigger, Opener, Fanned, Linker, CallDone, Taker, Drainer, LoopDone, Strict, Result, TurnCont}
use Rattle.law_net.specs.ContextsParts.{TurnFlag, Asker, NextFramer, NextFanned, NextSender, LastReturn, DrainReturn, Join, CondEnd, End, Asked, NextAsked}
use Rattle.law_net.specs.ContextsParts.{Drained, Done, Freed, Inlet, inlet, Note, Datum, FrameOf, BackTo, ToHost, signal, Item, item, each, Firing}
use Rattle.law_net.specs.ContextsBlocks.{side, there_in, is_kind, is_call, is_loop, call_kind, loop_kind}
use Rattle.law_net.specs.Contexts.{Wires, block_in, site_in, wiring_in, or_none, IsContext, next}
use Rattle.law_net.specs.ContextsMeant.{meant, meant_at, settled_sent, landed, landed_kind}
use Rattle.law_net.specs.ContextsWires.{IsWiredCode, IsSilent}
use Rattle.law_net.specs.ContextsFirings.{takes, makes, memory_of, switched, sent_word, given_back, result_back, drain_back, end_back, credit_asked}
use Rattle.law_net.specs.ContextsOperands.{HaveOperands}
use Rattle.law_net.proofs.ContextsBlocks.{has_block}
use Rattle.law_net_refines_meaning.proofs.FiringsActs.{Acts, same}
use Rattle.law_net_refines_meaning.proofs.FiringsWords.{none_meant, IsExit}
use Rattle.law_net_refines_meaning.proofs.FiringsNodes.{kind_is, silent_part}

pub block_is : (fl : Flow) (c : Context) → IsContext fl c → block_of fl c ≡ Some (block_in fl c)
block_is fl c h = let k = has_block fl c h in k.1 ∙ ap (λ b. Some b) (sym (ap or_none k.1))

-- a node of a kind, in a context
pub node_is : (fl : Flow) (c : Context) → IsContext fl c → (test : Kind ℕ → Bool) (n : ℕ) → is_kind test (block_in fl c) n ≡ true
    → (line : Node ℕ) × (node_of fl c n ≡ Some line) × (test line.kind ≡ true)
node_is fl c h test n e = let k = kind_is (block_in fl c) test n e in (k.0, ap (λ o. node_in o n) (block_is fl c h) ∙ k.1, k.2)

-- what lands of a call, and of a loop
call_landed : (fl : Flow) (c : Context) (n j : ℕ) (v : Value) (k : Kind ℕ) → call_kind k ≡ true
    → landed_kind fl c n j v k ≡ tagged (Called c n) (AtOut j) (Operand 0) v ∷ []
call_landed fl c n j v (Kind.Call f) e = refl
call_landed fl c n j v (Kind.StrictCall f) e = refl
call_landed fl c n j v k e = absurd (true≢false (sym e))

loop_landed : (fl : Flow) (c : Context) (n j : ℕ) (v : Value) (k : Kind ℕ) → loop_kind k ≡ true → landed_kind fl c n j v k ≡ settled_sent fl c n j v
loop_landed fl c n j v (Kind.Loop f h) e = refl
loop_landed fl c n j v k e = absurd (true≢false (sym e))

pub landed_call : (fl : Flow) (c : Context) (n j : ℕ) (v : Value) → IsContext fl c → is_call (block_in fl c) n ≡ true
    → landed fl c n j v (node_of fl c n) ≡ tagged (Called c n) (AtOut j) (Operand 0) v ∷ []
landed_call fl c n j v h e = let k = node_is fl c h call_kind n e in ap (landed fl c n j v) k.1 ∙ call_landed fl c n j v k.0.kind k.2

pub landed_loop : (fl : Flow) (c : Context) (n j : ℕ) (v : Value) → IsContext fl c → is_loop (block_in fl c) n ≡ true
    → landed fl c n j v (node_of fl c n) ≡ settled_sent fl c n j v
landed_loop fl c n j v h e = let k = node_is fl c h loop_kind n e in ap (landed fl c n j v) k.1 ∙ loop_landed fl c n j v k.0.kind k.2

-- a result goes to where its context was made
result_meant : (fl : Flow) (c : Context) (j : ℕ) (k : Note) → IsContext fl c → is_turn c ≡ false
    → meant fl (item c (inlet (Result j) Right 0) k) ++ [] ≡ flat_map (meant fl) (result_back c j k)
result_meant fl Main j (Datum v) h e = refl
result_meant fl (Called d n) j (Datum v) h e = (λ i. sym (landed_call fl d n j v h.0 h.1) i ++ [])
result_meant fl (Turned d n i) j k h e = absurd (true≢false e)
result_meant fl Main j (FrameOf d) h e = refl
result_meant fl Main j (BackTo d x) h e = refl
result_meant fl Main j ToHost h e = refl
result_meant fl (Called d n) j (FrameOf x) h e = refl
result_meant fl (Called d n) j (BackTo x y) h e = refl
result_meant fl (Called d n) j ToHost h e = refl

-- what leaves a loop
last_back : (fl : Flow) (c : Context) (j : ℕ) (k : Note) → IsContext fl c → is_turn c ≡ true
    → meant fl (item c (inlet (LastReturn j) Right 0) k) ++ [] ≡ flat_map (meant fl) (result_back c j k)
last_back fl (Turned d n i) j (Datum v) h e = (λ x. sym (landed_loop fl d n j v h.0 h.1) x ++ [])
last_back fl (Turned d n i) j (FrameOf x) h e = refl
last_back fl (Turned d n i) j (BackTo x y) h e = refl
last_back fl (Turned d n i) j ToHost h e = refl
last_back fl Main j k h e = absurd (true≢false (sym e))
last_back fl (Called d n) j k h e = absurd (true≢false (sym e))

-- what goes to the next turn
next_back : (fl : Flow) (c : Context) (j : ℕ) (k : Note) → is_turn c ≡ true
    → meant fl (item c (inlet (NextSender (suc j)) Right 0) k) ++ [] ≡ meant fl (item (next c) (inlet (Line j) Left 0) k) ++ []
next_back fl (Turned d n i) j (Datum v) e = refl
next_back fl (Turned d n i) j (FrameOf x) e = refl
next_back fl (Turned d n i) j (BackTo x y) e = refl
next_back fl (Turned d n i) j ToHost e = refl
next_back fl Main j k e = absurd (true≢false (sym e))
next_back fl (Called d n) j k e = absurd (true≢false (sym e))

module _ (fl : Flow) (p : Plan) (w : Wires) (operands : HaveOperands fl) (f : Firing) (fired : List Firing) (ctx : IsContext fl f.context)
    (Here : Context → Type 0) (here : Here f.context)
    (code : IsWiredCode fl p w.variant Here (site_in fl w f.context) (wiring_in fl w f.context)) where
  abbrev c : Context
  c = f.context

  -- the firing of a part
  abbrev pub at : Part → Firing
  at r = record f { part = r }

  abbrev pub IsMeant : Part → Type 0
  IsMeant r = Acts fl f.context r (flat_map (meant fl) (takes fl (at r))) (memory_of fl fired) (flat_map (meant fl) (makes fl w (at r))) (memory_of fl (at r ∷ fired))

  abbrev pub There : Part → Type 0
  There r = there_in fl (site_in fl w f.context) (wiring_in fl w f.context) r ≡ true

  abbrev pub along_none : (r : Part) (second : Bool) (k : Note) → There r → IsSilent r → (IsExit r → ⊥)
      → flat_map (meant fl) (each c k ((wiring_in fl w c).wire (side r second))) ≡ []
  along_none r second k there quiet never = silent_part fl p w operands c (block_is fl c ctx) Here here code r second k there quiet never

  none_one : (x : Inlet) (k : Note) → ((v : Value) → meant_at fl c x.part x.port x.way v ≡ []) → flat_map (meant fl) (item c x k ∷ []) ≡ []
  none_one x k h = (λ i. none_meant fl c x k h i ++ [])

  none_two : (x y : Inlet) (k u : Note) → ((v : Value) → meant_at fl c x.part x.port x.way v ≡ []) → ((v : Value) → meant_at fl c y.part y.port y.way v ≡ [])
      → flat_map (meant fl) (item c x k ∷ item c y u ∷ []) ≡ []
  none_two x y k u h g = (λ i. none_meant fl c x k h i ++ none_one y u g i)

  -- parts that take one item
  pub entry : There Entry → IsMeant Entry
  entry there = same fl c Entry _ _ _ (none_one (inlet Entry Left 0) f.left (λ v. refl) ∙ sym (along_none Entry false f.left there tt (λ e. e)))

  pub opener : (n : ℕ) → There (Opener n) → IsMeant (Opener n)
  opener n there = same fl c (Opener n) _ _ _ (none_one (inlet (Opener n) Left 0) f.left (λ v. refl) ∙ sym (along_none (Opener n) false signal there tt (λ e. e)))

  pub fanned : (n : ℕ) → There (Fanned n) → IsMeant (Fanned n)
  fanned n there = same fl c (Fanned n) _ _ _ (none_one (inlet (Fanned n) Left 0) f.left (λ v. refl) ∙ sym (along_none (Fanned n) false f.left there tt (λ e. e)))

  pub call_done : (n : ℕ) → There (CallDone n) → IsMeant (CallDone n)
  call_done n there = same fl c (CallDone n) _ _ _ (none_one (inlet (CallDone n) Left 0) f.left (λ v. refl) ∙ sym (along_none (CallDone n) false f.left there tt (λ e. e)))

  pub loop_done : (n : ℕ) → There (LoopDone n) → IsMeant (LoopDone n)
  loop_done n there = same fl c (LoopDone n) _ _ _ (none_one (inlet (LoopDone n) Left 0) f.left (λ v. refl) ∙ sym (along_none (LoopDone n) false f.left there tt (λ e. e)))

  pub next_fanned : There NextFanned → IsMeant NextFanned
  next_fanned there = same fl c NextFanned _ _ _ (none_one (inlet NextFanned Left 0) f.left (λ v. refl) ∙ sym (along_none NextFanned false f.left there tt (λ e. e)))

  pub cond_end : (k : ℕ) → There (CondEnd k) → IsMeant (CondEnd k)
  cond_end k there = same fl c (CondEnd k) _ _ _ (none_one (inlet (CondEnd k) Left f.way) f.left (λ v. refl) ∙ sym (along_none (CondEnd k) false f.left there tt (λ e. e)))

  pub linker : (n : ℕ) → IsMeant (Linker n)
  linker n = same fl c (Linker n) _ _ _ (none_one (inlet (Linker n) Left 0) f.left (λ v. refl))

  pub taker : (n : ℕ) → IsMeant (Taker n)
  taker n = same fl c (Taker n) _ _ _ (none_one (inlet (Taker n) Left f.way) f.left (λ v. refl))

  pub next_framer : IsMeant NextFramer
  next_framer = same fl c NextFramer _ _ _ (none_one (inlet NextFramer Left 0) f.left (λ v. refl))

  pub asked : (n : ℕ) → IsMeant (Asked n)
  asked n = same fl c (Asked n) _ _ _ (none_one (inlet (Asked n) Left 0) f.left (λ v. refl))

  pub next_asked : IsMeant NextAsked
  next_asked = same fl c NextAsked _ _ _ (none_one (inlet NextAsked Left 0) f.left (λ v. refl))

  pub is_done : IsMeant Done
  is_done = same fl c Done _ _ _ (none_one (inlet Done Left 0) f.left (λ v. refl))

  pub freed : IsMeant Freed
  freed = same fl c Freed _ _ _ (none_one (inlet Freed Left 0) f.left (λ v. refl))

  -- all credits of a loop
  given_none : (n t : ℕ) → flat_map (meant fl) (given_back c n t) ≡ []
  given_none n zero = refl
  given_none n (suc t) = given_none n t

  pub drained : (n : ℕ) → IsMeant (Drained n)
  drained n = same fl c (Drained n) _ _ _
      (ap (flat_map (meant fl)) (append-nil (item c (inlet (Drainer n) Left f.turns) f.left ∷ given_back c n (f.turns + 1)))
      ∙ (λ i. none_meant fl c (inlet (Drainer n) Left f.turns) f.left (λ v. refl) i ++ given_none n (f.turns + 1) i))

  -- parts that take two
  pub join : (r : Region) (i : ℕ) → There (Join r i) → IsMeant (Join r i)
  join r i there =
      same fl c (Join r i) _ _ _ (none_two (inlet (Join r i) Left 0) (inlet (Join r i) Right 0) f.left f.right (λ v. refl) (λ v. refl)
      ∙ sym (along_none (Join r i) false signal there tt (λ e. e)))

  pub strict : (n i : ℕ) → There (Strict n i) → IsMeant (Strict n i)
  strict n i there =
      same fl c (Strict n i) _ _ _ (none_two (inlet (Strict n i) Left 0) (inlet (Strict n i) Right 0) f.left f.right (λ v. refl) (λ v. refl)
      ∙ sym (along_none (Strict n i) false signal there tt (λ e. e)))

  switch_none : (r : Part) (k : Note) → There r → IsSilent r → (IsExit r → ⊥) → flat_map (meant fl) (switched fl w (at r) r k) ≡ []
  switch_none r (Datum v) there quiet never = along_none r (not (truth v)) (sent_word fl (at r) r) there quiet never
  switch_none r (FrameOf d) there quiet never = refl
  switch_none r (BackTo d x) there quiet never = refl
  switch_none r ToHost there quiet never = refl

  pub trigger : (k : ℕ) → There (Trigger k) → IsMeant (Trigger k)
  trigger k there =
      same fl c (Trigger k) _ _ _ (none_two (inlet (Trigger k) Left 0) (inlet (Trigger k) Right 0) f.left f.right (λ v. refl) (λ v. refl)
      ∙ sym (switch_none (Trigger k) f.right there tt (λ e. e)))

  pub turn_cont : There TurnCont → IsMeant TurnCont
  turn_cont there =
      same fl c TurnCont _ _ _ (none_two (inlet TurnCont Left 0) (inlet TurnCont Right 0) f.left f.right (λ v. refl) (λ v. refl)
      ∙ sym (switch_none TurnCont f.right there tt (λ e. e)))

  pub turn_flag : There TurnFlag → IsMeant TurnFlag
  turn_flag there =
      same fl c TurnFlag _ _ _ (none_two (inlet TurnFlag Left 0) (inlet TurnFlag Right 0) f.left f.right (λ v. refl) (λ v. refl)
      ∙ sym (switch_none TurnFlag f.right there tt (λ e. e)))

  credit_none : (d : Context) → flat_map (meant fl) (credit_asked d) ≡ []
  credit_none Main = refl
  credit_none (Called d n) = refl
  credit_none (Turned d n i) = refl

  pub asker : IsMeant Asker
  asker = same fl c Asker _ _ _ (none_two (inlet Asker Left 0) (inlet Asker Right 0) f.left f.right (λ v. refl) (λ v. refl) ∙ sym (credit_none c))

  end_none : (d : Context) → flat_map (meant fl) (end_back d) ≡ []
  end_none Main = refl
  end_none (Called d n) = refl
  end_none (Turned d n i) = refl

  pub ended : IsMeant End
  ended = same fl c End _ _ _ (none_two (inlet End Left 0) (inlet End Right 0) f.left f.right (λ v. refl) (λ v. refl) ∙ sym (end_none c))

  drain_none : (d : Context) (k : Note) → flat_map (meant fl) (drain_back d k) ≡ []
  drain_none Main k = refl
  drain_none (Called d n) k = refl
  drain_none (Turned d n i) k = (λ x. none_meant fl d (inlet (Drainer n) Left i) k (λ v. refl) x ++ [])

  pub drain_return : There DrainReturn → IsMeant DrainReturn
  drain_return there = same fl c DrainReturn _ _ _ (none_two (inlet DrainReturn Left 0) (inlet DrainReturn Right 0) f.left f.right (λ v. refl) (λ v. refl)
      ∙ sym (flat_map-append (meant fl) (drain_back c f.right) (each c signal ((wiring_in fl w c).wire (side DrainReturn false)))
      ∙ (λ i. drain_none c f.right i ++ along_none DrainReturn false signal there tt (λ e. e) i)))

  -- what is sent on stands for the same
  sent_on : (x y : Inlet) (more : List Item) (r : Part) → ((v : Value) → meant_at fl c x.part x.port x.way v ≡ []) → There r → IsSilent r → (IsExit r → ⊥)
      → meant fl (item c y f.right) ++ [] ≡ flat_map (meant fl) more
      → flat_map (meant fl) (item c x f.left ∷ item c y f.right ∷ []) ≡ flat_map (meant fl) (more ++ each c signal ((wiring_in fl w c).wire (side r false)))
  sent_on x y more r h there quiet never e =
      (λ i. none_meant fl c x f.left h i ++ (meant fl (item c y f.right) ++ [])) ∙ e
      ∙ sym (flat_map-append (meant fl) more (each c signal ((wiring_in fl w c).wire (side r false)))
      ∙ (λ i. flat_map (meant fl) more ++ along_none r false signal there quiet never i) ∙ append-nil _)

  pub result : (j : ℕ) → There (Result j) → IsMeant (Result j)
  result j there =
      same fl c (Result j) _ _ _ (sent_on (inlet (Result j) Left 0) (inlet (Result j) Right 0) (result_back c j f.right) (Result j) (λ v. refl) there tt (λ e. e)
      (result_meant fl c j f.right ctx (not-true (is_turn c) (first_of_and _ _ there))))

  pub last_return : (j : ℕ) → There (LastReturn j) → IsMeant (LastReturn j)
  last_return j there =
      same fl c (LastReturn j) _ _ _ (sent_on (inlet (LastReturn j) Left 0) (inlet (LastReturn j) Right 0) (result_back c j f.right) (LastReturn j) (λ v. refl) there tt (λ e. e)
      (last_back fl c j f.right ctx (first_of_and _ _ there)))

  pub next_sender : (j : ℕ) → There (NextSender j) → IsMeant (NextSender j)
  next_sender zero there =
      same fl c (NextSender 0) _ _ _ (none_two (inlet (NextSender 0) Left 0) (inlet (NextSender 0) Right 0) f.left f.right (λ v. refl) (λ v. refl)
      ∙ sym (λ i. none_meant fl (next c) (inlet Entry Left 0) f.right (λ v. refl) i ++ along_none (NextSender 0) false signal there tt (λ e. e) i))
  next_sender (suc j) there =
      same fl c (NextSender (suc j)) _ _ _ (sent_on (inlet (NextSender (suc j)) Left 0) (inlet (NextSender (suc j)) Right 0) (item (next c) (inlet (Line j) Left 0) f.right ∷ [])
      (NextSender (suc j)) (λ v. refl) there tt (λ e. e) (next_back fl c j f.right (first_of_and _ _ there)))
