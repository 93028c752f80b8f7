-- Results, calls, loops and strict calls: what goes into an invocation, between turns, and back.
use Rattle.std.proofs.Common.{◌≡◌, ℕ, suc, ◌+◌, ◌-◌, Bool, true, false, not, ◌||◌, ◌⊎◌, inl, inr, List, [], ◌∷◌, ◌++◌, length, flat_map, Some, None}
use Rattle.std.proofs.Common.{if◌then◌else◌, refl, sym, ap, ◌∙◌, subst, arith, true≢false, append-nil}
use Rattle.std.proofs.lemmas.List.Sorted.{IsPermutation-refl}
use Rattle.std.proofs.lemmas.Bool.{or_left}
use Rattle.lemmas.proofs.Permutations.{permutation_same}
use Rattle.lemmas.proofs.Bools.{first_of_and}
use Rattle.tags.specs.declared.value.Value.{Value}
use Rattle.tags.specs.declared.token.Port.TheVariants.{Left, Right}
use Rattle.operators.specs.Values.{truth}
use Rattle.semantics.specs.declared.graph.Region.{Region}
use Rattle.semantics.specs.declared.graph.Kind.{Kind}
use Rattle.semantics.specs.Graph.{Node, Block, Flow, node_at}
use Rattle.semantics.specs.Plan.{Plan}
use Rattle.semantics.specs.Meaning.{Context, Main, Called, Turned, Tagged, tagged, Memory, AtNode, AtOut, AtTurn, Operand, Flag, Carried, Fires, Passes}
use Rattle.semantics.specs.Meaning.{Returns, Turns, Outputs, Says, Sends, Enters, deed, fired, passed, taken, entering, operands_from, with_output, block_of}
use Rattle.semantics.specs.Meaning.{node_of}
use Rattle.semantics.specs.Cause.{is_turn}
use Rattle.law_confluence.proofs.Orders.{shuffled, Part, ◌⊕◌}
use Rattle.law_net.specs.ContextsParts as Parts
use Rattle.law_net.specs.ContextsParts.{Framer, Sender, Landing, TurnValue, NextSender, LastReturn, Shown, inlet, Note, Datum}
use Rattle.law_net.specs.ContextsParts.{signal, Item, item, each, Firing}
use Rattle.law_net.specs.ContextsBlocks.{side, Wiring, there_in, is_call, is_loop, is_strict, invokes, call_kind, loop_kind, strict_kind, source_count}
use Rattle.law_net.specs.ContextsBlocks.{exit_kind}
use Rattle.law_net.specs.Contexts.{Wires, block_in, site_in, wiring_in, IsContext, child}
use Rattle.law_net.specs.ContextsMeant.{meant, meant_at, settled_sent, landed, operand}
use Rattle.law_net.specs.ContextsWires.{IsWiredCode, has_port}
use Rattle.law_net.specs.ContextsFirings.{takes, makes, memory_of, arguments_from}
use Rattle.law_net.specs.ContextsLaws.{is_main}
use Rattle.law_net.specs.ContextsOperands.{HaveOperands}
use Rattle.law_net.proofs.ContextsBlocks.{is_main_true}
use Rattle.law_net_refines_meaning.proofs.FiringsActs.{Acts, same, stays, follow, acts, says_acts, fires_deed, passes_deed, line_past}
use Rattle.law_net_refines_meaning.proofs.FiringsSettles.{sends_settled}
use Rattle.law_net_refines_meaning.proofs.FiringsWords.{none_meant}
use Rattle.law_net_refines_meaning.proofs.FiringsNodes.{kind_is, kind_of, exit_of, goes, leaves, Sent}
use Rattle.law_net_refines_meaning.proofs.FiringsControl.{block_is, landed_call, landed_loop, along_none}

module _ (fl : Flow) (p : Plan) (w : Wires) (operands : HaveOperands fl) (f : Firing) (fired' : List Firing) (ctx : IsContext fl f.context)
    (Here : Context → Type 0) (here : Here f.context)
    (code : IsWiredCode fl p w.variant Here (site_in fl w f.context) (wiring_in fl w f.context)) where
  abbrev c : Context
  c = f.context

  abbrev b : Block ℕ
  b = block_in fl f.context

  abbrev wg : Wiring
  wg = wiring_in fl w f.context

  abbrev eb : block_of fl f.context ≡ Some (block_in fl f.context)
  eb = block_is fl f.context ctx

  -- the firing of a part, with its words
  abbrev pub by : Parts.Part → Note → Note → Firing
  by r l k = record f { part = r; left = l; right = k }

  abbrev pub IsMeantBy : Parts.Part → Note → Note → Type 0
  IsMeantBy r l k =
      Acts fl f.context r (flat_map (meant fl) (takes fl (by r l k))) (memory_of fl fired') (flat_map (meant fl) (makes fl w (by r l k))) (memory_of fl (by r l k ∷ fired'))

  abbrev mem : Memory
  mem = memory_of fl fired'

  -- RESULTS OF MAIN
  pub shown : (j : ℕ) (v : Value) (k : Note) → is_main c ≡ true → IsMeantBy (Shown j) (Datum v) k
  shown j v k main =
      let e : tagged c (AtOut j) (Operand 0) v ∷ [] ≡ taken (Outputs j v) = ap (λ (d : Context). tagged d (AtOut j) (Operand 0) v ∷ []) (is_main_true c main) in
      acts fl c (Shown j) (Outputs j v) tt (tagged c (AtOut j) (Operand 0) v ∷ []) [] [] mem (with_output mem j v) (permutation_same _ _ e) refl (IsPermutation-refl [])

  -- WHAT LANDS
  exit_call : (n q : ℕ) (r : Region) (k : Kind ℕ) → call_kind k ≡ true → exit_kind wg n q r k ≡ side (Landing n q) false
  exit_call n q r (Kind.Call g) e = refl
  exit_call n q r (Kind.StrictCall g) e = refl
  exit_call n q r k e = absurd (true≢false (sym e))

  exit_loop : (n q : ℕ) (r : Region) (k : Kind ℕ) → loop_kind k ≡ true → exit_kind wg n q r k ≡ side (Landing n q) false
  exit_loop n q r (Kind.Loop g h) e = refl
  exit_loop n q r k e = absurd (true≢false (sym e))

  either : (t u : Bool) → (t || u) ≡ true → (t ≡ true) ⊎ (u ≡ true)
  either true u e = inl refl
  either false u e = inr e

  pub landing : (n j : ℕ) (v : Value) (k : Note) → there_in fl (site_in fl w c) wg (Landing n j) ≡ true → IsMeantBy (Landing n j) (Datum v) k
  landing n j v k there = pick (either (is_call b n) (is_loop b n) (first_of_and _ _ there))
    where
      port : has_port fl b n j ≡ true
      port = or_left _ _ there

      pick : (is_call b n ≡ true) ⊎ (is_loop b n ≡ true) → IsMeantBy (Landing n j) (Datum v) k
      pick (inl e) =
          let (line, en, kind) = kind_is b call_kind n e in
          let old : tagged (Called c n) (AtOut j) (Operand 0) v ∷ [] ≡ landed fl c n j v (node_of fl c n) ++ [] =
          (λ i. sym (landed_call fl c n j v ctx e) i ++ []) in
          subst (λ l. Acts fl c (Landing n j) l mem (Sent fl p w operands c eb Here here code v (side (Landing n j) false)) mem) old
          (leaves fl p w operands c eb Here here code (Landing n j) (Returns c n j v) tt n j v (side (Landing n j) false) mem refl
          (exit_of b wg n j line en ∙ exit_call n j line.region line.kind kind) there port)
      pick (inr e) =
          let (line, en, kind) = kind_is b loop_kind n e in
          let old : settled_sent fl c n j v ≡ landed fl c n j v (node_of fl c n) ++ [] = sym (append-nil _)
          ∙ (λ i. sym (landed_loop fl c n j v ctx e) i ++ []) in
          subst (λ l. Acts fl c (Landing n j) l mem (Sent fl p w operands c eb Here here code v (side (Landing n j) false)) mem) old
          (goes fl p w operands c eb Here here code (Landing n j) n j v (side (Landing n j) false) mem
          (exit_of b wg n j line en ∙ exit_loop n j line.region line.kind kind) there port)

  -- ARGUMENTS
  passes : (n i : ℕ) (v : Value) (k : Kind ℕ) (d : Context)
      → ((call_kind k ≡ true) × (strict_kind k ≡ false) × (d ≡ Called c n)) ⊎ ((loop_kind k ≡ true) × (d ≡ Turned c n 0))
      → passed c n i v k ≡ Some (Says (Enters d i (v ∷ [])))
  passes n i v (Kind.Call g) d (inl (e, s, q)) = ap (λ (d : Context). Some (Says (Enters d i (v ∷ [])))) (sym q)
  passes n i v (Kind.StrictCall g) d (inl (e, s, q)) = absurd (true≢false s)
  passes n i v (Kind.Loop g h) d (inr (e, q)) = ap (λ (d : Context). Some (Says (Enters d i (v ∷ [])))) (sym q)
  passes n i v (Kind.Loop g h) d (inl (e, s, q)) = absurd (true≢false (sym e))
  passes n i v (Kind.Lit z) d (inl (e, s, q)) = absurd (true≢false (sym e))
  passes n i v (Kind.Apply1 o) d (inl (e, s, q)) = absurd (true≢false (sym e))
  passes n i v (Kind.Apply2 o) d (inl (e, s, q)) = absurd (true≢false (sym e))
  passes n i v Kind.Cond d (inl (e, s, q)) = absurd (true≢false (sym e))
  passes n i v Kind.Enter d (inl (e, s, q)) = absurd (true≢false (sym e))
  passes n i v (Kind.Merge x) d (inl (e, s, q)) = absurd (true≢false (sym e))
  passes n i v (Kind.Fetch a) d (inl (e, s, q)) = absurd (true≢false (sym e))
  passes n i v (Kind.Store a) d (inl (e, s, q)) = absurd (true≢false (sym e))
  passes n i v k d (inr (e, q)) = absurd (true≢false (sym e))

  call_or_loop : (k : Kind ℕ) → call_kind k ≡ true → loop_kind k ≡ false
  call_or_loop (Kind.Call g) e = refl
  call_or_loop (Kind.StrictCall g) e = refl
  call_or_loop k e = absurd (true≢false (sym e))

  strict_call : (k : Kind ℕ) → strict_kind k ≡ true → call_kind k ≡ true
  strict_call (Kind.StrictCall g) e = refl
  strict_call k e = absurd (true≢false (sym e))

  loop_strict : (k : Kind ℕ) → loop_kind k ≡ true → strict_kind k ≡ false
  loop_strict (Kind.Loop g h) e = refl
  loop_strict k e = absurd (true≢false (sym e))

  -- what an invocation makes first
  child_call : (n : ℕ) → is_loop b n ≡ false → child fl c n ≡ Called c n
  child_call n e = ap (λ (t : Bool). if t then Turned c n 0 else Called c n) e

  child_loop : (n : ℕ) → is_loop b n ≡ true → child fl c n ≡ Turned c n 0
  child_loop n e = ap (λ (t : Bool). if t then Turned c n 0 else Called c n) e

  abbrev way_of : Bool → ℕ
  way_of t = if t then 1 else 0

  passed_in : (n i : ℕ) (v : Value) (line : Node ℕ) → node_at b n ≡ Some line → (d : Context)
      → ((call_kind line.kind ≡ true) × (strict_kind line.kind ≡ false) × (d ≡ Called c n)) ⊎ ((loop_kind line.kind ≡ true) × (d ≡ Turned c n 0))
      → Acts fl c (Sender n i) (operand c n i v ∷ []) mem (operand d i 0 v ∷ []) mem
  passed_in n i v line en d h = says_acts fl c (Sender n i) (Passes c n i v) tt (Enters d i (v ∷ [])) mem (passes_deed fl c n i v b line eb en ∙ passes n i v line.kind d h)

  -- the token of an argument
  sent_in : (n i : ℕ) (v : Value) → invokes b n ≡ true
      → Acts fl c (Sender n i) (meant_at fl c (Sender n i) Right (way_of (is_strict b n)) v) mem (operand (child fl c n) i 0 v ∷ []) mem
  sent_in n i v there = pick (either (is_call b n) (is_loop b n) there)
    where
      by_strict : (line : Node ℕ) → node_at b n ≡ Some line → call_kind line.kind ≡ true → is_loop b n ≡ false → (t : Bool) → is_strict b n ≡ t
          → Acts fl c (Sender n i) (meant_at fl c (Sender n i) Right (way_of t) v) mem (operand (child fl c n) i 0 v ∷ []) mem
      by_strict line en kind none true e = same fl c (Sender n i) _ _ mem (ap (λ (d : Context). operand d i 0 v ∷ []) (sym (child_call n none)))
      by_strict line en kind none false e = passed_in n i v line en (child fl c n) (inl (kind, sym (kind_of b strict_kind n line en) ∙ e, child_call n none))

      pick : (is_call b n ≡ true) ⊎ (is_loop b n ≡ true)
          → Acts fl c (Sender n i) (meant_at fl c (Sender n i) Right (way_of (is_strict b n)) v) mem (operand (child fl c n) i 0 v ∷ []) mem
      pick (inl e) =
          let (line, en, kind) = kind_is b call_kind n e in
          by_strict line en kind (kind_of b loop_kind n line en ∙ call_or_loop line.kind kind) (is_strict b n) refl
      pick (inr e) =
          let (line, en, kind) = kind_is b loop_kind n e in
          subst (λ (t : Bool). Acts fl c (Sender n i) (meant_at fl c (Sender n i) Right (way_of t) v) mem (operand (child fl c n) i 0 v ∷ []) mem)
          (sym (kind_of b strict_kind n line en ∙ loop_strict line.kind kind))
          (passed_in n i v line en (child fl c n) (inr (kind, child_loop n e)))

  pub sender : (n i : ℕ) (l : Note) (v : Value) → there_in fl (site_in fl w c) wg (Sender n i) ≡ true → IsMeantBy (Sender n i) l (Datum v)
  sender n i l v there =
      let way = way_of (is_strict b n) in
      let right : meant fl (item c (inlet (Sender n i) Right way) (Datum v)) ≡ meant_at fl c (Sender n i) Right way v = refl in
      let old : meant_at fl c (Sender n i) Right way v ≡ flat_map (meant fl) (takes fl (by (Sender n i) l (Datum v))) =
      sym (append-nil _) ∙ (λ k. sym (none_meant fl c (inlet (Sender n i) Left 0) l (λ v. refl)) k ++ (meant_at fl c (Sender n i) Right way v ++ [])) in
      let new : operand (child fl c n) i 0 v ∷ [] ≡ flat_map (meant fl) (makes fl w (by (Sender n i) l (Datum v))) =
      (λ k. operand (child fl c n) i 0 v ∷ sym (along_none fl p w operands f fired' ctx Here here code (Sender n i) false signal there tt (λ e. e)) k) in
      subst (λ x. Acts fl c (Sender n i) x mem (flat_map (meant fl) (makes fl w (by (Sender n i) l (Datum v)))) mem) old
      (subst (λ x. Acts fl c (Sender n i) (meant_at fl c (Sender n i) Right way v) mem x mem) new (sent_in n i v (first_of_and _ _ there)))

  -- STRICT CALLS: all arguments at once
  arguments_before : (n i : ℕ) (vs : List Value) → flat_map (meant fl) (arguments_from c n 0 i vs) ≡ operands_from c (AtNode n) i vs
  arguments_before n i [] = refl
  arguments_before n i (v ∷ vs) = ap (λ (l : List Tagged). operand c n i v ∷ l) (arguments_before n (i + 1) vs)

  arguments_after : (n i : ℕ) (vs : List Value) → flat_map (meant fl) (arguments_from c n 1 i vs) ≡ entering (Called c n) i vs
  arguments_after n i [] = refl
  arguments_after n i (v ∷ vs) = ap (λ (l : List Tagged). operand (Called c n) i 0 v ∷ l) (arguments_after n (i + 1) vs)

  strict_deed : (n : ℕ) (vs : List Value) (k : Kind ℕ) → strict_kind k ≡ true → fired fl c n k vs ≡ Some (Says (Enters (Called c n) 0 vs))
  strict_deed n vs (Kind.StrictCall g) e = refl
  strict_deed n vs k e = absurd (true≢false (sym e))

  abbrev chosen : Bool → List Item → List Item
  chosen t items = if t then items else []

  framed : (n : ℕ) (t : Bool) → is_strict b n ≡ t → (length f.operands ≡ (if t then source_count b n else 0))
      → Acts fl c (Framer n) (flat_map (meant fl) (chosen t (arguments_from c n 0 0 f.operands))) mem
      (flat_map (meant fl) (chosen t (arguments_from c n 1 0 f.operands))) mem
  framed n false e len = same fl c (Framer n) [] [] mem refl
  framed n true e len =
      let (line, en, kind) = kind_is b strict_kind n e in
      let count : source_count b n ≡ length line.sources = ap (λ o. elim o as (λ x. ℕ) [ None ↦ 0 | Some line ↦ length line.sources ]) en in
      let d = fires_deed fl c n f.operands b line eb en (len ∙ count) ∙ strict_deed n f.operands line.kind kind in
      subst (λ x. Acts fl c (Framer n) x mem (flat_map (meant fl) (arguments_from c n 1 0 f.operands)) mem) (sym (arguments_before n 0 f.operands))
      (subst (λ x. Acts fl c (Framer n) (operands_from c (AtNode n) 0 f.operands) mem x mem) (sym (arguments_after n 0 f.operands))
      (says_acts fl c (Framer n) (Fires c n f.operands) (λ x. absurd (true≢false (sym x ∙ line_past b n line en))) (Enters (Called c n) 0 f.operands) mem d))

  pub framer : (n : ℕ) (l k : Note) → (length f.operands ≡ (if is_strict b n then source_count b n else 0)) → IsMeantBy (Framer n) l k
  framer n l k len =
      let old : flat_map (meant fl) (chosen (is_strict b n) (arguments_from c n 0 0 f.operands)) ≡ flat_map (meant fl) (takes fl (by (Framer n) l k)) =
      (λ i. sym (none_meant fl c (inlet (Framer n) Left 0) l (λ v. refl)) i
      ++ flat_map (meant fl) (chosen (is_strict b n) (arguments_from c n 0 0 f.operands))) in
      subst (λ x. Acts fl c (Framer n) x mem (flat_map (meant fl) (chosen (is_strict b n) (arguments_from c n 1 0 f.operands))) mem) old (framed n (is_strict b n) refl len)

  -- TURNS
  -- the value goes to the next turn, or leaves the loop
  abbrev turned : Context → ℕ → Value → Bool → List Tagged
  turned (Turned d n i) j v true = operand (Turned d n (i + 1)) j 0 v ∷ []
  turned (Turned d n i) j v false = settled_sent fl d n j v
  turned d j v t = []

  turn_acts : (d : Context) (j : ℕ) (v u : Value) → is_turn d ≡ true
      → Acts fl c (TurnValue (j + 1)) (tagged d (AtTurn (j + 1)) Carried v ∷ tagged d (AtTurn (j + 1)) Flag u ∷ []) mem (turned d j v (truth u)) mem
  turn_acts Main j v u e = absurd (true≢false (sym e))
  turn_acts (Called d n) j v u e = absurd (true≢false (sym e))
  turn_acts (Turned d n i) j v u e = pick (truth u) refl
    where
      old : List Tagged
      old = tagged (Turned d n i) (AtTurn (j + 1)) Carried v ∷ tagged (Turned d n i) (AtTurn (j + 1)) Flag u ∷ []

      before : j + 1 - 1 ≡ j
      before = omega arith

      first : Acts fl c (TurnValue (j + 1)) old mem (taken (Turns d n i (j + 1) u v)) mem
      first =
          stays fl c (TurnValue (j + 1)) old (taken (Turns d n i (j + 1) u v)) mem
          (shuffled ((tagged (Turned d n i) (AtTurn (j + 1)) Carried v ∷ []) ∷ (tagged (Turned d n i) (AtTurn (j + 1)) Flag u ∷ []) ∷ []) (Part 0 ⊕ Part 1)
          (Part 1 ⊕ Part 0) refl)

      deed_of : (t : Bool) → truth u ≡ t → deed fl (Turns d n i (j + 1) u v) ≡ Some (Says (if t then Enters (Turned d n (i + 1)) j (v ∷ []) else Sends d n j v))
      deed_of t e =
          ap (λ (t : Bool). Some (Says (if t then Enters (Turned d n (i + 1)) (j + 1 - 1) (v ∷ []) else Sends d n (j + 1 - 1) v))) e
          ∙ ap (λ (x : ℕ). Some (Says (if t then Enters (Turned d n (i + 1)) x (v ∷ []) else Sends d n x v))) before

      pick : (t : Bool) → truth u ≡ t → Acts fl c (TurnValue (j + 1)) old mem (turned (Turned d n i) j v t) mem
      pick true e =
          follow fl c (TurnValue (j + 1)) old (taken (Turns d n i (j + 1) u v)) (turned (Turned d n i) j v true) mem mem mem first
          (says_acts fl c (TurnValue (j + 1)) (Turns d n i (j + 1) u v) tt (Enters (Turned d n (i + 1)) j (v ∷ [])) mem (deed_of true e))
      pick false e =
          follow fl c (TurnValue (j + 1)) old (taken (Turns d n i (j + 1) u v)) (turned (Turned d n i) j v false) mem mem mem first
          (sends_settled fl operands c (TurnValue (j + 1)) (Turns d n i (j + 1) u v) tt d n j v mem (deed_of false e))

  -- the wires of a turn's switch stand for just that
  turn_wires : (d : Context) (j : ℕ) (v : Value) (t : Bool) → is_turn d ≡ true
      → turned d j v t ≡ flat_map (meant fl) (each d (Datum v) (if t then inlet (NextSender (suc j)) Right 0 ∷ [] else inlet (LastReturn j) Right 0 ∷ []))
  turn_wires Main j v t e = absurd (true≢false (sym e))
  turn_wires (Called d n) j v t e = absurd (true≢false (sym e))
  turn_wires (Turned d n i) j v true e = refl
  turn_wires (Turned d n i) j v false e = sym (append-nil _)

  pub turn_value : (j : ℕ) (v u : Value) → there_in fl (site_in fl w c) wg (TurnValue (j + 1)) ≡ true → IsMeantBy (TurnValue (j + 1)) (Datum v) (Datum u)
  turn_value j v u there =
      let turn = first_of_and (is_turn c) _ there in
      let k = code.uses.turn_value j there in
      subst (λ x. Acts fl c (TurnValue (j + 1)) (tagged c (AtTurn (j + 1)) Carried v ∷ tagged c (AtTurn (j + 1)) Flag u ∷ []) mem x mem)
      (turn_wires c j v (truth u) turn ∙ ap (λ l. flat_map (meant fl) (each c (Datum v) l)) (wire_of (truth u) k.0 k.1)) (turn_acts c j v u turn)
    where
      same_next : suc j ≡ j + 1
      same_next = omega arith

      wire_of : (t : Bool) → wg.wire (side (TurnValue (j + 1)) false) ≡ inlet (NextSender (j + 1)) Right 0 ∷ []
          → wg.wire (side (TurnValue (j + 1)) true) ≡ inlet (LastReturn j) Right 0 ∷ []
          → (if t then inlet (NextSender (suc j)) Right 0 ∷ [] else inlet (LastReturn j) Right 0 ∷ []) ≡ wg.wire (side (TurnValue (j + 1)) (not t))
      wire_of true e g = ap (λ (i : ℕ). inlet (NextSender i) Right 0 ∷ []) same_next ∙ sym e
      wire_of false e g = sym g
