-- A strict call that asked for its frame has fired in the meaning: its arguments went into the context that it calls.
use Rattle.std.proofs.Common.{◌≡◌, ℕ, ◌<◌, ℤ, Bool, true, ◌⊎◌, inl, inr, List, [], ◌∷◌, length, Option, Some, if◌then◌else◌, refl, sym, ap, ◌∙◌, subst, arith}
use Rattle.std.specs.Prelude.{Contains}
use Rattle.std.proofs.lemmas.Option.{same_Some}
use Rattle.lemmas.proofs.Contains.{contains_cases, contains_head, contains_none, contains_tail}
use Rattle.tags.specs.declared.value.Value.{Value}
use Rattle.tags.specs.declared.token.Port.TheVariants.{Left, Right}
use Rattle.semantics.specs.declared.graph.Kind.{Kind}
use Rattle.semantics.specs.Graph.{Node, Block, Flow}
use Rattle.semantics.specs.Plan.{Plan}
use Rattle.semantics.specs.Meaning.{Context, Called, Tagged, tagged, AtNode, Operand, node_of, node_in, StartsWhenStrict}
use Rattle.semantics.specs.Machine.{Machine}
use Rattle.law_confluence.proofs.HistoryDue.{stood_due}
use Rattle.law_confluence.proofs.Net.{Waits, Fires}
use Rattle.law_net.specs.ContextsParts.{Part, Framer, Fanned, Asked, Sender, Inlet, inlet, Datum, BackTo, Item, item, Firing, Spot}
use Rattle.law_net.specs.ContextsBlocks.{strict_kind, is_strict, source_count}
use Rattle.law_net.specs.Contexts.{Wires, block_in, is_strict_in}
use Rattle.law_net.specs.ContextsWires.{AValue, arrives_at}
use Rattle.law_net.specs.ContextsMeant.{meant, meant_by}
use Rattle.law_net.specs.ContextsFirings.{Config, Move, begin, arguments_from, IsProper, IsProperMove, ProperAt, ProperMoves, Still, Then, HasFired}
use Rattle.law_net.specs.ContextsLaws.{Carries}
use Rattle.law_net.specs.ContextsMirror.{Past}
use Rattle.law_net.specs.ContextsTheorem.{IsGood}
use Rattle.law_net.specs.ContextsPackages.{Keeps, InputsFit}
use Rattle.law_net_refines_meaning.proofs.FiringsNodes.{kind_of}
use Rattle.law_net.proofs.WiredInvoked.{block_here, strict_call, call_invoked}
use Rattle.law_end.proofs.OverMade.{Mirrors}
use Rattle.law_end.proofs.OverBack.{context_of}
use Rattle.law_net.specs.ContextsOperands.{SourcesAreEarlier}
use Rattle.law_end.proofs.RestStores.{fits_main}
use Rattle.law_end.proofs.RestWaits.{carries}
use Rattle.law_end.proofs.RestForward.{gift_stands}
use Rattle.law_end.proofs.RestStory.{story, ever_meant}
use Rattle.law_end.proofs.RestArms.{stood_of}
use Rattle.law_end.proofs.CausesKnown.{StrictFired}

-- a request for a frame has the call's arguments
abbrev Long : Flow → List Firing → Type 0
Long fl fired = (h : Firing) (n : ℕ) → Contains fired h → h.part ≡ Framer n
    → length h.operands ≡ (if is_strict_in fl h.context n then source_count (block_in fl h.context) n else 0)

long_move : (fl : Flow) (w : Wires) (c d : Config) (m : Move fl w c d) → IsProperMove fl w c.fired c d m → Long fl c.fired → Long fl d.fired
long_move fl w c d (Waits i rest a e) proper long = subst (λ (d : Config). Long fl d.fired) (sym e) long
long_move fl w c d (Fires f now kept rest others a b both e) proper long =
    subst (λ (d : Config). Long fl d.fired) (sym e) (λ h n x g. pick h n g (contains_cases f c.fired h x))
  where
    pick : (h : Firing) (n : ℕ) → h.part ≡ Framer n → (f ≡ h) ⊎ Contains c.fired h
        → length h.operands ≡ (if is_strict_in fl h.context n then source_count (block_in fl h.context) n else 0)
    pick h n g (inr x) = long h n x g
    pick h n g (inl same) = subst (λ (r : Part). ProperAt fl c.fired h r) g (subst (IsProper fl c.fired) same proper)

long_then : (fl : Flow) (w : Wires) (c d : Config) → ProperMoves fl w c d → Long fl c.fired → Long fl d.fired
long_then fl w c d (Still e) long = long
long_then fl w c d (Then a mid b m proper more) long = long_then fl w mid b more (long_move fl w a mid m proper long)

first_argument : (c : Context) (n : ℕ) (vs : List Value) → 0 < length vs
    → (v : Value) × Contains (arguments_from c n 1 0 vs) (item c (inlet (Sender n 0) Right 1) (Datum v))
first_argument c n [] h = absurd (omega (arith, h))
first_argument c n (v ∷ vs) h = (v, contains_head (item c (inlet (Sender n 0) Right 1) (Datum v)) (arguments_from c n 1 1 vs))

module _ (fl : Flow) (p : Plan) (w : Wires) (inputs : List ℤ) (past : Past) (m : Machine) (good : IsGood fl p w) (fit : InputsFit fl inputs)
    (kept : Keeps fl p w inputs past m) (earlier : SourcesAreEarlier fl) where
  strict_starts : (c : Context) (n : ℕ) → HasFired c (Framer n) kept.tracks.net.fired → is_strict (block_in fl c) n ≡ true → (line : Node ℕ)
      → node_of fl c n ≡ Some line → StartsWhenStrict (story fl p w inputs past m good fit kept).run c n line.kind
  strict_starts c n (h, d, a, e) strict line node =
      let con = context_of fl p w inputs past m good fit kept c (Framer n) (h, d, a, e) in
      let there : is_strict_in fl h.context n ≡ true = ap (λ (c : Context). is_strict_in fl c n) a ∙ strict in
      let invoked = (call_invoked fl p w good c n con (strict_call (block_in fl c) n strict)).0 in
      let count = long_then fl w (begin inputs) kept.tracks.net kept.tracks.moves (λ h n x g. absurd (contains_none h x)) h n d e
      ∙ ap (λ (t : Bool). if t then source_count (block_in fl h.context) n else 0) there ∙ ap (λ (c : Context). source_count (block_in fl c) n) a in
      let some = invoked.some_input in let inputs' = invoked.inputs in
      let (v, one) = first_argument h.context n h.operands (omega (arith, count, some, inputs')) in
      let gift = item h.context (inlet (Sender n 0) Right 1) (Datum v) in
      let asks = item h.context (inlet (Asked n) Left 0) (BackTo h.context (inlet (Fanned n) Left 0)) in
      let (j, stood, same) = gift_stands fl p w inputs past m good fit kept h (Framer n) gift d e
      (contains_tail asks _ gift (subst (λ (t : Bool). Contains (if t then arguments_from h.context n 1 0 h.operands else []) gift) (sym there) one)) in
      by_item j stood (ap (λ (x : Spot). x.context) same ∙ a) (ap (λ (x : Spot). x.inlet) same)
    where
      by_item : (j : Item) → Mirrors fl p w inputs past m good fit kept j → j.context ≡ c → j.inlet ≡ inlet (Sender n 0) Right 1
          → StartsWhenStrict (story fl p w inputs past m good fit kept).run c n line.kind
      by_item j stood jc jx =
          let (v, word) : Carries fl w c 1 AValue j.word =
          subst (λ (y : Inlet). Carries fl w c y.way (arrives_at y.part y.port) j.word) jx
          (subst (λ (d : Context). Carries fl w d j.inlet.way (arrives_at j.inlet.part j.inlet.port) j.word) jc
          (carries fl p w inputs past m good fit kept j stood)) in
          let t = tagged (Called c n) (AtNode 0) (Operand 0) v in
          let tells : meant fl j ≡ t ∷ [] = (λ k. meant_by fl (record { context = jc k; inlet = jx k; word = word k; held = j.held }) (jx k).part) in
          let arrive = ever_meant fl p w inputs past m good fit kept j stood t
          (subst (λ (l : List Tagged). Contains l t) (sym tells) (contains_head t [])) in
          let s = story fl p w inputs past m good fit kept in
          let due = stood_due fl good.well inputs (fits_main fl p w inputs past m good fit kept) s.state s.run s.is_run t
          (stood_of fl p w inputs past m good fit kept t arrive) in
          let (other, at, call, starts) = due.1 in
          subst (λ (l : Node ℕ). StartsWhenStrict s.run c n l.kind) (same_Some other line (sym at ∙ node)) starts

  pub strict_fired : StrictFired fl p w inputs past m good fit kept earlier
  strict_fired c n f line node = go line.kind refl
    where
      go : (k : Kind ℕ) → line.kind ≡ k → StartsWhenStrict (story fl p w inputs past m good fit kept).run c n k
      go (Kind.StrictCall g) e =
          let con = context_of fl p w inputs past m good fit kept c (Framer n) f in
          let at = ap (λ (o : Option (Block ℕ)). node_in o n) (sym (block_here fl p w good c con)) ∙ node in
          subst (λ (k : Kind ℕ). StartsWhenStrict (story fl p w inputs past m good fit kept).run c n k) e
          (strict_starts c n f (kind_of (block_in fl c) strict_kind n line at ∙ ap strict_kind e) line node)
      go k e = tt
