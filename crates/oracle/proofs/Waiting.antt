-- Among the tokens that wait, no activity has all that it takes; and where only they and deferred fetches are left, no
-- activity is enabled and no store clashes.
use Rattle.std.proofs.Common.{◌≡◌, ℕ, ◌<◌, ◌⊎◌, inl, inr, true, false, List, [], ◌∷◌, ◌++◌, map, length, Option, Some, None, slice_get}
use Rattle.std.proofs.Common.{if◌then◌else◌, refl, sym, ap, ◌∙◌, subst, arith, ⊎_elim}
use Rattle.std.proofs.lemmas.List.{map-append}
use Rattle.std.proofs.lemmas.Option.{same_Some}
use Rattle.tags.specs.declared.value.Value.{Value}
use Rattle.semantics.specs.Graph.{Graph, Flow, flow_of}
use Rattle.semantics.specs.Meaning.{Context, Statement, AtNode, Port, Tagged, tagged, Memory, State, Effect, Activity, taken, deed, done, adds}
use Rattle.semantics.specs.Meaning.{tokens_of, block_number, Step, AtRest, Clashes}
use Rattle.semantics.specs.Meaning as Meaning
use Rattle.law_confluence.specs.Outcome.{NoClash}
use Rattle.lemmas.proofs.Permutations.{Within, Each, put_first, put_later, each_within, within_append, within_right, each_weaker, within_map}
use Rattle.law_confluence.proofs.ActivityKeys.{Unique, Held, same_activity}
use Rattle.law_confluence.proofs.ActivityDeeds.{full_of}
use Rattle.law_confluence.proofs.ActivityDiamond.{deed_of, held_from}
use Rattle.law_confluence.proofs.HistoryLaws.{IsFlowWell}
use Rattle.law_confluence.proofs.OutcomeRest.{takes_some}
use Rattle.oracle.specs.declared.invocations.Invocation.{Invocation}
use Rattle.oracle.specs.declared.tokens.Spot.{Spot}
use Rattle.oracle.specs.declared.tokens.Token.{Token}
use Rattle.oracle.specs.Lines.{spots_in}
use Rattle.oracle.specs.Acting.{is_there, all_there, remaining_of}
use Rattle.oracle.specs.Running.{Alone, join_in}
use Rattle.oracle.specs.Meant.{name_in, made_of, tagged_of, statement_of, port_of}
use Rattle.oracle.specs.Naming.{Named}
use Rattle.oracle.specs.Agreeing.{token_of}
use Rattle.oracle.proofs.Apart.{key_same, MadesDiffer, names_same}
use Rattle.oracle.proofs.Entering.{AreKnown}
use Rattle.oracle.proofs.Gathered.{left_within, own_there, other_there}
use Rattle.oracle.proofs.Views.{alone_view}
use Rattle.oracle.proofs.Complete.{TakesAt, shaped}

-- LISTS

pub within_back : {X Y : Type 0} (f : X → Y) (y : Y) (xs : List X) → Within y (map f xs) → (x : X) × Within x xs × (f x ≡ y)
within_back f y [] h = absurd h.1
within_back f y (x ∷ xs) (zs, inl p) = (x, (xs, put_first x xs), sym p.0)
within_back f y (x ∷ xs) (zs, inr p) = let r = within_back f y xs (p.0, p.2) in (r.0, (x ∷ r.1.0, put_later r.0 x r.1.0 xs r.1.1), r.2)

-- either all are of one kind, or one is of the other
pub each_either : {X : Type 0} (P Q : X → Type 0) (xs : List X) → Each (λ x. P x ⊎ Q x) xs → Each P xs ⊎ ((x : X) × Within x xs × Q x)
each_either P Q [] h = inl tt
each_either P Q (x ∷ xs) (inl p, h) =
    ⊎_elim (λ r. inl (p, r)) (λ r. inr (r.0, (x ∷ r.1.0, put_later r.0 x r.1.0 xs r.1.1), r.2)) (each_either P Q xs h)
each_either P Q (x ∷ xs) (inr q, h) = inr (x, (xs, put_first x xs), q)

-- TOKENS THAT WAIT

abbrev pub Stuck : Flow → List Tagged → Type 0
Stuck fl ts = (a : Activity) (d : Meaning.Deed) → deed fl a ≡ Some d → Held ts (taken a) → ⊥

held_none : (us : List Tagged) → 0 < length us → Held [] us → ⊥
held_none [] l h = absurd (omega (arith, l))
held_none (u ∷ us) l h = absurd h.0.1

pub stuck_none : (fl : Flow) → IsFlowWell fl → Stuck fl []
stuck_none fl w a d e h = held_none (taken a) (takes_some fl w a d e) h

pub stuck_left : (fl : Flow) (f : Token → Tagged) (t : Token) (ss : List Spot) (w : List Token) → Stuck fl (map f w) → Stuck fl (map f (remaining_of t ss w))
stuck_left fl f t ss w stuck a d e h =
    stuck a d e
    (each_weaker (λ y. Within y (map f (remaining_of t ss w))) (λ y. Within y (map f w))
    (λ y k.
    let b = within_back f y (remaining_of t ss w) k in
    subst (λ y. Within y (map f w)) b.2 (within_map f b.0 w (left_within t ss w b.0 b.1)))
    (taken a) h)

module _ (g : Graph) (xs : List Invocation) (cs : List Context) (named : Named g xs cs) (differ : MadesDiffer xs) (t : Token) (x : Invocation)
    (at : slice_get xs t.context ≡ Some x) (low : t.context < length xs)
    (w : List Token) (known : AreKnown (length xs) w) where
  made : made_of cs x.made ≡ name_in cs t.context
  made = named.made t.context x at

  block : block_number (flow_of g) (name_in cs t.context) ≡ Some x.block
  block = named.block t.context x at

  -- where an activity has all that it takes, the partner at each spot is there
  there_one : (a : Activity) (s : Spot) → Held (map (tagged_of cs) (w ++ t ∷ [])) (taken a) → TakesAt a (name_in cs t.context) s → is_there t s w ≡ true
  there_one a s held h =
      let y = tagged (name_in cs t.context) (statement_of s) (port_of s) h.0 in
      let b = within_back (tagged_of cs) y (w ++ t ∷ []) (each_within (λ y. Within y (map (tagged_of cs) (w ++ t ∷ []))) y (taken a) h.1 held) in
      let u = b.0 in
      let spots : u.spot ≡ s = key_same u.spot s (ap (λ (z : Tagged). z.statement) b.2) (ap (λ (z : Tagged). z.port) b.2) in
      ⊎_elim
      (λ k.
      let low_u = each_within (λ (t : Token). t.context < length xs) u w k known in
      let contexts : u.context ≡ t.context = names_same g xs cs named differ u.context t.context low_u low (ap (λ (z : Tagged). z.context) b.2) in
      let is : u ≡ token_of t.context s u.value = ap (λ c. token_of c u.spot u.value) contexts ∙ ap (λ s. token_of t.context s u.value) spots in
      other_there t s w (u.value, subst (λ z. Within z w) is k))
      (λ k.
      let is : u ≡ t = only u k in
      own_there t s w (sym spots ∙ ap (λ (z : Token). z.spot) is))
      (within_append u w (t ∷ []) b.1)
    where
      only : (u : Token) → Within u (t ∷ []) → u ≡ t
      only u (zs, inl p) = p.0
      only u (zs, inr p) = absurd p.2

  there_all : (a : Activity) (ss : List Spot) → Held (map (tagged_of cs) (w ++ t ∷ [])) (taken a) → Each (TakesAt a (name_in cs t.context)) ss
      → all_there t ss w ≡ true
  there_all a [] held h = refl
  there_all a (s ∷ ss) held h = ap (λ b. if b then all_there t ss w else false) (there_one a s held h.0) ∙ there_all a ss held h.1

  -- a token that is left alone waits with the others
  pub stuck_more : join_in g w t (Some x) ≡ Alone → Stuck (flow_of g) (map (tagged_of cs) w) → Stuck (flow_of g) (map (tagged_of cs) (w ++ t ∷ []))
  stuck_more alone stuck a d e held =
      let f = tagged_of cs in
      let sides : Each (λ y. Within y (map f w) ⊎ (y ≡ f t)) (taken a) =
      each_weaker (λ y. Within y (map f (w ++ t ∷ []))) (λ y. Within y (map f w) ⊎ (y ≡ f t))
      (λ y k. ⊎_elim (λ p. inl p) (λ p. inr (last y p)) (within_append y (map f w) (f t ∷ []) (subst (λ l. Within y l) (map-append f w (t ∷ [])) k)))
      (taken a) held in
      ⊎_elim (λ all. stuck a d e all)
      (λ one.
      let has = shaped g cs t x made block a d e (subst (λ y. Within y (taken a)) one.2 one.1) in
      alone_view g w t x alone has.shape has.here (there_all a (spots_in has.shape) held has.takes))
      (each_either (λ y. Within y (map f w)) (λ y. y ≡ f t) (taken a) sides)
    where
      last : (y : Tagged) → Within y (tagged_of cs t ∷ []) → y ≡ tagged_of cs t
      last y (zs, inl p) = p.0
      last y (zs, inr p) = absurd p.2

-- DEFERRED FETCHES

-- a token of a fetch whose cell is empty
pub record IsDeferred (fl : Flow) (cells : ℕ → Option Value) (t : Tagged) : Type 0 where
  pub context : Context
  pub node : ℕ
  pub cell : ℕ
  pub value : Value
  pub is : t ≡ tagged context (AtNode node) (Meaning.Operand 0) value
  pub fetch : deed fl (Meaning.Fires context node (value ∷ [])) ≡ Some (Meaning.Reads context node cell)
  pub empty : cells cell ≡ None

-- of these tokens an activity has at most a fetch of an empty cell
abbrev ReadsEmpty : (ℕ → Option Value) → Meaning.Deed → Type 0
ReadsEmpty cells d = (c : Context) × (n : ℕ) × (x : ℕ) × (d ≡ Meaning.Reads c n x) × (cells x ≡ None)

module _ (fl : Flow) (cells : ℕ → Option Value) (ts waiting deferred : List Tagged) (all : Unique ts) (here : ts ≡ waiting ++ deferred)
    (stuck : Stuck fl waiting) (defers : Each (IsDeferred fl cells) deferred) where
  reads_empty : (a : Activity) (d : Meaning.Deed) → deed fl a ≡ Some d → Held ts (taken a) → ReadsEmpty cells d
  reads_empty a d e held =
      let sides : Each (λ y. Within y waiting ⊎ Within y deferred) (taken a) =
      each_weaker (λ y. Within y ts) (λ y. Within y waiting ⊎ Within y deferred)
      (λ y k. within_append y waiting deferred (subst (λ l. Within y l) here k)) (taken a) held in
      ⊎_elim (λ k. absurd (stuck a d e k))
      (λ one.
      let f = each_within (IsDeferred fl cells) one.0 deferred one.2 defers in
      let b = Meaning.Fires f.context f.node (f.value ∷ []) in
      let y = tagged f.context (AtNode f.node) (Meaning.Operand 0) f.value in
      let mine : Within y ts = subst (λ z. Within z ts) f.is (subst (λ l. Within one.0 l) (sym here) (within_right one.0 waiting deferred one.2)) in
      let same = same_activity fl ts all a b d (Meaning.Reads f.context f.node f.cell) e f.fetch held (mine, tt) one.0 one.1
      (subst (λ z. Within z (y ∷ [])) (sym f.is) ([], put_first y [])) in
      let deeds : d ≡ Meaning.Reads f.context f.node f.cell = same_Some _ _ (sym e ∙ ap (λ k. deed fl k) same ∙ f.fetch) in
      (f.context, f.node, f.cell, deeds, f.empty))
      (each_either (λ y. Within y waiting) (λ y. Within y deferred) (taken a) sides)

  module _ (outputs : ℕ → Option Value) where
    pub at_rest : AtRest fl record { tokens = ts; memory = record { cells = cells; outputs = outputs } }
    at_rest a t p =
        let m : Memory = record { cells = cells; outputs = outputs } in
        let d = deed_of fl m a p.does p.allowed in
        let r = reads_empty a d.0 d.1 (held_from ts (taken a) p.rest p.takes) in
        let done_it = subst (λ d. done fl m d ≡ Some p.does) r.3 d.2 in
        let f = full_of (cells r.2) (λ v. adds (tokens_of fl (Meaning.Sends r.0 r.1 0 v)) m) p.does done_it in
        let no : None ≡ Some f.0 = sym r.4 ∙ f.1 in
        cc

    pub no_clash : NoClash fl record { tokens = ts; memory = record { cells = cells; outputs = outputs } }
    no_clash x c =
        let a = Meaning.Fires c.context c.node (c.index ∷ c.value ∷ []) in
        let r = reads_empty a (Meaning.Fills c.context c.node x c.value) c.is_store (held_from ts (taken a) c.rest c.tokens) in
        let no = r.3 in
        cc
