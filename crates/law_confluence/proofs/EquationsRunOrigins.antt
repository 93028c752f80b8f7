-- From tokens to values: a token that was present at a use of a port is the value that the port was given.
use Rattle.std.proofs.Common.{◌≡◌, ℕ, zero, suc, ◌+◌, ◌-◌, ◌<◌, ◌≤◌, ◌⊎◌, ℤ, Bool, List, [], ◌∷◌, Option, Some, map, inl, inr, refl, sym, ap, ap₂, ◌∙◌, subst}
use Rattle.std.proofs.Common.{subst₂, arith, ⊎_elim}
use Rattle.std.specs.Prelude.{slice_get}
use Rattle.std.proofs.lemmas.Option.{slice_get_within, same_Some}
use Rattle.tags.specs.declared.value.Value.{Value}
use Rattle.tags.specs.declared.value.Value.TheVariants.{Int}
use Rattle.semantics.specs.declared.graph.Source.{Source}
use Rattle.semantics.specs.declared.graph.Region.TheVariants.{Arm}
use Rattle.semantics.specs.declared.graph.Kind.TheVariants.{Enter}
use Rattle.semantics.specs.Graph.{Node, Block, node_at}
use Rattle.semantics.specs.Meaning.{Context, Main, Called, Turned, AtNode, AtOut, AtTurn, Operand, Predicate, Flag, Carried, Tagged, tagged, Memory, Activity}
use Rattle.semantics.specs.Meaning.{Fires, taken, Deed, Says, Reads, Fills, Puts, Message, Sends, Steers, Enters, Nothing, tokens_of, block_of, node_in, start}
use Rattle.semantics.specs.Meaning.{entering}
use Rattle.lemmas.proofs.Permutations.{Within, Each, each_from, each_within, within_from, within_to}
use Rattle.law_confluence.proofs.ActivityUses.{UseOf, AsOperand, AsResult, AsFlag, AsCarried, Member, IsTurned, tokens_member}
use Rattle.law_confluence.proofs.HistoryGrounds.{row_grounded, found_line}
use Rattle.law_confluence.proofs.HistoryLaws.{Grounded, IsInvoking, source_of}
use Rattle.law_confluence.proofs.ActivityRows.{Class, Calling, Strict, Looping, class_at, Speaks, Row, RowFires, RowSteers, RowGates, RowQuiet, RowMerges}
use Rattle.law_confluence.proofs.ActivityRows.{RowCalls, RowStrict, RowLoops, RowReturns, RowAgain, RowLeaves, rows}
use Rattle.law_confluence.specs.EquationsHave.{SaysIn, source_line, source_at, result_in, result_at}
use Rattle.law_confluence.specs.Equations.{HasSome, Argument, Result, InputEquation}
use Rattle.law_confluence.proofs.EquationsRunRested.{Rested, Came, GivesIn, SaidIn, from, took}
use Rattle.law_confluence.proofs.EquationsRunUses.{Ends, IsSteered, predicates_steered, entering_back, sent_ends, operand_within}
use Rattle.law_confluence.proofs.EquationsGraphForms.{line_past}

abbrev pub HasSomeIn : Rested → Context → Option Source → Value → Type 0
HasSomeIn z c o v = HasSome z.flow z.inputs z.run z.state z.is_run c o v

abbrev pub ArgumentIn : Rested → Context → ℕ → ℕ → Value → Type 0
ArgumentIn z c n i v = Argument z.flow z.inputs z.run z.state z.is_run c n i v

abbrev pub ResultIn : Rested → Context → ℕ → Value → Type 0
ResultIn z c j v = Result z.flow z.inputs z.run z.state z.is_run c j v

abbrev pub InputIn : Rested → Context → ℕ → Value → Type 0
InputIn z c i v = InputEquation z.flow z.inputs z.run z.state z.is_run c i v

pub has_some : (z : Rested) (c : Context) (o : Option Source) (s : Source) (v : Value) → o ≡ Some s → GivesIn z c s.node s.port v → HasSomeIn z c o v
has_some z c o s v e h = subst (λ o. HasSomeIn z c o v) (sym e) h

pub argument_is : (z : Rested) (c : Context) (b : Block ℕ) (n i : ℕ) (line : Node ℕ) (s : Source) → block_of z.flow c ≡ Some b → node_at b n ≡ Some line
    → slice_get line.sources i ≡ Some s → source_at z.flow c n i ≡ Some s
argument_is z c b n i line s eb el es = ap (λ o. source_line (node_in o n) i) eb ∙ ap (λ l. source_line l i) el ∙ es

pub result_is : (z : Rested) (c : Context) (b : Block ℕ) (j : ℕ) (s : Source) → block_of z.flow c ≡ Some b → slice_get b.results j ≡ Some s
    → result_at z.flow c j ≡ Some s
result_is z c b j s eb es = ap (λ o. result_in o j) eb ∙ es

pub says_speaks : (m : Memory) (d : Deed) (y : Message) → SaysIn m d y → Speaks d y
says_speaks m (Says x) y h = sym h
says_speaks m (Reads c n x) y h = (h.0, sym h.2)
says_speaks m (Fills c n x v) y h = sym h
says_speaks m (Puts j v) y h = absurd h

-- a token at this use, and the value that the port was given
pub record Used (z : Rested) (x : Tagged) : Type 0 where
  pub node : ℕ
  pub port : ℕ
  pub block : Block ℕ
  pub is_block : block_of z.flow x.context ≡ Some block
  pub gives : GivesIn z x.context node port x.value
  pub using_it : UseOf block x.context node port x.statement x.port
  pub ends : Ends x.context x.statement

-- what an invocation's input got, and from where
pub data Entered (z : Rested) (c : Context) (i : ℕ) (v : Value) : Type 0 where
  ByStart : (w : ℤ) → c ≡ Main → slice_get z.inputs i ≡ Some w → v ≡ Int w → Entered z c i v
  ByCall : (d : Context) (n : ℕ) (k : Class) → c ≡ Called d n → class_at z.flow d n ≡ k → IsInvoking k → Came z (tagged d (AtNode n) (Operand i) v)
      → Entered z c i v
  ByLoop : (d : Context) (n : ℕ) → c ≡ Turned d n 0 → class_at z.flow d n ≡ Looping → Came z (tagged d (AtNode n) (Operand i) v) → Entered z c i v
  ByTurn : (d : Context) (n t : ℕ) → c ≡ Turned d n (suc t) → Came z (tagged (Turned d n t) (AtTurn (i + 1)) Carried v) → Entered z c i v

pub record Entering (z : Rested) (x : Tagged) : Type 0 where
  pub input : ℕ
  pub block : Block ℕ
  pub is_block : block_of z.flow x.context ≡ Some block
  pub below : input < block.inputs
  pub statement : x.statement ≡ AtNode input
  pub port : x.port ≡ Operand 0
  pub entered : Entered z x.context input x.value

pub record SteeredIn (z : Rested) (x : Tagged) : Type 0 where
  pub cond : ℕ
  pub node : ℕ
  pub block : Block ℕ
  pub line : Node ℕ
  pub side : Bool
  pub is_block : block_of z.flow x.context ≡ Some block
  pub is_line : node_at block node ≡ Some line
  pub region : line.region ≡ Arm cond side
  pub kind : line.kind ≡ Enter
  pub statement : x.statement ≡ AtNode node
  pub port : x.port ≡ Predicate
  pub stood : Came z (tagged x.context (AtNode cond) (Operand 0) x.value)

int_read : (zs : List ℤ) (i : ℕ) (v : Value) → slice_get (map (λ (w : ℤ). Int w) zs) i ≡ Some v → (w : ℤ) × (slice_get zs i ≡ Some w) × (v ≡ Int w)
int_read [] i v e = cc
int_read (w ∷ zs) zero v e = (w, refl, cc)
int_read (w ∷ zs) (suc i) v e = int_read zs i v e

module _ (z : Rested) where
  row_of : (x : Tagged) (h : SaidIn z x) → Row z.flow h.activity h.message
  row_of x h = rows z.flow h.activity h.does h.message h.is_deed (says_speaks z.state.memory h.does h.message h.says)

  pub took_all : (a : Activity) → Within a z.run → Each (Came z) (taken a)
  took_all a h = each_from (Came z) (taken a) (λ x k. took z a h x k)

  only_value : (w : Value) (i : ℕ) (u : Value) (vs : List Value) → vs ≡ w ∷ [] → slice_get vs i ≡ Some u → (i ≡ 0) × (u ≡ w)
  only_value w zero u vs e f = let g = ap (λ vs. slice_get vs 0) e in (refl, cc)
  only_value w (suc i) u vs e f = let g = ap (λ vs. slice_get vs (suc i)) e in absurd (cc)

  -- who sends to the inputs of an invocation
  entered : (a : Activity) (m : Message) (d : Context) (from : ℕ) (vs : List Value) → Row z.flow a m → Each (Came z) (taken a) → m ≡ Enters d from vs
      → (i : ℕ) (v : Value) → slice_get vs i ≡ Some v → Entered z d (from + i) v
  entered a m d from vs (RowCalls c n j w ea em class) h e i v f =
      let eq = sym e ∙ em in
      let cs : d ≡ Called c n = cc in
      let fs : from ≡ j = cc in
      let ones = only_value w i v vs (let g : vs ≡ w ∷ [] = cc in g) f in
      let at : from + i ≡ j = omega (arith, ones.0) in
      ByCall c n Calling cs class tt (subst₂ (λ j v. Came z (tagged c (AtNode n) (Operand j) v)) (sym at) (sym ones.1)
      (subst (λ a. Each (Came z) (taken a)) ea h).0)
  entered a m d from vs (RowStrict c n ws ea em class mode) h e i v f =
      let eq = sym e ∙ em in
      let cs : d ≡ Called c n = cc in
      let fs : from ≡ 0 = cc in
      let vss : vs ≡ ws = cc in
      let all : Each (Came z) (taken (Fires c n ws)) = subst (λ a. Each (Came z) (taken a)) ea h in
      let at : 0 + i ≡ from + i = omega (arith, fs) in
      ByCall c n Strict cs class tt
      (subst (λ j. Came z (tagged c (AtNode n) (Operand j) v)) at
      (each_within (Came z) (tagged c (AtNode n) (Operand (0 + i)) v) (taken (Fires c n ws))
      (operand_within c (AtNode n) 0 ws i v (ap (λ vs. slice_get vs i) (sym vss) ∙ f)) all))
  entered a m d from vs (RowLoops c n j w ea em class) h e i v f =
      let eq = sym e ∙ em in
      let cs : d ≡ Turned c n 0 = cc in
      let fs : from ≡ j = cc in
      let ones = only_value w i v vs (let g : vs ≡ w ∷ [] = cc in g) f in
      let at : from + i ≡ j = omega (arith, ones.0) in
      ByLoop c n cs class (subst₂ (λ j v. Came z (tagged c (AtNode n) (Operand j) v)) (sym at) (sym ones.1) (subst (λ a. Each (Came z) (taken a)) ea h).0)
  entered a m d from vs (RowAgain c n t j b w ea em on) h e i v f =
      let eq = sym e ∙ em in
      let cs : d ≡ Turned c n (t + 1) = cc in
      let fs : from ≡ j - 1 = cc in
      let ones = only_value w i v vs (let g : vs ≡ w ∷ [] = cc in g) f in
      let both = subst (λ a. Each (Came z) (taken a)) ea h in
      let low = (z.lawful _ both.0).1.2 in
      let at : j ≡ from + i + 1 = omega (arith, ones.0, fs, low) in
      let turn : t + 1 ≡ suc t = omega arith in
      ByTurn c n t (cs ∙ ap (λ t. Turned c n t) turn) (subst₂ (λ j v. Came z (tagged (Turned c n t) (AtTurn j) Carried v)) at (sym ones.1) both.1.0)
  entered a m d from vs (RowFires c n ws w ea em class l) h e i v f = absurd (cc)
  entered a m d from vs (RowSteers c n w ea em) h e i v f = absurd (cc)
  entered a m d from vs (RowGates c n w b k ea em class region) h e i v f = absurd (cc)
  entered a m d from vs (RowQuiet some em) h e i v f = absurd (cc)
  entered a m d from vs (RowMerges c n j w ea em class) h e i v f = absurd (cc)
  entered a m d from vs (RowReturns c n j w ea em) h e i v f = absurd (cc)
  entered a m d from vs (RowLeaves c n t j b w ea em off) h e i v f = absurd (cc)

  said_used : (x : Tagged) (h : SaidIn z x) → Used z x ⊎ Entering z x ⊎ SteeredIn z x
  said_used x h =
      go h.message refl (each_within (Member z.flow h.message) x (tokens_of z.flow h.message) h.inside (tokens_member z.flow h.message))
      (row_grounded z.flow z.well (Came z) z.lawful h.activity h.message (row_of x h) (took_all h.activity h.in_run))
    where
      go : (y : Message) → h.message ≡ y → Member z.flow y x → Grounded z.flow (Came z) y → Used z x ⊎ Entering z x ⊎ SteeredIn z x
      go (Sends c n p v) e k g =
          let gives : GivesIn z c n p v = (h.activity, h.does, within_to h.activity z.run h.in_run, h.is_deed, subst (SaysIn z.state.memory h.does) e h.says) in
          let inside : Within x (tokens_of z.flow (Sends c n p v)) = subst (λ y. Within x (tokens_of z.flow y)) e h.inside in
          let ends : Ends c x.statement = each_within (λ (x : Tagged). Ends c x.statement) x (tokens_of z.flow (Sends c n p v)) inside
          (sent_ends c n p v (block_of z.flow c)) in
          inl record {
            node = n;
            port = p;
            block = k.2.0;
            is_block = ap (block_of z.flow) k.0 ∙ k.2.1;
            gives = subst₂ (λ c v. GivesIn z c n p v) (sym k.0) (sym k.1) gives;
            using_it = subst (λ c. UseOf k.2.0 c n p x.statement x.port) (sym k.0) k.2.2;
            ends = subst (λ c. Ends c x.statement) (sym k.0) ends;
          }
      go (Steers c k v) e m g =
          let inside : Within x (tokens_of z.flow (Steers c k v)) = subst (λ y. Within x (tokens_of z.flow y)) e h.inside in
          let t = each_within (IsSteered z.flow c k v) x (tokens_of z.flow (Steers c k v)) inside (predicates_steered z.flow c k v (block_of z.flow c) refl) in
          let same = t.5 in
          inr (inr record {
            cond = k;
            node = t.1;
            block = t.0;
            line = t.2;
            side = t.3;
            is_block = ap (block_of z.flow) (ap (λ (x : Tagged). x.context) same) ∙ t.4;
            is_line = t.6;
            region = t.7;
            kind = t.8;
            statement = ap (λ (x : Tagged). x.statement) same;
            port = ap (λ (x : Tagged). x.port) same;
            stood = subst₂ (λ c v. Came z (tagged c (AtNode k) (Operand 0) v)) (sym m.0) (sym m.1) g.1;
          })
      go (Enters c from vs) e m g =
          let inside : Within x (entering c from vs) = subst (λ y. Within x (tokens_of z.flow y)) e h.inside in
          let back = entering_back c from vs x inside in
          let same = back.3 in
          let cs : x.context ≡ c = ap (λ (x : Tagged). x.context) same in
          let vs' : x.value ≡ back.1 = ap (λ (x : Tagged). x.value) same in
          let low = slice_get_within vs back.0 back.1 back.2 in
          inr (inl record {
            input = from + back.0;
            block = g.1.0;
            is_block = ap (block_of z.flow) cs ∙ g.1.1;
            below = omega (arith, low, g.1.2);
            statement = ap (λ (x : Tagged). x.statement) same;
            port = ap (λ (x : Tagged). x.port) same;
            entered = subst₂ (λ c v. Entered z c (from + back.0) v) (sym cs) (sym vs')
                (entered h.activity h.message c from vs (row_of x h) (took_all h.activity h.in_run) e back.0 back.1 back.2);
          })
      go Nothing e k g = absurd k

  -- where a token came from
  pub origin : (x : Tagged) → Came z x → Used z x ⊎ Entering z x ⊎ SteeredIn z x
  origin x h =
      ⊎_elim (λ k.
      let back = entering_back Main 0 (map (λ (w : ℤ). Int w) z.inputs) x (within_from x (start z.inputs).tokens k) in
      let same = back.3 in
      let cs : x.context ≡ Main = ap (λ (x : Tagged). x.context) same in
      let v = int_read z.inputs back.0 back.1 back.2 in
      let low = slice_get_within z.inputs back.0 v.0 v.1 in
      let at : 0 + back.0 ≡ back.0 = omega arith in
      inr (inl record {
        input = back.0;
        block = z.main;
        is_block = ap (block_of z.flow) cs ∙ z.is_main;
        below = omega (arith, low, z.count);
        statement = ap (λ (x : Tagged). x.statement) same ∙ ap AtNode at;
        port = ap (λ (x : Tagged). x.port) same;
        entered = ByStart v.0 cs v.1 (ap (λ (x : Tagged). x.value) same ∙ v.2);
      }))
      (λ k. said_used x k) (from z x h)

  -- an operand of a node line is the value of its source
  pub operand_from : (c : Context) (b : Block ℕ) (m i : ℕ) (line : Node ℕ) (v : Value) → block_of z.flow c ≡ Some b → node_at b m ≡ Some line
      → Came z (tagged c (AtNode m) (Operand i) v)
      → (s : Source) × (slice_get line.sources i ≡ Some s) × GivesIn z c s.node s.port v
  operand_from c b m i line v eb el h =
      ⊎_elim (λ u. used u) (λ o. ⊎_elim (λ e. enters e) (λ t. let p = t.port in absurd (cc)) o) (origin (tagged c (AtNode m) (Operand i) v) h)
    where
      x : Tagged
      x = tagged c (AtNode m) (Operand i) v

      of_use : (k : Block ℕ) (n p : ℕ) → block_of z.flow c ≡ Some k → GivesIn z c n p v → UseOf k c n p (AtNode m) (Operand i)
          → (s : Source) × (slice_get line.sources i ≡ Some s) × GivesIn z c s.node s.port v
      of_use k n p ek g (AsOperand m' i' node es eq low el' src) =
          let blocks = same_Some k b (sym ek ∙ eb) in
          let ms : m' ≡ m = cc in
          let is : i' ≡ i = cc in
          let lines = same_Some node line (sym el' ∙ ap₂ (λ (b : Block ℕ) m. node_at b m) blocks ms ∙ el) in
          let s = source_of n p (slice_get node.sources i') src in
          (s.0, ap₂ (λ (l : Node ℕ) i. slice_get l.sources i) (sym lines) (sym is) ∙ s.1, subst₂ (λ n p. GivesIn z c n p v) (sym s.2) (sym s.3) g)
      of_use k n p ek g (AsResult j es eq src) = absurd (cc)
      of_use k n p ek g (AsFlag j es eq low high src turned) = absurd (cc)
      of_use k n p ek g (AsCarried j es eq low src) = absurd (cc)

      used : Used z x → (s : Source) × (slice_get line.sources i ≡ Some s) × GivesIn z c s.node s.port v
      used u = of_use u.block u.node u.port u.is_block u.gives u.using_it

      enters : Entering z x → (s : Source) × (slice_get line.sources i ≡ Some s) × GivesIn z c s.node s.port v
      enters e =
          let blocks = ap (λ (b : Block ℕ). b.inputs) (same_Some e.block b (sym e.is_block ∙ eb)) in
          let st = e.statement in
          let ms : m ≡ e.input = cc in
          let past = line_past b m line el in
          let low = e.below in
          absurd (omega (arith, blocks, ms, past.0, low))

  pub argument_from : (c : Context) (b : Block ℕ) (m i : ℕ) (line : Node ℕ) (v : Value) → block_of z.flow c ≡ Some b → node_at b m ≡ Some line
      → Came z (tagged c (AtNode m) (Operand i) v) → ArgumentIn z c m i v
  argument_from c b m i line v eb el h = let s = operand_from c b m i line v eb el h in has_some z c _ s.0 v (argument_is z c b m i line s.0 eb el s.1) s.2

  pub invoking_argument : (c : Context) (n i : ℕ) (v : Value) (k : Class) → class_at z.flow c n ≡ k → IsInvoking k → Came z (tagged c (AtNode n) (Operand i) v)
      → ArgumentIn z c n i v
  invoking_argument c n i v k class inv h = let l = found_line (block_of z.flow c) n k class inv in argument_from c l.0 n i l.1 v l.2 l.3 h

  -- a result of an invocation, and a turn's flag
  pub result_from : (c : Context) (j : ℕ) (v : Value) → Came z (tagged c (AtOut j) (Operand 0) v) → ResultIn z c j v × (IsTurned c → ⊥)
  result_from c j v h =
      ⊎_elim (λ (u : Used z (tagged c (AtOut j) (Operand 0) v)). (of_use u.block u.node u.port u.is_block u.gives u.using_it, u.ends))
      (λ o. ⊎_elim (λ e. let s = e.statement in absurd (cc)) (λ t. let p = t.port in absurd (cc)) o) (origin _ h)
    where
      of_use : (k : Block ℕ) (n p : ℕ) → block_of z.flow c ≡ Some k → GivesIn z c n p v → UseOf k c n p (AtOut j) (Operand 0) → ResultIn z c j v
      of_use k n p ek g (AsResult j' es eq src) =
          let js : j' ≡ j = cc in
          let s = source_of n p (slice_get k.results j') src in
          has_some z c _ s.0 v (result_is z c k j s.0 ek (ap (λ j. slice_get k.results j) (sym js) ∙ s.1))
          (subst₂ (λ n p. GivesIn z c n p v) (sym s.2) (sym s.3) g)
      of_use k n p ek g (AsOperand m i node es eq low el src) = absurd (cc)
      of_use k n p ek g (AsFlag j' es eq low high src turned) = absurd (cc)
      of_use k n p ek g (AsCarried j' es eq low src) = absurd (cc)

  pub flag_from : (c : Context) (j : ℕ) (v : Value) → Came z (tagged c (AtTurn j) Flag v) → ResultIn z c 0 v
  flag_from c j v h =
      ⊎_elim (λ (u : Used z (tagged c (AtTurn j) Flag v)). of_use u.block u.node u.port u.is_block u.gives u.using_it)
      (λ o. ⊎_elim (λ e. let s = e.statement in absurd (cc)) (λ t. let p = t.port in absurd (cc)) o) (origin _ h)
    where
      of_use : (k : Block ℕ) (n p : ℕ) → block_of z.flow c ≡ Some k → GivesIn z c n p v → UseOf k c n p (AtTurn j) Flag → ResultIn z c 0 v
      of_use k n p ek g (AsFlag j' es eq low high src turned) =
          let s = source_of n p (slice_get k.results 0) src in
          has_some z c _ s.0 v (result_is z c k 0 s.0 ek s.1) (subst₂ (λ n p. GivesIn z c n p v) (sym s.2) (sym s.3) g)
      of_use k n p ek g (AsResult j' es eq src) = absurd (cc)
      of_use k n p ek g (AsOperand m i node es eq low el src) = absurd (cc)
      of_use k n p ek g (AsCarried j' es eq low src) = absurd (cc)

  pub carried_from : (c : Context) (j : ℕ) (v : Value) → Came z (tagged c (AtTurn j) Carried v) → ResultIn z c j v × (1 ≤ j) × IsTurned c
  carried_from c j v h =
      ⊎_elim (λ (u : Used z (tagged c (AtTurn j) Carried v)). let r = of_use u.block u.node u.port u.is_block u.gives u.using_it in (r.0, r.1, u.ends))
      (λ o. ⊎_elim (λ e. let s = e.statement in absurd (cc)) (λ t. let p = t.port in absurd (cc)) o) (origin _ h)
    where
      of_use : (k : Block ℕ) (n p : ℕ) → block_of z.flow c ≡ Some k → GivesIn z c n p v → UseOf k c n p (AtTurn j) Carried → ResultIn z c j v × (1 ≤ j)
      of_use k n p ek g (AsCarried j' es eq low src) =
          let js : j' ≡ j = cc in
          let s = source_of n p (slice_get k.results j') src in (
            has_some z c _ s.0 v (result_is z c k j s.0 ek (ap (λ j. slice_get k.results j) (sym js) ∙ s.1))
                (subst₂ (λ n p. GivesIn z c n p v) (sym s.2) (sym s.3) g),
            omega (arith, low, js),
          )
      of_use k n p ek g (AsResult j' es eq src) = absurd (cc)
      of_use k n p ek g (AsOperand m i node es eq low el src) = absurd (cc)
      of_use k n p ek g (AsFlag j' es eq low high src turned) = absurd (cc)

  -- the value of an input
  pub entered_input : (c : Context) (i : ℕ) (v : Value) → Entered z c i v → InputIn z c i v
  entered_input c i v (ByStart w ec ei ev) = subst (λ c. InputIn z c i v) (sym ec) (w, ei, ev)
  entered_input c i v (ByCall d n k ec class inv h) = subst (λ c. InputIn z c i v) (sym ec) (invoking_argument d n i v k class inv h)
  entered_input c i v (ByLoop d n ec class h) = subst (λ c. InputIn z c i v) (sym ec) (invoking_argument d n i v Looping class tt h)
  entered_input c i v (ByTurn d n t ec h) = subst (λ c. InputIn z c i v) (sym ec) (carried_from (Turned d n t) (i + 1) v h).0

  pub input_from : (c : Context) (b : Block ℕ) (i : ℕ) (v : Value) → block_of z.flow c ≡ Some b → i < b.inputs → Came z (tagged c (AtNode i) (Operand 0) v)
      → InputIn z c i v
  input_from c b i v eb low h =
      ⊎_elim (λ (u : Used z (tagged c (AtNode i) (Operand 0) v)). absurd (no_use u.block u.node u.port u.is_block u.using_it))
      (λ o. ⊎_elim (λ (e : Entering z (tagged c (AtNode i) (Operand 0) v)). let s = e.statement in let same : e.input ≡ i = cc in
      subst (λ i. InputIn z c i v) same (entered_input c e.input v e.entered))
      (λ t. let p = t.port in absurd (cc)) o) (origin _ h)
    where
      no_use : (k : Block ℕ) (n p : ℕ) → block_of z.flow c ≡ Some k → UseOf k c n p (AtNode i) (Operand 0) → ⊥
      no_use k n p ek (AsOperand m i' node es eq past el src) =
          let blocks = ap (λ (b : Block ℕ). b.inputs) (same_Some k b (sym ek ∙ eb)) in
          let ms : i ≡ m = cc in omega (arith, blocks, ms, past, low)
      no_use k n p ek (AsResult j' es eq src) = absurd (cc)
      no_use k n p ek (AsFlag j' es eq low' high src turned) = absurd (cc)
      no_use k n p ek (AsCarried j' es eq low' src) = absurd (cc)
