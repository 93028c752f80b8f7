-- What an instruction makes of its words, where they are of their kinds: except those of a loop's credits, none excludes them.
use Rattle.std.proofs.Common.{◌≡◌, ℕ, ◌+◌, Bool, true, false, List, refl, sym, ap, ◌∙◌, subst, true≢false, Option, Some, None}
use Rattle.tags.specs.declared.value.Value.{Value}
use Rattle.tags.specs.declared.token.Port.{Port}
use Rattle.tags.specs.declared.token.Port.TheVariants.{Left, Right}
use Rattle.tags.specs.declared.token.Cont.{Cont}
use Rattle.tags.specs.declared.token.Word.{Word}
use Rattle.tags.specs.declared.token.Token.{Token}
use Rattle.tags.specs.declared.slot.SlotState.{SlotState}
use Rattle.tags.specs.declared.slot.SlotState.TheVariants.{Empty}
use Rattle.semantics.specs.declared.graph.Kind.{Kind}
use Rattle.semantics.specs.declared.program.Op.{Op}
use Rattle.semantics.specs.Graph.{Flow, Node, node_at}
use Rattle.semantics.specs.Meaning.{Context, Main, Called, Turned}
use Rattle.semantics.specs.Plan.{Plan}
use Rattle.semantics.specs.Program.{Instr}
use Rattle.semantics.specs.Rule.{Point, fires, fire_one, fire_two, meets, alone, outcome_of, slot_of}
use Rattle.semantics.specs.Machine.{excluded_by}
use Rattle.law_net.specs.ContextsParts.{Part, Line, Trigger, Gate, Opener, Framer, Linker, Sender, Landing, Giver, Taker, Drainer, Strict, Result, TurnCont}
use Rattle.law_net.specs.ContextsParts.{TurnFlag, TurnValue, Asker, NextFramer, NextSender, LastReturn, DrainReturn, Join, End, Note, Datum, FrameOf, Firing}
use Rattle.law_net.specs.ContextsBlocks.{is_pair, pair_kind, waits_in, there_in, op_of, line_op, kind_op, callee_code}
use Rattle.law_net.specs.Contexts.{Wires, block_in, site_in, wiring_in, child, next, return_of}
use Rattle.law_net.specs.ContextsWires.{arrives_at}
use Rattle.law_net.specs.ContextsLaws.{Carries}
use Rattle.law_net.specs.ContextsMirror.{frame_of, ip_of, word_of}
use Rattle.law_net.specs.Credits.{is_credit_part}

module _ (fl : Flow) (p : Plan) (w : Wires) (fired : List Firing) (point : Point) (i : Instr) (c : Context) where
  abbrev word : Note → Word
  word k = word_of fl p w fired k

  abbrev Free : Option (List Token) → Type 0
  Free made = excluded_by (fires Empty made) ≡ None

  -- an operation with two words, both values
  pair_fires : (n : ℕ) (v u : Value) → is_pair (block_in fl c) n ≡ true
      → Free (fire_two p.program point i (line_op (block_in fl c) n) (Word.Val v) (Word.Val u))
  pair_fires n v u h = go (node_at (block_in fl c) n) h
    where
      by_kind : (kind : Kind ℕ) → pair_kind kind ≡ true → Free (fire_two p.program point i (kind_op kind) (Word.Val v) (Word.Val u))
      by_kind (Kind.Apply2 op) h = refl
      by_kind (Kind.Store a) h = refl
      by_kind kind h = absurd (true≢false (sym h))

      go : (o : Option (Node ℕ)) → (elim o as (λ x. Bool) [ None ↦ false | Some line ↦ pair_kind line.kind ]) ≡ true
          → Free (fire_two p.program point i (elim o as (λ x. Op) [ None ↦ Op.Copy | Some line ↦ kind_op line.kind ]) (Word.Val v) (Word.Val u))
      go None h = absurd (true≢false (sym h))
      go (Some line) h = by_kind line.kind h

  abbrev op_here : Part → Op
  op_here r = op_of w.variant (site_in fl w c) r

  abbrev Fires : Part → Note → Note → Type 0
  Fires r l k = Free (fire_two p.program point i (op_here r) (word l) (word k))

  of_value : (P : Word → Type 0) (k : Note) → (v : Value) × (k ≡ Datum v) → ((v : Value) → P (Word.Val v)) → P (word k)
  of_value P k (v, e) h = subst (λ (k : Note). P (word k)) (sym e) (h v)

  of_frame : (P : Word → Type 0) (k : Note) (d : Context) → k ≡ FrameOf d → ((f : ℕ) → P (Word.Frame f)) → P (word k)
  of_frame P k d e h = subst (λ (k : Note). P (word k)) (sym e) (h (frame_of fl fired d))

  of_return : (P : Word → Type 0) (k : Note) → k ≡ return_of c → ((x : Cont) → P (Word.Back x)) → P (word k)
  of_return P k e h = subst (λ (k : Note). P (word k)) (sym e) (go c)
    where
      go : (d : Context) → P (word (return_of d))
      go Main = h (Cont.Host 0)
      go (Called d n) = h (Cont.Frame (frame_of fl fired d) (ip_of fl p w d (Landing n 0)) Left)
      go (Turned d n t) = h (Cont.Frame (frame_of fl fired d) (ip_of fl p w d (Landing n 0)) Left)

  -- two words meet
  return_fires : (j : ℕ) (l k : Note) → l ≡ return_of c → (v : Value) × (k ≡ Datum v) → Free (fire_two p.program point i (Op.Return j) (word l) (word k))
  return_fires j l k a b =
      of_return (λ (x : Word). Free (fire_two p.program point i (Op.Return j) x (word k))) l a
      (λ x. of_value (λ (y : Word). Free (fire_two p.program point i (Op.Return j) (Word.Back x) y)) k b (λ v. refl))

  switch_fires : (l k : Note) → (v : Value) × (k ≡ Datum v) → Free (fire_two p.program point i Op.Switch (word l) (word k))
  switch_fires l k b = of_value (λ (y : Word). Free (fire_two p.program point i Op.Switch (word l) y)) k b (λ v. refl)

  send_fires : (b e : ℕ) (d : Context) (l k : Note) → l ≡ FrameOf d → Free (fire_two p.program point i (Op.Send b e) (word l) (word k))
  send_fires b e d l k a = of_frame (λ (x : Word). Free (fire_two p.program point i (Op.Send b e) x (word k))) l d a (λ f. refl)

  pub two_fire : (r : Part) → waits_in (block_in fl c) r ≡ true → (t u : ℕ) (l k : Note) → Carries fl w c t (arrives_at r Left) l
      → Carries fl w c u (arrives_at r Right) k → Fires r l k
  two_fire (Line n) e t u l k a b = of_value (λ (x : Word). Free (fire_two p.program point i (line_op (block_in fl c) n) x (word k))) l a
      (λ v. of_value (λ (y : Word). Free (fire_two p.program point i (line_op (block_in fl c) n) (Word.Val v) y)) k b (λ u. pair_fires n v u e))
  two_fire (Trigger n) e t u l k a b = switch_fires l k b
  two_fire (Gate n) e t u l k a b = switch_fires l k b
  two_fire (Result j) e t u l k a b = return_fires j l k a b
  two_fire (Join r j) e t u l k a b = refl
  two_fire End e t u l k a b = of_return (λ (x : Word). Free (fire_two p.program point i (op_here End) x (word k))) l a (λ x. refl)
  two_fire (Sender n j) e t u l k a b = send_fires (callee_code w.variant (block_in fl c) n) (j + 1) (child fl c n) l k a
  two_fire (Strict n j) e t u l k a b = refl
  two_fire TurnCont e t u l k a b = switch_fires l k b
  two_fire TurnFlag e t u l k a b = switch_fires l k b
  two_fire (TurnValue j) e t u l k a b = switch_fires l k b
  two_fire Asker e t u l k a b = of_return (λ (x : Word). Free (fire_two p.program point i (op_here Asker) x (word k))) l a (λ x. refl)
  two_fire (NextSender j) e t u l k a b = send_fires (site_in fl w c).own j (next c) l k a
  two_fire (LastReturn j) e t u l k a b = return_fires j l k a b
  two_fire DrainReturn e t u l k a b = return_fires ((block_in fl c).inputs + 2) l k a b
  two_fire r e t u l k a b = absurd (true≢false (sym e))

  abbrev IsTwo : Op → Type 0
  IsTwo o = (slot_of i o ≡ Some i.slot) × ((st : SlotState) (x : Port) (k : Word) → outcome_of p.program point i o st x k ≡ meets p.program point i st x k)

  line_two : (n : ℕ) → is_pair (block_in fl c) n ≡ true → IsTwo (line_op (block_in fl c) n)
  line_two n h = go (node_at (block_in fl c) n) h
    where
      by_kind : (kind : Kind ℕ) → pair_kind kind ≡ true → IsTwo (kind_op kind)
      by_kind (Kind.Apply2 op) h = (refl, λ st x k. refl)
      by_kind (Kind.Store a) h = (refl, λ st x k. refl)
      by_kind kind h = absurd (true≢false (sym h))

      go : (o : Option (Node ℕ)) → (elim o as (λ x. Bool) [ None ↦ false | Some line ↦ pair_kind line.kind ]) ≡ true
          → IsTwo (elim o as (λ x. Op) [ None ↦ Op.Copy | Some line ↦ kind_op line.kind ])
      go None h = absurd (true≢false (sym h))
      go (Some line) h = by_kind line.kind h

  pub are_two : (r : Part) → waits_in (block_in fl c) r ≡ true → IsTwo (op_here r)
  are_two (Line n) e = line_two n e
  are_two (Trigger n) e = (refl, λ st x k. refl)
  are_two (Gate n) e = (refl, λ st x k. refl)
  are_two (Result j) e = (refl, λ st x k. refl)
  are_two (Join r j) e = (refl, λ st x k. refl)
  are_two End e = (refl, λ st x k. refl)
  are_two (Sender n j) e = (refl, λ st x k. refl)
  are_two (Strict n j) e = (refl, λ st x k. refl)
  are_two TurnCont e = (refl, λ st x k. refl)
  are_two TurnFlag e = (refl, λ st x k. refl)
  are_two (TurnValue j) e = (refl, λ st x k. refl)
  are_two Asker e = (refl, λ st x k. refl)
  are_two (NextSender j) e = (refl, λ st x k. refl)
  are_two (LastReturn j) e = (refl, λ st x k. refl)
  are_two DrainReturn e = (refl, λ st x k. refl)
  are_two r e = absurd (true≢false (sym e))

  -- one word alone
  abbrev Alone : Op → Note → Type 0
  Alone o k = (st : SlotState) → i.op ≡ o → excluded_by (outcome_of p.program point i o st Left (word k)) ≡ None

  alone_fires : (o : Op) (k : Note) (st : SlotState) → i.op ≡ o → (made : List Token) → fire_one p.program point i o (word k) ≡ Some made
      → excluded_by (alone p.program point i st Left (word k)) ≡ None
  alone_fires o k st e made h =
      ap (λ (o : Op). excluded_by (fires st (fire_one p.program point i o (word k)))) e ∙ ap (λ (x : Option (List Token)). excluded_by (fires st x)) h

  line_alone : (n : ℕ) (k : Note) → is_pair (block_in fl c) n ≡ false → (v : Value) × (k ≡ Datum v) → Alone (line_op (block_in fl c) n) k
  line_alone n k h (v, e) = go (node_at (block_in fl c) n) h
    where
      at_word : (o : Op) → Alone o (Datum v) → Alone o k
      at_word o a = subst (λ (k : Note). Alone o k) (sym e) a

      by_kind : (kind : Kind ℕ) → pair_kind kind ≡ false → Alone (kind_op kind) (Datum v)
      by_kind (Kind.Apply2 op) h = absurd (true≢false h)
      by_kind (Kind.Store a) h = absurd (true≢false h)
      by_kind (Kind.Lit z) h = λ st g. alone_fires (Op.Lit z) (Datum v) st g _ refl
      by_kind (Kind.Apply1 op) h = λ st g. alone_fires (Op.Apply1 op) (Datum v) st g _ refl
      by_kind (Kind.Fetch a) h = λ st g. alone_fires (Op.Fetch a) (Datum v) st g _ refl
      by_kind kind h = λ st g. alone_fires Op.Copy (Datum v) st g _ refl

      go : (o : Option (Node ℕ)) → (elim o as (λ x. Bool) [ None ↦ false | Some line ↦ pair_kind line.kind ]) ≡ false
          → Alone (elim o as (λ x. Op) [ None ↦ Op.Copy | Some line ↦ kind_op line.kind ]) k
      go None h = at_word Op.Copy (λ st g. alone_fires Op.Copy (Datum v) st g _ refl)
      go (Some line) h = at_word (kind_op line.kind) (by_kind line.kind h)

  copy_alone : (k : Note) → Alone Op.Copy k
  copy_alone k st g = alone_fires Op.Copy k st g _ refl

  frame_alone : (k : Note) → Alone Op.Frame k
  frame_alone k st g = alone_fires Op.Frame k st g _ refl

  link_alone : (b : ℕ) (d : Context) (k : Note) → k ≡ FrameOf d → Alone (Op.Link b) k
  link_alone b d k e = subst (λ (k : Note). Alone (Op.Link b) k) (sym e) (λ st g. alone_fires (Op.Link b) (FrameOf d) st g _ refl)

  pub one_alone : (r : Part) → there_in fl (site_in fl w c) (wiring_in fl w c) r ≡ true → is_credit_part r ≡ false → waits_in (block_in fl c) r ≡ false
      → (t : ℕ) (k : Note) → Carries fl w c t (arrives_at r Left) k → Alone (op_here r) k
  one_alone (Line n) h u e t k a = line_alone n k e a
  one_alone (Opener n) h u e t k a = absurd (true≢false u)
  one_alone (Giver n) h u e t k a = absurd (true≢false u)
  one_alone (Taker n) h u e t k a = absurd (true≢false u)
  one_alone (Drainer n) h u e t k a = absurd (true≢false u)
  one_alone (Framer n) h u e t k a = frame_alone k
  one_alone NextFramer h u e t k a = frame_alone k
  one_alone (Linker n) h u e t k a = link_alone (callee_code w.variant (block_in fl c) n) (child fl c n) k a
  one_alone (Trigger n) h u e t k a = absurd (true≢false e)
  one_alone (Gate n) h u e t k a = absurd (true≢false e)
  one_alone (Result j) h u e t k a = absurd (true≢false e)
  one_alone (Join r j) h u e t k a = absurd (true≢false e)
  one_alone End h u e t k a = absurd (true≢false e)
  one_alone (Sender n j) h u e t k a = absurd (true≢false e)
  one_alone (Strict n j) h u e t k a = absurd (true≢false e)
  one_alone TurnCont h u e t k a = absurd (true≢false e)
  one_alone TurnFlag h u e t k a = absurd (true≢false e)
  one_alone (TurnValue j) h u e t k a = absurd (true≢false e)
  one_alone Asker h u e t k a = absurd (true≢false e)
  one_alone (NextSender j) h u e t k a = absurd (true≢false e)
  one_alone (LastReturn j) h u e t k a = absurd (true≢false e)
  one_alone DrainReturn h u e t k a = absurd (true≢false e)
  one_alone r h u e t k a = copy_alone k
