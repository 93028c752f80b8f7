-- Nothing is given in an invocation that is not due, at a node that is not taken, or on a port that a node does not have; and what a
-- conditional took.
use Rattle.std.proofs.Common.{◌≡◌, ℕ, ◌+◌, ◌<◌, ◌≤◌, Bool, true, false, List, [], ◌∷◌, length, Option, Some, None, nat_lt, if◌then◌else◌, refl, sym, ap, ◌∙◌}
use Rattle.std.proofs.Common.{subst, arith, inl, inr, ◌⊎◌, ⊎_elim}
use Rattle.std.specs.Prelude.{slice_get}
use Rattle.std.proofs.lemmas.Option.{slice_get_within, same_Some}
use Rattle.tags.specs.declared.value.Value.{Value}
use Rattle.semantics.specs.declared.graph.Source.{Source}
use Rattle.semantics.specs.declared.graph.Kind.{Kind}
use Rattle.semantics.specs.declared.graph.Kind.TheVariants.{Lit, Apply1, Apply2, Cond, Enter, Merge, Fetch, Store, Call, StrictCall, Loop}
use Rattle.semantics.specs.Graph.{Node, Block, Flow, node_at}
use Rattle.semantics.specs.Meaning.{Context, Called, Turned, AtNode, Operand, tagged, Fires, Gates, Passes, Returns, taken, block_of, node_of, arm_of, callee}
use Rattle.lemmas.proofs.Permutations.{Within}
use Rattle.lemmas.proofs.SliceGet.{get_some}
use Rattle.law_confluence.proofs.HistoryGrounds.{own_arm, node_class}
use Rattle.law_confluence.proofs.HistoryLaws.{ArmLaw}
use Rattle.law_confluence.proofs.ActivityRows.{Class, Plain, Steering, Gate, Join, Calling, Strict, Looping, Absent, class_of, class_node, class_in, class_at}
use Rattle.law_confluence.proofs.ActivityRows.{region_node, region_in, region_at}
use Rattle.law_confluence.specs.EquationsHave.{result_in, ports_of, ports_line, ports_in, ports_at, outputs_in}
use Rattle.law_confluence.specs.EquationsSettled.{Decides}
use Rattle.law_confluence.proofs.EquationsGraphForms.{HasForm, ports_line_at}
use Rattle.law_confluence.proofs.EquationsRunRested.{Rested, Came, GivesIn, IsDueIn, RegionTaken, one_at}
use Rattle.law_confluence.proofs.EquationsRunUses.{operand_came}
use Rattle.law_confluence.proofs.EquationsRunOrigins.{HasSomeIn, ResultIn, took_all, result_from, has_some, argument_is}
use Rattle.law_confluence.proofs.EquationsRunRegions.{TakenIn, block_shaped, taken_in, in_taken, lawful_taken}
use Rattle.law_confluence.proofs.EquationsProgressInvocations.{invoked_block, merge_form}
use Rattle.law_confluence.proofs.EquationsProgressDues.{due_open, sources_have, line_in}
use Rattle.law_confluence.proofs.EquationsValuesGivers.{Gave, gave, in_turns, merge_side, class_found, joined_line}

module _ (z : Rested) where
  due_by : (c : Context) (n p : ℕ) (v : Value) (k : Class) → Gave z c n p v k → IsDueIn z c
  due_by c n p v Plain h = go h.0 h.6 h.2
    where
      go : (vs : List Value) → 0 < length vs → Within (Fires c n vs) z.run → IsDueIn z c
      go [] l ran = absurd (omega (arith, l))
      go (w ∷ vs) l ran = z.due _ (took_all z (Fires c n (w ∷ vs)) ran).0
  due_by c n p v Gate h = z.due _ (took_all z (Gates c n v h.0) h.2).0
  due_by c n p v Join h = z.due _ (took_all z (Passes c n h.0 v) h.1).0
  due_by c n p v Calling h = let due : IsDueIn z (Called c n) = z.due _ (took_all z (Returns c n p v) h).0 in due.0
  due_by c n p v Strict h = let due : IsDueIn z (Called c n) = z.due _ (took_all z (Returns c n p v) h).0 in due.0
  due_by c n p v Looping h = let due : IsDueIn z (Turned c n h.0) = z.due _ (in_turns z c n h.0 (p + 1) h.1 v h.2).0 in due.0
  due_by c n p v Steering h = absurd h
  due_by c n p v Absent h = absurd h

  pub silent_invocations : (c : Context) (n p : ℕ) (v : Value) → GivesIn z c n p v → IsDueIn z c
  silent_invocations c n p v h = due_by c n p v (class_at z.flow c n) (gave z c n p v h)

  -- a node that takes a token of its own region is taken
  pub operand_taken : (c : Context) (n i : ℕ) (v : Value) → Came z (tagged c (AtNode n) (Operand i) v) → (class_at z.flow c n ≡ Gate → ⊥)
      → (class_at z.flow c n ≡ Join → ⊥) → TakenIn z c n
  operand_taken c n i v h gate join =
      let law = (z.lawful _ h).1 in
      in_taken z c law.0 law.1 n (lawful_taken z c law.0 law.1 n (own_arm z.flow z.well (Came z) z.lawful c n i v h gate join))

  taken_by : (c : Context) (n p : ℕ) (v : Value) (k : Class) → class_at z.flow c n ≡ k → Gave z c n p v k → TakenIn z c n
  taken_by c n p v Plain e h = go h.0 h.6 h.2
    where
      go : (vs : List Value) → 0 < length vs → Within (Fires c n vs) z.run → TakenIn z c n
      go [] l ran = absurd (omega (arith, l))
      go (w ∷ vs) l ran = operand_taken c n 0 w (took_all z (Fires c n (w ∷ vs)) ran).0 (λ f. cc) (λ f. cc)
  taken_by c n p v Gate e h =
      let came = (took_all z (Gates c n v h.0) h.2).1.0 in
      let law = (z.lawful _ came).1 in
      let region = sym h.4 ∙ ap (λ o. region_in o n) law.4 ∙ ap region_node law.5 ∙ law.6 in
      let same : law.2 ≡ h.1 = cc in
      let arm : ArmLaw (Came z) c (region_at z.flow c n) =
      subst (λ r. ArmLaw (Came z) c r) (sym h.4) (h.0, subst (λ k. Came z (tagged c (AtNode k) (Operand 0) h.0)) same law.7, refl) in
      in_taken z c law.0 law.4 n (lawful_taken z c law.0 law.4 n arm)
  taken_by c n p v Join e h =
      let l = joined_line z c n e in
      let came = (took_all z (Passes c n h.0 v) h.1).0 in
      let side = merge_side z c l.block n l.cond h.0 l.line v l.is_block l.is_line l.kind came in
      let form = subst (λ kind. HasForm z.flow l.block l.line.region kind l.line.sources) l.kind
      ((block_shaped z c l.block l.is_block).lines n l.line l.is_line).form in
      let f = merge_form z.flow l.block l.line.region l.cond l.line.sources form in
      let class : class_at z.flow c l.cond ≡ Steering = ap (λ o. class_in o l.cond) l.is_block
      ∙ node_class l.block l.cond (ap class_node side.3.1 ∙ ap class_of side.3.2) in
      let round = taken_in z c l.block l.is_block l.cond (operand_taken c l.cond 0 side.0 side.1 (λ e. cc) (λ e. cc)) in
      in_taken z c l.block l.is_block n (subst (λ r. RegionTaken z c l.block r) (f.4 ∙ ap arm_of (sym l.is_line)) round)
  taken_by c n p v Calling e h = let due : IsDueIn z (Called c n) = z.due _ (took_all z (Returns c n p v) h).0 in due.2
  taken_by c n p v Strict e h = let due : IsDueIn z (Called c n) = z.due _ (took_all z (Returns c n p v) h).0 in due.2
  taken_by c n p v Looping e h = let due : IsDueIn z (Turned c n h.0) = z.due _ (in_turns z c n h.0 (p + 1) h.1 v h.2).0 in due.2
  taken_by c n p v Steering e h = absurd h
  taken_by c n p v Absent e h = absurd h

  pub silent_arms : (c : Context) (n p : ℕ) (v : Value) → GivesIn z c n p v → TakenIn z c n
  silent_arms c n p v h = taken_by c n p v (class_at z.flow c n) refl (gave z c n p v h)

  -- PORTS
  -- the port of a node line is below its count
  line_port : (c : Context) (n p : ℕ) (b : Block ℕ) (line : Node ℕ) → block_of z.flow c ≡ Some b → node_at b n ≡ Some line
      → p < ports_of z.flow line.kind line.sources → p < ports_at z.flow c n
  line_port c n p b line eb el low =
      let same : ports_at z.flow c n ≡ ports_of z.flow line.kind line.sources = ap (λ o. ports_in z.flow o n) eb ∙ ports_line_at z.flow b n line el in
      omega (arith, same, low)

  one_port : (fl : Flow) (kind : Kind ℕ) (ss : List Source) (k : Class) → class_of kind ≡ k → (k ≡ Plain) ⊎ (k ≡ Gate) ⊎ (k ≡ Join) → ports_of fl kind ss ≡ 1
  one_port fl (Lit w) ss k e h = refl
  one_port fl (Apply1 op) ss k e h = refl
  one_port fl (Apply2 op) ss k e h = refl
  one_port fl (Fetch a) ss k e h = refl
  one_port fl (Store a) ss k e h = refl
  one_port fl Enter ss k e h = refl
  one_port fl (Merge c) ss k e h = refl
  one_port fl Cond ss k e h = absurd (⊎_elim (λ f. cc) (λ g. ⊎_elim (λ f. cc) (λ f. cc) g) h)
  one_port fl (Call f) ss k e h = absurd (⊎_elim (λ f. cc) (λ g. ⊎_elim (λ f. cc) (λ f. cc) g) h)
  one_port fl (StrictCall f) ss k e h = absurd (⊎_elim (λ f. cc) (λ g. ⊎_elim (λ f. cc) (λ f. cc) g) h)
  one_port fl (Loop f c) ss k e h = absurd (⊎_elim (λ f. cc) (λ g. ⊎_elim (λ f. cc) (λ f. cc) g) h)

  plain_port : (n : ℕ) (o : Option (Block ℕ)) → class_in o n ≡ Plain → ports_in z.flow o n ≡ 1
  plain_port n None e = cc
  plain_port n (Some b) e = go (nat_lt n b.inputs) (node_at b n) e
    where
      go : (t : Bool) (x : Option (Node ℕ)) → (if t then Plain else class_node x) ≡ Plain → (if t then 1 else ports_line z.flow x) ≡ 1
      go true x f = refl
      go false None f = cc
      go false (Some line) f = one_port z.flow line.kind line.sources Plain f (inl refl)

  -- an invocation with a result has that many outputs
  result_below : (c : Context) (n p f : ℕ) (v : Value) (to : Block ℕ) → block_of z.flow (Called c n) ≡ Some to → slice_get z.flow.blocks f ≡ Some to
      → ResultIn z (Called c n) p v → p < outputs_in (slice_get z.flow.blocks f)
  result_below c n p f v to ed et h =
      let at : HasSomeIn z (Called c n) (slice_get to.results p) v = subst (λ o. HasSomeIn z (Called c n) (result_in o p) v) ed h in
      let low = go (slice_get to.results p) refl at in
      let count = (block_shaped z (Called c n) to ed).count in
      let same : outputs_in (slice_get z.flow.blocks f) ≡ to.outputs = ap outputs_in et in
      omega (arith, low, count, same)
    where
      go : (o : Option Source) → slice_get to.results p ≡ o → HasSomeIn z (Called c n) o v → p < length to.results
      go None e h = absurd h
      go (Some s) e h = slice_get_within to.results p s e

  called_port : (c : Context) (n p : ℕ) (v : Value) (k : Class) → class_at z.flow c n ≡ k → (k ≡ Calling) ⊎ (k ≡ Strict) → Within (Returns c n p v) z.run
      → p < ports_at z.flow c n
  called_port c n p v k e which h =
      let l = class_found (block_of z.flow c) n k e (λ f. ⊎_elim (λ g. cc) (λ g. cc) which) (λ f. ⊎_elim (λ g. cc) (λ g. cc) which) in
      let result = (result_from z (Called c n) p v (took_all z (Returns c n p v) h).0).0 in
      line_port c n p l.0 l.1 l.2 l.3 (go l.0 l.1 l.2 l.3 result l.1.kind refl (subst (λ k. (k ≡ Calling) ⊎ (k ≡ Strict)) (sym l.4) which)
      ((block_shaped z c l.0 l.2).lines n l.1 l.3).form)
    where
      go : (b : Block ℕ) (line : Node ℕ) → block_of z.flow c ≡ Some b → node_at b n ≡ Some line → ResultIn z (Called c n) p v → (kind : Kind ℕ)
          → line.kind ≡ kind → (class_of kind ≡ Calling) ⊎ (class_of kind ≡ Strict)
          → HasForm z.flow b line.region kind line.sources → p < ports_of z.flow kind line.sources
      go b line eb el r (Call f) ek w form =
          result_below c n p f v form.0.0 (invoked_block z.flow c b n f line form.0.0 eb el (ap callee ek) form.0.1) form.0.1 r
      go b line eb el r (StrictCall f) ek w form =
          result_below c n p f v form.0.0 (invoked_block z.flow c b n f line form.0.0 eb el (ap callee ek) form.0.1) form.0.1 r
      go b line eb el r kind ek (inl w) form = absurd (cc)
      go b line eb el r kind ek (inr w) form = absurd (cc)

  loop_port : (c : Context) (n p : ℕ) (v : Value) → class_at z.flow c n ≡ Looping → Gave z c n p v Looping → p < ports_at z.flow c n
  loop_port c n p v e h =
      let l = class_found (block_of z.flow c) n Looping e (λ f. cc) (λ f. cc) in
      let law = (z.lawful _ (in_turns z c n h.0 (p + 1) h.1 v h.2).0).1 in
      line_port c n p l.0 l.1 l.2 l.3 (go l.0 l.1 l.2 l.3 law.0 law.1 law.3 l.1.kind refl l.4 ((block_shaped z c l.0 l.2).lines n l.1 l.3).form)
    where
      go : (b : Block ℕ) (line : Node ℕ) → block_of z.flow c ≡ Some b → node_at b n ≡ Some line → (k : Block ℕ) → block_of z.flow (Turned c n h.0) ≡ Some k
          → p + 1 ≤ k.inputs → (kind : Kind ℕ) → line.kind ≡ kind → class_of kind ≡ Looping
          → HasForm z.flow b line.region kind line.sources → p < ports_of z.flow kind line.sources
      go b line eb el k ed low (Loop f m) ek w form =
          let same = ap (λ (b : Block ℕ). b.inputs)
          (same_Some k form.0.0 (sym ed ∙ invoked_block z.flow c b n f line form.0.0 eb el (ap callee ek) form.0.1)) in
          omega (arith, low, same, form.0.2)
      go b line eb el k ed low kind ek w form = absurd (cc)

  port_by : (c : Context) (n p : ℕ) (v : Value) (k : Class) → class_at z.flow c n ≡ k → Gave z c n p v k → p < ports_at z.flow c n
  port_by c n p v Plain e h = let one = plain_port n (block_of z.flow c) e in omega (arith, one, h.5)
  port_by c n p v Gate e h =
      let l = class_found (block_of z.flow c) n Gate e (λ f. cc) (λ f. cc) in
      line_port c n p l.0 l.1 l.2 l.3 (omega (arith, one_port z.flow l.1.kind l.1.sources Gate l.4 (inr (inl refl)), h.3))
  port_by c n p v Join e h =
      let l = class_found (block_of z.flow c) n Join e (λ f. cc) (λ f. cc) in
      line_port c n p l.0 l.1 l.2 l.3 (omega (arith, one_port z.flow l.1.kind l.1.sources Join l.4 (inr (inr refl)), h.2))
  port_by c n p v Calling e h = called_port c n p v Calling e (inl refl) h
  port_by c n p v Strict e h = called_port c n p v Strict e (inr refl) h
  port_by c n p v Looping e h = loop_port c n p v e h
  port_by c n p v Steering e h = absurd h
  port_by c n p v Absent e h = absurd h

  pub silent_ports : (c : Context) (n p : ℕ) (v : Value) → GivesIn z c n p v → p < ports_at z.flow c n
  silent_ports c n p v h = port_by c n p v (class_at z.flow c n) refl (gave z c n p v h)

  -- CONDITIONALS
  pub decided : (c : Context) (k : ℕ) (line : Node ℕ) → IsDueIn z c → TakenIn z c k → node_of z.flow c k ≡ Some line → line.kind ≡ Cond
      → Decides z.flow z.inputs z.run z.state z.is_run c k
  decided c k line due taken en kind =
      let o = due_open z c due in
      let el = line_in z c o k line en in
      let form = subst (λ kind. HasForm z.flow o.block line.region kind line.sources) kind ((block_shaped z c o.block o.is_block).lines k line el).form in
      let region = subst (λ l. RegionTaken z c o.block (arm_of l)) el (taken_in z c o.block o.is_block k taken) in
      let s = get_some line.sources 0 (omega (arith, form.0)) in
      let g = sources_have z c due o k line el form.1 region 0 s.0 s.1 in
      let came = operand_came z c o.block k 0 line s.0 g.0 o.is_block el s.1 g.1 in
      record {
        value = g.0;
        argument = has_some z c _ s.0 g.0 (argument_is z c o.block k 0 line s.0 o.is_block el s.1) g.1;
        stood = came;
        only = λ w h. one_at z c (AtNode k) (Operand 0) w g.0 h came;
      }
