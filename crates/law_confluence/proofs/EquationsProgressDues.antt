-- The inputs of each invocation that is due have arrived: so each port of each node that is taken in it has a value.
use Rattle.std.proofs.Common.{◌≡◌, ℕ, ℤ, zero, suc, ◌+◌, ◌<◌, [], ◌∷◌, length, Some, map, refl, sym, ap, ◌∙◌, subst, arith, Contains}
use Rattle.tags.specs.declared.value.Value.{Value}
use Rattle.tags.specs.declared.value.Value.TheVariants.{Int}
use Rattle.operators.specs.Values.{truth}
use Rattle.semantics.specs.declared.graph.Kind.{Kind}
use Rattle.semantics.specs.declared.graph.Kind.TheVariants.{Call, StrictCall, Loop}
use Rattle.semantics.specs.Graph.{Node, Block, node_at}
use Rattle.semantics.specs.Meaning.{Context, Main, Called, Turned, AtNode, AtTurn, Operand, Flag, tagged, Fires, block_of, callee, node_in, node_of, start}
use Rattle.semantics.specs.Meaning.{HadTrueFlag, arm_of, IsCall, IsLoop}
use Rattle.lemmas.proofs.Permutations.{Within, within_to}
use Rattle.lemmas.proofs.SliceGet.{get_some}
use Rattle.law_confluence.proofs.History.{length_ints, stood_at}
use Rattle.law_confluence.specs.EquationsHave.{ports_in, ports_at}
use Rattle.law_confluence.proofs.EquationsGraphForms.{HasForm, InRegion}
use Rattle.law_confluence.proofs.EquationsRunRested.{Rested, Came, IsDueIn, RegionTaken, one_at}
use Rattle.law_confluence.proofs.EquationsRunUses.{entering_within}
use Rattle.law_confluence.proofs.EquationsRunRegions.{TakenIn, block_shaped, taken_in}
use Rattle.law_confluence.proofs.EquationsProgressNodes.{Given, input_fires}
use Rattle.law_confluence.proofs.EquationsProgressInvocations.{InputsCame, SourcesHave, all_have, progress, own_sources, invoked_block, call_came}
use Rattle.law_confluence.proofs.EquationsProgressInvocations.{strict_came, loop_came, next_inputs, turn_flag}

pub record Open (z : Rested) (c : Context) : Type 0 where
  pub block : Block ℕ
  pub is_block : block_of z.flow c ≡ Some block
  pub came : InputsCame z c block

-- the sources of a node in its own region have values
pub sources_have : (z : Rested) (c : Context) → IsDueIn z c → (o : Open z c) (n : ℕ) (line : Node ℕ) → node_at o.block n ≡ Some line
    → InRegion o.block line.region line.sources → RegionTaken z c o.block line.region → SourcesHave z c line
sources_have z c due o n line el lie h =
    own_sources z (suc (length z.run)) (progress z (suc (length z.run))) c o.block o.is_block due (omega arith) o.came n line line.region el
    (λ m p low t e. all_have z c o.block o.is_block due o.came m p t e) lie h

pub line_in : (z : Rested) (c : Context) (o : Open z c) (n : ℕ) (line : Node ℕ) → node_of z.flow c n ≡ Some line → node_at o.block n ≡ Some line
line_in z c o n line e = sym (ap (λ b. node_in b n) o.is_block) ∙ e

module _ (z : Rested) (c : Context) (due : IsDueIn z c) (o : Open z c) (n : ℕ) (line : Node ℕ) (en : node_of z.flow c n ≡ Some line)
    (taken : TakenIn z c n) where
  el : node_at o.block n ≡ Some line
  el = line_in z c o n line en

  region : RegionTaken z c o.block line.region
  region = subst (λ l. RegionTaken z c o.block (arm_of l)) el (taken_in z c o.block o.is_block n taken)

  called : (kind : Kind ℕ) → line.kind ≡ kind → IsCall kind → HasForm z.flow o.block line.region kind line.sources → Open z (Called c n)
  called (Call f) ek h form =
      record {
        block = form.0.0;
        is_block = invoked_block z.flow c o.block n f line form.0.0 o.is_block el (ap callee ek) form.0.1;
        came = call_came z c o.block o.is_block n line el (sources_have z c due o n line el form.1 region) f form.0.0 ek form.0.2;
      }
  called (StrictCall f) ek h form =
      record {
        block = form.0.0;
        is_block = invoked_block z.flow c o.block n f line form.0.0 o.is_block el (ap callee ek) form.0.1;
        came = (strict_came z c o.block o.is_block n line el (sources_have z c due o n line el form.1 region) f form.0.0 ek form.0.2).1;
      }
  called kind ek h form = absurd h

  turned : (kind : Kind ℕ) → line.kind ≡ kind → IsLoop kind → HasForm z.flow o.block line.region kind line.sources → (t : ℕ) → IsDueIn z (Turned c n t)
      → Open z (Turned c n t)
  turned (Loop f k) ek h form zero turn =
      record {
        block = form.0.0;
        is_block = invoked_block z.flow c o.block n f line form.0.0 o.is_block el (ap callee ek) form.0.1;
        came = loop_came z c o.block o.is_block n line el (sources_have z c due o n line el form.1 region) f k form.0.0 ek form.0.2;
      }
  turned (Loop f k) ek h form (suc t) turn =
      let earlier : IsDueIn z (Turned c n t) = (turn.0, turn.1, turn.2, λ j low. turn.3 j (omega (arith, low))) in
      let last = turned (Loop f k) ek h form t earlier in
      again t last earlier (turn.3 t (omega arith)) (ap (λ b. b) last.is_block)
    where
      to : Block ℕ
      to = form.0.0

      is_to : (t : ℕ) → block_of z.flow (Turned c n t) ≡ Some to
      is_to t = invoked_block z.flow c o.block n f line to o.is_block el (ap callee ek) form.0.1

      again : (t : ℕ) (last : Open z (Turned c n t)) → IsDueIn z (Turned c n t) → HadTrueFlag (Came z) (Turned c n t)
          → block_of z.flow (Turned c n t) ≡ Some last.block → Open z (Turned c n (suc t))
      again t last turn flag e =
          let same : last.block ≡ to = let f = sym e ∙ is_to t in cc in
          let came : InputsCame z (Turned c n t) to = subst (λ b. InputsCame z (Turned c n t) b) same last.came in
          let all = all_have z (Turned c n t) to (is_to t) turn came in
          let q = turn_flag z (suc (length z.run)) (progress z (suc (length z.run))) c o.block o.is_block due
          (omega arith) o.came n f k line to el ek form.0.1 form.0.2 form.0.3 t all in
          let law = (z.lawful _ flag.2).1 in
          let blocks = ap (λ (b : Block ℕ). b.inputs) (let f = sym law.1 ∙ is_to t in let g : law.0 ≡ to = cc in g) in
          let mine = q.1 flag.0 law.2 (omega (arith, law.3, blocks)) in
          let values = one_at z (Turned c n t) (AtTurn flag.0) Flag q.0 flag.1 mine flag.2 in
          let next = next_inputs z (suc (length z.run)) (progress z (suc (length z.run))) c o.block o.is_block due
          (omega arith) o.came n f k line to el ek form.0.1 form.0.2 form.0.3 t turn all q.0 q.1 (ap truth values ∙ flag.3) in
          let turn : t + 1 ≡ suc t = omega arith in
          record { block = to; is_block = is_to (suc t); came = subst (λ t. InputsCame z (Turned c n t) to) turn next }
  turned kind ek h form t turn = absurd h

-- the inputs of each invocation that is due have arrived
pub due_open : (z : Rested) (c : Context) → IsDueIn z c → Open z c
due_open z Main due = record {
  block = z.main;
  is_block = z.is_main;
  came = λ i low.
      let v = get_some (map (λ (w : ℤ). Int w) z.inputs) i (omega (arith, low, z.count, length_ints z.inputs)) in
      let at : 0 + i ≡ i = omega arith in (
        v.0,
        stood_at z.flow (start z.inputs) z.state z.run z.is_run _
            (within_to _ _ (subst (λ j. Within (tagged Main (AtNode j) (Operand 0) v.0) (start z.inputs).tokens) at
            (entering_within Main 0 (map (λ (w : ℤ). Int w) z.inputs) i v.0 v.1))),
      );
}
due_open z (Called c n) due =
    let o = due_open z c due.0 in
    let line = due.1 in
    called z c due.0 o n line.0 line.1 due.2 line.0.kind refl line.2 ((block_shaped z c o.block o.is_block).lines n line.0 (line_in z c o n line.0 line.1)).form
due_open z (Turned c n t) due =
    let o = due_open z c due.0 in
    let line = due.1 in
    turned z c due.0 o n line.0 line.1 due.2 line.0.kind refl line.2
    ((block_shaped z c o.block o.is_block).lines n line.0 (line_in z c o n line.0 line.1)).form t due

-- so each port of each node that is taken has a value
pub taken_given : (z : Rested) (c : Context) (n p : ℕ) → IsDueIn z c → TakenIn z c n → p < ports_at z.flow c n → Given z c n p
taken_given z c n p due taken low =
    let o = due_open z c due in
    all_have z c o.block o.is_block due o.came n p (taken_in z c o.block o.is_block n taken) (subst (λ b. p < ports_in z.flow b n) o.is_block low)

-- and each has an activity, of its first input
pub active : (z : Rested) (c : Context) → IsDueIn z c → (v : Value) × Contains z.run (Fires c 0 (v ∷ []))
active z c due =
    let o = due_open z c due in
    let low = (block_shaped z c o.block o.is_block).some_input in
    let x = o.came 0 low in
    (x.0, within_to (Fires c 0 (x.0 ∷ [])) z.run (input_fires z c o.block o.is_block 0 x.0 low x.1))
