-- The instruction that asks the manager for a frame.
use Rattle.std.proofs.Common.{◌≡◌, ℕ, ◌+◌, true, false, List, [], ◌∷◌, ◌++◌, map, refl, sym, ap, ◌∙◌, subst, inr, arith, true≢false, None}
use Rattle.std.specs.Prelude.{Contains}
use Rattle.std.proofs.lemmas.List.Sorted.{IsPermutation-sym}
use Rattle.lemmas.proofs.Contains.{contains_head}
use Rattle.tags.specs.declared.token.Port.{Port}
use Rattle.tags.specs.declared.token.Port.TheVariants.{Left}
use Rattle.tags.specs.declared.token.Cont.{Cont}
use Rattle.tags.specs.declared.token.Word.{Word}
use Rattle.tags.specs.declared.token.To.{To}
use Rattle.tags.specs.declared.token.Token.{Token}
use Rattle.tags.specs.declared.slot.SlotState.TheVariants.{Empty}
use Rattle.semantics.specs.declared.program.Dest.{Dest}
use Rattle.semantics.specs.declared.program.Op.{Op}
use Rattle.semantics.specs.declared.program.Op.TheVariants as Ops
use Rattle.semantics.specs.Graph.{Flow}
use Rattle.semantics.specs.Meaning.{Context}
use Rattle.semantics.specs.Program.{Instr}
use Rattle.semantics.specs.Plan.{Plan}
use Rattle.semantics.specs.Rule.{token, answer_to, outcome_of, fires, fire_one, slot_of as uses_of}
use Rattle.semantics.specs.Machine.{Fires, slot_in}
use Rattle.semantics.specs.Sharing.{arc, inlet as port_at}
use Rattle.semantics.specs.Arcs.{UsesArc, UsesBy}
use Rattle.law_confluence.proofs.Orders.{at_last}
use Rattle.law_reuse.proofs.SlotsUsedArcs.{stands_arcs}
use Rattle.law_fresh_frames.specs.Alike.{plain_dests}
use Rattle.law_fresh_frames.proofs.FreshArcs.{dest_arc}
use Rattle.law_net.specs.ContextsParts.{Part, Asked, NextAsked, inlet, Note, BackTo, Item, item, Firing}
use Rattle.law_net.specs.ContextsBlocks.{side, waits_in, op_of}
use Rattle.law_net.specs.Contexts.{Wires, block_in, code_in, site_in, wiring_in}
use Rattle.law_net.specs.ContextsWires.{leads_to, ip_and_port, answered_at, has_no_wire}
use Rattle.law_net.specs.ContextsFirings.{Config}
use Rattle.law_net.specs.ContextsMirror.{frame_of, ip_of, word_of, to_of, token_of, is_asked, is_in_cell, is_instr, row_of}
use Rattle.law_machine_refines_net.specs.MovesCases.{Taking, net_of, IsFree}
use Rattle.law_machine_refines_net.proofs.MovesParts.{is_credit}
use Rattle.law_machine_refines_net.proofs.MovesBalanced.{UsedNow}
use Rattle.law_machine_refines_net.proofs.MovesFitted.{fits, code, taken_here, lone_port}
use Rattle.law_machine_refines_net.proofs.SendsRules.{at, instr, stood, happens, goes_to, grants, releases, free_of}
use Rattle.law_machine_refines_net.proofs.CellsAnswered.{one_image}

-- THE MANAGER'S PART
pub asked_calm : (r : Part) → is_asked r ≡ true → is_credit r ≡ false
asked_calm (Asked n) e = refl
asked_calm NextAsked e = refl
asked_calm r e = absurd (true≢false (sym e))

pub asked_held : (r : Part) → is_asked r ≡ true → is_in_cell r ≡ false
asked_held (Asked n) e = refl
asked_held NextAsked e = refl
asked_held r e = absurd (true≢false (sym e))

pub asked_instr : (r : Part) → is_asked r ≡ true → is_instr r ≡ false
asked_instr (Asked n) e = refl
asked_instr NextAsked e = refl
asked_instr r e = absurd (true≢false (sym e))

pub asked_to : (fl : Flow) (p : Plan) (w : Wires) (fired : List Firing) (i : Item) (r : Part) → is_asked r ≡ true → to_of fl p w fired i r ≡ To.Manager
asked_to fl p w fired i (Asked n) e = refl
asked_to fl p w fired i NextAsked e = refl
asked_to fl p w fired i r e = absurd (true≢false (sym e))

-- WHO ASKS for a frame: the part of the manager's event, and that to which it answers
pub record Wants (s : Taking) : Type 0 where
  pub asked : Part
  pub answered : Part
  pub one : waits_in (block_in s.fl s.i.context) s.i.inlet.part ≡ false
  pub is : is_instr s.i.inlet.part ≡ true
  pub op : op_of s.w.variant (site_in s.fl s.w s.i.context) s.i.inlet.part ≡ Ops.Frame
  pub leads : answered_at s.i.inlet.part ≡ inlet answered Left 0 ∷ []
  pub no_wire : has_no_wire s.i.inlet.part ≡ true
  pub seek : is_asked asked ≡ true
  pub row : row_of s.fl s.p s.w s.i.context answered ≡ 1

module _ (s : Taking) (g : Wants s) where
  abbrev net : Config
  net = net_of s

  abbrev c : Context
  c = s.i.context

  abbrev r : Part
  r = s.i.inlet.part

  abbrev frame : ℕ
  frame = frame_of s.fl net.fired c

  abbrev ins : Instr
  ins = instr s g.is

  abbrev pub back : Note
  back = BackTo s.i.context (inlet g.answered Left 0)

  abbrev pub request : Item
  request = item s.i.context (inlet g.asked Left 0) (BackTo s.i.context (inlet g.answered Left 0))

  pub op_is : ins.op ≡ Ops.Frame
  op_is = (stood s g.is).is.op ∙ g.op

  -- what the machine does
  pub did : (s.event.made ≡ token To.Manager (Word.Back (answer_to (at s g.is) ins.firsts)) ∷ []) × (s.new.store ≡ s.m.store)
  did =
      let left : s.i.inlet.port ≡ Left = lone_port s.fl c r s.i.inlet.port g.one (fits s s.i (taken_here s)).port in
      let W = word_of s.fl s.p s.w net.fired s.i.word in
      let a = subst (λ (q : Port). Fires s.m.store frame (uses_of ins ins.op)
      (outcome_of s.p.program (at s g.is) ins ins.op (slot_in s.m.store frame (uses_of ins ins.op)) q W) s.event.made s.new.store) left (happens s g.is) in
      let b = subst (λ (o : Op). Fires s.m.store frame (uses_of ins o)
      (outcome_of s.p.program (at s g.is) ins o (slot_in s.m.store frame (uses_of ins o)) Left W) s.event.made s.new.store) op_is a in
      subst (λ (o : Op). Fires s.m.store frame None (fires Empty (fire_one s.p.program (at s g.is) ins o W)) s.event.made s.new.store) op_is b

  -- its one destination
  dest : (d : Dest) × (ins.firsts ≡ d ∷ []) × (ip_and_port (wiring_in s.fl s.w c) (inlet g.answered Left 0) ≡ leads_to ((wiring_in s.fl s.w c).place r) d)
  dest =
      let stand = ip_and_port (wiring_in s.fl s.w c) in
      let none = (code s s.i (taken_here s)).lawful.fed.sides (side r false) (inr g.no_wire) in
      let perm = at_last (stood s g.is).is.firsts (λ t. map stand (g.leads t ++ none t)) in
      one_image (leads_to ((wiring_in s.fl s.w c).place r)) (stand (inlet g.answered Left 0)) ins.firsts (IsPermutation-sym _ _ perm)

  answers : Word.Back (answer_to (at s g.is) ins.firsts) ≡ word_of s.fl s.p s.w net.fired back
  answers =
      let d = dest in
      let far = ap (λ (q : ℕ × Port). q.0) d.2 in
      let port = ap (λ (q : ℕ × Port). q.1) d.2 in
      let place : ip_of s.fl s.p s.w c r + d.0.ahead ≡ ip_of s.fl s.p s.w c g.answered = omega (arith, far) in
      ap (λ ds. Word.Back (answer_to (at s g.is) ds)) d.1 ∙ (λ t. Word.Back (Cont.Frame frame (place t) (sym port t)))

  pub made_token : s.event.made ≡ map (token_of s.fl s.p s.w net.fired) (request ∷ [])
  made_token = did.0 ∙ (λ t. token (sym (asked_to s.fl s.p s.w net.fired request g.asked g.seek) t) (answers t) ∷ [])

  -- the arc of the answer
  used : UsesArc s.p frame (ip_of s.fl s.p s.w c g.answered) Left s.t s.event.made s.new
  used =
      let place = (wiring_in s.fl s.w c).place r in
      let d = dest in
      let far = ap (λ (q : ℕ × Port). q.0) d.2 in
      let port = ap (λ (q : ℕ × Port). q.1) d.2 in
      let t = token (to_of s.fl s.p s.w net.fired request g.asked) (word_of s.fl s.p s.w net.fired back) in
      let inside : Contains (plain_dests ins ins.op) d.0 =
      subst (λ (o : Op). Contains (plain_dests ins o) d.0) (sym op_is)
      (subst (λ (l : List Dest). Contains (l ++ ins.seconds) d.0) (sym d.1) (contains_head d.0 ins.seconds)) in
      let k = dest_arc s.p place ins ins.op d.0 inside in
      record {
        b = code_in s.fl s.w c;
        x = arc place k.0 (port_at (place + d.0.ahead) d.0.port);
        side = s.i.inlet.port;
        i = ins;
        t = t;
        is_arc = stands_arcs s.p (code_in s.fl s.w c) place ins (arc place k.0 (port_at (place + d.0.ahead) d.0.port)) (stood s g.is).stands k.1;
        place = omega (arith, far);
        port = port;
        taken_at = goes_to s g.is;
        fired = (stood s g.is).at;
        is_made = subst (λ (l : List Token). Contains l t) (sym made_token) (contains_head t []);
        uses = subst (λ (o : Op). UsesBy s.p frame (ip_of s.fl s.p s.w c g.answered) Left ins o t s.new) (sym op_is) (inr refl);
      }

  pub used_now : UsedNow s c (inlet g.answered Left 0)
  used_now n l =
      let one = g.row in let z : ip_of s.fl s.p s.w c g.answered ≡ ip_of s.fl s.p s.w c g.answered + n = omega (arith, l, one) in
      subst (λ ip. UsesArc s.p frame ip Left s.t s.event.made s.new) z used

  -- it grants no credit, and releases no turn
  pub wants_free : IsFree s
  wants_free = free_of s g.is (ap grants op_is) (ap releases op_is)
