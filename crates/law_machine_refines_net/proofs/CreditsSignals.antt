-- An instruction of a loop's credits that sends a signal to all its destinations.
use Rattle.std.proofs.Common.{◌≡◌, ℕ, ◌+◌, true, false, List, [], ◌++◌, map, refl, sym, ap, subst, inl, arith, true≢false, append-nil}
use Rattle.std.specs.Prelude.{IsPermutation, Contains}
use Rattle.std.proofs.lemmas.List.{map-append}
use Rattle.std.proofs.lemmas.List.Sorted.{IsPermutation-sym, IsPermutation-append, Contains-permutation}
use Rattle.lemmas.proofs.Contains.{contains_map, contains_mapped}
use Rattle.tags.specs.declared.token.Port.{Port}
use Rattle.tags.specs.declared.slot.SlotState.TheVariants.{Empty}
use Rattle.semantics.specs.declared.program.Dest.{Dest}
use Rattle.semantics.specs.declared.program.Op.TheVariants as Ops
use Rattle.semantics.specs.Graph.{Block}
use Rattle.semantics.specs.Meaning.{Context}
use Rattle.semantics.specs.Program.{Instr, first_of}
use Rattle.semantics.specs.Rule.{at_dest, to_all, signal as word}
use Rattle.semantics.specs.Arcs.{UsesArc}
use Rattle.law_confluence.proofs.Orders.{at_first, at_last}
use Rattle.law_fresh_frames.specs.Alike.{plain_dests}
use Rattle.law_fresh_frames.proofs.FreshArcs.{uses_new}
use Rattle.law_net.specs.ContextsParts.{Part, Giver, Taker, Drainer, InCell, Inlet, signal, item, each}
use Rattle.law_net.specs.ContextsBlocks.{side, is_switch}
use Rattle.law_net.specs.Contexts.{code_in, wiring_in}
use Rattle.law_net.specs.ContextsWires.{leads_to, ip_and_port, answered_at, is_unwired}
use Rattle.law_net.specs.ContextsMirror.{frame_of, token_of, is_instr}
use Rattle.law_machine_refines_net.specs.MovesCases.{Taking, IsCaused, net_of, is_quiet}
use Rattle.law_machine_refines_net.proofs.MovesFitted.{code, taken_here}
use Rattle.law_machine_refines_net.proofs.SendsRules as Rules
use Rattle.law_machine_refines_net.proofs.Sends.{dests_sent}
use Rattle.law_machine_refines_net.proofs.SendsInwards.{carried_as}

-- what a wire feeds is quiet
pub fed_quiet : (b : Block ℕ) (r : Part) → is_instr r ≡ true → is_unwired b r ≡ false → is_quiet r ≡ true
fed_quiet b (InCell n) i e = absurd (true≢false (sym i))
fed_quiet b (Giver n) i e = absurd (true≢false e)
fed_quiet b (Taker n) i e = absurd (true≢false e)
fed_quiet b (Drainer n) i e = absurd (true≢false e)
fed_quiet b r i e = refl

module _ (s : Taking) (r : Part) (e : s.i.inlet.part ≡ r) (is : is_instr r ≡ true) (single : is_switch r ≡ false) where
  abbrev t : Taking
  t = carried_as s r e

  abbrev c : Context
  c = s.i.context

  abbrev ins : Instr
  ins = Rules.instr t is

  abbrev here : ℕ
  here = (wiring_in s.fl s.w c).place r

  abbrev dests : List Dest
  dests = ins.firsts ++ ins.seconds

  -- where its destinations are
  abbrev pub Goals : List Inlet
  Goals = answered_at r ++ (wiring_in s.fl s.w c).wire (side r false)

  leads : IsPermutation (map (leads_to here) dests) (map (ip_and_port (wiring_in s.fl s.w c)) Goals)
  leads =
      let stand = ip_and_port (wiring_in s.fl s.w c) in
      let no_second : (wiring_in s.fl s.w c).wire (side r true) ≡ [] = (code s s.i (taken_here s)).lawful.fed.sides (side r true) (inl single) in
      let second = at_last (Rules.stood t is).is.seconds (ap (map stand) no_second) in
      at_first (map-append (leads_to here) ins.firsts ins.seconds)
      (at_last (IsPermutation-append _ _ _ _ (Rules.stood t is).is.firsts second) (append-nil (map stand Goals)))

  module _ (made : s.event.made ≡ to_all (Rules.at t is) word ins) where
    pub sent : (xs : List Inlet) → Goals ≡ xs → ((x : Inlet) → Contains xs x → is_instr x.part ≡ true)
        → IsPermutation s.event.made (map (token_of s.fl s.p s.w (net_of s).fired) (each c signal xs))
    sent xs same are = at_first made (dests_sent t is signal dests xs (at_last leads (ap (map (ip_and_port (wiring_in s.fl s.w c))) same)) are)

    -- an arc to each is used
    pub used : plain_dests ins ins.op ≡ dests → ((k : ℕ) → ins.op ≡ Ops.Give k → s.new.store.slots (frame_of s.fl (net_of s).fired c) ins.slot ≡ Empty)
        → (x : Inlet) → Contains Goals x → IsCaused s (item c x signal)
    used plain empty x h =
        let base = first_of s.p.program (code_in s.fl s.w c) in let stand = ip_and_port (wiring_in s.fl s.w c) in
        let d = contains_mapped (leads_to here) dests (stand x)
        (Contains-permutation _ _ (stand x) (IsPermutation-sym _ _ leads) (contains_map stand Goals x h)) in
        let far : here + d.0.ahead ≡ (wiring_in s.fl s.w c).place x.part = ap (λ (q : ℕ × Port). q.0) d.2 in
        let port : d.0.port ≡ x.port = ap (λ (q : ℕ × Port). q.1) d.2 in
        let place : base + here + d.0.ahead ≡ base + (wiring_in s.fl s.w c).place x.part = omega (arith, far) in
        let one = uses_new s.p (frame_of s.fl (net_of s).fired c) (base + here) s.i.inlet.port ins (Rules.stood t is).at d.0
        (subst (λ l. Contains l d.0) (sym plain) d.1) s.t s.event.made s.new (at_dest (Rules.at t is) word d.0) (Rules.goes_to t is)
        (subst (λ l. Contains l (at_dest (Rules.at t is) word d.0)) (sym made) (contains_map (at_dest (Rules.at t is) word) dests d.0 d.1)) refl empty in
        inl (subst (λ q. UsesArc s.p (frame_of s.fl (net_of s).fired c) (base + (wiring_in s.fl s.w c).place x.part) q s.t s.event.made s.new) port
        (subst (λ n. UsesArc s.p (frame_of s.fl (net_of s).fired c) n d.0.port s.t s.event.made s.new) place one))
