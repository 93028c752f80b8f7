-- Two words meet, and what results from them goes into another context.
use Rattle.std.proofs.Common.{◌≡◌, true, false, List, [], ◌∷◌, ◌++◌, map, refl, sym, ap, ◌∙◌, subst, inl, true≢false}
use Rattle.std.specs.Prelude.{IsPermutation, Contains}
use Rattle.tags.specs.declared.token.Token.{Token}
use Rattle.tags.specs.declared.slot.SlotState.TheVariants.{Empty}
use Rattle.semantics.specs.declared.program.Dest.{Dest}
use Rattle.semantics.specs.Rule.{to_each}
use Rattle.semantics.specs.Rule as Rule
use Rattle.semantics.specs.Machine.{Store, with_slot}
use Rattle.law_confluence.proofs.NetSlots.{InSlots}
use Rattle.law_confluence.proofs.Orders.{at_last}
use Rattle.law_fresh_frames.specs.Alike.{plain_dests}
use Rattle.law_net.specs.ContextsParts.{signal, Item, each, Firing}
use Rattle.law_net.specs.Contexts.{wiring_in}
use Rattle.law_net.specs.ContextsWires.{leads_to, ip_and_port}
use Rattle.law_net.specs.ContextsFirings.{Config, makes}
use Rattle.law_net.specs.ContextsMirror.{frame_of, word_of, token_of, on_side, in_slot, slot_of, only, is_instr, Mirrors}
use Rattle.law_machine_refines_net.specs.MovesCases.{Taking, net_of, Followed, is_still}
use Rattle.law_machine_refines_net.proofs.MovesLists.{contains_one}
use Rattle.law_machine_refines_net.proofs.MovesFitted.{is_plain_way}
use Rattle.law_machine_refines_net.proofs.SendsRules.{at, instr, grants, dyadic_grants, ungranted}
use Rattle.law_machine_refines_net.proofs.SendsPairs as Pairs
use Rattle.law_machine_refines_net.proofs.SendsPairs.{Second, dyadic}
use Rattle.law_machine_refines_net.proofs.Sends.{firing_of, Wire, stays_with}
use Rattle.law_machine_refines_net.proofs.SendsAlong.{takes_two}
use Rattle.law_machine_refines_net.proofs.OutwardsLeaving.{leaves_follow}
use Rattle.law_machine_refines_net.proofs.OutwardsPassed.{Sent, Counted}

module _ (s : Taking) (still : is_still s.i.inlet.part ≡ true) (two : in_slot s.fl s.i ≡ true)
    (plain : is_plain_way s.i.inlet.part ≡ true) where
  abbrev net : Config
  net = net_of s

  abbrev old : Mirrors s.fl s.p s.w s.m net
  old = s.keeps.tracks.stands

  abbrev is : is_instr s.i.inlet.part ≡ true
  is = Pairs.is s two plain

  abbrev f : Second s two plain → Firing
  f sec = firing_of s 0 sec.left sec.right

  -- what goes out
  pub record Crosses (sec : Second s two plain) : Type 0 where
    pub out : List Item
    pub out_made : List Token
    pub out_is : out_made ≡ map (token_of s.fl s.p s.w net.fired) out
    pub out_sent : (j : Item) → Contains out j → Sent s j
    pub counted : Counted s out
    pub makes_is : makes s.fl s.w (f sec) ≡ out ++ each s.i.context signal (Wire s is false)
    pub dests : List Dest
    pub leads : IsPermutation (map (leads_to ((wiring_in s.fl s.w s.i.context).place s.i.inlet.part)) dests)
        (map (ip_and_port (wiring_in s.fl s.w s.i.context)) (Wire s is false))
    pub plain_dest : (d : Dest) → Contains dests d → Contains (plain_dests (instr s is) (instr s is).op) d
    pub did : (s.event.made ≡ out_made ++ to_each (at s is) Rule.signal dests)
        × (s.new.store ≡ with_slot s.m.store (frame_of s.fl net.fired s.i.context) (slot_of s.fl s.w s.i) Empty)

  pub crosses_follow : (sec : Second s two plain) → Crosses sec → Followed s
  crosses_follow sec g = leaves_follow s is (f sec) still (record {
    before = sec.before;
    kept = sec.j ∷ [];
    later = sec.later;
    waiting = sec.waiting;
    paired = λ j h. subst (λ (j : Item). in_slot s.fl j ≡ true) (contains_one sec.j j h) sec.paired;
    took = at_last sec.took (sym (takes_two s still two plain sec.left sec.right));
    same = refl;
    out = g.out;
    out_made = g.out_made;
    out_is = g.out_is;
    out_sent = g.out_sent;
    counted = g.counted;
    note = signal;
    second = false;
    from = inl refl;
    makes_is = g.makes_is;
    dests = g.dests;
    leads = g.leads;
    plain = g.plain_dest;
    made = g.did.0;
    slots =
        subst (λ (x : Store). InSlots (λ (i : Item). frame_of s.fl net.fired i.context) (slot_of s.fl s.w)
        (λ (i : Item). on_side i.inlet.port (word_of s.fl s.p s.w net.fired i.word)) old.base (only (in_slot s.fl) (sec.before ++ sec.later)) x.slots)
        (sym g.did.1) sec.slots;
    stays = stays_with s (frame_of s.fl net.fired s.i.context) (slot_of s.fl s.w s.i) Empty g.did.1;
    granted = ungranted s is (dyadic_grants (instr s is).op (dyadic s two plain));
    no_give = λ n h. true≢false (sym (ap grants h) ∙ dyadic_grants (instr s is).op (dyadic s two plain));
  })
