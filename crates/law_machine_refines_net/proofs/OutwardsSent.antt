-- An argument is sent to the input of what is invoked.
use Rattle.std.proofs.Common.{◌≡◌, ℕ, ◌+◌, ◌<◌, true, false, ◌&&◌, [], ◌∷◌, ◌++◌, refl, sym, ap, ◌∙◌, subst, inl, inr, ◌⊎◌, arith, true≢false, Some, None}
use Rattle.std.proofs.Common.{nat_lt, ltb-true, lt-ltb}
use Rattle.std.specs.Prelude.{Contains}
use Rattle.std.proofs.lemmas.Bool.{and_parts}
use Rattle.tags.specs.declared.value.Value.{Value}
use Rattle.tags.specs.declared.token.Port.TheVariants.{Left, Right}
use Rattle.tags.specs.declared.token.Word.{Word}
use Rattle.tags.specs.declared.token.To.{To}
use Rattle.tags.specs.declared.token.Token.{Token}
use Rattle.tags.specs.declared.slot.SlotState.TheVariants.{Empty}
use Rattle.semantics.specs.declared.program.Op.{Op}
use Rattle.semantics.specs.declared.program.Op.TheVariants as Ops
use Rattle.semantics.specs.Meaning.{Context}
use Rattle.semantics.specs.Program.{Instr, first_of}
use Rattle.semantics.specs.Rule.{token, fires, fire_two, to_all}
use Rattle.semantics.specs.Rule as Rule
use Rattle.semantics.specs.Machine.{Store, Fires, with_slot}
use Rattle.law_confluence.proofs.NetSlots.{InSlots}
use Rattle.law_fresh_frames.specs.Alike.{plain_dests}
use Rattle.law_net.specs.ContextsParts.{Line, Sender, inlet, Note, Datum, FrameOf, BackTo, Item, item, signal}
use Rattle.law_net.specs.ContextsBlocks.{callee_code, invokes, source_count}
use Rattle.law_net.specs.Contexts.{block_in, child, IsContext}
use Rattle.law_net.specs.ContextsFirings.{Config, right_way, frame_at}
use Rattle.law_net.specs.ContextsMirror.{frame_of, ip_of, word_of, on_side, in_slot, slot_of, only, named_by, is_instr, Mirrors}
use Rattle.law_net.proofs.WiredInvoked.{Invoked, child_cases, child_here}
use Rattle.law_machine_refines_net.specs.MovesCases.{Taking, IsFree, net_of, Followed, Halts}
use Rattle.law_machine_refines_net.proofs.MovesLists.{contains_one}
use Rattle.law_machine_refines_net.proofs.MovesParts.{is_credit}
use Rattle.law_machine_refines_net.proofs.MovesFitted.{fits, there, among, taken_here, pair_instr}
use Rattle.law_machine_refines_net.proofs.MovesHalts.{halts_follow}
use Rattle.law_machine_refines_net.proofs.SendsRules.{at, instr, stood, free_of, grants, releases}
use Rattle.law_machine_refines_net.proofs.Sends.{firing_of, stays_with}
use Rattle.law_machine_refines_net.proofs.SendsAlong.{all_lead}
use Rattle.law_machine_refines_net.proofs.SendsInwards.{carried_as, carried}
use Rattle.law_machine_refines_net.proofs.OutwardsChildren.{child_code, line_at}
use Rattle.law_machine_refines_net.proofs.OutwardsPassed.{Sent, free_counted}
use Rattle.law_machine_refines_net.proofs.OutwardsLeaving.{leaves_follow}
use Rattle.law_machine_refines_net.proofs.OutwardsMeeting.{Ways, Both, both_cases, left_here, right_here}
use Rattle.law_machine_refines_net.proofs.OutwardsArguments.{sender_ways}

module _ (s : Taking) (n i : ℕ) (e : s.i.inlet.part ≡ Sender n i) where
  abbrev l : Taking
  l = carried_as s (Sender n i) e

  abbrev net : Config
  net = net_of s

  abbrev old : Mirrors s.fl s.p s.w s.m net
  old = s.keeps.tracks.stands

  abbrev is_sender : is_instr (Sender n i) ≡ true
  is_sender = pair_instr (block_in s.fl s.i.context) (Sender n i) refl

  abbrev rw : ℕ
  rw = right_way s.fl s.i.context (Sender n i)

  ways : Ways l rw
  ways = sender_ways l n i refl

  abbrev c : Context
  c = s.i.context

  abbrev d : Context
  d = child s.fl s.i.context n

  abbrev W : Note → Word
  W k = word_of s.fl s.p s.w net.fired k

  abbrev ins : Instr
  ins = instr l is_sender

  abbrev callee : ℕ
  callee = callee_code s.w.variant (block_in s.fl c) n

  context : IsContext s.fl c
  context = (fits l l.i (taken_here l)).is_context

  sender_there : (invokes (block_in s.fl c) n && nat_lt i (source_count (block_in s.fl c) n)) ≡ true
  sender_there = there l l.i (taken_here l) is_sender

  callee_here : IsContext s.fl d × Invoked s.fl s.p s.w s.good c n d
  callee_here = child_here s.fl s.p s.w s.good c n d context (child_cases s.fl s.p s.w s.good c n (and_parts _ _ sender_there).0)

  within : i < (block_in s.fl d).inputs
  within = let a = ltb-true i (source_count (block_in s.fl c) n) (and_parts _ _ sender_there).1 in let b = callee_here.1.inputs in omega (arith, a, b)

  goes_in : first_of s.p.program callee + (i + 1) ≡ ip_of s.fl s.p s.w d (Line i)
  goes_in =
      ap (λ (b : ℕ). first_of s.p.program b + (i + 1)) (child_code s.fl s.p s.w s.good c n context (and_parts _ _ sender_there).0)
      ∙ sym (line_at s.fl s.p s.w s.good d i callee_here.0 within)

  free : IsFree l
  free = free_of l is_sender (ap grants (stood l is_sender).is.op) (ap releases (stood l is_sender).is.op)

  module _ (sec : Both l refl rw ways) where
    abbrev left_item : Item
    left_item = item c (inlet (Sender n i) Left 0) sec.left

    abbrev sent : Item
    sent = item d (inlet (Line i) Left 0) sec.right

    abbrev sent_token : Token
    sent_token = token (To.Instr (frame_of s.fl net.fired d) (first_of s.p.program callee + (i + 1)) Left) (W sec.right)

    left_is : sec.left ≡ FrameOf d
    left_is = carried l left_item (left_here l refl rw ways sec)

    right_is : (v : Value) × (sec.right ≡ Datum v)
    right_is = carried l (item c (inlet (Sender n i) Right rw) sec.right) (right_here l refl rw ways sec)

    has_frame : (g : ℕ) × (frame_at s.fl net.fired d ≡ Some g)
    has_frame = old.named left_item d (among l left_item (left_here l refl rw ways sec)) (ap named_by left_is)

    abbrev Sends : Op → Word → Type 0
    Sends o k =
        Fires s.m.store (frame_of s.fl net.fired c) (Some (slot_of s.fl s.w l.i))
        (fires Empty (fire_two s.p.program (at l is_sender) ins o k (W sec.right))) s.event.made s.new.store

    did : (s.event.made ≡ sent_token ∷ to_all (at l is_sender) Rule.signal ins)
        × (s.new.store ≡ with_slot s.m.store (frame_of s.fl net.fired c) (slot_of s.fl s.w l.i) Empty)
    did = subst (λ (k : Note). Sends (Ops.Send callee (i + 1)) (W k)) left_is (subst (λ (o : Op). Sends o (W sec.left)) (stood l is_sender).is.op sec.fired)

    of_sent : (P : Item → Type 0) → P sent → (j : Item) → Contains (sent ∷ []) j → P j
    of_sent P k j h = subst P (contains_one sent j h) k

    calm : (j : Item) → Contains (sent ∷ []) j → is_credit j.inlet.part ≡ false
    calm = of_sent (λ (j : Item). is_credit j.inlet.part ≡ false) refl

    unnamed : (x : Context) → named_by sec.right ≡ Some x → ⊥
    unnamed x h = let z : None ≡ Some x = sym (ap named_by right_is.1) ∙ h in absurd (cc)

    no_back : (x : Context) (y : _) → sec.right ≡ BackTo x y → ⊥
    no_back x y h = unnamed x (ap named_by h)

    sends_in : Followed s
    sends_in = leaves_follow l is_sender (firing_of l 0 sec.left sec.right) refl (record {
      before = sec.before;
      kept = sec.j ∷ [];
      later = sec.later;
      waiting = sec.waiting;
      paired = λ j h. subst (λ (j : Item). in_slot s.fl j ≡ true) (contains_one sec.j j h) sec.paired;
      took = sec.took;
      same = refl;
      out = sent ∷ [];
      out_made = sent_token ∷ [];
      out_is = λ t. token (To.Instr (frame_of s.fl net.fired d) (goes_in t) Left) (W sec.right) ∷ [];
      out_sent = of_sent (Sent l) (record {
        held = refl;
        known = has_frame;
        named = λ x k. absurd (unnamed x k);
        asked = λ x y k. absurd (no_back x y k);
        caused = λ a k. absurd (true≢false (sym (lt-ltb i (block_in s.fl d).inputs within) ∙ k));
      });
      counted = free_counted l free (sent ∷ []) calm;
      note = signal;
      second = false;
      from = inl refl;
      makes_is = refl;
      dests = ins.firsts ++ ins.seconds;
      leads = all_lead l refl is_sender refl refl;
      plain = λ x h. subst (λ (o : Op). Contains (plain_dests ins o) x) (sym (stood l is_sender).is.op) h;
      made = did.0;
      slots =
          subst (λ (x : Store). InSlots (λ (i : Item). frame_of s.fl net.fired i.context) (slot_of s.fl s.w)
          (λ (i : Item). on_side i.inlet.port (word_of s.fl s.p s.w net.fired i.word)) old.base (only (in_slot s.fl) (sec.before ++ sec.later)) x.slots)
          (sym did.1) sec.slots;
      stays = stays_with l (frame_of s.fl net.fired c) (slot_of s.fl s.w l.i) Empty did.1;
      granted = free.granted;
      no_give = λ k h. let z : Ops.Send callee (i + 1) ≡ Ops.Give k = sym (stood l is_sender).is.op ∙ h in absurd (cc);
    })

  pub sender_follows : Followed s
  sender_follows = pick (both_cases l refl rw ways)
    where
      pick : Halts l ⊎ Both l refl rw ways → Followed s
      pick (inl h) = halts_follow l h
      pick (inr sec) = sends_in sec
