-- A link sends what is invoked its continuation, which leads to the landing of the node.
use Rattle.std.proofs.Common.{◌≡◌, ℕ, ◌+◌, true, false, List, [], ◌∷◌, map, refl, sym, ap, ◌∙◌, subst, inl, inr, ◌⊎◌, arith, true≢false, Some, None}
use Rattle.std.specs.Prelude.{IsPermutation, Contains, flat_map}
use Rattle.std.proofs.lemmas.List.Elements.{Contains-append_left}
use Rattle.lemmas.proofs.Permutations.{permutation_same}
use Rattle.lemmas.proofs.Contains.{contains_head, contains_none}
use Rattle.tags.specs.declared.token.Port.{Port}
use Rattle.tags.specs.declared.token.Port.TheVariants.{Left}
use Rattle.tags.specs.declared.token.Cont.{Cont}
use Rattle.tags.specs.declared.token.Word.{Word}
use Rattle.tags.specs.declared.token.To.{To}
use Rattle.tags.specs.declared.token.Token.{Token}
use Rattle.tags.specs.declared.slot.SlotState.TheVariants.{Empty}
use Rattle.semantics.specs.declared.program.Dest.{Dest}
use Rattle.semantics.specs.declared.program.Op.{Op}
use Rattle.semantics.specs.declared.program.Op.TheVariants as Ops
use Rattle.semantics.specs.Meaning.{Context}
use Rattle.semantics.specs.Program.{Instr, first_of}
use Rattle.semantics.specs.Plan.{landing}
use Rattle.semantics.specs.Rule.{token, fires, fire_one, landing_at, to_each}
use Rattle.semantics.specs.Rule as Rule
use Rattle.semantics.specs.Machine.{Store, Fires}
use Rattle.semantics.specs.Sharing.{arc, row, arcs_to, arcs_from, inlet as port_at}
use Rattle.semantics.specs.Arcs.{UsesBy}
use Rattle.semantics.proofs.ArcEnds.{row_has}
use Rattle.law_confluence.proofs.NetSlots.{InSlots}
use Rattle.law_confluence.proofs.Orders.{at_last}
use Rattle.law_reuse.proofs.SlotsUsedArcs.{stands_arcs}
use Rattle.law_fresh_frames.specs.Alike.{plain_dests}
use Rattle.law_net.specs.ContextsParts.{Part, Entry, Linker, Landing, Inlet, inlet, Note, FrameOf, BackTo, signal, Item, item, each}
use Rattle.law_net.specs.ContextsBlocks.{side, callee_code}
use Rattle.law_net.specs.Contexts.{block_in, code_in, wiring_in, child}
use Rattle.law_net.specs.ContextsWires.{leads_to, ip_and_port}
use Rattle.law_net.specs.ContextsFirings.{Config, frame_at}
use Rattle.law_net.specs.ContextsMirror.{frame_of, ip_of, word_of, on_side, in_slot, slot_of, only, named_by, is_instr, Mirrors}
use Rattle.law_net.proofs.WiredInvoked.{child_cases, child_here}
use Rattle.law_net.proofs.RunsLands.{one_dest}
use Rattle.law_machine_refines_net.specs.MovesCases.{Taking, IsFree, net_of, Followed}
use Rattle.law_machine_refines_net.proofs.MovesLists.{contains_one}
use Rattle.law_machine_refines_net.proofs.MovesParts.{is_credit}
use Rattle.law_machine_refines_net.proofs.MovesBalanced.{UsedNow, WasThere}
use Rattle.law_machine_refines_net.proofs.MovesFitted.{code, fits, there, among, taken_here}
use Rattle.law_machine_refines_net.proofs.SendsRules.{at, instr, stood, goes_to, free_of, grants, releases}
use Rattle.law_machine_refines_net.proofs.Sends.{Wire, firing_of, stays_same}
use Rattle.law_machine_refines_net.proofs.SendsAlong.{takes_one, mine, does}
use Rattle.law_machine_refines_net.proofs.SendsInwards.{carried_as, carried}
use Rattle.law_machine_refines_net.proofs.OutwardsChildren.{child_code, entry_at}
use Rattle.law_machine_refines_net.proofs.OutwardsPassed.{Sent, free_counted}
use Rattle.law_machine_refines_net.proofs.OutwardsLeaving.{leaves_follow}

module _ (s : Taking) (n : ℕ) (e : s.i.inlet.part ≡ Linker n) where
  abbrev l : Taking
  l = carried_as s (Linker n) e

  abbrev net : Config
  net = net_of s

  abbrev old : Mirrors s.fl s.p s.w s.m net
  old = s.keeps.tracks.stands

  abbrev is_link : is_instr (Linker n) ≡ true
  is_link = refl

  abbrev c : Context
  c = s.i.context

  abbrev d : Context
  d = child s.fl s.i.context n

  abbrev W : Note → Word
  W k = word_of s.fl s.p s.w net.fired k

  abbrev ins : Instr
  ins = instr l is_link

  abbrev callee : ℕ
  callee = callee_code s.w.variant (block_in s.fl c) n

  abbrev place : Part → ℕ
  place r = (wiring_in s.fl s.w c).place r

  word_is : s.i.word ≡ FrameOf d
  word_is = carried l l.i (taken_here l)

  -- what is invoked has a frame
  has_frame : (g : ℕ) × (frame_at s.fl net.fired d ≡ Some g)
  has_frame = old.named l.i d (among l l.i (taken_here l)) (ap named_by word_is)

  -- WIRES
  no_wire : Wire l is_link false ≡ []
  no_wire = (code l l.i (taken_here l)).lawful.fed.sides (side (Linker n) false) (inr refl)

  no_second : Wire l is_link true ≡ []
  no_second = (code l l.i (taken_here l)).lawful.fed.sides (side (Linker n) true) (inl refl)

  dest : (x : Dest) × (ins.firsts ≡ x ∷ []) × (leads_to (place (Linker n)) x ≡ (place (Landing n 0), Left))
  dest = one_dest ins.firsts (leads_to (place (Linker n))) (place (Landing n 0), Left)
      (subst (λ (x : List Inlet). IsPermutation (map (leads_to (place (Linker n))) ins.firsts)
      (map (ip_and_port (wiring_in s.fl s.w c)) (inlet (Landing n 0) Left 0 ∷ x))) no_wire (stood l is_link).is.firsts)

  far : place (Linker n) + dest.0.ahead ≡ place (Landing n 0)
  far = ap (λ (q : ℕ × Port). q.0) dest.2

  lands_at : landing_at (at l is_link) ins.firsts ≡ Cont.Frame (frame_of s.fl net.fired c) (ip_of s.fl s.p s.w c (Landing n 0)) Left
  lands_at =
      let f = far in let b = first_of s.p.program (code_in s.fl s.w c) in
      let h : b + place (Linker n) + dest.0.ahead ≡ b + place (Landing n 0) = omega (arith, f) in
      ap (landing_at (at l is_link)) dest.1 ∙ ap (λ (t : ℕ). Cont.Frame (frame_of s.fl net.fired c) t Left) h

  -- WHERE IT GOES
  goes_in : first_of s.p.program callee ≡ ip_of s.fl s.p s.w d Entry
  goes_in =
      let h = (fits l l.i (taken_here l)).is_context in let t = there l l.i (taken_here l) is_link in
      ap (first_of s.p.program) (child_code s.fl s.p s.w s.good c n h t)
      ∙ sym (entry_at s.fl s.p s.w s.good d (child_here s.fl s.p s.w s.good c n d h (child_cases s.fl s.p s.w s.good c n t)).0)

  abbrev sent : Item
  sent = item d (inlet Entry Left 0) (BackTo c (inlet (Landing n 0) Left 0))

  abbrev sent_token : Token
  sent_token = token (To.Instr (frame_of s.fl net.fired d) (first_of s.p.program callee) Left) (Word.Back (landing_at (at l is_link) ins.firsts))

  abbrev Linked : Word → Type 0
  Linked k =
      Fires s.m.store (frame_of s.fl net.fired c) None (fires Empty (fire_one s.p.program (at l is_link) ins (Ops.Link callee) k)) s.event.made s.new.store

  did : (s.event.made ≡ sent_token ∷ to_each (at l is_link) Rule.signal ins.seconds) × (s.new.store ≡ s.m.store)
  did =
      subst (λ (k : Note). Linked (W k)) word_is
      (subst (λ o. Fires s.m.store (frame_of s.fl net.fired c) None
      (fires Empty (fire_one s.p.program (at l is_link) ins o (W s.i.word))) s.event.made s.new.store) (stood l is_link).is.op
      (does l refl refl is_link (Ops.Link callee) refl))

  -- the arcs of the landing
  used_now : UsedNow l c (inlet (Landing n 0) Left 0)
  used_now m low =
      let b = first_of s.p.program (code_in s.fl s.w c) in let x = dest.0 in let f = far in let k = stood l is_link in
      let base : b + place (Linker n) + x.ahead ≡ b + place (Landing n 0) = omega (arith, f) in
      let a = arc (place (Linker n)) false (port_at (place (Linker n) + x.ahead + m) Left) in
      let in_row : Contains (row (place (Linker n)) (place (Linker n) + x.ahead) (landing s.p callee)) a =
      row_has (place (Linker n)) (place (Linker n) + x.ahead) (landing s.p callee) m low in
      let in_rows : Contains (flat_map (λ (d : Dest). row (place (Linker n)) (place (Linker n) + d.ahead) (landing s.p callee)) ins.firsts) a =
      subst (λ (ds : List Dest). Contains (flat_map (λ (d : Dest). row (place (Linker n)) (place (Linker n) + d.ahead) (landing s.p callee)) ds) a) (sym dest.1)
      (Contains-append_left (row (place (Linker n)) (place (Linker n) + x.ahead) (landing s.p callee)) [] a in_row) in
      let among_all : Contains (arcs_from s.p (place (Linker n)) ins (Ops.Link callee)) a =
      Contains-append_left (flat_map (λ (d : Dest). row (place (Linker n)) (place (Linker n) + d.ahead) (landing s.p callee)) ins.firsts)
      (arcs_to (place (Linker n)) true ins.seconds) a in_rows in record {
        b = code_in s.fl s.w c;
        x = a;
        side = s.i.inlet.port;
        i = ins;
        t = sent_token;
        is_arc =
            stands_arcs s.p (code_in s.fl s.w c) (place (Linker n)) ins a k.stands
            (subst (λ (o : Op). Contains (arcs_from s.p (place (Linker n)) ins o) a) (sym k.is.op) among_all);
        place = omega (arith, f);
        port = refl;
        taken_at = goes_to l is_link;
        fired = k.at;
        is_made = subst (λ ts. Contains ts sent_token) (sym did.0) (contains_head sent_token (to_each (at l is_link) Rule.signal ins.seconds));
        uses = subst (λ (o : Op). UsesBy s.p (frame_of s.fl net.fired c) (ip_of s.fl s.p s.w c (Landing n 0) + m) Left ins o sent_token s.new) (sym k.is.op)
            (inr (ip_of s.fl s.p s.w c (Landing n 0), ap Word.Back lands_at, omega arith, omega (arith, low), refl));
      }

  of_sent : (P : Item → Type 0) → P sent → (j : Item) → Contains (sent ∷ []) j → P j
  of_sent P k j h = subst P (contains_one sent j h) k

  asked_now : (x : Context) (y : Inlet) → sent.word ≡ BackTo x y → WasThere l sent ⊎ UsedNow l x y
  asked_now x y h =
      let a : c ≡ x = cc in let b : inlet (Landing n 0) Left 0 ≡ y = cc in
      inr (subst (λ (y : Inlet). UsedNow l x y) b (subst (λ (x : Context). UsedNow l x (inlet (Landing n 0) Left 0)) a used_now))

  named_now : (x : Context) → named_by sent.word ≡ Some x → (g : ℕ) × (frame_at s.fl net.fired x ≡ Some g)
  named_now x h = let a : c ≡ x = cc in subst (λ (x : Context). (g : ℕ) × (frame_at s.fl net.fired x ≡ Some g)) a (old.known l.i (among l l.i (taken_here l)))

  calm : (j : Item) → Contains (sent ∷ []) j → is_credit j.inlet.part ≡ false
  calm = of_sent (λ (j : Item). is_credit j.inlet.part ≡ false) refl

  free : IsFree l
  free = free_of l is_link (ap grants (stood l is_link).is.op) (ap releases (stood l is_link).is.op)

  pub link_follows : Followed s
  link_follows = leaves_follow l is_link (firing_of l s.i.inlet.way s.i.word signal) refl (record {
    before = [];
    kept = [];
    later = net.waiting;
    waiting = refl;
    paired = λ j h. absurd (contains_none j h);
    took = permutation_same _ _ ((λ t. mine l refl refl is_link t ∷ []) ∙ sym (takes_one l refl refl s.i.word signal s.i.inlet.way));
    same = refl;
    out = sent ∷ [];
    out_made = sent_token ∷ [];
    out_is = λ t. token (To.Instr (frame_of s.fl net.fired d) (goes_in t) Left) (Word.Back (lands_at t)) ∷ [];
    out_sent =
        of_sent (Sent l) (record { held = refl; known = has_frame; named = named_now; asked = asked_now; caused = λ i k. absurd (true≢false k) });
    counted = free_counted l free (sent ∷ []) calm;
    note = signal;
    second = false;
    from = inl refl;
    makes_is = ap (λ ws. sent ∷ each c signal ws) (sym no_wire);
    dests = ins.seconds;
    leads = at_last (stood l is_link).is.seconds (ap (map (ip_and_port (wiring_in s.fl s.w c))) (no_second ∙ sym no_wire));
    plain = λ x h. subst (λ (o : Op). Contains (plain_dests ins o) x) (sym (stood l is_link).is.op) h;
    made = did.0;
    slots =
        subst (λ (x : Store). InSlots (λ (i : Item). frame_of s.fl net.fired i.context) (slot_of s.fl s.w)
        (λ (i : Item). on_side i.inlet.port (word_of s.fl s.p s.w net.fired i.word)) old.base (only (in_slot s.fl) net.waiting) x.slots) (sym did.1) old.slots;
    stays = stays_same l did.1;
    granted = free.granted;
    no_give = λ k h. let z : Ops.Link callee ≡ Ops.Give k = sym (stood l is_link).is.op ∙ h in absurd (cc);
  })
