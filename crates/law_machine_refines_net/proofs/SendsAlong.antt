-- Instructions with one and with two operands that send what they make along their wires.
use Rattle.std.proofs.Common.{◌≡◌, ℕ, Bool, true, false, List, [], ◌∷◌, ◌++◌, map, refl, sym, ap, ◌∙◌, subst, inl, inr, ◌⊎◌, true≢false, Some, None}
use Rattle.std.proofs.Common.{if◌then◌else◌, append-nil}
use Rattle.std.specs.Prelude.{IsPermutation, Contains}
use Rattle.std.proofs.lemmas.List.{map-append}
use Rattle.std.proofs.lemmas.List.Sorted.{IsPermutation-append}
use Rattle.lemmas.proofs.Permutations.{permutation_same}
use Rattle.lemmas.proofs.Contains.{contains_head, contains_none}
use Rattle.tags.specs.declared.token.Port.{Port}
use Rattle.tags.specs.declared.token.Port.TheVariants.{Left, Right}
use Rattle.tags.specs.declared.token.Word.{Word}
use Rattle.tags.specs.declared.slot.SlotState.TheVariants.{Empty}
use Rattle.semantics.specs.declared.program.Dest.{Dest}
use Rattle.semantics.specs.declared.program.Op.{Op}
use Rattle.semantics.specs.Graph.{Flow}
use Rattle.semantics.specs.Meaning.{Context}
use Rattle.semantics.specs.Program.{Instr}
use Rattle.semantics.specs.Rule.{to_each, to_all, fires, fire_two, outcome_of, slot_of as uses_of}
use Rattle.semantics.specs.Machine.{Store, Fires, slot_in, with_slot}
use Rattle.law_confluence.proofs.NetSlots.{InSlots}
use Rattle.law_confluence.proofs.Orders.{at_first, at_last}
use Rattle.law_fresh_frames.specs.Alike.{plain_dests}
use Rattle.law_net.specs.ContextsParts.{Part, Sender, Merge, CondEnd, Landing, Giver, Taker, Drainer, InCell, Drained, inlet, Note, signal, Item, item, each}
use Rattle.law_net.specs.ContextsParts.{Firing}
use Rattle.law_net.specs.ContextsBlocks.{side, waits_in, is_switch, op_of}
use Rattle.law_net.specs.Contexts.{block_in, site_in, wiring_in}
use Rattle.law_net.specs.ContextsWires.{leads_to, ip_and_port, answered_at}
use Rattle.law_net.specs.ContextsFirings.{Config, takes, own_takes, both_items, left_way, right_way, makes}
use Rattle.law_net.specs.ContextsLaws.{way_fits}
use Rattle.law_net.specs.ContextsMirror.{frame_of, word_of, on_side, in_slot, slot_of, only, named_by, is_instr, Mirrors}
use Rattle.law_machine_refines_net.specs.MovesCases.{Taking, net_of, Followed, Halts, is_still}
use Rattle.law_machine_refines_net.proofs.MovesLists.{contains_one}
use Rattle.law_machine_refines_net.proofs.MovesStill.{still_renews}
use Rattle.law_machine_refines_net.proofs.MovesHalts.{halts_follow}
use Rattle.law_machine_refines_net.proofs.MovesFitted.{fits, code, bare, bare_item, taken_here, instr_held, lone_port, plain_way, is_plain_way}
use Rattle.law_machine_refines_net.proofs.SendsRules.{at, instr, stood, happens, grants, releases, free_of, dyadic_grants}
use Rattle.law_machine_refines_net.proofs.SendsPairs as Pairs
use Rattle.law_machine_refines_net.proofs.SendsPairs.{Second, pair_cases, dyadic}
use Rattle.law_machine_refines_net.proofs.Sends.{firing_of, Wire, stays_with, stays_same}
use Rattle.law_machine_refines_net.proofs.OutwardsLeaving.{sends_follow}

-- WHAT IS TAKEN
own_still : (fl : Flow) (f : Firing) (r : Part) → is_still r ≡ true → own_takes fl f r ≡ both_items fl f.context r f.way f.left f.right
own_still fl f (InCell n) e = absurd (true≢false (sym e))
own_still fl f (Drained n) e = absurd (true≢false (sym e))
own_still fl f r e = refl

left_zero : (r : Part) → left_way r 0 ≡ 0
left_zero (Merge n) = refl
left_zero (CondEnd n) = refl
left_zero (Landing n j) = refl
left_zero (Taker n) = refl
left_zero r = refl

right_zero : (fl : Flow) (c : Context) (r : Part) → is_plain_way r ≡ true → right_way fl c r ≡ 0
right_zero fl c (Sender n i) e = absurd (true≢false (sym e))
right_zero fl c r e = refl

-- the left way is the item's, where there is one inlet
left_own : (fl : Flow) (c : Context) (r : Part) (q : Port) (t : ℕ) → is_still r ≡ true → waits_in (block_in fl c) r ≡ false → way_fits fl c r q t ≡ true
    → t ≡ left_way r t
left_own fl c (Merge n) q t a b e = refl
left_own fl c (CondEnd n) q t a b e = refl
left_own fl c (Landing n j) q t a b e = refl
left_own fl c (Sender n i) q t a b e = absurd (true≢false b)
left_own fl c (Giver n) q t a b e = absurd (true≢false (sym a))
left_own fl c (Taker n) q t a b e = absurd (true≢false (sym a))
left_own fl c (Drainer n) q t a b e = absurd (true≢false (sym a))
left_own fl c r q t a b e = plain_way fl c r q t refl e

module _ (s : Taking) (still : is_still s.i.inlet.part ≡ true) where
  abbrev net : Config
  net = net_of s

  abbrev old : Mirrors s.fl s.p s.w s.m net
  old = s.keeps.tracks.stands

  abbrev c : Context
  c = s.i.context

  abbrev r : Part
  r = s.i.inlet.part

  abbrev W : Note → Word
  W n = word_of s.fl s.p s.w net.fired n

  pub takes_two : in_slot s.fl s.i ≡ true → is_plain_way r ≡ true → (l k : Note)
      → takes s.fl (firing_of s 0 l k) ≡ item c (inlet r Left 0) l ∷ item c (inlet r Right 0) k ∷ []
  takes_two two plain l k =
      ap (λ x. own_takes s.fl (firing_of s 0 l k) r ++ x) (still_renews s.fl (firing_of s 0 l k) r still)
      ∙ append-nil (own_takes s.fl (firing_of s 0 l k) r) ∙ own_still s.fl (firing_of s 0 l k) r still
      ∙ ap (λ t. item c (inlet r Left (left_way r 0)) l ∷ (if t then item c (inlet r Right (right_way s.fl c r)) k ∷ [] else [])) two
      ∙ (λ t. item c (inlet r Left (left_zero r t)) l ∷ item c (inlet r Right (right_zero s.fl c r plain t)) k ∷ [])

  pub takes_one : waits_in (block_in s.fl c) r ≡ false → (l k : Note) (t : ℕ) → takes s.fl (firing_of s t l k) ≡ item c (inlet r Left (left_way r t)) l ∷ []
  takes_one one l k t =
      ap (λ x. own_takes s.fl (firing_of s t l k) r ++ x) (still_renews s.fl (firing_of s t l k) r still)
      ∙ append-nil (own_takes s.fl (firing_of s t l k) r) ∙ own_still s.fl (firing_of s t l k) r still
      ∙ ap (λ x. item c (inlet r Left (left_way r t)) l ∷ (if x then item c (inlet r Right (right_way s.fl c r)) k ∷ [] else [])) one

  module _ (is : is_instr r ≡ true) where
    abbrev ins : Instr
    ins = instr s is

    abbrev here : ℕ
    here = (wiring_in s.fl s.w c).place r

    -- a part whose instruction sends to all its destinations
    pub all_lead : answered_at r ≡ [] → is_switch r ≡ false
        → IsPermutation (map (leads_to here) (ins.firsts ++ ins.seconds)) (map (ip_and_port (wiring_in s.fl s.w c)) (Wire s is false))
    all_lead none one =
        let stand = ip_and_port (wiring_in s.fl s.w c) in
        let first = at_last (stood s is).is.firsts (ap (λ l. map stand (l ++ Wire s is false)) none) in
        let no_second : Wire s is true ≡ [] = (code s s.i (taken_here s)).lawful.fed.sides (side r true) (inl one) in
        let second = at_last (stood s is).is.seconds (ap (map stand) no_second) in
        at_first (map-append (leads_to here) ins.firsts ins.seconds)
        (at_last (IsPermutation-append _ _ _ _ first second) (append-nil (map stand (Wire s is false))))

    pub firsts_lead : answered_at r ≡ [] → IsPermutation (map (leads_to here) ins.firsts) (map (ip_and_port (wiring_in s.fl s.w c)) (Wire s is false))
    firsts_lead none = at_last (stood s is).is.firsts (ap (λ l. map (ip_and_port (wiring_in s.fl s.w c)) (l ++ Wire s is false)) none)

    pub seconds_lead : IsPermutation (map (leads_to here) ins.seconds) (map (ip_and_port (wiring_in s.fl s.w c)) (Wire s is true))
    seconds_lead = (stood s is).is.seconds

  -- ONE OPERAND. It sends a word to all its destinations
  module _ (one : waits_in (block_in s.fl c) r ≡ false) (is : is_instr r ≡ true) where
    on_the_left : s.i.inlet.port ≡ Left
    on_the_left = lone_port s.fl c r s.i.inlet.port one (fits s s.i (taken_here s)).port

    pub mine : s.i ≡ item c (inlet r Left (left_way r s.i.inlet.way)) s.i.word
    mine =
        bare_item s.i (bare s s.i (taken_here s) (instr_held r is)) r Left (left_way r s.i.inlet.way) refl on_the_left
        (left_own s.fl c r s.i.inlet.port s.i.inlet.way still one (fits s s.i (taken_here s)).way)

    -- what results from it, for its operation
    abbrev Does : Op → Type 0
    Does op =
        Fires s.m.store (frame_of s.fl net.fired c) (uses_of (instr s is) op)
        (outcome_of s.p.program (at s is) (instr s is) op (slot_in s.m.store (frame_of s.fl net.fired c) (uses_of (instr s is) op)) Left (W s.i.word))
        s.event.made s.new.store

    pub does : (op : Op) → op_of s.w.variant (site_in s.fl s.w c) r ≡ op → Does op
    does op e =
        let a = subst (λ q. Fires s.m.store (frame_of s.fl net.fired c) (uses_of (instr s is) (instr s is).op)
        (outcome_of s.p.program (at s is) (instr s is) (instr s is).op (slot_in s.m.store (frame_of s.fl net.fired c) (uses_of (instr s is) (instr s is).op)) q
        (W s.i.word)) s.event.made s.new.store) on_the_left (happens s is) in
        subst Does ((stood s is).is.op ∙ e) a

    -- and where it sends the word k to all
    pub one_follows : (op : Op) → op_of s.w.variant (site_in s.fl s.w c) r ≡ op → plain_dests (instr s is) op ≡ (instr s is).firsts ++ (instr s is).seconds
        → grants op ≡ false → releases op ≡ false
        → answered_at r ≡ [] → is_switch r ≡ false → (k : Note) → (named_by k ≡ None) ⊎ (s.i.word ≡ k)
        → makes s.fl s.w (firing_of s s.i.inlet.way s.i.word signal) ≡ each c k (Wire s is false)
        → (s.event.made ≡ to_all (at s is) (W k) (instr s is)) × (s.new.store ≡ s.m.store) → Followed s
    one_follows op e plain g rel none single k from makes_is did = sends_follow s is f still (record {
      before = [];
      kept = [];
      later = net.waiting;
      waiting = refl;
      paired = λ j h. absurd (contains_none j h);
      took = permutation_same _ _ ((λ t. mine t ∷ []) ∙ sym (takes_one one s.i.word signal s.i.inlet.way));
      same = refl;
      note = k;
      second = false;
      makes_is = makes_is;
      from = came from;
      dests = (instr s is).firsts ++ (instr s is).seconds;
      leads = all_lead is none single;
      plain = λ d h. subst (λ l. Contains l d) (sym (ap (plain_dests (instr s is)) op_is ∙ plain)) h;
      made = did.0;
      slots =
          subst (λ (x : Store). InSlots (λ (i : Item). frame_of s.fl net.fired i.context) (slot_of s.fl s.w)
          (λ (i : Item). on_side i.inlet.port (word_of s.fl s.p s.w net.fired i.word)) old.base (only (in_slot s.fl) net.waiting) x.slots)
          (sym did.1) old.slots;
      stays = stays_same s did.1;
      free = free_of s is (ap grants op_is ∙ g) (ap releases op_is ∙ rel);
      no_give = λ n h. true≢false (sym (ap grants h) ∙ ap grants op_is ∙ g);
    })
      where
        f : Firing
        f = firing_of s s.i.inlet.way s.i.word signal

        op_is : (instr s is).op ≡ op
        op_is = (stood s is).is.op ∙ e

        came : (named_by k ≡ None) ⊎ (s.i.word ≡ k) → (named_by k ≡ None) ⊎ ((a : Item) × Contains (s.i ∷ []) a × (a.word ≡ k))
        came (inl n) = inl n
        came (inr h) = inr (s.i, contains_head s.i [], h)

  -- TWO OPERANDS
  module _ (two : in_slot s.fl s.i ≡ true) (plain : is_plain_way r ≡ true) where
    abbrev is : is_instr r ≡ true
    is = Pairs.is s two plain

    -- what results from both words, for the operation
    pub both : (sec : Second s two plain) (op : Op) → op_of s.w.variant (site_in s.fl s.w c) r ≡ op
        → Fires s.m.store (frame_of s.fl net.fired c) (Some (slot_of s.fl s.w s.i))
        (fires Empty (fire_two s.p.program (at s is) (instr s is) op (W sec.left) (W sec.right))) s.event.made s.new.store
    both sec op e =
        subst (λ op. Fires s.m.store (frame_of s.fl net.fired c) (Some (slot_of s.fl s.w s.i))
        (fires Empty (fire_two s.p.program (at s is) (instr s is) op (W sec.left) (W sec.right))) s.event.made s.new.store) ((stood s is).is.op ∙ e) sec.fired

    -- it sends the word k to some of its destinations
    pub two_follow : (sec : Second s two plain) (op : Op) → op_of s.w.variant (site_in s.fl s.w c) r ≡ op
        → plain_dests (instr s is) op ≡ (instr s is).firsts ++ (instr s is).seconds → releases op ≡ false
        → (second : Bool) (k : Note) → (named_by k ≡ None) ⊎ (sec.left ≡ k) → makes s.fl s.w (firing_of s 0 sec.left sec.right) ≡ each c k (Wire s is second)
        → (ds : List Dest) → ((d : Dest) → Contains ds d → Contains ((instr s is).firsts ++ (instr s is).seconds) d)
        → IsPermutation (map (leads_to ((wiring_in s.fl s.w c).place r)) ds) (map (ip_and_port (wiring_in s.fl s.w c)) (Wire s is second))
        → (s.event.made ≡ to_each (at s is) (W k) ds) × (s.new.store ≡ with_slot s.m.store (frame_of s.fl net.fired c) (slot_of s.fl s.w s.i) Empty)
        → Followed s
    two_follow sec op e plain_op rel second k from makes_is ds within leads did = sends_follow s is f still (record {
      before = sec.before;
      kept = sec.j ∷ [];
      later = sec.later;
      waiting = sec.waiting;
      paired = λ j h. subst (λ (j : Item). in_slot s.fl j ≡ true) (contains_one sec.j j h) sec.paired;
      took = at_last sec.took (sym (takes_two two plain sec.left sec.right));
      same = refl;
      note = k;
      second = second;
      makes_is = makes_is;
      from = came from;
      dests = ds;
      leads = leads;
      plain = λ d h. subst (λ l. Contains l d) (sym (ap (plain_dests (instr s is)) op_is ∙ plain_op)) (within d h);
      made = did.0;
      slots =
          subst (λ (x : Store). InSlots (λ (i : Item). frame_of s.fl net.fired i.context) (slot_of s.fl s.w)
          (λ (i : Item). on_side i.inlet.port (word_of s.fl s.p s.w net.fired i.word)) old.base (only (in_slot s.fl) (sec.before ++ sec.later)) x.slots)
          (sym did.1) sec.slots;
      stays = stays_with s (frame_of s.fl net.fired c) (slot_of s.fl s.w s.i) Empty did.1;
      free = free_of s is grants_none (ap releases op_is ∙ rel);
      no_give = λ n h. true≢false (sym (ap grants h) ∙ grants_none);
    })
      where
        f : Firing
        f = firing_of s 0 sec.left sec.right

        op_is : (instr s is).op ≡ op
        op_is = (stood s is).is.op ∙ e

        grants_none : grants (instr s is).op ≡ false
        grants_none = dyadic_grants (instr s is).op (dyadic s two plain)

        came : (named_by k ≡ None) ⊎ (sec.left ≡ k) → (named_by k ≡ None) ⊎ ((a : Item) × Contains (s.i ∷ sec.j ∷ []) a × (a.word ≡ k))
        came (inl n) = inl n
        came (inr h) = inr (sec.left_from.0, sec.left_from.1, sec.left_from.2 ∙ h)

    -- to all of them
    pub two_all : (sec : Second s two plain) (op : Op) → op_of s.w.variant (site_in s.fl s.w c) r ≡ op
        → plain_dests (instr s is) op ≡ (instr s is).firsts ++ (instr s is).seconds → releases op ≡ false
        → answered_at r ≡ [] → is_switch r ≡ false → (k : Note) → (named_by k ≡ None) ⊎ (sec.left ≡ k)
        → makes s.fl s.w (firing_of s 0 sec.left sec.right) ≡ each c k (Wire s is false)
        → (s.event.made ≡ to_all (at s is) (W k) (instr s is)) × (s.new.store ≡ with_slot s.m.store (frame_of s.fl net.fired c) (slot_of s.fl s.w s.i) Empty)
        → Followed s
    two_all sec op e plain_op rel none single k from makes_is did =
        two_follow sec op e plain_op rel false k from makes_is ((instr s is).firsts ++ (instr s is).seconds) (λ d h. h) (all_lead is none single) did

    -- the first word waits, and the second one makes it fire
    pub pair_follows : ((sec : Second s two plain) → Followed s) → Followed s
    pair_follows second = pick (pair_cases s two plain)
      where
        pick : Halts s ⊎ Second s two plain → Followed s
        pick (inl h) = halts_follow s h
        pick (inr sec) = second sec
