-- An instruction that sends a word along its wires, and may send items into another context.
use Rattle.std.proofs.Common.{◌≡◌, ℕ, ◌+◌, true, false, List, ◌∷◌, ◌++◌, map, refl, sym, ap, ◌∙◌, subst, inl, inr, ◌⊎◌, arith, true≢false, Some, None, Bool, []}
use Rattle.std.specs.Prelude.{IsPermutation, Contains}
use Rattle.std.proofs.lemmas.List.{map-append}
use Rattle.std.proofs.lemmas.List.Elements.{Contains-append_right, Contains-append_cases}
use Rattle.std.proofs.lemmas.List.Sorted.{IsPermutation-sym, IsPermutation-append, Contains-permutation}
use Rattle.lemmas.proofs.Permutations.{permutation_same}
use Rattle.lemmas.proofs.Contains.{contains_map, contains_mapped, contains_none}
use Rattle.tags.specs.declared.token.Port.{Port}
use Rattle.tags.specs.declared.token.Word.{Word}
use Rattle.tags.specs.declared.token.Token.{Token}
use Rattle.semantics.specs.declared.program.Dest.{Dest}
use Rattle.semantics.specs.declared.program.Op.TheVariants as Ops
use Rattle.semantics.specs.Meaning.{Context}
use Rattle.semantics.specs.Program.{first_of}
use Rattle.semantics.specs.Rule.{at_dest, to_each}
use Rattle.semantics.specs.Arcs.{UsesArc}
use Rattle.semantics.specs.Holders.{Holder}
use Rattle.semantics.specs.Credits.{granted_at}
use Rattle.law_confluence.proofs.NetSlots.{InSlots}
use Rattle.law_confluence.proofs.Orders.{at_first, at_last}
use Rattle.law_fresh_frames.specs.Alike.{plain_dests}
use Rattle.law_fresh_frames.proofs.FreshArcs.{uses_new}
use Rattle.law_net.specs.ContextsParts.{Part, Giver, Taker, Drainer, Inlet, Note, BackTo, Item, item, each, Firing}
use Rattle.law_net.specs.Contexts.{block_in, code_in, wiring_in}
use Rattle.law_net.specs.ContextsWires.{leads_to, ip_and_port}
use Rattle.law_net.specs.ContextsFirings.{Config, takes, makes, frame_at}
use Rattle.law_net.specs.ContextsMirror.{frame_of, ip_of, word_of, token_of, on_side, in_slot, slot_of, only, is_in_cell, is_item_at, items_at}
use Rattle.law_net.specs.ContextsMirror.{named_by, is_instr}
use Rattle.law_net.specs.ContextsMirror.{Mirrors}
use Rattle.law_machine_refines_net.specs.MovesCases.{Taking, IsCaused, IsFree, net_of, Followed, is_still}
use Rattle.law_machine_refines_net.proofs.MovesLists.{count_append, count_none}
use Rattle.law_machine_refines_net.proofs.MovesParts.{is_credit, calm_item, given_calm}
use Rattle.law_machine_refines_net.proofs.MovesLoops.{Books}
use Rattle.law_machine_refines_net.proofs.MovesBalanced.{WasThere, UsedNow}
use Rattle.law_machine_refines_net.proofs.MovesPlain.{Stays}
use Rattle.law_machine_refines_net.proofs.MovesFitted.{framed, among, taken_here, instr_held}
use Rattle.law_machine_refines_net.proofs.SendsRules.{at, instr, stood, goes_to}
use Rattle.law_machine_refines_net.proofs.Sends.{Wire, shows_stay, dests_sent, wired_to}
use Rattle.law_machine_refines_net.proofs.OutwardsPassed.{Sent, Counted, free_counted, taken_there, passes_follow}

module _ (s : Taking) (is : is_instr s.i.inlet.part ≡ true) where
  abbrev net : Config
  net = net_of s

  abbrev old : Mirrors s.fl s.p s.w s.m net
  old = s.keeps.tracks.stands

  abbrev c : Context
  c = s.i.context

  abbrev r : Part
  r = s.i.inlet.part

  abbrev base : ℕ
  base = first_of s.p.program (code_in s.fl s.w c)

  abbrev tok : Item → Token
  tok j = token_of s.fl s.p s.w net.fired j

  abbrev W : Note → Word
  W k = word_of s.fl s.p s.w net.fired k

  -- what it sends out, and what it takes
  pub record Leaves (f : Firing) : Type 0 where
    pub before : List Item
    pub kept : List Item
    pub later : List Item
    pub waiting : net.waiting ≡ before ++ (kept ++ later)
    pub paired : (j : Item) → Contains kept j → in_slot s.fl j ≡ true
    pub took : IsPermutation (s.i ∷ kept) (takes s.fl f)
    pub same : r ≡ f.part
    pub out : List Item
    pub out_made : List Token
    pub out_is : out_made ≡ map tok out
    pub out_sent : (j : Item) → Contains out j → Sent s j
    pub counted : Counted s out
    -- and the word that it sends along a side
    pub note : Note
    pub second : Bool
    pub from : (named_by note ≡ None) ⊎ ((a : Item) × Contains (s.i ∷ kept) a × (a.word ≡ note))
    pub makes_is : makes s.fl s.w f ≡ out ++ each c note (Wire s is second)
    pub dests : List Dest
    pub leads : IsPermutation (map (leads_to ((wiring_in s.fl s.w c).place r)) dests) (map (ip_and_port (wiring_in s.fl s.w c)) (Wire s is second))
    pub plain : (d : Dest) → Contains dests d → Contains (plain_dests (instr s is) (instr s is).op) d
    pub made : s.event.made ≡ out_made ++ to_each (at s is) (W note) dests
    pub slots : InSlots (λ (i : Item). frame_of s.fl net.fired i.context) (slot_of s.fl s.w)
        (λ (i : Item). on_side i.inlet.port (word_of s.fl s.p s.w net.fired i.word)) old.base (only (in_slot s.fl) (before ++ later)) s.new.store.slots
    pub stays : Stays s
    pub granted : (g : ℕ) (h : Holder) → granted_at s.p s.p.program g h s.m.store s.t.to ≡ 0
    pub no_give : (k : ℕ) → (instr s is).op ≡ Ops.Give k → ⊥

  -- an item along a wire
  abbrev OnWire : Note → Bool → Item → Type 0
  OnWire k second j = (x : Inlet) × Contains (Wire s is second) x × (item c x k ≡ j)

  pub leaves_follow : (f : Firing) → is_still r ≡ true → Leaves f → Followed s
  leaves_follow f still g = passes_follow s f (record {
    before = g.before;
    kept = g.kept;
    later = g.later;
    waiting = g.waiting;
    paired = g.paired;
    took = g.took;
    still = ap is_still (sym g.same) ∙ still;
    made = made;
    sent = λ j h. sent j (where_is j h);
    store = shows_stay s is f (g.before ++ g.later) (ap is_instr (sym g.same) ∙ is) g.stays g.slots;
    granted = g.granted;
    counted = record {
      books = λ d n h l. books d n (g.counted.books d n h l);
      released = λ d n k h l e. g.counted.released d n k h l e ∙ sym (counted d n (Giver n) refl);
      releases = g.counted.releases;
    };
  })
    where
      wires_are : (x : Inlet) → Contains (Wire s is g.second) x → is_instr x.part ≡ true
      wires_are x h = (wired_to s is g.second x h).0

      made : IsPermutation s.event.made (map tok (makes s.fl s.w f))
      made =
          at_first g.made (at_last (IsPermutation-append _ _ _ _ (permutation_same _ _ g.out_is)
          (dests_sent s is g.note g.dests (Wire s is g.second) g.leads wires_are))
          (sym (map-append tok g.out (each c g.note (Wire s is g.second))) ∙ ap (map tok) (sym g.makes_is)))

      where_is : (j : Item) → Contains (makes s.fl s.w f) j → Contains g.out j ⊎ OnWire g.note g.second j
      where_is j h = pick (Contains-append_cases g.out (each c g.note (Wire s is g.second)) j (subst (λ l. Contains l j) g.makes_is h))
        where
          pick : Contains g.out j ⊎ Contains (each c g.note (Wire s is g.second)) j → Contains g.out j ⊎ OnWire g.note g.second j
          pick (inl h) = inl h
          pick (inr h) = inr (contains_mapped (λ (x : Inlet). item c x g.note) (Wire s is g.second) j h)

      calm : (j : Item) → OnWire g.note g.second j → is_credit j.inlet.part ≡ false
      calm j (x, h, e) = ap (λ (j : Item). is_credit j.inlet.part) (sym e) ∙ given_calm (block_in s.fl c) x.part (wired_to s is g.second x h).1

      -- a word along a wire names what it took
      names : (d : Context) → named_by g.note ≡ Some d → (named_by g.note ≡ None) ⊎ ((a : Item) × Contains (s.i ∷ g.kept) a × (a.word ≡ g.note))
          → (n : ℕ) × (frame_at s.fl net.fired d ≡ Some n)
      names d n (inl o) = let z : None ≡ Some d = sym o ∙ n in absurd (cc)
      names d n (inr (a, h, e)) = old.named a d (among s a (taken_there s g.before g.kept g.later g.waiting a h)) (ap named_by e ∙ n)

      backs : (d : Context) (x : Inlet) (j : Item) → g.note ≡ j.word → j.word ≡ BackTo d x
          → (named_by g.note ≡ None) ⊎ ((a : Item) × Contains (s.i ∷ g.kept) a × (a.word ≡ g.note)) → WasThere s j ⊎ UsedNow s d x
      backs d x j e n (inl o) = let z : None ≡ Some d = sym o ∙ ap named_by (e ∙ n) in absurd (cc)
      backs d x j e n (inr (a, h, k)) = inl (a, taken_there s g.before g.kept g.later g.waiting a h, k ∙ e)

      caused : (j : Item) → OnWire g.note g.second j → IsCaused s j
      caused j (x, h, e) =
          let n = (wiring_in s.fl s.w c).place r in
          let d = contains_mapped (leads_to n) g.dests (ip_and_port (wiring_in s.fl s.w c) x)
          (Contains-permutation _ _ (ip_and_port (wiring_in s.fl s.w c) x) (IsPermutation-sym _ _ g.leads)
          (contains_map (ip_and_port (wiring_in s.fl s.w c)) (Wire s is g.second) x h)) in
          let far : n + d.0.ahead ≡ (wiring_in s.fl s.w c).place x.part = ap (λ (q : ℕ × Port). q.0) d.2 in
          let port : d.0.port ≡ x.port = ap (λ (q : ℕ × Port). q.1) d.2 in
          let place : base + n + d.0.ahead ≡ base + (wiring_in s.fl s.w c).place x.part = omega (arith, far) in
          let one = uses_new s.p (frame_of s.fl net.fired c) (base + n) s.i.inlet.port (instr s is) (stood s is).at d.0 (g.plain d.0 d.1) s.t s.event.made s.new
          (at_dest (at s is) (W g.note) d.0) (goes_to s is)
          (subst (λ l. Contains l (at_dest (at s is) (W g.note) d.0)) (sym g.made)
          (Contains-append_right g.out_made (to_each (at s is) (W g.note) g.dests) (at_dest (at s is) (W g.note) d.0)
          (contains_map (at_dest (at s is) (W g.note)) g.dests d.0 d.1))) refl (λ k e. absurd (g.no_give k e)) in
          inl (subst (λ (j : Item). UsesArc s.p (frame_of s.fl net.fired j.context)
          (ip_of s.fl s.p s.w j.context j.inlet.part) j.inlet.port s.t s.event.made s.new) e
          (subst (λ q. UsesArc s.p (frame_of s.fl net.fired c) (base + (wiring_in s.fl s.w c).place x.part) q s.t s.event.made s.new) port
          (subst (λ n. UsesArc s.p (frame_of s.fl net.fired c) n d.0.port s.t s.event.made s.new) place one)))

      sent : (j : Item) → Contains g.out j ⊎ OnWire g.note g.second j → Sent s j
      sent j (inl h) = g.out_sent j h
      sent j (inr (x, h, e)) = record {
        held = ap (λ (j : Item). is_in_cell j.inlet.part) (sym e) ∙ instr_held x.part (wires_are x h);
        known = subst (λ (j : Item). (n : ℕ) × (frame_at s.fl net.fired j.context ≡ Some n)) e (framed s s.i (taken_here s));
        named = λ d n. names d (ap (λ (j : Item). named_by j.word) e ∙ n) g.from;
        asked = λ d y n. backs d y j (ap (λ (j : Item). j.word) e) n g.from;
        caused = λ i k. caused j (x, h, e);
      }

      -- only what is sent out counts for a loop
      counted : (d : Context) (n : ℕ) (q : Part) → is_credit q ≡ true → items_at d q (makes s.fl s.w f) ≡ items_at d q g.out
      counted d n q k =
          let t = is_item_at d q in
          let a = ap (items_at d q) g.makes_is in let b = count_append t g.out (each c g.note (Wire s is g.second)) in
          let z = count_none t (each c g.note (Wire s is g.second))
          (λ j h. calm_item d q k j (calm j (contains_mapped (λ (x : Inlet). item c x g.note) (Wire s is g.second) j h))) in omega (arith, a, b, z)

      books : (d : Context) (n : ℕ) → Books s g.out d n → Books s (makes s.fl s.w f) d n
      books d n b = record {
        takes = λ j h a e. b.takes j (sent_out j (Taker n) refl e (where_is j h)) a e;
        drains = λ j h a e. let o = b.drains j (sent_out j (Drainer n) refl e (where_is j h)) a e in (o.0, o.1, counted d n (Taker n) refl ∙ o.2);
        gives = λ j h a e. b.gives j (sent_out j (Giver n) refl e (where_is j h)) a e;
      }
        where
          sent_out : (j : Item) (q : Part) → is_credit q ≡ true → j.inlet.part ≡ q → Contains g.out j ⊎ OnWire g.note g.second j → Contains g.out j
          sent_out j q k e (inl h) = h
          sent_out j q k e (inr h) = absurd (true≢false (sym (ap is_credit e ∙ k) ∙ calm j h))

  -- IT SENDS along a side, and nothing out
  pub record Sends (f : Firing) : Type 0 where
    pub before : List Item
    pub kept : List Item
    pub later : List Item
    pub waiting : net.waiting ≡ before ++ (kept ++ later)
    pub paired : (j : Item) → Contains kept j → in_slot s.fl j ≡ true
    pub took : IsPermutation (s.i ∷ kept) (takes s.fl f)
    pub same : r ≡ f.part
    pub note : Note
    pub second : Bool
    pub makes_is : makes s.fl s.w f ≡ each c note (Wire s is second)
    pub from : (named_by note ≡ None) ⊎ ((a : Item) × Contains (s.i ∷ kept) a × (a.word ≡ note))
    pub dests : List Dest
    pub leads : IsPermutation (map (leads_to ((wiring_in s.fl s.w c).place r)) dests) (map (ip_and_port (wiring_in s.fl s.w c)) (Wire s is second))
    pub plain : (d : Dest) → Contains dests d → Contains (plain_dests (instr s is) (instr s is).op) d
    pub made : s.event.made ≡ to_each (at s is) (W note) dests
    pub slots : InSlots (λ (i : Item). frame_of s.fl net.fired i.context) (slot_of s.fl s.w)
        (λ (i : Item). on_side i.inlet.port (word_of s.fl s.p s.w net.fired i.word)) old.base (only (in_slot s.fl) (before ++ later)) s.new.store.slots
    pub stays : Stays s
    pub free : IsFree s
    pub no_give : (k : ℕ) → (instr s is).op ≡ Ops.Give k → ⊥

  pub sends_follow : (f : Firing) → is_still r ≡ true → Sends f → Followed s
  sends_follow f still g = leaves_follow f still (record {
    before = g.before;
    kept = g.kept;
    later = g.later;
    waiting = g.waiting;
    paired = g.paired;
    took = g.took;
    same = g.same;
    out = [];
    out_made = [];
    out_is = refl;
    out_sent = λ j h. absurd (contains_none j h);
    counted = free_counted s g.free [] (λ j h. absurd (contains_none j h));
    note = g.note;
    second = g.second;
    from = g.from;
    makes_is = g.makes_is;
    dests = g.dests;
    leads = g.leads;
    plain = g.plain;
    made = g.made;
    slots = g.slots;
    stays = g.stays;
    granted = g.free.granted;
    no_give = g.no_give;
  })
