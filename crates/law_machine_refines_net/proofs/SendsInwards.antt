-- Each part that sends along its wires: entries, nodes without cells, copies, switches and syncs.
use Rattle.std.proofs.Common.{◌≡◌, ℕ, Bool, true, false, not, List, [], ◌∷◌, ◌++◌, refl, sym, ap, ◌∙◌, subst, inl, inr, true≢false, Option, Some, None}
use Rattle.std.proofs.Common.{if◌then◌else◌}
use Rattle.std.specs.Prelude.{IsPermutation, flat_map}
use Rattle.std.proofs.lemmas.List.Elements.{All-contains, Contains-append_left, Contains-append_right}
use Rattle.tags.specs.declared.value.Value.{Value}
use Rattle.tags.specs.declared.value.Value.TheVariants.{Int}
use Rattle.tags.specs.declared.token.Word.{Word}
use Rattle.tags.specs.declared.slot.SlotState.TheVariants.{Empty}
use Rattle.operators.specs.Values.{truth, apply1, apply2}
use Rattle.operators.specs.declared.Binary.{Binary}
use Rattle.semantics.specs.declared.graph.Kind.{Kind}
use Rattle.semantics.specs.declared.graph.Kind.TheVariants as Kinds
use Rattle.semantics.specs.declared.program.Dest.{Dest}
use Rattle.semantics.specs.declared.program.Op.{Op}
use Rattle.semantics.specs.declared.program.Op.TheVariants as Ops
use Rattle.semantics.specs.Graph.{Node, Block, Flow, node_at}
use Rattle.semantics.specs.Meaning.{Context, node_of, node_in, block_number, block_numbered, origin_at, origin_in}
use Rattle.semantics.specs.Program.{Instr}
use Rattle.semantics.specs.Rule.{to_all, to_each, fires, fire_one, fire_two}
use Rattle.semantics.specs.Machine.{Fires}
use Rattle.law_fresh_frames.specs.Alike.{plain_dests}
use Rattle.law_net.specs.ContextsParts.{Part, Entry, Line, Answer, Trigger, Gate, Merge, Fanned, Landing, CallDone, LoopDone, Strict, TurnCont, TurnFlag}
use Rattle.law_net.specs.ContextsParts.{TurnValue, NextFanned, Join, CondEnd, Drained, Note, Datum, FrameOf, BackTo, ToHost, signal, Item, each}
use Rattle.law_net.specs.ContextsBlocks.{waits_in, is_switch, op_of, is_cell, cell_kind, pair_kind, kind_op}
use Rattle.law_net.specs.Contexts.{block_in, number_in, site_in, or_none, or_zero, HasBlock}
use Rattle.law_net.specs.ContextsWires.{answered_at}
use Rattle.law_net.specs.ContextsFirings.{takes, makes, line_value, kind_value, value_in}
use Rattle.law_net.specs.ContextsLaws.{WordFits, spot_there}
use Rattle.law_net.specs.ContextsMirror.{word_of, token_of, in_slot, slot_of, frame_of, is_instr}
use Rattle.law_net.specs.ContextsPackages.{Inwards, OfCells, doing_of, EventsFollowBy}
use Rattle.law_net.proofs.ContextsBlocks.{has_block}
use Rattle.law_machine_refines_net.specs.MovesCases.{Taking, net_of, Followed, is_still}
use Rattle.law_machine_refines_net.proofs.MovesFitted.{fits, IsHere, taken_here, among, is_plain_way}
use Rattle.law_machine_refines_net.proofs.SendsRules.{at, instr, stood, grants, releases}
use Rattle.law_machine_refines_net.proofs.SendsPairs as Pairs
use Rattle.law_machine_refines_net.proofs.SendsPairs.{Second}
use Rattle.law_machine_refines_net.proofs.Sends.{firing_of, Wire}
use Rattle.law_machine_refines_net.proofs.SendsAlong.{does, one_follows, both, two_follow, two_all, pair_follows, firsts_lead, seconds_lead}

-- THE SAME EVENT, described by a context and a part that are the item's
abbrev pub meant_at : (s : Taking) (c : Context) (r : Part) → s.i.context ≡ c → s.i.inlet.part ≡ r → Taking
meant_at s c r d e =
    let j : Item = record { context = c; inlet = record { part = r; port = s.i.inlet.port; way = s.i.inlet.way }; word = s.i.word; held = s.i.held } in
    let same : s.i ≡ j =
    λ t. record { context = d t; inlet = record { part = e t; port = s.i.inlet.port; way = s.i.inlet.way }; word = s.i.word; held = s.i.held } in record {
      fl = s.fl;
      p = s.p;
      w = s.w;
      inputs = s.inputs;
      z = s.z;
      q = s.q;
      m = s.m;
      new = s.new;
      e = s.e;
      t = s.t;
      good = s.good;
      keeps = s.keeps;
      event = s.event;
      fresh = s.fresh;
      i = j;
      others = s.others;
      perm = subst (λ (x : Item). IsPermutation s.keeps.tracks.net.pending (x ∷ s.others)) same s.perm;
      is_token = subst (λ (x : Item). s.t ≡ token_of s.fl s.p s.w s.keeps.tracks.net.fired x) same s.is_token;
    }

abbrev pub carried_as : (s : Taking) (r : Part) → s.i.inlet.part ≡ r → Taking
carried_as s r e = meant_at s s.i.context r refl e

-- the kind of an item's word
pub carried : (s : Taking) (j : Item) → IsHere s j → WordFits s.fl s.w j
carried s j c =
    All-contains (WordFits s.fl s.w) ((net_of s).pending ++ ((net_of s).waiting ++ flat_map (takes s.fl) (net_of s).fired)) j s.keeps.fits (among s j c)

-- A COPY
copy_follows : (s : Taking) (still : is_still s.i.inlet.part ≡ true) (one : waits_in (block_in s.fl s.i.context) s.i.inlet.part ≡ false)
    (is : is_instr s.i.inlet.part ≡ true)
    → op_of s.w.variant (site_in s.fl s.w s.i.context) s.i.inlet.part ≡ Ops.Copy → answered_at s.i.inlet.part ≡ [] → is_switch s.i.inlet.part ≡ false
    → (k : Note) → s.i.word ≡ k → makes s.fl s.w (firing_of s s.i.inlet.way s.i.word signal) ≡ each s.i.context k (Wire s is false) → Followed s
copy_follows s still one is op none single k same makes_is =
    let F = frame_of s.fl (net_of s).fired s.i.context in let W = λ (n : Note). word_of s.fl s.p s.w (net_of s).fired n in
    let did = subst (λ o. Fires s.m.store F None (fires Empty (fire_one s.p.program (at s is) (instr s is) o (W s.i.word))) s.event.made s.new.store)
    ((stood s is).is.op ∙ op) (does s still one is Ops.Copy op) in
    one_follows s still one is Ops.Copy op refl refl refl none single k (inr same) makes_is
    (subst (λ n. s.event.made ≡ to_all (at s is) (W n) (instr s is)) same did.0, did.1)

-- A SYNC
sync_follows : (s : Taking) (still : is_still s.i.inlet.part ≡ true) (two : in_slot s.fl s.i ≡ true)
    (plain : is_plain_way s.i.inlet.part ≡ true)
    → op_of s.w.variant (site_in s.fl s.w s.i.context) s.i.inlet.part ≡ Ops.Sync → answered_at s.i.inlet.part ≡ [] → is_switch s.i.inlet.part ≡ false
    → ((l k : Note) → makes s.fl s.w (firing_of s 0 l k) ≡ each s.i.context signal (Wire s (Pairs.is s two plain) false)) → Followed s
sync_follows s still two plain op none single makes_is =
    pair_follows s still two plain (λ sec. two_all s still two plain sec Ops.Sync op refl refl none single signal (inl refl) (makes_is sec.left sec.right)
    (both s still two plain sec Ops.Sync op))

-- A SWITCH
module _ (s : Taking) (still : is_still s.i.inlet.part ≡ true) (two : in_slot s.fl s.i ≡ true)
    (plain : is_plain_way s.i.inlet.part ≡ true) where
  abbrev is : is_instr s.i.inlet.part ≡ true
  is = Pairs.is s two plain

  abbrev W : Note → Word
  W n = word_of s.fl s.p s.w (net_of s).fired n

  -- what results from both words, for an operation
  abbrev Both : Op → Word → Word → Type 0
  Both op l k =
      Fires s.m.store (frame_of s.fl (net_of s).fired s.i.context) (Some (slot_of s.fl s.w s.i))
      (fires Empty (fire_two s.p.program (at s is) (instr s is) op l k)) s.event.made s.new.store

  abbrev Sent : Word → List Dest → Type 0
  Sent l ds =
      Fires s.m.store (frame_of s.fl (net_of s).fired s.i.context) (Some (slot_of s.fl s.w s.i))
      (fires Empty (Some (to_each (at s is) l ds))) s.event.made s.new.store

  module _ (op : op_of s.w.variant (site_in s.fl s.w s.i.context) s.i.inlet.part ≡ Ops.Switch) (none : answered_at s.i.inlet.part ≡ [])
      (makes_is : (l : Note) (v : Value) → makes s.fl s.w (firing_of s 0 l (Datum v))
      ≡ each s.i.context l (Wire s (Pairs.is s two plain) (not (truth v)))) where
    goes_along : (sec : Second s two plain) (v : Value) → sec.right ≡ Datum v → (t : Bool) → truth v ≡ t
        → makes s.fl s.w (firing_of s 0 sec.left sec.right) ≡ each s.i.context sec.left (Wire s is (not t))
    goes_along sec v e t h =
        ap (λ k. makes s.fl s.w (firing_of s 0 sec.left k)) e ∙ makes_is sec.left v ∙ ap (λ t. each s.i.context sec.left (Wire s is (not t))) h

    by_truth : (sec : Second s two plain) (v : Value) → sec.right ≡ Datum v → (t : Bool) → truth v ≡ t
        → Sent (W sec.left) (if t then (instr s is).firsts else (instr s is).seconds) → Followed s
    by_truth sec v e true h m =
        two_follow s still two plain sec Ops.Switch op refl refl false sec.left (inr refl) (goes_along sec v e true h) (instr s is).firsts
        (λ d c. Contains-append_left (instr s is).firsts (instr s is).seconds d c) (firsts_lead s still is none) m
    by_truth sec v e false h m =
        two_follow s still two plain sec Ops.Switch op refl refl true sec.left (inr refl) (goes_along sec v e false h) (instr s is).seconds
        (λ d c. Contains-append_right (instr s is).firsts (instr s is).seconds d c) (seconds_lead s still is) m

    by_word : (sec : Second s two plain) (k : Note) → sec.right ≡ k → Both Ops.Switch (W sec.left) (W k) → Followed s
    by_word sec (Datum v) e m = by_truth sec v e (truth v) refl m
    by_word sec (FrameOf d) e m = absurd m
    by_word sec (BackTo d x) e m = absurd m
    by_word sec ToHost e m = absurd m

    switch_follows : Followed s
    switch_follows = pair_follows s still two plain (λ sec. by_word sec sec.right refl (both s still two plain sec Ops.Switch op))

-- A NODE'S LINE
pub kept_node : (fl : Flow) (c : Context) (n : ℕ) → HasBlock fl c → node_of fl c n ≡ node_at (block_in fl c) n
kept_node fl c n (b, e) = subst (λ (o : Option (Block ℕ)). node_in o n ≡ node_at (or_none o) n) (sym e) refl

kept_number : (fl : Flow) (o : Option ℕ) (b : Block ℕ) → block_numbered fl o ≡ Some b → o ≡ Some (or_zero o)
kept_number fl None b e = absurd (cc)
kept_number fl (Some i) b e = refl

pub origin_is : (fl : Flow) (c : Context) (n : ℕ) → HasBlock fl c → origin_in fl.version (Some (number_in fl c)) n ≡ origin_at fl c n
origin_is fl c n (b, e) = ap (λ o. origin_in fl.version o n) (sym (kept_number fl (block_number fl c) b e))

pub if_false : (t : Bool) (xs ys : List Item) → t ≡ false → (if t then xs else ys) ≡ ys
if_false true xs ys e = absurd (true≢false e)
if_false false xs ys e = refl

abbrev op_for : Option (Node ℕ) → Op
op_for x = elim x as (λ y. Op) [ None ↦ Op.Copy | Some line ↦ kind_op line.kind ]

abbrev test_of : (Kind ℕ → Bool) → Option (Node ℕ) → Bool
test_of test x = elim x as (λ y. Bool) [ None ↦ false | Some line ↦ test line.kind ]

abbrev value_for : Flow → Context → ℕ → Value → Value → Option (Node ℕ) → Value
value_for fl c n v u x = elim x as (λ y. Value) [ None ↦ v | Some line ↦ kind_value fl c n v u line.kind ]

module _ (s : Taking) (n : ℕ) (e : s.i.inlet.part ≡ Line n) (cell : is_cell (block_in s.fl s.i.context) n ≡ false) where
  abbrev l : Taking
  l = carried_as s (Line n) e

  abbrev b : Block ℕ
  b = block_in s.fl s.i.context

  abbrev c : Context
  c = s.i.context

  here : HasBlock s.fl c
  here = has_block s.fl c (fits s s.i (taken_here s)).is_context

  value : (v : Value) × (s.i.word ≡ Datum v)
  value = carried l l.i (taken_here l)

  abbrev K : Note → Note → Note
  K a d = Datum (line_value s.fl c n (value_in a) (value_in d))

  line_makes_is : (t : ℕ) (a d : Note) → makes s.fl s.w (firing_of l t a d) ≡ each c (K a d) (Wire l refl false)
  line_makes_is t a d = if_false (is_cell b n) _ (each c (K a d) (Wire l refl false)) cell

  value_is : (x : Option (Node ℕ)) → node_at b n ≡ x → (v u : Value) → line_value s.fl c n v u ≡ value_for s.fl c n v u x
  value_is x f v u = ap (value_for s.fl c n v u) (kept_node s.fl c n here ∙ f)

  abbrev Lone : Op → Word → Type 0
  Lone op k =
      Fires s.m.store (frame_of s.fl (net_of s).fired c) None (fires Empty (fire_one s.p.program (at l refl) (instr l refl) op k)) s.event.made s.new.store

  abbrev word : Note → Word
  word k = word_of s.fl s.p s.w (net_of s).fired k

  abbrev ins : Instr
  ins = instr l refl

  abbrev own : Note
  own = K s.i.word signal

  op_is : (op : Op) → op_of s.w.variant (site_in s.fl s.w c) (Line n) ≡ op → ins.op ≡ op
  op_is op o = (stood l refl).is.op ∙ o

  -- a node that passes its word on
  line_copies : op_of s.w.variant (site_in s.fl s.w c) (Line n) ≡ Ops.Copy → waits_in b (Line n) ≡ false → ((v u : Value) → line_value s.fl c n v u ≡ v)
      → Followed s
  line_copies o one same =
      let h = value.1 in
      let k : s.i.word ≡ own = h ∙ ap (λ (v : Value). Datum v) (sym (ap value_in h) ∙ sym (same (value_in s.i.word) (value_in signal))) in
      copy_follows l refl one refl o refl refl own k (line_makes_is s.i.inlet.way s.i.word signal)

  -- and one that makes another
  line_sends : (op : Op) → op_of s.w.variant (site_in s.fl s.w c) (Line n) ≡ op → plain_dests ins op ≡ ins.firsts ++ ins.seconds → grants op ≡ false
      → releases op ≡ false → (one : waits_in b (Line n) ≡ false)
      → (w : Value) → line_value s.fl c n (value_in s.i.word) (value_in signal) ≡ w
      → (s.event.made ≡ to_all (at l refl) (Word.Val w) ins) × (s.new.store ≡ s.m.store) → Followed s
  line_sends op o plain g rel one w same did =
      one_follows l refl one refl op o plain g rel refl refl own (inl refl) (line_makes_is s.i.inlet.way s.i.word signal)
      (subst (λ w. s.event.made ≡ to_all (at l refl) (Word.Val w) ins) (sym same) did.0, did.1)

  -- two operands
  module _ (op : Binary) (o : op_of s.w.variant (site_in s.fl s.w c) (Line n) ≡ Ops.Apply2 op) (two : waits_in b (Line n) ≡ true)
      (same : (v u : Value) → line_value s.fl c n v u ≡ apply2 op v u (origin_at s.fl c n)) where
    abbrev is_line : is_instr (Line n) ≡ true
    is_line = Pairs.is l two refl

    abbrev pair : Instr
    pair = instr l is_line

    origin : pair.origin ≡ origin_at s.fl c n
    origin = (stood l is_line).is.origin ∙ origin_is s.fl c n here

    by_words : (sec : Second l two refl) (a d : Note) → sec.left ≡ a → sec.right ≡ d
        → Fires s.m.store (frame_of s.fl (net_of s).fired c) (Some (slot_of s.fl s.w l.i))
        (fires Empty (fire_two s.p.program (at l is_line) pair (Ops.Apply2 op) (word a) (word d))) s.event.made s.new.store → Followed s
    by_words sec (Datum v) (Datum u) e h m =
        let w : line_value s.fl c n (value_in sec.left) (value_in sec.right) ≡ apply2 op v u pair.origin = same (value_in sec.left) (value_in sec.right)
        ∙ (λ t. apply2 op (value_in (e t)) (value_in (h t)) (sym origin t)) in
        two_all l refl two refl sec (Ops.Apply2 op) o refl refl refl refl (K sec.left sec.right) (inl refl) (line_makes_is 0 sec.left sec.right)
        (subst (λ w. s.event.made ≡ to_all (at l is_line) (Word.Val w) pair) (sym w) m.0, m.1)
    by_words sec (Datum v) (FrameOf x) e h m = absurd m
    by_words sec (Datum v) (BackTo x y) e h m = absurd m
    by_words sec (Datum v) ToHost e h m = absurd m
    by_words sec (FrameOf x) d e h m = absurd m
    by_words sec (BackTo x y) d e h m = absurd m
    by_words sec ToHost d e h m = absurd m

    line_meets : Followed s
    line_meets = pair_follows l refl two refl (λ sec. by_words sec sec.left sec.right refl refl (both l refl two refl sec (Ops.Apply2 op) o))

  by_kind : (k : Kind ℕ) → op_of s.w.variant (site_in s.fl s.w c) (Line n) ≡ kind_op k → ((v u : Value) → line_value s.fl c n v u ≡ kind_value s.fl c n v u k)
      → waits_in b (Line n) ≡ pair_kind k → cell_kind k ≡ false → Followed s
  by_kind (Kinds.Lit z) o v p q =
      line_sends (Ops.Lit z) o refl refl refl p (Int z) (v (value_in s.i.word) (value_in signal))
      (subst (λ x. Lone x (word s.i.word)) (op_is (Ops.Lit z) o) (does l refl p refl (Ops.Lit z) o))
  by_kind (Kinds.Apply1 op) o v p q =
      let h = value.1 in
      line_sends (Ops.Apply1 op) o refl refl refl p (apply1 op value.0) (v (value_in s.i.word) (value_in signal) ∙ ap (λ k. apply1 op (value_in k)) h)
      (subst (λ k. Lone (Ops.Apply1 op) (word k)) h (subst (λ x. Lone x (word s.i.word)) (op_is (Ops.Apply1 op) o) (does l refl p refl (Ops.Apply1 op) o)))
  by_kind (Kinds.Apply2 op) o v p q = line_meets op o p v
  by_kind (Kinds.Fetch a) o v p q = absurd (true≢false q)
  by_kind (Kinds.Store a) o v p q = absurd (true≢false q)
  by_kind k o v p q = line_copies o p v

  by_node : (x : Option (Node ℕ)) → node_at b n ≡ x → test_of cell_kind x ≡ false → Followed s
  by_node None f q = line_copies (ap op_for f) (ap (test_of pair_kind) f) (value_is None f)
  by_node (Some line) f q = by_kind line.kind (ap op_for f) (value_is (Some line) f) (ap (test_of pair_kind) f) q

  line_follows : Followed s
  line_follows = by_node (node_at b n) refl cell

-- EACH OF THESE PARTS
inward : (s : Taking) (r : Part) → s.i.inlet.part ≡ r → doing_of s.fl s.i.context r ≡ Inwards → Followed s
inward s (Line n) e d = line_follows s n e (not_cell (is_cell (block_in s.fl s.i.context) n) d)
  where
    not_cell : (t : Bool) → (if t then OfCells else Inwards) ≡ Inwards → t ≡ false
    not_cell true h = absurd (cc)
    not_cell false h = refl
inward s Entry e d = copy_follows (carried_as s Entry e) refl refl refl refl refl refl s.i.word refl refl
inward s (Answer n) e d = copy_follows (carried_as s (Answer n) e) refl refl refl refl refl refl s.i.word refl refl
inward s (Merge n) e d = copy_follows (carried_as s (Merge n) e) refl refl refl refl refl refl s.i.word refl refl
inward s (Fanned n) e d = copy_follows (carried_as s (Fanned n) e) refl refl refl refl refl refl s.i.word refl refl
inward s (Landing n j) e d = copy_follows (carried_as s (Landing n j) e) refl refl refl refl refl refl s.i.word refl refl
inward s (CallDone n) e d = copy_follows (carried_as s (CallDone n) e) refl refl refl refl refl refl s.i.word refl refl
inward s (LoopDone n) e d = copy_follows (carried_as s (LoopDone n) e) refl refl refl refl refl refl s.i.word refl refl
inward s NextFanned e d = copy_follows (carried_as s NextFanned e) refl refl refl refl refl refl s.i.word refl refl
inward s (CondEnd k) e d = copy_follows (carried_as s (CondEnd k) e) refl refl refl refl refl refl s.i.word refl refl
inward s (Strict n i) e d = sync_follows (carried_as s (Strict n i) e) refl refl refl refl refl refl (λ l k. refl)
inward s (Join r i) e d = sync_follows (carried_as s (Join r i) e) refl refl refl refl refl refl (λ l k. refl)
inward s (Trigger k) e d = switch_follows (carried_as s (Trigger k) e) refl refl refl refl refl (λ l v. refl)
inward s (Gate k) e d = switch_follows (carried_as s (Gate k) e) refl refl refl refl refl (λ l v. refl)
inward s TurnCont e d = switch_follows (carried_as s TurnCont e) refl refl refl refl refl (λ l v. refl)
inward s TurnFlag e d = switch_follows (carried_as s TurnFlag e) refl refl refl refl refl (λ l v. refl)
inward s (TurnValue j) e d = switch_follows (carried_as s (TurnValue j) e) refl refl refl refl refl (λ l v. refl)
-- no item arrives there
inward s (Drained n) e d = let f = (fits s s.i (taken_here s)).there in absurd (true≢false (sym f ∙ ap (spot_there s.fl s.w s.i.context) e))
inward s r e d = absurd (cc)

-- EVENTS ALONG WIRES
pub inwards_follow : EventsFollowBy Inwards
inwards_follow fl p w inputs z q m new e t good k ev fresh i others perm is_token doing =
    let s : Taking =
    record {
      fl = fl;
      p = p;
      w = w;
      inputs = inputs;
      z = z;
      q = q;
      m = m;
      new = new;
      e = e;
      t = t;
      good = good;
      keeps = k;
      event = ev;
      fresh = fresh;
      i = i;
      others = others;
      perm = perm;
      is_token = is_token;
    } in
    inward s i.inlet.part refl doing
