-- A fetch or a store at its node: it asks its cell, or answers at once where its index is bad.
use Rattle.std.proofs.Common.{◌≡◌, ℕ, ◌+◌, Bool, true, false, List, [], ◌∷◌, ◌++◌, map, refl, sym, ap, ◌∙◌, subst, inl, inr, ◌⊎◌, arith, true≢false, Some}
use Rattle.std.proofs.Common.{append-nil, if◌then◌else◌, None}
use Rattle.std.specs.Prelude.{IsPermutation, Contains}
use Rattle.std.proofs.lemmas.List.Elements.{Contains-append_left, Contains-append_right, Contains-append_cases}
use Rattle.std.proofs.lemmas.List.Sorted.{IsPermutation-refl, Contains-permutation}
use Rattle.lemmas.proofs.Permutations.{permutation_same}
use Rattle.lemmas.proofs.Contains.{contains_head, contains_cases}
use Rattle.tags.specs.declared.value.Value.{Value}
use Rattle.tags.specs.declared.token.Port.{Port}
use Rattle.tags.specs.declared.token.Port.TheVariants.{Left}
use Rattle.tags.specs.declared.token.Word.{Word}
use Rattle.tags.specs.declared.token.To.{To}
use Rattle.tags.specs.declared.token.Token.{Token}
use Rattle.operators.specs.Values.{Outside}
use Rattle.semantics.specs.declared.program.Op.{Op}
use Rattle.semantics.specs.declared.program.Op.TheVariants as Ops
use Rattle.semantics.specs.Graph.{first_cell}
use Rattle.semantics.specs.Meaning.{Context, Memory}
use Rattle.semantics.specs.Program.{Instr}
use Rattle.semantics.specs.Rule.{token}
use Rattle.semantics.specs.Sharing.{arc, inlet as port_at}
use Rattle.semantics.specs.Arcs.{UsesArc, UsesBy}
use Rattle.semantics.specs.Cause.{SameSeen}
use Rattle.law_confluence.proofs.NetSlots.{InSlots}
use Rattle.law_confluence.proofs.Orders.{shuffled, Part as Piece, ◌⊕◌}
use Rattle.law_reuse.proofs.SlotsUsedArcs.{stands_arcs}
use Rattle.law_fresh_frames.specs.Alike.{plain_dests}
use Rattle.law_fresh_frames.proofs.FreshArcs.{dest_arc, uses_new}
use Rattle.law_net.specs.ContextsParts.{Part, Line, InCell, Inlet, inlet, Datum, BackTo, Item, item, each, Firing}
use Rattle.law_net.specs.ContextsBlocks.{side, is_cell, is_store}
use Rattle.law_net.specs.Contexts.{block_in, code_in, wiring_in}
use Rattle.law_net.specs.ContextsFirings.{Config, takes, makes, frame_at, cell_of, index_of, place_at, second_of, stored_at, memory_of, back_from, AFault}
use Rattle.law_net.specs.ContextsFirings.{ProperAt, array_at, handed_to, renewed}
use Rattle.law_net.specs.ContextsMirror.{frame_of, ip_of, word_of, token_of, on_side, in_slot, slot_of, only, is_in_cell, is_instr, named_by, Mirrors}
use Rattle.law_machine_refines_net.specs.MovesCases.{Taking, IsCaused, net_of, Followed, IsFree}
use Rattle.law_machine_refines_net.proofs.MovesLists.{contains_one, one_holds}
use Rattle.law_machine_refines_net.proofs.MovesParts.{is_credit, pair_reads, is_lending, pair_asked, pair_quiet, quiet_calm, given_calm}
use Rattle.law_machine_refines_net.proofs.MovesStill.{to_instr}
use Rattle.law_machine_refines_net.proofs.MovesAccount.{Account, no_move, kept_fires, part_fires, reordered, here as where_is}
use Rattle.law_machine_refines_net.proofs.MovesFramed.{HandNone, frames_stay}
use Rattle.law_machine_refines_net.proofs.MovesLoops.{unlent, unlent_loops}
use Rattle.law_machine_refines_net.proofs.MovesBalanced.{WasThere, UsedNow, Sound, balanced}
use Rattle.law_machine_refines_net.proofs.MovesPlain.{Stays, is_silent, is_end, words_stay, pool_of, tokens_of, sound_of, requests_stay, readers_stay}
use Rattle.law_machine_refines_net.proofs.MovesPlain.{memory_by, memory_of_silent, recalls, silent_seen}
use Rattle.law_machine_refines_net.proofs.MovesSettled.{made_but, meant_other, meant_held, IsMeant}
use Rattle.law_machine_refines_net.proofs.MovesFitted.{fits, framed, taken_here, instr_held, others_before}
use Rattle.law_machine_refines_net.proofs.SendsRules.{goes_to}
use Rattle.law_machine_refines_net.proofs.CellsAnswered.{Answered, answered}
use Rattle.law_machine_refines_net.proofs.CellsHeld.{held_firing}

-- A REQUEST IS MADE at the item's part, a node's
module _ (s : Taking) (n : ℕ) (e : s.i.inlet.part ≡ Line n) (cell : is_cell (block_in s.fl s.i.context) n ≡ true) where
  abbrev net : Config
  net = net_of s

  abbrev old : Mirrors s.fl s.p s.w s.m net
  old = s.keeps.tracks.stands

  abbrev tok : Item → Token
  tok j = token_of s.fl s.p s.w net.fired j

  abbrev c : Context
  c = s.i.context

  pub is : is_instr s.i.inlet.part ≡ true
  is = ap is_instr e

  pub ans : Answered s.fl s.p s.w s.good c (fits s s.i (taken_here s)).is_context n cell
  ans = answered s.fl s.p s.w s.good c (fits s s.i (taken_here s)).is_context n cell

  abbrev pub frame : ℕ
  frame = frame_of s.fl net.fired c

  abbrev pub here : ℕ
  here = ip_of s.fl s.p s.w c (Line n)

  abbrev pub ins : Instr
  ins = ans.point.instr

  abbrev pub target : ℕ
  target = ip_of s.fl s.p s.w c ans.inlet.part

  far : here + ans.dest.ahead ≡ target
  far = let k = ans.far in omega (arith, k)

  pub back_is : back_from c ((wiring_in s.fl s.w c).wire (side (Line n) false)) ≡ BackTo c ans.inlet
  back_is = ap (back_from c) ans.wire

  came_to : (q : Port) → s.i.inlet.port ≡ q → s.t.to ≡ To.Instr frame here q
  came_to q h = goes_to s is ∙ (λ t. To.Instr frame (ip_of s.fl s.p s.w c (e t)) (h t))

  -- the arc of the answer
  one_dest : (op : Op) → plain_dests ins op ≡ ins.firsts ++ ins.seconds → Contains (plain_dests ins op) ans.dest
  one_dest op plain = subst (λ l. Contains l ans.dest) (sym (plain ∙ ap (λ l. l ++ ins.seconds) ans.firsts)) (contains_head ans.dest ins.seconds)

  abbrev pub Used : Type 0
  Used = UsesArc s.p frame target ans.inlet.port s.t s.event.made s.new

  -- it is asked for
  pub asks_arc : (op : Op) → ins.op ≡ op → plain_dests ins op ≡ ins.firsts ++ ins.seconds → (t : Token) → Contains s.event.made t
      → (AsksBy : UsesBy s.p frame target ans.inlet.port ins op t s.new) → Used
  asks_arc op o plain t inside by =
      let place = (wiring_in s.fl s.w c).place (Line n) in
      let d = ans.dest in
      let k = dest_arc s.p place ins ins.op d (subst (λ o. Contains (plain_dests ins o) d) (sym o) (one_dest op plain)) in
      let f = far in record {
        b = code_in s.fl s.w c;
        x = arc place k.0 (port_at (place + d.ahead) d.port);
        side = s.i.inlet.port;
        i = ins;
        t = t;
        is_arc = stands_arcs s.p (code_in s.fl s.w c) place ins (arc place k.0 (port_at (place + d.ahead) d.port)) ans.point.stands k.1;
        place = omega (arith, f);
        port = sym ans.port;
        taken_at = came_to s.i.inlet.port refl;
        fired = ans.point.at;
        is_made = inside;
        uses = subst (λ o. UsesBy s.p frame target ans.inlet.port ins o t s.new) (sym o) by;
      }

  -- it is answered at once
  pub sent_arc : (op : Op) → ins.op ≡ op → plain_dests ins op ≡ ins.firsts ++ ins.seconds → ((k : ℕ) → op ≡ Ops.Give k → ⊥) → (w : Value)
      → s.event.made ≡ token (To.Instr frame (here + ans.dest.ahead) ans.dest.port) (Word.Val w) ∷ [] → Used
  sent_arc op o plain no_give w made =
      let t = token (To.Instr frame (here + ans.dest.ahead) ans.dest.port) (Word.Val w) in
      let u = uses_new s.p frame here s.i.inlet.port ins ans.point.at ans.dest
      (subst (λ o. Contains (plain_dests ins o) ans.dest) (sym o) (one_dest op plain)) s.t s.event.made s.new t (came_to s.i.inlet.port refl)
      (subst (λ l. Contains l t) (sym made) (contains_head t [])) refl (λ k h. absurd (no_give k (sym o ∙ h))) in
      subst (λ q. UsesArc s.p frame target q s.t s.event.made s.new) ans.port (subst (λ ip. UsesArc s.p frame ip ans.dest.port s.t s.event.made s.new) far u)

  used_now : Used → UsedNow s c ans.inlet
  used_now u m l =
      let r = ans.row in let z : target ≡ target + m = omega (arith, l, r) in subst (λ ip. UsesArc s.p frame ip ans.inlet.port s.t s.event.made s.new) z u

  -- WHAT FIRES
  pub record Asks : Type 0 where
    pub f : Firing
    pub before : List Item
    pub kept : List Item
    pub later : List Item
    pub waiting : net.waiting ≡ before ++ (kept ++ later)
    pub paired : (j : Item) → Contains kept j → in_slot s.fl j ≡ true
    pub took : IsPermutation (s.i ∷ kept) (takes s.fl f)
    pub part : f.part ≡ Line n
    pub held : List Value
    pub makes_is : makes s.fl s.w f
        ≡ record { context = c; inlet = inlet (InCell n) Left 0; word = back_from c ((wiring_in s.fl s.w c).wire (side (Line n) false)); held = held } ∷ []
    pub slots : InSlots (λ (i : Item). frame_of s.fl net.fired i.context) (slot_of s.fl s.w)
        (λ (i : Item). on_side i.inlet.port (word_of s.fl s.p s.w net.fired i.word)) old.base (only (in_slot s.fl) (before ++ later)) s.new.store.slots
    pub stays : Stays s
    pub free : IsFree s

  module _ (g : Asks) (used : Used) where
    abbrev pub request : Item
    request = record { context = c; inlet = inlet (InCell n) Left 0; word = back_from c ((wiring_in s.fl s.w c).wire (side (Line n) false)); held = g.held }

    abbrev Kind : Item → Type 0
    Kind i = in_slot s.fl i ≡ true

    named_here : (x : Context) → named_by request.word ≡ Some x → (m : ℕ) × (frame_at s.fl net.fired x ≡ Some m)
    named_here x k =
        let a : Some c ≡ Some x = sym (ap named_by back_is) ∙ k in let z : c ≡ x = cc in
        subst (λ x. (m : ℕ) × (frame_at s.fl net.fired x ≡ Some m)) z (framed s s.i (taken_here s))

    asked_here : (x : Context) (y : Inlet) → request.word ≡ BackTo x y → WasThere s request ⊎ UsedNow s x y
    asked_here x y k =
        let a : BackTo c ans.inlet ≡ BackTo x y = sym back_is ∙ k in let z : c ≡ x = cc in let v : ans.inlet ≡ y = cc in
        inr (subst (λ y. UsedNow s x y) v (subst (λ x. UsedNow s x ans.inlet) z (used_now used)))

    abbrev asked_it : Config
    asked_it = record { pending = makes s.fl s.w g.f ++ s.others; waiting = g.before ++ g.later; fired = g.f ∷ net.fired }

    account : Account s Kind asked_it (g.f ∷ []) (request ∷ [])
    account =
        reordered (kept_fires (no_move s Kind) g.f (s.i ∷ []) s.others g.before g.kept g.later s.perm g.waiting g.paired g.took
        (subst (λ (r : Part). ProperAt s.fl net.fired g.f r) (sym g.part) tt)) (request ∷ [])
        (permutation_same _ _ (append-nil (makes s.fl s.w g.f) ∙ g.makes_is))

    none : HandNone s.fl (g.f ∷ [])
    none = one_holds (λ (h : Firing). handed_to s.fl h.context h.part ≡ None) g.f (ap (handed_to s.fl g.f.context) g.part)

    pair_calm : (i : Item) → Kind i → is_credit i.inlet.part ≡ false
    pair_calm i t = quiet_calm i.inlet.part (pair_quiet (block_in s.fl i.context) i.inlet.part t)

    not_lent : is_lending g.f.part ≡ false
    not_lent = ap is_lending g.part

    not_renewed : renewed s.fl g.f g.f.part ≡ []
    not_renewed = ap (renewed s.fl g.f) g.part

    -- THE INDEX IS GOOD
    pub asks_cell : (x : ℕ) → cell_of s.fl c n g.held ≡ Some x → s.event.made ≡ tok request ∷ [] → Followed s
    asks_cell x good made = balanced {T = Kind} {d = asked_it} {new = g.f ∷ []} {made = request ∷ []} (record {
      account = account;
      frames = frames_stay account none;
      base = old.base;
      loops = unlent_loops account (frames_stay account none) (words_stay account none)
          (unlent s Kind asked_it (g.f ∷ []) (request ∷ []) g.free (one_holds (λ (h : Firing). is_lending h.part ≡ false) g.f not_lent) pair_calm
          (one_holds (λ (i : Item). is_credit i.inlet.part ≡ false) request refl));
      words = words_stay account none;
      sound = one_holds (Sound s asked_it) request (sound_of account none request (framed s s.i (taken_here s)) named_here asked_here);
      pool = pool_of account none (request ∷ []) made_is (permutation_same _ _ (ap (λ l. l ++ s.others) g.makes_is));
      tokens =
          tokens_of account none (ap (λ l. l ++ []) not_renewed)
          (made_but s (request ∷ []) made_is
          (one_holds (λ (i : Item). IsMeant s.fl s.p s.w net.fired i) request (meant_held s.fl s.p s.w net.fired request n x refl good)));
      caused = λ i h k l. caused i k (Contains-append_cases (makes s.fl s.w g.f) s.others i h);
      good = λ i m h k. good_at i m k (where_is account i h);
      waits = λ i t. inl t;
      slots = g.slots;
      requests = requests_stay account g.stays.requests (λ i t. pair_asked (block_in s.fl i.context) i.inlet.part t);
      readers = λ y. readers_stay account y (g.stays.cells y) (λ i t. pair_reads s.fl y i (block_in s.fl i.context) i.inlet.part t);
      memory = memory_of_silent account none (one_holds (λ (h : Firing). is_silent h.part ≡ true) g.f (ap is_silent g.part)) (recalls s g.stays);
    })
      where
        made_is : IsPermutation s.event.made (map tok (request ∷ []))
        made_is = permutation_same _ _ made

        good_at : (i : Item) (m : ℕ) → i.inlet.part ≡ InCell m → Contains (request ∷ []) i ⊎ Contains (net.pending ++ net.waiting) i
            → (y : ℕ) × (cell_of s.fl i.context m i.held ≡ Some y)
        good_at i m k (inr h) = old.good i m h k
        good_at i m k (inl h) =
            one_holds (λ (i : Item). i.inlet.part ≡ InCell m → (y : ℕ) × (cell_of s.fl i.context m i.held ≡ Some y)) request
            (λ q. let z : n ≡ m = cc in (x, subst (λ m. cell_of s.fl c m g.held ≡ Some x) z good)) i h k

        caused : (i : Item) → is_instr i.inlet.part ≡ true → Contains (makes s.fl s.w g.f) i ⊎ Contains s.others i → Contains net.pending i ⊎ IsCaused s i
        caused i k (inl h) =
            absurd (true≢false (sym k ∙ one_holds (λ (i : Item). is_instr i.inlet.part ≡ false) request refl i (subst (λ l. Contains l i) g.makes_is h)))
        caused i k (inr h) = inl (others_before s i h)

    -- THE INDEX IS BAD
    module _ (u : Value) (bad : index_of s.fl c n g.held ≡ Outside u)
        (made : s.event.made ≡ token (To.Instr frame (here + ans.dest.ahead) ans.dest.port) (Word.Val u) ∷ []) where
      abbrev h : Firing
      h = held_firing request u

      abbrev reply : Item
      reply = item c ans.inlet (Datum u)

      replies_is : makes s.fl s.w h ≡ reply ∷ []
      replies_is = ap (each c (Datum u)) ans.wire

      abbrev answered_it : Config
      answered_it = record { pending = makes s.fl s.w h ++ s.others; waiting = g.before ++ g.later; fired = h ∷ g.f ∷ net.fired }

      both : Account s Kind answered_it (h ∷ g.f ∷ []) (reply ∷ request ∷ [])
      both =
          reordered (part_fires account h (request ∷ []) s.others [] (g.before ++ g.later) (permutation_same _ _ (ap (λ l. l ++ s.others) g.makes_is))
          (IsPermutation-refl (g.before ++ g.later)) (IsPermutation-refl (request ∷ [])) (AFault bad) (λ test spares. refl)) (reply ∷ request ∷ [])
          (permutation_same _ _ (ap (λ l. l ++ request ∷ []) replies_is))

      of_both : (P : Firing → Type 0) → P h → P g.f → (f : Firing) → Contains (h ∷ g.f ∷ []) f → P f
      of_both P a b f k = pick (contains_cases h (g.f ∷ []) f k)
        where
          pick : (h ≡ f) ⊎ Contains (g.f ∷ []) f → P f
          pick (inl q) = subst P q a
          pick (inr q) = one_holds P g.f b f q

      of_made : (P : Item → Type 0) → P reply → P request → (i : Item) → Contains (reply ∷ request ∷ []) i → P i
      of_made P a b i k = pick (contains_cases reply (request ∷ []) i k)
        where
          pick : (reply ≡ i) ⊎ Contains (request ∷ []) i → P i
          pick (inl q) = subst P q a
          pick (inr q) = one_holds P request b i q

      none_both : HandNone s.fl (h ∷ g.f ∷ [])
      none_both = of_both (λ (f : Firing). handed_to s.fl f.context f.part ≡ None) refl (ap (handed_to s.fl g.f.context) g.part)

      reply_token : tok reply ≡ token (To.Instr frame (here + ans.dest.ahead) ans.dest.port) (Word.Val u)
      reply_token =
          ap (λ (x : To). token x (Word.Val u)) (to_instr s.fl s.p s.w net.fired reply ans.inlet.part ans.is_instr)
          ∙ (λ t. token (To.Instr frame (sym far t) (sym ans.port t)) (Word.Val u))

      made_is : IsPermutation s.event.made (map tok (reply ∷ []))
      made_is = permutation_same _ _ (made ∙ sym (ap (λ t. t ∷ []) reply_token))

      not_held : (i : Item) → Contains (reply ∷ []) i → is_in_cell i.inlet.part ≡ false
      not_held = one_holds (λ (i : Item). is_in_cell i.inlet.part ≡ false) reply (instr_held ans.inlet.part ans.is_instr)

      memory : memory_of s.fl answered_it.fired ≡ memory_of s.fl (g.f ∷ net.fired)
      memory =
          ap (λ o. if is_store (block_in s.fl c) n then stored_at o (second_of g.held) (memory_of s.fl (g.f ∷ net.fired)) else memory_of s.fl (g.f ∷ net.fired))
          (ap (place_at (first_cell s.fl (array_at s.fl c n))) bad) ∙ either (is_store (block_in s.fl c) n) (memory_of s.fl (g.f ∷ net.fired))
        where
          either : (t : Bool) (m : Memory) → (if t then m else m) ≡ m
          either true m = refl
          either false m = refl

      first_seen : SameSeen s.new.store (memory_of s.fl (g.f ∷ net.fired))
      first_seen = silent_seen account (one_holds (λ (h : Firing). is_silent h.part ≡ true) g.f (ap is_silent g.part)) (recalls s g.stays).recalled

      pub answers_at_once : Followed s
      answers_at_once = balanced {T = Kind} {d = answered_it} {new = h ∷ g.f ∷ []} {made = reply ∷ request ∷ []} (record {
        account = both;
        frames = frames_stay both none_both;
        base = old.base;
        loops = unlent_loops both (frames_stay both none_both) (words_stay both none_both)
            (unlent s Kind answered_it (h ∷ g.f ∷ []) (reply ∷ request ∷ []) g.free (of_both (λ (f : Firing). is_lending f.part ≡ false) refl not_lent)
            pair_calm (of_made (λ (i : Item). is_credit i.inlet.part ≡ false) (given_calm (block_in s.fl c) ans.inlet.part ans.given) refl));
        words = words_stay both none_both;
        sound =
            of_made (Sound s answered_it)
            (sound_of both none_both reply (framed s s.i (taken_here s)) (λ x k. absurd (cc)) (λ x y k. absurd (cc)))
            (sound_of both none_both request (framed s s.i (taken_here s)) named_here asked_here);
        pool = pool_of both none_both (reply ∷ []) made_is (permutation_same _ _ (ap (λ l. l ++ s.others) replies_is));
        tokens =
            tokens_of both none_both (ap (λ l. l ++ []) not_renewed)
            (made_but s (reply ∷ []) made_is (λ i k. meant_other s.fl s.p s.w net.fired i (not_held i k)));
        caused = λ i k l m. caused i (Contains-append_cases (makes s.fl s.w h) s.others i k);
        good = λ i m k l. good_at i m l (Contains-append_cases (makes s.fl s.w h ++ s.others) (g.before ++ g.later) i k);
        waits = λ i t. inl t;
        slots = g.slots;
        requests = requests_stay both g.stays.requests (λ i t. pair_asked (block_in s.fl i.context) i.inlet.part t);
        readers = λ y. readers_stay both y (g.stays.cells y) (λ i t. pair_reads s.fl y i (block_in s.fl i.context) i.inlet.part t);
        memory = memory_by both none_both (record {
          outputs = λ j. first_seen.outputs j ∙ sym (ap (λ (m : Memory). m.outputs j) memory);
          cells = λ y. first_seen.cells y ∙ sym (ap (λ (m : Memory). m.cells y) memory);
        }) (of_both (λ (f : Firing). is_end f.part ≡ false) refl (ap is_end g.part)) g.stays.done g.stays.out;
      })
        where
          in_made : (i : Item) → Contains (makes s.fl s.w h) i → reply ≡ i
          in_made i k = contains_one reply i (subst (λ l. Contains l i) replies_is k)

          still_waits : (i : Item) → Contains (g.before ++ g.later) i → Contains net.waiting i
          still_waits i k =
              subst (λ l. Contains l i) (sym g.waiting)
              (Contains-permutation _ _ i (shuffled (g.before ∷ g.later ∷ g.kept ∷ []) ((Piece 0 ⊕ Piece 1) ⊕ Piece 2) (Piece 0 ⊕ (Piece 2 ⊕ Piece 1)) refl)
              (Contains-append_left (g.before ++ g.later) g.kept i k))

          good_at : (i : Item) (m : ℕ) → i.inlet.part ≡ InCell m → Contains (makes s.fl s.w h ++ s.others) i ⊎ Contains (g.before ++ g.later) i
              → (y : ℕ) × (cell_of s.fl i.context m i.held ≡ Some y)
          good_at i m k (inr l) = old.good i m (Contains-append_right net.pending net.waiting i (still_waits i l)) k
          good_at i m k (inl l) = pick (Contains-append_cases (makes s.fl s.w h) s.others i l)
            where
              pick : Contains (makes s.fl s.w h) i ⊎ Contains s.others i → (y : ℕ) × (cell_of s.fl i.context m i.held ≡ Some y)
              pick (inl l) = absurd (true≢false (sym (ap is_in_cell k) ∙ not_held i (subst (λ l. Contains l i) replies_is l)))
              pick (inr l) = old.good i m (Contains-append_left net.pending net.waiting i (others_before s i l)) k

          caused : (i : Item) → Contains (makes s.fl s.w h) i ⊎ Contains s.others i → Contains net.pending i ⊎ IsCaused s i
          caused i (inl l) = inr (subst (IsCaused s) (in_made i l) (inl used))
          caused i (inr l) = inl (others_before s i l)
