-- An event of the new run uses the arcs that the old one used, or what results from them is on its way.
use Rattle.std.proofs.Common.{true≢false}
use Rattle.std.proofs.Common.{map}
use Rattle.std.proofs.Common.{◌≡◌, refl, sym, ap, ◌∙◌, subst, ℕ, zero, suc, ◌+◌, ◌<◌, ◌⊎◌, inl, inr, Bool, true, false, List, [], ◌∷◌, ◌++◌, length}
use Rattle.std.proofs.Common.{Some, Contains, arith}
use Rattle.std.specs.Prelude.{flat_map, if◌then◌else◌}
use Rattle.std.proofs.lemmas.List.Elements.{Contains-append_left, Contains-append_right, Contains-append_cases}
use Rattle.std.proofs.lemmas.Option.{same_Some}
use Rattle.lemmas.proofs.Contains.{contains_cases, contains_head, contains_mapped, contains_none, contains_tail}
use Rattle.tags.specs.declared.token.Port.{Port}
use Rattle.tags.specs.declared.token.Port.TheVariants.{Left}
use Rattle.tags.specs.declared.token.Cont.{Cont}
use Rattle.tags.specs.declared.token.Word.{Word}
use Rattle.tags.specs.declared.token.To.{To}
use Rattle.tags.specs.declared.token.Token.{Token}
use Rattle.tags.specs.declared.slot.SlotState.{SlotState}
use Rattle.tags.specs.declared.slot.SlotState.TheVariants.{Empty}
use Rattle.semantics.specs.declared.program.Dest.{Dest}
use Rattle.semantics.specs.declared.program.Op.{Op}
use Rattle.semantics.specs.declared.program.Op.TheVariants.{Fetch, Store, Frame, Link, Ask, Give, Take, Release, Switch}
use Rattle.semantics.specs.Program.{Instr, Program, first_of, instr_at}
use Rattle.semantics.specs.Rule.{token, signal, Point, at_dest, to_each, landing_at}
use Rattle.semantics.specs.Machine.{Machine}
use Rattle.semantics.specs.Plan.{Plan, HasShape, landing}
use Rattle.semantics.specs.Sharing.{Arc, arc, Inlet, inlet, arcs_to, row, arcs_from}
use Rattle.semantics.specs.Arcs.{GoesTo, AsksFor, Lands, UsesBy, UsesArc}
use Rattle.semantics.proofs.ArcEnds.{arcs_to_dest, row_has}
use Rattle.law_reuse.proofs.SlotsPlaced.{stands_at, Found, found}
use Rattle.law_reuse.proofs.SlotsUsedArcs.{stands_arcs}
use Rattle.law_fresh_frames.proofs.FreshParts.{instr_parts, back_parts, cont_parts}
use Rattle.law_fresh_frames.specs.Alike.{plain_dests}
use Rattle.law_fresh_frames.proofs.FreshArcs.{arc_used}
use Rattle.semantics.specs.Credits.{IsLink}
use Rattle.semantics.specs.Wired.{IsWired}
use Rattle.semantics.specs.Plan.{IsPlanBlock}
use Rattle.semantics.specs.Machine.{Store as MStore, Happens, slot_in}
use Rattle.operators.specs.declared.Binary.{Binary}
use Rattle.lemmas.proofs.Alls.{all_at}
use Rattle.semantics.specs.declared.program.Op.TheVariants.{Apply2}
use Rattle.semantics.specs.Rule.{slot_of}
use Rattle.law_fresh_frames.proofs.FreshArcs.{uses_new}
use Rattle.lemmas.proofs.Contains.{contains_map}
use Rattle.semantics.specs.Rule.{to_all}
use Rattle.law_simulation.specs.Places.{Spot, ip_slot, ip_store, ip_to, ip_token, ip_word, is_answered}
use Rattle.law_simulation.specs.Simulates.{
  Arrives,
  FitsSlot,
  FitsWord,
  Fresh,
  IsMoved,
  Leads,
  Node,
  Path,
  Pend,
  Plain,
  Reaches,
  Relates,
  Skips,
  Way,
  at_end,
  hands_on,
}
use Rattle.law_simulation.specs.Simulates.{is_pair, next, onward, over, straight, top}
use Rattle.law_simulation.proofs.SimulationArcs.{UseAt, use_at}
use Rattle.law_simulation.proofs.SimulationCame.{sent_by}
use Rattle.law_simulation.proofs.SimulationSent.{AsksOne, SendsAll, SendsNone, Sent, asks, links, quiet, sends, sends_give, sends_plain, skips, turns}
use Rattle.law_simulation.proofs.SimulationTraces.{give_leaves}

-- the places of a row, and back
row_place : (n from k : ℕ) (x : Arc) → Contains (row n from k) x → (o : ℕ) × (o < k) × (x.to ≡ inlet (from + o) Left)
row_place n from zero x c = absurd (contains_none x c)
row_place n from (suc k) x c = go (contains_cases (arc n false (inlet from Left)) (row n (from + 1) k) x c) (λ c. row_place n (from + 1) k x c)
  where
    go : (arc n false (inlet from Left) ≡ x) ⊎ Contains (row n (from + 1) k) x
        → (Contains (row n (from + 1) k) x → (o : ℕ) × (o < k) × (x.to ≡ inlet (from + 1 + o) Left)) → (o : ℕ) × (o < suc k) × (x.to ≡ inlet (from + o) Left)
    go (inl e) more = (0, omega arith, sym (ap (λ (x : Arc). x.to) e) ∙ (let z : from ≡ from + 0 = omega arith in ap (λ (n : ℕ). inlet n Left) z))
    go (inr c) more =
        let r = more c in let l = r.1 in
        (suc r.0, omega (arith, l), r.2 ∙ (let z : from + 1 + r.0 ≡ from + suc r.0 = omega arith in ap (λ (n : ℕ). inlet n Left) z))

plain_arc : (p : Plan) (n : ℕ) (i : Instr) (op : Op) (x : Arc) → ((c : ℕ) → op ≡ Link c → ⊥) → Contains (arcs_from p n i op) x
    → (d : Dest) × Contains (i.firsts ++ i.seconds) d × (x.to ≡ inlet (n + d.ahead) d.port)
plain_arc p n i (Link c) x other inside = absurd (other c refl)
plain_arc p n i op x other inside = go (Contains-append_cases (arcs_to n false i.firsts) (arcs_to n true i.seconds) x inside)
  where
    go : Contains (arcs_to n false i.firsts) x ⊎ Contains (arcs_to n true i.seconds) x
        → (d : Dest) × Contains (i.firsts ++ i.seconds) d × (x.to ≡ inlet (n + d.ahead) d.port)
    go (inl c) = let d = arcs_to_dest n false i.firsts x c in (d.0, Contains-append_left i.firsts i.seconds d.0 d.1, d.2)
    go (inr c) = let d = arcs_to_dest n true i.seconds x c in (d.0, Contains-append_right i.firsts i.seconds d.0 d.1, d.2)

-- an arc of a link: to a second destination, or to its landing
link_arc : (p : Plan) (n c : ℕ) (i : Instr) (d : Dest) (x : Arc) → i.firsts ≡ d ∷ [] → Contains (arcs_from p n i (Link c)) x
    → ((e : Dest) × Contains i.seconds e × (x.to ≡ inlet (n + e.ahead) e.port)) ⊎ ((o : ℕ) × (o < landing p c) × (x.to ≡ inlet (n + d.ahead + o) Left))
link_arc p n c i d x lands inside =
    go (Contains-append_cases (flat_map (λ (d : Dest). row n (n + d.ahead) (landing p c)) i.firsts) (arcs_to n true i.seconds) x inside)
  where
    pick : Contains (row n (n + d.ahead) (landing p c)) x ⊎ Contains [] x → Contains (row n (n + d.ahead) (landing p c)) x
    pick (inl k) = k
    pick (inr k) = absurd (contains_none x k)

    go : Contains (flat_map (λ (d : Dest). row n (n + d.ahead) (landing p c)) i.firsts) x ⊎ Contains (arcs_to n true i.seconds) x
        → ((e : Dest) × Contains i.seconds e × (x.to ≡ inlet (n + e.ahead) e.port)) ⊎ ((o : ℕ) × (o < landing p c) × (x.to ≡ inlet (n + d.ahead + o) Left))
    go (inl k) =
        inr (row_place n (n + d.ahead) (landing p c) x
        (pick (Contains-append_cases (row n (n + d.ahead) (landing p c)) [] x
        (subst (λ (ds : List Dest). Contains (flat_map (λ (d : Dest). row n (n + d.ahead) (landing p c)) ds) x) lands k))))
    go (inr k) = inl (arcs_to_dest n true i.seconds x k)

-- ---- WAYS
module _ (p q : Program) (h : ℕ → ℕ) where
  pub record Begins (ip : ℕ) : Type 0 where
    pub j : Instr
    pub at : instr_at q ip ≡ Some j
    pub on : hands_on j.op ≡ true
    pub fresh : Fresh p q h ip

  begins : (ip : ℕ) (x : Spot) → Path p q h ip x → Begins ip
  begins ip x (at_end n y j d at on fresh named place port) = record { j = j; at = at; on = on; fresh = fresh }
  begins ip x (onward n y j d at on fresh named left path) = record { j = j; at = at; on = on; fresh = fresh }

  path_pends : (f ip : ℕ) (x : Spot) (seen : List Token) → Node p q h f seen ip → Path p q h ip x → Pend p q h f x.0 x.1 seen
  path_pends f ip x seen N (at_end n y j d at on fresh named place port) =
      record { ip = ip; j = j; d = d; node = N; at = at; op = on; named = named; place = place; port = port }
  path_pends f ip x seen N (onward n y j d at on fresh named left path) =
      let B = begins (ip + d.ahead) x path in
      path_pends f (ip + d.ahead) x seen (next (ip + d.ahead) ip j B.j d N at on named refl left B.at B.on B.fresh) path

-- a destination leads to where what is sent to it arrives
way_of : (p q : Program) (g h : ℕ → ℕ) (ip : ℕ) (ds : List Dest) (a : ℕ) (es : List Dest) → Leads p q g h ip ds a es → (e : Dest) → Contains es e → (x : Spot)
    → Reaches p q h (a + e.ahead) e.port x → Way p q h ip ds x
way_of p q g h ip ds a es L e inside x (straight K same) = subst (Way p q h ip ds) (sym same) (L.ways e inside K)
way_of p q g h ip ds a es L e inside x (over K same) = subst (Way p q h ip ds) (sym same) (L.overs e inside K)

-- where its destinations lead to a port, an instruction uses an arc into it, or sends what is on its way there
led_used : (p q : Plan) (h : ℕ → ℕ) (f n : ℕ) (r : Port) (j : Instr) → instr_at q.program n ≡ Some j → (taken : Token) (made : List Token) (m : Machine)
    → taken.to ≡ To.Instr f n r → ((k : ℕ) → j.op ≡ Give k → m.store.slots f j.slot ≡ Empty)
    → (w : Word) (ds : List Dest) → ((d : Dest) → Contains ds d → Contains (plain_dests j j.op) d)
    → ((t : Token) → Contains (to_each record { frame = f; ip = n } w ds) t → Contains made t)
    → (x : Spot) → Way p.program q.program h n ds x → UsesArc q f (h x.0) x.1 taken made m ⊎ Pend p.program q.program h f x.0 x.1 made
led_used p q h f n r j at taken made m from give w ds plain sent x W = go W.leads
  where
    t : Token
    t = at_dest record { frame = f; ip = n } w W.d

    there : Contains made t
    there = sent t (contains_map (at_dest record { frame = f; ip = n } w) ds W.d W.named)

    go : ((n + W.d.ahead ≡ h x.0) × (W.d.port ≡ x.1)) ⊎ ((W.d.port ≡ Left) × Path p.program q.program h (n + W.d.ahead) x)
        → UsesArc q f (h x.0) x.1 taken made m ⊎ Pend p.program q.program h f x.0 x.1 made
    go (inl e) =
        inl (subst (λ (s : Port). UsesArc q f (h x.0) s taken made m) e.1 (subst (λ (k : ℕ). UsesArc q f k W.d.port taken made m) e.0
        (uses_new q f n r j at W.d (plain W.d W.named) taken made m t from there refl give)))
    go (inr e) =
        let B = begins p.program q.program h (n + W.d.ahead) x e.1 in
        inr (path_pends p.program q.program h f (n + W.d.ahead) x made
        (top (n + W.d.ahead) t B.j there (ap (To.Instr f (n + W.d.ahead)) e.0) B.at B.on B.fresh) e.1)

-- ---- AN INSTRUCTION THAT STANDS FOR ITSELF
module _ (p q : Plan) (S : Relates p q) (sizes : (b : ℕ) → landing q b ≡ landing p b)
    (rows : (ip callee base o : ℕ) → IsLink p.program ip callee base → o < landing p callee → S.h (base + o) ≡ S.h base + o)
    (unskipped : (ip callee base o : ℕ) → IsLink p.program ip callee base → o < landing p callee → Skips p.program q.program S.h (base + o) → ⊥)
    (f a : ℕ) (i : Instr) (at : instr_at p.program a ≡ Some i) (M : IsMoved p.program q.program S.g S.h a i) where
  abbrev P : Program
  P = p.program

  abbrev Q : Program
  Q = q.program

  abbrev h : ℕ → ℕ
  h = S.h

  abbrev j : Instr
  j = M.j

  abbrev s : Point
  s = record { frame = f; ip = a }

  abbrev s2 : Point
  s2 = record { frame = f; ip = h a }

  -- an arc of the instruction that its event used
  record Taken (g b : ℕ) (r : Port) (old : List Token) (last : Machine) : Type 0 where
    pub base : ℕ
    pub n : ℕ
    pub x : Arc
    pub t : Token
    pub frame : g ≡ f
    pub number : a ≡ base + n
    pub from : Contains (arcs_from p n i i.op) x
    pub place : b ≡ base + x.to.place
    pub port : r ≡ x.to.port
    pub made : Contains old t
    pub uses : UsesBy p f b r i i.op t last

  arc_taken : (g b : ℕ) (r side : Port) (u : Token) (old : List Token) (last : Machine) → u.to ≡ To.Instr f a side → UsesArc p g b r u old last
      → Taken g b r old last
  arc_taken g b r side u old last from U0 =
      let U : UseAt p g b r u old last = use_at p g b r u old last U0 in
      let spot = instr_parts f a g (first_of P U.b + U.n) side U.side (sym from ∙ U.taken_at) in
      let same : U.i ≡ i = same_Some U.i i (sym U.at ∙ ap (instr_at P) (sym spot.1) ∙ at) in
      record {
        base = first_of P U.b;
        n = U.n;
        x = U.x;
        t = U.t;
        frame = sym spot.0;
        number = spot.1;
        from = subst (λ (i : Instr). Contains (arcs_from p U.n i i.op) U.x) same U.here;
        place = U.place;
        port = U.port;
        made = U.is_made;
        uses = subst (λ (g : ℕ). UsesBy p g b r i i.op U.t last) (sym spot.0) (subst (λ (i : Instr). UsesBy p g b r i i.op U.t last) same U.uses);
      }

  module _ (shape : HasShape i.op (length i.firsts) (length i.seconds)) (v : SlotState) (old new : List Token)
      (sent : Sent P Q S.g h S.arrays f a i M v old new)
      (side : Port) (u t : Token) (was : u.to ≡ To.Instr f a side) (is : t.to ≡ To.Instr f (h a) side)
      (last m : Machine) (old_slot : (k : ℕ) → i.op ≡ Give k → last.store.slots f i.slot ≡ v)
      (new_slot : (k : ℕ) → i.op ≡ Give k → m.store.slots f j.slot ≡ ip_slot h v) where
    abbrev Goal : ℕ → ℕ → Port → Type 0
    Goal g b r = (x : Spot) → Reaches P Q h b r x → UsesArc q g (h x.0) x.1 t new m ⊎ Pend P Q h g x.0 x.1 new

    -- at a port that is not left out
    straight_goal : (g b : ℕ) (r : Port) → (Skips P Q h b → ⊥) → UsesArc q g (h b) r t new m → Goal g b r
    straight_goal g b r none U x (straight K e) = inl (subst (λ (x : Spot). UsesArc q g (h x.0) x.1 t new m) (sym e) U)
    straight_goal g b r none U x (over K e) = absurd (none K)

    place_port : (x : Arc) (n : ℕ) (r : Port) → x.to ≡ inlet n r → (x.to.place ≡ n) × (x.to.port ≡ r)
    place_port x n r e = (ap (λ (y : Inlet). y.place) e, ap (λ (y : Inlet). y.port) e)

    to_goal : (g b n : ℕ) (r k : Port) → g ≡ f → b ≡ n → r ≡ k → Goal f n k → Goal g b r
    to_goal g b n r k eg eb er G = subst (λ (g : ℕ). Goal g b r) (sym eg) (subst (λ (b : ℕ). Goal f b r) (sym eb) (subst (λ (r : Port). Goal f n r) (sym er) G))

    -- to a destination that the new instruction's destinations lead to
    by_lead : (w : Word) (ds es : List Dest) → Leads P Q S.g h (h a) ds a es → ((d : Dest) → Contains ds d → Contains (plain_dests j j.op) d)
        → ((y : Token) → Contains (to_each s2 w ds) y → Contains new y) → ((k : ℕ) → j.op ≡ Give k → m.store.slots f j.slot ≡ Empty)
        → (d : Dest) → Contains es d → Goal f (a + d.ahead) d.port
    by_lead w ds es L plain among empty d inside x A =
        led_used p q h f (h a) side j M.there t new m is empty w ds plain among x (way_of P Q S.g h (h a) ds a es L d inside x A)

    no_give : (op : Op) → i.op ≡ op → ((k : ℕ) → op ≡ Give k → ⊥) → (k : ℕ) → j.op ≡ Give k → m.store.slots f j.slot ≡ Empty
    no_give op e none k g = absurd (none k (sym e ∙ sym M.op ∙ g))

    switch_give : (k : ℕ) → Switch ≡ Give k → ⊥
    switch_give k e = cc

    link_give : (c k : ℕ) → Link c ≡ Give k → ⊥
    link_give c k e = cc

    sends_link : (op : Op) → SendsAll op v → (c : ℕ) → op ≡ Link c → ⊥
    sends_link op G c e = subst (λ (op : Op). SendsAll op v) e G

    asks_link : (op : Op) → AsksOne op → (c : ℕ) → op ≡ Link c → ⊥
    asks_link op G c e = subst (λ (op : Op). AsksOne op) e G

    -- what another one is asked for
    asks_shape : (op : Op) → AsksOne op → HasShape op (length i.firsts) (length i.seconds)
        → (length i.seconds ≡ 0) × (is_answered op ≡ true)
    asks_shape (Fetch n) A z = (z.1, refl)
    asks_shape (Store n) A z = (z.1, refl)
    asks_shape Frame A z = (z.1, refl)
    asks_shape (Ask o) A z = (z.1, refl)
    asks_shape op A z = absurd A

    asks_plain : (op : Op) (e : Dest) → AsksOne op → Contains j.firsts e → Contains (plain_dests j op) e
    asks_plain (Fetch n) e A c = Contains-append_left j.firsts j.seconds e c
    asks_plain (Store n) e A c = Contains-append_left j.firsts j.seconds e c
    asks_plain Frame e A c = Contains-append_left j.firsts j.seconds e c
    asks_plain (Ask o) e A c = Contains-append_left j.firsts j.seconds e c
    asks_plain op e A c = absurd A

    -- a token that goes to a port, or asks for an answer there, does so in its new place
    both_moved : (b : ℕ) (r : Port) (y : Token) → GoesTo f b r y ⊎ AsksFor f b r y → GoesTo f (h b) r (ip_token h y) ⊎ AsksFor f (h b) r (ip_token h y)
    both_moved b r y (inl e) = inl (ap (ip_to h) e)
    both_moved b r y (inr e) = inr (ap (ip_word h) e)

    uses_moved : (op : Op) → AsksOne op → (b : ℕ) (r : Port) (y : Token) → UsesBy p f b r i op y last
        → UsesBy q f (h b) r j op (ip_token h y) m
    uses_moved (Fetch n) A b r y k = both_moved b r y k
    uses_moved (Store n) A b r y k = both_moved b r y k
    uses_moved Frame A b r y k = both_moved b r y k
    uses_moved (Ask o) A b r y k = both_moved b r y k
    uses_moved op A b r y k = absurd A

    only_first : (d e : Dest) → i.firsts ≡ d ∷ [] → length i.seconds ≡ 0 → Contains (i.firsts ++ i.seconds) e → d ≡ e
    only_first d e one none inside = go (Contains-append_cases i.firsts i.seconds e inside)
      where
        empty : (ds : List Dest) → length ds ≡ 0 → Contains ds e → ⊥
        empty [] n c = contains_none e c
        empty (x ∷ xs) n c = omega (arith, n)

        pick : (d ≡ e) ⊎ Contains [] e → d ≡ e
        pick (inl x) = x
        pick (inr c) = absurd (contains_none e c)

        go : Contains i.firsts e ⊎ Contains i.seconds e → d ≡ e
        go (inl c) = pick (contains_cases d [] e (subst (λ (l : List Dest). Contains l e) one c))
        go (inr c) = absurd (empty i.seconds none c)

    by_asks : (y : Token) → AsksOne i.op → old ≡ y ∷ [] → new ≡ ip_token h y ∷ [] → (g b : ℕ) (r : Port) → Taken g b r old last → Goal g b r
    by_asks y A eo en g b r T =
        let o = asks_shape i.op A shape in
        let an = M.answered o.1 in
        let k = plain_arc p T.n i i.op T.x (asks_link i.op A) T.from in
        let one : an.0 ≡ k.0 = only_first an.0 k.0 an.2 o.0 k.1 in
        let ahead = ap (λ (d : Dest). d.ahead) one in
        let at_x = place_port T.x (T.n + k.0.ahead) k.0.port k.2 in
        let place = T.place in let number = T.number in let x_place = at_x.0 in
        let eb : b ≡ a + an.0.ahead = omega (arith, place, number, x_place, ahead) in
        let er : r ≡ an.1.port = T.port ∙ at_x.1 ∙ sym (ap (λ (d : Dest). d.port) one) ∙ sym an.5 in
        let ey : y ≡ T.t = pick T (contains_cases y [] T.t (subst (λ (l : List Token). Contains l T.t) eo T.made)) in
        let uses : UsesBy q f (h b) r j i.op (ip_token h y) m = uses_moved i.op A b r y (subst (λ (y : Token). UsesBy p f b r i i.op y last) (sym ey) T.uses) in
        let uses2 : UsesBy q f (h a + an.1.ahead) an.1.port j j.op (ip_token h y) m =
        subst (λ (r : Port). UsesBy q f (h a + an.1.ahead) r j j.op (ip_token h y) m) er
        (subst (λ (n : ℕ). UsesBy q f n r j j.op (ip_token h y) m) (ap h eb ∙ an.4)
        (subst (λ (op : Op). UsesBy q f (h b) r j op (ip_token h y) m) (sym M.op) uses)) in
        let plain : Contains (plain_dests j j.op) an.1 =
        subst (λ (op : Op). Contains (plain_dests j op) an.1) (sym M.op)
        (asks_plain i.op an.1 A (subst (λ (l : List Dest). Contains l an.1) (sym an.3) (contains_head an.1 []))) in
        let arc : UsesArc q f (h a + an.1.ahead) an.1.port t new m =
        arc_used q f (h a) side j M.there an.1 plain t new m (ip_token h y) is
        (subst (λ (l : List Token). Contains l (ip_token h y)) (sym en) (contains_head (ip_token h y) [])) uses2 in
        straight_goal g b r (λ K. K.apart (subst (Plain P Q h) (sym eb) an.6))
        (subst (λ (g : ℕ). UsesArc q g (h b) r t new m) (sym T.frame)
        (subst (λ (r : Port). UsesArc q f (h b) r t new m) (sym er) (subst (λ (n : ℕ). UsesArc q f n an.1.port t new m) (sym (ap h eb ∙ an.4)) arc)))
      where
        pick : (T : Taken g b r old last) → (y ≡ T.t) ⊎ Contains [] T.t → y ≡ T.t
        pick T (inl e) = e
        pick T (inr c) = absurd (contains_none T.t c)

    by_sends : (w : Word) (pre : List Token) → SendsAll i.op v
        → new ≡ map (ip_token h) pre ++ to_each s2 (ip_word h w) (j.firsts ++ j.seconds) → (g b : ℕ) (r : Port) → Taken g b r old last → Goal g b r
    by_sends w pre G en g b r T =
        let k = plain_arc p T.n i i.op T.x (sends_link i.op G) T.from in
        let at_x = place_port T.x (T.n + k.0.ahead) k.0.port k.2 in
        let place = T.place in let number = T.number in let x_place = at_x.0 in
        let eb : b ≡ a + k.0.ahead = omega (arith, place, number, x_place) in
        to_goal g b (a + k.0.ahead) r k.0.port T.frame eb (T.port ∙ at_x.1)
        (by_lead (ip_word h w) (j.firsts ++ j.seconds) (i.firsts ++ i.seconds) M.all
        (λ d c. subst (λ (op : Op). Contains (plain_dests j op) d) (sym M.op) (sends_plain P Q S.g h S.arrays f a i M i.op v G d c))
        (λ y c. subst (λ (l : List Token). Contains l y) (sym en)
        (Contains-append_right (map (ip_token h) pre) (to_each s2 (ip_word h w) (j.firsts ++ j.seconds)) y c))
        (λ n x. new_slot n (sym M.op ∙ x) ∙ ap (ip_slot h) (sends_give P Q S.g h S.arrays f a i M i.op v G n (sym M.op ∙ x)))
        k.0 k.1)

    -- a token of those goes to one of the destinations
    sent_dest : (w : Word) (ds : List Dest) (b : ℕ) (r : Port) (y : Token) → Contains (to_each s w ds) y → GoesTo f b r y
        → (d : Dest) × Contains ds d × (b ≡ a + d.ahead) × (r ≡ d.port)
    sent_dest w ds b r y inside goes =
        let d = contains_mapped (at_dest s w) ds y inside in
        let e = instr_parts f b f (a + d.0.ahead) r d.0.port (sym goes ∙ sym (ap (λ (t : Token). t.to) d.2)) in (d.0, d.1, e.1, e.2)

    by_turns : (bb : Bool) (w : Word) → i.op ≡ Switch → old ≡ to_each s w (if bb then i.firsts else i.seconds)
        → new ≡ to_each s2 (ip_word h w) (if bb then j.firsts else j.seconds) → (g b : ℕ) (r : Port) → Taken g b r old last → Goal g b r
    by_turns bb w e eo en g b r T = go bb eo en
      where
        goes : GoesTo f b r T.t
        goes = subst (λ (op : Op). UsesBy p f b r i op T.t last) e T.uses

        plain : (d : Dest) → Contains (j.firsts ++ j.seconds) d → Contains (plain_dests j j.op) d
        plain d c = subst (λ (op : Op). Contains (plain_dests j op) d) (sym (M.op ∙ e)) c

        go : (bb : Bool) → old ≡ to_each s w (if bb then i.firsts else i.seconds) → new ≡ to_each s2 (ip_word h w) (if bb then j.firsts else j.seconds)
            → Goal g b r
        go true eo en =
            let d = sent_dest w i.firsts b r T.t (subst (λ (l : List Token). Contains l T.t) eo T.made) goes in
            to_goal g b (a + d.0.ahead) r d.0.port T.frame d.2 d.3
            (by_lead (ip_word h w) j.firsts i.firsts (M.firsts e) (λ x c. plain x (Contains-append_left j.firsts j.seconds x c))
            (λ y c. subst (λ (l : List Token). Contains l y) (sym en) c) (no_give Switch e switch_give) d.0 d.1)
        go false eo en =
            let d = sent_dest w i.seconds b r T.t (subst (λ (l : List Token). Contains l T.t) eo T.made) goes in
            to_goal g b (a + d.0.ahead) r d.0.port T.frame d.2 d.3
            (by_lead (ip_word h w) j.seconds i.seconds (M.seconds.0 e) (λ x c. plain x (Contains-append_right j.firsts j.seconds x c))
            (λ y c. subst (λ (l : List Token). Contains l y) (sym en) c) (no_give Switch e switch_give) d.0 d.1)

    no_dest : (n : ℕ) (x : Arc) → length i.firsts ≡ 0 → length i.seconds ≡ 0 → Contains (arcs_to n false i.firsts ++ arcs_to n true i.seconds) x → ⊥
    no_dest n x z y c = go (Contains-append_cases (arcs_to n false i.firsts) (arcs_to n true i.seconds) x c)
      where
        empty : (k : Bool) (ds : List Dest) → length ds ≡ 0 → Contains (arcs_to n k ds) x → ⊥
        empty k [] e c = contains_none x c
        empty k (d ∷ ds) e c = omega (arith, e)

        go : Contains (arcs_to n false i.firsts) x ⊎ Contains (arcs_to n true i.seconds) x → ⊥
        go (inl c) = empty false i.firsts z c
        go (inr c) = empty true i.seconds y c

    by_skips : (op : Op) → i.op ≡ op → SendsNone op v → HasShape op (length i.firsts) (length i.seconds) → (g b : ℕ) (r : Port)
        → Taken g b r old last → Goal g b r
    by_skips (Give k) e G z g b r T =
        let x : GoesTo f b r T.t × (last.store.slots f i.slot ≡ Empty) = subst (λ (op : Op). UsesBy p f b r i op T.t last) e T.uses in
        absurd (G (sym (old_slot k e) ∙ x.1))
    by_skips (Take k) e G z g b r T = absurd (no_dest T.n T.x z.0 z.1 (subst (λ (op : Op). Contains (arcs_from p T.n i op) T.x) e T.from))
    by_skips (Release k) e G z g b r T = absurd (no_dest T.n T.x z.0 z.1 (subst (λ (op : Op). Contains (arcs_from p T.n i op) T.x) e T.from))
    by_skips op e G z g b r T = absurd G

    -- LINKS
    module _ (c k : ℕ) (e : i.op ≡ Link c) (eo : old ≡ token (To.Instr k (first_of P c) Left) (Word.Back (landing_at s i.firsts)) ∷ to_each s signal i.seconds)
        (en : new ≡ ip_token h (token (To.Instr k (first_of P c) Left) (Word.Back (landing_at s i.firsts))) ∷ to_each s2 signal j.seconds) (g b : ℕ) (r : Port)
        (T : Taken g b r old last) where
      A : (d : Dest) × (d2 : Dest) × (i.firsts ≡ d ∷ []) × (j.firsts ≡ d2 ∷ []) × (h (a + d.ahead) ≡ h a + d2.ahead) × (d2.port ≡ d.port)
          × Plain P Q h (a + d.ahead)
      A = M.answered (ap is_answered e)

      abbrev own : Token
      own = token (To.Instr k (first_of P c) Left) (Word.Back (landing_at s i.firsts))

      plain : (d : Dest) → Contains j.seconds d → Contains (plain_dests j j.op) d
      plain d x = subst (λ (op : Op). Contains (plain_dests j op) d) (sym (M.op ∙ e)) x

      -- to a second destination
      by_second : (d : Dest) → Contains i.seconds d → b ≡ a + d.ahead → r ≡ d.port → Goal g b r
      by_second d inside eb er =
          to_goal g b (a + d.ahead) r d.port T.frame eb er
          (by_lead signal j.seconds i.seconds (M.seconds.1 c e) plain
          (λ y x. subst (λ (l : List Token). Contains l y) (sym en) (contains_tail (ip_token h own) (to_each s2 signal j.seconds) y x))
          (no_give (Link c) e (link_give c)) d inside)

      no_back : (x : Cont) → signal ≡ Word.Back x → ⊥
      no_back x d = cc

      -- to the landing
      module _ (o : ℕ) (low : o < landing p c) (eb : b ≡ a + A.0.ahead + o) (er : r ≡ Left) where
        row_at : h b ≡ h a + A.1.ahead + o
        row_at =
            let x = rows a c (a + A.0.ahead) o record { instr = i; dest = A.0; is_at = at; does = e; lands = A.2; begins = refl } low in
            let y = A.4 in let z = ap h eb in omega (arith, x, y, z)

        -- the link's own token lands in the new place
        lands_there : GoesTo f b r own ⊎ Lands (landing p c) f b r own → GoesTo f (h b) r (ip_token h own) ⊎ Lands (landing q c) f (h b) r (ip_token h own)
        lands_there (inl x) = inl (ap (ip_to h) x)
        lands_there (inr x) =
            let at_base : (a + A.0.ahead) ≡ x.0 =
            (cont_parts f (a + A.0.ahead) f x.0 Left Left
            (back_parts (Cont.Frame f (a + A.0.ahead) Left) (Cont.Frame f x.0 Left) (sym (ap (λ (l : List Dest). Word.Back (landing_at s l)) A.2) ∙ x.1))).1 in
            let hb : h x.0 ≡ h a + A.1.ahead = ap h (sym at_base) ∙ A.4 in
            let there = row_at in let len = sizes c in
            inr (h x.0, ap (ip_word h) x.1, omega (arith, hb, there), omega (arith, hb, there, len, low), x.4)

        by_own : own ≡ T.t → Goal g b r
        by_own ey =
            let F : Found Q (h a) j = found Q (h a) j M.there in
            let uses : UsesBy p f b r i (Link c) own last =
            subst (λ (y : Token). UsesBy p f b r i (Link c) y last) (sym ey) (subst (λ (op : Op). UsesBy p f b r i op T.t last) e T.uses) in
            let x : Arc = arc F.n false (inlet (F.n + A.1.ahead + o) Left) in
            let len = sizes c in
            let in_first : Contains (flat_map (λ (d : Dest). row F.n (F.n + d.ahead) (landing q c)) (A.1 ∷ [])) x =
            Contains-append_left (row F.n (F.n + A.1.ahead) (landing q c)) [] x (row_has F.n (F.n + A.1.ahead) (landing q c) o (omega (arith, len, low))) in
            let in_link : Contains (arcs_from q F.n j (Link c)) x =
            Contains-append_left (flat_map (λ (d : Dest). row F.n (F.n + d.ahead) (landing q c)) j.firsts) (arcs_to F.n true j.seconds) x
            (subst (λ (l : List Dest). Contains (flat_map (λ (d : Dest). row F.n (F.n + d.ahead) (landing q c)) l) x) (sym A.3) in_first) in
            let there = row_at in let place = F.place in
            let made : UsesArc q f (h b) r t new m = record {
              b = F.b;
              x = x;
              side = side;
              i = j;
              t = ip_token h own;
              is_arc = stands_arcs q F.b F.n j x F.stands (subst (λ (op : Op). Contains (arcs_from q F.n j op) x) (sym (M.op ∙ e)) in_link);
              place = omega (arith, there, place);
              port = er;
              taken_at = is ∙ ap (λ (n : ℕ). To.Instr f n side) place;
              fired = stands_at Q F.b F.n j F.stands;
              is_made = subst (λ (l : List Token). Contains l (ip_token h own)) (sym en) (contains_head (ip_token h own) (to_each s2 signal j.seconds));
              uses = subst (λ (op : Op). UsesBy q f (h b) r j op (ip_token h own) m) (sym (M.op ∙ e)) (lands_there uses);
            } in
            straight_goal g b r (λ K. unskipped a c (a + A.0.ahead) o record { instr = i; dest = A.0; is_at = at; does = e; lands = A.2; begins = refl } low
            (subst (Skips P Q h) eb K)) (subst (λ (g : ℕ). UsesArc q g (h b) r t new m) (sym T.frame) made)

        by_signal : Contains (to_each s signal i.seconds) T.t → GoesTo f b r T.t ⊎ Lands (landing p c) f b r T.t → Goal g b r
        by_signal inside (inl x) = let d = sent_dest signal i.seconds b r T.t inside x in by_second d.0 d.1 d.2 d.3
        by_signal inside (inr x) =
            let d = contains_mapped (at_dest s signal) i.seconds T.t inside in absurd (no_back (Cont.Frame f x.0 Left) (ap (λ (t : Token). t.word) d.2 ∙ x.1))

        by_row : Goal g b r
        by_row = pick (contains_cases own (to_each s signal i.seconds) T.t (subst (λ (l : List Token). Contains l T.t) eo T.made))
          where
            pick : (own ≡ T.t) ⊎ Contains (to_each s signal i.seconds) T.t → Goal g b r
            pick (inl x) = by_own x
            pick (inr x) = by_signal x (subst (λ (op : Op). UsesBy p f b r i op T.t last) e T.uses)

      by_arc : ((d : Dest) × Contains i.seconds d × (T.x.to ≡ inlet (T.n + d.ahead) d.port))
          ⊎ ((o : ℕ) × (o < landing p c) × (T.x.to ≡ inlet (T.n + A.0.ahead + o) Left)) → Goal g b r
      by_arc (inl k) =
          let at_x = place_port T.x (T.n + k.0.ahead) k.0.port k.2 in let place = T.place in let number = T.number in let x_place = at_x.0 in
          by_second k.0 k.1 (omega (arith, place, number, x_place)) (T.port ∙ at_x.1)
      by_arc (inr k) =
          let at_x = place_port T.x (T.n + A.0.ahead + k.0) Left k.2 in let place = T.place in let number = T.number in let x_place = at_x.0 in
          by_row k.0 k.1 (omega (arith, place, number, x_place)) (T.port ∙ at_x.1)

      by_links : Goal g b r
      by_links = by_arc (link_arc p T.n c i A.0 T.x A.2 (subst (λ (op : Op). Contains (arcs_from p T.n i op) T.x) e T.from))

    -- an arc that the old event used
    spent_by : (g b : ℕ) (r : Port) → UsesArc p g b r u old last → Goal g b r
    spent_by g b r U = go sent (arc_taken g b r side u old last was U)
      where
        go : Sent P Q S.g h S.arrays f a i M v old new → Taken g b r old last → Goal g b r
        go (quiet eo en) T = absurd (contains_none T.t (subst (λ (l : List Token). Contains l T.t) eo T.made))
        go (sends w pre F G eo en) T = by_sends w pre G en g b r T
        go (turns bb w e eo en) T = by_turns bb w e eo en g b r T
        go (asks y F A eo en) T = by_asks y A eo en g b r T
        go (links c k e eo en) T = by_links c k e eo en g b r T
        go (skips F G en) T = by_skips i.op refl G shape g b r T

-- ---- EVENTS
shape_of : (p : Plan) → IsWired p → (a : ℕ) (i : Instr) → instr_at p.program a ≡ Some i → HasShape i.op (length i.firsts) (length i.seconds)
shape_of p wired a i at =
    let F : Found p.program a i = found p.program a i at in
    all_at (λ (i : Instr). HasShape i.op (length i.firsts) (length i.seconds)) F.stands.code.instrs F.n i
    (all_at IsPlanBlock p.program.blocks F.b F.stands.code wired.plan.blocks F.stands.block).shapes F.stands.instr

-- Where the event of an instruction used an arc, its new event uses it, or what results from it is on its way.
pub moved_used : (p q : Plan) (S : Relates p q) (sizes : (b : ℕ) → landing q b ≡ landing p b)
    (rows : (ip callee base o : ℕ) → IsLink p.program ip callee base → o < landing p callee → S.h (base + o) ≡ S.h base + o)
    (unskipped : (ip callee base o : ℕ) → IsLink p.program ip callee base → o < landing p callee → Skips p.program q.program S.h (base + o) → ⊥) → IsWired p
    → (total : ℕ) (before : MStore) (f a : ℕ) (r : Port) (w : Word) (i : Instr) (at : instr_at p.program a ≡ Some i)
    (M : IsMoved p.program q.program S.g S.h a i)
    (made old_made : List Token) (new old : Machine) (taken : Token) → taken.to ≡ To.Instr f (S.h a) r
    → Happens q.program total (ip_store S.h before) (To.Instr f (S.h a) r) (ip_word S.h w) made new.store
    → Happens p.program total before (To.Instr f a r) w old_made old.store → new.store ≡ ip_store S.h old.store
    → Arrives p.program q.program S.h i.op (slot_in before f (slot_of i i.op)) r w
    → FitsSlot p.program q.program S.h (slot_in before f (slot_of i i.op)) → FitsWord p.program q.program S.h w
    → (k b : ℕ) (t : Port) (x : Spot) → Reaches p.program q.program S.h b t x → UsesArc p k b t (token (To.Instr f a r) w) old_made old
    → UsesArc q k (S.h x.0) x.1 taken made new ⊎ Pend p.program q.program S.h k x.0 x.1 made
moved_used p q S sizes rows unskipped wired total before f a r w i at M made old_made new old taken to happens was same arrives fits_slot fits_word
    k b t x W U =
    let T = sent_by p q S.g S.h total before f a r w i M made new.store happens S.arrays at arrives fits_slot fits_word old_made old.store was in
    let old_slot : (n : ℕ) → i.op ≡ Give n → old.store.slots f i.slot ≡ T.v = λ (n : ℕ) (e : i.op ≡ Give n).
    give_leaves i f n before old.store T.v e T.leaves in
    spent_by p q S sizes rows unskipped f a i at M (shape_of p wired a i at) T.v old_made made T.sent r (token
    (To.Instr f a r) w) taken refl to old new old_slot
    (λ n e. ap (λ (m : MStore). m.slots f M.j.slot) same ∙ ap (λ (x : ℕ). ip_slot S.h (old.store.slots f x)) M.slot
    ∙ ap (ip_slot S.h) (old_slot n e)) k b t U x W

-- And so does that of an operator with a literal operand.
pub pair_used : (p q : Plan) (S : Relates p q) (f a : ℕ) (r : Port) (w v : Word) (i j : Instr) (o : Binary) (made old_made : List Token) (new old : Machine)
    (taken : Token) → instr_at p.program a ≡ Some i → i.op ≡ Apply2 o → instr_at q.program (S.g a) ≡ Some j → is_pair j.op ≡ true
    → taken.to ≡ To.Instr f (S.g a) Left → made ≡ to_all record { frame = f; ip = S.g a } v j
    → Leads p.program q.program S.g S.h (S.g a) (j.firsts ++ j.seconds) a (i.firsts ++ i.seconds)
    → (k b : ℕ) (t : Port) (x : Spot) → Reaches p.program q.program S.h b t x → UsesArc p k b t (token (To.Instr f a r) w) old_made old
    → UsesArc q k (S.h x.0) x.1 taken made new ⊎ Pend p.program q.program S.h k x.0 x.1 made
pair_used p q S f a r w v i j o made old_made new old taken at op there pair to makes leads k b t x W U0 =
    subst (λ (k : ℕ). Used k) spot.0 (one (subst (λ (b : ℕ). Reaches p.program q.program S.h b d.0.port x) to_dest
    (subst (λ (t : Port). Reaches p.program q.program S.h b t x) port_dest W)))
  where
    Used : ℕ → Type 0
    Used k = UsesArc q k (S.h x.0) x.1 taken made new ⊎ Pend p.program q.program S.h k x.0 x.1 made

    U : UseAt p k b t (token (To.Instr f a r) w) old_made old
    U = use_at p k b t (token (To.Instr f a r) w) old_made old U0

    spot : (f ≡ k) × (a ≡ first_of p.program U.b + U.n) × (r ≡ U.side)
    spot = instr_parts f a k (first_of p.program U.b + U.n) r U.side U.taken_at

    same : U.i ≡ i
    same = same_Some U.i i (sym U.at ∙ ap (instr_at p.program) (sym spot.1) ∙ at)

    no_link : (c : ℕ) → Apply2 o ≡ Link c → ⊥
    no_link c e = cc

    d : (d : Dest) × Contains (i.firsts ++ i.seconds) d × (U.x.to ≡ inlet (U.n + d.ahead) d.port)
    d = plain_arc p U.n i (Apply2 o) U.x no_link
        (subst (λ (op : Op). Contains (arcs_from p U.n i op) U.x) op (subst (λ (i : Instr). Contains (arcs_from p U.n i i.op) U.x) same U.here))

    to_dest : b ≡ a + d.0.ahead
    to_dest = let place = U.place in let number = spot.1 in let x = ap (λ (y : Inlet). y.place) d.2 in omega (arith, place, number, x)

    port_dest : t ≡ d.0.port
    port_dest = U.port ∙ ap (λ (y : Inlet). y.port) d.2

    no_give : (op : Op) → is_pair op ≡ true → (n : ℕ) → op ≡ Give n → ⊥
    no_give op e n g = true≢false (sym e ∙ ap is_pair g)

    pair_plain : (op : Op) → is_pair op ≡ true → (y : Dest) → Contains (j.firsts ++ j.seconds) y → Contains (plain_dests j op) y
    pair_plain (Link c) e y k = absurd (true≢false (sym e))
    pair_plain op e y k = k

    one : Reaches p.program q.program S.h (a + d.0.ahead) d.0.port x → Used f
    one A =
        led_used p q S.h f (S.g a) Left j there taken made new to (λ n g. absurd (no_give j.op pair n g)) v (j.firsts ++ j.seconds) (pair_plain j.op pair)
        (λ y c. subst (λ (l : List Token). Contains l y) (sym makes) c) x
        (way_of p.program q.program S.g S.h (S.g a) (j.firsts ++ j.seconds) a (i.firsts ++ i.seconds) leads d.0 d.1 x A)
