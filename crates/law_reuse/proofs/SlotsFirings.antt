-- What an instruction's event leaves: the arcs that were used before are used still, and those that it uses itself are.
use Rattle.std.proofs.Common.{◌≡◌, refl, sym, ap, ◌∙◌, subst, ℕ, ◌+◌, ◌⊎◌, inl, inr, Bool, true, false, not, true≢false, ◌&&◌, List, [], ◌∷◌, ◌++◌, Some}
use Rattle.std.proofs.Common.{Contains, arith}
use Rattle.std.specs.Prelude.{slice_get, if◌then◌else◌}
use Rattle.std.proofs.lemmas.Bool.{cases_Bool, and_from}
use Rattle.std.proofs.lemmas.List.Elements.{Contains-append_left, Contains-append_right, Contains-push}
use Rattle.std.proofs.lemmas.Option.{same_Some}
use Rattle.lemmas.proofs.Alls.{all_at}
use Rattle.lemmas.proofs.Contains.{contains_map, contains_mapped, contains_none}
use Rattle.operators.specs.Values.{truth}
use Rattle.tags.specs.declared.value.Value.{Value}
use Rattle.tags.specs.declared.token.Port.{Port}
use Rattle.tags.specs.declared.token.Port.TheVariants.{Left, Right}
use Rattle.tags.specs.declared.token.Word.{Word}
use Rattle.tags.specs.declared.token.To.{To}
use Rattle.tags.specs.declared.token.Token.{Token}
use Rattle.tags.specs.declared.slot.SlotState.{SlotState}
use Rattle.tags.specs.declared.slot.SlotState.TheVariants as Slot
use Rattle.tags.specs.declared.slot.SlotState.TheVariants.{Empty}
use Rattle.semantics.specs.declared.program.Dest.{Dest}
use Rattle.semantics.specs.declared.program.Op.{Op}
use Rattle.semantics.specs.declared.program.Op.TheVariants.{Apply1, Apply2, Apply2Right, Apply2Left, Lit, Copy, Sync, Switch, Fetch, Store, Frame, Link, Send}
use Rattle.semantics.specs.declared.program.Op.TheVariants.{Return, Ask, Open, Take, Give, Drain, Release}
use Rattle.semantics.specs.Program.{Instr, CodeBlock, first_of}
use Rattle.semantics.specs.Rule.{at_dest, to_each, fire_two, Becomes, outcome_of, slot_of}
use Rattle.semantics.specs.Machine.{Machine, Store as MStore, slot_in}
use Rattle.semantics.specs.Plan.{Plan, is_credit, is_open, IsPlanBlock}
use Rattle.semantics.specs.Sharing.{Inlet, inlet, Arc, arc, arcs_to, arcs_from, arcs_in, is_port, ends_with}
use Rattle.semantics.specs.Arcs.{UsesBy}
use Rattle.semantics.specs.Wired.{is_dyadic, IsWired}
use Rattle.law_reuse.proofs.SlotsPlaced.{IsPlaced, stands_one}
use Rattle.law_reuse.proofs.SlotsTurns.{is_counting, is_later, Turn, waits_left, waits_right, meets_right, meets_left, lone, begins, counts, drain_turn}
use Rattle.law_reuse.proofs.SlotsTurns.{later_not_dyadic, open_not_dyadic, dyadic_not_credit}
use Rattle.law_reuse.proofs.SlotsFillings.{at_port, Came, later_on, EmptyOr, opened_from, none_some, Move, turn, slot_cases, slot_new}
use Rattle.law_reuse.proofs.SlotsUsedArcs.{stands_arcs, credit_port, later_port, open_end, dyadic_slot, Ports, one_frame, not_twice, Over, Used, came_later}
use Rattle.law_reuse.proofs.SlotsUsedArcs.{same_over, used_later, no_move}

-- an arc of a block into the port was used in the frame
pub record CausedBy (p : Plan) (ts : List Token) (slots : ℕ → ℕ → SlotState) (f ip : ℕ) (q : Port) : Type 0 where
  pub b : ℕ
  pub x : Arc
  pub is_arc : Contains (arcs_in p (slice_get p.program.blocks b)) x
  pub place : ip ≡ first_of p.program b + x.to.place
  pub port : q ≡ x.to.port
  pub used : Used p.program ts slots f b x

-- one holder's instructions
pub holders_of : (p : Plan) (wired : IsWired p) (b m n h : ℕ) (i j : Instr) → IsPlaced p.program b m i → IsPlaced p.program b n j → slot_of i i.op ≡ Some h
    → slot_of j j.op ≡ Some h
    → (m ≡ n) ⊎ ((is_credit i.op ≡ true) × (is_credit j.op ≡ true) × (is_open i.op && is_open j.op ≡ false))
holders_of p wired b m n h i j s t holds others =
    let same : t.code ≡ s.code = same_Some t.code s.code (sym t.block ∙ s.block) in
    (all_at IsPlanBlock p.program.blocks b s.code wired.plan.blocks s.block).holders m n h i j s.instr
    (subst (λ (c : CodeBlock). slice_get c.instrs n ≡ Some j) same t.instr) holds others

module _ (p : Plan) (wired : IsWired p) (ts pool : List Token) (P : Ports p ts pool) (f b n : ℕ) (q : Port) (w : Word) (i : Instr) (made : List Token)
    (old new : MStore) (at : IsPlaced p.program b n i)
    (M : Move p.program f b n q w i made old new) (inside : Contains pool (at_port p.program f b n q w))
    (filled : (g h : ℕ) → EmptyOr p.program ts g h (old.slots g h)) where
  abbrev t : Token
  t = at_port p.program f b n q w

  abbrev now : List Token
  now = ts ++ t ∷ []

  abbrev turned : Turn p.program record { frame = f; ip = first_of p.program b + n } i i.op (slot_in old f (slot_of i i.op)) q w M.v made
  turned = turn p.program f b n q w i made old new M

  abbrev t_met : Contains (ts ++ pool) t
  t_met = Contains-append_right ts pool t inside

  -- what came to frame f before came to this block
  came_here : (a m : ℕ) (j : Instr) (r : Port) → IsPlaced p.program a m j → Came p.program ts f a m r → a ≡ b
  came_here a m j r s c = one_frame p ts pool P f a b m n j i r q c.0 w s at (Contains-append_left ts pool (at_port p.program f a m r c.0) c.1) t_met

  pub over_next : (g a h m : ℕ) (j : Instr) (r : Port) → IsPlaced p.program a m j → Came p.program ts g a m r → Over p.program ts old.slots g a h
      → Over p.program now new.slots g a h
  over_next g a h m j r s c O = go (slot_cases p.program f b n q w i made old new M g h)
    where
      go : (new.slots g h ≡ old.slots g h) ⊎ ((f ≡ g) × (slot_of i i.op ≡ Some h) × (slot_in old f (slot_of i i.op) ≡ old.slots g h) × (new.slots g h ≡ M.v))
          → Over p.program now new.slots g a h
      go (inl same) = same_over p.program ts t old.slots new.slots g a h same O
      go (inr (frame, holds, was, is)) =
          let c_here : Came p.program ts f a m r = subst (λ (x : ℕ). Came p.program ts x a m r) (sym frame) c in
          let block : a ≡ b = came_here a m j r s c_here in
          let O_here : Over p.program ts old.slots f b h =
          subst (λ (x : ℕ). Over p.program ts old.slots f x h) block (subst (λ (x : ℕ). Over p.program ts old.slots x a h) (sym frame) O) in
          absurd (pick O_here (was ∙ O.empty) holds (cases_Bool (is_port i.op q)))
        where
          pick : Over p.program ts old.slots f b h → slot_in old f (slot_of i i.op) ≡ Empty → slot_of i i.op ≡ Some h
              → ((is_port i.op q ≡ true) ⊎ (is_port i.op q ≡ false)) → ⊥
          pick O empty holds (inl port) = let c = O.came n i q at holds port in not_twice p ts pool P f b n i q c.0 w at port c.1 inside
          pick O empty holds (inr none) =
              no_move p.program record { frame = f; ip = first_of p.program b + n } i (slot_in old f (slot_of i i.op)) q w M.v made h turned empty holds none

  pub used_next : (g a : ℕ) (x : Arc) → Used p.program ts old.slots g a x → Used p.program now new.slots g a x
  used_next g a x U = used_later p.program ts t old.slots new.slots g a x U (λ h O. over_next g a h x.from U.i Left U.stands U.left O)

  pub caused_next : (g ip : ℕ) (r : Port) → CausedBy p ts old.slots g ip r → CausedBy p now new.slots g ip r
  caused_next g ip r C = record { b = C.b; x = C.x; is_arc = C.is_arc; place = C.place; port = C.port; used = used_next g C.b C.x C.used }

  -- who filled the holder's slot before
  filled_here : (h : ℕ) → slot_of i i.op ≡ Some h → EmptyOr p.program ts f h (slot_in old f (slot_of i i.op))
  filled_here h holds = subst (EmptyOr p.program ts f h) (sym (slot_new p.program f b n q w i made old new M h holds).1) (filled f h)

  left_came : (l : Word) → slot_in old f (slot_of i i.op) ≡ Slot.Left l → is_dyadic i.op ≡ true → Contains ts (at_port p.program f b n Left l)
  left_came l was d = go (subst (EmptyOr p.program ts f i.slot) was (filled_here i.slot (dyadic_slot i i.op d)))
    where
      go : EmptyOr p.program ts f i.slot (Slot.Left l) → Contains ts (at_port p.program f b n Left l)
      go (inl e) = absurd (cc)
      go (inr F) =
          let block : F.b ≡ b = came_here F.b F.n F.i Left F.stands (l, F.asserts.1) in
          let here : IsPlaced p.program b F.n F.i = subst (λ (x : ℕ). IsPlaced p.program x F.n F.i) block F.stands in
          place block (holders_of p wired b F.n n i.slot F.i i here at F.holds (dyadic_slot i i.op d))
        where
          place : F.b ≡ b → (F.n ≡ n) ⊎ ((is_credit F.i.op ≡ true) × (is_credit i.op ≡ true) × (is_open F.i.op && is_open i.op ≡ false))
              → Contains ts (at_port p.program f b n Left l)
          place e (inl m) =
              subst (λ (x : ℕ). Contains ts (at_port p.program f b x Left l)) m
              (subst (λ (x : ℕ). Contains ts (at_port p.program f x F.n Left l)) e F.asserts.1)
          place e (inr c) = absurd (true≢false (sym c.1 ∙ dyadic_not_credit i.op d))

  right_came : (r : Word) → slot_in old f (slot_of i i.op) ≡ Slot.Right r → is_dyadic i.op ≡ true → Contains ts (at_port p.program f b n Right r)
  right_came r was d = go (subst (EmptyOr p.program ts f i.slot) was (filled_here i.slot (dyadic_slot i i.op d)))
    where
      go : EmptyOr p.program ts f i.slot (Slot.Right r) → Contains ts (at_port p.program f b n Right r)
      go (inl e) = absurd (cc)
      go (inr F) =
          let block : F.b ≡ b = came_here F.b F.n F.i Right F.stands (r, F.asserts.1) in
          let here : IsPlaced p.program b F.n F.i = subst (λ (x : ℕ). IsPlaced p.program x F.n F.i) block F.stands in
          place block (holders_of p wired b F.n n i.slot F.i i here at F.holds (dyadic_slot i i.op d))
        where
          place : F.b ≡ b → (F.n ≡ n) ⊎ ((is_credit F.i.op ≡ true) × (is_credit i.op ≡ true) × (is_open F.i.op && is_open i.op ≡ false))
              → Contains ts (at_port p.program f b n Right r)
          place e (inl m) =
              subst (λ (x : ℕ). Contains ts (at_port p.program f b x Right r)) m
              (subst (λ (x : ℕ). Contains ts (at_port p.program f x F.n Right r)) e F.asserts.1)
          place e (inr c) = absurd (true≢false (sym c.1 ∙ dyadic_not_credit i.op d))

  -- the `open` that filled a loop's slot
  open_came : (h : ℕ) → slot_of i i.op ≡ Some h → is_counting (slot_in old f (slot_of i i.op)) ≡ true
      → (m : ℕ) × (j : Instr) × IsPlaced p.program b m j × (slot_of j j.op ≡ Some h) × (is_open j.op ≡ true) × Came p.program ts f b m Left
  open_came h holds was = go (filled_here h holds)
    where
      go : EmptyOr p.program ts f h (slot_in old f (slot_of i i.op))
          → (m : ℕ) × (j : Instr) × IsPlaced p.program b m j × (slot_of j j.op ≡ Some h) × (is_open j.op ≡ true) × Came p.program ts f b m Left
      go (inl e) = absurd (true≢false (sym was ∙ ap is_counting e))
      go (inr F) =
          let o = opened_from p.program ts f F.b F.n F.i (slot_in old f (slot_of i i.op)) was F.asserts in
          let block : F.b ≡ b = came_here F.b F.n F.i Left F.stands o.1 in
          (F.n, F.i, subst (λ (x : ℕ). IsPlaced p.program x F.n F.i) block F.stands, F.holds, o.0, subst (λ (x : ℕ). Came p.program ts f x F.n Left) block o.1)

  over_dyadic : is_dyadic i.op ≡ true → M.v ≡ Empty → Came p.program now f b n Left → Came p.program now f b n Right → (h : ℕ) → slot_of i i.op ≡ Some h
      → Over p.program now new.slots f b h
  over_dyadic d is l r h holds = record {
    empty = (slot_new p.program f b n q w i made old new M h holds).0 ∙ is;
    came = λ m j side s others port. go m side j (holders_of p wired b m n h j i s at others holds);
  }
    where
      either : (side : Port) → Came p.program now f b n side
      either Left = l
      either Right = r

      go : (m : ℕ) (side : Port) (j : Instr) → (m ≡ n) ⊎ ((is_credit j.op ≡ true) × (is_credit i.op ≡ true) × (is_open j.op && is_open i.op ≡ false))
          → Came p.program now f b m side
      go m side j (inl e) = subst (λ (x : ℕ). Came p.program now f b x side) (sym e) (either side)
      go m side j (inr c) = absurd (true≢false (sym c.1 ∙ dyadic_not_credit i.op d))

  over_later : is_later i.op ≡ true → M.v ≡ Empty → is_counting (slot_in old f (slot_of i i.op)) ≡ true → (h : ℕ) → slot_of i i.op ≡ Some h
      → Over p.program now new.slots f b h
  over_later d is was h holds = record {
    empty = (slot_new p.program f b n q w i made old new M h holds).0 ∙ is;
    came = λ m j side s others port. go m j side s others port (holders_of p wired b m n h j i s at others holds);
  }
    where
      o : (m : ℕ) × (j : Instr) × IsPlaced p.program b m j × (slot_of j j.op ≡ Some h) × (is_open j.op ≡ true) × Came p.program ts f b m Left
      o = open_came h holds was

      go : (m : ℕ) (j : Instr) (side : Port) → IsPlaced p.program b m j → slot_of j j.op ≡ Some h → is_port j.op side ≡ true
          → (m ≡ n) ⊎ ((is_credit j.op ≡ true) × (is_credit i.op ≡ true) × (is_open j.op && is_open i.op ≡ false)) → Came p.program now f b m side
      go m j side s others port (inl e) =
          let same : j ≡ i = stands_one p.program b n j i (subst (λ (x : ℕ). IsPlaced p.program b x j) e s) at in
          absurd (later_port i.op side d (subst (λ (j : Instr). is_port j.op side ≡ true) same port))
      go m j side s others port (inr c) = pick (credit_port j.op side c.0 port) (holders_of p wired b o.0 m h o.1 j o.2 s o.3 others)
        where
          pick : (is_open j.op ≡ true) × (side ≡ Left)
              → (o.0 ≡ m) ⊎ ((is_credit (o.1).op ≡ true) × (is_credit j.op ≡ true) × (is_open (o.1).op && is_open j.op ≡ false)) → Came p.program now f b m side
          pick a (inl e) =
              subst (λ (r : Port). Came p.program now f b m r) (sym a.1)
              (subst (λ (x : ℕ). Came p.program now f b x Left) e (came_later p.program ts t f b o.0 Left o.5))
          pick a (inr c) = absurd (true≢false (sym (and_from _ _ o.4 a.0) ∙ c.2))

  here_came : (r : Port) → q ≡ r → Came p.program now f b n r
  here_came r e = (w, subst (λ (r : Port). Contains now (at_port p.program f b n r w)) e (Contains-push ts t))

  -- the event used an arc of its instruction
  uses_arc : (second : Bool) (to : Inlet) → (made ≡ [] → ⊥) → (is_later i.op ≡ true → ends_with i.op ≡ true → M.v ≡ Empty)
      → (i.op ≡ Switch → (v : Value) × Contains now (at_port p.program f b n Right (Word.Val v)) × (truth v ≡ not second))
      → Used p.program now new.slots f b (arc n second to)
  uses_arc second to some ends side = go turned
    where
      go : Turn p.program record { frame = f; ip = first_of p.program b + n } i i.op (slot_in old f (slot_of i i.op)) q w M.v made
          → Used p.program now new.slots f b (arc n second to)
      go (waits_left d was port is none) = absurd (some none)
      go (waits_right d was port is none) = absurd (some none)
      go (meets_right d l was port is makes) =
          let left : Came p.program now f b n Left = (l, later_on ts t (at_port p.program f b n Left l) (left_came l was d)) in
          record {
            i = i;
            stands = at;
            left = left;
            right = λ e. here_came Right port;
            side = side;
            over = λ h holds e. over_dyadic d is left (here_came Right port) h holds;
          }
      go (meets_left d r was port is makes) =
          let right : Came p.program now f b n Right = (r, later_on ts t (at_port p.program f b n Right r) (right_came r was d)) in
          record {
            i = i;
            stands = at;
            left = here_came Left port;
            right = λ e. right;
            side = side;
            over = λ h holds e. over_dyadic d is (here_came Left port) right h holds;
          }
      go (lone none d port) =
          record {
            i = i;
            stands = at;
            left = here_came Left port;
            right = λ e. absurd (true≢false (sym e ∙ d));
            side = side;
            over = λ h holds e. absurd (none_some h (slot_of i i.op) none holds);
          }
      go (begins d was port is) =
          record {
            i = i;
            stands = at;
            left = here_came Left port;
            right = λ e. absurd (open_not_dyadic i.op d e);
            side = side;
            over = λ h holds e. absurd (open_end i.op d e);
          }
      go (counts d was port is) =
          record {
            i = i;
            stands = at;
            left = here_came Left port;
            right = λ e. absurd (later_not_dyadic i.op d e);
            side = side;
            over = λ h holds e. over_later d (ends d e) was h holds;
          }

  -- ---- THE EVENT'S OWN ARC, AS ITS TOKEN SHOWS IT

  instr_same : (a c g : ℕ) (r s : Port) → To.Instr f a r ≡ To.Instr g c s → (a ≡ c) × (r ≡ s)
  instr_same a c g r s e = (cc, cc)

  some_made : (u : Token) → Contains made u → made ≡ [] → ⊥
  some_made u c e = contains_none u (subst (λ (l : List Token). Contains l u) e c)

  switch_or : (op : Op) → (op ≡ Switch) ⊎ (op ≡ Switch → ⊥)
  switch_or Switch = inl refl
  switch_or (Apply1 op) = inr (λ e. cc)
  switch_or (Apply2 op) = inr (λ e. cc)
  switch_or (Apply2Right op z) = inr (λ e. cc)
  switch_or (Apply2Left op z) = inr (λ e. cc)
  switch_or (Lit z) = inr (λ e. cc)
  switch_or Copy = inr (λ e. cc)
  switch_or Sync = inr (λ e. cc)
  switch_or (Fetch a) = inr (λ e. cc)
  switch_or (Store a) = inr (λ e. cc)
  switch_or Frame = inr (λ e. cc)
  switch_or (Link a) = inr (λ e. cc)
  switch_or (Send a e) = inr (λ e. cc)
  switch_or (Return o) = inr (λ e. cc)
  switch_or (Ask o) = inr (λ e. cc)
  switch_or (Open k) = inr (λ e. cc)
  switch_or (Take k) = inr (λ e. cc)
  switch_or (Give k) = inr (λ e. cc)
  switch_or (Drain k) = inr (λ e. cc)
  switch_or (Release o) = inr (λ e. cc)

  ends_op : (c : Machine) → c.store ≡ new → (ip : ℕ) (r : Port) (u : Token) (op : Op) → i.op ≡ op → UsesBy p f ip r i op u c → Contains made u
      → outcome_of p.program record { frame = f; ip = first_of p.program b + n } i op (slot_in old f (slot_of i i.op)) q w ≡ Becomes M.v made
      → is_later op ≡ true → ends_with op ≡ true → M.v ≡ Empty
  ends_op c same ip r u (Give k) is uses inside becomes d e =
      sym (slot_new p.program f b n q w i made old new M i.slot (ap (slot_of i) is)).0 ∙ ap (λ (s : MStore). s.slots f i.slot) (sym same) ∙ uses.1
  ends_op c same ip r u (Drain k) is uses inside becomes d e = go q becomes
    where
      go : (q : Port) → outcome_of p.program record { frame = f; ip = first_of p.program b + n } i (Drain k) (slot_in old f (slot_of i i.op)) q w
          ≡ Becomes M.v made → M.v ≡ Empty
      go Left becomes = pick (drain_turn p.program record { frame = f; ip = first_of p.program b + n } i k (slot_in old f (slot_of i i.op)) M.v made becomes).1
        where
          pick : (M.v ≡ Empty) ⊎ ((is_counting M.v ≡ true) × (made ≡ [])) → M.v ≡ Empty
          pick (inl e) = e
          pick (inr e) = absurd (some_made u inside e.1)
      go Right becomes = absurd (cc)
  ends_op c same ip r u (Take k) is uses inside becomes d e = absurd (true≢false (sym e))
  ends_op c same ip r u op is uses inside becomes d e = absurd (true≢false (sym d))

  -- what a switch made goes to the side that its predicate determines
  switch_made : (l v : Word) → fire_two p.program record { frame = f; ip = first_of p.program b + n } i Switch l v ≡ Some made
      → (z : Value) × (v ≡ Word.Val z) × (made ≡ to_each record { frame = f; ip = first_of p.program b + n } l (if truth z then i.firsts else i.seconds))
  switch_made l (Word.Val z) e = (z, refl, sym (same_Some _ made e))
  switch_made l (Word.Frame g) e = absurd (cc)
  switch_made l (Word.Back c) e = absurd (cc)

  side_arc : i.op ≡ Switch → (z : Bool) (d : Dest) → Contains (if z then i.firsts else i.seconds) d
      → Contains (arcs_in p (slice_get p.program.blocks b)) (arc n (not z) (inlet (n + d.ahead) d.port))
  side_arc is true d c =
      let x : Arc = arc n false (inlet (n + d.ahead) d.port) in
      stands_arcs p b n i x at (subst (λ (op : Op). Contains (arcs_from p n i op) x) (sym is)
      (Contains-append_left (arcs_to n false i.firsts) (arcs_to n true i.seconds) x
      (contains_map (λ (d : Dest). arc n false (inlet (n + d.ahead) d.port)) i.firsts d c)))
  side_arc is false d c =
      let x : Arc = arc n true (inlet (n + d.ahead) d.port) in
      stands_arcs p b n i x at (subst (λ (op : Op). Contains (arcs_from p n i op) x) (sym is)
      (Contains-append_right (arcs_to n false i.firsts) (arcs_to n true i.seconds) x
      (contains_map (λ (d : Dest). arc n true (inlet (n + d.ahead) d.port)) i.seconds d c)))

  not_twice_over : (z : Bool) → z ≡ not (not z)
  not_twice_over true = refl
  not_twice_over false = refl

  switch_caused : i.op ≡ Switch → (c : Machine) (ip : ℕ) (r : Port) (u : Token) → u.to ≡ To.Instr f ip r → Contains made u → CausedBy p now new.slots f ip r
  unfolding here_came
  switch_caused is c ip r u goes inside = go turned
    where
      by_words : (l v : Word) → fire_two p.program record { frame = f; ip = first_of p.program b + n } i i.op l v ≡ Some made
          → Contains now (at_port p.program f b n Right v) → CausedBy p now new.slots f ip r
      by_words l v makes pred =
          let m = switch_made l v (subst (λ (op : Op). fire_two p.program record { frame = f; ip = first_of p.program b + n } i op l v ≡ Some made) is makes) in
          let d = contains_mapped (at_dest record { frame = f; ip = first_of p.program b + n } l) (if truth m.0 then i.firsts else i.seconds) u
          (subst (λ (ts : List Token). Contains ts u) m.2 inside) in
          let same = instr_same (first_of p.program b + n + d.0.ahead) ip f d.0.port r (ap (λ (t : Token). t.to) d.2 ∙ goes) in
          let at_ip = same.0 in
          record {
            b = b;
            x = arc n (not (truth m.0)) (inlet (n + d.0.ahead) d.0.port);
            is_arc = side_arc is (truth m.0) d.0 d.1;
            place = omega (arith, at_ip);
            port = sym same.1;
            used = uses_arc (not (truth m.0)) (inlet (n + d.0.ahead) d.0.port) (some_made u inside) (λ late e. absurd (true≢false (sym late ∙ ap is_later is)))
                (λ e. (m.0, subst (λ (v : Word). Contains now (at_port p.program f b n Right v)) m.1 pred, not_twice_over (truth m.0)));
          }

      go : Turn p.program record { frame = f; ip = first_of p.program b + n } i i.op (slot_in old f (slot_of i i.op)) q w M.v made
          → CausedBy p now new.slots f ip r
      go (waits_left d was port v none) = absurd (some_made u inside none)
      go (waits_right d was port v none) = absurd (some_made u inside none)
      go (meets_right d l was port v makes) = by_words l w makes (here_came Right port).1
      go (meets_left d s was port v makes) = by_words w s makes (later_on ts t (at_port p.program f b n Right s) (right_came s was d))
      go (lone none d port) = absurd (true≢false (sym (ap is_dyadic is) ∙ d))
      go (begins d was port v) = absurd (true≢false (sym d ∙ ap is_open is))
      go (counts d was port v) = absurd (true≢false (sym d ∙ ap is_later is))

  pub caused_by : (c : Machine) → c.store ≡ new → (x : Arc) (ip : ℕ) (r : Port) (u : Token) → x.from ≡ n → Contains (arcs_in p (slice_get p.program.blocks b)) x
      → ip ≡ first_of p.program b + x.to.place → r ≡ x.to.port → Contains made u → UsesBy p f ip r i i.op u c → CausedBy p now new.slots f ip r
  caused_by c same x ip r u from is_arc place port inside uses = go (switch_or i.op)
    where
      go : (i.op ≡ Switch) ⊎ (i.op ≡ Switch → ⊥) → CausedBy p now new.slots f ip r
      go (inl is) = switch_caused is c ip r u (subst (λ (op : Op). UsesBy p f ip r i op u c) is uses) inside
      go (inr ne) =
          let eq : arc n x.second x.to ≡ x = (λ k. record { from = sym from k; second = x.second; to = x.to }) in
          record {
            b = b;
            x = x;
            is_arc = is_arc;
            place = place;
            port = port;
            used = subst (Used p.program now new.slots f b) eq (uses_arc x.second x.to (some_made u inside)
                (λ late e. ends_op c same ip r u i.op refl uses inside M.becomes late e) (λ e. absurd (ne e)));
          }
