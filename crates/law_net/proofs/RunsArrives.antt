-- Along a run: a token at a port is that of one item, whose part is there; so a port gets one token, and all of one block.
use Rattle.std.proofs.Common.{◌≡◌, ℕ, ◌+◌, ◌<◌, ◌≤◌, Bool, true, false, not, ◌||◌, ℤ, List, [], ◌∷◌, ◌++◌, map, length, refl, sym, ap, ◌∙◌, subst, inl, inr}
use Rattle.std.proofs.Common.{◌⊎◌, arith, true≢false, ltb-true, eqb-true, ◌==◌, nat_lt, Option, Some, None, if◌then◌else◌}
use Rattle.std.specs.Prelude.{Contains, flat_map, slice_get}
use Rattle.std.proofs.lemmas.Bool.{and_parts}
use Rattle.std.proofs.lemmas.Option.{slice_get_within}
use Rattle.std.proofs.lemmas.List.Sorted.{Contains-permutation}
use Rattle.std.proofs.lemmas.List.Elements.{Contains-append_left, Contains-append_right}
use Rattle.lemmas.proofs.Contains.{contains_cases, contains_head, contains_mapped, contains_none}
use Rattle.tags.specs.declared.value.Value.{Value}
use Rattle.tags.specs.declared.token.Port.{Port}
use Rattle.tags.specs.declared.token.Port.TheVariants.{Left, Right}
use Rattle.tags.specs.declared.token.Word.{Word}
use Rattle.tags.specs.declared.token.To.{To}
use Rattle.tags.specs.declared.token.Token.{Token}
use Rattle.semantics.specs.declared.program.Op.{Op}
use Rattle.semantics.specs.declared.program.Op.TheVariants.{Give, Take}
use Rattle.semantics.specs.Graph.{Flow}
use Rattle.semantics.specs.Meaning.{Context, Main}
use Rattle.semantics.specs.Plan.{Plan}
use Rattle.semantics.specs.Program.{CodeBlock, instr_at}
use Rattle.semantics.specs.Rule.{token}
use Rattle.semantics.specs.Machine.{Machine}
use Rattle.semantics.specs.Orderly.{met, often, is_at, is_entry, same_block}
use Rattle.semantics.proofs.Ports.{eq_port_true, is_at_itself}
use Rattle.semantics.proofs.BlockPlaces.{same_in}
use Rattle.law_reuse.proofs.SlotsPlaced.{instr_in}
use Rattle.law_confluence.specs.OrdersTotals.{one}
use Rattle.law_confluence.proofs.Orders.{total-IsPermutation, total-map}
use Rattle.law_net.proofs.RunsPorts.{entry_in}
use Rattle.law_net.specs.ContextsParts.{Part, Entry, Line, Merge, CondEnd, Sender, Landing, Giver, Taker, Drainer, Asked, NextAsked, InCell, Drained}
use Rattle.law_net.specs.ContextsParts.{Shown, Done}
use Rattle.law_net.specs.ContextsParts.{Freed, inlet, Item, Firing, Spot, spot_of, same_spot}
use Rattle.law_net.specs.ContextsBlocks.{Wiring, is_loop, op_of, merge_cond, there_in, is_store}
use Rattle.law_net.specs.Contexts.{or_zero, Wires, block_in, code_in, site_in, wiring_in, IsContext, is_strict_in}
use Rattle.law_net.specs.ContextsWires.{IsLaidOut, wired_way}
use Rattle.law_net.specs.ContextsAround.{Choice}
use Rattle.law_net.specs.ContextsFirings.{Config, begins, makes, renewed, takes, frame_at, cell_of, second_of}
use Rattle.law_net.specs.ContextsLaws.{Fits, spot_there, way_fits, sender_way, arms_of, landing_arms, InArm}
use Rattle.law_net.specs.ContextsMirror.{Past, frame_of, ip_of, word_of, to_of, token_of, cell_to, came, only, but_cells, is_cell_token, events_taken}
use Rattle.law_net.specs.ContextsMirror.{is_in_cell}
use Rattle.law_net.specs.ContextsMirror.{is_instr, is_entry_part, WasUsed}
use Rattle.law_net.specs.ContextsTheorem.{IsGood}
use Rattle.law_net.specs.ContextsPackages.{Keeps, AllFit, IsOnce, IsCaused, IsOfOneBlock}
use Rattle.law_net.proofs.ContextsSames.{hits_at, hit_counted, spot_is, inlet_is}
use Rattle.law_net.proofs.WiredSends.{all_from}
use Rattle.law_net.proofs.WiredWords.{Begins, AtEntry, AtInput, begin_cases}
use Rattle.law_net.proofs.WiredRivals.{two_ways, merge_arm, end_arm, flag_at, turn_last, turn_later, landing_arm, Order, Same, Before, After, order}
use Rattle.law_net.proofs.WiredNets.{all_of, all_born, came_all, came_total, came_split, taken_in, flat_contains, only_total, only_contains, count_total}
use Rattle.law_net.proofs.WiredNets.{cells_apart, one_passes, once_all, allowed_in, not_opposed}
use Rattle.law_net.proofs.WiredInvoked.{code_at}
use Rattle.law_net.proofs.WiredFed.{MadeAt, ByGift, ByWire, made_at, sent_there}
use Rattle.law_net.proofs.WiredGifts.{argument, Gift, GHeld, GAsked, GArgument, GFanned, GEntry, GInput, GShown, GLanding, GLeaves, GDrains, GFreed, GDone}
use Rattle.law_net.proofs.WiredGifts.{GCallDone, GGiver, GTaker, GNextFramer, GNextAsked, GNextFanned, GNextEntry, GNextInput, GLoopDone}

-- which operations get many tokens
abbrev often_op : Op → Bool
often_op o = elim o as (λ x. Bool) [ Give k ↦ true | Take k ↦ true | _ ↦ false ]

at_instr : (f ip : ℕ) (r : Port) (g jp : ℕ) (s : Port) → is_at f ip r (To.Instr g jp s) ≡ true → (g ≡ f) × (jp ≡ ip) × (s ≡ r)
at_instr f ip r g jp s h = let a = and_parts _ _ h in let d = and_parts _ _ a.0 in (eqb-true g f d.0, eqb-true jp ip d.1, sym (eq_port_true r s a.1))

pub frame_main : (fl : Flow) (fired : List Firing) → frame_at fl fired Main ≡ Some 0
frame_main fl [] = refl
frame_main fl (f ∷ fired) = refl

-- THE PORT of an item
pub record IsPort (fl : Flow) (p : Plan) (w : Wires) (fired : List Firing) (i : Item) (q : Part) (f ip : ℕ) (r : Port) : Type 0 where
  pub frame : frame_of fl fired i.context ≡ f
  pub place : ip_of fl p w i.context q ≡ ip
  pub port : i.inlet.port ≡ r
  pub there : (c : Context) → spot_there fl w c q ≡ true → there_in fl (site_in fl w c) (wiring_in fl w c) q ≡ true

cell_elsewhere : (f ip : ℕ) (r : Port) (x : Option ℕ) (store : Bool) (v : Value) → is_at f ip r (cell_to x store v) ≡ false
cell_elsewhere f ip r None store v = refl
cell_elsewhere f ip r (Some x) true v = refl
cell_elsewhere f ip r (Some x) false v = refl

module _ (fl : Flow) (p : Plan) (w : Wires) (fired : List Firing) (i : Item) (f ip : ℕ) (r : Port) where
  at_place : (q : Part) → is_at f ip r (To.Instr (frame_of fl fired i.context) (ip_of fl p w i.context q) i.inlet.port) ≡ true
      → ((c : Context) → spot_there fl w c q ≡ true → there_in fl (site_in fl w c) (wiring_in fl w c) q ≡ true)
      → IsPort fl p w fired i q f ip r
  at_place q h t =
      let a = at_instr f ip r (frame_of fl fired i.context) (ip_of fl p w i.context q) i.inlet.port h in
      record { frame = a.0; place = a.1; port = a.2; there = t }

  pub port_of : (q : Part) → is_at f ip r (to_of fl p w fired i q) ≡ true → IsPort fl p w fired i q f ip r
  port_of (Asked n) h = absurd (true≢false (sym h))
  port_of NextAsked h = absurd (true≢false (sym h))
  port_of (InCell n) h =
      absurd (true≢false (sym h ∙ cell_elsewhere f ip r (cell_of fl i.context n i.held) (is_store (block_in fl i.context) n) (second_of i.held)))
  port_of (Shown j) h = absurd (true≢false (sym h))
  port_of Done h = absurd (true≢false (sym h))
  port_of Freed h = absurd (true≢false (sym h))
  port_of q h = at_place q h (λ c t. t)

-- the instructions are no pseudo-parts
pub instr_there : (fl : Flow) (w : Wires) (c : Context) (q : Part) → there_in fl (site_in fl w c) (wiring_in fl w c) q ≡ true → is_instr q ≡ true
instr_there fl w c (Asked n) h = absurd (true≢false (sym h))
instr_there fl w c NextAsked h = absurd (true≢false (sym h))
instr_there fl w c (InCell n) h = absurd (true≢false (sym h))
instr_there fl w c (Drained n) h = absurd (true≢false (sym h))
instr_there fl w c (Shown j) h = absurd (true≢false (sym h))
instr_there fl w c Done h = absurd (true≢false (sym h))
instr_there fl w c Freed h = absurd (true≢false (sym h))
instr_there fl w c q h = refl

no_cell_token : (f ip : ℕ) (r : Port) (t : Token) → is_cell_token t ≡ true → is_at f ip r t.to ≡ false
no_cell_token f ip r t e = go t.to e
  where
    go : (to : To) → (elim to as (λ x. Bool) [ To.Fetch x ↦ true | To.Store x v ↦ true | _ ↦ false ]) ≡ true → is_at f ip r to ≡ false
    go (To.Instr g n s) e = absurd (true≢false (sym e))
    go to e = refl

keeps_token : (ts : List Token) (t : Token) → Contains ts t → is_cell_token t ≡ false → Contains (but_cells ts) t
keeps_token [] t c e = absurd (contains_none t c)
keeps_token (u ∷ ts) t c e = pick (contains_cases u ts t c) (λ d. keeps_token ts t d e)
  where
    pick : (u ≡ t) ⊎ Contains ts t → (Contains ts t → Contains (but_cells ts) t) → Contains ((if is_cell_token u then [] else u ∷ []) ++ but_cells ts) t
    pick (inl g) more =
        subst (λ (s : Bool). Contains ((if s then [] else u ∷ []) ++ but_cells ts) t) (sym (ap is_cell_token g ∙ e))
        (subst (λ (k : Token). Contains (k ∷ but_cells ts) t) (sym g) (contains_head t (but_cells ts)))
    pick (inr d) more = Contains-append_right (if is_cell_token u then [] else u ∷ []) (but_cells ts) t (more d)

module _ (fl : Flow) (p : Plan) (w : Wires) (inputs : List ℤ) (q : Past) (m : Machine) (good : IsGood fl p w)
    (k : Keeps fl p w inputs q m) where
  abbrev pub net : Config
  net = k.tracks.net

  abbrev pub all_here : List Item
  all_here = all_of fl net

  -- WHAT CAME fits
  pub fits_in : (i : Item) → Contains all_here i → Fits fl w (spot_of i)
  fits_in i h = (allowed_in fl w inputs net k.sound i h).fits

  pub there_at : (i : Item) → Contains all_here i → (c : Context) → i.context ≡ c → (r : Part) → i.inlet.part ≡ r → spot_there fl w c r ≡ true
  there_at i h c e r g = subst (λ (c : Context). spot_there fl w c r ≡ true) e (subst (λ (r : Part). spot_there fl w i.context r ≡ true) g (fits_in i h).there)

  way_at : (i : Item) → Contains all_here i → (c : Context) → i.context ≡ c → (r : Part) → i.inlet.part ≡ r → way_fits fl c r i.inlet.port i.inlet.way ≡ true
  way_at i h c e r g =
      subst (λ (c : Context). way_fits fl c r i.inlet.port i.inlet.way ≡ true) e
      (subst (λ (r : Part). way_fits fl i.context r i.inlet.port i.inlet.way ≡ true) g (fits_in i h).way)

  -- THE WAY of what arrives at a part is one
  module _ (c : Context) (here : IsContext fl c) (i j : Item) (a : Contains all_here i) (b : Contains all_here j) (ic : i.context ≡ c) (jc : j.context ≡ c)
      (r : Part) (ir : i.inlet.part ≡ r) (jr : j.inlet.part ≡ r) where
    arm_in : (o : Item) → o.context ≡ c → o.inlet.part ≡ r → (d : Choice) (s : Bool) → InArm fl (record { context = c; inlet = inlet r Left o.inlet.way }) d s
        → InArm fl (spot_of o) d s
    arm_in o m e d s h = subst (λ (c : Context). Contains (arms_of fl c o.inlet.part o.inlet.way) (record { choice = d; side = s })) (sym m)
        (subst (λ (r : Part). Contains (arms_of fl c r o.inlet.way) (record { choice = d; side = s })) (sym e) h)

    opposed : (d : Choice) (s : Bool) → InArm fl (record { context = c; inlet = inlet r Left i.inlet.way }) d s
        → InArm fl (record { context = c; inlet = inlet r Left j.inlet.way }) d (not s) → ⊥
    opposed d s x y = not_opposed fl w inputs net k.sound i j d s a b (arm_in i ic ir d s x) (arm_in j jc jr d (not s) y)

    two_arms : (d : Choice) → ((t : ℕ) → InArm fl (record { context = c; inlet = inlet r Left t }) d (t == 0)) → nat_lt i.inlet.way 2 ≡ true
        → nat_lt j.inlet.way 2 ≡ true → i.inlet.way ≡ j.inlet.way
    two_arms d arm x y = pick (two_ways i.inlet.way j.inlet.way x y)
      where
        pick : (i.inlet.way ≡ j.inlet.way) ⊎ ((j.inlet.way == 0) ≡ not (i.inlet.way == 0)) → i.inlet.way ≡ j.inlet.way
        pick (inl h) = h
        pick (inr h) =
            absurd (opposed d (i.inlet.way == 0) (arm i.inlet.way)
            (subst (λ (s : Bool). InArm fl (record { context = c; inlet = inlet r Left j.inlet.way }) d s) h (arm j.inlet.way)))

    -- of turns that send out there is one
    one_turn : (n : ℕ) → is_loop (block_in fl c) n ≡ true
        → ((t : ℕ) (d : Choice) (s : Bool) → Contains (landing_arms fl c n t true) (record { choice = d; side = s })
        → InArm fl (record { context = c; inlet = inlet r Left t }) d s)
        → Order i.inlet.way j.inlet.way → i.inlet.way ≡ j.inlet.way
    one_turn n l arm (Same e) = e
    one_turn n l arm (Before h) = let d = flag_at fl p w good c here n i.inlet.way in
        absurd (opposed d false (arm i.inlet.way d false (turn_last fl p w good c here n i.inlet.way l))
        (arm j.inlet.way d true (turn_later fl p w good c here n i.inlet.way j.inlet.way l h)))
    one_turn n l arm (After h) = let d = flag_at fl p w good c here n j.inlet.way in
        absurd (opposed d true (arm i.inlet.way d true (turn_later fl p w good c here n j.inlet.way i.inlet.way l h))
        (arm j.inlet.way d false (turn_last fl p w good c here n j.inlet.way l)))

  -- what may arrive often, or again under another name
  pub record Strays (r : Part) (i j : Item) : Type 0 where
    pub giver : (n : ℕ) → r ≡ Giver n → i.inlet.way ≡ j.inlet.way
    pub taker : (n : ℕ) → r ≡ Taker n → i.inlet.way ≡ j.inlet.way
    pub sender : (n m : ℕ) → r ≡ Sender n m → i.inlet.way ≡ j.inlet.way

  landing_one : (c : Context) → IsContext fl c → (i j : Item) → Contains all_here i → Contains all_here j → i.context ≡ c → j.context ≡ c → (n m : ℕ)
      → i.inlet.part ≡ Landing n m → j.inlet.part ≡ Landing n m
      → (l : Bool) → is_loop (block_in fl c) n ≡ l → (l || (i.inlet.way == 0)) ≡ true → (l || (j.inlet.way == 0)) ≡ true → i.inlet.way ≡ j.inlet.way
  landing_one c here i j a b ic jc n m ir jr false l x y = eqb-true i.inlet.way 0 x ∙ sym (eqb-true j.inlet.way 0 y)
  landing_one c here i j a b ic jc n m ir jr true l x y =
      one_turn c here i j a b ic jc (Landing n m) ir jr n l (λ t d s h. landing_arm fl p w good c here n m t d s l h) (order i.inlet.way j.inlet.way)

  one_way : (c : Context) → IsContext fl c → (i j : Item) → Contains all_here i → Contains all_here j → i.context ≡ c → j.context ≡ c → (r : Part)
      → i.inlet.part ≡ r → j.inlet.part ≡ r → Strays r i j → spot_there fl w c r ≡ true
      → way_fits fl c r i.inlet.port i.inlet.way ≡ true → way_fits fl c r j.inlet.port j.inlet.way ≡ true → i.inlet.way ≡ j.inlet.way
  one_way c here i j a b ic jc (Merge n) ir jr o s x y =
      two_arms c here i j a b ic jc (Merge n) ir jr (record { context = c; cond = merge_cond (block_in fl c) n })
      (λ t. merge_arm fl p w good c here n t s) x y
  one_way c here i j a b ic jc (CondEnd n) ir jr o s x y =
      two_arms c here i j a b ic jc (CondEnd n) ir jr (record { context = c; cond = n }) (λ t. end_arm fl p w good c here n t s) x y
  one_way c here i j a b ic jc (Landing n t) ir jr o s x y = landing_one c here i j a b ic jc n t ir jr (is_loop (block_in fl c) n) refl x y
  one_way c here i j a b ic jc (Drainer n) ir jr o s x y = one_turn c here i j a b ic jc (Drainer n) ir jr n s (λ t d e h. h) (order i.inlet.way j.inlet.way)
  one_way c here i j a b ic jc (Sender n t) ir jr o s x y = o.sender n t refl
  one_way c here i j a b ic jc (Giver n) ir jr o s x y = o.giver n refl
  one_way c here i j a b ic jc (Taker n) ir jr o s x y = o.taker n refl
  one_way c here i j a b ic jc r ir jr o s x y = eqb-true i.inlet.way 0 x ∙ sym (eqb-true j.inlet.way 0 y)

  -- two items at one part and port are at one spot
  pub one_spot : (i j : Item) → Contains all_here i → Contains all_here j → i.context ≡ j.context → i.inlet.part ≡ j.inlet.part → i.inlet.port ≡ j.inlet.port
      → Strays j.inlet.part i j → spot_of i ≡ spot_of j
  one_spot i j a b context part port o = spot_is (spot_of i) (spot_of j) context (inlet_is i.inlet j.inlet part port
      (one_way j.context (fits_in j b).is_context i j a b context refl j.inlet.part part refl o (there_at j b j.context refl j.inlet.part refl)
      (way_at i a j.context context j.inlet.part part) (way_at j b j.context refl j.inlet.part refl)))

  -- CODE
  module _ (c : Context) (here : IsContext fl c) where
    abbrev pub places : Wiring
    places = wiring_in fl w c

    abbrev pub code : CodeBlock
    code = (code_at fl p w good c here).code

    pub code_there : slice_get p.program.blocks (code_in fl w c) ≡ Some code
    code_there = (code_at fl p w good c here).there

    pub laid : IsLaidOut fl p w.variant (site_in fl w c) places code
    laid = (code_at fl p w good c here).laid

    abbrev pub IsHere : Part → Type 0
    IsHere r = there_in fl (site_in fl w c) places r ≡ true

    pub place_below : (r : Part) → IsHere r → places.place r < length code.instrs
    place_below r h = slice_get_within code.instrs (places.place r) (laid.here r h).0 (laid.here r h).1

    pub instr_here : (r : Part) → (h : IsHere r) → instr_at p.program (ip_of fl p w c r) ≡ Some (laid.here r h).0
    instr_here r h = instr_in p.program.blocks (code_in fl w c) (places.place r) code code_there (place_below r h) ∙ (laid.here r h).1

    pub block_same : (r s : Part) → IsHere r → IsHere s → same_block p.program.blocks (ip_of fl p w c r) (ip_of fl p w c s) ≡ true
    block_same r s h g = same_in p.program.blocks (code_in fl w c) (places.place r) (places.place s) code code_there (place_below r h) (place_below s g)

  -- AN ITEM AT A PORT
  pub record CameAt (f ip : ℕ) (r : Port) (i : Item) : Type 0 where
    pub stands : Contains all_here i
    pub context : IsContext fl i.context
    pub part_here : there_in fl (site_in fl w i.context) (wiring_in fl w i.context) i.inlet.part ≡ true
    pub frame : frame_at fl net.fired i.context ≡ Some f
    pub frame_is : frame_of fl net.fired i.context ≡ f
    pub place : ip_of fl p w i.context i.inlet.part ≡ ip
    pub port : i.inlet.port ≡ r

  pub came_at : (f ip : ℕ) (r : Port) (i : Item) → Contains all_here i → is_at f ip r (to_of fl p w net.fired i i.inlet.part) ≡ true → CameAt f ip r i
  came_at f ip r i h a =
      let t = port_of fl p w net.fired i f ip r i.inlet.part a in let g = k.tracks.stands.known i h in
      let same : g.0 ≡ f = sym (ap or_zero g.1) ∙ t.frame in record {
        stands = h;
        context = (fits_in i h).is_context;
        part_here = t.there i.context (fits_in i h).there;
        frame = g.1 ∙ ap Some same;
        frame_is = t.frame;
        place = t.place;
        port = t.port;
      }

  -- all that a frame gets is of one context
  pub one_context : (f ip jp : ℕ) (r s : Port) (i j : Item) → CameAt f ip r i → CameAt f jp s j → i.context ≡ j.context
  one_context f ip jp r s i j a b = k.tracks.stands.apart i.context j.context f a.frame b.frame

  pub one_part : (f ip : ℕ) (r s : Port) (i j : Item) → CameAt f ip r i → CameAt f ip s j → i.inlet.part ≡ j.inlet.part
  one_part f ip r s i j a b =
      let c = one_context f ip ip r s i j a b in
      let e : ip_of fl p w j.context i.inlet.part ≡ ip_of fl p w j.context j.inlet.part = ap (λ (c : Context). ip_of fl p w c i.inlet.part) (sym c) ∙ a.place
      ∙ sym b.place in
      (laid j.context b.context).apart i.inlet.part j.inlet.part
      (subst (λ (c : Context). there_in fl (site_in fl w c) (wiring_in fl w c) i.inlet.part ≡ true) c a.part_here) b.part_here (omega (arith, e))

  pub from_met : (f ip : ℕ) (r : Port) (v : Word) → Contains (met q.events m) (token (To.Instr f ip r) v)
      → (i : Item) × CameAt f ip r i × (word_of fl p w net.fired i.word ≡ v)
  from_met f ip r v c =
      let ts = events_taken q.events ++ m.pool in
      let t = token (To.Instr f ip r) v in
      let i = contains_mapped (token_of fl p w net.fired) (only (λ (i : Item). not (is_in_cell i.inlet.part)) (came fl net)) t
      (Contains-permutation _ _ t k.tracks.met (keeps_token ts t c refl)) in (
        i.0,
        came_at f ip r i.0 (came_all fl net i.0 (only_contains (λ (i : Item). not (is_in_cell i.inlet.part)) (came fl net) i.0 i.1).0)
            (ap (λ (t : Token). is_at f ip r t.to) i.2 ∙ is_at_itself f ip r),
        ap (λ (t : Token). t.word) i.2,
      )

  pub from_pool : (f ip : ℕ) (r : Port) (v : Word) → Contains m.pool (token (To.Instr f ip r) v)
      → (i : Item) × Contains net.pending i × CameAt f ip r i × (word_of fl p w net.fired i.word ≡ v)
  from_pool f ip r v c =
      let t = token (To.Instr f ip r) v in
      let i = contains_mapped (token_of fl p w net.fired) net.pending t (Contains-permutation _ _ t k.tracks.stands.pool c) in (
        i.0,
        i.1,
        came_at f ip r i.0 (Contains-append_left net.pending (net.waiting ++ flat_map (takes fl) net.fired) i.0 i.1)
            (ap (λ (t : Token). is_at f ip r t.to) i.2 ∙ is_at_itself f ip r),
        ap (λ (t : Token). t.word) i.2,
      )

  -- what a firing took is among what came
  pub fired_fit : (h : Firing) → Contains net.fired h → AllFit fl w (takes fl h)
  fired_fit h c = all_from (λ (i : Item). Fits fl w (spot_of i)) (takes fl h) (λ i d. fits_in i
      (Contains-append_right net.pending (net.waiting ++ flat_map (takes fl) net.fired) i
      (Contains-append_right net.waiting (flat_map (takes fl) net.fired) i (taken_in fl net.fired h i c d))))

  -- A STRICT CALL'S ARGUMENT is not made again before the call fires
  gift_argument : (h : Firing) (i : Item) → Gift fl w h i → (n m : ℕ) → i.inlet.part ≡ Sender n m
      → (v : Value) × (i.context ≡ h.context) × Contains (renewed fl h h.part) (argument h.context n m 0 v)
  gift_argument h i (GArgument n m v e s c g) a b d = let same : Sender n m ≡ Sender a b = sym (ap (λ (i : Item). i.inlet.part) g) ∙ d in
      let x : n ≡ a = cc in let y : m ≡ b = cc in (
        v,
        ap (λ (i : Item). i.context) g,
        (subst (λ (l : ℕ). Contains (renewed fl h h.part) (argument h.context a l 0 v)) y
            (subst (λ (l : ℕ). Contains (renewed fl h h.part) (argument h.context l m 0 v)) x c)),
      )
  gift_argument h i (GHeld n e t g) a b d = let q = sym (ap (λ (i : Item). i.inlet.part) g) ∙ d in absurd (cc)
  gift_argument h i (GAsked n e g) a b d = let q = sym (ap (λ (i : Item). i.inlet.part) g) ∙ d in absurd (cc)
  gift_argument h i (GFanned n e g) a b d = let q = sym (ap (λ (i : Item). i.inlet.part) g) ∙ d in absurd (cc)
  gift_argument h i (GEntry n e g) a b d = let q = sym (ap (λ (i : Item). i.inlet.part) g) ∙ d in absurd (cc)
  gift_argument h i (GInput n t e g) a b d = let q = sym (ap (λ (i : Item). i.inlet.part) g) ∙ d in absurd (cc)
  gift_argument h i (GShown j e c g) a b d = let q = sym (ap (λ (i : Item). i.inlet.part) g) ∙ d in absurd (cc)
  gift_argument h i (GLanding c n j e x g) a b d = let q = sym (ap (λ (i : Item). i.inlet.part) g) ∙ d in absurd (cc)
  gift_argument h i (GLeaves c n t j e x g) a b d = let q = sym (ap (λ (i : Item). i.inlet.part) g) ∙ d in absurd (cc)
  gift_argument h i (GDrains c n t e x g) a b d = let q = sym (ap (λ (i : Item). i.inlet.part) g) ∙ d in absurd (cc)
  gift_argument h i (GFreed e g) a b d = let q = sym (ap (λ (i : Item). i.inlet.part) g) ∙ d in absurd (cc)
  gift_argument h i (GDone e x g) a b d = let q = sym (ap (λ (i : Item). i.inlet.part) g) ∙ d in absurd (cc)
  gift_argument h i (GCallDone c n e x g) a b d = let q = sym (ap (λ (i : Item). i.inlet.part) g) ∙ d in absurd (cc)
  gift_argument h i (GGiver c n t e x g) a b d = let q = sym (ap (λ (i : Item). i.inlet.part) g) ∙ d in absurd (cc)
  gift_argument h i (GTaker c n t e x g) a b d = let q = sym (ap (λ (i : Item). i.inlet.part) g) ∙ d in absurd (cc)
  gift_argument h i (GNextFramer n t e x g) a b d = let q = sym (ap (λ (i : Item). i.inlet.part) g) ∙ d in absurd (cc)
  gift_argument h i (GNextAsked e g) a b d = let q = sym (ap (λ (i : Item). i.inlet.part) g) ∙ d in absurd (cc)
  gift_argument h i (GNextFanned e g) a b d = let q = sym (ap (λ (i : Item). i.inlet.part) g) ∙ d in absurd (cc)
  gift_argument h i (GNextEntry c n t e x g) a b d = let q = sym (ap (λ (i : Item). i.inlet.part) g) ∙ d in absurd (cc)
  gift_argument h i (GNextInput c n t j e x g) a b d = let q = sym (ap (λ (i : Item). i.inlet.part) g) ∙ d in absurd (cc)
  gift_argument h i (GLoopDone n e g) a b d = let q = sym (ap (λ (i : Item). i.inlet.part) g) ∙ d in absurd (cc)

  renamed_once : (i j : Item) → Contains (came fl net) i → Contains all_here j → i.context ≡ j.context → (n l : ℕ) → i.inlet.part ≡ Sender n l
      → j.inlet.part ≡ Sender n l → i.inlet.port ≡ Right → i.inlet.way ≡ 0 → j.inlet.way ≡ 1 → ⊥
  renamed_once i j a b c n l d e port zero' one' = born (all_born fl w inputs net k.tracks.moves j b)
    where
      made : (h : Firing) → Contains net.fired h → MadeAt fl p w good h j → ⊥
      made h ch (ByWire s) = let t = sent_there fl p w good h j (fired_fit h ch) s in
          let o : wired_way j.inlet.part j.inlet.way ≡ (1 == 0) = (λ x. wired_way (e x) (one' x)) in true≢false (sym t.1 ∙ o)
      made h ch (ByGift g) =
          let x = gift_argument h j g n l e in
          let spot : spot_of i ≡ spot_of (argument h.context n l 0 x.0) =
          spot_is (spot_of i) (spot_of (argument h.context n l 0 x.0)) (c ∙ x.1) (inlet_is i.inlet (inlet (Sender n l) Right 0) d port zero') in
          let here = hit_counted (came fl net) i a in
          let there = hit_counted (flat_map (λ (f : Firing). renewed fl f f.part) net.fired) (argument h.context n l 0 x.0)
          (flat_contains (λ (f : Firing). renewed fl f f.part) net.fired h (argument h.context n l 0 x.0) ch x.2) in
          let both = subst (λ (y : Spot). 0 < hits_at y (flat_map (λ (f : Firing). renewed fl f f.part) net.fired)) (sym spot) there in
          let sum = came_split fl (λ (o : Item). one (same_spot (spot_of i) (spot_of o))) net in
          let few = once_all fl w inputs net k.sound (spot_of i) in
          omega (arith, here, both, sum, few)

      born : Contains (begins inputs) j ⊎ ((h : Firing) × Contains net.fired h × Contains (makes fl w h) j) → ⊥
      born (inl h) = first (begin_cases inputs j h)
        where
          first : Begins inputs j → ⊥
          first (AtEntry g) = let q = sym (ap (λ (i : Item). i.inlet.part) g) ∙ e in absurd (cc)
          first (AtInput x z y g) = let q = sym (ap (λ (i : Item). i.inlet.part) g) ∙ e in absurd (cc)
      born (inr (h, ch, mh)) = made h ch (made_at fl p w good h j (fired_fit h ch) mh)

  pub sender_one : (i j : Item) → Contains (came fl net) i → Contains (came fl net) j → i.context ≡ j.context → (n l : ℕ) → i.inlet.part ≡ Sender n l
      → j.inlet.part ≡ Sender n l → i.inlet.port ≡ j.inlet.port → i.inlet.way ≡ j.inlet.way
  sender_one i j x y c n l g h same =
      go j.inlet.port refl (is_strict_in fl j.context n) refl (way_at i (came_all fl net i x) j.context c (Sender n l) g)
      (way_at j (came_all fl net j y) j.context refl (Sender n l) h)
    where
      by_two : j.inlet.port ≡ Right → (nat_lt i.inlet.way 2 ≡ true) → (nat_lt j.inlet.way 2 ≡ true) → i.inlet.way ≡ j.inlet.way
      by_two right p q = pick (order i.inlet.way j.inlet.way) (ltb-true i.inlet.way 2 p) (ltb-true j.inlet.way 2 q)
        where
          pick : Order i.inlet.way j.inlet.way → i.inlet.way < 2 → j.inlet.way < 2 → i.inlet.way ≡ j.inlet.way
          pick (Same e) p q = e
          pick (Before z) p q = absurd (renamed_once i j x (came_all fl net j y) c n l g h (same ∙ right) (omega (arith, z, p, q)) (omega (arith, z, p, q)))
          pick (After z) p q = absurd (renamed_once j i y (came_all fl net i x) (sym c) n l h g right (omega (arith, z, p, q)) (omega (arith, z, p, q)))

      by_port : (s : Port) (t : Bool) → j.inlet.port ≡ s → sender_way t s i.inlet.way ≡ true → sender_way t s j.inlet.way ≡ true → i.inlet.way ≡ j.inlet.way
      by_port Left t z p q = eqb-true i.inlet.way 0 p ∙ sym (eqb-true j.inlet.way 0 q)
      by_port Right false z p q = eqb-true i.inlet.way 0 p ∙ sym (eqb-true j.inlet.way 0 q)
      by_port Right true z p q = by_two z p q

      go : (s : Port) → j.inlet.port ≡ s → (t : Bool) → is_strict_in fl j.context n ≡ t
          → sender_way (is_strict_in fl j.context n) i.inlet.port i.inlet.way ≡ true → sender_way (is_strict_in fl j.context n) j.inlet.port j.inlet.way ≡ true
          → i.inlet.way ≡ j.inlet.way
      go s z t u p q =
          by_port s t z (subst (λ (t : Bool). sender_way t s i.inlet.way ≡ true) u
          (subst (λ (s : Port). sender_way (is_strict_in fl j.context n) s i.inlet.way ≡ true) (same ∙ z) p))
          (subst (λ (t : Bool). sender_way t s j.inlet.way ≡ true) u (subst (λ (s : Port). sender_way (is_strict_in fl j.context n) s j.inlet.way ≡ true) z q))

  -- A port gets one token
  pub is_once : IsOnce fl p inputs q m
  is_once f ip r o =
      let test : Token → Bool = λ (t : Token). is_at f ip r t.to in
      let ts = events_taken q.events ++ m.pool in
      let kept = only (λ (i : Item). not (is_in_cell i.inlet.part)) (came fl net) in
      let here : Item → Bool = λ (i : Item). is_at f ip r (to_of fl p w net.fired i i.inlet.part) in
      let a = count_total test ts in let b = cells_apart test (no_cell_token f ip r) ts in
      let d = total-IsPermutation (λ (t : Token). one (test t)) (but_cells ts) (map (token_of fl p w net.fired) kept) k.tracks.met in
      let e = total-map (token_of fl p w net.fired) (λ (t : Token). one (test t)) kept in
      let g = only_total (λ (i : Item). not (is_in_cell i.inlet.part)) (λ (i : Item). one (here i)) (came fl net) in
      let last = one_passes here (came fl net) few (λ i j x y c d. meet i j x y c d) in
      omega (arith, a, b, d, e, g, last)
    where
      few : (x : Spot) → hits_at x (came fl net) ≤ 1
      few x = let a = came_total fl (λ (i : Item). one (same_spot x (spot_of i))) net in let b = once_all fl w inputs net k.sound x in omega (arith, a, b)

      -- the instruction of an item's part
      often_at : (i : Item) → CameAt f ip r i → often_op (op_of w.variant (site_in fl w i.context) i.inlet.part) ≡ false
      often_at i a =
          let h = (laid i.context a.context).here i.inlet.part a.part_here in
          let at = instr_here i.context a.context i.inlet.part a.part_here in
          ap often_op (sym h.2.op) ∙ ap often (sym at ∙ ap (instr_at p.program) a.place) ∙ o

      strays : (i j : Item) → Contains (came fl net) i → Contains (came fl net) j → CameAt f ip r i → CameAt f ip r j → i.context ≡ j.context → (s : Part)
          → i.inlet.part ≡ s → j.inlet.part ≡ s → Strays s i j
      strays i j x y a b c s d e = record {
        giver = λ n g. absurd (true≢false (ap (λ (s : Part). often_op (op_of w.variant (site_in fl w i.context) s)) (sym (d ∙ g)) ∙ often_at i a));
        taker = λ n g. absurd (true≢false (ap (λ (s : Part). often_op (op_of w.variant (site_in fl w i.context) s)) (sym (d ∙ g)) ∙ often_at i a));
        sender = λ n l g. sender_one i j x y c n l (d ∙ g) (e ∙ g) (a.port ∙ sym b.port);
      }

      meet : (i j : Item) → Contains (came fl net) i → Contains (came fl net) j → is_at f ip r (to_of fl p w net.fired i i.inlet.part) ≡ true
          → is_at f ip r (to_of fl p w net.fired j j.inlet.part) ≡ true → spot_of i ≡ spot_of j
      meet i j x y c d =
          let a = came_at f ip r i (came_all fl net i x) c in let b = came_at f ip r j (came_all fl net j y) d in
          let context = one_context f ip ip r r i j a b in let part = one_part f ip r r i j a b in
          one_spot i j (came_all fl net i x) (came_all fl net j y) context part (a.port ∙ sym b.port) (strays i j x y a b context j.inlet.part part refl)

  -- and all that a frame gets is for one block
  pub is_of_one_block : IsOfOneBlock fl p inputs q m
  is_of_one_block f ip jp r s v u c d =
      let i = from_met f ip r v c in let j = from_met f jp s u d in let a = i.1 in let b = j.1 in
      let e = one_context f ip jp r s i.0 j.0 a b in
      subst (λ (n : ℕ). same_block p.program.blocks n jp ≡ true) (ap (λ (c : Context). ip_of fl p w c i.0.inlet.part) (sym e) ∙ a.place)
      (subst (λ (n : ℕ). same_block p.program.blocks (ip_of fl p w j.0.context i.0.inlet.part) n ≡ true) b.place
      (block_same j.0.context b.context i.0.inlet.part j.0.inlet.part
      (subst (λ (c : Context). there_in fl (site_in fl w c) (wiring_in fl w c) i.0.inlet.part ≡ true) e a.part_here) b.part_here))

  -- What is no entry arrives along an arc that was used
  module _ (c : Context) (here : IsContext fl c) where
    entry_below : (r : Part) → IsHere c here r → is_entry p.program.blocks (ip_of fl p w c r) ≡ false → (places c here).place r < (code c here).inputs + 1 → ⊥
    entry_below r h e l =
        true≢false (sym (entry_in p.program.blocks (code_in fl w c) ((places c here).place r) (code c here) (code_there c here) (place_below c here r h) l) ∙ e)

    by_input : (n : ℕ) (t : Bool) → nat_lt n (block_in fl c).inputs ≡ t → IsHere c here (Line n) → is_entry p.program.blocks (ip_of fl p w c (Line n)) ≡ false
        → t ≡ false
    by_input n false l h e = refl
    by_input n true l h e =
        let b = ltb-true n (block_in fl c).inputs l in let at = (laid c here).entries n b in let ins = (laid c here).inputs in
        absurd (entry_below (Line n) h e (omega (arith, b, at, ins)))

    no_entry : (r : Part) → IsHere c here r → is_entry p.program.blocks (ip_of fl p w c r) ≡ false → is_entry_part (block_in fl c) r ≡ false
    no_entry Entry h e = let at = (laid c here).entry in absurd (entry_below Entry h e (omega (arith, at)))
    no_entry (Line n) h e = by_input n (nat_lt n (block_in fl c).inputs) refl h e
    no_entry r h e = refl

  pub is_caused : IsCaused fl p inputs q m
  is_caused f ip r v e c =
      let i = from_pool f ip r v c in let x = i.2 in
      let none = no_entry i.0.context x.context i.0.inlet.part x.part_here (ap (is_entry p.program.blocks) x.place ∙ e) in
      let used = k.tracks.caused i.0 i.1 (instr_there fl w i.0.context i.0.inlet.part x.part_here) none in
      subst (λ (g : ℕ). WasUsed p q.steps g ip r) x.frame_is
      (subst (λ (n : ℕ). WasUsed p q.steps (frame_of fl net.fired i.0.context) n r) x.place
      (subst (λ (s : Port). WasUsed p q.steps (frame_of fl net.fired i.0.context) (ip_of fl p w i.0.context i.0.inlet.part) s) x.port used))
