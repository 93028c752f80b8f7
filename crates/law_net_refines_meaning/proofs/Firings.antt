-- Each proper firing of a lawful net is some activities.
use Rattle.std.proofs.Common.{◌≡◌, ℕ, zero, suc, ◌+◌, ℤ, Bool, true, false, ◌&&◌, List, [], ◌∷◌, ◌++◌, flat_map, Some, nat_lt, ◌⊎◌, inl, inr, if◌then◌else◌}
use Rattle.std.proofs.Common.{refl, sym, ap, ◌∙◌, subst, arith, true≢false}
use Rattle.std.specs.Prelude.{All}
use Rattle.std.proofs.lemmas.Bool.{cases_Bool}
use Rattle.std.proofs.lemmas.List.Elements.{All-head, All-tail, All-weaker}
use Rattle.lemmas.proofs.Bools.{first_of_and, second_of_and}
use Rattle.tags.specs.declared.value.Value.{Value}
use Rattle.tags.specs.declared.token.Port.TheVariants.{Left, Right}
use Rattle.semantics.specs.Graph.{Block, Flow}
use Rattle.semantics.specs.Plan.{Plan}
use Rattle.semantics.specs.Cause.{is_turn}
use Rattle.semantics.specs.Meaning.{Context, block_of}
use Rattle.law_net.specs.ContextsParts.{Part, Entry, Line, Answer, Trigger, Gate, Merge, Opener, Framer, Fanned, Linker, Sender, Landing, CallDone, Giver}
use Rattle.law_net.specs.ContextsParts.{Taker, Drainer, LoopDone, Strict, Result, TurnCont, TurnFlag, TurnValue, Asker, NextFramer, NextFanned, NextSender}
use Rattle.law_net.specs.ContextsParts.{LastReturn, DrainReturn, Join, CondEnd, End, Asked, NextAsked, InCell, Drained, Shown, Done, Freed, inlet, Note, Datum}
use Rattle.law_net.specs.ContextsParts.{Item, item, Firing, spot_of}
use Rattle.law_net.specs.ContextsBlocks.{side, waits_in, is_kind, is_plain, is_cell, is_pair, is_store, is_strict, enter_kind, merge_kind}
use Rattle.law_net.specs.Contexts.{Wires, block_in, wiring_in, code_in, IsContext}
use Rattle.law_net.specs.ContextsWires.{Runs}
use Rattle.law_net.specs.ContextsFirings.{takes, makes, memory_of, along, back_from, value_in, left_item, right_way, renewed, request_of, given_back, IsProper}
use Rattle.law_net.specs.ContextsLaws.{Fits, spot_there, WordFits, Allowed}
use Rattle.law_net.specs.ContextsMeant.{meant}
use Rattle.law_net.specs.ContextsTheorem.{IsGood}
use Rattle.law_net_refines_meaning.specs.Firings.{AllIsMeant}
use Rattle.law_net_refines_meaning.proofs.FiringsActs.{Acts}
use Rattle.law_net_refines_meaning.proofs.FiringsNodes as Nodes
use Rattle.law_net_refines_meaning.proofs.FiringsControl as Control
use Rattle.law_net_refines_meaning.proofs.FiringsControl.{block_is}
use Rattle.law_net_refines_meaning.proofs.FiringsCalls as Calls
use Rattle.law_net_refines_meaning.proofs.FiringsCells as Cells
use Rattle.law_net_refines_meaning.proofs.FiringsSites.{CodeAt, code_at}

module _ (fl : Flow) (p : Plan) (w : Wires) (inputs : List ℤ) (good : IsGood fl p w) (f : Firing) (fired : List Firing) where
  abbrev c : Context
  c = f.context

  abbrev b : Block ℕ
  b = block_in fl f.context

  abbrev at : Part → Firing
  at r = record f { part = r }

  abbrev by : Part → Note → Note → Firing
  by r l k = record f { part = r; left = l; right = k }

  abbrev IsMeantBy : Part → Note → Note → Type 0
  IsMeantBy r l k =
      Acts fl f.context r (flat_map (meant fl) (takes fl (by r l k))) (memory_of fl fired) (flat_map (meant fl) (makes fl w (by r l k)))
      (memory_of fl (by r l k ∷ fired))

  -- of the firing itself
  abbrev IsPassed : Part → Type 0
  IsPassed r =
      Acts fl f.context r (flat_map (meant fl) (takes fl (at r))) (memory_of fl fired) (flat_map (meant fl) (makes fl w (at r)))
      (memory_of fl (at r ∷ fired))

  -- words that are values
  abbrev IsValue : Note → Type 0
  IsValue k = (v : Value) × (k ≡ Datum v)

  with_left : (r : Part) (k : Note) → IsValue f.left → ((v : Value) → IsMeantBy r (Datum v) k) → IsMeantBy r f.left k
  with_left r k (v, e) h = subst (λ (l : Note). IsMeantBy r l k) (sym e) (h v)

  with_right : (r : Part) (l : Note) → IsValue f.right → ((v : Value) → IsMeantBy r l (Datum v)) → IsMeantBy r l f.right
  with_right r l (v, e) h = subst (λ (k : Note). IsMeantBy r l k) (sym e) (h v)

  -- what is known of the items that a firing takes
  abbrev pub Fit : Item → Type 0
  Fit i = Fits fl w (spot_of i)

  fits : (items : List Item) → All (Allowed fl w inputs fired) items → All Fit items
  fits items all = All-weaker (Allowed fl w inputs fired) Fit (λ i a. a.fits) items all

  abbrev pub Word : Item → Type 0
  Word i = WordFits fl w i

  module _ (ctx : IsContext fl f.context) where
    code : CodeAt fl p w good.wired f.context
    code = code_at fl p w good.wired f.context ctx

    eb : block_of fl f.context ≡ Some (block_in fl f.context)
    eb = block_is fl f.context ctx

    abbrev Here : Context → Type 0
    Here = Runs fl w (code_in fl w f.context)

    here : Here f.context
    here = (ctx, refl)

    abbrev taken_by : ℕ → Value → Note → Bool → List Item
    taken_by n v k t = (item c (inlet (Line n) Left 0) (Datum v) ∷ (if t then item c (inlet (Line n) Right 0) k ∷ [] else [])) ++ []

    -- a node takes one operand or two
    line_meant : (n : ℕ) → is_plain b n ≡ true → is_cell b n ≡ false → IsValue f.left → ((t : Bool) → is_pair b n ≡ t → t ≡ true → IsValue f.right)
        → IsMeantBy (Line n) f.left f.right
    line_meant n plain cell left right = with_left (Line n) f.right left (λ v. by_pair v (is_pair b n) refl)
      where
        made_along : (l k : Note) (t : Bool) → is_cell b n ≡ t → t ≡ false → makes fl w (by (Line n) l k) ≡ along fl w (by (Line n) l k) (Line n) false
        made_along l k t e f =
            ap
            (λ (t : Bool). if t
            then record {
              context = c;
              inlet = inlet (InCell n) Left 0;
              word = back_from c ((wiring_in fl w c).wire (side (Line n) false));
              held = value_in l ∷ (if is_store b n then value_in k ∷ [] else []);
            } ∷ [] else along fl w (by (Line n) l k) (Line n) false) (e ∙ f)

        acts_by : (v : Value) (k : Note) (t : Bool) → is_pair b n ≡ t
            → Acts fl c (Line n) (flat_map (meant fl) (taken_by n v k t)) (memory_of fl fired) (flat_map (meant fl) (along fl w (by (Line n) (Datum v) k) (Line n) false))
            (memory_of fl fired) → IsMeantBy (Line n) (Datum v) k
        acts_by v k t e h =
            subst (λ (l : List Item). Acts fl c (Line n) (flat_map (meant fl) (takes fl (by (Line n) (Datum v) k))) (memory_of fl fired) (flat_map (meant fl) l)
            (memory_of fl fired)) (sym (made_along (Datum v) k (is_cell b n) refl cell))
            (subst (λ (t : Bool). Acts fl c (Line n) (flat_map (meant fl) (taken_by n v k t)) (memory_of fl fired)
            (flat_map (meant fl) (along fl w (by (Line n) (Datum v) k) (Line n) false)) (memory_of fl fired)) (sym e) h)

        by_pair : (v : Value) (t : Bool) → is_pair b n ≡ t → IsMeantBy (Line n) (Datum v) f.right
        by_pair v true e =
            with_right (Line n) (Datum v) (right true e refl)
            (λ u. acts_by v (Datum u) true e (Nodes.line_two fl p w good.operands c eb Here here code n v u (memory_of fl fired) plain cell e))
        by_pair v false e =
            acts_by v f.right false e (Nodes.line_one fl p w good.operands c eb Here here code n v (value_in f.right) (memory_of fl fired) plain cell e)

    gate_meant : (n : ℕ) → is_kind enter_kind b n ≡ true → IsValue f.left → IsValue f.right → IsMeantBy (Gate n) f.left f.right
    gate_meant n there left right =
        with_left (Gate n) f.right left (λ v. with_right (Gate n) (Datum v) right
        (λ u. Nodes.gate_acts fl p w good.operands c eb Here here code n v u (memory_of fl fired) there))

    merge_meant : (n : ℕ) → is_kind merge_kind b n ≡ true → IsValue f.left → IsMeantBy (Merge n) f.left f.right
    merge_meant n there left =
        with_left (Merge n) f.right left (λ v. Nodes.merge_acts fl p w good.operands c eb Here here code n f.way v (memory_of fl fired) there)

    abbrev Spot : Part → Type 0
    Spot r = spot_there fl w f.context r ≡ true

    abbrev Words : Part → Type 0
    Words r = All Word (takes fl (at r))

    -- the word of the first item, and of the second
    first_word : (i : Item) (items : List Item) → All Word (i ∷ items) → Word i
    first_word i items all = All-head Word i items all

    second_word : (i j : Item) (items : List Item) → All Word (i ∷ j ∷ items) → Word j
    second_word i j items all = All-head Word j items (All-tail Word i (j ∷ items) all)

    abbrev left_at : Part → ℕ → Item
    left_at r way = item c (inlet r Left way) f.left

    abbrev right_at : Part → ℕ → Item
    right_at r way = item c (inlet r Right way) f.right

    line_right : (n : ℕ) → Words (Line n) → (t : Bool) → is_pair b n ≡ t → t ≡ true → IsValue f.right
    line_right n words t e g =
        second_word (left_at (Line n) 0) (right_at (Line n) 0) []
        (subst (λ (t : Bool). All Word (left_at (Line n) 0 ∷ ((if t then right_at (Line n) 0 ∷ [] else []) ++ []))) (e ∙ g) words)

    -- what asks a cell, and what it answers
    line_or_cell : (n : ℕ) → Spot (Line n) → Words (Line n) → (is_cell b n ≡ true) ⊎ (is_cell b n ≡ false) → IsMeantBy (Line n) f.left f.right
    line_or_cell n there words (inr e) =
        line_meant n there e (first_word (left_at (Line n) 0) ((if is_pair b n then right_at (Line n) 0 ∷ [] else []) ++ []) words) (line_right n words)
    line_or_cell n there words (inl e) =
        with_left (Line n) f.right (first_word (left_at (Line n) 0) ((if is_pair b n then right_at (Line n) 0 ∷ [] else []) ++ []) words)
        (λ v. Cells.asks fl p w good.operands f fired ctx Here here code n v f.right e (λ g. line_right n words (is_pair b n) refl g))

    turn_from : (j : ℕ) → Spot (TurnValue j) → (h : ℕ) × (j ≡ h + 1)
    turn_from zero e =
        absurd (true≢false (sym (first_of_and false (nat_lt 0 (b.inputs + 1)) (second_of_and (is_turn f.context) (false && nat_lt 0 (b.inputs + 1)) e))))
    turn_from (suc h) e = (h, omega arith)

    turn_value_meant : (j h : ℕ) → j ≡ h + 1 → Spot (TurnValue j) → IsValue f.left → IsValue f.right → IsPassed (TurnValue j)
    turn_value_meant j h e there left right =
        subst (λ (j : ℕ). IsMeantBy (TurnValue j) f.left f.right) (sym e)
        (with_left (TurnValue (h + 1)) f.right left
        (λ v. with_right (TurnValue (h + 1)) (Datum v) right
        (λ u. Calls.turn_value fl p w good.operands f fired ctx Here here code h v u (subst (λ (j : ℕ). Spot (TurnValue j)) e there))))

    -- BY PARTS
    by_part : (r : Part) → Spot r → Words r → IsProper fl fired (at r) → IsPassed r
    by_part (Line n) there words proper = line_or_cell n there words (cases_Bool (is_cell b n))
    by_part (Gate n) there words proper =
        gate_meant n there (first_word (left_at (Gate n) 0) (right_at (Gate n) 0 ∷ []) words) (second_word (left_at (Gate n) 0) (right_at (Gate n) 0) [] words)
    by_part (Merge n) there words proper = merge_meant n there (first_word (left_at (Merge n) f.way) [] words)
    by_part (Answer n) there words proper =
        with_left (Answer n) f.right (first_word (left_at (Answer n) 0) [] words)
        (λ v. Cells.answer fl p w good.operands f fired ctx Here here code n v f.right there)
    by_part (Shown j) there words proper =
        with_left (Shown j) f.right (first_word (left_at (Shown j) 0) [] words)
        (λ v. Calls.shown fl p w good.operands f fired ctx Here here code j v f.right (first_of_and _ _ there))
    by_part (Landing n j) there words proper =
        with_left (Landing n j) f.right (first_word (left_at (Landing n j) f.way) [] words)
        (λ v. Calls.landing fl p w good.operands f fired ctx Here here code n j v f.right there)
    by_part (Sender n i) there words proper =
        with_right (Sender n i) f.left (second_word (left_at (Sender n i) 0) (right_at (Sender n i) (if is_strict b n then 1 else 0)) [] words)
        (λ v. Calls.sender fl p w good.operands f fired ctx Here here code n i f.left v there)
    by_part (Framer n) there words proper = Calls.framer fl p w good.operands f fired ctx Here here code n f.left f.right proper
    by_part (TurnValue j) there words proper =
        let k = turn_from j there in
        turn_value_meant j k.0 k.1 there (first_word (left_at (TurnValue j) 0) (right_at (TurnValue j) 0 ∷ []) words)
        (second_word (left_at (TurnValue j) 0) (right_at (TurnValue j) 0) [] words)
    by_part (InCell n) there words proper =
        Cells.held fl p w good.operands f fired ctx Here here code n f.left f.right there (All-head Word (request_of (at (InCell n))) [] words).1 proper
    by_part (Giver n) there words proper = absurd proper
    by_part (Drainer n) there words proper = absurd proper
    by_part Entry there words proper = Control.entry fl p w good.operands f fired ctx Here here code there
    by_part (Opener n) there words proper = Control.opener fl p w good.operands f fired ctx Here here code n there
    by_part (Fanned n) there words proper = Control.fanned fl p w good.operands f fired ctx Here here code n there
    by_part (CallDone n) there words proper = Control.call_done fl p w good.operands f fired ctx Here here code n there
    by_part (LoopDone n) there words proper = Control.loop_done fl p w good.operands f fired ctx Here here code n there
    by_part NextFanned there words proper = Control.next_fanned fl p w good.operands f fired ctx Here here code there
    by_part (CondEnd k) there words proper = Control.cond_end fl p w good.operands f fired ctx Here here code k there
    by_part (Linker n) there words proper = Control.linker fl p w good.operands f fired ctx Here here code n
    by_part (Taker n) there words proper = Control.taker fl p w good.operands f fired ctx Here here code n
    by_part NextFramer there words proper = Control.next_framer fl p w good.operands f fired ctx Here here code
    by_part (Asked n) there words proper = Control.asked fl p w good.operands f fired ctx Here here code n
    by_part NextAsked there words proper = Control.next_asked fl p w good.operands f fired ctx Here here code
    by_part Done there words proper = Control.is_done fl p w good.operands f fired ctx Here here code
    by_part Freed there words proper = Control.freed fl p w good.operands f fired ctx Here here code
    by_part (Drained n) there words proper = Control.drained fl p w good.operands f fired ctx Here here code n
    by_part (Join r i) there words proper = Control.join fl p w good.operands f fired ctx Here here code r i there
    by_part (Strict n i) there words proper = Control.strict fl p w good.operands f fired ctx Here here code n i there
    by_part (Trigger k) there words proper = Control.trigger fl p w good.operands f fired ctx Here here code k there
    by_part TurnCont there words proper = Control.turn_cont fl p w good.operands f fired ctx Here here code there
    by_part TurnFlag there words proper = Control.turn_flag fl p w good.operands f fired ctx Here here code there
    by_part Asker there words proper = Control.asker fl p w good.operands f fired ctx Here here code
    by_part End there words proper = Control.ended fl p w good.operands f fired ctx Here here code
    by_part DrainReturn there words proper = Control.drain_return fl p w good.operands f fired ctx Here here code there
    by_part (Result j) there words proper = Control.result fl p w good.operands f fired ctx Here here code j there
    by_part (LastReturn j) there words proper = Control.last_return fl p w good.operands f fired ctx Here here code j there
    by_part (NextSender j) there words proper = Control.next_sender fl p w good.operands f fired ctx Here here code j there

  -- WHERE IT IS: what a firing takes first lies at its part, except for the credits of a loop
  first_fits : (i : Item) (items : List Item) → All (Allowed fl w inputs fired) (i ∷ items) → Fit i
  first_fits i items all = (All-head (Allowed fl w inputs fired) i items all).fits

  abbrev pub first_part : Part → Part
  first_part (Drained n) = Drainer n
  first_part r = r

  pub first_at : (r : Part) → All (Allowed fl w inputs fired) (takes fl (at r)) → (i : Item) × Fit i × (i.context ≡ c) × (i.inlet.part ≡ first_part r)
  first_at (InCell n) all = (request_of (at (InCell n)), first_fits (request_of (at (InCell n))) [] all, refl, refl)
  first_at (Drained n) all = (
    item c (inlet (Drainer n) Left f.turns) f.left,
    first_fits (item c (inlet (Drainer n) Left f.turns) f.left) (given_back c n (f.turns + 1) ++ []) all,
    refl,
    refl,
  )
  first_at r all = (
    left_item c r f.way f.left,
    first_fits (left_item c r f.way f.left) ((if waits_in b r then item c (inlet r Right (right_way fl c r)) f.right ∷ [] else []) ++ renewed fl (at r) r) all,
    refl,
    refl,
  )

  pub context_of : All (Allowed fl w inputs fired) (takes fl f) → IsContext fl f.context
  context_of all = let k = first_at f.part all in subst (IsContext fl) k.2 k.1.is_context

  drained_meant : (ctx : IsContext fl f.context) (n : ℕ) → IsPassed (Drained n)
  drained_meant ctx n = Control.drained fl p w good.operands f fired ctx (Here ctx) (here ctx) (code ctx) n

  meant_at_part : (r : Part) → All (Allowed fl w inputs fired) (takes fl (at r)) → All Word (takes fl (at r)) → IsContext fl f.context
      → IsProper fl fired (at r)
      → IsPassed r
  meant_at_part (Drained n) all words ctx proper = drained_meant ctx n
  meant_at_part r all words ctx proper = by_part ctx r (at_spot (first_at r all)) words proper
    where
      at_spot : (k : (i : Item) × Fit i × (i.context ≡ c) × (i.inlet.part ≡ r)) → spot_there fl w f.context r ≡ true
      at_spot (i, fit, ec, er) = ap (spot_there fl w f.context) (sym er) ∙ ap (λ (d : Context). spot_there fl w d i.inlet.part) (sym ec) ∙ fit.there

  -- whose activities pass no other input than its own
  pub firing_passes : All (Allowed fl w inputs fired) (takes fl f) → All Word (takes fl f) → IsProper fl fired f
      → Acts fl f.context f.part (flat_map (meant fl) (takes fl f)) (memory_of fl fired) (flat_map (meant fl) (makes fl w f)) (memory_of fl (f ∷ fired))
  firing_passes all words proper = meant_at_part f.part all words (context_of all) proper

-- ALL FIRINGS
pub all_meant : AllIsMeant
all_meant group fl p w inputs f fired good fit all words proper e rest =
    let k = firing_passes fl p w inputs good f fired all words proper rest in (k.0, k.1)
