-- Switches of one mark take equal words: those of one conditional come from one firing.
use Rattle.std.proofs.Common.{◌≡◌, ℕ, ◌+◌, true, ℤ, List, refl, sym, ap, ◌∙◌, subst, inl, inr, ◌⊎◌, arith, Some}
use Rattle.std.specs.Prelude.{Contains}
use Rattle.tags.specs.declared.token.Port.{Port}
use Rattle.tags.specs.declared.token.Port.TheVariants.{Right}
use Rattle.semantics.specs.declared.graph.Region.{Region}
use Rattle.semantics.specs.declared.graph.Region.TheVariants.{Root, Arm}
use Rattle.semantics.specs.declared.program.Mark.{Mark}
use Rattle.semantics.specs.declared.program.Mark.TheVariants.{Unmarked, OfCond, OfFlag}
use Rattle.semantics.specs.Graph.{Block, Flow}
use Rattle.semantics.specs.Meaning.{Context}
use Rattle.semantics.specs.Plan.{Plan, mark_at}
use Rattle.semantics.specs.Program.{first_of}
use Rattle.semantics.specs.Machine.{Machine}
use Rattle.semantics.specs.Orderly.{IsMarked, same_block}
use Rattle.law_reuse.proofs.SlotsPlaced.{one_block}
use Rattle.law_net.specs.ContextsParts.{Part, Trigger, Gate, TurnCont, TurnFlag, TurnValue, Item, Firing, spot_of, role_of}
use Rattle.law_net.specs.ContextsBlocks.{mark_of, mark_round, lies_in, flag}
use Rattle.law_net.specs.Contexts.{Wires, block_in, code_in, wiring_in}
use Rattle.law_net.specs.ContextsWires.{predicate_at, cond_round}
use Rattle.law_net.specs.ContextsAround.{Choice}
use Rattle.law_net.specs.ContextsFirings.{Config, makes, begins, sent_word}
use Rattle.law_net.specs.ContextsLaws.{IsPredicate, source}
use Rattle.law_net.specs.ContextsMirror.{Past, word_of}
use Rattle.law_net.specs.ContextsTheorem.{IsGood}
use Rattle.law_net.specs.ContextsPackages.{InputsFit, Keeps, Agrees}
use Rattle.law_net.proofs.WiredWords.{begin_cases}
use Rattle.law_net.proofs.WiredFed.{made_at}
use Rattle.law_net.proofs.WiredEntered.{made_says, first_free}
use Rattle.law_net.proofs.WiredNets.{all_born}
use Rattle.law_net.proofs.RunsArrives.{net, all_here, fired_fit, code, code_there, laid, place_below, block_same, one_context, CameAt, from_met}

-- MARKS. A marked part takes its conditional's word on the right.
pub data Marked (b : Block ℕ) (r : Part) (k : Mark) : Type 0 where
  MarkedCond : (n : ℕ) → k ≡ OfCond n → predicate_at b r Right ≡ Some n → Marked b r k
  MarkedFlag : k ≡ OfFlag → predicate_at b r Right ≡ Some (flag b) → Marked b r k

pub marked : (b : Block ℕ) (r : Part) (k : Mark) → mark_of b r ≡ k → (k ≡ Unmarked → ⊥) → Marked b r k
marked b (Gate n) k e h = go (lies_in b n) refl
  where
    go : (g : Region) → lies_in b n ≡ g → Marked b (Gate n) k
    go Root d = absurd (h (sym e ∙ ap mark_round d))
    go (Arm c t) d = MarkedCond c (sym e ∙ ap mark_round d) (ap cond_round d)
marked b (Trigger n) k e h = MarkedCond n (sym e) refl
marked b TurnCont k e h = MarkedFlag (sym e) refl
marked b TurnFlag k e h = MarkedFlag (sym e) refl
marked b (TurnValue j) k e h = MarkedFlag (sym e) refl
marked b r k e h = absurd (h (sym e))

-- so two of one mark take that of one
pub one_cond : (b : Block ℕ) (r s : Part) (k : Mark) → Marked b r k → Marked b s k
    → (n : ℕ) × (predicate_at b r Right ≡ Some n) × (predicate_at b s Right ≡ Some n)
one_cond b r s k (MarkedCond n d e) (MarkedCond m g h) = let same : m ≡ n = cc in (n, e, h ∙ ap Some same)
one_cond b r s k (MarkedCond n d e) (MarkedFlag g h) = absurd (cc)
one_cond b r s k (MarkedFlag d e) (MarkedCond m g h) = absurd (cc)
one_cond b r s k (MarkedFlag d e) (MarkedFlag g h) = (flag b, e, h)

module _ (fl : Flow) (p : Plan) (w : Wires) (inputs : List ℤ) (q : Past) (m : Machine) (good : IsGood fl p w)
    (k : Keeps fl p w inputs q m) where
  abbrev here : Config
  here = net fl p w inputs q m good k

  abbrev items : List Item
  items = all_here fl p w inputs q m good k

  abbrev Came : ℕ → ℕ → Port → Item → Type 0
  Came f ip r i = CameAt fl p w inputs q m good k f ip r i

  -- a conditional's word is what its source sent
  said : InputsFit fl inputs → (i : Item) → Contains items i → (c : Choice) → IsPredicate fl (spot_of i) c
      → (h : Firing) × Contains here.fired h × (role_of h ≡ source fl w c) × (i.word ≡ sent_word fl h h.part)
  said fit i s c a = pick (all_born fl w inputs here k.tracks.moves i s)
    where
      pick : Contains (begins inputs) i ⊎ ((h : Firing) × Contains here.fired h × Contains (makes fl w h) i)
          → (h : Firing) × Contains here.fired h × (role_of h ≡ source fl w c) × (i.word ≡ sent_word fl h h.part)
      pick (inl d) = absurd ((first_free fl p w good inputs fit i (begin_cases inputs i d)).1 c a)
      pick (inr (h, d, e)) =
          let all = fired_fit fl p w inputs q m good k h d in
          let s = made_says fl p w good inputs h all i c (made_at fl p w good h i all e) a in (h, d, s.0, s.1)

  same_word : InputsFit fl inputs → (i j : Item) → Contains items i → Contains items j → (c : Choice) → IsPredicate fl (spot_of i) c
      → IsPredicate fl (spot_of j) c → i.word ≡ j.word
  same_word fit i j a b c x y =
      let f = said fit i a c x in let h = said fit j b c y in
      let same = k.sound.once f.0 h.0 f.1 h.1 (f.2 ∙ sym h.2) in
      f.3 ∙ ap (λ (f : Firing). sent_word fl f f.part) same ∙ sym h.3

  -- the mark of an item's part
  mark_here : (f ip : ℕ) (r : Port) (i : Item) → Came f ip r i → (c : Mark) → IsMarked p ip c → mark_of (block_in fl i.context) i.inlet.part ≡ c
  mark_here f ip r i x c (b, n, block, there, below, at, mark, none) =
      let d = i.context in let h = x.context in
      let part = i.inlet.part in let place = (wiring_in fl w d).place part in
      let low = place_below fl p w inputs q m good k d h part x.part_here in
      let own = block_same fl p w inputs q m good k d h part part x.part_here x.part_here in
      let ips : first_of p.program (code_in fl w d) + place ≡ first_of p.program b + n = x.place ∙ at in
      let one : code_in fl w d ≡ b = one_block p.program.blocks (code_in fl w d) b place n (code fl p w inputs q m good k d h) block
      (code_there fl p w inputs q m good k d h) there low below
      (subst (λ (jp : ℕ). same_block p.program.blocks (first_of p.program (code_in fl w d) + place) jp ≡ true) ips own) in
      let first = ap (first_of p.program) one in
      let same : place ≡ n = omega (arith, ips, first) in
      sym ((laid fl p w inputs q m good k d h).here part x.part_here).2.mark ∙ (λ t. mark_at p (one t) (same t)) ∙ mark

  -- the words of a mark
  pub agrees : InputsFit fl inputs → Agrees fl p inputs q m
  agrees fit f ip jp c v u mi mj same cv cu =
      let i = from_met fl p w inputs q m good k f ip Right v cv in let j = from_met fl p w inputs q m good k f jp Right u cu in
      let a = i.1 in let b = j.1 in
      let none = mi.7 in
      let e = one_context fl p w inputs q m good k f ip jp Right Right i.0 j.0 a b in
      let block = block_in fl i.0.context in
      let second = subst (λ (d : Context). mark_of (block_in fl d) j.0.inlet.part ≡ c) (sym e) (mark_here f jp Right j.0 b c mj) in
      let n = one_cond block i.0.inlet.part j.0.inlet.part c
      (marked block i.0.inlet.part c (mark_here f ip Right i.0 a c mi) none) (marked block j.0.inlet.part c second none) in
      let choice : Choice = record { context = i.0.context; cond = n.0 } in
      sym i.2 ∙ ap (word_of fl p w here.fired)
      (same_word fit i.0 j.0 a.stands b.stands choice (refl, at_right i.0 a n.0 i.0.context refl n.1) (sym e, at_right j.0 b n.0 i.0.context (sym e) n.2)) ∙ j.2
    where
      at_right : {f ip : ℕ} (i : Item) → Came f ip Right i → (n : ℕ) (c : Context) → i.context ≡ c → predicate_at (block_in fl c) i.inlet.part Right ≡ Some n
          → predicate_at (block_in fl i.context) i.inlet.part i.inlet.port ≡ Some n
      at_right i x n c e h = let port = x.port in (λ t. predicate_at (block_in fl (e t)) i.inlet.part (port t)) ∙ h
