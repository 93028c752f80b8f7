-- No token of the pool is excluded: what waits at its slot is of the other side, and words are of their kinds.
use Rattle.std.proofs.Common.{◌≡◌, ℕ, Bool, true, false, ℤ, List, [], ◌∷◌, ◌++◌, refl, sym, ap, ◌∙◌, subst, inl, inr, ◌⊎◌, arith, true≢false, eq-eqb, ne_eqb}
use Rattle.std.proofs.Common.{lt-ltb, le-ltb, ltb-true, ◌==◌, nat_lt, Option, Some, None, if◌then◌else◌}
use Rattle.std.specs.Prelude.{Contains, flat_map, slice_get}
use Rattle.std.proofs.lemmas.Bool.{cases_Bool, and_parts}
use Rattle.std.proofs.lemmas.List.Sorted.{Contains-permutation}
use Rattle.std.proofs.lemmas.List.Elements.{All-contains, Contains-append_left, Contains-append_right}
use Rattle.lemmas.proofs.Contains.{contains_head, contains_mapped, contains_tail}
use Rattle.tags.specs.declared.value.Value.{Value}
use Rattle.tags.specs.declared.token.Port.{Port}
use Rattle.tags.specs.declared.token.Port.TheVariants.{Left, Right}
use Rattle.tags.specs.declared.token.Word.{Word}
use Rattle.tags.specs.declared.token.To.{To}
use Rattle.tags.specs.declared.token.Token.{Token}
use Rattle.tags.specs.declared.slot.SlotState.{SlotState}
use Rattle.tags.specs.declared.slot.SlotState.TheVariants.{Empty}
use Rattle.semantics.specs.declared.program.Op.{Op}
use Rattle.semantics.specs.Graph.{Block, Flow}
use Rattle.semantics.specs.Meaning.{Context, Main, Called, Turned}
use Rattle.semantics.specs.Plan.{Plan}
use Rattle.semantics.specs.Program.{Instr}
use Rattle.semantics.specs.Rule.{Point, fires, fire_two, meets, outcome_of, rule_at, slot_of}
use Rattle.semantics.specs.Machine.{Machine, slot_in, slot_used, excluded_by, stuck_rule, outputs_of, results_in, filled, unless_value, unless_back}
use Rattle.law_net.proofs.ContextsWords.{carries_of}
use Rattle.law_net.specs.ContextsParts.{Part, Line, Opener, Asked, NextAsked, InCell, Drained, Shown, Done, Freed, Inlet, inlet, Note, Item, Firing}
use Rattle.law_net.specs.ContextsBlocks.{is_loop, is_store, waits_in, there_in, op_of}
use Rattle.law_net.specs.Contexts.{Wires, block_in, site_in, wiring_in, or_zero, IsContext}
use Rattle.law_net.specs.ContextsWires.{IsInstr, arrives_at, holds_own}
use Rattle.law_net.specs.ContextsFirings.{Config, own_takes, back_from, takes, frame_at, memory_of, remembered, stored_at, value_in, cell_of, second_of}
use Rattle.law_net.specs.ContextsLaws.{WordFits, Carries, spot_there, port_fits, is_main}
use Rattle.law_net.specs.ContextsMirror.{Past, frame_of, ip_of, word_of, to_of, token_of, cell_to, came, on_side, in_slot, only}
use Rattle.law_net.specs.ContextsTheorem.{IsGood}
use Rattle.law_net.specs.ContextsPackages.{Keeps, IsMatching}
use Rattle.law_net.proofs.WiredSends.{first_taken, takes_first, first_context}
use Rattle.law_net.proofs.WiredNets.{only_contains, not_twice, taken_in}
use Rattle.law_net.proofs.RunsArrives.{net, all_here, there_at, fits_in, one_spot, Strays, sender_one, code_there, laid, instr_here}
use Rattle.law_net.specs.Credits.{is_credit_part}
use Rattle.law_net.proofs.RunsFires.{two_fire, are_two, one_alone}

-- OUTPUTS not shown are not there
unshown : (fl : Flow) (j : ℕ) (fired : List Firing) → ((h : Firing) → Contains fired h → h.part ≡ Shown j → ⊥) → (memory_of fl fired).outputs j ≡ None
unshown fl j [] h = refl
unshown fl j (f ∷ fired) h = by_part f.part refl ∙ unshown fl j fired (λ g c. h g (contains_tail f fired g c))
  where
    stored : (x : Option ℕ) (v : Value) → (stored_at x v (memory_of fl fired)).outputs j ≡ (memory_of fl fired).outputs j
    stored None v = refl
    stored (Some x) v = refl

    held : (n : ℕ) (t : Bool) (x : Option ℕ) (v : Value)
        → (if t then stored_at x v (memory_of fl fired) else memory_of fl fired).outputs j ≡ (memory_of fl fired).outputs j
    held n true x v = stored x v
    held n false x v = refl

    by_part : (r : Part) → f.part ≡ r → (remembered fl f r (memory_of fl fired)).outputs j ≡ (memory_of fl fired).outputs j
    by_part (InCell n) e = held n (is_store (block_in fl f.context) n) (cell_of fl f.context n f.operands) (second_of f.operands)
    by_part (Shown k) e =
        ap (λ (t : Bool). if t then Some (value_in f.left) else (memory_of fl fired).outputs j) (ne_eqb k j (λ g. h f (contains_head f fired) (e ∙ ap Shown g)))
    by_part r e = refl

-- a part where two words meet is an instruction's
pub wait_there : (fl : Flow) (w : Wires) (c : Context) (r : Part) → waits_in (block_in fl c) r ≡ true → spot_there fl w c r ≡ true
    → there_in fl (site_in fl w c) (wiring_in fl w c) r ≡ true
wait_there fl w c (Asked n) e h = absurd (true≢false (sym e))
wait_there fl w c NextAsked e h = absurd (true≢false (sym e))
wait_there fl w c (InCell n) e h = absurd (true≢false (sym e))
wait_there fl w c (Shown j) e h = absurd (true≢false (sym e))
wait_there fl w c Done e h = absurd (true≢false (sym e))
wait_there fl w c Freed e h = absurd (true≢false (sym e))
wait_there fl w c r e h = h

pub wait_holds : (b : Block ℕ) (r : Part) → waits_in b r ≡ true → holds_own b r ≡ true
wait_holds b (Opener n) e = refl
wait_holds b r e = e

module _ (fl : Flow) (p : Plan) (w : Wires) (inputs : List ℤ) (q : Past) (m : Machine) (good : IsGood fl p w)
    (k : Keeps fl p w inputs q m) where
  abbrev here : Config
  here = net fl p w inputs q m good k

  abbrev fired : List Firing
  fired = here.fired

  abbrev all : List Item
  all = all_here fl p w inputs q m good k

  pub pending_in : (i : Item) → Contains here.pending i → Contains all i
  pending_in i c = Contains-append_left here.pending (here.waiting ++ flat_map (takes fl) fired) i c

  pub waiting_in : (i : Item) → Contains here.waiting i → Contains all i
  waiting_in i c =
      Contains-append_right here.pending (here.waiting ++ flat_map (takes fl) fired) i (Contains-append_left here.waiting (flat_map (takes fl) fired) i c)

  taken_all : (i : Item) → Contains (flat_map (takes fl) fired) i → Contains all i
  taken_all i c =
      Contains-append_right here.pending (here.waiting ++ flat_map (takes fl) fired) i (Contains-append_right here.waiting (flat_map (takes fl) fired) i c)

  pending_came : (i : Item) → Contains here.pending i → Contains (came fl here) i
  pending_came i c = Contains-append_left here.pending (here.waiting ++ flat_map (λ (f : Firing). own_takes fl f f.part) fired) i c

  waiting_came : (i : Item) → Contains here.waiting i → Contains (came fl here) i
  waiting_came i c =
      Contains-append_right here.pending (here.waiting ++ flat_map (λ (f : Firing). own_takes fl f f.part) fired) i
      (Contains-append_left here.waiting (flat_map (λ (f : Firing). own_takes fl f f.part) fired) i c)

  context_at : (i : Item) → Contains all i → IsContext fl i.context
  context_at i h = (fits_in fl p w inputs q m good k i h).is_context

  pub word_at : (i : Item) → Contains all i → (c : Context) → i.context ≡ c → (r : Part) → i.inlet.part ≡ r → (x : Port) → i.inlet.port ≡ x
      → Carries fl w c i.inlet.way (arrives_at r x) i.word
  word_at i h c a r e x g =
      subst (λ (x : Port). Carries fl w c i.inlet.way (arrives_at r x) i.word) g
      (subst (λ (r : Part). Carries fl w c i.inlet.way (arrives_at r i.inlet.port) i.word) e
      (subst (λ (d : Context). Carries fl w d i.inlet.way (arrives_at i.inlet.part i.inlet.port) i.word) a
      (carries_of fl w i (All-contains (WordFits fl w) all i k.fits h))))

  left_only : (i : Item) → Contains all i → (c : Context) → i.context ≡ c → (r : Part) → i.inlet.part ≡ r → waits_in (block_in fl c) r ≡ false
      → i.inlet.port ≡ Left
  left_only i h c a r e n =
      go i.inlet.port refl (subst (λ (d : Context). port_fits fl d r i.inlet.port ≡ true) a
      (subst (λ (r : Part). port_fits fl i.context r i.inlet.port ≡ true) e (fits_in fl p w inputs q m good k i h).port))
    where
      go : (x : Port) → i.inlet.port ≡ x → port_fits fl c r x ≡ true → i.inlet.port ≡ Left
      go Left g t = g
      go Right g t = absurd (true≢false (sym t ∙ n))

  -- a part of which an item is on its way, and whose inlet gets only one item, has not fired
  abbrev is_single : Part → Bool
  is_single (Shown j) = true
  is_single Done = true
  is_single Freed = true
  is_single r = false

  gone : (i : Item) → Contains here.pending i → (r : Part) → i.inlet.part ≡ r → is_single r ≡ true → (h : Firing) → Contains fired h → h.context ≡ i.context
      → h.part ≡ r → ⊥
  gone i c r e s h d a g =
      let j = first_taken fl w h h.part in
      let came = taken_in fl fired h j d (takes_first fl w h) in
      let x = first_single h r g s in
      not_twice fl w inputs here k.sound i j c (Contains-append_right here.waiting (flat_map (takes fl) fired) j came)
      (one_spot fl p w inputs q m good k i j (pending_in i c) (taken_all j came) (sym a ∙ sym (first_context fl w h h.part))
      (e ∙ sym (ap (λ (x : Inlet). x.part) x))
      (left_only i (pending_in i c) i.context refl r e (single_alone r s) ∙ sym (ap (λ (x : Inlet). x.port) x))
      (single_strays j (ap (λ (x : Inlet). x.part) x)))
    where
      first_single : (h : Firing) (r : Part) → h.part ≡ r → is_single r ≡ true → (first_taken fl w h h.part).inlet ≡ inlet r Left 0
      first_single h r g s = ap (λ (r : Part). (first_taken fl w h r).inlet) g ∙ go r s
        where
          go : (r : Part) → is_single r ≡ true → (first_taken fl w h r).inlet ≡ inlet r Left 0
          go (Shown j) s = refl
          go Done s = refl
          go Freed s = refl
          go r s = absurd (true≢false (sym s))

      single_alone : (r : Part) → is_single r ≡ true → waits_in (block_in fl i.context) r ≡ false
      single_alone (Shown j) s = refl
      single_alone Done s = refl
      single_alone Freed s = refl
      single_alone r s = absurd (true≢false (sym s))

      single_strays : (j : Item) → j.inlet.part ≡ r → Strays fl p w inputs q m good k j.inlet.part i j
      single_strays j e = record {
        giver = λ n g. absurd (true≢false (sym s ∙ ap is_single (sym e ∙ g)));
        taker = λ n g. absurd (true≢false (sym s ∙ ap is_single (sym e ∙ g)));
        sender = λ n l g. absurd (true≢false (sym s ∙ ap is_single (sym e ∙ g)));
      }

  -- SLOTS
  module _ (c : Context) (con : IsContext fl c) (g : ℕ) (at : frame_at fl fired c ≡ Some g) where
    abbrev place : Part → ℕ
    place r = (wiring_in fl w c).place r

    abbrev slot : Part → ℕ
    slot r = (wiring_in fl w c).slot r

    abbrev There : Part → Type 0
    There r = there_in fl (site_in fl w c) (wiring_in fl w c) r ≡ true

    frame_is : frame_of fl fired c ≡ g
    frame_is = ap or_zero at

    pub data SlotOf (r : Part) (s : SlotState) : Type 0 where
      NoneThere : s ≡ Empty → SlotOf r s
      OneThere : (j : Item) → Contains here.waiting j → j.context ≡ c → j.inlet.part ≡ r → s ≡ on_side j.inlet.port (word_of fl p w fired j.word) → SlotOf r s

    -- what is in the slot of a part where two words meet
    slot_here : (r : Part) → There r → waits_in (block_in fl c) r ≡ true → SlotOf r (m.store.slots g (slot r))
    slot_here r h e = pick (k.tracks.stands.slots.empty g (slot r))
      where
        no_base : k.tracks.stands.base g (slot r) ≡ Empty
        no_base = go (k.tracks.stands.others g (slot r))
          where
            not_open : (n : ℕ) → is_loop (block_in fl c) n ≡ true → slot (Opener n) ≡ slot r → ⊥
            not_open n l same =
                let part : Opener n ≡ r = (laid fl p w inputs q m good k c con).holders (Opener n) r l h refl (wait_holds (block_in fl c) r e) same in
                true≢false (sym e ∙ ap (waits_in (block_in fl c)) (sym part))

            go : (k.tracks.stands.base g (slot r) ≡ Empty)
                ⊎ ((d : Context) × (n : ℕ) × IsContext fl d × (is_loop (block_in fl d) n ≡ true) × (frame_at fl fired d ≡ Some g)
                × ((wiring_in fl w d).slot (Opener n) ≡ slot r)) → k.tracks.stands.base g (slot r) ≡ Empty
            go (inl x) = x
            go (inr (d, n, a, l, f, same)) =
                let one = k.tracks.stands.apart d c g f at in
                absurd (not_open n (subst (λ (d : Context). is_loop (block_in fl d) n ≡ true) one l)
                (subst (λ (d : Context). (wiring_in fl w d).slot (Opener n) ≡ slot r) one same))

        at_item : (j : Item) → Contains (only (in_slot fl) here.waiting) j → frame_of fl fired j.context ≡ g
            → (wiring_in fl w j.context).slot j.inlet.part ≡ slot r → SlotOf r (m.store.slots g (slot r))
        at_item j x f y =
            let o = only_contains (in_slot fl) here.waiting j x in
            let stands = waiting_in j o.0 in
            let known = k.tracks.stands.known j stands in
            let frame : known.0 ≡ g = sym (ap or_zero known.1) ∙ f in
            let one = k.tracks.stands.apart j.context c g (known.1 ∙ ap Some frame) at in
            let two : waits_in (block_in fl c) j.inlet.part ≡ true = subst (λ (d : Context). waits_in (block_in fl d) j.inlet.part ≡ true) one o.1 in
            let there = wait_there fl w c j.inlet.part two (there_at fl p w inputs q m good k j stands c one j.inlet.part refl) in
            let same = subst (λ (d : Context). (wiring_in fl w d).slot j.inlet.part ≡ slot r) one y in
            let part = (laid fl p w inputs q m good k c con).holders j.inlet.part r there h (wait_holds (block_in fl c) j.inlet.part two)
            (wait_holds (block_in fl c) r e) same in
            OneThere j o.0 one part (let a = sym f in let b = sym y in (λ t. m.store.slots (a t) (b t)) ∙ k.tracks.stands.slots.waits j x)

        pick : (m.store.slots g (slot r) ≡ k.tracks.stands.base g (slot r))
            ⊎ ((j : Item) × Contains (only (in_slot fl) here.waiting) j × (frame_of fl fired j.context ≡ g)
            × ((wiring_in fl w j.context).slot j.inlet.part ≡ slot r)) → SlotOf r (m.store.slots g (slot r))
        pick (inl x) = NoneThere (x ∙ no_base)
        pick (inr (j, x, a, d)) = at_item j x a d

    -- INSTRUCTIONS take what is on its way
    module _ (i : Item) (pending : Contains here.pending i) (ic : i.context ≡ c) (r : Part) (e : i.inlet.part ≡ r) (h : There r)
        (free : is_credit_part r ≡ false) where
      abbrev instr : Instr
      instr = ((laid fl p w inputs q m good k c con).here r h).0

      instr_is : IsInstr fl p w.variant (site_in fl w c) (wiring_in fl w c) r instr
      instr_is = ((laid fl p w inputs q m good k c con).here r h).2

      abbrev point : Point
      point = record { frame = g; ip = ip_of fl p w c r }

      abbrev op : Op
      op = op_of w.variant (site_in fl w c) r

      abbrev words : Note → Word
      words x = word_of fl p w fired x

      stands : Contains all i
      stands = pending_in i pending

      at_instr : (x : Port) (v : Word) → stuck_rule p.program m.store (To.Instr g (ip_of fl p w c r) x) v
          ≡ excluded_by (outcome_of p.program point instr op (slot_in m.store g (slot_of instr op)) x v)
      at_instr x v =
          ap (λ (o : Option Instr). excluded_by (rule_at p.program point o (slot_in m.store g (slot_used o)) x v))
          (instr_here fl p w inputs q m good k c con r h)
          ∙ ap (λ (o : Op). excluded_by (outcome_of p.program point instr o (slot_in m.store g (slot_of instr o)) x v)) instr_is.op

      alone_free : waits_in (block_in fl c) r ≡ false → stuck_rule p.program m.store (To.Instr g (ip_of fl p w c r) i.inlet.port) (words i.word) ≡ None
      alone_free n =
          let left = left_only i stands c ic r e n in
          ap (λ (x : Port). stuck_rule p.program m.store (To.Instr g (ip_of fl p w c r) x) (words i.word)) left ∙ at_instr Left (words i.word)
          ∙ one_alone fl p w fired point instr c r h free n i.inlet.way i.word (word_at i stands c ic r e Left left)
          (slot_in m.store g (slot_of instr op)) instr_is.op

      -- the first word of two
      meets_empty : (x : Port) (v : Word) → excluded_by (meets p.program point instr Empty x v) ≡ None
      meets_empty Left v = refl
      meets_empty Right v = refl

      two_free : waits_in (block_in fl c) r ≡ true → stuck_rule p.program m.store (To.Instr g (ip_of fl p w c r) i.inlet.port) (words i.word) ≡ None
      two_free n =
          let two = are_two fl p w fired point instr c r n in
          at_instr i.inlet.port (words i.word)
          ∙ ap (λ (o : Option ℕ). excluded_by (outcome_of p.program point instr op (slot_in m.store g o) i.inlet.port (words i.word)))
          (two.0 ∙ ap Some instr_is.slot)
          ∙ ap excluded_by (two.1 (m.store.slots g (slot r)) i.inlet.port (words i.word))
          ∙ by_slot (m.store.slots g (slot r)) (slot_here r h n)
        where
          fires_now : (l u : Note) (a d : ℕ) → Carries fl w c a (arrives_at r Left) l → Carries fl w c d (arrives_at r Right) u
              → excluded_by (fires Empty (fire_two p.program point instr instr.op (words l) (words u))) ≡ None
          fires_now l u a d x y =
              ap (λ (o : Op). excluded_by (fires Empty (fire_two p.program point instr o (words l) (words u)))) instr_is.op
              ∙ two_fire fl p w fired point instr c r n a d l u x y

          strays : (j : Item) → Contains here.waiting j → j.context ≡ c → j.inlet.part ≡ r → i.inlet.port ≡ j.inlet.port
              → Strays fl p w inputs q m good k j.inlet.part i j
          strays j d jc g x = record {
            giver = λ l y. absurd (true≢false (sym n ∙ ap (waits_in (block_in fl c)) (sym g ∙ y)));
            taker = λ l y. absurd (true≢false (sym n ∙ ap (waits_in (block_in fl c)) (sym g ∙ y)));
            sender = λ l o y. sender_one fl p w inputs q m good k i j (pending_came i pending) (waiting_came j d) (ic ∙ sym jc) l o (e ∙ sym g ∙ y) y x;
          }

          same_port : (j : Item) → Contains here.waiting j → j.context ≡ c → j.inlet.part ≡ r → i.inlet.port ≡ j.inlet.port → ⊥
          same_port j d jc g x = not_twice fl w inputs here k.sound i j pending (Contains-append_left here.waiting (flat_map (takes fl) fired) j d)
              (one_spot fl p w inputs q m good k i j stands (waiting_in j d) (ic ∙ sym jc) (e ∙ sym g) x (strays j d jc g x))

          by_ports : (j : Item) → Contains here.waiting j → j.context ≡ c → j.inlet.part ≡ r → (x y : Port) → i.inlet.port ≡ x → j.inlet.port ≡ y
              → excluded_by (meets p.program point instr (on_side y (words j.word)) x (words i.word)) ≡ None
          by_ports j d jc g Left Left a b = absurd (same_port j d jc g (a ∙ sym b))
          by_ports j d jc g Right Right a b = absurd (same_port j d jc g (a ∙ sym b))
          by_ports j d jc g Left Right a b =
              fires_now i.word j.word i.inlet.way j.inlet.way (word_at i stands c ic r e Left a) (word_at j (waiting_in j d) c jc r g Right b)
          by_ports j d jc g Right Left a b =
              fires_now j.word i.word j.inlet.way i.inlet.way (word_at j (waiting_in j d) c jc r g Left b) (word_at i stands c ic r e Right a)

          by_slot : (s : SlotState) → SlotOf r s → excluded_by (meets p.program point instr s i.inlet.port (words i.word)) ≡ None
          by_slot s (NoneThere x) =
              ap (λ (s : SlotState). excluded_by (meets p.program point instr s i.inlet.port (words i.word))) x ∙ meets_empty i.inlet.port (words i.word)
          by_slot s (OneThere j d jc y x) =
              ap (λ (s : SlotState). excluded_by (meets p.program point instr s i.inlet.port (words i.word))) x
              ∙ by_ports j d jc y i.inlet.port j.inlet.port refl refl

      instr_free : stuck_rule p.program m.store (To.Instr g (ip_of fl p w c r) i.inlet.port) (words i.word) ≡ None
      instr_free = pick (cases_Bool (waits_in (block_in fl c) r))
        where
          pick : (waits_in (block_in fl c) r ≡ true) ⊎ (waits_in (block_in fl c) r ≡ false)
              → stuck_rule p.program m.store (To.Instr g (ip_of fl p w c r) i.inlet.port) (words i.word) ≡ None
          pick (inl n) = two_free n
          pick (inr n) = alone_free n

  -- THE HOST, CELLS, AND FRAMES
  abbrev stuck_if : Bool → ℕ → Option ℕ
  stuck_if t n = if t then Some n else None

  abbrev free_if : Bool → ℕ → Option ℕ
  free_if t n = if t then None else Some n

  results_are : outputs_of p.program ≡ (block_in fl Main).outputs
  results_are =
      ap (λ (n : ℕ). results_in (slice_get p.program.blocks n)) good.wired.main ∙ ap results_in (code_there fl p w inputs q m good k Main good.main)
      ∙ (laid fl p w inputs q m good k Main good.main).outputs

  main_only : (i : Item) → Contains all i → (r : Part) → i.inlet.part ≡ r → ((c : Context) → spot_there fl w c r ≡ true → is_main c ≡ true) → i.context ≡ Main
  main_only i h r e only = go i.context refl (only i.context (there_at fl p w inputs q m good k i h i.context refl r e))
    where
      go : (c : Context) → i.context ≡ c → is_main c ≡ true → i.context ≡ Main
      go Main g t = g
      go (Called d n) g t = absurd (true≢false (sym t))
      go (Turned d n u) g t = absurd (true≢false (sym t))

  shown_free : (i : Item) → Contains here.pending i → (j : ℕ) → i.inlet.part ≡ Shown j
      → stuck_rule p.program m.store (To.Host j) (word_of fl p w fired i.word) ≡ None
  shown_free i c j e =
      let stands = pending_in i c in
      let main = main_only i stands (Shown j) e (λ d h. (and_parts (is_main d) (nat_lt j (block_in fl d).outputs) h).0) in
      let there : spot_there fl w Main (Shown j) ≡ true = there_at fl p w inputs q m good k i stands Main main (Shown j) e in
      let low = ltb-true j (block_in fl Main).outputs there in
      let none = k.tracks.stands.seen.outputs j ∙ unshown fl j fired (λ h d g. gone i c (Shown j) e refl h d (shown_main h d j g ∙ sym main) g) in
      let left = left_only i stands Main main (Shown j) e refl in
      let value = word_at i stands Main main (Shown j) e Left left in
      let same = results_are in
      ap (λ (t : Bool). if t then (if filled (m.store.outputs j) then Some 6 else unless_value (word_of fl p w fired i.word)) else if j == outputs_of p.program
      then (if m.store.done then Some 6 else None) else Some 6)
      (lt-ltb j (outputs_of p.program) (omega (arith, low, same)))
      ∙ ap (λ (o : Option Value). if filled o then Some 6 else unless_value (word_of fl p w fired i.word)) none
      ∙ ap (λ (x : Note). unless_value (word_of fl p w fired x)) value.1
    where
      -- what is shown is shown in main
      shown_main : (h : Firing) → Contains fired h → (j : ℕ) → h.part ≡ Shown j → h.context ≡ Main
      shown_main h d j g =
          let o = first_taken fl w h h.part in
          let stands = taken_all o (taken_in fl fired h o d (takes_first fl w h)) in
          sym (first_context fl w h h.part) ∙ main_only o stands (Shown j) (ap (λ (r : Part). (first_taken fl w h r).inlet.part) g)
          (λ d h. (and_parts (is_main d) (nat_lt j (block_in fl d).outputs) h).0)

  done_free : (i : Item) → Contains here.pending i → i.inlet.part ≡ Done
      → stuck_rule p.program m.store (To.Host (outputs_of p.program)) (word_of fl p w fired i.word) ≡ None
  done_free i c e =
      let results = outputs_of p.program in
      ap (λ (t : Bool). if t then (if filled (m.store.outputs results) then Some 6 else unless_value (word_of fl p w fired i.word)) else if results == results
      then (if m.store.done then Some 6 else None) else Some 6)
      (le-ltb results results (omega arith))
      ∙ ap (λ (t : Bool). if t then (if m.store.done then Some 6 else None) else Some 6) (eq-eqb results results refl)
      ∙ by_mark m.store.done refl
    where
      by_mark : (t : Bool) → m.store.done ≡ t → stuck_if m.store.done 6 ≡ None
      by_mark false g = ap (λ (t : Bool). stuck_if t 6) g
      by_mark true g =
          let h = k.tracks.stands.done.0 g in absurd (gone i c Done e refl h.0 h.1 (h.2 ∙ sym (main_only i (pending_in i c) Done e (λ d t. t))) h.3)

  freed_free : (i : Item) → Contains here.pending i → i.inlet.part ≡ Freed
      → stuck_rule p.program m.store (To.Release (frame_of fl fired i.context)) (word_of fl p w fired i.word) ≡ None
  freed_free i c e = by_out (m.store.out (frame_of fl fired i.context)) refl
    where
      known : (g : ℕ) × (frame_at fl fired i.context ≡ Some g)
      known = k.tracks.stands.known i (pending_in i c)

      by_out : (t : Bool) → m.store.out (frame_of fl fired i.context) ≡ t → free_if (m.store.out (frame_of fl fired i.context)) 5 ≡ None
      by_out true g = ap (λ (t : Bool). free_if t 5) g
      by_out false g =
          let h = (k.tracks.stands.out i.context known.0 known.1).0 (ap m.store.out (sym (ap or_zero known.1)) ∙ g) in
          absurd (gone i c Freed e refl h.0 h.1 h.2 h.3)

  -- a request is a continuation
  back_free : (c : Context) (xs : List Inlet) → unless_back (word_of fl p w fired (back_from c xs)) ≡ None
  back_free c [] = refl
  back_free c (x ∷ xs) = refl

  cell_free : (x : Option ℕ) (store : Bool) (v : Value) (word : Word) → unless_back word ≡ None → (y : ℕ) → x ≡ Some y
      → stuck_rule p.program m.store (cell_to x store v) word ≡ None
  cell_free None store v word h y e = absurd (cc)
  cell_free (Some x) true v word h y e = h
  cell_free (Some x) false v word h y e = h

  -- EACH TOKEN, except those of credits
  abbrev IsFree : Item → Part → Type 0
  IsFree i r = stuck_rule p.program m.store (to_of fl p w fired i r) (word_of fl p w fired i.word) ≡ None

  at_place : (i : Item) → Contains here.pending i → (r : Part) → i.inlet.part ≡ r → there_in fl (site_in fl w i.context) (wiring_in fl w i.context) r ≡ true
      → is_credit_part r ≡ false
      → stuck_rule p.program m.store (To.Instr (frame_of fl fired i.context) (ip_of fl p w i.context r) i.inlet.port) (word_of fl p w fired i.word) ≡ None
  at_place i c r e h u =
      let g = k.tracks.stands.known i (pending_in i c) in
      ap (λ (f : ℕ). stuck_rule p.program m.store (To.Instr f (ip_of fl p w i.context r) i.inlet.port) (word_of fl p w fired i.word)) (ap or_zero g.1)
      ∙ instr_free i.context (context_at i (pending_in i c)) g.0 g.1 i c refl r e h u

  pub each_free : (i : Item) → Contains here.pending i → (r : Part) → i.inlet.part ≡ r → spot_there fl w i.context r ≡ true → is_credit_part r ≡ false
      → IsFree i r
  each_free i c (Asked n) e h u =
      let word = word_at i (pending_in i c) i.context refl (Asked n) e Left (left_only i (pending_in i c) i.context refl (Asked n) e refl) in
      ap (λ (x : Note). unless_back (word_of fl p w fired x)) word
  each_free i c NextAsked e h u =
      let word = word_at i (pending_in i c) i.context refl NextAsked e Left (left_only i (pending_in i c) i.context refl NextAsked e refl) in
      ap (λ (x : Note). unless_back (word_of fl p w fired x)) word
  each_free i c (InCell n) e h u =
      let word = word_at i (pending_in i c) i.context refl (InCell n) e Left (left_only i (pending_in i c) i.context refl (InCell n) e refl) in
      let x = k.tracks.stands.good i n (Contains-append_left here.pending here.waiting i c) e in
      cell_free (cell_of fl i.context n i.held) (is_store (block_in fl i.context) n) (second_of i.held) (word_of fl p w fired i.word)
      (ap (λ (x : Note). unless_back (word_of fl p w fired x)) word
      ∙ back_free i.context ((wiring_in fl w i.context).wire (record { part = Line n; second = false }))) x.0 x.1
  each_free i c (Drained n) e h u = absurd (true≢false (sym h))
  each_free i c (Shown j) e h u = shown_free i c j e
  each_free i c Done e h u = done_free i c e
  each_free i c Freed e h u = freed_free i c e
  each_free i c r e h u = at_place i c r e h u

  -- no token is excluded, if none is that asks for a credit or gives one back
  pub is_matching : ((i : Item) → Contains here.pending i → is_credit_part i.inlet.part ≡ true → IsFree i i.inlet.part) → IsMatching fl p inputs q m
  is_matching credits t c =
      let i = contains_mapped (token_of fl p w fired) here.pending t (Contains-permutation _ _ t k.tracks.stands.pool c) in
      let there = (fits_in fl p w inputs q m good k i.0 (pending_in i.0 i.1)).there in
      subst (λ (t : Token). stuck_rule p.program m.store t.to t.word ≡ None) i.2 (pick i.0 i.1 there (cases_Bool (is_credit_part i.0.inlet.part)))
    where
      pick : (i : Item) → Contains here.pending i → spot_there fl w i.context i.inlet.part ≡ true
          → (is_credit_part i.inlet.part ≡ true) ⊎ (is_credit_part i.inlet.part ≡ false) → IsFree i i.inlet.part
      pick i c h (inl e) = credits i c e
      pick i c h (inr e) = each_free i c i.inlet.part refl h e
