-- Where the words go that an instruction sends along its wires, and what it leaves of the store.
use Rattle.std.proofs.Common.{◌≡◌, ℕ, ◌+◌, Bool, true, false, List, [], ◌∷◌, map, refl, sym, ap, ◌∙◌, inl, inr, ◌⊎◌, arith, true≢false, pos}
use Rattle.std.specs.Prelude.{IsPermutation, Contains}
use Rattle.std.proofs.lemmas.List.Sorted.{IsPermutation-map}
use Rattle.lemmas.proofs.Contains.{contains_cases, contains_head, contains_tail}
use Rattle.tags.specs.declared.value.Value.TheVariants.{Int}
use Rattle.tags.specs.declared.token.Port.{Port}
use Rattle.tags.specs.declared.token.Word.{Word}
use Rattle.tags.specs.declared.token.To.{To}
use Rattle.tags.specs.declared.token.Token.{Token}
use Rattle.tags.specs.declared.slot.SlotState.{SlotState}
use Rattle.semantics.specs.declared.program.Dest.{Dest}
use Rattle.semantics.specs.Graph.{Flow}
use Rattle.semantics.specs.Meaning.{Context, Main, Memory}
use Rattle.semantics.specs.Program.{first_of}
use Rattle.semantics.specs.Rule.{token, to_each}
use Rattle.semantics.specs.Machine.{Store, with_slot, value_in}
use Rattle.law_confluence.proofs.NetSlots.{InSlots}
use Rattle.law_confluence.proofs.Orders.{at_first, at_last}
use Rattle.law_net.specs.ContextsParts.{Part, InCell, Shown, Done, Freed, Inlet, Note, Item, item, each, Firing}
use Rattle.law_net.specs.ContextsBlocks.{side}
use Rattle.law_net.specs.Contexts.{block_in, code_in, site_in, wiring_in}
use Rattle.law_net.specs.ContextsWires.{leads_to, ip_and_port, is_unwired}
use Rattle.law_net.specs.ContextsFirings.{Config, memory_of, remembered, HasFired}
use Rattle.law_net.specs.ContextsMirror.{frame_of, word_of, token_of, on_side, in_slot, slot_of, only, is_instr, Mirrors}
use Rattle.law_machine_refines_net.specs.MovesCases.{Taking, net_of, Shows}
use Rattle.law_machine_refines_net.proofs.MovesSites.{there_instr}
use Rattle.law_machine_refines_net.proofs.MovesStill.{to_instr}
use Rattle.law_machine_refines_net.proofs.MovesPlain.{Stays}
use Rattle.law_machine_refines_net.proofs.MovesFitted.{code, there, taken_here}
use Rattle.law_machine_refines_net.proofs.SendsRules.{at}

-- a firing of the item's part
abbrev pub firing_of : Taking → ℕ → Note → Note → Firing
firing_of s t l k =
    record { context = s.i.context; part = s.i.inlet.part; way = t; left = l; right = k; frame = 0; answer = Int (pos 0); turns = 0; operands = [] }

pub stays_with : (s : Taking) (f q : ℕ) (v : SlotState) → s.new.store ≡ with_slot s.m.store f q v → Stays s
stays_with s f q v e = record {
  requests = ap (λ (x : Store). x.requests) e;
  cells = λ y. ap (λ (x : Store). x.cells y) e;
  outputs = λ y. ap (λ (x : Store). x.outputs y) e;
  done = ap (λ (x : Store). x.done) e;
  out = λ y. ap (λ (x : Store). x.out y) e;
}

pub stays_same : (s : Taking) → s.new.store ≡ s.m.store → Stays s
stays_same s e = record {
  requests = ap (λ (x : Store). x.requests) e;
  cells = λ y. ap (λ (x : Store). x.cells y) e;
  outputs = λ y. ap (λ (x : Store). x.outputs y) e;
  done = ap (λ (x : Store). x.done) e;
  out = λ y. ap (λ (x : Store). x.out y) e;
}

remembers : (fl : Flow) (f : Firing) (r : Part) (m : Memory) → is_instr r ≡ true → remembered fl f r m ≡ m
remembers fl f (InCell n) m e = absurd (true≢false (sym e))
remembers fl f (Shown j) m e = absurd (true≢false (sym e))
remembers fl f r m e = refl

-- what has fired before, except for this part
pub fired_before : (c : Context) (q : Part) (f : Firing) (fired : List Firing) → (f.part ≡ q → ⊥) → HasFired c q (f ∷ fired) → HasFired c q fired
fired_before c q f fired differs h = pick (contains_cases f fired h.0 h.1)
  where
    pick : (f ≡ h.0) ⊎ Contains fired h.0 → HasFired c q fired
    pick (inl e) = absurd (differs (ap (λ (x : Firing). x.part) e ∙ h.3))
    pick (inr d) = (h.0, d, h.2, h.3)

pub fired_now : (c : Context) (q : Part) (f : Firing) (fired : List Firing) → HasFired c q fired → HasFired c q (f ∷ fired)
fired_now c q f fired h = (h.0, contains_tail f fired h.0 h.1, h.2, h.3)

instr_done : (r : Part) → is_instr r ≡ true → r ≡ Done → ⊥
instr_done r i e = true≢false (sym i ∙ ap is_instr e)

instr_freed : (r : Part) → is_instr r ≡ true → r ≡ Freed → ⊥
instr_freed r i e = true≢false (sym i ∙ ap is_instr e)

module _ (s : Taking) (is : is_instr s.i.inlet.part ≡ true) where
  abbrev net : Config
  net = net_of s

  abbrev old : Mirrors s.fl s.p s.w s.m net
  old = s.keeps.tracks.stands

  abbrev c : Context
  c = s.i.context

  abbrev r : Part
  r = s.i.inlet.part

  abbrev base : ℕ
  base = first_of s.p.program (code_in s.fl s.w c)

  abbrev tok : Item → Token
  tok j = token_of s.fl s.p s.w net.fired j

  abbrev W : Note → Word
  W n = word_of s.fl s.p s.w net.fired n

  abbrev pub Wire : Bool → List Inlet
  Wire second = (wiring_in s.fl s.w c).wire (side r second)

  -- THE TOKENS along wires
  abbrev G : Word → ℕ × Port → Token
  G k q = token (To.Instr (frame_of s.fl net.fired c) (base + q.0) q.1) k

  leads_on : (k : Word) (n : ℕ) (ds : List Dest)
      → map (G k) (map (leads_to n) ds) ≡ map (λ (d : Dest). token (To.Instr (frame_of s.fl net.fired c) (base + n + d.ahead) d.port) k) ds
  leads_on k n [] = refl
  leads_on k n (d ∷ ds) =
      let e : base + (n + d.ahead) ≡ base + n + d.ahead = omega arith in (λ t. token (To.Instr (frame_of s.fl net.fired c) (e t) d.port) k ∷ leads_on k n ds t)

  stands_on : (k : Note) (xs : List Inlet) → ((x : Inlet) → Contains xs x → is_instr x.part ≡ true)
      → map (G (W k)) (map (ip_and_port (wiring_in s.fl s.w c)) xs) ≡ map tok (each c k xs)
  stands_on k [] h = refl
  stands_on k (x ∷ xs) h =
      let e = to_instr s.fl s.p s.w net.fired (item c x k) x.part (h x (contains_head x xs)) in
      (λ t. token (sym e t) (W k) ∷ stands_on k xs (λ y d. h y (contains_tail x xs y d)) t)

  pub dests_sent : (k : Note) (ds : List Dest) (xs : List Inlet)
      → IsPermutation (map (leads_to ((wiring_in s.fl s.w c).place r)) ds) (map (ip_and_port (wiring_in s.fl s.w c)) xs)
      → ((x : Inlet) → Contains xs x → is_instr x.part ≡ true)
      → IsPermutation (to_each (at s is) (W k) ds) (map tok (each c k xs))
  dests_sent k ds xs perm h =
      at_first (sym (leads_on (W k) ((wiring_in s.fl s.w c).place r) ds)) (at_last (IsPermutation-map (G (W k)) _ _ perm) (stands_on k xs h))

  -- where a wire leads
  pub wired_to : (second : Bool) (x : Inlet) → Contains (Wire second) x → (is_instr x.part ≡ true) × (is_unwired (block_in s.fl c) x.part ≡ false)
  wired_to second x h =
      let k = (code s s.i (taken_here s)).lawful.fed.inlets (side r second) x (there s s.i (taken_here s) is) h in
      (there_instr s.fl (site_in s.fl s.w c) (wiring_in s.fl s.w c) x.part k.0, k.3)

  -- the store after an instruction
  pub shows_stay : (f : Firing) (waiting : List Item) → is_instr f.part ≡ true → Stays s
      → InSlots (λ (i : Item). frame_of s.fl net.fired i.context) (slot_of s.fl s.w)
      (λ (i : Item). on_side i.inlet.port (word_of s.fl s.p s.w net.fired i.word)) old.base (only (in_slot s.fl) waiting) s.new.store.slots
      → Shows s (f ∷ net.fired) waiting
  shows_stay f waiting i stays slots = record {
    slots = slots;
    requests = stays.requests;
    cells = stays.cells;
    seen = record {
      outputs = λ j. stays.outputs j ∙ old.seen.outputs j ∙ sym (ap (λ (m : Memory). m.outputs j) (remembers s.fl f f.part (memory_of s.fl net.fired) i));
      cells = λ x. ap value_in (stays.cells x) ∙ old.seen.cells x ∙ sym (ap (λ (m : Memory). m.cells x) (remembers s.fl f f.part (memory_of s.fl net.fired) i));
    };
    done = (
      λ e. fired_now Main Done f net.fired (old.done.0 (sym stays.done ∙ e)),
      λ h. stays.done ∙ old.done.1 (fired_before Main Done f net.fired (instr_done f.part i) h),
    );
    out =
        λ d g e. (
          λ o. fired_now d Freed f net.fired ((old.out d g e).0 (sym (stays.out g) ∙ o)),
          λ h. stays.out g ∙ (old.out d g e).1 (fired_before d Freed f net.fired (instr_freed f.part i) h),
        );
    not_out = λ g e. old.not_out g (sym (stays.out g) ∙ e);
  }
