-- What arrives at the host, and a frame that is handed back.
use Rattle.std.proofs.Common.{◌≡◌, ℕ, ◌*◌, ◌<◌, Bool, true, false, ◌&&◌, List, [], ◌∷◌, ◌++◌, map, refl, sym, ap, ◌∙◌, subst, inl, inr, ◌⊎◌, arith, true≢false}
use Rattle.std.proofs.Common.{Option, Some, None, nat_lt, ltb-true, if◌then◌else◌}
use Rattle.std.specs.Prelude.{IsPermutation, Contains, slice_get}
use Rattle.std.proofs.lemmas.Bool.{cases_eq}
use Rattle.lemmas.proofs.Permutations.{permutation_same}
use Rattle.lemmas.proofs.Contains.{contains_cases, contains_head, contains_none, contains_tail}
use Rattle.lemmas.proofs.Bools.{first_of_and, second_of_and}
use Rattle.tags.specs.declared.value.Value.{Value}
use Rattle.tags.specs.declared.token.Port.TheVariants.{Left}
use Rattle.tags.specs.declared.token.Cont.{Cont}
use Rattle.tags.specs.declared.token.Word.{Word}
use Rattle.tags.specs.declared.token.To.{To}
use Rattle.tags.specs.declared.token.Token.{Token}
use Rattle.tags.specs.declared.slot.SlotState.{SlotState}
use Rattle.semantics.specs.Graph.{Flow}
use Rattle.semantics.specs.Meaning.{Context, Main, Called, Turned}
use Rattle.semantics.specs.Machine.{Store, Happens, Hosts, Releases, outputs_of, results_in, value_in, answer, put_at, with_out, with_requests}
use Rattle.semantics.specs.Handed.{handed_by}
use Rattle.semantics.specs.Credits.{granted_at, released_at}
use Rattle.semantics.specs.Plan.{Plan}
use Rattle.semantics.proofs.Stores.{put_other}
use Rattle.law_confluence.proofs.NetSlots.{InSlots, put_same}
use Rattle.law_confluence.specs.EquationsContexts.{same_context}
use Rattle.law_net.specs.ContextsParts.{Shown, Done, Freed, Note, Datum, FrameOf, BackTo, ToHost, signal, Item, Firing}
use Rattle.law_net.specs.Contexts.{Wires, block_in, or_zero}
use Rattle.law_net.specs.ContextsFirings.{Config, takes, makes, frame_at, frame_if, frames_of, frames_if, handed_to, HasFired, memory_of}
use Rattle.law_net.specs.ContextsFirings as Firings
use Rattle.law_net.specs.ContextsLaws.{is_main}
use Rattle.law_net.specs.ContextsMirror.{frame_of, word_of, token_of, on_side, in_slot, slot_of, only, Mirrors}
use Rattle.law_net.specs.ContextsTheorem.{IsGood}
use Rattle.law_net.proofs.ContextsBlocks.{is_main_true}
use Rattle.law_machine_refines_net.specs.MovesCases.{Taking, net_of, Followed, IsFree, Shows, is_still}
use Rattle.law_machine_refines_net.proofs.MovesSites.{coded}
use Rattle.law_machine_refines_net.proofs.MovesGoes.{goes_follow}
use Rattle.law_machine_refines_net.proofs.MovesFitted.{fits, framed, bare, bare_item, taken_here, lone_port, plain_way}
use Rattle.law_machine_refines_net.proofs.Sends.{firing_of, fired_before, fired_now}
use Rattle.law_machine_refines_net.proofs.SendsInwards.{carried_as}

-- main's results
pub outputs_are : (fl : Flow) (p : Plan) (w : Wires) → IsGood fl p w → outputs_of p.program ≡ (block_in fl Main).outputs
outputs_are fl p w good =
    let k = coded fl p w good.wired Main good.main in
    ap (λ n. results_in (slice_get p.program.blocks n)) good.wired.main ∙ ap results_in k.there ∙ k.laid.outputs

frame_given : (o : Option Context) (c : Context) (h g : ℕ) (other : Option ℕ) (gs : List ℕ) → (other ≡ Some g → Contains gs g) → frame_if o c h other ≡ Some g
    → Contains (frames_if o h ++ gs) g
frame_given None c h g other gs more e = more e
frame_given (Some d) c h g other gs more e = pick (same_context d c) e
  where
    pick : (t : Bool) → (if t then Some h else other) ≡ Some g → Contains (h ∷ gs) g
    pick true e = let z : h ≡ g = cc in subst (λ g. Contains (h ∷ gs) g) z (contains_head h gs)
    pick false e = contains_tail h gs g (more e)

called_among : (fl : Flow) (fired : List Firing) (d : Context) (n g : ℕ) → frame_at fl fired (Called d n) ≡ Some g → Contains (frames_of fl fired) g
called_among fl [] d n g e = absurd (cc)
called_among fl (f ∷ fired) d n g e =
    frame_given (handed_to fl f.context f.part) (Called d n) f.frame g (frame_at fl fired (Called d n)) (frames_of fl fired)
    (λ x. called_among fl fired d n g x) e

turned_among : (fl : Flow) (fired : List Firing) (d : Context) (n i g : ℕ) → frame_at fl fired (Turned d n i) ≡ Some g → Contains (frames_of fl fired) g
turned_among fl [] d n i g e = absurd (cc)
turned_among fl (f ∷ fired) d n i g e =
    frame_given (handed_to fl f.context f.part) (Turned d n i) f.frame g (frame_at fl fired (Turned d n i)) (frames_of fl fired)
    (λ x. turned_among fl fired d n i g x) e

pub frame_among : (fl : Flow) (fired : List Firing) (c : Context) (g : ℕ) → frame_at fl fired c ≡ Some g → Contains (0 ∷ frames_of fl fired) g
frame_among fl fired Main g e = let z : 0 ≡ g = cc in subst (λ g. Contains (0 ∷ frames_of fl fired) g) z (contains_head 0 (frames_of fl fired))
frame_among fl fired (Called d n) g e = contains_tail 0 (frames_of fl fired) g (called_among fl fired d n g e)
frame_among fl fired (Turned d n i) g e = contains_tail 0 (frames_of fl fired) g (turned_among fl fired d n i g e)

-- a word's value
word_value : (fl : Flow) (p : Plan) (w : Wires) (fired : List Firing) (n : Note) (v : Value) → word_of fl p w fired n ≡ Word.Val v → Firings.value_in n ≡ v
word_value fl p w fired (Datum u) v e = cc
word_value fl p w fired (FrameOf d) v e = absurd (cc)
word_value fl p w fired (BackTo d x) v e = absurd (cc)
word_value fl p w fired ToHost v e = absurd (cc)

-- A PART THAT TAKES ONE ITEM AND MAKES NONE
module _ (s : Taking) where
  abbrev net : Config
  net = net_of s

  abbrev old : Mirrors s.fl s.p s.w s.m net
  old = s.keeps.tracks.stands

  abbrev f : Firing
  f = firing_of s 0 s.i.word signal

  abbrev F : Item → ℕ
  F i = frame_of s.fl net.fired i.context

  abbrev Slots : (ℕ → ℕ → SlotState) → Type 0
  Slots slots =
      InSlots F (slot_of s.fl s.w) (λ (i : Item). on_side i.inlet.port (word_of s.fl s.p s.w net.fired i.word)) old.base (only (in_slot s.fl) net.waiting) slots

  ends_goes : is_still s.i.inlet.part ≡ true → takes s.fl f ≡ s.i ∷ [] → makes s.fl s.w f ≡ [] → s.event.made ≡ [] → Shows s (f ∷ net.fired) net.waiting
      → IsFree s → Followed s
  ends_goes still takes_is makes_is made shows free = goes_follow s f (record {
    before = [];
    kept = [];
    later = net.waiting;
    waiting = refl;
    paired = λ j h. absurd (contains_none j h);
    took = permutation_same _ _ (sym takes_is);
    part = refl;
    still = still;
    made = permutation_same _ _ (made ∙ ap (map (token_of s.fl s.p s.w net.fired)) (sym makes_is));
    quiet = λ j h. absurd (none j h);
    known = λ j h. absurd (none j h);
    named = λ j d h e. absurd (none j h);
    caused = λ j h i e. absurd (none j h);
    store = shows;
    free = free;
  })
    where
      none : (j : Item) → Contains (makes s.fl s.w f) j → ⊥
      none j h = contains_none j (subst (λ l. Contains l j) makes_is h)

-- no token of an instruction: no credit, no release
free_host : (s : Taking) (j : ℕ) → s.t.to ≡ To.Host j → IsFree s
free_host s j e = record {
  granted = λ g h. subst (λ (x : To). granted_at s.p s.p.program g h s.m.store x ≡ 0) (sym e) refl;
  released = λ g base. subst (λ (x : To). released_at s.p.program g base x s.event.made ≡ 0) (sym e) refl;
}

free_release : (s : Taking) (g : ℕ) → s.t.to ≡ To.Release g → IsFree s
free_release s g e = record {
  granted = λ g h. subst (λ (x : To). granted_at s.p s.p.program g h s.m.store x ≡ 0) (sym e) refl;
  released = λ g base. subst (λ (x : To). released_at s.p.program g base x s.event.made ≡ 0) (sym e) refl;
}

-- A RESULT that arrives at the host
module _ (s : Taking) (j : ℕ) (e : s.i.inlet.part ≡ Shown j) where
  abbrev shown : Taking
  shown = carried_as s (Shown j) e

  shown_there : (is_main s.i.context && nat_lt j (block_in s.fl s.i.context).outputs) ≡ true
  shown_there = (fits shown shown.i (taken_here shown)).there

  shown_item : takes s.fl (firing_of shown 0 s.i.word signal) ≡ shown.i ∷ []
  shown_item =
      let k = fits shown shown.i (taken_here shown) in
      let left = lone_port s.fl s.i.context (Shown j) s.i.inlet.port refl k.port in
      let way = plain_way s.fl s.i.context (Shown j) s.i.inlet.port s.i.inlet.way refl k.way in
      sym (λ t. bare_item shown.i (bare shown shown.i (taken_here shown) refl) (Shown j) Left 0 refl left way t ∷ [])

  within : j < outputs_of s.p.program
  within =
      let m = is_main_true s.i.context (first_of_and (is_main s.i.context) (nat_lt j (block_in s.fl s.i.context).outputs) shown_there) in
      let l = ltb-true j (block_in s.fl s.i.context).outputs (second_of_and (is_main s.i.context) (nat_lt j (block_in s.fl s.i.context).outputs) shown_there) in
      let o = outputs_are s.fl s.p s.w s.good in
      let k = ap (λ c. (block_in s.fl c).outputs) m in omega (arith, l, o, k)

  to_host : s.t.to ≡ To.Host j
  to_host = ap (λ (t : Token). t.to) shown.is_token

  word_is : s.t.word ≡ word_of s.fl s.p s.w (net_of s).fired s.i.word
  word_is = ap (λ (t : Token). t.word) s.is_token

  hosts : Hosts (outputs_of s.p.program) s.m.store j s.t.word s.event.made s.new.store
  hosts = subst (λ (x : To). Happens s.p.program (s.z.elements * s.z.frames) s.m.store x s.t.word s.event.made s.new.store) to_host s.event.happens

  pub shown_follows : Followed s
  shown_follows = pick hosts
    where
      pick : Hosts (outputs_of s.p.program) s.m.store j s.t.word s.event.made s.new.store → Followed s
      pick (inr (k, n, m, st)) = let l = within in absurd (omega (arith, k, l))
      pick (inl (k, n, (v, wd, m, st))) = ends_goes shown refl shown_item refl m (record {
        slots = subst (λ (x : Store). Slots shown x.slots) (sym st) (old shown).slots;
        requests = ap (λ (x : Store). x.requests) st;
        cells = λ y. ap (λ (x : Store). x.cells y) st;
        seen = record {
          outputs =
              λ y. ap (λ (x : Store). x.outputs y) st
              ∙ (λ t. put_at (λ z. (old shown).seen.outputs z t) j (Some (sym (word_value s.fl s.p s.w (net_of s).fired s.i.word v (sym word_is ∙ wd)) t)) y);
          cells = λ y. ap (λ (x : Store). value_in (x.cells y)) st ∙ (old shown).seen.cells y;
        };
        done = (
          λ o. fired_now Main Done (f shown) (net_of s).fired ((old shown).done.0 (sym (ap (λ (x : Store). x.done) st) ∙ o)),
          λ h. ap (λ (x : Store). x.done) st ∙ (old shown).done.1 (fired_before Main Done (f shown) (net_of s).fired (λ d. absurd (cc)) h),
        );
        out = λ d g x. (
          λ o. fired_now d Freed (f shown) (net_of s).fired (((old shown).out d g x).0 (sym (ap (λ (x : Store). x.out g) st) ∙ o)),
          λ h. ap (λ (x : Store). x.out g) st ∙ ((old shown).out d g x).1 (fired_before d Freed (f shown) (net_of s).fired (λ d. absurd (cc)) h),
        );
        not_out = λ g o. (old shown).not_out g (sym (ap (λ (x : Store). x.out g) st) ∙ o);
      }) (free_host shown j to_host)

-- THE END OF THE RUN
module _ (s : Taking) (e : s.i.inlet.part ≡ Done) where
  abbrev ending : Taking
  ending = carried_as s Done e

  ending_item : takes s.fl (firing_of ending 0 s.i.word signal) ≡ ending.i ∷ []
  ending_item =
      let k = fits ending ending.i (taken_here ending) in
      let left = lone_port s.fl s.i.context Done s.i.inlet.port refl k.port in
      let way = plain_way s.fl s.i.context Done s.i.inlet.port s.i.inlet.way refl k.way in
      sym (λ t. bare_item ending.i (bare ending ending.i (taken_here ending) refl) Done Left 0 refl left way t ∷ [])

  to_last : s.t.to ≡ To.Host (outputs_of s.p.program)
  to_last = ap (λ (t : Token). t.to) ending.is_token

  last_hosts : Hosts (outputs_of s.p.program) s.m.store (outputs_of s.p.program) s.t.word s.event.made s.new.store
  last_hosts = subst (λ (x : To). Happens s.p.program (s.z.elements * s.z.frames) s.m.store x s.t.word s.event.made s.new.store) to_last s.event.happens

  pub done_follows : Followed s
  done_follows = pick last_hosts
    where
      pick : Hosts (outputs_of s.p.program) s.m.store (outputs_of s.p.program) s.t.word s.event.made s.new.store → Followed s
      pick (inl (k, n, x)) = absurd (omega (arith, k))
      pick (inr (k, n, m, st)) = ends_goes ending refl ending_item refl m (record {
        slots = subst (λ (x : Store). Slots ending x.slots) (sym st) (old ending).slots;
        requests = ap (λ (x : Store). x.requests) st;
        cells = λ y. ap (λ (x : Store). x.cells y) st;
        seen =
            record {
              outputs = λ y. ap (λ (x : Store). x.outputs y) st ∙ (old ending).seen.outputs y;
              cells = λ y. ap (λ (x : Store). value_in (x.cells y)) st ∙ (old ending).seen.cells y;
            };
        done = (
          λ o. (f ending, contains_head (f ending) (net_of s).fired, is_main_true s.i.context (fits ending ending.i (taken_here ending)).there, refl),
          λ h. ap (λ (x : Store). x.done) st,
        );
        out = λ d g x. (
          λ o. fired_now d Freed (f ending) (net_of s).fired (((old ending).out d g x).0 (sym (ap (λ (x : Store). x.out g) st) ∙ o)),
          λ h. ap (λ (x : Store). x.out g) st ∙ ((old ending).out d g x).1 (fired_before d Freed (f ending) (net_of s).fired (λ d. absurd (cc)) h),
        );
        not_out = λ g o. (old ending).not_out g (sym (ap (λ (x : Store). x.out g) st) ∙ o);
      }) (free_host ending (outputs_of s.p.program) to_last)

-- A FRAME that is handed back
module _ (s : Taking) (e : s.i.inlet.part ≡ Freed) where
  abbrev leaving : Taking
  leaving = carried_as s Freed e

  abbrev own : ℕ
  own = frame_of s.fl (net_of s).fired s.i.context

  leaving_item : takes s.fl (firing_of leaving 0 s.i.word signal) ≡ leaving.i ∷ []
  leaving_item =
      let k = fits leaving leaving.i (taken_here leaving) in
      let left = lone_port s.fl s.i.context Freed s.i.inlet.port refl k.port in
      let way = plain_way s.fl s.i.context Freed s.i.inlet.port s.i.inlet.way refl k.way in
      sym (λ t. bare_item leaving.i (bare leaving leaving.i (taken_here leaving) refl) Freed Left 0 refl left way t ∷ [])

  to_release : s.t.to ≡ To.Release own
  to_release = ap (λ (t : Token). t.to) leaving.is_token

  release_is : Releases s.m.store own s.event.made s.new.store
  release_is = subst (λ (x : To). Happens s.p.program (s.z.elements * s.z.frames) s.m.store x s.t.word s.event.made s.new.store) to_release s.event.happens

  -- it was handed out
  own_is : frame_at s.fl (net_of s).fired s.i.context ≡ Some own
  own_is = let k = framed s s.i (taken_here s) in k.1 ∙ ap (λ n. Some n) (sym (ap or_zero k.1))

  handed_before : Contains s.q.handed own
  handed_before = s.keeps.tracks.handed own (frame_among s.fl (net_of s).fired s.i.context own own_is)

  -- so no request is served
  none_served : (k : Cont) → s.event.made ≡ answer k (Word.Frame own) ∷ [] → ⊥
  none_served k m =
      let a : handed_by (To.Release own) s.event.made ≡ own ∷ [] = ap (handed_by (To.Release own)) m in
      s.fresh own (subst (λ (x : To). Contains (handed_by x s.event.made) own) (sym to_release) (subst (λ l. Contains l own) (sym a) (contains_head own [])))
      handed_before

  pub freed_follows : Followed s
  freed_follows = pick release_is.1
    where
      pick : ((s.m.store.requests ≡ []) × (s.event.made ≡ []) × (s.new.store ≡ with_out s.m.store own false))
          ⊎ ((k : Cont) × (rest : List Cont) × IsPermutation s.m.store.requests (k ∷ rest) × (s.event.made ≡ answer k (Word.Frame own) ∷ [])
          × (s.new.store ≡ with_requests s.m.store rest)) → Followed s
      pick (inr (k, rest, p, m, st)) = absurd (none_served k m)
      pick (inl (k, m, st)) = ends_goes leaving refl leaving_item refl m (record {
        slots = subst (λ (x : Store). Slots leaving x.slots) (sym st) (old leaving).slots;
        requests = ap (λ (x : Store). x.requests) st;
        cells = λ y. ap (λ (x : Store). x.cells y) st;
        seen =
            record {
              outputs = λ y. ap (λ (x : Store). x.outputs y) st ∙ (old leaving).seen.outputs y;
              cells = λ y. ap (λ (x : Store). value_in (x.cells y)) st ∙ (old leaving).seen.cells y;
            };
        done = (
          λ o. fired_now Main Done (f leaving) (net_of s).fired ((old leaving).done.0 (sym (ap (λ (x : Store). x.done) st) ∙ o)),
          λ h. ap (λ (x : Store). x.done) st ∙ (old leaving).done.1 (fired_before Main Done (f leaving) (net_of s).fired (λ d. absurd (cc)) h),
        );
        out =
            λ d g x. (
              λ o. left_first d g x (cases_eq own g) (sym (out_is g) ∙ o),
              λ h. out_is g ∙ left_then d g x (cases_eq own g) (contains_cases (f leaving) (net_of s).fired h.0 h.1) h.2 h.3,
            );
        not_out = λ g o. still_out g (cases_eq own g) (sym (out_is g) ∙ o);
      }) (free_release leaving own to_release)
        where
          out_is : (g : ℕ) → s.new.store.out g ≡ put_at s.m.store.out own false g
          out_is g = ap (λ (x : Store). x.out g) st

          other : (g : ℕ) → (own ≡ g → ⊥) → put_at s.m.store.out own false g ≡ s.m.store.out g
          other g n = put_other s.m.store.out own g false n

          same_context : (d : Context) (g : ℕ) → frame_at s.fl (net_of s).fired d ≡ Some g → own ≡ g → s.i.context ≡ d
          same_context d g x e = (old leaving).apart s.i.context d g (own_is ∙ ap (λ n. Some n) e) x

          left_first : (d : Context) (g : ℕ) → frame_at s.fl (net_of s).fired d ≡ Some g → (own ≡ g) ⊎ (own ≡ g → ⊥) → put_at s.m.store.out own false g ≡ false
              → HasFired d Freed (f leaving ∷ (net_of s).fired)
          left_first d g x (inl e) o = (f leaving, contains_head (f leaving) (net_of s).fired, same_context d g x e, refl)
          left_first d g x (inr n) o = fired_now d Freed (f leaving) (net_of s).fired (((old leaving).out d g x).0 (sym (other g n) ∙ o))

          left_then : (d : Context) (g : ℕ) → frame_at s.fl (net_of s).fired d ≡ Some g → (own ≡ g) ⊎ (own ≡ g → ⊥) → {h : Firing}
              → (f leaving ≡ h) ⊎ Contains (net_of s).fired h → h.context ≡ d → h.part ≡ Freed → put_at s.m.store.out own false g ≡ false
          left_then d g x (inl e) c a b = subst (λ g. put_at s.m.store.out own false g ≡ false) e (put_same s.m.store.out own false)
          left_then d g x (inr n) {h = h} (inl c) a b =
              let k : s.i.context ≡ d = ap (λ (y : Firing). y.context) c ∙ a in
              let z : Some own ≡ Some g = sym own_is ∙ ap (frame_at s.fl (net_of s).fired) k ∙ x in
              let w : own ≡ g = cc in absurd (n w)
          left_then d g x (inr n) {h = h} (inr c) a b = other g n ∙ ((old leaving).out d g x).1 (h, c, a, b)

          still_out : (g : ℕ) → (own ≡ g) ⊎ (own ≡ g → ⊥) → put_at s.m.store.out own false g ≡ true
              → (c : Context) × (frame_at s.fl (net_of s).fired c ≡ Some g)
          still_out g (inl e) o = absurd (true≢false (sym o ∙ subst (λ g. put_at s.m.store.out own false g ≡ false) e (put_same s.m.store.out own false)))
          still_out g (inr n) o = (old leaving).not_out g (sym (other g n) ∙ o)
