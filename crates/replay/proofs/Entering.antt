-- An event of the lane that is all of the machine, as an entry of the books.
use Rattle.std.proofs.Common.{◌≡◌, refl, sym, ◌∙◌, ap, subst, ℕ, suc, ◌+◌, ◌*◌, ◌<◌, Bool, true, false, not, List, [], ◌∷◌, ◌++◌, length}
use Rattle.std.proofs.Common.{map, set, Option, Some, None, arith}
use Rattle.std.specs.Prelude.{◌==◌, nat_lt, if◌then◌else◌, remove, slice_get, IsPermutation}
use Rattle.std.specs.List.{range_with_len}
use Rattle.std.proofs.Math.Nat.{mod-one, mod-eq_of_lt}
use Rattle.std.proofs.lemmas.Bool.{ne_eqb, le-ltb}
use Rattle.std.proofs.lemmas.List.Sorted.{IsPermutation-trans, IsPermutation-sym, IsPermutation-append_comm}
use Rattle.tags.specs.Addresses.{element_of}
use Rattle.tags.specs.declared.token.Word.{Word}
use Rattle.tags.specs.declared.token.To.{To}
use Rattle.tags.specs.declared.token.Token.{Token}
use Rattle.tags.specs.declared.slot.SlotState.{SlotState}
use Rattle.semantics.specs.Program.{Program, instr_at}
use Rattle.semantics.specs.Machine.{Store, Size, Event, Happens, slot_in, slot_used, outputs_of}
use Rattle.element.specs.Parts.{Shape, IsPart}
use Rattle.element.specs.Holding.{Holding, LaneView, with_queue, is_here, here, elsewhere}
use Rattle.element.specs.Acts.{ServesFirst}
use Rattle.element.specs.Steps.{Does, IsAfter, place_of}
use Rattle.frame_order.specs.InOrder.{IsInOrder}
use Rattle.frame_order.proofs.InOrder.{part_in_order}
use Rattle.replay.specs.declared.moment.Deed.TheVariants as deed
use Rattle.replay.specs.declared.entry.Change.{Change}
use Rattle.replay.specs.declared.entry.Change.TheVariants as change
use Rattle.replay.specs.Views.{EntryView}
use Rattle.replay.specs.declared.extent.Extent.{Extent}
use Rattle.replay.specs.Moments.{at_slot, deed_of}
use Rattle.replay.specs.Books.{Book, IsEntry, change_of, changed, machine_of, slot_change}
use Rattle.replay.specs.Entering.{on_way, numbers_from, IsWhole, Records, StateIs, Took, place_used, place_in, state_at, deed_by, change_by, place_change}
use Rattle.replay.proofs.Complete.{complete}
use Rattle.replay.proofs.Places.{before, token_at, number_at, pool_after, numbers_after, next_after, taken_out}

-- ONE ELEMENT takes all tokens.
pub on_first : (to : To) → element_of 1 to ≡ 0
on_first (To.Instr f ip port) = mod-one f
on_first (To.Fetch x) = mod-one x
on_first (To.Store x v) = mod-one x
on_first To.Manager = refl
on_first (To.Release f) = refl
on_first (To.Host j) = refl

module _ (z : Shape) (only : z.elements ≡ 1) (first : z.element ≡ 0) where
  is_ours : (t : Token) → is_here z t ≡ true
  is_ours t = ap (λ (n : ℕ). element_of n t.to == z.element) only ∙ ap (λ (n : ℕ). n == z.element) (on_first t.to) ∙ ap (λ (n : ℕ). 0 == n) first

  pub all_here : (ts : List Token) → here z ts ≡ ts
  all_here [] = refl
  all_here (t ∷ ts) = ap (λ (b : Bool). if b then t ∷ here z ts else here z ts) (is_ours t) ∙ ap (λ (l : List Token). t ∷ l) (all_here ts)

  pub none_elsewhere : (ts : List Token) → elsewhere z ts ≡ []
  none_elsewhere [] = refl
  none_elsewhere (t ∷ ts) = ap (λ (b : Bool). if not b then t ∷ elsewhere z ts else elsewhere z ts) (is_ours t) ∙ none_elsewhere ts

-- DEEDS AND CHANGES
not_none : (n : ℕ) → (suc n == 0) ≡ false
not_none n = ne_eqb (suc n) 0 (λ e. let no : ⊥ = omega (arith, e) in no)

not_few : (n : ℕ) → nat_lt (suc (suc n)) 2 ≡ false
not_few n = le-ltb (suc (suc n)) 2 (omega arith)

pub deed_is : (p : Program) (s n : Store) (to : To) (made : List Token)
    → deed_by to (state_at s (place_used p to)) (state_at n (place_used p to)) (length made) ≡ deed_of p s n to made
deed_is p s n (To.Instr f ip port) made = at (slot_used (instr_at p ip)) where
  at : (r : Option ℕ) → at_slot (state_at s (place_in f r)) (state_at n (place_in f r)) ≡ at_slot (slot_in s f r) (slot_in n f r)
  at None = refl
  at (Some r) = refl
deed_is p s n (To.Fetch x) [] = refl
deed_is p s n (To.Fetch x) (t ∷ ts) = ap (λ (b : Bool). if b then deed.Deferred else deed.Answered) (not_none (length ts))
deed_is p s n (To.Store x v) [] = refl
deed_is p s n (To.Store x v) (t ∷ []) = refl
deed_is p s n (To.Store x v) (t ∷ u ∷ ts) = ap (λ (b : Bool). if b then deed.Stored else deed.Served) (not_few (length ts))
deed_is p s n To.Manager [] = refl
deed_is p s n To.Manager (t ∷ ts) = ap (λ (b : Bool). if b then deed.Queued else deed.Given) (not_none (length ts))
deed_is p s n (To.Release f) [] = refl
deed_is p s n (To.Release f) (t ∷ ts) = ap (λ (b : Bool). if b then deed.Freed else deed.HandedOn) (not_none (length ts))
deed_is p s n (To.Host j) made = refl

pub change_is : (p : Program) (n : Store) (to : To) (w : Word) (made : List Token)
    → change_by (outputs_of p) to w (place_used p to) (state_at n (place_used p to)) made ≡ change_of p n to w made
change_is p n (To.Instr f ip port) w made = at (slot_used (instr_at p ip)) where
  at : (r : Option ℕ) → place_change (place_in f r) (state_at n (place_in f r)) ≡ slot_change n f r
  at None = refl
  at (Some r) = refl
change_is p n (To.Fetch x) (Word.Back c) [] = refl
change_is p n (To.Fetch x) (Word.Back c) (t ∷ ts) = ap (λ (b : Bool). if b then change.Reader x c else change.Nothing) (not_none (length ts))
change_is p n (To.Fetch x) w made = refl
change_is p n (To.Store x v) w made = refl
change_is p n To.Manager (Word.Back c) [] = refl
change_is p n To.Manager (Word.Back c) (t ∷ ts) = refl
change_is p n To.Manager (Word.Val v) [] = refl
change_is p n To.Manager (Word.Val v) (t ∷ ts) = refl
change_is p n To.Manager (Word.Frame f) [] = refl
change_is p n To.Manager (Word.Frame f) (t ∷ ts) = refl
change_is p n (To.Release f) w [] = refl
change_is p n (To.Release f) w (t ∷ ts) = ap (λ (b : Bool). if b then change.Free f else change.Handed f) (not_none (length ts))
change_is p n (To.Host j) w made = refl

-- AN EVENT. The token of a number was taken; these are the states of its slot before and after it.
module _ (p : Program) (x : Extent) (l k : LaneView) (whole : IsWhole p x l) (z : Size) (e number : ℕ) (t : Token) (b : Book) (ps qs : List (Option Token))
    (frames : z.elements * z.frames ≡ x.frames) (addressed : element_of z.elements t.to ≡ e) (records : Records l ps b)
    (there : slice_get ps number ≡ Some (Some t)) (made : List Token) (took : Took p l t made k) (places : qs ≡ set ps number None ++ map Some made) where
  abbrev does : Does p (with_queue l.held (t ∷ [])) 0 [] took.between took.sent
  does = took.does

  abbrev place : ℕ
  place = before number ps

  abbrev others : List Token
  others = remove (on_way ps) place

  first : place_of (with_queue l.held (t ∷ [])) 0 ≡ 0
  first = let low : 0 < length (t ∷ []) = omega arith in mod-eq_of_lt low

  token_same : does.token ≡ t
  token_same = let both : Some does.token ≡ Some t = sym does.picks.token ∙ ap (λ (i : ℕ). slice_get (t ∷ []) i) first in cc (both)

  queue_is : took.between.queue ≡ does.made
  queue_is = does.queue ∙ ap (λ (i : ℕ). remove (t ∷ []) i ++ here l.held.part.shape does.made) first
      ∙ all_here l.held.part.shape whole.elements whole.element does.made

  sent_is : took.sent ≡ []
  sent_is = does.sent ∙ none_elsewhere l.held.part.shape whole.elements whole.element does.made

  made_is : made ≡ does.made
  made_is = took.made_are ∙ queue_is

  taken_from : IsPermutation b.pool ((t ∷ []) ++ ([] ++ others))
  taken_from = subst (λ (ts : List Token). IsPermutation ts (t ∷ others)) (sym records.pool) (taken_out ps qs number t made there places)

  came : IsAfter p (with_queue l.held (t ∷ [])) does.token took.between took.sent others does.made (machine_of b)
  came = does.event (machine_of b) others records.part taken_from

  abbrev n : Book
  n = record { store = came.next.store; pool = on_way qs; numbers = numbers_from 0 qs; next = length qs }

  total : l.held.part.shape.elements * l.held.part.shape.frames ≡ z.elements * z.frames
  total = let one = whole.elements in let all = whole.frames in ap (λ (i : ℕ). i * l.held.part.shape.frames) one
      ∙ (let same : 1 * l.held.part.shape.frames ≡ l.held.part.shape.frames = omega arith in same) ∙ all ∙ sym frames

  happens : Happens p (z.elements * z.frames) b.store t.to t.word came.event.made came.next.store
  happens = subst (λ (u : Token). Happens p (z.elements * z.frames) b.store u.to u.word came.event.made came.next.store) token_same
      (subst (λ (i : ℕ). Happens p i b.store does.token.to does.token.word came.event.made came.next.store) total came.event.happens)

  -- the tokens that are on their way now, in another order
  stirred : IsPermutation (on_way qs) came.next.pool
  stirred = IsPermutation-trans (on_way qs) (made ++ others) came.next.pool
      (subst (λ (ts : List Token). IsPermutation ts (made ++ others)) (sym (pool_after ps qs number t made there places)) (IsPermutation-append_comm others made))
      (IsPermutation-sym came.next.pool (made ++ others)
      (subst (λ (ts : List Token). IsPermutation came.next.pool (ts ++ others)) (sym took.made_are)
      (subst (λ (ts : List Token). IsPermutation came.next.pool (took.between.queue ++ (ts ++ others))) sent_is came.tokens)))

  event : Event p z e t (machine_of b) (machine_of n)
  event = record {
    made = came.event.made;
    rest = came.event.rest;
    addressed = addressed;
    takes = subst (λ (u : Token). IsPermutation b.pool (u ∷ came.event.rest)) token_same came.event.takes;
    happens = happens;
    leaves = IsPermutation-trans (on_way qs) came.next.pool (came.event.made ++ came.event.rest) stirred came.event.leaves;
  }

  ordered : (ts : List Token) → ts ≡ does.made → IsInOrder b.store t.to ts came.next.store
  ordered ts is = subst (λ (us : List Token). IsInOrder b.store t.to us came.next.store) (came.makes ∙ sym is)
      (part_in_order p (z.elements * z.frames) l.held.part took.between.part b.store came.next.store t.to t.word came.event.made
      (subst (λ (u : Token). element_of l.held.part.shape.elements u.to ≡ l.held.part.shape.element) token_same came.event.addressed) does.shape
      records.part came.part
      (subst (λ (us : List Token). ServesFirst l.held.part t.to t.word us took.between.part) (sym came.makes)
      (subst (λ (u : Token). ServesFirst l.held.part u.to u.word does.made took.between.part) token_same does.first)) happens)

  part_after : IsPart k.held.part came.next.store
  part_after = subst (λ (h : Holding). IsPart h.part came.next.store) (sym took.after) came.part

  pub enters : (u v : SlotState) (entry : EntryView) → StateIs l (place_used p t.to) u → StateIs k (place_used p t.to) v → entry.number ≡ number
      → entry.made ≡ made → entry.deed ≡ deed_by t.to u v (length entry.made)
      → entry.change ≡ change_by (outputs_of p) t.to t.word (place_used p t.to) v entry.made
      → (m : Book) × IsEntry p z e t b m entry × Records k qs m
  unfolding event came
  enters u v entry before_it after_it number_is made_same deed change =
      let ts : List Token = entry.made in
      let same : ts ≡ does.made = made_same ∙ made_is in
      let s : Store = came.next.store in
      let change_same : entry.change ≡ change_of p s t.to t.word ts = change
      ∙ ap (λ (w : SlotState). change_by (outputs_of p) t.to t.word (place_used p t.to) w ts) (after_it s part_after) ∙ change_is p s t.to t.word ts in
      let happened : Happens p (z.elements * z.frames) b.store t.to t.word ts s = subst
      (λ (us : List Token). Happens p (z.elements * z.frames) b.store t.to t.word us s) (came.makes ∙ sym same) happens in (
        n,
        record {
          event = event;
          made = same ∙ sym came.makes;
          deed = deed ∙ ap (λ (w : SlotState). deed_by t.to w v (length ts)) (before_it b.store records.part)
              ∙ ap (λ (w : SlotState). deed_by t.to (state_at b.store (place_used p t.to)) w (length ts)) (after_it s part_after)
              ∙ deed_is p b.store s t.to ts;
          change = change_same;
          complete = subst (λ (c : Change). s ≡ changed c b.store) (sym change_same)
              (complete p (z.elements * z.frames) b.store s t.to t.word ts happened (ordered ts same));
          place = place;
          token = ap (λ (us : List Token). slice_get us place) records.pool ∙ token_at ps number t there;
          number = ap (λ (is : List ℕ). slice_get is place) records.numbers ∙ number_at 0 ps number t there
              ∙ ap (λ (i : ℕ). Some i) ((let zero_plus : 0 + number ≡ number = omega arith in zero_plus) ∙ sym number_is);
          pool = pool_after ps qs number t made there places ∙ ap (λ (us : List Token). remove us place ++ made) (sym records.pool)
              ∙ ap (λ (us : List Token). remove b.pool place ++ us) (sym made_same);
          numbers = numbers_after ps qs number t made there places
              ∙ ap (λ (is : List ℕ). remove is place ++ range_with_len (length ps) (length made)) (sym records.numbers)
              ∙ ap (λ (i : ℕ). remove b.numbers place ++ range_with_len i (length made)) (sym records.next)
              ∙ ap (λ (us : List Token). remove b.numbers place ++ range_with_len b.next (length us)) (sym made_same);
          next = next_after ps qs number t made there places ∙ ap (λ (i : ℕ). i + length made) (sym records.next)
              ∙ ap (λ (us : List Token). b.next + length us) (sym made_same);
          in_order = ordered ts same;
        },
        record { part = part_after; pool = refl; numbers = refl; next = refl },
      )
