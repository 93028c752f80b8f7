-- Words and tokens are the same in two states of the net in which the frames are the same.
use Rattle.std.proofs.Common.{◌≡◌, ℕ, ◌+◌, List, [], ◌∷◌, ◌++◌, map, refl, sym, ap, ◌∙◌, inl, inr, ◌⊎◌, Some, nat_lt, if◌then◌else◌}
use Rattle.std.specs.Prelude.{Contains}
use Rattle.lemmas.proofs.Contains.{contains_head, contains_tail}
use Rattle.tags.specs.declared.token.Word.{Word}
use Rattle.tags.specs.declared.token.To.{To}
use Rattle.tags.specs.declared.token.Cont.{Cont}
use Rattle.tags.specs.declared.slot.SlotState.{SlotState}
use Rattle.semantics.specs.Rule.{token}
use Rattle.semantics.specs.Graph.{Flow}
use Rattle.semantics.specs.Meaning.{Context}
use Rattle.semantics.specs.Plan.{Plan}
use Rattle.law_confluence.proofs.NetSlots.{InSlots, AtSlot}
use Rattle.law_net.specs.ContextsParts.{Part, Opener, Giver, Taker, Drainer, Asked, NextAsked, InCell, Drained, Shown, Done, Freed, Note, Datum}
use Rattle.law_net.specs.ContextsParts.{FrameOf, BackTo}
use Rattle.law_net.specs.ContextsParts.{ToHost, Item, Firing}
use Rattle.law_net.specs.Contexts.{Wires}
use Rattle.law_net.specs.ContextsFirings.{Config, times}
use Rattle.law_net.specs.ContextsMirror.{frame_of, ip_of, word_of, to_of, token_of, conts_of, cont_in, only, is_item_at, items_at, first_cont, ledger, named_by}

module _ (fl : Flow) (p : Plan) (w : Wires) (a b : List Firing) where
  -- the item's frame, and that of the context that its word names
  pub record Lasts (j : Item) : Type 0 where
    pub own : frame_of fl b j.context ≡ frame_of fl a j.context
    pub named : (c : Context) → named_by j.word ≡ Some c → frame_of fl b c ≡ frame_of fl a c

  pub word_lasts : (n : Note) → ((c : Context) → named_by n ≡ Some c → frame_of fl b c ≡ frame_of fl a c) → word_of fl p w b n ≡ word_of fl p w a n
  word_lasts (Datum v) h = refl
  word_lasts (FrameOf c) h = ap Word.Frame (h c refl)
  word_lasts (BackTo c x) h = ap (λ g. Word.Back (Cont.Frame g (ip_of fl p w c x.part) x.port)) (h c refl)
  word_lasts ToHost h = refl

  to_lasts : (j : Item) (r : Part) → frame_of fl b j.context ≡ frame_of fl a j.context → to_of fl p w b j r ≡ to_of fl p w a j r
  to_lasts j (Asked n) e = refl
  to_lasts j NextAsked e = refl
  to_lasts j (InCell n) e = refl
  to_lasts j (Shown n) e = refl
  to_lasts j Done e = refl
  to_lasts j Freed e = ap To.Release e
  to_lasts j r e = ap (λ g. To.Instr g (ip_of fl p w j.context r) j.inlet.port) e

  pub item_word : (j : Item) → Lasts j → word_of fl p w b j.word ≡ word_of fl p w a j.word
  item_word j l = word_lasts j.word l.named

  pub item_token : (j : Item) → Lasts j → token_of fl p w b j ≡ token_of fl p w a j
  item_token j l = let x = to_lasts j j.inlet.part l.own in let y = item_word j l in λ t. token (x t) (y t)

  pub tokens_last : (items : List Item) → ((j : Item) → Contains items j → Lasts j) → map (token_of fl p w b) items ≡ map (token_of fl p w a) items
  tokens_last [] h = refl
  tokens_last (j ∷ js) h = let x = item_token j (h j (contains_head j js)) in let y = tokens_last js (λ i c. h i (contains_tail j js i c)) in λ t. x t ∷ y t

  -- and continuations by words that last
  pub conts_same : (items : List Item) → ((j : Item) → Contains items j → word_of fl p w b j.word ≡ word_of fl p w a j.word)
      → conts_of fl p w b items ≡ conts_of fl p w a items
  conts_same [] h = refl
  conts_same (j ∷ js) h =
      let x = h j (contains_head j js) in let y = conts_same js (λ i c. h i (contains_tail j js i c)) in λ t. cont_in (x t) ++ y t

-- slots by frames and words that are the same where an item waits
pub slots_last : (a b : Item → ℕ) (slot : Item → ℕ) (h k : Item → SlotState) (base : ℕ → ℕ → SlotState) (items : List Item) (slots : ℕ → ℕ → SlotState)
    → ((i : Item) → Contains items i → a i ≡ b i) → ((i : Item) → Contains items i → h i ≡ k i)
    → InSlots a slot h base items slots → InSlots b slot k base items slots
slots_last a b slot h k base items slots e d s = record {
  waits = λ i c. sym (ap (λ f. slots f (slot i)) (e i c)) ∙ s.waits i c ∙ d i c;
  empty = λ f q. pick f q (s.empty f q);
}
  where
    pick : (f q : ℕ) → (slots f q ≡ base f q) ⊎ AtSlot a slot h base items f q → (slots f q ≡ base f q) ⊎ AtSlot b slot k base items f q
    pick f q (inl z) = inl z
    pick f q (inr (i, c, x, y)) = inr (i, c, sym (e i c) ∙ x, y)

-- A LEDGER that stays
pub ledger_lasts : (fl : Flow) (p : Plan) (w : Wires) (a b : Config) (c : Context) (n : ℕ) → times c (Opener n) b.fired ≡ times c (Opener n) a.fired
    → times c (Taker n) b.fired ≡ times c (Taker n) a.fired
    → times c (Drained n) b.fired ≡ times c (Drained n) a.fired → items_at c (Giver n) b.waiting ≡ items_at c (Giver n) a.waiting
    → items_at c (Drainer n) b.waiting ≡ items_at c (Drainer n) a.waiting
    → conts_of fl p w b.fired (only (is_item_at c (Taker n)) b.waiting) ≡ conts_of fl p w a.fired (only (is_item_at c (Taker n)) a.waiting)
    → ledger fl p w b c n ≡ ledger fl p w a c n
ledger_lasts fl p w a b c n o t d g r k = λ i. record {
  opened = nat_lt 0 (o i);
  granted = o i + t i;
  given = if nat_lt 0 (d i) then o i + t i else g i;
  waiter = first_cont (k i);
  draining = nat_lt 0 (r i);
  over = nat_lt 0 (d i);
}
