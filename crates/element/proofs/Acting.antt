-- The result of one token, put together.
use Rattle.std.proofs.Common.{◌≡◌, refl, sym, ◌∙◌, ap, ℕ, ◌+◌, List, [], ◌∷◌, ◌++◌, append_assoc}
use Rattle.std.specs.Prelude.{remove}
use Rattle.std.proofs.lemmas.List.{append-nil, map-append}
use Rattle.std.proofs.lemmas.List.Elements.{filter-append}
use Rattle.tags.specs.declared.value.Value.{Value}
use Rattle.tags.specs.declared.token.Cont.{Cont}
use Rattle.tags.specs.declared.token.Word.{Word}
use Rattle.tags.specs.declared.token.Token.{Token}
use Rattle.semantics.specs.Program.{Program}
use Rattle.semantics.specs.Machine.{answer, answers}
use Rattle.element.specs.Parts.{Shape, Part}
use Rattle.element.specs.Holding.{Holding, is_here, here, elsewhere, queued, taken, cleared, with_part}
use Rattle.element.specs.Acts.{Changes, Acts}

pub acts : (p : Program) (old mid second new : Holding) (at : ℕ) (t : Token) (made : List Token) (part : Part) (before between after : List Token)
    → mid ≡ old → between ≡ before → Changes p old.part t made part → second ≡ taken (with_part mid part) at → new ≡ queued second made → after
    ≡ between ++ elsewhere second.part.shape made → Acts p old at t before new after
acts p old mid second new at t made part before between after e_mid e_between changes e_second e_new e_after = record {
  made = made;
  part = part;
  changes = changes;
  held = e_new ∙ ap (λ (h : Holding). queued h made) (e_second ∙ ap (λ (m : Holding). taken (with_part m part) at) e_mid);
  sent = e_after ∙ ap (λ (b : List Token). b ++ elsewhere second.part.shape made) e_between
      ∙ ap (λ (z : Shape). before ++ elsewhere z made) (ap (λ (h : Holding). h.part.shape) e_second ∙ changes.shape);
}

-- nothing is made
pub acts_none : (p : Program) (old mid new : Holding) (at : ℕ) (t : Token) (part : Part) (before after : List Token)
    → mid ≡ old → after ≡ before → Changes p old.part t [] part → new ≡ taken (with_part mid part) at → Acts p old at t before new after
acts_none p old mid new at t part before after e_mid e_after changes e_new =
    acts p old mid new new at t [] part before before after e_mid refl changes e_new
    (ap (λ (ts : List Token). record { part = new.part; queue = ts; made = new.made; answered = new.answered }) (sym (append-nil new.queue)))
    (e_after ∙ sym (append-nil before))

-- A store: its readers are answered from the list, which is cleared, and then the continuation of the store.
module _ (z : Shape) (listed : List Cont) (c : Cont) (v : Value) where
  in_order : answers (listed ++ c ∷ []) v ≡ answers listed v ++ answer c (Word.Val v) ∷ []
  in_order = map-append (λ (k : Cont). answer k (Word.Val v)) listed (c ∷ [])

  pub here_all : (q : List Token) → (q ++ here z (answers listed v)) ++ here z (answer c (Word.Val v) ∷ []) ≡ q ++ here z (answers (listed ++ c ∷ []) v)
  here_all q = append_assoc q (here z (answers listed v)) (here z (answer c (Word.Val v) ∷ []))
      ∙ ap (λ (ts : List Token). q ++ ts) (sym (filter-append (is_here z) (answers listed v) (answer c (Word.Val v) ∷ []))
      ∙ ap (λ (ts : List Token). here z ts) (sym in_order))

  pub elsewhere_all : (q : List Token) → (q ++ elsewhere z (answers listed v)) ++ elsewhere z (answer c (Word.Val v) ∷ []) ≡ q
      ++ elsewhere z (answers (listed ++ c ∷ []) v)
  elsewhere_all q = append_assoc q (elsewhere z (answers listed v)) (elsewhere z (answer c (Word.Val v) ∷ []))
      ∙ ap (λ (ts : List Token). q ++ ts) (sym (filter-append _ (answers listed v) (answer c (Word.Val v) ∷ []))
      ∙ ap (λ (ts : List Token). elsewhere z ts) (sym in_order))

abbrev pub with_answered : Holding → List Cont → Holding
with_answered h cs = record { part = h.part; queue = h.queue; made = h.made; answered = cs }

pub acts_stored : (p : Program) (old mid second third new : Holding) (at : ℕ) (t : Token) (listed : List Cont) (c : Cont) (v : Value) (part : Part)
    (before between half after : List Token)
    → mid ≡ old → old.answered ≡ [] → between ≡ before → Changes p old.part t (answers (listed ++ c ∷ []) v) part
    → second ≡ taken (with_answered (with_part mid part) listed) at → third ≡ cleared (queued second (answers listed v)) → new
    ≡ queued third (answer c (Word.Val v) ∷ [])
    → half ≡ between ++ elsewhere second.part.shape (answers listed v) → after ≡ half ++ elsewhere third.part.shape (answer c (Word.Val v) ∷ [])
    → Acts p old at t before new after
acts_stored p old mid second third new at t listed c v part before between half after e_mid none e_between changes e_second e_third e_new e_half e_after =
    acts p old old (taken (with_part old part) at) new at t (answers (listed ++ c ∷ []) v) part before between after refl e_between changes refl held sent
  where
    second_is : second ≡ taken (with_answered (with_part old part) listed) at
    second_is = e_second ∙ ap (λ (m : Holding). taken (with_answered (with_part m part) listed) at) e_mid

    third_is : third ≡ cleared (queued (taken (with_answered (with_part old part) listed) at) (answers listed v))
    third_is = e_third ∙ ap (λ (h : Holding). cleared (queued h (answers listed v))) second_is

    held : new ≡ queued (taken (with_part old part) at) (answers (listed ++ c ∷ []) v)
    held = e_new ∙ ap (λ (h : Holding). queued h (answer c (Word.Val v) ∷ [])) third_is
        ∙ ap (λ (ts : List Token). let h : Holding = record { part = part; queue = ts; made = old.made + 1; answered = [] } in h)
        (here_all part.shape listed c v (remove old.queue at))
        ∙ ap (λ (cs : List Cont). let h : Holding = record {
          part = part;
          queue = remove old.queue at
              ++ here part.shape (answers (listed ++ c ∷ []) v);
          made = old.made + 1;
          answered = cs;
        } in h) (sym none)

    sent : after ≡ between ++ elsewhere part.shape (answers (listed ++ c ∷ []) v)
    sent = e_after ∙ ap (λ (h : Holding). half ++ elsewhere h.part.shape (answer c (Word.Val v) ∷ [])) third_is
        ∙ ap (λ (q : List Token). q ++ elsewhere part.shape (answer c (Word.Val v) ∷ []))
        (e_half ∙ ap (λ (h : Holding). between ++ elsewhere h.part.shape (answers listed v)) second_is)
        ∙ elsewhere_all part.shape listed c v between
