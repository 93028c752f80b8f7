use Rattle.std.proofs.Common.{◌≡◌, ℕ, ◌%◌, [], ◌∷◌, sym, ap, ◌∙◌, refl, subst, arith}
use Rattle.tags.specs.declared.token.Cont.{Cont}
use Rattle.tags.specs.declared.token.Word.{Word}
use Rattle.packed.specs.Packing.{Parts, head_of, cont_parts, cont_from, word_from, parts_from, state_from, slot_from, slot_words}
use Rattle.packed.specs.PackedTokens.{AreWordsOf, AreWords}
use Rattle.packed.proofs.Unpacked.{small_word, first_word, second_word}
use Rattle.packed.proofs.TokensBack.{parts_back}
use Rattle.frame_store.proofs.slot.Slot.waiter.Goals as goal

abbrev IsBack : Parts → Type 0
IsBack p = word_from p ≡ Word.Back (cont_from p)

is_back : (c : Cont) (y : ℕ) → IsBack (record { kind = (cont_parts c).kind; port = (cont_parts c).port; high = (cont_parts c).high; body = y })
is_back (Cont.Frame f ip p) y = refl
is_back (Cont.Host p) y = refl

-- the words of a continuation that waits are those of the continuation as a word
are_words : (x y : ℕ) → slot_words (slot_from x y) ≡ x ∷ y ∷ [] → x % 256 ≡ 4 → AreWords x y
are_words x y own waits =
    let c : Cont = cont_from (parts_from x y) in
    let words = ap (λ s. slot_words (state_from s (parts_from x y))) (sym waits) ∙ own in
    let head : head_of 4 (cont_parts c) ≡ x = ap first_word words in
    let body : (cont_parts c).body ≡ y = ap second_word words in
    let parts = ap (λ k. parts_from k y) (sym head) ∙ parts_back 4 (cont_parts c) y (omega arith) (small_word (Word.Back c)) in
    let back : IsBack (parts_from x y) = subst IsBack (sym parts) (is_back c y) in
    let of_back : AreWordsOf 4 (Word.Back c) x y = record { head = sym head; body = sym body } in
    record { state = 4; below = omega arith; words = subst (λ w. AreWordsOf 4 w x y) (sym back) of_back }

pub from_words-requires : goal.from_words-requires
from_words-requires c = are_words c.self.inside.head c.self.inside.body c.self.invariant c.if-self-eq4.true
