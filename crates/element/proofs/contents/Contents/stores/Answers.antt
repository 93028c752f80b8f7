use Rattle.std.proofs.Common.{◌≡◌, refl, sym, ◌∙◌, ap, subst, List, [], ◌∷◌, ◌++◌, length, Option, Some, None, arith}
use Rattle.std.specs.Prelude.{option_and_then, vec_capacity}
use Rattle.std.proofs.lemmas.Option.{same_Some}
use Rattle.tags.specs.declared.token.Cont.{Cont}
use Rattle.tags.specs.declared.token.Word.{Word}
use Rattle.semantics.specs.Machine.{CellState, Vacant, Full, Deferred, answers}
use Rattle.istructure.specs.declared.StoreAnswer.{StoreAnswer}
use Rattle.istructure.specs.OwnCells.{cell_at, waiting_in, readers_in}
use Rattle.istructure.specs.Answered.{StoredAt}
use Rattle.istructure.specs.Holds.{StoreIsEvent}
use Rattle.element.specs.Holding.{Holding, held_in, taken, with_part}
use Rattle.element.specs.Changed.{with_cells}
use Rattle.element.proofs.Acting.{acts, with_answered}
use Rattle.element.proofs.Changing.{store_changes}
use Rattle.element.proofs.contents.Contents.stores.Goals as goal

empty : (readers : List Cont) → length readers ≡ 0 → readers ≡ []
empty [] none = refl
empty (c ∷ cs) none = absurd (omega arith)

-- of a cell without readers none waits
none_waits : (state : Option CellState) (readers : List Cont) → readers_in state ≡ 0 → option_and_then waiting_in state ≡ Some readers → readers ≡ []
none_waits None readers none waits = absurd (let bad : ⊥ = cc in bad)
none_waits (Some Vacant) readers none waits = sym (same_Some [] readers waits)
none_waits (Some (Full v)) readers none waits = absurd (let bad : ⊥ = cc in bad)
none_waits (Some (Deferred rs)) readers none waits = sym (same_Some rs readers waits) ∙ empty rs none

pub returns-in-Stored-clause-did : goal.returns-in-Stored-clause-did
returns-in-Stored-clause-did g c = λ yes p sound near.
    let old : Holding = held_in c.args.self.now in
    let t = c.args.token.now in
    let cells = c.store.new.self in
    let cont = c.in-Back.cont in
    let x = c.args.cell in
    let v = c.args.value.now in
    let room = vec_capacity c.args.self.now.answered in
    let listed = c.store.new.answers.items in
    let word : t.word ≡ Word.Back cont = sym c.word.ensures ∙ sym c.unpack.ensures ∙ c.in-Back.is in
    let answered : old.answered ≡ [] = c.requires.answered in
    let at_first = subst (λ (cs : List Cont). StoredAt old.part.cells x v room cs StoreAnswer.Stored cells listed) answered c.in-Stored.ensures.exact in
    let event_first = subst (λ (cs : List Cont). StoreIsEvent old.part.cells x v StoreAnswer.Stored cells cs listed) answered c.in-Stored.ensures.event in
    let no_readers : readers_in (cell_at old.part.cells x) ≡ 0 = sym c.readers.ensures ∙ c.if-readers-ne0.false in
    let none : listed ≡ [] = at_first.3 ∙ none_waits (cell_at old.part.cells x) at_first.0 no_readers at_first.1 in
    let at = subst (λ (cs : List Cont). StoredAt old.part.cells x v room [] StoreAnswer.Stored cells cs) none at_first in
    let event = subst (λ (cs : List Cont). StoreIsEvent old.part.cells x v StoreAnswer.Stored cells [] cs) none event_first in
    let changes = store_changes p old.part t x v cont room cells [] sound.part c.requires.address word near c.requires.here at event in
    let second = ap (λ (cs : List Cont). taken (with_answered (with_part old (with_cells old.part cells)) cs) c.args.at) (none ∙ sym answered) in
    acts p old old (taken (with_answered (with_part old (with_cells old.part cells)) listed) c.args.at) (held_in c.answers.new.self) c.args.at t
    (answers ([] ++ cont ∷ []) v) (with_cells old.part cells) c.args.sent.now.items c.args.sent.now.items
    c.answers.new.sent.items
    refl refl changes second c.answers.ensures.held c.answers.ensures.sent
