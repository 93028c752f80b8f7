use Rattle.std.proofs.Common.{◌≡◌, ◌∙◌, subst, ℕ, ◌+◌, ◌*◌, slice_index_or}
use Rattle.std.proofs.lemmas.List.{get_or_default}
use Rattle.tags.specs.declared.slot.SlotState.TheVariants.{Empty}
use Rattle.frame_store.specs.BankViews.{bank_states}
use Rattle.element.specs.Holding.{shape_of}
use Rattle.element.specs.Parts.{slot_place}
use Rattle.element.proofs.Places.{place_there}
use Rattle.element.proofs.contents.Contents.slot_state.Goals as goal

pub returns : goal.returns
returns g c =
    let b = c.args.self.now.bank in
    let z = shape_of c.args.self.now in
    let read : c.state.result ≡ slice_index_or (bank_states b) (slot_place z c.args.frame c.args.slot) c.state.result =
    subst (λ (n : ℕ). c.state.result ≡ slice_index_or (bank_states b) (b.start + (n * b.width + c.args.slot)) c.state.result) c.own_frame.ensures
    c.state.ensures in
    read ∙ get_or_default (bank_states b) (slot_place z c.args.frame c.args.slot) c.state.result Empty
    (place_there z (bank_states b) c.requires.some c.requires.bank c.args.frame c.args.slot c.requires.frame c.requires.slot)
