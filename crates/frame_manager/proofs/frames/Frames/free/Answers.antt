use Rattle.std.proofs.Common.{◌≡◌, ◌≢◌, ◌/◌, ◌==◌, ℕ, length, ap, ◌∙◌, arith, set, get_or, false}
use Rattle.frame_manager.specs.Bits.{bit_of}
use Rattle.frame_manager.specs.Flags.{out_flags}
use Rattle.frame_manager.proofs.Flagged.{counted, lent_whole, summed_as, summed_with, flags_changed}
use Rattle.frame_manager.proofs.frames.Frames.free.Goals as goal

pub insert-requires : goal.insert-requires
insert-requires g c =
    let below = counted c.self.inside.count c.self.inside.words.items c.args.self.now c.args.frame c.self.view_is c.requires in
    omega (arith, c.self.invariant.covered, c.deref_mut.ensures.len, c.self.inside.words.ok.0)

pub invariant_of-self : goal.invariant_of-self
invariant_of-self g c =
    let words = c.self.inside.words.items in
    let new = c.insert.new.words in
    let below = counted c.self.inside.count words c.args.self.now c.args.frame c.self.view_is c.requires in
    let size : length new ≡ length words = c.insert.auto.words ∙ ap length c.deref_mut.ensures.value in
    let whole = lent_whole c.self.inside.words.len new words size (omega (arith, c.self.inside.words.ok.0)) in
    let others : (i : ℕ) → i ≢ c.args.frame → bit_of new i ≡ bit_of words i = λ i ne. c.insert.ensures.others i ne
    ∙ ap (λ ws. bit_of ws i) c.deref_mut.ensures.value in
    let groups = c.self.inside.groups.items in
    let groups' = c.insert-2.new.words in
    let elsewhere : (w : ℕ) → w ≢ c.args.frame / 64 → get_or new w 0 ≡ get_or words w 0 = λ w ne. c.insert.ensures.elsewhere w ne
    ∙ ap (λ ws. get_or ws w 0) c.deref_mut.ensures.value in
    let gsize : length groups' ≡ length groups = c.insert-2.auto.words ∙ ap length c.deref_mut-2.ensures.value in
    let gwhole = lent_whole c.self.inside.groups.len groups' groups gsize (omega (arith, c.self.inside.groups.ok.0)) in
    let gothers : (i : ℕ) → i ≢ c.args.frame / 64 → bit_of groups' i ≡ bit_of groups i = λ i ne. c.insert-2.ensures.others i ne
    ∙ ap (λ ws. bit_of ws i) c.deref_mut-2.ensures.value in
    summed_as c.self.inside.count new _ groups' _ whole gwhole
    (summed_with c.self.inside.count c.args.frame words new groups groups' c.self.invariant below size gsize c.insert.ensures.there others elsewhere
    c.insert-2.ensures.there gothers)

pub returns : goal.returns
returns g c =
    let words = c.self.inside.words.items in
    let new = c.insert.new.words in
    let below = counted c.self.inside.count words c.args.self.now c.args.frame c.self.view_is c.requires in
    let size : length new ≡ length words = c.insert.auto.words ∙ ap length c.deref_mut.ensures.value in
    let whole = lent_whole c.self.inside.words.len new words size (omega (arith, c.self.inside.words.ok.0)) in
    let others : (i : ℕ) → i ≢ c.args.frame → bit_of new i ≡ bit_of words i = λ i ne. c.insert.ensures.others i ne
    ∙ ap (λ ws. bit_of ws i) c.deref_mut.ensures.value in
    ap (out_flags c.self.inside.count) whole
    ∙ flags_changed c.self.inside.count words new c.args.frame false below (ap (λ b. b == 0) c.insert.ensures.there) others
    ∙ ap (λ flags. set flags c.args.frame false) c.self.view_is
