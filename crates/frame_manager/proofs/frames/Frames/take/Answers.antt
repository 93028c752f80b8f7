use Rattle.std.proofs.Common.{◌≡◌, ◌≢◌, ◌<◌, ◌/◌, ◌==◌, ℕ, length, ap, sym, refl, ◌∙◌, arith, set, get_or, true}
use Rattle.frame_manager.specs.Bits.{bit_of}
use Rattle.frame_manager.specs.Flags.{out_flags}
use Rattle.std.proofs.lemmas.List.{get_or_read}
use Rattle.frame_manager.proofs.Flagged.{counted, lent_whole, summed_as, summed_without, summed_without_word, flags_changed}
use Rattle.frame_manager.proofs.frames.Frames.take.Goals as goal

pub remove-requires : goal.remove-requires
remove-requires g c =
    let below = counted c.self.inside.count c.self.inside.words.items c.args.self.now c.args.frame c.self.view_is c.requires in
    omega (arith, c.self.invariant.covered, c.deref_mut.ensures.len, c.self.inside.words.ok.0)

pub index-requires : goal.index-requires
index-requires g c =
    let below = counted c.self.inside.count c.self.inside.words.items c.args.self.now c.args.frame c.self.view_is c.requires in
    omega (arith, c.self.invariant.covered, c.self.inside.words.ok.0)

pub remove-requires-then-index-eq0 : goal.remove-requires-then-index-eq0
remove-requires-then-index-eq0 g c =
    let below = counted c.self.inside.count c.self.inside.words.items c.args.self.now c.args.frame c.self.view_is c.requires in
    omega (
      arith,
      c.self.invariant.covered,
      c.self.invariant.grouped,
      c.deref_mut-then-index-eq0.ensures.len,
      c.self.inside.groups.ok.0,
      c.self.inside.words.ok.0,
    )

pub invariant_of-self : goal.invariant_of-self
invariant_of-self g c =
    let words = c.self.inside.words.items in
    let new = c.remove.new.words in
    let below = counted c.self.inside.count words c.args.self.now c.args.frame c.self.view_is c.requires in
    let size : length new ≡ length words = c.remove.auto.words ∙ ap length c.deref_mut.ensures.value in
    let whole = lent_whole c.self.inside.words.len new words size (omega (arith, c.self.inside.words.ok.0)) in
    let others : (i : ℕ) → i ≢ c.args.frame → bit_of new i ≡ bit_of words i = λ i ne. c.remove.ensures.others i ne
    ∙ ap (λ ws. bit_of ws i) c.deref_mut.ensures.value in
    let elsewhere : (w : ℕ) → w ≢ c.args.frame / 64 → get_or new w 0 ≡ get_or words w 0 = λ w ne. c.remove.ensures.elsewhere w ne
    ∙ ap (λ ws. get_or ws w 0) c.deref_mut.ensures.value in
    let inside : c.args.frame / 64 < length new = omega (arith, size, c.self.invariant.covered) in
    let read : c.index.result.now ≡ get_or new (c.args.frame / 64) 0 = get_or_read new (c.args.frame / 64) c.index.result.now inside (c.index.ensures
    ∙ ap (λ ws. get_or ws (c.args.frame / 64) c.index.result.now) whole) 0 in
    let groups = c.self.inside.groups.items in
    let groups' = c.remove-then-index-eq0.new.words in
    let gsize : length groups' ≡ length groups = c.remove-then-index-eq0.auto.words ∙ ap length c.deref_mut-then-index-eq0.ensures.value in
    let gwhole = lent_whole c.self.inside.groups.len groups' groups gsize (omega (arith, c.self.inside.groups.ok.0)) in
    let gothers : (i : ℕ) → i ≢ c.args.frame / 64 → bit_of groups' i ≡ bit_of groups i = λ i ne. c.remove-then-index-eq0.ensures.others i ne
    ∙ ap (λ ws. bit_of ws i) c.deref_mut-then-index-eq0.ensures.value in
    summed_as c.self.inside.count new _ groups' _ whole gwhole
    (summed_without_word c.self.inside.count c.args.frame words new groups groups' c.self.invariant below size gsize others elsewhere (sym read
    ∙ c.if-index-eq0.true) c.remove-then-index-eq0.ensures.gone gothers)

pub invariant_of-self-else-index-eq0 : goal.invariant_of-self-else-index-eq0
invariant_of-self-else-index-eq0 g c =
    let words = c.self.inside.words.items in
    let new = c.remove.new.words in
    let below = counted c.self.inside.count words c.args.self.now c.args.frame c.self.view_is c.requires in
    let size : length new ≡ length words = c.remove.auto.words ∙ ap length c.deref_mut.ensures.value in
    let whole = lent_whole c.self.inside.words.len new words size (omega (arith, c.self.inside.words.ok.0)) in
    let others : (i : ℕ) → i ≢ c.args.frame → bit_of new i ≡ bit_of words i = λ i ne. c.remove.ensures.others i ne
    ∙ ap (λ ws. bit_of ws i) c.deref_mut.ensures.value in
    let elsewhere : (w : ℕ) → w ≢ c.args.frame / 64 → get_or new w 0 ≡ get_or words w 0 = λ w ne. c.remove.ensures.elsewhere w ne
    ∙ ap (λ ws. get_or ws w 0) c.deref_mut.ensures.value in
    let inside : c.args.frame / 64 < length new = omega (arith, size, c.self.invariant.covered) in
    let read : c.index.result.now ≡ get_or new (c.args.frame / 64) 0 = get_or_read new (c.args.frame / 64) c.index.result.now inside (c.index.ensures
    ∙ ap (λ ws. get_or ws (c.args.frame / 64) c.index.result.now) whole) 0 in
    let stays : get_or words (c.args.frame / 64) 0 ≡ 0 → get_or new (c.args.frame / 64) 0
    ≡ 0 = λ z. c.remove.ensures.empty (ap (λ ws. get_or ws (c.args.frame / 64) 0) c.deref_mut.ensures.value ∙ z) in
    summed_as c.self.inside.count new _ c.self.inside.groups.items _ whole refl
    (summed_without c.self.inside.count c.args.frame words new c.self.inside.groups.items c.self.invariant below size others elsewhere stays
    (λ z. c.if-index-eq0.false (read ∙ z)))

pub returns-then-index-eq0 : goal.returns-then-index-eq0
returns-then-index-eq0 g c =
    let words = c.self.inside.words.items in
    let new = c.remove.new.words in
    let below = counted c.self.inside.count words c.args.self.now c.args.frame c.self.view_is c.requires in
    let size : length new ≡ length words = c.remove.auto.words ∙ ap length c.deref_mut.ensures.value in
    let whole = lent_whole c.self.inside.words.len new words size (omega (arith, c.self.inside.words.ok.0)) in
    let others : (i : ℕ) → i ≢ c.args.frame → bit_of new i ≡ bit_of words i = λ i ne. c.remove.ensures.others i ne
    ∙ ap (λ ws. bit_of ws i) c.deref_mut.ensures.value in
    ap (out_flags c.self.inside.count) whole
    ∙ flags_changed c.self.inside.count words new c.args.frame true below (ap (λ b. b == 0) c.remove.ensures.gone) others
    ∙ ap (λ flags. set flags c.args.frame true) c.self.view_is

pub returns-else-index-eq0 : goal.returns-else-index-eq0
returns-else-index-eq0 g c =
    let words = c.self.inside.words.items in
    let new = c.remove.new.words in
    let below = counted c.self.inside.count words c.args.self.now c.args.frame c.self.view_is c.requires in
    let size : length new ≡ length words = c.remove.auto.words ∙ ap length c.deref_mut.ensures.value in
    let whole = lent_whole c.self.inside.words.len new words size (omega (arith, c.self.inside.words.ok.0)) in
    let others : (i : ℕ) → i ≢ c.args.frame → bit_of new i ≡ bit_of words i = λ i ne. c.remove.ensures.others i ne
    ∙ ap (λ ws. bit_of ws i) c.deref_mut.ensures.value in
    ap (out_flags c.self.inside.count) whole
    ∙ flags_changed c.self.inside.count words new c.args.frame true below (ap (λ b. b == 0) c.remove.ensures.gone) others
    ∙ ap (λ flags. set flags c.args.frame true) c.self.view_is
