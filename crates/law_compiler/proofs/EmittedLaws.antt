-- The laws of emitted code, and of a slot for each holder.
use Rattle.law_compiler.specs.EmittedSameRuns.{EmittedHasSameEvents, EmittedIsFaithful, EmittedReleasesLast, EmittedKeepsBounds, EmittedHoldsAlone, own_slots}
use Rattle.law_compiler.specs.EmittedSameRuns.{OwnSlotsAreGood, OwnSlotsHaveSameEvents, OwnSlotsAreFaithful}
use Rattle.semantics.specs.Placed.{placed}
use Rattle.select.specs.Emitted.{code_of}
use Rattle.law_compiler.proofs.EmittedPrograms.{same_events}
use Rattle.law_compiler.proofs.EmittedPromises.{faithful_kept, releases_kept, credits_kept, holders_kept}
use Rattle.law_compiler.proofs.Emitted.{emitted_alike}
use Rattle.law_compiler.proofs.EmittedOwn.{own_good, own_alike}

pub emitted_events : EmittedHasSameEvents
emitted_events p slots version plan tells = same_events (placed p slots) (code_of version p slots) (emitted_alike p slots version plan tells)

pub emitted_faithful : EmittedIsFaithful
emitted_faithful fl p slots version plan tells h = faithful_kept (placed p slots) (code_of version p slots) (emitted_alike p slots version plan tells) fl h

pub emitted_releases : EmittedReleasesLast
emitted_releases fl p slots version plan tells h = releases_kept (placed p slots) (code_of version p slots) (emitted_alike p slots version plan tells) fl h

pub emitted_credits : EmittedKeepsBounds
emitted_credits fl p slots version plan tells h = credits_kept (placed p slots) (code_of version p slots) (emitted_alike p slots version plan tells) fl p h

pub emitted_holders : EmittedHoldsAlone
emitted_holders fl p slots version plan tells h = holders_kept (placed p slots) (code_of version p slots) (emitted_alike p slots version plan tells) fl p h

pub own_are_good : OwnSlotsAreGood
own_are_good p few = own_good p few

pub own_events : OwnSlotsHaveSameEvents
own_events p plan = same_events p.program (placed p (own_slots p)) (own_alike p plan)

pub own_faithful : OwnSlotsAreFaithful
own_faithful fl p plan h = faithful_kept p.program (placed p (own_slots p)) (own_alike p plan) fl h
