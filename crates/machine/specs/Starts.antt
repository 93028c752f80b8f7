-- How runners are made of lanes and seats, and what is known of them once they have left.
use Rattle.std.specs.Prelude.{◌≡◌, ℕ, ◌<◌, ◌⊎◌, List, [], length, map, All, Bool, Some, slice_get, slice_index_or, ◌++◌, IsPermutation}
use Rattle.crossbeam_utils.specs.declared.cache_padded.CachePadded.{CachePadded}
use Rattle.crossbeam_utils.specs.Padded.{padded_value}
use Rattle.tags.specs.declared.token.Token.{Token}
use Rattle.element.specs.Near.{Bounds}
use Rattle.element.specs.Holding.{Holding, Fixed, held_of, fixed_of}
use Rattle.schedule.specs.declared.halt.Halt.{Halt}
use Rattle.schedule.specs.declared.take.Take.{Take}
use Rattle.schedule.specs.Setting.{Setting}
use Rattle.mesh.specs.Seats.{MeshId, SeatView}
use Rattle.semantics.specs.Machine.{Events}
use Rattle.law_linearization.specs.History.{Block}
use Rattle.ordering.specs.declared.log.BlockLog.{BlockLog}
use Rattle.ordering.specs.Noted.{noted_in, nothing}
use Rattle.ordering.specs.Orders.{IsHistory, IsOrdered}
use Rattle.machine.specs.declared.belongings.Belongings.{Belongings}
use Rattle.machine.specs.declared.runner.Departure.{Departure}
use Rattle.machine.specs.declared.runner.Runner.{Runner}
use Rattle.machine.specs.Bundles.{BundleView}
use Rattle.machine.specs.Runners.{IsClear, Ended}
use Rattle.rounds.specs.Counted.{IsFirst, NoneHalts}
use Rattle.machine.specs.Ends.{reasons_of}

abbrev pub lane_in : {C A L : Type 0} → CachePadded (Runner C A L) → Holding
lane_in p = held_of (padded_value p).lane

abbrev pub seat_of : {C A L : Type 0} → CachePadded (Runner C A L) → SeatView
seat_of p = (padded_value p).seat

abbrev pub departure_of : {C A L : Type 0} → CachePadded (Runner C A L) → Departure
departure_of p = (padded_value p).departure

abbrev pub notes_of : {C A L : Type 0} → CachePadded (Runner C A L) → BlockLog A
notes_of p = (padded_value p).notes

abbrev pub lanes_in : {C A L : Type 0} → List (CachePadded (Runner C A L)) → List Holding
lanes_in ps = map lane_in ps

abbrev pub lane_fixed : {C A L : Type 0} → CachePadded (Runner C A L) → Fixed
lane_fixed p = fixed_of (padded_value p).lane

abbrev pub lanes_fixed : {C A L : Type 0} → List (CachePadded (Runner C A L)) → List Fixed
lanes_fixed ps = map lane_fixed ps

abbrev pub seats_in : {C A L : Type 0} → List (CachePadded (Runner C A L)) → List SeatView
seats_in ps = map seat_of ps

abbrev pub departures_in : {C A L : Type 0} → List (CachePadded (Runner C A L)) → List Departure
departures_in ps = map departure_of ps

abbrev pub logs_in : {C A L : Type 0} → List (CachePadded (Runner C A L)) → List (BlockLog A)
logs_in ps = map notes_of ps

-- Of each history that has these logs the list has the events after those that it had, in some legal order of the same blocks.
abbrev pub Lists : {A : Type 0} → List (BlockLog A) → List Token → Events → Events → Type 0
Lists logs opening old new =
    (log : List Block) (start last : List Token) → IsHistory logs log start last → IsPermutation opening start → (made : Events)
    × IsOrdered (length logs) log start last made × (new ≡ old ++ made)

-- n bundles, all empty, for what there is
abbrev pub AreEmpty : ℕ → Bounds → List BundleView → Type 0
AreEmpty n bounds unposted = (length unposted ≡ n) × All (λ b. (b.tokens ≡ []) × (b.bounds ≡ bounds)) unposted

-- lists with nothing
pub record AreBlank {A L : Type 0} (n : ℕ) (bounds : Bounds) (l : Belongings A L) : Type 0 where
  pub unqueued : l.unqueued.tokens ≡ []
  pub sent : l.sent.items ≡ []
  pub unposted : AreEmpty n bounds l.unposted.items
  pub notes : noted_in l.notes ≡ nothing
  pub log : l.log.events.items ≡ []

-- it holds no token outside its queue, and has made none
pub record IsNew {C A L : Type 0} (n : ℕ) (bounds : Bounds) (r : Runner C A L) : Type 0 where
  pub clear : IsClear r
  pub unposted : AreEmpty n bounds r.unposted.items
  pub created : r.created ≡ 0
  pub notes : noted_in r.notes ≡ nothing
  pub log : r.log.events.items ≡ []

-- no element is lost; of those that halted the one of least number has this reason, or none halted and one saw that no token is live
abbrev pub IsHaltOf : List Departure → Halt → Type 0
IsHaltOf departures halt =
    ((i : ℕ) → slice_get departures i ≡ Some Departure.Lost → ⊥)
    × (IsFirst (reasons_of departures) halt
    ⊎ (((e : ℕ) × (slice_get departures e ≡ Some Departure.Rested)) × NoneHalts (reasons_of departures) × (halt ≡ Halt.NoToken)))

-- all wait in vain
abbrev pub AllWait : {C A L : Type 0} → List (CachePadded (Runner C A L)) → Type 0
AllWait {C} {A} {L} ps = All (λ (p : CachePadded (Runner C A L)). departure_of p ≡ Departure.Waited) ps

-- all have run
abbrev pub AllEnded : {C A L : Type 0} → Take → Bool → Setting → MeshId → Bool → List (CachePadded (Runner C A L)) → List (CachePadded (Runner C A L)) → Type 0
AllEnded order keeps_events g mesh may_stop olds news = (i : ℕ) (d : _) → i < length olds
    → Ended order keeps_events g mesh may_stop (padded_value (slice_index_or olds i d)) (padded_value (slice_index_or news i d))
