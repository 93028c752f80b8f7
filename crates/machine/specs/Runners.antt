-- What holds of an element that runs freely.
use Rattle.std.specs.Prelude.{◌≡◌, ◌≢◌, ℕ, ◌+◌, ◌-◌, ◌≤◌, ◌<◌, ◌^◌, List, [], ◌++◌, map, take, drop, length, Bool, Some, IsPermutation, All}
use Rattle.std.specs.Prelude.{slice_index_or, ⊤, true, if◌then◌else◌, ◌∷◌}
use Rattle.std.specs.List.{flat_map}
use Rattle.tags.specs.declared.token.Token.{Token}
use Rattle.element.specs.Near.{IsNearToken}
use Rattle.element.specs.Holding.{Holding, held_of, fixed_of, with_queue}
use Rattle.schedule.specs.declared.take.Take.{Take}
use Rattle.schedule.specs.Setting.{Setting}
use Rattle.schedule.specs.State.{IsPlaced, RunsAs}
use Rattle.schedule.specs.Steps.{logged}
use Rattle.mesh.specs.declared.view.Deed.{Deed}
use Rattle.mesh.specs.Deeds.{commits_of, created}
use Rattle.mesh.specs.Seats.{MeshId, AllTo, Leaves}
use Rattle.rounds.specs.Turns.{by}
use Rattle.ordering.specs.declared.log.Counts.{Counts}
use Rattle.ordering.specs.Noted.{Noted, noted_in}
use Rattle.ordering.specs.Logs.{Logs}
use Rattle.semantics.specs.Machine.{Events}
use Rattle.law_linearization.specs.History.{Act, Block, Blocks, Chain, Flows, bounds_of, commit_of, count_acts}
use Rattle.law_linearization.specs.HistoryLaws.{IsBalanced}
use Rattle.machine.specs.Bundles.{BundleView}
use Rattle.machine.specs.Blocks.{turn_of, IsShort}
use Rattle.machine.specs.ByDepth.{HasNone, HasNoReason, HaltsFreely}
use Rattle.machine.specs.declared.runner.Departure.{Departure}
use Rattle.machine.specs.declared.runner.Runner.{Runner}

-- what it holds outside its queue: unqueued, in bundles, and not bundled yet
abbrev pub away : {C A L : Type 0} → Runner C A L → List Token
away r = r.unqueued.tokens ++ (flat_map (λ b. b.tokens) r.unposted.items ++ drop r.bundled r.sent.items)

-- An element that began with the lane `start` has done these deeds and holds these tokens: its blocks of events have led its part
-- on, each with a commit, its account is balanced, and what it holds is its queue and what is outside it.
pub record Ran (g : Setting) (mesh : MeshId) (e : ℕ) (start held : Holding) (deeds : List Deed) (tokens beside : List Token)
    (blocks : List Block) : Type 0 where
  pub elements : mesh.elements ≡ g.elements
  pub placed : IsPlaced g e held
  pub leads : Blocks g e start.part blocks held.part
  pub count : held.made ≡ start.made + count_acts blocks
  pub commits : map commit_of blocks ≡ commits_of e deeds
  pub balanced : IsBalanced g.elements start.queue (record { element = e; deeds = deeds; held = tokens; last = [] })
  pub holds : IsPermutation tokens (held.queue ++ beside)

-- each bundle is for its element and names only frames and cells that there are, as does what was sent; and the element counts what it makes
pub record IsTidy {C A L : Type 0} (g : Setting) (r : Runner C A L) : Type 0 where
  pub count : length r.unposted.items ≡ g.elements
  pub addressed : (i : ℕ) (d : _) → i < g.elements → AllTo g.elements i (slice_index_or r.unposted.items i d).tokens
  pub within : (i : ℕ) (d : _) → i < g.elements → (slice_index_or r.unposted.items i d).bounds ≡ bounds_of g
  pub near : All (IsNearToken (bounds_of g)) r.sent.items
  pub created : created r.seat.own.deeds ≡ r.created
  pub few : r.created ≤ 2 ^ 40

pub record IsRunning {C A L : Type 0} (keeps_events : Bool) (g : Setting) (mesh : MeshId) (start : Holding) (r : Runner C A L) : Type 0 where
  pub at : r.seat.mesh ≡ mesh
  pub alone : r.seat.joined ≡ []
  -- its lane runs the code of the machine
  pub runs : RunsAs g (fixed_of r.lane)
  pub blocks : List Block
  pub ran : Ran g mesh r.seat.own.element start (held_of r.lane) r.seat.own.deeds r.seat.own.held (away r) blocks
  -- each block has no more events than a turn of the element
  pub short : All (IsShort g) blocks
  pub tidy : IsTidy g r
  -- where events are listed it has noted its blocks
  pub noted : keeps_events ≡ true → Logs (noted_in r.notes) blocks
  pub unlogged : r.log.events.items ≡ []

-- it runs, from some start
abbrev pub Runs : {C A L : Type 0} → Bool → Setting → MeshId → Runner C A L → Type 0
Runs keeps_events g mesh r = (start : Holding) × IsRunning keeps_events g mesh start r

-- whatever it started from, it runs on from there
abbrev pub Keeps : {C A L : Type 0} → Bool → Setting → MeshId → Runner C A L → Runner C A L → Type 0
Keeps keeps_events g mesh old new = (start : Holding) → IsRunning keeps_events g mesh start old → IsRunning keeps_events g mesh start new

-- all tokens are in the queue or in bundles
abbrev pub IsClear : {C A L : Type 0} → Runner C A L → Type 0
IsClear r = (r.unqueued.tokens ≡ []) × (r.sent.items ≡ []) × (r.bundled ≡ 0)

-- The lane has these tokens more, last in its queue. They name what there is. The memory of the bundle may be reused.
pub record Receives {C A L : Type 0} (g : Setting) (old : Runner C A L) (tokens : List Token) (new : Runner C A L) : Type 0 where
  pub near : All (IsNearToken (bounds_of g)) tokens
  pub lane : held_of new.lane ≡ with_queue (held_of old.lane) (old.lane.held.queue ++ tokens)
  pub fixed : fixed_of new.lane ≡ fixed_of old.lane
  pub others : new ≡ record old { lane = new.lane; spare = new.spare }

-- the seat is the same element's at the same mesh
abbrev pub StaysAt : {C A L : Type 0} → Runner C A L → Runner C A L → Type 0
StaysAt old new = (new.seat.mesh ≡ old.seat.mesh) × (new.seat.joined ≡ old.seat.joined) × (new.seat.own.element ≡ old.seat.own.element)

-- why it left, by the order in which the elements take their tokens; `may_stop`: the gate may answer false
abbrev pub IsDeparture : {C A L : Type 0} → Take → Setting → Bool → Runner C A L → Departure → Type 0
IsDeparture order g may_stop r Departure.Lost = ⊤
IsDeparture order g may_stop r (Departure.Halted halt) = HaltsFreely order g may_stop (held_of r.lane) (Some halt)
IsDeparture order g may_stop r Departure.Rested = Leaves r.seat.mesh r.seat.own.last 0 × HasNoReason order g (held_of r.lane)
IsDeparture order g may_stop r Departure.Stopped = HasNoReason order g (held_of r.lane)
IsDeparture order g may_stop r Departure.Waited = HasNone order (held_of r.lane)

-- what is known of an element that has run
pub record Ended {C A L : Type 0} (order : Take) (keeps_events : Bool) (g : Setting) (mesh : MeshId) (may_stop : Bool) (old new : Runner C A L) : Type 0 where
  pub stays : StaysAt old new
  pub keeps : new.departure ≢ Departure.Lost → Keeps keeps_events g mesh old new
  pub departure : IsDeparture order g may_stop new new.departure
  -- one that waited in vain may go on
  pub clear : new.departure ≡ Departure.Waited → IsClear new

-- Events of element e, one after another: they took these tokens, and led its part on.
pub record Made (g : Setting) (e : ℕ) (old : Holding) (acts : List Act) (taken : List Token) (new : Holding) : Type 0 where
  pub placed : IsPlaced g e new
  pub chain : Chain g e old.part acts new.part
  pub takes : map (λ (a : Act). a.token) acts ≡ taken
  pub count : new.made ≡ old.made + length acts

-- WHAT A BLOCK SPENT, and what it made: of the tokens that it took, the first so many. They were in the queue before it, in any places. The others of that
-- queue are still the first ones, and behind them is what the block made and left there.
pub record Spends (old new : Holding) (sent : List Token) (acts : List Act) (taken : List Token) (spent : ℕ) : Type 0 where
  pub gone : List Token
  pub later : List Token
  pub keep : List Token
  pub more : List Token
  pub first : taken ≡ gone ++ later
  pub count : spent ≡ length gone
  pub before : IsPermutation old.queue (gone ++ keep)
  pub after : new.queue ≡ keep ++ more
  pub flows : Flows gone acts (more ++ sent)

-- The lane has taken tokens since it was `old`, an event each, and the block that they make has no commit yet. The queue had
-- `before` tokens before, `events` events were made, and they spent `spent` of these tokens.
pub record HasMade {C A L : Type 0} (keeps_events : Bool) (g : Setting) (mesh : MeshId) (start old : Holding) (before events spent : ℕ)
    (r : Runner C A L) : Type 0 where
  pub at : r.seat.mesh ≡ mesh
  pub alone : r.seat.joined ≡ []
  -- its lane runs the code of the machine
  pub runs : RunsAs g (fixed_of r.lane)
  pub blocks : List Block
  pub ran : Ran g mesh r.seat.own.element start old r.seat.own.deeds r.seat.own.held (r.unqueued.tokens ++ flat_map (λ b. b.tokens) r.unposted.items) blocks
  pub short : All (IsShort g) blocks
  pub tidy : IsTidy g r
  pub noted : keeps_events ≡ true → Logs (noted_in r.notes) blocks
  pub acts : List Act
  pub taken : List Token
  pub made : Made g r.seat.own.element old acts taken (held_of r.lane)
  pub spends : Spends old (held_of r.lane) r.sent.items acts taken spent
  pub before_is : before ≡ length old.queue
  pub events_are : events ≡ length taken
  -- no more than a turn of the element has
  pub few : events ≤ turn_of g r.seat.own.element
  pub unbundled : r.bundled ≡ 0
  pub log : r.log.events.items ≡ logged keeps_events [] (by old.part.shape.element taken)

-- the tokens of these events
abbrev pub tokens_of : Events → List Token
tokens_of log = map (λ (ev : ℕ × Token). ev.1) log

-- a block that made this number of tokens: what it left in the queue, and what the queue had before and has still
abbrev pub left_last : {C A L : Type 0} → Runner C A L → ℕ → List Token
left_last r made = drop (length r.lane.held.queue - (made - length r.sent.items)) r.lane.held.queue ++ r.sent.items

abbrev pub still_first : {C A L : Type 0} → Runner C A L → ℕ → List Token
still_first r made = take (length r.lane.held.queue - (made - length r.sent.items))
    r.lane.held.queue ++ (r.unqueued.tokens ++ flat_map (λ b. b.tokens) r.unposted.items)

-- each bundle is for what the token names
abbrev pub Fits : ℕ → List BundleView → Token → Type 0
Fits n bundles t = (i : ℕ) (d : BundleView) → i < n → IsNearToken (slice_index_or bundles i d).bounds t

-- The bundles have these tokens more, in some order, and each is still for its element, and for what there is.
pub record KeepsTokens (n : ℕ) (old new : List BundleView) (more : List Token) : Type 0 where
  pub count : length new ≡ length old
  pub tokens : IsPermutation (flat_map (λ b. b.tokens) new) (flat_map (λ b. b.tokens) old ++ more)
  pub addressed : ((i : ℕ) (d : BundleView) → i < n → AllTo n i (slice_index_or old i d).tokens) → (i : ℕ) (d : BundleView) → i < n
      → AllTo n i (slice_index_or new i d).tokens
  pub bounds : (i : ℕ) (d : BundleView) → i < n → (slice_index_or new i d).bounds ≡ (slice_index_or old i d).bounds

-- a log with one block more: the tokens that its events took, those that it made, and its counts
abbrev pub behind_all : Noted → List Token → List Token → Counts → Noted
behind_all n taken made c = record { taken = n.taken ++ taken; made = n.made ++ made; blocks = n.blocks ++ c ∷ [] }

-- The block in the log of the turn is noted, where events are listed, with the numbers of tokens that it spent and made.
pub record NotesBlock {C A L : Type 0} (keeps_events : Bool) (spent made : ℕ) (old new : Runner C A L) : Type 0 where
  pub others : new ≡ record old { log = new.log; notes = new.notes }
  pub log : new.log.events.items ≡ (if keeps_events then [] else old.log.events.items)
  pub notes : keeps_events ≡ true → noted_in new.notes ≡ behind_all (noted_in old.notes) (tokens_of old.log.events.items) (left_last old made)
      (record { events = length old.log.events.items; spent = spent; made = made })
