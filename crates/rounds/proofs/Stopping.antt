-- A turn by depth that a gate may stop.
use Rattle.std.proofs.Common.{◌≡◌, refl, ℕ, ◌+◌, ◌<◌, ◌≤◌, ◌⊎◌, inl, inr, Bool, true, false, List, [], length, Option, Some, None, arith}
use Rattle.tags.specs.declared.token.Token.{Token}
use Rattle.semantics.specs.Program.{Program}
use Rattle.element.specs.Holding.{Holding}
use Rattle.schedule.specs.declared.halt.Halt.{Halt}
use Rattle.schedule.proofs.Playing.{logged_none}
use Rattle.rounds.specs.Turns.{Turned}
use Rattle.rounds.specs.ByDepth.{GrantsNone, MayGrant, MayTake, TurnsByDepth, EndsGranting, HaltsTaking, TakesTurnByDepth}

halts_stopping : (may : Holding → ℕ → Type 0) (p : Program) (steps : ℕ) (may_stop : Bool) (h : Holding) (halt : Option Halt)
    → HaltsTaking may p steps false h halt → HaltsTaking may p steps may_stop h halt
halts_stopping may p steps may_stop h None halts = halts
halts_stopping may p steps may_stop h (Some Halt.NoToken) halts = halts
halts_stopping may p steps may_stop h (Some (Halt.Clash cell)) halts = halts
halts_stopping may p steps may_stop h (Some Halt.Steps) halts = halts
halts_stopping may p steps may_stop h (Some (Halt.Stuck rule)) halts = halts
halts_stopping may p steps may_stop h (Some Halt.Memory) halts = halts
halts_stopping may p steps may_stop h (Some Halt.Stop) halts = absurd (let no : ⊥ = cc in no)

ends_stopping : (may : Holding → ℕ → Type 0) (p : Program) (steps turn : ℕ) (may_stop : Bool) (old new : Holding) (halt : Option Halt)
    → EndsGranting may p steps turn false old new halt → EndsGranting may p steps turn may_stop old new halt
ends_stopping may p steps turn may_stop old new None ends = ends
ends_stopping may p steps turn may_stop old new (Some halt) ends = halts_stopping may p steps may_stop new (Some halt) ends

-- a turn that no gate stopped is one that a gate may stop
pub turns_stopping : (p : Program) (steps turn ordinary : ℕ) (may_stop : Bool) (old : Holding) (before taken : List Token) (new : Holding)
    (after : List Token) (halt : Option Halt) → TurnsByDepth p steps turn ordinary false old before taken new after halt
    → TurnsByDepth p steps turn ordinary may_stop old before taken new after halt
turns_stopping p steps turn ordinary may_stop old before taken new after halt turns = record {
  granted = turns.granted;
  later = turns.later;
  all = turns.all;
  mid = turns.mid;
  sent = turns.sent;
  grants = turns.grants;
  takes = turns.takes;
  ended = by_end turns.ended;
}
  where
    by_end : (GrantsNone (ordinary + length turns.granted) turns.mid × HaltsTaking (MayTake 0) p steps false new halt)
        ⊎ ((turns.later ≡ []) × EndsGranting (MayGrant ordinary (length turns.granted)) p steps turn false old new halt)
        → (GrantsNone (ordinary + length turns.granted) turns.mid × HaltsTaking (MayTake 0) p steps may_stop new halt)
        ⊎ ((turns.later ≡ []) × EndsGranting (MayGrant ordinary (length turns.granted)) p steps turn may_stop old new halt)
    by_end (inl (none, halts)) = inl (none, halts_stopping (MayTake 0) p steps may_stop new halt halts)
    by_end (inr (nothing, ends)) =
        inr (nothing, ends_stopping (MayGrant ordinary (length turns.granted)) p steps turn may_stop old new halt ends)

-- a turn that a gate stopped
pub turn_stopped : (p : Program) (steps turn ordinary : ℕ) (keeps_events may_stop : Bool) (old : Turned) → may_stop ≡ true → 0 < length old.held.queue
    → TakesTurnByDepth p steps turn ordinary keeps_events may_stop old
    (record { held = old.held; sent = old.sent; log = old.log; halt = Some Halt.Stop })
turn_stopped p steps turn ordinary keeps_events may_stop old may some = record {
  taken = [];
  turns = record {
    granted = [];
    later = [];
    all = refl;
    mid = old.held;
    sent = old.sent;
    grants = (refl, refl);
    takes = (refl, refl);
    ended = inr (refl, may);
  };
  noted = logged_none keeps_events old.log;
  few = omega arith;
  whole = (refl, some);
}
