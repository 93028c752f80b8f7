-- What narrowing keeps: a narrowed plan is the plan with copies inserted, and so it is as faithful, orderly and bounded as the plan.
use Rattle.std.specs.Prelude.{ℕ, List}
use Rattle.semantics.specs.Graph.{Flow}
use Rattle.semantics.specs.Plan.{Plan}
use Rattle.semantics.specs.Sharing.{Good}
use Rattle.code.specs.Sound.{IsSound}
use Rattle.fanout.specs.Narrowed.{narrowed}
use Rattle.law_fresh_frames.specs.Alike.{IsTidy, PassKeeps}
use Rattle.law_fresh_frames.specs.FreshReady.{IsReady, IsFaithfulCode}
use Rattle.law_passes.specs.Spreads.{Spreads}

-- The narrowed code is that of the plan with copies inserted.
abbrev pub NarrowedSpreads : Type 0
NarrowedSpreads = (p : Plan) → IsSound p → IsTidy p → Spreads p (narrowed p)

-- So its runs are the plan's, up to the events of copies, and it keeps what passes must keep.
abbrev pub NarrowingKeeps : Type 0
NarrowingKeeps = PassKeeps narrowed

-- It stays tidy as well, so that another pass may follow.
abbrev pub NarrowedIsTidy : Type 0
NarrowedIsTidy = (p : Plan) → IsSound p → IsTidy p → IsTidy (narrowed p)

-- All that is required of a plan for its code holds after narrowing,
abbrev pub NarrowedIsReady : Type 0
NarrowedIsReady = (fl : Flow) (p : Plan) → IsReady fl p → IsReady fl (narrowed p)

-- and then its code is faithful over any good slots.
abbrev pub NarrowedCodeIsFaithful : Type 0
NarrowedCodeIsFaithful = (fl : Flow) (p : Plan) (slots : List (List ℕ)) → IsReady fl p → Good (narrowed p) slots → IsFaithfulCode fl (narrowed p) slots
