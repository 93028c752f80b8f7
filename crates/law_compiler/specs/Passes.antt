-- The passes one after another: what they keep of a plan, and that its code is faithful.
use Rattle.std.specs.Prelude.{ℕ, List}
use Rattle.semantics.specs.Graph.{Flow}
use Rattle.semantics.specs.Plan.{Plan}
use Rattle.semantics.specs.Sharing.{Good}
use Rattle.code.specs.Sound.{IsSound}
use Rattle.folding.specs.Folded.{folded}
use Rattle.fanout.specs.Narrowed.{narrowed}
use Rattle.law_fresh_frames.specs.Alike.{IsTidy, Keeps}
use Rattle.law_fresh_frames.specs.FreshReady.{IsReady, IsFaithfulCode}

-- Folding keeps a plan tidy,
abbrev pub FoldedIsTidy : Type 0
FoldedIsTidy = (p : Plan) → IsSound p → IsTidy p → IsTidy (folded p)

-- and all that is required of it for its code, if it keeps what passes must keep.
abbrev pub FoldedIsReady : Type 0
FoldedIsReady = (fl : Flow) (p : Plan) → Keeps p (folded p) → IsReady fl p → IsReady fl (folded p)

-- So the code that the compiler makes of the plan is faithful over any good slots, and uses frames and slots again rightly.
abbrev pub PassesSuffice : Type 0
PassesSuffice = (fl : Flow) (p : Plan) (slots : List (List ℕ)) → Keeps p (folded p) → IsReady fl p → Good (narrowed (folded p)) slots
    → IsFaithfulCode fl (narrowed (folded p)) slots
