-- For which contexts a run asks for frames and credits, and how often.
use Rattle.std.specs.Prelude.{◌≡◌, ℕ, ◌≤◌, ◌⊎◌, List, [], ◌∷◌, length, Some, slice_get, count_by, Contains}
use Rattle.semantics.specs.Graph.{Flow}
use Rattle.semantics.specs.Meaning.{Context, Turned}
use Rattle.semantics.specs.Plan.{Plan}
use Rattle.semantics.specs.Cause.{request_count, credit_count, is_turn}
use Rattle.law_net.specs.ContextsParts.{Part, Asked, NextAsked, Opener, Taker, Item}
use Rattle.law_net.specs.Contexts.{child, next}
use Rattle.law_net.specs.ContextsFirings.{Config}
use Rattle.law_net.specs.ContextsMirror.{Past}
use Rattle.law_net.proofs.WiredNets.{all_of}

-- a frame is asked for this context
abbrev pub frame_for : Flow → Context → Part → List Context
frame_for fl c (Asked n) = child fl c n ∷ []
frame_for fl c NextAsked = next c ∷ []
frame_for fl c r = []

-- a credit is asked for this one
abbrev pub credit_for : Context → Part → ℕ → List Context
credit_for c (Opener n) t = Turned c n 0 ∷ []
credit_for c (Taker n) t = Turned c n t ∷ []
credit_for c r t = []

abbrev pub frames : Flow → Item → List Context
frames fl i = frame_for fl i.context i.inlet.part

abbrev pub credits : Item → List Context
credits i = credit_for i.context i.inlet.part i.inlet.way

-- each context once, and at least as many as requests; and as many turns as credits
pub record IsCounted (fl : Flow) (p : Plan) (past : Past) (net : Config) : Type 0 where
  pub due : List Context
  pub arrives : (c : Context) → Contains due c → (i : Item) × Contains (all_of fl net) i × (Contains (frames fl i) c ⊎ Contains (credits i) c)
  pub apart : (i j : ℕ) (c : Context) → slice_get due i ≡ Some c → slice_get due j ≡ Some c → i ≡ j
  pub enough : request_count past.events ≤ length due
  pub turns : credit_count p.program past.events ≤ count_by is_turn due
