-- How the steps of a run of numbered invocations agree with the meaning, whose invocations have names. What holds of whole
-- runs is in Reporting.
use Rattle.std.specs.Prelude.{◌≡◌, ℕ, suc, List, [], ◌∷◌, ◌++◌, map, Some, if◌then◌else◌, IsPermutation, ⊤}
use Rattle.tags.specs.declared.value.Value.{Value}
use Rattle.semantics.specs.Graph.{Node, Block, Graph, flow_of, resolved_block, array_names, block_names}
use Rattle.semantics.specs.Text.{HasText}
use Rattle.semantics.specs.Meaning.{Context, Activity, taken, block_number, deed, sent_in as sent_from}
use Rattle.oracle.specs.declared.invocations.Made.{Made}
use Rattle.oracle.specs.declared.invocations.Invocation.{Invocation}
use Rattle.oracle.specs.declared.sending.Sent.{Sent}
use Rattle.oracle.specs.declared.tokens.Spot.{Spot}
use Rattle.oracle.specs.declared.tokens.Token.{Token}
use Rattle.oracle.specs.Lines.{same_spot, resolved_in}
use Rattle.oracle.specs.Running.{Matched, Alone, Joins, Fails, join_in}
use Rattle.oracle.specs.Sending.{sent_tokens}
use Rattle.oracle.specs.Meant.{name_in, made_of, tagged_of, deed_of}

abbrev pub block_in : Graph → List ℕ × Block (List ℕ) → Block ℕ
block_in g b = resolved_block (array_names g) (block_names g) b.1

abbrev pub row_in : Graph → Node (List ℕ) → Node ℕ
row_in g n = record { region = n.region; kind = resolved_in g n.kind; sources = n.sources }

abbrev pub token_of : ℕ → Spot → Value → Token
token_of c s v = record { context = c; spot = s; value = v }

-- the tokens of values at spots of an invocation
abbrev pub zipped : ℕ → List Spot → List Value → List Token
zipped c [] vs = []
zipped c (s ∷ ss) [] = []
zipped c (s ∷ ss) (v ∷ vs) = token_of c s v ∷ zipped c ss vs

-- how often a spot is among spots
abbrev pub own : Spot → List Spot → ℕ
own q [] = 0
own q (s ∷ ss) = if same_spot s q then suc (own q ss) else own q ss

-- What is sent on a port is what the meaning sends.
abbrev pub SendingAgrees : Type 0
SendingAgrees = (g : Graph) (cs : List Context) (x : Sent) (made : Made) (n p : ℕ) (b : List ℕ × Block (List ℕ)) → made_of cs made ≡ name_in cs x.context
    → map (tagged_of cs) (sent_tokens x made n p b.1) ≡ sent_from (Some (block_in g b)) (name_in cs x.context) n p x.value

-- A token is joined with its partners: an activity of the meaning takes them, all others are left, and the deed is its own.
abbrev pub IsJoin : Graph → List Context → Token → List Token → Matched → Type 0
IsJoin g cs t waiting Alone = ⊤
IsJoin g cs t waiting (Joins left vs d) =
    (a : Activity) × IsPermutation (map (tagged_of cs) (t ∷ waiting)) (taken a ++ map (tagged_of cs) left) × (deed (flow_of g) a ≡ Some (deed_of cs vs d))
IsJoin g cs t waiting Fails = ⊤

-- Each join is one, where the token's invocation has the name and the block that its number stands for.
abbrev pub JoinsAgree : Type 0
JoinsAgree = (g : Graph) → HasText g → (cs : List Context) (t : Token) (x : Invocation) → made_of cs x.made ≡ name_in cs t.context
    → block_number (flow_of g) (name_in cs t.context) ≡ Some x.block
    → (waiting : List Token) → IsJoin g cs t waiting (join_in g waiting t (Some x))
