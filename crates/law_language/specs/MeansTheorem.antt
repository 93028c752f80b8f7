-- THE THEOREM: what a program's graph has at rest is what the program computes. And what it rests on.
use Rattle.std.specs.Prelude.{◌≡◌, ℕ, ◌<◌, ℤ, List, [], ◌∷◌, Option, Some, None, Ok, slice_get}
use Rattle.tags.specs.declared.value.Origin.{Origin}
use Rattle.semantics.specs.Graph.{Graph, flow_of}
use Rattle.semantics.specs.WellFormed.{WellFormed}
use Rattle.semantics.specs.Meaning as Meaning
use Rattle.semantics.specs.Meaning.{Context, State, Activity, Run, AtRest, start}
use Rattle.semantics.specs.Machine.{Machine}
use Rattle.semantics.specs.Faithful.{IsExact, NoReader}
use Rattle.semantics.specs.Cause.{SameSeen}
use Rattle.law_confluence.specs.Outcome.{AreInputsOf, NoClash}
use Rattle.law_confluence.specs.EquationsSettled.{NoneWaits}
use Rattle.source.specs.Tree.{Name, Function, Program}
use Rattle.source.specs.declared.token.Token.{Token}
use Rattle.source.specs.Tokens.{lexed}
use Rattle.source.specs.Spelled.{Spelling, program_tokens, AreSpelled}
use Rattle.source.specs.Rules.{function_in}
use Rattle.source.specs.Lowered.{MadeBlock, function_blocks, made_blocks}
use Rattle.source.specs.Theorem.{Computes, IsLowered, MeansTheSame}
use Rattle.law_language.specs.MeansHolds.{AreTraced, HasBlocks}
use Rattle.law_language.specs.Means.{MeansIn}

-- PLACES. No two tokens of the program have one place. This holds for each tree that a text has; in other trees an origin could be
-- that of another token.
abbrev pub and_place : Option ℕ → List ℕ → List ℕ
and_place None ns = ns
and_place (Some n) ns = n ∷ ns

abbrev pub places : List Spelling → List ℕ
places [] = []
places (t ∷ ts) = and_place t.place (places ts)

abbrev pub PlacesDiffer : Program → Type 0
PlacesDiffer p = (i j at : ℕ) → slice_get (places (program_tokens p)) i ≡ Some at → slice_get (places (program_tokens p)) j ≡ Some at → i ≡ j

pub record IsLoweredApart (p : Program) (g : Graph) (origin : ℕ → Origin) : Type 0 where
  pub lowered : IsLowered p g origin
  pub apart : PlacesDiffer p

abbrev pub LoweringKeepsMeaning : Type 0
LoweringKeepsMeaning = MeansTheSame IsLoweredApart

-- TEXTS. The tokens of a text are one after the other, so no two tokens of its tree have one place.
abbrev pub Rise : List Token → Type 0
Rise ts = (i j : ℕ) (t u : Token) → slice_get ts i ≡ Some t → slice_get ts j ≡ Some u → i < j → t.at < u.at

abbrev pub TokensRise : Type 0
TokensRise = (text : List ℕ) (ts : List Token) → lexed text ≡ Ok ts → Rise ts

abbrev pub SpellingsDiffer : Type 0
SpellingsDiffer = (text : List ℕ) (ts : List Token) (p : Program) → AreSpelled text (program_tokens p) ts → Rise ts → PlacesDiffer p

-- a program with the tokens of a text, and its graph
pub record IsLoweredText (text : List ℕ) (p : Program) (g : Graph) (origin : ℕ → Origin) : Type 0 where
  pub tokens : List Token
  pub read : lexed text ≡ Ok tokens
  pub spelled : AreSpelled text (program_tokens p) tokens
  pub lowered : IsLowered p g origin

-- so the graph of a text's program has what the program computes
abbrev pub TextsKeepMeaning : Type 0
TextsKeepMeaning = (text : List ℕ) → MeansTheSame (IsLoweredText text)

-- MACHINES. One that has come to rest over faithful code of such a graph, with no reader waiting, shows what the program
-- computes. `IsExact` is what faithful code promises of a machine at rest that wants nothing.
pub record ShowsProgram (p : Program) (origin : ℕ → Origin) (inputs : List ℤ) (m : Machine) : Type 0 where
  pub memory : Meaning.Memory
  pub seen : SameSeen m.store memory
  pub computes : Computes p origin inputs memory

abbrev pub MachinesShowPrograms : Type 0
MachinesShowPrograms = (text : List ℕ) (p : Program) (g : Graph) (origin : ℕ → Origin) → IsLoweredText text p g origin → WellFormed g
    → (inputs : List ℤ) → AreInputsOf g inputs → (m : Machine) → IsExact (flow_of g) inputs m → NoReader m → ShowsProgram p origin inputs m

-- WHAT IT RESTS ON. The blocks of each function are in the graph, under their names and with their origins.
abbrev pub FunctionsArePlaced : Type 0
FunctionsArePlaced = (p : Program) (g : Graph) (origin : ℕ → Origin) → IsLoweredApart p g origin → WellFormed g
    → (f : Name) (h : Function) → function_in p f ≡ Some h → HasBlocks g origin h.name.name (function_blocks p h)

-- The faults of each block's lines have the origins that are given for their tokens.
abbrev pub OriginsAreTraced : Type 0
OriginsAreTraced = (p : Program) (g : Graph) (origin : ℕ → Origin) → IsLoweredApart p g origin
    → (i : ℕ) (b : MadeBlock) → slice_get (made_blocks p p) i ≡ Some b → AreTraced origin i b.inputs b.nodes

abbrev pub PlacesFromOrigins : Type 0
PlacesFromOrigins = OriginsAreTraced → FunctionsArePlaced

-- Each part means what it is lowered to, in each invocation of a run at rest.
abbrev pub PartsKeepMeaning : Type 0
PartsKeepMeaning = (p : Program) (g : Graph) (origin : ℕ → Origin) → IsLoweredApart p g origin → WellFormed g
    → (inputs : List ℤ) → AreInputsOf g inputs → (run : List Activity) (s : State) (r : Run (flow_of g) (start inputs) run s)
    → AtRest (flow_of g) s → NoClash (flow_of g) s → NoneWaits (flow_of g) s
    → (c : Context) → MeansIn p g origin inputs run s r c

abbrev pub PartsFromPlaces : Type 0
PartsFromPlaces = FunctionsArePlaced → PartsKeepMeaning

abbrev pub MeaningFromParts : Type 0
MeaningFromParts = FunctionsArePlaced → PartsKeepMeaning → LoweringKeepsMeaning
