-- WHAT A PROGRAM WITH DERIVED FORMS MEANS: what the graph of its core has at rest is what its core computes. The core has places of its
-- own, so that each fault there has the origin of one token, and a table leads from that place to the text's (`Placed.text_place`).
use Rattle.std.specs.Prelude.{◌≡◌, ℕ, ◌^◌, ◌<◌, List, length, Ok}
use Rattle.tags.specs.declared.value.Origin.{Origin}
use Rattle.semantics.specs.Graph.{Graph}
use Rattle.source.specs.Tree as core
use Rattle.source.specs.Counts.{IsGood}
use Rattle.source.specs.Lowered.{lowered, origin_of}
use Rattle.source.specs.Theorem.{MeansTheSame}
use Rattle.surface.specs.declared.token.Token.{Token}
use Rattle.surface.specs.Tokens.{lexed}
use Rattle.surface.specs.Tree.{Program}
use Rattle.surface.specs.Parses.{Parses}
use Rattle.surface.specs.Rules.{checked}
use Rattle.surface.specs.Instances.{text_names}
use Rattle.surface.specs.Desugared.{desugared}
use Rattle.surface.specs.Placed.{placed}
use Rattle.law_surface.specs.GoodGivesGood.{IsShort}

-- A good program of the core is good with places of its own.
abbrev pub PlacedIsGood : Type 0
PlacedIsGood = (q : core.Program) → IsGood q → IsGood (placed q)

-- what a good program is short for, with places of its own, and its graph
pub record IsLoweredShort (p : Program) (q r : core.Program) (g : Graph) (origin : ℕ → Origin) : Type 0 where
  pub end : ℕ
  pub short : IsShort p q end
  pub few : length (text_names p) < 2 ^ 64
  pub places : r ≡ placed q
  pub graph : lowered r ≡ Ok g
  pub origins : (at : ℕ) → origin at ≡ origin_of r at

-- So its graph has at rest what that computes.
abbrev pub ShortKeepsMeaning : Type 0
ShortKeepsMeaning = (p : Program) (q : core.Program) → MeansTheSame (IsLoweredShort p q)

-- TEXTS, of fewer than 2^64 tokens: they are those of a program that keeps the rules, which is short for a program of the core.
pub record IsLoweredSurface (text : List ℕ) (p : Program) (q r : core.Program) (g : Graph) (origin : ℕ → Origin) : Type 0 where
  pub tokens : List Token
  pub read : lexed text ≡ Ok tokens
  pub parses : Parses text tokens p
  pub few : length tokens < 2 ^ 64
  pub good : checked (length text) p ≡ Ok tt
  pub short : desugared p ≡ Ok q
  pub places : r ≡ placed q
  pub graph : lowered r ≡ Ok g
  pub origins : (at : ℕ) → origin at ≡ origin_of r at

abbrev pub SurfaceMeans : Type 0
SurfaceMeans = (text : List ℕ) (p : Program) (q : core.Program) → MeansTheSame (IsLoweredSurface text p q)
