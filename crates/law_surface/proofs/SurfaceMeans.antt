-- So what the graph of a program with derived forms has at rest is what its core computes.
use Rattle.std.specs.Prelude.{◌≡◌, ℕ, zero, suc, ◌<◌, ◌≤◌, List, [], ◌∷◌, length, slice_get, filter_map, Option, None, Some, Ok, refl, ⊤}
use Rattle.std.specs.List.{cons_option}
use Rattle.std.proofs.Common.{sym, ◌∙◌, ap, subst, arith}
use Rattle.tags.specs.declared.value.Origin.{Origin}
use Rattle.semantics.specs.Graph.{Graph}
use Rattle.source.specs.Tree as core
use Rattle.source.specs.Tree.{Name}
use Rattle.source.specs.Spelled as core_spelled
use Rattle.source.specs.Counts.{IsGood}
use Rattle.source.specs.Theorem.{IsLowered}
use Rattle.law_language.specs.MeansTheorem.{and_place, places, PlacesDiffer, IsLoweredApart, LoweringKeepsMeaning}
use Rattle.surface.specs.declared.token.Token.{Token}
use Rattle.surface.specs.Tree.{Program}
use Rattle.surface.specs.Spelled.{Spelling, program_tokens, AreSpelled}
use Rattle.surface.specs.Instances.{name_said, text_names}
use Rattle.surface.specs.Placed.{placed}
use Rattle.law_surface.specs.GoodGivesGood.{IsShort, GoodGivesGood}
use Rattle.law_surface.specs.PlacedApart.{PlacedApart}
use Rattle.law_surface.specs.SurfaceMeans.{IsLoweredShort, ShortKeepsMeaning, IsLoweredSurface, SurfaceMeans}
use Rattle.law_surface.proofs.DesugaredProgramFits.{desugared_fits}
use Rattle.law_surface.proofs.DesugaredKeepsRules.{desugared_keeps_rules}
use Rattle.law_surface.proofs.PlacedApart.{placed_apart}
use Rattle.law_surface.proofs.PlacedKeeps.{placed_is_good}

pub good_gives_good : GoodGivesGood
good_gives_good p q end short few = record { fits = desugared_fits p q end short; end = end; checked = desugared_keeps_rules p q end short few }

-- PLACES: no two tokens with places have one, so no two places are the same.
abbrev Apart : List core_spelled.Spelling → Type 0
Apart ts = (i j : ℕ) (t u : core_spelled.Spelling) (at : ℕ) → slice_get ts i ≡ Some t → slice_get ts j ≡ Some u → t.place ≡ Some at → u.place ≡ Some at → i ≡ j

abbrev HasPlace : List core_spelled.Spelling → ℕ → Type 0
HasPlace ts at = (k : ℕ) × (t : core_spelled.Spelling) × (slice_get ts k ≡ Some t) × (t.place ≡ Some at)

has_place : (ts : List core_spelled.Spelling) (i at : ℕ) → slice_get (places ts) i ≡ Some at → HasPlace ts at
has_place [] i at h = cc
has_place (t ∷ ts) i at h = go t.place refl i h (λ i h. has_place ts i at h)
  where
    go : (o : Option ℕ) → t.place ≡ o → (i : ℕ) → slice_get (and_place o (places ts)) i ≡ Some at → ((i : ℕ) → slice_get (places ts) i ≡ Some at → HasPlace ts at) → HasPlace (t
        ∷ ts) at
    go None e i h later = let k = later i h in (suc k.0, k.1, k.2, k.3)
    go (Some n) e zero h later = (zero, t, refl, e ∙ h)
    go (Some n) e (suc i) h later = let k = later i h in (suc k.0, k.1, k.2, k.3)

apart_later : (t : core_spelled.Spelling) (ts : List core_spelled.Spelling) → Apart (t ∷ ts) → Apart ts
apart_later t ts h i j u v at a b c d = let same : suc i ≡ suc j = h (suc i) (suc j) u v at a b c d in omega (arith, same)

not_again : (t : core_spelled.Spelling) (ts : List core_spelled.Spelling) (at : ℕ) → Apart (t ∷ ts) → t.place ≡ Some at → HasPlace ts at → ⊥
not_again t ts at h e k = let same : zero ≡ suc k.0 = h zero (suc k.0) t k.1 at refl k.2 e k.3 in omega (arith, same)

differ : (ts : List core_spelled.Spelling) → Apart ts → (i j at : ℕ) → slice_get (places ts) i ≡ Some at → slice_get (places ts) j ≡ Some at → i ≡ j
differ [] h i j at a b = cc
differ (t ∷ ts) h i j at a b = go t.place refl i j a b (λ i j a b. differ ts (apart_later t ts h) i j at a b)
  where
    go : (o : Option ℕ) → t.place ≡ o → (i j : ℕ) → slice_get (and_place o (places ts)) i ≡ Some at → slice_get (and_place o (places ts)) j ≡ Some at → ((i j : ℕ) → slice_get
        (places ts) i ≡ Some at → slice_get (places ts) j ≡ Some at → i ≡ j) → i ≡ j
    go None e i j a b later = later i j a b
    go (Some n) e zero zero a b later = refl
    go (Some n) e zero (suc j) a b later = absurd (not_again t ts at h (e ∙ a) (has_place ts j at b))
    go (Some n) e (suc i) zero a b later = absurd (not_again t ts at h (e ∙ b) (has_place ts i at a))
    go (Some n) e (suc i) (suc j) a b later = ap (λ (k : ℕ). suc k) (later i j a b)

places_differ : (q : core.Program) → PlacesDiffer (placed q)
places_differ q i j at a b = differ (core_spelled.program_tokens (placed q)) (placed_apart q) i j at a b

-- THE MEANING
pub short_keeps_meaning : LoweringKeepsMeaning → ShortKeepsMeaning
short_keeps_meaning means p q r g origin h =
    let good : IsGood q = good_gives_good p q h.end h.short h.few in
    let placed_good : IsGood r = subst (λ (r : core.Program). IsGood r) (sym h.places) (placed_is_good q good) in
    let apart : PlacesDiffer r = subst (λ (r : core.Program). PlacesDiffer r) (sym h.places) (places_differ q) in
    let lowered : IsLowered r g origin = record { good = placed_good; graph = h.graph; origins = h.origins } in
    means r g origin (record { lowered = lowered; apart = apart })

-- A text has no more names than tokens.
as_many : (text : List ℕ) (ss : List Spelling) (ts : List Token) → AreSpelled text ss ts → length ss ≡ length ts
as_many text [] [] h = refl
as_many text [] (t ∷ ts) h = absurd h
as_many text (s ∷ ss) [] h = absurd h
as_many text (s ∷ ss) (t ∷ ts) h = ap (λ (n : ℕ). suc n) (as_many text ss ts h.1)

fewer_names : (ss : List Spelling) → length (filter_map (λ (s : Spelling). name_said s.lexeme) ss) ≤ length ss
fewer_names [] = omega arith
fewer_names (s ∷ ss) = go (name_said s.lexeme) (fewer_names ss)
  where
    go : (o : Option Name) → length (filter_map (λ (s : Spelling). name_said s.lexeme) ss) ≤ length ss → length (cons_option o (filter_map (λ (s : Spelling). name_said
        s.lexeme) ss)) ≤ suc (length ss)
    go None h = omega (arith, h)
    go (Some x) h = omega (arith, h)

pub surface_means : LoweringKeepsMeaning → SurfaceMeans
surface_means means text p q r g origin h = short_keeps_meaning means p q r g origin (record {
  end = length text;
  short = record { fits = h.parses.fits; checked = h.good; is = h.short };
  few = omega (arith, h.few, fewer_names (program_tokens p), as_many text (program_tokens p) h.tokens h.parses.spelled);
  places = h.places;
  graph = h.graph;
  origins = h.origins;
})
