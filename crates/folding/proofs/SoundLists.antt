-- Members of lists, the destinations that are moved, and the blocks of a folded plan.
use Rattle.std.proofs.Common.{◌≡◌, ℕ, ◌+◌, Bool, true, false, List, ◌∷◌, refl, sym, ap, ◌∙◌, inl, inr, ◌⊎◌, Option, Some, None, if◌then◌else◌, []}
use Rattle.std.specs.Prelude.{slice_get, Contains, nat_lt}
use Rattle.std.specs.Option.{option_map}
use Rattle.std.proofs.lemmas.Option.{slice_get-map}
use Rattle.std.proofs.lemmas.List.Elements.{Contains-append_cases}
use Rattle.lemmas.proofs.Contains.{contains_cases, contains_head, contains_none, contains_tail}
use Rattle.lemmas.proofs.SliceGet.{map_get_back}
use Rattle.semantics.specs.declared.program.Dest.{Dest}
use Rattle.semantics.specs.Program.{CodeBlock}
use Rattle.semantics.specs.Plan.{Plan, landing, landing_in}
use Rattle.folding.specs.Places.{Layout}
use Rattle.folding.specs.Moved.{is_shut, new_dest, moved_dest, moved_dests}
use Rattle.folding.specs.Folded.{folded_block, folded}

-- DESTINATIONS. A moved destination stands for one of the old ones, at whose port words still arrive.
abbrev pub Stood : Layout → ℕ → List Dest → Dest → Type 0
Stood l n ds e = (d : Dest) × Contains ds d × (is_shut l (n + d.ahead) d.port ≡ false) × (e ≡ new_dest l n (n + d.ahead) d.port)

one_back : (l : Layout) (n : ℕ) (d e : Dest) → Contains (moved_dest l n d) e → (is_shut l (n + d.ahead) d.port ≡ false)
    × (e ≡ new_dest l n (n + d.ahead) d.port)
one_back l n d e h = go (is_shut l (n + d.ahead) d.port) refl h
  where
    pick : is_shut l (n + d.ahead) d.port ≡ false → (new_dest l n (n + d.ahead) d.port ≡ e) ⊎ Contains [] e → (is_shut l (n + d.ahead) d.port ≡ false)
        × (e ≡ new_dest l n (n + d.ahead) d.port)
    pick s (inl q) = (s, sym q)
    pick s (inr q) = absurd (contains_none e q)

    go : (t : Bool) → is_shut l (n + d.ahead) d.port ≡ t → Contains (if t then [] else new_dest l n (n + d.ahead) d.port ∷ []) e
        → (is_shut l (n + d.ahead) d.port ≡ false) × (e ≡ new_dest l n (n + d.ahead) d.port)
    go true s h = absurd (contains_none e h)
    go false s h = pick s (contains_cases (new_dest l n (n + d.ahead) d.port) [] e h)

pub moved_back : (l : Layout) (n : ℕ) (ds : List Dest) (e : Dest) → Contains (moved_dests l n ds) e → Stood l n ds e
moved_back l n [] e h = absurd (contains_none e h)
moved_back l n (d ∷ ds) e h = pick (Contains-append_cases (moved_dest l n d) (moved_dests l n ds) e h) (moved_back l n ds e)
  where
    pick : Contains (moved_dest l n d) e ⊎ Contains (moved_dests l n ds) e → (Contains (moved_dests l n ds) e → Stood l n ds e) → Stood l n (d ∷ ds) e
    pick (inl m) more = let o = one_back l n d e m in (d, contains_head d ds, o.0, o.1)
    pick (inr m) more = let r = more m in (r.0, contains_tail d ds r.0 r.1, r.2, r.3)

-- BLOCKS. Each block of a folded plan is a folded one,
pub block_back : (p : Plan) (b : ℕ) (e : CodeBlock) → slice_get (folded p).program.blocks b ≡ Some e → (c : CodeBlock)
    × (slice_get p.program.blocks b ≡ Some c) × (folded_block p c ≡ e)
block_back p b e h = map_get_back (folded_block p) p.program.blocks b e h

-- and each block has one.
pub block_there : (p : Plan) (b : ℕ) (c : CodeBlock) → slice_get p.program.blocks b ≡ Some c → slice_get (folded p).program.blocks b ≡ Some (folded_block p c)
block_there p b c h = slice_get-map (folded_block p) p.program.blocks b ∙ ap (option_map (folded_block p)) h

-- Landings are as long as they were.
pub landing_same : (p : Plan) (b : ℕ) → landing (folded p) b ≡ landing p b
landing_same p b = ap (landing_in (nat_lt b p.plain)) (slice_get-map (folded_block p) p.program.blocks b) ∙ go (nat_lt b p.plain) (slice_get p.program.blocks b)
  where
    go : (t : Bool) (o : Option CodeBlock) → landing_in t (option_map (folded_block p) o) ≡ landing_in t o
    go t None = refl
    go true (Some c) = refl
    go false (Some c) = refl
