-- ARRAYS of a good program: their lengths, how many they are, and their cells together.
use Rattle.std.proofs.Common.{◌≡◌, ℕ, ◌+◌, ◌≤◌, List, [], ◌∷◌, length, map, sum, All, Ok, ap, arith}
use Rattle.std.proofs.lemmas.Grind.{common_steps}
use Rattle.std.proofs.lemmas.List.Elements.{All-head, All-tail}
use Rattle.lemmas.proofs.Permutations.{Each}
use Rattle.semantics.specs.Text.{IsName}
use Rattle.source.specs.Tree.{Name, Item, Cells, Defines}
use Rattle.source.specs.Tokens.{IsSpelledName}
use Rattle.source.specs.Rules.{Heads, head, heads, item_names}
use Rattle.source.specs.Lowered.{arrays_of}
use Rattle.source.proofs.Steps.{then_ok}
use Rattle.law_language.proofs.LoweredSpelled.{spelled_is_name}
use Rattle.law_language.proofs.LoweredHeads.{cells_head, function_head}

-- an array, with its name and its length
abbrev pub IsArray : Name × ℕ → Type 0
IsArray a = IsName a.0 × (1 ≤ a.1) × (a.1 ≤ 65536)

-- what holds of all arrays
pub record AreArraysFew (before : Heads) (items : List Item) : Type 0 where
  pub each : Each IsArray (arrays_of items)
  pub few : before.arrays + length (arrays_of items) ≤ 64
  pub cells : before.cells + sum (map (λ (a : Name × ℕ). a.1) (arrays_of items)) ≤ 65536

pub arrays_few : (before after : Heads) (items : List Item) → All IsSpelledName (item_names items) → before.arrays ≤ 64 → before.cells ≤ 65536
    → heads before items ≡ Ok after → AreArraysFew before items
arrays_few before after [] spelled few low e = record { each = tt; few = omega (arith, few); cells = omega (arith, low) }
arrays_few before after (Cells x len ∷ items) spelled few low e =
    let s = then_ok (head before (Cells x len)) (λ next. heads next items) after e in
    let h = cells_head before s.0 x len s.1 in
    let arrays = ap (λ (h : Heads). h.arrays) h.is in
    let cells = ap (λ (h : Heads). h.cells) h.is in
    let less = h.few in
    let room = h.room in
    let rest = arrays_few s.0 after items (All-tail IsSpelledName x.name (item_names items) spelled) (omega (arith, arrays, less))
    (omega (arith, cells, room)) s.2 in
    let more = rest.few in
    let total = rest.cells in
    let lens : List ℕ = map (λ (a : Name × ℕ). a.1) (arrays_of items) in
    let first : sum (len.number ∷ lens) ≡ len.number + sum lens = grind (arith, common_steps) in
    record {
      each = ((spelled_is_name x.name (All-head IsSpelledName x.name (item_names items) spelled), h.some, h.fits), rest.each);
      few = omega (arith, more, arrays);
      cells = omega (arith, total, cells, first);
    }
arrays_few before after (Defines h ∷ items) spelled few low e =
    let s = then_ok (head before (Defines h)) (λ next. heads next items) after e in
    let k = function_head before s.0 h s.1 in
    let arrays = ap (λ (h : Heads). h.arrays) k.is in
    let cells = ap (λ (h : Heads). h.cells) k.is in
    let rest = arrays_few s.0 after items (All-tail IsSpelledName h.name.name (item_names items) spelled) (omega (arith, arrays, few))
    (omega (arith, cells, low)) s.2 in
    let more = rest.few in
    let total = rest.cells in
    record { each = rest.each; few = omega (arith, more, arrays); cells = omega (arith, total, cells) }
