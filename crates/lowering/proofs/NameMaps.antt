-- What maps and sets of names have after one name more.
use Rattle.std.proofs.Common.{◌≡◌, Bool, true, false, ◌||◌, [], ◌∷◌, Option, Some, if◌then◌else◌, refl, ◌∙◌, ap, Bor}
use Rattle.std.specs.Prelude.{unwrap_or}
use Rattle.std.specs.Map.{lookup}
use Rattle.std.specs.BTreeMap.{BTreeMap, get_by, UpdatesBy, is_at}
use Rattle.std.specs.BTreeSet.{BTreeSet}
use Rattle.std.specs.BTreeSet as set
use Rattle.std.specs.Cmp.Lexicographic.{slice_cmp}
use Rattle.std.specs.Ordering.{nat_cmp}
use Rattle.std.proofs.lemmas.Map.Text.{btree_map_updates_str, is_eq-slice_cmp}
use Rattle.semantics.specs.declared.graph.Source.{Source}
use Rattle.semantics.specs.Graph.{same_name}
use Rattle.source.specs.Tree.{Name}
use Rattle.source.specs.Lowered.{Scope, source_in, port}
use Rattle.lowering.specs.Latest.{IsLatest}
use Rattle.lowering.specs.Uses.{has}
use Rattle.lowering.proofs.Same.{same_bytes, same_way}

pub none_stand : (m : BTreeMap (Bor Name) Source) → m.entries ≡ [] → IsLatest m []
none_stand m e x = ap (λ es. unwrap_or (lookup (is_at (λ k. slice_cmp nat_cmp x k.now)) es) (port 0 0)) e

pub still_stand : (m n : BTreeMap (Bor Name) Source) (scope : Scope) → n.entries ≡ m.entries → IsLatest m scope → IsLatest n scope
still_stand m n scope e latest x = ap (λ es. unwrap_or (lookup (is_at (λ k. slice_cmp nat_cmp x k.now)) es) (port 0 0)) e ∙ latest x

pub one_stands : (m n : BTreeMap (Bor Name) Source) (name : Name) (s : Source) (scope : Scope)
    → UpdatesBy (λ x y. slice_cmp nat_cmp x.now y.now) (λ k. slice_cmp nat_cmp name k.now) m n (Some s) → IsLatest m scope → IsLatest n ((name, s) ∷ scope)
one_stands m n name s scope updates latest x =
    ap (λ (o : Option Source). unwrap_or o (port 0 0)) (btree_map_updates_str name m n (Some s) updates x)
    ∙ ap (λ (b : Bool). unwrap_or (if b then Some s else get_by (λ k. slice_cmp nat_cmp x k.now) m) (port 0 0)) (same_bytes name x ∙ same_way name x)
    ∙ by (same_name x name)
  where
    by : (b : Bool) → unwrap_or (if b then Some s else get_by (λ k. slice_cmp nat_cmp x k.now) m) (port 0 0) ≡ (if b then s else source_in scope x)
    by true = refl
    by false = latest x

pub one_more : (s n : BTreeSet (Bor Name)) (name : Name)
    → set.UpdatesBy (λ x y. slice_cmp nat_cmp x.now y.now) (λ k. slice_cmp nat_cmp name k.now) s n true → (x : Name) → has n x ≡ (same_name x name || has s x)
one_more s n name updates x =
    updates.0 (record { ref_ptr = (0, 0); now = x })
    ∙ ap (λ (b : Bool). if b then true else has s x) (is_eq-slice_cmp name x ∙ same_bytes name x ∙ same_way name x)
    ∙ by (same_name x name)
  where
    by : (b : Bool) → (if b then true else has s x) ≡ (b || has s x)
    by true = refl
    by false = refl
