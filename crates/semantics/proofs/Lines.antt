-- Lines of a block, names and numbers of blocks.
use Rattle.std.proofs.Common.{[], ◌+◌, ◌-◌, ◌∙◌, ◌∷◌, ◌≡◌, ◌⊎◌, Bool, List, None, Option, Some, ap, ap₂, arith, false, if◌then◌else◌, inl, inr}
use Rattle.std.proofs.Common.{le-ltb, lt-ltb, ltb-false, map, nat_lt, refl, slice_get, sum, true, ℕ}
use Rattle.std.specs.Prelude.{count_by}
use Rattle.std.proofs.lemmas.List.Sums.{sum-map}
use Rattle.semantics.specs.declared.graph.Kind.{Kind}
use Rattle.semantics.specs.declared.graph.Region.TheVariants.{Arm}
use Rattle.semantics.specs.declared.version.Version.{Version}
use Rattle.semantics.specs.declared.version.Version.TheVariants.{One, Two}
use Rattle.semantics.specs.Graph.{Node, Block, Flow, node_at, same_name}
use Rattle.semantics.specs.Meaning.{block_numbered}
use Rattle.semantics.specs.Cause.{is_looped, loops_to}
use Rattle.semantics.specs.Versions.{version_number}
use Rattle.lemmas.proofs.Sums.{one_of_sum, one_of_count}

-- LINES
pub line_listed : (b : Block ℕ) (n : ℕ) (line : Node ℕ) → node_at b n ≡ Some line → slice_get b.nodes (n - b.inputs) ≡ Some line
line_listed b n line e = go (nat_lt n b.inputs) e
  where
    go : (t : Bool) → (if t then None else slice_get b.nodes (n - b.inputs)) ≡ Some line → slice_get b.nodes (n - b.inputs) ≡ Some line
    go true f = absurd (cc)
    go false f = f

pub line_at : (b : Block ℕ) (k : ℕ) (line : Node ℕ) → slice_get b.nodes k ≡ Some line → node_at b (b.inputs + k) ≡ Some line
line_at b k line e =
    let past : nat_lt (b.inputs + k) b.inputs ≡ false = le-ltb (b.inputs + k) b.inputs (omega arith) in
    let back : b.inputs + k - b.inputs ≡ k = omega arith in
    ap₂ (λ (t : Bool) i. if t then None else slice_get b.nodes i) past back ∙ e

pub named_line_at : (b : Block (List ℕ)) (k : ℕ) → node_at b (b.inputs + k) ≡ slice_get b.nodes k
named_line_at b k =
    let past : nat_lt (b.inputs + k) b.inputs ≡ false = le-ltb (b.inputs + k) b.inputs (omega arith) in
    let at : (b.inputs + k) - b.inputs ≡ k = omega arith in
    ap (λ t. if t then None else slice_get b.nodes ((b.inputs + k) - b.inputs)) past ∙ ap (slice_get b.nodes) at

pub same_arm : (k j : ℕ) (t u : Bool) → Arm k t ≡ Arm j u → k ≡ j
same_arm k j t u e = cc

-- BLOCKS
pub block_is_there : (fl : Flow) (o : Option ℕ) (b : Block ℕ) → block_numbered fl o ≡ Some b → (i : ℕ) × (o ≡ Some i) × (slice_get fl.blocks i ≡ Some b)
block_is_there fl None b e = absurd (cc)
block_is_there fl (Some i) b e = (i, refl, e)

-- a loop's body is looped
pub body_is_looped : (fl : Flow) (i n f : ℕ) (b : Block ℕ) (line : Node ℕ) → slice_get fl.blocks i ≡ Some b → node_at b n ≡ Some line
    → loops_to f line.kind ≡ true → is_looped fl f ≡ true
body_is_looped fl i n f b line e g h =
    let counts = λ (b : Block ℕ). count_by (λ (n : Node ℕ). loops_to f n.kind) b.nodes in
    let one = one_of_count (λ (n : Node ℕ). loops_to f n.kind) b.nodes (n - b.inputs) line (line_listed b n line g) h in
    let all = one_of_sum counts fl.blocks i b e in
    let same = sum-map counts fl.blocks in
    lt-ltb 0 (sum (map counts fl.blocks)) (omega (arith, one, all, same))

-- NAMES AND VERSIONS
pub same_name_is : (x y : List ℕ) → same_name x y ≡ true → x ≡ y
same_name_is [] [] e = refl
same_name_is [] (b ∷ y) e = cc
same_name_is (a ∷ x) [] e = cc
same_name_is (a ∷ x) (b ∷ y) e = go (nat_lt a b) (nat_lt b a) refl refl e (same_name_is x y)
  where
    go : (s t : Bool) → nat_lt a b ≡ s → nat_lt b a ≡ t → (if s then false else if t then false else same_name x y) ≡ true
        → (same_name x y ≡ true → x ≡ y) → a ∷ x ≡ b ∷ y
    go true t p q f ih = cc
    go false true p q f ih = cc
    go false false p q f ih =
        let up = ltb-false a b p in
        let down = ltb-false b a q in
        let same : a ≡ b = omega arith in
        ap₂ (λ a (x : List ℕ). a ∷ x) same (ih f)

pub same_name_itself : (x : List ℕ) → same_name x x ≡ true
same_name_itself [] = refl
same_name_itself (a ∷ x) =
    ap (λ (t : Bool). if t then false else if t then false else same_name x x) (le-ltb a a (omega arith)) ∙ same_name_itself x

pub version_is : (v : Version) → (version_number v ≡ 1) ⊎ (version_number v ≡ 2)
version_is One = inl refl
version_is Two = inr refl
