-- The boxes of the arms around a region.
use Rattle.std.proofs.Common.{◌≡◌, ◌+◌, ◌++◌, [], ℕ, zero, suc, ◌≤◌, ◌-◌, Bool, true, false, nat_lt, List, refl, sym, ap, ◌∙◌, arith, add-one}
use Rattle.std.specs.Prelude.{codes}
use Rattle.std.proofs.lemmas.Bool.{ltb-true, ltb-false}
use Rattle.semantics.specs.declared.graph.Region.{Region}
use Rattle.semantics.specs.declared.graph.Region.TheVariants.{Root, Arm}
use Rattle.semantics.specs.declared.graph.Source.{Source}
use Rattle.semantics.specs.Graph.{Block, Node}
use Rattle.sink.specs.Numbered.{numbered}
use Rattle.std.proofs.Common.{Option, ◌<◌, append_assoc, subst}
use Rattle.std.proofs.lemmas.List.{append-nil}
use Rattle.std.specs.Io.KnownBytes.{Appends}
use Rattle.semantics.specs.declared.program.Op.{Op}
use Rattle.semantics.specs.declared.program.Op.TheVariants as Ops
use Rattle.dot.specs.CodeDot.{far_arc}
use Rattle.dot.specs.GraphDot.{region_of, arm_opens, opens, closes, input_box, inputs_dot, node_place, edge, style_of}

pub opens_root : (d b : ℕ) (block : Block (List ℕ)) (r : Region) → r ≡ Root → opens d b block r ≡ []
opens_root zero b block r e = ap (opens zero b block) e
opens_root (suc d) b block r e = ap (opens (suc d) b block) e

pub opens_none : (d b : ℕ) (block : Block (List ℕ)) (r : Region) (k : ℕ) (side : Bool) → r ≡ Arm k side → (1 ≤ d → ⊥) → opens d b block r ≡ []
opens_none zero b block r k side e none = ap (opens zero b block) e
opens_none (suc d) b block r k side e none = absurd (none (omega arith))

pub opens_more : (d a b : ℕ) (block : Block (List ℕ)) (r : Region) (k : ℕ) (side : Bool) → r ≡ Arm k side → 1 ≤ d → a ≡ d - 1 → opens d b block r
    ≡ opens a b block (region_of block k) ++ arm_opens b (Arm k side)
opens_more zero a b block r k side e some less = absurd (omega (arith, some))
opens_more (suc d) a b block r k side e some less =
    let same : a ≡ d = omega (arith, less) in
    ap (opens (suc d) b block) e ∙ ap (λ (n : ℕ). opens n b block (region_of block k) ++ arm_opens b (Arm k side)) (sym same)

pub closes_root : (d : ℕ) (block : Block (List ℕ)) (r : Region) → r ≡ Root → closes d block r ≡ []
closes_root zero block r e = ap (closes zero block) e
closes_root (suc d) block r e = ap (closes (suc d) block) e

pub closes_none : (d : ℕ) (block : Block (List ℕ)) (r : Region) (k : ℕ) (side : Bool) → r ≡ Arm k side → (1 ≤ d → ⊥) → closes d block r ≡ []
closes_none zero block r k side e none = ap (closes zero block) e
closes_none (suc d) block r k side e none = absurd (none (omega arith))

pub closes_more : (d a : ℕ) (block : Block (List ℕ)) (r : Region) (k : ℕ) (side : Bool) → r ≡ Arm k side → 1 ≤ d → a ≡ d - 1 → closes d block r
    ≡ closes a block (region_of block k) ++ codes "} "
closes_more zero a block r k side e some less = absurd (omega (arith, some))
closes_more (suc d) a block r k side e some less =
    let same : a ≡ d = omega (arith, less) in
    ap (closes (suc d) block) e ∙ ap (λ (n : ℕ). closes n block (region_of block k) ++ codes "} ") (sym same)

-- the boxes of the inputs, one after the other
pub inputs_more : (b n : ℕ) → inputs_dot b (n + 1) ≡ inputs_dot b n ++ input_box b n
inputs_more b n = let up : n + 1 ≡ suc n = omega arith in ap (inputs_dot b) up

pub inputs_front : (b n m : ℕ) → n ≤ m → (rest : List ℕ) × (inputs_dot b m ≡ inputs_dot b n ++ rest)
inputs_front b n zero le = let same : n ≡ 0 = omega (arith, le) in ([], sym (ap (λ (k : ℕ). inputs_dot b k ++ []) same))
inputs_front b n (suc m) le = by_place (nat_lt n (suc m)) refl (λ l. inputs_front b n m l) where
  by_place : (t : Bool) → nat_lt n (suc m) ≡ t → (n ≤ m → (rest : List ℕ) × (inputs_dot b m ≡ inputs_dot b n ++ rest)) → (rest : List ℕ)
      × (inputs_dot b (suc m) ≡ inputs_dot b n ++ rest)
  by_place true t h =
      let r = h (omega (arith, ltb-true n (suc m) t)) in
      (r.0 ++ input_box b m, ap (λ (x : List ℕ). x ++ input_box b m) r.1 ∙ append_assoc (inputs_dot b n) r.0 (input_box b m))
  by_place false t h =
      let same : suc m ≡ n = omega (arith, le, ltb-false n (suc m) t) in
      ([], ap (inputs_dot b) same ∙ sym (append-nil (inputs_dot b n)))

pub inputs_all : (b n : ℕ) (a c : Option (List ℕ)) → Appends a c (inputs_dot b n ++ input_box b n) → Appends a c (inputs_dot b (n + 1))
inputs_all b n a c h = subst (Appends a c) (sym (inputs_more b n)) h

-- an instruction that is neither a link nor a send has no arc to another block
pub no_far_arc : (b n : ℕ) (op : Op) → ((k : ℕ) → op ≡ Ops.Link k → ⊥) → ((k e : ℕ) → op ≡ Ops.Send k e → ⊥) → far_arc b n op ≡ []
no_far_arc b n (Ops.Link k) link send = absurd (link k refl)
no_far_arc b n (Ops.Send k e) link send = absurd (send k e refl)
no_far_arc b n (Ops.Apply1 u) link send = refl
no_far_arc b n (Ops.Apply2 u) link send = refl
no_far_arc b n (Ops.Apply2Right u z) link send = refl
no_far_arc b n (Ops.Apply2Left u z) link send = refl
no_far_arc b n (Ops.Lit z) link send = refl
no_far_arc b n Ops.Copy link send = refl
no_far_arc b n Ops.Sync link send = refl
no_far_arc b n Ops.Switch link send = refl
no_far_arc b n (Ops.Fetch a) link send = refl
no_far_arc b n (Ops.Store a) link send = refl
no_far_arc b n Ops.Frame link send = refl
no_far_arc b n (Ops.Return o) link send = refl
no_far_arc b n (Ops.Ask o) link send = refl
no_far_arc b n (Ops.Open k) link send = refl
no_far_arc b n (Ops.Take k) link send = refl
no_far_arc b n (Ops.Give k) link send = refl
no_far_arc b n (Ops.Drain k) link send = refl
no_far_arc b n (Ops.Release o) link send = refl

-- what is written of a node depends only on what is seen of it
pub same_place : (x depth b : ℕ) (block : Block (List ℕ)) (j inputs line : ℕ) (n m : Node (List ℕ)) → x ≡ depth → j ≡ inputs → n ≡ m
    → node_place x b block n.region (j + line) n.kind ≡ node_place depth b block m.region (inputs + line) m.kind
same_place x depth b block j inputs line n m d i v =
    ap (λ (k : ℕ). node_place k b block n.region (j + line) n.kind) d
    ∙ ap (λ (k : ℕ). node_place depth b block n.region (k + line) n.kind) i
    ∙ ap (λ (o : Node (List ℕ)). node_place depth b block o.region (inputs + line) o.kind) v

pub same_edges : (b j inputs line : ℕ) (n m : Node (List ℕ)) (style : List ℕ) (sources : List Source) → j ≡ inputs → n ≡ m → style ≡ style_of n.kind
    → sources ≡ n.sources
    → numbered (edge b (j + line) style) 0 sources ≡ numbered (edge b (inputs + line) (style_of m.kind)) 0 m.sources
same_edges b j inputs line n m style sources i v s e =
    ap (λ (x : List ℕ). numbered (edge b (j + line) x) 0 sources) s
    ∙ ap (λ (x : List Source). numbered (edge b (j + line) (style_of n.kind)) 0 x) e
    ∙ ap (λ (k : ℕ). numbered (edge b (k + line) (style_of n.kind)) 0 n.sources) i
    ∙ ap (λ (o : Node (List ℕ)). numbered (edge b (inputs + line) (style_of o.kind)) 0 o.sources) v
