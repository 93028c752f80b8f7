-- A fetch or a store has one wire, to which its cell answers.
use Rattle.std.proofs.Common.{◌≡◌, ℕ, ◌+◌, Bool, true, false, ◌||◌, List, [], ◌∷◌, map, length, refl, sym, ap, ◌∙◌, subst, arith, true≢false, Option, Some}
use Rattle.std.proofs.Common.{None, nat_lt}
use Rattle.std.specs.Prelude.{IsPermutation, Contains}
use Rattle.std.proofs.lemmas.List.Sorted.{IsPermutation-sym, length_permutation, Contains-permutation}
use Rattle.std.proofs.lemmas.List.{nil_from_length}
use Rattle.lemmas.proofs.Contains.{contains_head}
use Rattle.lemmas.proofs.Alls.{all_at}
use Rattle.lemmas.proofs.Lists.{one_element}
use Rattle.lemmas.proofs.Bools.{or_true}
use Rattle.tags.specs.declared.token.Port.{Port}
use Rattle.semantics.specs.declared.graph.Kind.{Kind}
use Rattle.semantics.specs.declared.graph.Kind.TheVariants as Kinds
use Rattle.semantics.specs.declared.program.Dest.{Dest}
use Rattle.semantics.specs.declared.program.Op.{Op}
use Rattle.semantics.specs.Graph.{Node, Block, Flow, node_at}
use Rattle.semantics.specs.Meaning.{Context}
use Rattle.semantics.specs.Program.{Instr}
use Rattle.semantics.specs.Plan.{Plan, HasShape, IsPlanBlock}
use Rattle.law_net.specs.ContextsParts.{Part, Line, Landing, Inlet}
use Rattle.law_net.specs.ContextsBlocks.{side, is_cell, cell_kind, plain_kind, kind_op, there_in}
use Rattle.law_net.specs.Contexts.{Wires, block_in, code_in, site_in, wiring_in, IsContext}
use Rattle.law_net.specs.ContextsWires.{leads_to, ip_and_port, is_unwired}
use Rattle.law_net.specs.ContextsMirror.{row_of, is_instr}
use Rattle.law_net.specs.ContextsTheorem.{IsGood}
use Rattle.law_machine_refines_net.proofs.MovesLists.{contains_one}
use Rattle.law_machine_refines_net.proofs.MovesSites.{coded, Seated, seated, there_instr}

pub one_image : {X Y : Type 0} (g : X → Y) (y : Y) (xs : List X) → IsPermutation (y ∷ []) (map g xs) → (x : X) × (xs ≡ x ∷ []) × (y ≡ g x)
one_image g y [] p = let n = length_permutation _ _ p in absurd (omega (arith, n))
one_image g y (x ∷ []) p = (x, refl, contains_one y (g x) (Contains-permutation _ _ (g x) (IsPermutation-sym _ _ p) (contains_head (g x) [])))
one_image g y (x ∷ z ∷ zs) p = let n = length_permutation _ _ p in absurd (omega (arith, n))

cell_plain : (k : Kind ℕ) → cell_kind k ≡ true → plain_kind k ≡ true
cell_plain (Kinds.Fetch a) e = refl
cell_plain (Kinds.Store a) e = refl
cell_plain k e = absurd (true≢false (sym e))

shaped : (k : Kind ℕ) (m n : ℕ) → cell_kind k ≡ true → HasShape (kind_op k) m n → (m ≡ 1) × (n ≡ 0)
shaped (Kinds.Fetch a) m n e h = h
shaped (Kinds.Store a) m n e h = h
shaped k m n e h = absurd (true≢false (sym e))

abbrev test_of : (Kind ℕ → Bool) → Option (Node ℕ) → Bool
test_of test x = elim x as (λ y. Bool) [ None ↦ false | Some line ↦ test line.kind ]

no_landing : (fl : Flow) (p : Plan) (w : Wires) (c : Context) (b : Block ℕ) (r : Part) → is_unwired b r ≡ false → row_of fl p w c r ≡ 1
no_landing fl p w c b (Landing n j) e = absurd (true≢false e)
no_landing fl p w c b r e = refl

-- the line of a fetch or a store
pub record Reads (fl : Flow) (c : Context) (n : ℕ) : Type 0 where
  pub line : Node ℕ
  pub at : node_at (block_in fl c) n ≡ Some line
  pub cell : cell_kind line.kind ≡ true

pub line_reads : (fl : Flow) (c : Context) (n : ℕ) → is_cell (block_in fl c) n ≡ true → Reads fl c n
line_reads fl c n e = go (node_at (block_in fl c) n) refl e
  where
    go : (x : Option (Node ℕ)) → node_at (block_in fl c) n ≡ x → test_of cell_kind x ≡ true → Reads fl c n
    go None f e = absurd (true≢false (sym e))
    go (Some line) f e = record { line = line; at = f; cell = e }

module _ (fl : Flow) (p : Plan) (w : Wires) (good : IsGood fl p w) (c : Context) (h : IsContext fl c) (n : ℕ)
    (cell : is_cell (block_in fl c) n ≡ true) where
  abbrev reads : Reads fl c n
  reads = line_reads fl c n cell

  pub cell_there : there_in fl (site_in fl w c) (wiring_in fl w c) (Line n) ≡ true
  cell_there =
      let r = line_reads fl c n cell in
      ap (λ x. nat_lt n (block_in fl c).inputs || test_of plain_kind x) r.at ∙ ap (λ t. nat_lt n (block_in fl c).inputs || t) (cell_plain r.line.kind r.cell)
      ∙ or_true (nat_lt n (block_in fl c).inputs)

  -- its one destination and its one wire
  pub record Answered : Type 0 where
    pub point : Seated fl p w good.wired c (Line n)
    pub line : Node ℕ
    pub at : node_at (block_in fl c) n ≡ Some line
    pub op_is : point.instr.op ≡ kind_op line.kind
    pub dest : Dest
    pub firsts : point.instr.firsts ≡ dest ∷ []
    pub seconds : point.instr.seconds ≡ []
    pub inlet : Inlet
    pub wire : (wiring_in fl w c).wire (side (Line n) false) ≡ inlet ∷ []
    pub far : (wiring_in fl w c).place (Line n) + dest.ahead ≡ (wiring_in fl w c).place inlet.part
    pub port : dest.port ≡ inlet.port
    pub is_instr : is_instr inlet.part ≡ true
    pub given : is_unwired (block_in fl c) inlet.part ≡ false
    pub row : row_of fl p w c inlet.part ≡ 1

  pub answered : Answered
  answered =
      let k = coded fl p w good.wired c h in
      let r = line_reads fl c n cell in
      let s = seated fl p w good.wired c (Line n) h cell_there in
      let op : s.instr.op ≡ kind_op r.line.kind = s.is.op
      ∙ ap (λ (x : Option (Node ℕ)). elim x as (λ y. Op) [ None ↦ Op.Copy | Some line ↦ kind_op line.kind ]) r.at in
      let block = all_at IsPlanBlock p.program.blocks (code_in fl w c) s.stands.code good.plan.plan.blocks s.stands.block in
      let shape = all_at (λ (i : Instr). HasShape i.op (length i.firsts) (length i.seconds)) s.stands.code.instrs
      ((wiring_in fl w c).place (Line n)) s.instr block.shapes s.stands.instr in
      let lengths = shaped r.line.kind (length s.instr.firsts) (length s.instr.seconds) r.cell
      (subst (λ o. HasShape o (length s.instr.firsts) (length s.instr.seconds)) op shape) in
      let one = one_element s.instr.firsts lengths.0 in
      let perm = subst (λ l. IsPermutation (map (leads_to ((wiring_in fl w c).place (Line n))) l)
      (map (ip_and_port (wiring_in fl w c)) ((wiring_in fl w c).wire (side (Line n) false)))) one.1 s.is.firsts in
      let image = one_image (ip_and_port (wiring_in fl w c)) (leads_to ((wiring_in fl w c).place (Line n)) one.0)
      ((wiring_in fl w c).wire (side (Line n) false)) perm in
      let inside : Contains ((wiring_in fl w c).wire (side (Line n) false)) image.0 =
      subst (λ l. Contains l image.0) (sym image.1) (contains_head image.0 []) in
      let leads = k.lawful.fed.inlets (side (Line n) false) image.0 cell_there inside in record {
        point = s;
        line = r.line;
        at = r.at;
        op_is = op;
        dest = one.0;
        firsts = one.1;
        seconds = nil_from_length s.instr.seconds lengths.1;
        inlet = image.0;
        wire = image.1;
        far = ap (λ (q : ℕ × Port). q.0) image.2;
        port = ap (λ (q : ℕ × Port). q.1) image.2;
        is_instr = there_instr fl (site_in fl w c) (wiring_in fl w c) image.0.part leads.0;
        given = leads.3;
        row = no_landing fl p w c (block_in fl c) image.0.part leads.3;
      }
