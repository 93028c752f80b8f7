-- What is found of each code block of a graph's plan are the owners of its instructions.
use Rattle.std.proofs.Common.{◌≡◌, ℕ, ◌+◌, Bool, true, false, List, [], ◌∷◌, ◌++◌, length, refl, sym, ap, ◌∙◌, Some}
use Rattle.std.specs.Prelude.{if◌then◌else◌, slice_get, unwrap_or, All}
use Rattle.std.proofs.lemmas.List.{append_assoc, append-nil, length-append}
use Rattle.semantics.specs.declared.program.Mark.{Mark}
use Rattle.lemmas.proofs.Alls.{all_at, all_from}
use Rattle.semantics.specs.Graph.{Graph, Block, Flow, flow_of}
use Rattle.semantics.specs.Text.{HasText, HasBlockText}
use Rattle.semantics.specs.Program.{CodeBlock}
use Rattle.semantics.specs.Plan.{Plan}
use Rattle.code.specs.Holders.{instrs_of, instrs_in}
use Rattle.code.specs.Marks.{marks_in}
use Rattle.schemas.specs.Variants.{some_block_loops, variants_of}
use Rattle.schemas.specs.Blocks.{Coded, plain_build, variant_build, variant_of}
use Rattle.schemas.specs.Expanded.{scope_of, plain_code, variant_code, Codes, with_code, plain_codes, variant_codes, no_codes, expanded}
use Rattle.code_map.specs.declared.owner.Owner.{Owner}
use Rattle.code_map.specs.Owners.{owned, plain_owners, variant_owners}
use Rattle.code_map.specs.Owners as Owners
use Rattle.code_map.specs.Found.{parts_of, with_block, IsSmall}
use Rattle.code_map.specs.Found as Found
use Rattle.code_map.proofs.Plain.{plain_is_found}
use Rattle.code_map.proofs.Variant.{variant_is_found}

at_length : {X : Type 0} (xs ys : List X) (y : X) → slice_get (xs ++ y ∷ ys) (length xs) ≡ Some y
at_length [] ys y = refl
at_length (x ∷ xs) ys y = at_length xs ys y

longer : {X Y : Type 0} (xs : List X) (x : X) (ys : List Y) (y : Y) → length xs ≡ length ys → length (xs ++ x ∷ []) ≡ length (ys ++ y ∷ [])
longer xs x ys y e = length-append xs (x ∷ []) ∙ ap (λ n. n + 1) e ∙ sym (length-append ys (y ∷ []))

-- a plan that begins with these codes
record Begins (p : Plan) (cs : Codes) : Type 0 where
  pub blocks : (xs : List CodeBlock) × (p.program.blocks ≡ cs.blocks ++ xs)
  pub marks : (xs : List (List Mark)) × (p.marks ≡ cs.marks ++ xs)

-- as many owners as codes
record Even (cs : Codes) (oss : List (List Owner)) : Type 0 where
  pub blocks : length cs.blocks ≡ length oss
  pub marks : length cs.marks ≡ length oss

even_more : (cs : Codes) (oss : List (List Owner)) (c : Coded) (os : List Owner) → Even cs oss → Even (with_code cs c) (oss ++ os ∷ [])
even_more cs oss c os e = record { blocks = longer cs.blocks c.code oss os e.blocks; marks = longer cs.marks c.marks oss os e.marks }

begins_before : (p : Plan) (cs : Codes) (c : Coded) → Begins p (with_code cs c) → Begins p cs
begins_before p cs c b = record {
  blocks = (c.code ∷ b.blocks.0, b.blocks.1 ∙ append_assoc cs.blocks (c.code ∷ []) b.blocks.0);
  marks = (c.marks ∷ b.marks.0, b.marks.1 ∙ append_assoc cs.marks (c.marks ∷ []) b.marks.0);
}

code_at : (p : Plan) (cs : Codes) (c : Coded) → Begins p (with_code cs c) → (k : ℕ) → length cs.blocks ≡ k → instrs_in p k ≡ c.code.instrs
code_at p cs c b k e =
    ap (λ m. instrs_in p m) (sym e)
    ∙ ap (λ xs. instrs_of (slice_get xs (length cs.blocks))) (b.blocks.1 ∙ append_assoc cs.blocks (c.code ∷ []) b.blocks.0)
    ∙ ap instrs_of (at_length cs.blocks b.blocks.0 c.code)

marks_at : (p : Plan) (cs : Codes) (c : Coded) → Begins p (with_code cs c) → (k : ℕ) → length cs.marks ≡ k → marks_in p k ≡ c.marks
marks_at p cs c b k e =
    ap (λ m. marks_in p m) (sym e)
    ∙ ap (λ xs. unwrap_or (slice_get xs (length cs.marks)) []) (b.marks.1 ∙ append_assoc cs.marks (c.marks ∷ []) b.marks.0)
    ∙ ap (λ o. unwrap_or o []) (at_length cs.marks b.marks.0 c.marks)

module _ (p : Plan) (version : ℕ) (blocks : List (Block ℕ)) (variants : List ℕ) where
  before_plain : (cs : Codes) (n : ℕ) (bs : List (Block ℕ)) → Begins p (plain_codes cs version blocks variants n bs) → Begins p cs
  before_plain cs n [] h = h
  before_plain cs n (b ∷ bs) h =
      begins_before p cs (plain_code version blocks variants n b) (before_plain (with_code cs (plain_code version blocks variants n b)) (n + 1) bs h)

  before_variants : (cs : Codes) (n : ℕ) (bs : List (Block ℕ)) → Begins p (variant_codes cs version blocks variants n bs) → Begins p cs
  before_variants cs n [] h = h
  before_variants cs n (b ∷ bs) h =
      go (some_block_loops n blocks)
      (before_variants (if some_block_loops n blocks then with_code cs (variant_code version blocks variants n b) else cs) (n + 1) bs h)
    where
      go : (t : Bool) → Begins p (if t then with_code cs (variant_code version blocks variants n b) else cs) → Begins p cs
      go true k = begins_before p cs (variant_code version blocks variants n b) k
      go false k = k

  -- what is found of the k-th code block
  plain_next : (n : ℕ) (b : Block ℕ) (k : ℕ) → instrs_in p k ≡ (plain_code version blocks variants n b).code.instrs
      → marks_in p k ≡ (plain_code version blocks variants n b).marks
      → owned n false (parts_of blocks b false (instrs_in p k) (marks_in p k)) ≡ plain_owners version blocks variants n b
  unfolding plain_code plain_owners
  plain_next n b k same_instrs same_marks =
      ap (λ is. owned n false (parts_of blocks b false is (marks_in p k))) same_instrs
      ∙ ap (λ ms. owned n false (parts_of blocks b false (plain_build (scope_of version blocks variants n b false)).instrs ms)) same_marks
      ∙ ap (owned n false) (plain_is_found (scope_of version blocks variants n b false) refl refl)

  variant_next : (n : ℕ) (b : Block ℕ) (k : ℕ) → instrs_in p k ≡ (variant_code version blocks variants n b).code.instrs
      → marks_in p k ≡ (variant_code version blocks variants n b).marks
      → owned n true (parts_of blocks b true (instrs_in p k) (marks_in p k)) ≡ variant_owners version blocks variants n b
  unfolding variant_code variant_owners
  variant_next n b k same_instrs same_marks =
      ap (λ is. owned n true (parts_of blocks b true is (marks_in p k))) same_instrs
      ∙ ap (λ ms. owned n true (parts_of blocks b true (variant_build (scope_of version blocks variants n b true) (variant_of variants n)).instrs ms)) same_marks
      ∙ ap (owned n true) (variant_is_found (scope_of version blocks variants n b true) (variant_of variants n) refl refl)

  plain_even : (oss : List (List Owner)) (cs : Codes) (n : ℕ) (bs : List (Block ℕ)) → Even cs oss
      → Even (plain_codes cs version blocks variants n bs) (Owners.all_plain oss version blocks variants n bs)
  plain_even oss cs n [] e = e
  plain_even oss cs n (b ∷ bs) e =
      let c = plain_code version blocks variants n b in
      let os = plain_owners version blocks variants n b in
      plain_even (oss ++ os ∷ []) (with_code cs c) (n + 1) bs (even_more cs oss c os e)

  plain_found : (oss : List (List Owner)) (cs : Codes) (n : ℕ) (bs : List (Block ℕ)) → Even cs oss
      → Begins p (plain_codes cs version blocks variants n bs) → Found.all_plain blocks p oss n bs ≡ Owners.all_plain oss version blocks variants n bs
  plain_found oss cs n [] e h = refl
  plain_found oss cs n (b ∷ bs) e h =
      let c = plain_code version blocks variants n b in
      let os = plain_owners version blocks variants n b in
      let here = before_plain (with_code cs c) (n + 1) bs h in
      let same = plain_next n b (length oss) (code_at p cs c here (length oss) e.blocks) (marks_at p cs c here (length oss) e.marks) in
      ap (λ xs. Found.all_plain blocks p (oss ++ xs ∷ []) (n + 1) bs) same
      ∙ plain_found (oss ++ os ∷ []) (with_code cs c) (n + 1) bs (even_more cs oss c os e) h

  variants_found : (oss : List (List Owner)) (cs : Codes) (n : ℕ) (bs : List (Block ℕ)) → Even cs oss
      → Begins p (variant_codes cs version blocks variants n bs) → Found.all_variants blocks p oss n bs ≡ Owners.all_variants oss version blocks variants n bs
  variants_found oss cs n [] e h = refl
  variants_found oss cs n (b ∷ bs) e h = go (some_block_loops n blocks) (λ os ds. variants_found os ds (n + 1) bs) h
    where
      go : (t : Bool)
          → ((os : List (List Owner)) (ds : Codes) → Even ds os → Begins p (variant_codes ds version blocks variants (n + 1) bs)
          → Found.all_variants blocks p os (n + 1) bs ≡ Owners.all_variants os version blocks variants (n + 1) bs)
          → Begins p (variant_codes (if t then with_code cs (variant_code version blocks variants n b) else cs) version blocks variants (n + 1) bs)
          → Found.all_variants blocks p (if t then with_block blocks p oss n true b else oss) (n + 1) bs
          ≡ Owners.all_variants (if t then oss ++ variant_owners version blocks variants n b ∷ [] else oss) version blocks variants (n + 1) bs
      go true rest k =
          let c = variant_code version blocks variants n b in
          let os = variant_owners version blocks variants n b in
          let here = before_variants (with_code cs c) (n + 1) bs k in
          let same = variant_next n b (length oss) (code_at p cs c here (length oss) e.blocks) (marks_at p cs c here (length oss) e.marks) in
          ap (λ xs. Found.all_variants blocks p (oss ++ xs ∷ []) (n + 1) bs) same
          ∙ rest (oss ++ os ∷ []) (with_code cs c) (even_more cs oss c os e) k
      go false rest k = rest oss cs e k

pub blocks_found : (fl : Flow)
    → Found.all_variants fl.blocks (expanded fl) (Found.all_plain fl.blocks (expanded fl) [] 0 fl.blocks) 0 fl.blocks ≡ Owners.expanded_owners fl
blocks_found fl =
    ap (λ oss. Found.all_variants fl.blocks p oss 0 fl.blocks) (plain_found p fl.version fl.blocks vs [] no_codes 0 fl.blocks none (before_variants p fl.version
    fl.blocks vs plain 0 fl.blocks all))
    ∙ variants_found p fl.version fl.blocks vs (Owners.all_plain [] fl.version fl.blocks vs 0 fl.blocks) plain 0 fl.blocks (plain_even p fl.version fl.blocks vs []
    no_codes 0 fl.blocks none) all
  where
    p : Plan
    p = expanded fl

    vs : List ℕ
    vs = variants_of fl.blocks

    plain : Codes
    plain = plain_codes no_codes fl.version fl.blocks vs 0 fl.blocks

    none : Even no_codes []
    none = record { blocks = refl; marks = refl }

    all : Begins p (variant_codes plain fl.version fl.blocks vs 0 fl.blocks)
    all = record {
      blocks = ([], sym (append-nil (variant_codes plain fl.version fl.blocks vs 0 fl.blocks).blocks));
      marks = ([], sym (append-nil (variant_codes plain fl.version fl.blocks vs 0 fl.blocks).marks));
    }

pub small_blocks : (g : Graph) → HasText g → All IsSmall g.blocks
small_blocks g text = all_from IsSmall g.blocks (λ i b here.
    let fits : HasBlockText g.version b = all_at (HasBlockText g.version) g.blocks i b text.blocks here in
    record { nodes = fits.size; results = fits.results.0 })

pub found_owners : (g : Graph) (p : Plan) (one two : List (List Owner)) → p ≡ expanded (flow_of g)
    → one ≡ Found.all_plain (flow_of g).blocks p [] 0 (flow_of g).blocks → two ≡ Found.all_variants (flow_of g).blocks p one 0 (flow_of g).blocks
    → two ≡ Owners.expanded_owners (flow_of g)
found_owners g p one two plan plain variants =
    variants ∙ ap (λ oss. Found.all_variants (flow_of g).blocks p oss 0 (flow_of g).blocks) plain
    ∙ ap (λ q. Found.all_variants (flow_of g).blocks q (Found.all_plain (flow_of g).blocks q [] 0 (flow_of g).blocks) 0 (flow_of g).blocks) plan
    ∙ blocks_found (flow_of g)
