-- Which code blocks a plan has, and where.
use Rattle.std.proofs.Common.{◌≡◌, ℕ, zero, suc, ◌+◌, ◌<◌, ◌≤◌, ◌⊎◌, Bool, true, false, List, [], ◌∷◌, ◌++◌, length, refl, sym, ap, ◌∙◌, arith, append_assoc}
use Rattle.std.proofs.Common.{append-nil, if◌then◌else◌, inl, inr, Some, ◌==◌}
use Rattle.std.specs.Prelude.{slice_get, slice_index_or}
use Rattle.std.proofs.lemmas.Bool.{cases_lt, eqb-true, eq-eqb}
use Rattle.std.proofs.lemmas.List.{length-append, length_push, get_or_append_left, get_or_push}
use Rattle.std.proofs.lemmas.Option.{slice_get_within}
use Rattle.lemmas.proofs.SliceGet.{get_append_cases}
use Rattle.semantics.specs.declared.graph.Kind.{Kind}
use Rattle.semantics.specs.declared.graph.Kind.TheVariants.{Loop}
use Rattle.semantics.specs.Graph.{Node, Block}
use Rattle.semantics.specs.Program.{CodeBlock}
use Rattle.schemas.specs.Blocks.{Coded, variant_of}
use Rattle.schemas.specs.Variants.{loops_to, some_node_loops, some_block_loops, next_variant, variants_from, variants_of}
use Rattle.schemas.specs.Expanded.{Codes, with_code, no_codes, plain_code, variant_code, plain_codes, variant_codes, codes_of}
use Rattle.law_wiring.proofs.ArcsLists.{get_left, get_right}

-- LISTS
-- WHICH LOOPS
module _ (f : ℕ) where
  self : (f == f) ≡ true
  self = eq-eqb f f refl

  node_loops : (ns : List (Node ℕ)) (k : ℕ) (n : Node ℕ) (bound : ℕ) → slice_get ns k ≡ Some n → n.kind ≡ Loop f bound → some_node_loops f ns ≡ true
  node_loops [] k n bound e q = absurd (cc)
  node_loops (x ∷ ns) zero n bound e q =
      let p : x ≡ n = cc in
      ap (λ (y : Node ℕ). if loops_to f y.kind then true else some_node_loops f ns) p ∙ ap (λ y. if loops_to f y then true else some_node_loops f ns) q
      ∙ ap (λ t. if t then true else some_node_loops f ns) self
  node_loops (x ∷ ns) (suc k) n bound e q = go (loops_to f x.kind) (node_loops ns k n bound e q)
    where
      go : (t : Bool) → some_node_loops f ns ≡ true → (if t then true else some_node_loops f ns) ≡ true
      go true h = refl
      go false h = h

  -- a loop in some block names the block
  pub is_looped : (bs : List (Block ℕ)) (i : ℕ) (b : Block ℕ) (k : ℕ) (n : Node ℕ) (bound : ℕ) → slice_get bs i ≡ Some b → slice_get b.nodes k ≡ Some n
      → n.kind ≡ Loop f bound → some_block_loops f bs ≡ true
  is_looped [] i b k n bound e g q = absurd (cc)
  is_looped (x ∷ bs) zero b k n bound e g q =
      let p : x ≡ b = cc in
      ap (λ (y : Block ℕ). if some_node_loops f y.nodes then true else some_block_loops f bs) p
      ∙ ap (λ t. if t then true else some_block_loops f bs) (node_loops b.nodes k n bound g q)
  is_looped (x ∷ bs) (suc i) b k n bound e g q = go (some_node_loops f x.nodes) (is_looped bs i b k n bound e g q)
    where
      go : (t : Bool) → some_block_loops f bs ≡ true → (if t then true else some_block_loops f bs) ≡ true
      go true h = refl
      go false h = h

  loops_back : (k : Kind ℕ) → loops_to f k ≡ true → (bound : ℕ) × (k ≡ Loop f bound)
  loops_back (Loop g bound) e = let same : g ≡ f = eqb-true g f e in (bound, ap (λ x. Loop x bound) same)
  loops_back k e = absurd (cc)

  some_node : (ns : List (Node ℕ)) → some_node_loops f ns ≡ true → (k : ℕ) × (n : Node ℕ) × (bound : ℕ) × (slice_get ns k ≡ Some n) × (n.kind ≡ Loop f bound)
  some_node [] e = absurd (cc)
  some_node (x ∷ ns) e = go (loops_to f x.kind) refl e (some_node ns)
    where
      go : (t : Bool) → loops_to f x.kind ≡ t → (if t then true else some_node_loops f ns) ≡ true
          → (some_node_loops f ns ≡ true → (k : ℕ) × (n : Node ℕ) × (bound : ℕ) × (slice_get ns k ≡ Some n) × (n.kind ≡ Loop f bound))
          → (k : ℕ) × (n : Node ℕ) × (bound : ℕ) × (slice_get (x ∷ ns) k ≡ Some n) × (n.kind ≡ Loop f bound)
      go true s h more = let l = loops_back x.kind s in (0, x, l.0, refl, l.1)
      go false s h more = let m = more h in (suc m.0, m.1, m.2, m.3, m.4)

  -- and each looped block is named by a loop in some block
  pub some_loop : (bs : List (Block ℕ)) → some_block_loops f bs ≡ true
      → (i : ℕ) × (b : Block ℕ) × (k : ℕ) × (n : Node ℕ) × (bound : ℕ) × (slice_get bs i ≡ Some b) × (slice_get b.nodes k ≡ Some n) × (n.kind ≡ Loop f bound)
  some_loop [] e = absurd (cc)
  some_loop (x ∷ bs) e = go (some_node_loops f x.nodes) refl e (some_loop bs)
    where
      go : (t : Bool) → some_node_loops f x.nodes ≡ t → (if t then true else some_block_loops f bs) ≡ true
          → (some_block_loops f bs ≡ true → (i : ℕ) × (b : Block ℕ) × (k : ℕ) × (n : Node ℕ) × (bound : ℕ) × (slice_get bs i ≡ Some b)
          × (slice_get b.nodes k ≡ Some n) × (n.kind ≡ Loop f bound))
          → (i : ℕ) × (b : Block ℕ) × (k : ℕ) × (n : Node ℕ) × (bound : ℕ) × (slice_get (x ∷ bs) i ≡ Some b) × (slice_get b.nodes k ≡ Some n)
          × (n.kind ≡ Loop f bound)
      go true s h more = let m = some_node x.nodes s in (0, x, m.0, m.1, m.2, refl, m.3, m.4)
      go false s h more = let m = more h in (suc m.0, m.1, m.2, m.3, m.4, m.5, m.6, m.7)

-- THE CODE BLOCKS
module _ (v : ℕ) (bs : List (Block ℕ)) (vars : List ℕ) where
  plain_list : ℕ → List (Block ℕ) → List CodeBlock
  plain_list n [] = []
  plain_list n (b ∷ rest) = (plain_code v bs vars n b).code ∷ plain_list (n + 1) rest

  variant_list : ℕ → List (Block ℕ) → List CodeBlock
  variant_list n [] = []
  variant_list n (b ∷ rest) = if some_block_loops n bs then (variant_code v bs vars n b).code ∷ variant_list (n + 1) rest else variant_list (n + 1) rest

  plain_blocks : (cs : Codes) (n : ℕ) (rest : List (Block ℕ)) → (plain_codes cs v bs vars n rest).blocks ≡ cs.blocks ++ plain_list n rest
  unfolding plain_list
  plain_blocks cs n [] = sym (append-nil cs.blocks)
  plain_blocks cs n (b ∷ rest) =
      let x : Coded = plain_code v bs vars n b in
      plain_blocks (with_code cs x) (n + 1) rest ∙ append_assoc cs.blocks (x.code ∷ []) (plain_list (n + 1) rest)

  variant_blocks : (cs : Codes) (n : ℕ) (rest : List (Block ℕ)) → (variant_codes cs v bs vars n rest).blocks ≡ cs.blocks ++ variant_list n rest
  unfolding variant_list
  variant_blocks cs n [] = sym (append-nil cs.blocks)
  variant_blocks cs n (b ∷ rest) =
      let x : Coded = variant_code v bs vars n b in
      go x (some_block_loops n bs) (variant_blocks (with_code cs x) (n + 1) rest) (variant_blocks cs (n + 1) rest)
    where
      go : (x : Coded) (t : Bool) → (variant_codes (with_code cs x) v bs vars (n + 1) rest).blocks ≡ (cs.blocks ++ x.code ∷ []) ++ variant_list (n + 1) rest
          → (variant_codes cs v bs vars (n + 1) rest).blocks ≡ cs.blocks ++ variant_list (n + 1) rest
          → (variant_codes (if t then with_code cs x else cs) v bs vars (n + 1) rest).blocks ≡ cs.blocks
          ++ (if t then x.code ∷ variant_list (n + 1) rest else variant_list (n + 1) rest)
      go x true p q = p ∙ append_assoc cs.blocks (x.code ∷ []) (variant_list (n + 1) rest)
      go x false p q = q

  plain_length : (n : ℕ) (rest : List (Block ℕ)) → length (plain_list n rest) ≡ length rest
  unfolding plain_list
  plain_length n [] = refl
  plain_length n (b ∷ rest) = ap suc (plain_length (n + 1) rest)

  variant_length : (n : ℕ) (rest : List (Block ℕ)) → length (variant_list n rest) ≤ length rest
  unfolding variant_list
  variant_length n [] = omega arith
  variant_length n (b ∷ rest) = go (variant_code v bs vars n b).code (some_block_loops n bs) (variant_length (n + 1) rest)
    where
      go : (x : CodeBlock) (t : Bool) → length (variant_list (n + 1) rest) ≤ length rest
          → length (if t then x ∷ variant_list (n + 1) rest else variant_list (n + 1) rest) ≤ suc (length rest)
      go x true l = omega (arith, l)
      go x false l = omega (arith, l)

  plain_there : (n k : ℕ) (rest : List (Block ℕ)) (b : Block ℕ) → slice_get rest k ≡ Some b
      → slice_get (plain_list n rest) k ≡ Some (plain_code v bs vars (n + k) b).code
  unfolding plain_list
  plain_there n k [] b e = absurd (cc)
  plain_there n zero (x ∷ rest) b e =
      let p : x ≡ b = cc in
      let at : n ≡ n + 0 = omega arith in
      ap (λ y. Some (plain_code v bs vars n y).code) p ∙ ap (λ m. Some (plain_code v bs vars m b).code) at
  plain_there n (suc k) (x ∷ rest) b e =
      let at : n + 1 + k ≡ n + suc k = omega arith in
      plain_there (n + 1) k rest b e ∙ ap (λ m. Some (plain_code v bs vars m b).code) at

  plain_back : (n k : ℕ) (rest : List (Block ℕ)) (c : CodeBlock) → slice_get (plain_list n rest) k ≡ Some c
      → (b : Block ℕ) × (slice_get rest k ≡ Some b) × ((plain_code v bs vars (n + k) b).code ≡ c)
  unfolding plain_list
  plain_back n k [] c e = absurd (cc)
  plain_back n zero (x ∷ rest) c e =
      let p : (plain_code v bs vars n x).code ≡ c = cc in
      let at : n + 0 ≡ n = omega arith in
      (x, refl, ap (λ m. (plain_code v bs vars m x).code) at ∙ p)
  plain_back n (suc k) (x ∷ rest) c e =
      let at : n + suc k ≡ n + 1 + k = omega arith in
      let m = plain_back (n + 1) k rest c e in
      (m.0, m.1, ap (λ i. (plain_code v bs vars i m.0).code) at ∙ m.2)

  -- the number of the next variant after one more block
  next_step : (n : ℕ) (t : Bool) → some_block_loops n bs ≡ t → next_variant bs (n + 1) ≡ (if t then next_variant bs n + 1 else next_variant bs n)
  next_step n t e =
      let at : n + 1 ≡ suc n = omega arith in
      ap (next_variant bs) at ∙ ap (λ u. if u then next_variant bs n + 1 else next_variant bs n) e

  variant_there : (n k : ℕ) (rest : List (Block ℕ)) (b : Block ℕ) → slice_get rest k ≡ Some b → some_block_loops (n + k) bs ≡ true
      → (d : ℕ) × (next_variant bs (n + k) ≡ next_variant bs n + d) × (slice_get (variant_list n rest) d ≡ Some (variant_code v bs vars (n + k) b).code)
  unfolding variant_list
  variant_there n k [] b e l = absurd (cc)
  variant_there n zero (x ∷ rest) b e l =
      let p : x ≡ b = cc in
      let at : n + 0 ≡ n = omega arith in
      let here : some_block_loops n bs ≡ true = ap (λ m. some_block_loops m bs) (sym at) ∙ l in
      let more : List CodeBlock = variant_list (n + 1) rest in
      let next : next_variant bs (n + 0) ≡ next_variant bs n = ap (next_variant bs) at in (
        0,
        omega (arith, next),
        ap (λ t. slice_get (if t then (variant_code v bs vars n x).code ∷ more else more) 0) here ∙ ap (λ y. Some (variant_code v bs vars n y).code) p
            ∙ ap (λ m. Some (variant_code v bs vars m b).code) (sym at),
      )
  variant_there n (suc k) (x ∷ rest) b e l =
      let at : n + 1 + k ≡ n + suc k = omega arith in
      let m = variant_there (n + 1) k rest b e (ap (λ i. some_block_loops i bs) at ∙ l) in
      let next : next_variant bs (n + suc k) ≡ next_variant bs (n + 1) + m.0 = ap (next_variant bs) (sym at) ∙ m.1 in
      go (variant_code v bs vars n x).code (some_block_loops n bs) m.0 next (next_step n (some_block_loops n bs) refl)
      (m.2 ∙ ap (λ i. Some (variant_code v bs vars i b).code) at)
    where
      go : (y : CodeBlock) (t : Bool) (d : ℕ) → next_variant bs (n + suc k) ≡ next_variant bs (n + 1) + d
          → next_variant bs (n + 1) ≡ (if t then next_variant bs n + 1 else next_variant bs n)
          → slice_get (variant_list (n + 1) rest) d ≡ Some (variant_code v bs vars (n + suc k) b).code
          → (d : ℕ) × (next_variant bs (n + suc k) ≡ next_variant bs n + d)
          × (slice_get (if t then y ∷ variant_list (n + 1) rest else variant_list (n + 1) rest) d ≡ Some (variant_code v bs vars (n + suc k) b).code)
      go y true d p q r = (suc d, omega (arith, p, q), r)
      go y false d p q r = (d, omega (arith, p, q), r)

  -- a looped block of those from a number on has this code
  abbrev Looped : ℕ → List (Block ℕ) → CodeBlock → Type 0
  Looped n rest c = (k : ℕ) × (b : Block ℕ) × (slice_get rest k ≡ Some b) × (some_block_loops (n + k) bs ≡ true) × ((variant_code v bs vars (n + k) b).code ≡ c)

  looped_more : (n : ℕ) (x : Block ℕ) (rest : List (Block ℕ)) (c : CodeBlock) → Looped (n + 1) rest c → Looped n (x ∷ rest) c
  looped_more n x rest c m =
      let at : n + suc m.0 ≡ n + 1 + m.0 = omega arith in
      (suc m.0, m.1, m.2, ap (λ i. some_block_loops i bs) at ∙ m.3, ap (λ i. (variant_code v bs vars i m.1).code) at ∙ m.4)

  variant_back : (n d : ℕ) (rest : List (Block ℕ)) (c : CodeBlock) → slice_get (variant_list n rest) d ≡ Some c → Looped n rest c
  unfolding variant_list
  variant_back n d [] c e = absurd (cc)
  variant_back n d (x ∷ rest) c e = go (some_block_loops n bs) refl d e (λ i f. variant_back (n + 1) i rest c f)
    where
      go : (t : Bool) → some_block_loops n bs ≡ t → (d : ℕ)
          → slice_get (if t then (variant_code v bs vars n x).code ∷ variant_list (n + 1) rest else variant_list (n + 1) rest) d ≡ Some c
          → ((i : ℕ) → slice_get (variant_list (n + 1) rest) i ≡ Some c → Looped (n + 1) rest c) → Looped n (x ∷ rest) c
      go true s zero f more =
          let at : n + 0 ≡ n = omega arith in
          let p : (variant_code v bs vars n x).code ≡ c = cc in
          (0, x, refl, ap (λ i. some_block_loops i bs) at ∙ s, ap (λ i. (variant_code v bs vars i x).code) at ∙ p)
      go true s (suc d) f more = looped_more n x rest c (more d f)
      go false s d f more = looped_more n x rest c (more d f)

-- VARIANT NUMBERS
pub variants_length : (bs : List (Block ℕ)) (n : ℕ) → length (variants_from bs n) ≡ n
variants_length bs zero = refl
variants_length bs (suc n) = let l = length_push (variants_from bs n) (next_variant bs n) in let m = variants_length bs n in omega (arith, l, m)

pub variant_number : (bs : List (Block ℕ)) (n f : ℕ) → f < n → slice_index_or (variants_from bs n) f 0 ≡ next_variant bs f
variant_number bs zero f l = absurd (omega (arith, l))
variant_number bs (suc n) f l = go (cases_lt f n) (variant_number bs n f)
  where
    go : (f < n) ⊎ (n ≤ f) → (f < n → slice_index_or (variants_from bs n) f 0 ≡ next_variant bs f)
        → slice_index_or (variants_from bs n ++ next_variant bs n ∷ []) f 0 ≡ next_variant bs f
    go (inl a) earlier =
        let long = variants_length bs n in
        get_or_append_left (variants_from bs n) (next_variant bs n ∷ []) 0 f (omega (arith, long, a)) ∙ earlier a
    go (inr a) earlier =
        let long = variants_length bs n in
        let same : n ≡ f = omega (arith, a, l) in
        get_or_push (variants_from bs n) (next_variant bs n) 0 f (omega (arith, long, same)) ∙ ap (next_variant bs) same

-- WHOLE PLANS
module _ (v : ℕ) (bs : List (Block ℕ)) where
  abbrev pub all_codes : List CodeBlock
  all_codes = (codes_of v bs).blocks

  abbrev vars : List ℕ
  vars = variants_of bs

  all_are : all_codes ≡ plain_list v bs vars 0 bs ++ variant_list v bs vars 0 bs
  all_are =
      variant_blocks v bs vars (plain_codes no_codes v bs vars 0 bs) 0 bs ∙ ap (λ xs. xs ++ variant_list v bs vars 0 bs) (plain_blocks v bs vars no_codes 0 bs)

  -- each code block is the plain code of a block or its loop variant
  pub code_cases : (b : ℕ) (c : CodeBlock) → slice_get all_codes b ≡ Some c
      → ((x : Block ℕ) × (slice_get bs b ≡ Some x) × ((plain_code v bs vars b x).code ≡ c))
      ⊎ ((f : ℕ) × (x : Block ℕ) × (slice_get bs f ≡ Some x) × (some_block_loops f bs ≡ true) × ((variant_code v bs vars f x).code ≡ c))
  code_cases b c e = go (get_append_cases (plain_list v bs vars 0 bs) (variant_list v bs vars 0 bs) b c (ap (λ xs. slice_get xs b) (sym all_are) ∙ e))
    where
      go : (slice_get (plain_list v bs vars 0 bs) b ≡ Some c)
          ⊎ ((j : ℕ) × (b ≡ length (plain_list v bs vars 0 bs) + j) × (slice_get (variant_list v bs vars 0 bs) j ≡ Some c))
          → ((x : Block ℕ) × (slice_get bs b ≡ Some x) × ((plain_code v bs vars b x).code ≡ c))
          ⊎ ((f : ℕ) × (x : Block ℕ) × (slice_get bs f ≡ Some x) × (some_block_loops f bs ≡ true) × ((variant_code v bs vars f x).code ≡ c))
      go (inl h) =
          let m = plain_back v bs vars 0 b bs c h in
          let at : b ≡ 0 + b = omega arith in
          inl (m.0, m.1, ap (λ i. (plain_code v bs vars i m.0).code) at ∙ m.2)
      go (inr h) =
          let m = variant_back v bs vars 0 h.0 bs c h.2 in
          let at : m.0 ≡ 0 + m.0 = omega arith in
          inr (m.0, m.1, m.2, ap (λ i. some_block_loops i bs) at ∙ m.3, ap (λ i. (variant_code v bs vars i m.1).code) at ∙ m.4)

  -- the plain code of a block has the block's number
  pub plain_at : (f : ℕ) (x : Block ℕ) → slice_get bs f ≡ Some x → slice_get all_codes f ≡ Some (plain_code v bs vars f x).code
  plain_at f x e =
      let at : 0 + f ≡ f = omega arith in
      ap (λ xs. slice_get xs f) all_are
      ∙ get_left (plain_list v bs vars 0 bs) (variant_list v bs vars 0 bs) f (plain_code v bs vars f x).code
      (plain_there v bs vars 0 f bs x e ∙ ap (λ i. Some (plain_code v bs vars i x).code) at)

  -- the loop variant of a looped block has its variant's number
  pub variant_at : (f : ℕ) (x : Block ℕ) → slice_get bs f ≡ Some x → some_block_loops f bs ≡ true
      → slice_get all_codes (variant_of vars f) ≡ Some (variant_code v bs vars f x).code
  variant_at f x e l =
      let at : 0 + f ≡ f = omega arith in
      let m = variant_there v bs vars 0 f bs x e (ap (λ i. some_block_loops i bs) at ∙ l) in
      let number : variant_of vars f ≡ next_variant bs f = variant_number bs (length bs) f (slice_get_within bs f x e) in
      let next : next_variant bs (0 + f) ≡ next_variant bs f = ap (next_variant bs) at in
      let there : next_variant bs (0 + f) ≡ length bs + m.0 = m.1 in
      let long = plain_length v bs vars 0 bs in
      let place : variant_of vars f ≡ length (plain_list v bs vars 0 bs) + m.0 = omega (arith, number, next, there, long) in
      ap (λ xs. slice_get xs (variant_of vars f)) all_are
      ∙ get_right (plain_list v bs vars 0 bs) (variant_list v bs vars 0 bs) (variant_of vars f) m.0 (variant_code v bs vars f x).code place
      (m.2 ∙ ap (λ i. Some (variant_code v bs vars i x).code) at)

  pub codes_count : (length bs ≤ length all_codes) × (length all_codes ≤ length bs + length bs)
  codes_count =
      let one = length-append (plain_list v bs vars 0 bs) (variant_list v bs vars 0 bs) in
      let two = plain_length v bs vars 0 bs in
      let three = variant_length v bs vars 0 bs in
      let all : length all_codes ≡ length (plain_list v bs vars 0 bs ++ variant_list v bs vars 0 bs) = ap (λ (xs : List CodeBlock). length xs) all_are in
      (omega (arith, one, two, all), omega (arith, one, two, three, all))
