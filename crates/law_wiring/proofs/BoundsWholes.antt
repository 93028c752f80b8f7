-- The code blocks of a plan and the graph's blocks: bounds, marks and holders.
use Rattle.std.proofs.Common.{◌≡◌, ℕ, zero, suc, ◌+◌, Bool, true, false, cond, List, [], ◌∷◌, ◌++◌, length, refl, sym, ap, ◌∙◌, subst, append_assoc, append-nil}
use Rattle.std.proofs.Common.{if◌then◌else◌, Some, None, nat_lt, sum_by}
use Rattle.std.specs.Prelude.{slice_get, count_by, ⊤}
use Rattle.std.proofs.lemmas.List.Sums.{sum-map, sum_by-cons}
use Rattle.lemmas.proofs.Permutations.{permutation_same}
use Rattle.lemmas.proofs.Bools.{sum_is_positive}
use Rattle.semantics.specs.declared.graph.Kind.{Kind}
use Rattle.semantics.specs.declared.graph.Kind.TheVariants.{Lit, Apply1, Apply2, Cond, Enter, Merge, Fetch, Store, Call, StrictCall, Loop}
use Rattle.semantics.specs.declared.program.Mark.{Mark}
use Rattle.semantics.specs.Graph.{Node, Block, Flow}
use Rattle.semantics.specs.Program.{Instr, CodeBlock}
use Rattle.semantics.specs.Plan.{mark_in}
use Rattle.semantics.specs.Cause.{HasBounds, coded_blocks, looped_from, is_looped, loop_bounds}
use Rattle.semantics.specs.Cause as Cause
use Rattle.law_wiring.specs.BoundsKeeping.{Fits, MarksFit, AreNumbered, HoldersInOrder}
use Rattle.schemas.specs.Variants.{loops_to, some_node_loops, some_block_loops, variants_of}
use Rattle.schemas.specs.Blocks.{Coded, variant_of}
use Rattle.schemas.specs.Expanded.{Codes, with_code, no_codes, scope_of, plain_code, variant_code, plain_codes, variant_codes, expanded}
use Rattle.law_wiring.proofs.Bounds.{opens, AreFit, code_opens, code_fits, code_numbered}

abbrev IsGood : CodeBlock → List Mark → Block ℕ → Type 0
IsGood c ms g = (opens c.instrs ≡ loop_bounds g) × AreFit c.instrs ms × AreNumbered 0 c.instrs c.slots

abbrev AllGood : List CodeBlock → List (List Mark) → List (Block ℕ) → Type 0
AllGood [] [] [] = ⊤
AllGood (c ∷ cs) (m ∷ ms) (g ∷ gs) = IsGood c m g × AllGood cs ms gs
AllGood cs ms gs = ⊥

good-push : (cs : List CodeBlock) (ms : List (List Mark)) (gs : List (Block ℕ)) (c : CodeBlock) (m : List Mark) (g : Block ℕ) → AllGood cs ms gs → IsGood c m g
    → AllGood (cs ++ c ∷ []) (ms ++ m ∷ []) (gs ++ g ∷ [])
good-push [] [] [] c m g h q = (q, tt)
good-push (x ∷ cs) (y ∷ ms) (z ∷ gs) c m g h q = (h.0, good-push cs ms gs c m g h.1 q)
good-push cs ms gs c m g h q = absurd h

good_code : (v : ℕ) (bs : List (Block ℕ)) (vars : List ℕ) (n : ℕ) (b : Block ℕ) → IsGood (plain_code v bs vars n b).code (plain_code v bs vars n b).marks b
unfolding plain_code
good_code v bs vars n b =
    (code_opens (scope_of v bs vars n b false) None, code_fits (scope_of v bs vars n b false) None, code_numbered (scope_of v bs vars n b false) None)

good_variant : (v : ℕ) (bs : List (Block ℕ)) (vars : List ℕ) (n : ℕ) (b : Block ℕ)
    → IsGood (variant_code v bs vars n b).code (variant_code v bs vars n b).marks b
unfolding variant_code
good_variant v bs vars n b = (
  code_opens (scope_of v bs vars n b true) (Some (variant_of vars n)),
  code_fits (scope_of v bs vars n b true) (Some (variant_of vars n)),
  code_numbered (scope_of v bs vars n b true) (Some (variant_of vars n)),
)

abbrev GoodCodes : Codes → List (Block ℕ) → Type 0
GoodCodes cs gs = AllGood cs.blocks cs.marks gs

plain_good : (cs : Codes) (gs : List (Block ℕ)) (v : ℕ) (bs : List (Block ℕ)) (vars : List ℕ) (n : ℕ) (rest : List (Block ℕ)) → GoodCodes cs gs
    → GoodCodes (plain_codes cs v bs vars n rest) (gs ++ rest)
plain_good cs gs v bs vars n [] h = subst (GoodCodes cs) (sym (append-nil gs)) h
plain_good cs gs v bs vars n (b ∷ rest) h =
    let x : Coded = plain_code v bs vars n b in
    subst (GoodCodes (plain_codes (with_code cs x) v bs vars (n + 1) rest)) (append_assoc gs (b ∷ []) rest)
    (plain_good (with_code cs x) (gs ++ b ∷ []) v bs vars (n + 1) rest (good-push cs.blocks cs.marks gs x.code x.marks b h (good_code v bs vars n b)))

abbrev looped_by : List (Block ℕ) → ℕ → List (Block ℕ) → List (Block ℕ)
looped_by all f [] = []
looped_by all f (b ∷ bs) = if some_block_loops f all then b ∷ looped_by all (f + 1) bs else looped_by all (f + 1) bs

variants_good : (cs : Codes) (gs : List (Block ℕ)) (v : ℕ) (bs : List (Block ℕ)) (vars : List ℕ) (n : ℕ) (rest : List (Block ℕ))
    → GoodCodes cs gs → GoodCodes (variant_codes cs v bs vars n rest) (gs ++ looped_by bs n rest)
variants_good cs gs v bs vars n [] h = subst (GoodCodes cs) (sym (append-nil gs)) h
variants_good cs gs v bs vars n (b ∷ rest) h =
    let x : Coded = variant_code v bs vars n b in
    let later : List (Block ℕ) = looped_by bs (n + 1) rest in
    let yes_case : GoodCodes (variant_codes (with_code cs x) v bs vars (n + 1) rest) (gs ++ b ∷ later)
    = subst (GoodCodes (variant_codes (with_code cs x) v bs vars (n + 1) rest)) (append_assoc gs (b ∷ []) later)
    (variants_good (with_code cs x) (gs ++ b ∷ []) v bs vars (n + 1) rest (good-push cs.blocks cs.marks gs x.code x.marks b h (good_variant v bs vars n b))) in
    by_test v bs vars n rest cs (with_code cs x) gs b (some_block_loops n bs) yes_case (variants_good cs gs v bs vars (n + 1) rest h)
  where
    by_test : (v : ℕ) (bs : List (Block ℕ)) (vars : List ℕ) (n : ℕ) (rest : List (Block ℕ)) (cs ds : Codes) (gs : List (Block ℕ)) (b : Block ℕ) (t : Bool)
        → GoodCodes (variant_codes ds v bs vars (n + 1) rest) (gs ++ b ∷ looped_by bs (n + 1) rest)
        → GoodCodes (variant_codes cs v bs vars (n + 1) rest) (gs ++ looped_by bs (n + 1) rest)
        → GoodCodes (variant_codes (if t then ds else cs) v bs vars (n + 1) rest)
        (gs ++ (if t then b ∷ looped_by bs (n + 1) rest else looped_by bs (n + 1) rest))
    by_test v bs vars n rest cs ds gs b true p q = p
    by_test v bs vars n rest cs ds gs b false p q = q

-- WHICH BLOCKS ARE LOOPED
pub same_test : (f : ℕ) (k : Kind ℕ) → loops_to f k ≡ Cause.loops_to f k
same_test f (Lit z) = refl
same_test f (Apply1 op) = refl
same_test f (Apply2 op) = refl
same_test f Cond = refl
same_test f Enter = refl
same_test f (Merge k) = refl
same_test f (Fetch a) = refl
same_test f (Store a) = refl
same_test f (Call g) = refl
same_test f (StrictCall g) = refl
same_test f (Loop g k) = refl

one_test : (t : Bool) → t ≡ nat_lt 0 (cond t 1 0)
one_test true = refl
one_test false = refl

abbrev pub weight : ℕ → Node ℕ → ℕ
weight f n = cond (Cause.loops_to f n.kind) 1 0

pub nodes_counted : (f : ℕ) (ns : List (Node ℕ)) → some_node_loops f ns ≡ nat_lt 0 (sum_by (weight f) ns)
nodes_counted f [] = refl
nodes_counted f (n ∷ ns) =
    sum_is_positive (weight f n) (sum_by (weight f) ns) (loops_to f n.kind) (some_node_loops f ns) (same_test f n.kind ∙ one_test (Cause.loops_to f n.kind))
    (nodes_counted f ns)
    ∙ ap (nat_lt 0) (sym (sum_by-cons (weight f) n ns))

abbrev pub loops_in : ℕ → Block ℕ → ℕ
loops_in f b = count_by (λ (n : Node ℕ). Cause.loops_to f n.kind) b.nodes

pub blocks_counted : (f : ℕ) (bs : List (Block ℕ)) → some_block_loops f bs ≡ nat_lt 0 (sum_by (loops_in f) bs)
blocks_counted f [] = refl
blocks_counted f (b ∷ bs) =
    sum_is_positive (loops_in f b) (sum_by (loops_in f) bs) (some_node_loops f b.nodes) (some_block_loops f bs) (nodes_counted f b.nodes) (blocks_counted f bs)
    ∙ ap (nat_lt 0) (sym (sum_by-cons (loops_in f) b bs))

pub same_looped : (fl : Flow) (f : ℕ) → some_block_loops f fl.blocks ≡ is_looped fl f
same_looped fl f = blocks_counted f fl.blocks ∙ ap (nat_lt 0) (sym (sum-map (loops_in f) fl.blocks))

same_from : (fl : Flow) (f : ℕ) (bs : List (Block ℕ)) → looped_by fl.blocks f bs ≡ looped_from fl f bs
same_from fl f [] = refl
same_from fl f (b ∷ bs) =
    ap (λ t. if t then b ∷ looped_by fl.blocks (f + 1) bs else looped_by fl.blocks (f + 1) bs) (same_looped fl f)
    ∙ ap (λ ys. if is_looped fl f then b ∷ ys else ys) (same_from fl (f + 1) bs)

-- ALL OF THEM
all_good : (fl : Flow) → AllGood (expanded fl).program.blocks (expanded fl).marks (coded_blocks fl)
all_good fl =
    let vars : List ℕ = variants_of fl.blocks in
    let plain : Codes = plain_codes no_codes fl.version fl.blocks vars 0 fl.blocks in
    subst (λ gs. AllGood (expanded fl).program.blocks (expanded fl).marks (fl.blocks ++ gs)) (same_from fl 0 fl.blocks)
    (variants_good plain fl.blocks fl.version fl.blocks vars 0 fl.blocks (plain_good no_codes [] fl.version fl.blocks vars 0 fl.blocks tt))

good_count : (cs : List CodeBlock) (ms : List (List Mark)) (gs : List (Block ℕ)) → AllGood cs ms gs → length cs ≡ length gs
good_count [] [] [] h = refl
good_count (c ∷ cs) (m ∷ ms) (g ∷ gs) h = ap suc (good_count cs ms gs h.1)
good_count cs ms gs h = absurd h

good_opens : (cs : List CodeBlock) (ms : List (List Mark)) (gs : List (Block ℕ)) → AllGood cs ms gs → (b : ℕ) (c : CodeBlock) (g : Block ℕ)
    → slice_get cs b ≡ Some c → slice_get gs b ≡ Some g → opens c.instrs ≡ loop_bounds g
good_opens [] [] [] h b c g e f = cc
good_opens (x ∷ cs) (m ∷ ms) (z ∷ gs) h zero c g e f = let p : x ≡ c = cc in let q : z ≡ g = cc in ap (λ y. opens y.instrs) (sym p) ∙ h.0.0 ∙ ap loop_bounds q
good_opens (x ∷ cs) (m ∷ ms) (z ∷ gs) h (suc b) c g e f = good_opens cs ms gs h.1 b c g e f
good_opens cs ms gs h b c g e f = absurd h

fit_get : (is : List Instr) (ms : List Mark) → AreFit is ms → (n : ℕ) (i : Instr) → slice_get is n ≡ Some i → Fits i.op (mark_in (Some ms) n)
fit_get [] ms h n i e = absurd (cc)
fit_get (x ∷ is) (m ∷ ms) h zero i e = let p : x ≡ i = cc in subst (λ y. Fits y.op m) p h.0
fit_get (x ∷ is) (m ∷ ms) h (suc n) i e = fit_get is ms h.1 n i e
fit_get (x ∷ is) [] h n i e = absurd h

good_marks : (cs : List CodeBlock) (ms : List (List Mark)) (gs : List (Block ℕ)) → AllGood cs ms gs → (b n : ℕ) (c : CodeBlock) (i : Instr)
    → slice_get cs b ≡ Some c → slice_get c.instrs n ≡ Some i
    → Fits i.op (mark_in (slice_get ms b) n)
good_marks [] [] [] h b n c i e f = absurd (cc)
good_marks (x ∷ cs) (m ∷ ms) (z ∷ gs) h zero n c i e f = let p : x ≡ c = cc in fit_get x.instrs m h.0.1 n i (ap (λ y. slice_get y.instrs n) p ∙ f)
good_marks (x ∷ cs) (m ∷ ms) (z ∷ gs) h (suc b) n c i e f = good_marks cs ms gs h.1 b n c i e f
good_marks cs ms gs h b n c i e f = absurd h

good_holders : (cs : List CodeBlock) (ms : List (List Mark)) (gs : List (Block ℕ)) → AllGood cs ms gs → (b : ℕ) (c : CodeBlock) → slice_get cs b ≡ Some c
    → AreNumbered 0 c.instrs c.slots
good_holders [] [] [] h b c e = absurd (cc)
good_holders (x ∷ cs) (m ∷ ms) (z ∷ gs) h zero c e = let p : x ≡ c = cc in subst (λ y. AreNumbered 0 y.instrs y.slots) p h.0.2
good_holders (x ∷ cs) (m ∷ ms) (z ∷ gs) h (suc b) c e = good_holders cs ms gs h.1 b c e
good_holders cs ms gs h b c e = absurd h

pub has_bounds : (fl : Flow) → HasBounds fl (expanded fl).program
has_bounds fl =
    let good = all_good fl in (
      good_count (expanded fl).program.blocks (expanded fl).marks (coded_blocks fl) good,
      λ b c g e f. permutation_same (opens c.instrs) (loop_bounds g)
          (good_opens (expanded fl).program.blocks (expanded fl).marks (coded_blocks fl) good b c g e f),
    )

pub marks_fit : (fl : Flow) → MarksFit (expanded fl)
marks_fit fl = good_marks (expanded fl).program.blocks (expanded fl).marks (coded_blocks fl) (all_good fl)

pub holders_in_order : (fl : Flow) → HoldersInOrder (expanded fl)
holders_in_order fl = good_holders (expanded fl).program.blocks (expanded fl).marks (coded_blocks fl) (all_good fl)
