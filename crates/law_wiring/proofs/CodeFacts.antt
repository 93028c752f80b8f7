-- What is known of the code of a block: its build, its marks, and how its wiring is read.
use Rattle.std.proofs.Common.{◌≡◌, ℕ, zero, suc, ◌+◌, Bool, true, false, ◌&&◌, List, [], ◌∷◌, ◌++◌, length, refl, sym, ap, ◌∙◌, subst, arith}
use Rattle.std.proofs.Common.{if◌then◌else◌, Some, None, ◌==◌}
use Rattle.std.specs.Prelude.{slice_get}
use Rattle.std.proofs.lemmas.Bool.{eqb-true}
use Rattle.std.proofs.lemmas.Option.{slice_get_within, slice_get_past, same_Some}
use Rattle.lemmas.proofs.Bools.{equal_itself}
use Rattle.semantics.specs.declared.program.Mark.{Mark}
use Rattle.semantics.specs.Graph.{Block, Flow, Graph, flow_of}
use Rattle.semantics.specs.WellFormed.{WellFormed}
use Rattle.semantics.specs.Cause.{is_looped}
use Rattle.semantics.specs.Program.{CodeBlock}
use Rattle.semantics.specs.Plan.{OneHolder}
use Rattle.schemas.specs.Variants.{variants_of, next_variant, some_block_loops}
use Rattle.schemas.specs.Blocks.{Coded, plain_build, variant_build, finished}
use Rattle.schemas.specs.Expanded.{Codes, with_code, no_codes, plain_code, variant_code, plain_codes, variant_codes, codes_of, expanded}
use Rattle.law_wiring.proofs.ArcsLists.{length_push, get_new, get_old}
use Rattle.law_wiring.proofs.FactsCodes.{plain_at, variant_at}
use Rattle.law_wiring.proofs.FactsWholes.{plans_hold_rightly}
use Rattle.law_wiring.proofs.BoundsWholes.{same_looped}
use Rattle.law_net.specs.ContextsBlocks.{Site}
use Rattle.law_net.specs.ContextsWires.{plain_site, turn_site}
use Rattle.law_net.specs.ContextsExpanded.{plain_scope, turn_scope, plain_parts, variant_parts, wiring_of, wiring_from, turn_wiring, wires_of, instrs_in}
use Rattle.law_net.specs.ContextsExpanded.{instrs_at, variant_in}
use Rattle.law_wiring.specs.WrittenFit.{IsFit}
use Rattle.law_wiring.proofs.LaidWhole.{site_build}
use Rattle.law_wiring.proofs.LaidUsual.{HasTurns}
use Rattle.law_wiring.proofs.PartsAgree.{read_parts}
use Rattle.law_wiring.proofs.CodeCredits.{AreLast, code_lasts}
use Rattle.law_wiring.proofs.CodeCompose.{number_is, codes_are_there}
use Rattle.law_wiring.proofs.Fed.{plain_well}

-- MARKS of the plain code of a block
variant_marks : (v : ℕ) (bs : List (Block ℕ)) (vars : List ℕ) (cs : Codes) (n : ℕ) (rest : List (Block ℕ)) (i : ℕ) (m : List Mark)
    → slice_get cs.marks i ≡ Some m → slice_get (variant_codes cs v bs vars n rest).marks i ≡ Some m
variant_marks v bs vars cs n [] i m e = e
variant_marks v bs vars cs n (b ∷ rest) i m e =
    go (some_block_loops n bs) (variant_marks v bs vars (with_code cs (variant_code v bs vars n b)) (n + 1) rest i m
    (get_old cs.marks (variant_code v bs vars n b).marks i m e)) (variant_marks v bs vars cs (n + 1) rest i m e)
  where
    go : (t : Bool) → slice_get (variant_codes (with_code cs (variant_code v bs vars n b)) v bs vars (n + 1) rest).marks i ≡ Some m
        → slice_get (variant_codes cs v bs vars (n + 1) rest).marks i ≡ Some m
        → slice_get (variant_codes (if t then with_code cs (variant_code v bs vars n b) else cs) v bs vars (n + 1) rest).marks i ≡ Some m
    go true p q = p
    go false p q = q

plain_marks_old : (v : ℕ) (bs : List (Block ℕ)) (vars : List ℕ) (cs : Codes) (n : ℕ) (rest : List (Block ℕ)) (i : ℕ) (m : List Mark)
    → slice_get cs.marks i ≡ Some m → slice_get (plain_codes cs v bs vars n rest).marks i ≡ Some m
plain_marks_old v bs vars cs n [] i m e = e
plain_marks_old v bs vars cs n (b ∷ rest) i m e =
    plain_marks_old v bs vars (with_code cs (plain_code v bs vars n b)) (n + 1) rest i m (get_old cs.marks (plain_code v bs vars n b).marks i m e)

plain_marks : (v : ℕ) (bs : List (Block ℕ)) (vars : List ℕ) (cs : Codes) (n : ℕ) (rest : List (Block ℕ)) (k : ℕ) (b : Block ℕ) → length cs.marks ≡ n
    → slice_get rest k ≡ Some b
    → slice_get (plain_codes cs v bs vars n rest).marks (n + k) ≡ Some (plain_code v bs vars (n + k) b).marks
plain_marks v bs vars cs n [] k b l e = absurd (cc)
plain_marks v bs vars cs n (x ∷ rest) zero b l e =
    let same : x ≡ b = cc in
    let zeroless : n + 0 ≡ n = omega arith in
    let new = get_new cs.marks (plain_code v bs vars n x).marks in
    let here : slice_get (with_code cs (plain_code v bs vars n x)).marks n ≡ Some (plain_code v bs vars n x).marks =
    ap (slice_get (cs.marks ++ (plain_code v bs vars n x).marks ∷ [])) (sym l) ∙ new in
    let all = plain_marks_old v bs vars (with_code cs (plain_code v bs vars n x)) (n + 1) rest n (plain_code v bs vars n x).marks here in
    ap (slice_get (plain_codes (with_code cs (plain_code v bs vars n x)) v bs vars (n + 1) rest).marks) zeroless ∙ all
    ∙ ap (λ y. Some (plain_code v bs vars n y).marks) same ∙ ap (λ j. Some (plain_code v bs vars j b).marks) (sym zeroless)
plain_marks v bs vars cs n (x ∷ rest) (suc k) b l e =
    let at : (n + 1) + k ≡ n + suc k = omega arith in
    let long = length_push cs.marks (plain_code v bs vars n x).marks in
    let more = plain_marks v bs vars (with_code cs (plain_code v bs vars n x)) (n + 1) rest k b (omega (arith, long, l)) e in
    ap (slice_get (plain_codes (with_code cs (plain_code v bs vars n x)) v bs vars (n + 1) rest).marks) (sym at) ∙ more
    ∙ ap (λ j. Some (plain_code v bs vars j b).marks) at

pub marks_at : (v : ℕ) (bs : List (Block ℕ)) (i : ℕ) (b : Block ℕ) → slice_get bs i ≡ Some b
    → slice_get (codes_of v bs).marks i ≡ Some (plain_code v bs (variants_of bs) i b).marks
marks_at v bs i b e =
    let zeroless : 0 + i ≡ i = omega arith in
    let h = plain_marks v bs (variants_of bs) no_codes 0 bs i b refl e in
    variant_marks v bs (variants_of bs) (plain_codes no_codes v bs (variants_of bs) 0 bs) 0 bs i (plain_code v bs (variants_of bs) i b).marks
    (ap (slice_get (plain_codes no_codes v bs (variants_of bs) 0 bs).marks) (sym zeroless) ∙ h
    ∙ ap (λ j. Some (plain_code v bs (variants_of bs) j b).marks) zeroless)

-- and of the code of its turns
plain_marks_length : (v : ℕ) (bs : List (Block ℕ)) (vars : List ℕ) (cs : Codes) (n : ℕ) (rest : List (Block ℕ))
    → length (plain_codes cs v bs vars n rest).marks ≡ length cs.marks + length rest
plain_marks_length v bs vars cs n [] = omega arith
plain_marks_length v bs vars cs n (b ∷ rest) =
    let h = plain_marks_length v bs vars (with_code cs (plain_code v bs vars n b)) (n + 1) rest in
    let l = length_push cs.marks (plain_code v bs vars n b).marks in
    omega (arith, h, l)

abbrev VariantMarks : ℕ → List (Block ℕ) → List ℕ → Codes → ℕ → List (Block ℕ) → ℕ → Block ℕ → Type 0
VariantMarks v bs vars cs n rest k b =
    (d : ℕ) × (next_variant bs (n + k) ≡ next_variant bs n + d)
    × (slice_get (variant_codes cs v bs vars n rest).marks (length cs.marks + d) ≡ Some (variant_code v bs vars (n + k) b).marks)

variant_marks_there : (v : ℕ) (bs : List (Block ℕ)) (vars : List ℕ) (cs : Codes) (n : ℕ) (rest : List (Block ℕ)) (k : ℕ) (b : Block ℕ)
    → slice_get rest k ≡ Some b → some_block_loops (n + k) bs ≡ true → VariantMarks v bs vars cs n rest k b
variant_marks_there v bs vars cs n [] k b e l = absurd (cc)
variant_marks_there v bs vars cs n (x ∷ rest) zero b e l =
    let same : x ≡ b = cc in
    let zeroless : n + 0 ≡ n = omega arith in
    let loops : some_block_loops n bs ≡ true = ap (λ i. some_block_loops i bs) (sym zeroless) ∙ l in
    let c : Coded = variant_code v bs vars n x in
    let at : length cs.marks + 0 ≡ length cs.marks = omega arith in
    let here : slice_get (with_code cs c).marks (length cs.marks + 0) ≡ Some c.marks = ap (slice_get (cs.marks ++ c.marks ∷ [])) at
    ∙ get_new cs.marks c.marks in
    let all = variant_marks v bs vars (with_code cs c) (n + 1) rest (length cs.marks + 0) c.marks here in
    let next = ap (next_variant bs) zeroless in
    let its : Some c.marks ≡ Some (variant_code v bs vars (n + 0) b).marks = ap (λ y. Some (variant_code v bs vars n y).marks) same
    ∙ ap (λ i. Some (variant_code v bs vars i b).marks) (sym zeroless) in (
      0,
      next ∙ omega arith,
      ap (λ t. slice_get (variant_codes (if t then with_code cs c else cs) v bs vars (n + 1) rest).marks (length cs.marks + 0)) loops ∙ all ∙ its,
    )
variant_marks_there v bs vars cs n (x ∷ rest) (suc k) b e l =
    let at : (n + 1) + k ≡ n + suc k = omega arith in
    let loops : some_block_loops ((n + 1) + k) bs ≡ true = ap (λ i. some_block_loops i bs) at ∙ l in
    go (some_block_loops n bs) refl (variant_marks_there v bs vars (with_code cs (variant_code v bs vars n x)) (n + 1) rest k b e loops)
    (variant_marks_there v bs vars cs (n + 1) rest k b e loops)
  where
    at : (n + 1) + k ≡ n + suc k
    at = omega arith

    c : Coded
    c = variant_code v bs vars n x

    after : next_variant bs (n + 1) ≡ next_variant bs (suc n)
    after = let same : n + 1 ≡ suc n = omega arith in ap (next_variant bs) same

    go : (t : Bool) → some_block_loops n bs ≡ t → VariantMarks v bs vars (with_code cs c) (n + 1) rest k b → VariantMarks v bs vars cs (n + 1) rest k b
        → (d : ℕ) × (next_variant bs (n + suc k) ≡ next_variant bs n + d)
        × (slice_get (variant_codes (if t then with_code cs c else cs) v bs vars (n + 1) rest).marks (length cs.marks + d)
        ≡ Some (variant_code v bs vars (n + suc k) b).marks)
    go true f h g =
        let long = length_push cs.marks c.marks in
        let step : next_variant bs (suc n) ≡ next_variant bs n + 1 = ap (λ t. if t then next_variant bs n + 1 else next_variant bs n) f in
        let first = h.1 in
        let a = after in
        let next = ap (next_variant bs) at in
        let place : length cs.marks + suc h.0 ≡ length (cs.marks ++ c.marks ∷ []) + h.0 = omega (arith, long) in (
          suc h.0,
          omega (arith, step, first, a, next),
          ap (slice_get (variant_codes (with_code cs c) v bs vars (n + 1) rest).marks) place ∙ h.2 ∙ ap (λ i. Some (variant_code v bs vars i b).marks) at,
        )
    go false f h g =
        let step : next_variant bs (suc n) ≡ next_variant bs n = ap (λ t. if t then next_variant bs n + 1 else next_variant bs n) f in
        let first = g.1 in
        let a = after in
        let next = ap (next_variant bs) at in
        (g.0, omega (arith, step, first, a, next), g.2 ∙ ap (λ i. Some (variant_code v bs vars i b).marks) at)

turn_marks_at : (fl : Flow) (i : ℕ) (b : Block ℕ) → slice_get fl.blocks i ≡ Some b → some_block_loops i fl.blocks ≡ true
    → variant_in fl i ≡ next_variant fl.blocks i
    → slice_get (expanded fl).marks (variant_in fl i) ≡ Some (variant_code fl.version fl.blocks (variants_of fl.blocks) i b).marks
turn_marks_at fl i b e l number =
    let bs = fl.blocks in
    let vars = variants_of fl.blocks in
    let first : Codes = plain_codes no_codes fl.version bs vars 0 bs in
    let zeroless : 0 + i ≡ i = omega arith in
    let h = variant_marks_there fl.version bs vars first 0 bs i b e (ap (λ j. some_block_loops j bs) zeroless ∙ l) in
    let long = plain_marks_length fl.version bs vars no_codes 0 bs in
    let next = ap (next_variant bs) zeroless in
    let there = h.1 in
    let place : variant_in fl i ≡ length first.marks + h.0 = omega (arith, number, long, next, there) in
    ap (slice_get (expanded fl).marks) place ∙ h.2 ∙ ap (λ j. Some (variant_code fl.version bs vars j b).marks) zeroless

-- THE FACTS
pub record IsCodeOf (fl : Flow) (s : Site) (c : CodeBlock) (fit : IsFit fl s.block) (turned : HasTurns s) : Type 0 where
  pub inputs : c.inputs ≡ s.block.inputs
  pub outputs : c.outputs ≡ s.block.outputs
  pub instrs : c.instrs ≡ (site_build fl s).instrs
  pub marks : slice_get (expanded fl).marks s.own ≡ Some (site_build fl s).marks
  pub holds : OneHolder c
  pub last : ℕ
  pub lasts : AreLast 0 c.instrs last
  pub wiring : wiring_of s.block (read_parts fl s fit turned s.turns) c.instrs ≡ (wires_of fl).wiring s.own

module _ (g : Graph) (well : WellFormed g) (own : ℕ) (c : CodeBlock)
    (coded : slice_get (expanded (flow_of g)).program.blocks own ≡ Some c) where
  code_holds : OneHolder c
  code_holds = (plans_hold_rightly (flow_of g) own c coded).holders

pub plain_facts : (g : Graph) (well : WellFormed g) (i : ℕ) (b : Block ℕ) (c : CodeBlock) → slice_get (flow_of g).blocks i ≡ Some b
    → slice_get (expanded (flow_of g)).program.blocks i ≡ Some c
    → (fit : IsFit (flow_of g) b) → IsCodeOf (flow_of g) (plain_site b i) c fit (plain_well b i)
unfolding plain_code plain_build finished
plain_facts g well i b c there coded fit =
    let fl : Flow = flow_of g in
    let code : Coded = plain_code fl.version fl.blocks (variants_of fl.blocks) i b in
    let same : code.code ≡ c = same_Some code.code c (sym (plain_at fl.version fl.blocks i b there) ∙ coded) in
    record {
      inputs = ap (λ (x : CodeBlock). x.inputs) (sym same);
      outputs = ap (λ (x : CodeBlock). x.outputs) (sym same);
      instrs = ap (λ (x : CodeBlock). x.instrs) (sym same);
      marks = marks_at fl.version fl.blocks i b there;
      holds = code_holds g well i c coded;
      last = (plain_build (plain_scope fl i b)).opened;
      lasts =
          subst (λ is. AreLast 0 is (plain_build (plain_scope fl i b)).opened) (ap (λ (x : CodeBlock). x.instrs) same) (code_lasts (plain_scope fl i b) None);
      wiring = ap (λ o. wiring_of b (plain_parts (plain_scope fl i b)) (instrs_in o)) (sym coded) ∙ ap (wiring_from fl i) (sym there);
    }

module _ (fl : Flow) (i : ℕ) (b : Block ℕ) (looped : some_block_loops i fl.blocks ≡ true)
    (differ : (j : ℕ) → some_block_loops j fl.blocks ≡ true → variant_in fl j ≡ variant_in fl i → j ≡ i) where
  abbrev its : ℕ
  its = variant_in fl i

  found : (n k : ℕ) (xs : List (Block ℕ)) → slice_get xs k ≡ Some b → n + k ≡ i
      → turn_wiring fl its n xs ≡ wiring_of b (variant_parts (turn_scope fl i b) its) (instrs_at fl its)
  found n k [] e at = absurd (cc)
  found n zero (x ∷ xs) e at =
      let same : x ≡ b = cc in
      let here : n ≡ i = omega (arith, at) in
      let self : (its == its) ≡ true = equal_itself its in
      let yes : (some_block_loops n fl.blocks && (variant_in fl n == its)) ≡ true =
      ap (λ m. some_block_loops m fl.blocks && (variant_in fl m == its)) here ∙ ap (λ t. t && (its == its)) looped ∙ self in
      ap (λ t. if t then wiring_of x (variant_parts (turn_scope fl n x) its) (instrs_at fl its) else turn_wiring fl its (n + 1) xs) yes
      ∙ (λ j. wiring_of (same j) (variant_parts (turn_scope fl (here j) (same j)) its) (instrs_at fl its))
  found n (suc k) (x ∷ xs) e at =
      let later = found (n + 1) k xs e (omega (arith, at)) in
      ap (λ t. if t then wiring_of x (variant_parts (turn_scope fl n x) its) (instrs_at fl its) else turn_wiring fl its (n + 1) xs)
      (none (some_block_loops n fl.blocks) refl (variant_in fl n == its) refl) ∙ later
    where
      none : (t : Bool) → some_block_loops n fl.blocks ≡ t → (u : Bool) → (variant_in fl n == its) ≡ u → (t && u) ≡ false
      none false f u h = refl
      none true f false h = refl
      none true f true h = let same = differ n f (eqb-true (variant_in fl n) its h) in absurd (omega (arith, same, at))

pub turn_facts : (g : Graph) (well : WellFormed g) (i : ℕ) (b : Block ℕ) (c : CodeBlock) → slice_get (flow_of g).blocks i ≡ Some b
    → is_looped (flow_of g) i ≡ true
    → slice_get (expanded (flow_of g)).program.blocks (variant_in (flow_of g) i) ≡ Some c
    → (fit : IsFit (flow_of g) b) (turned : HasTurns (turn_site b i (variant_in (flow_of g) i)))
    → IsCodeOf (flow_of g) (turn_site b i (variant_in (flow_of g) i)) c fit turned
unfolding variant_code variant_build finished
turn_facts g well i b c there looped coded fit turned =
    let fl : Flow = flow_of g in
    let own : ℕ = variant_in fl i in
    let loops : some_block_loops i fl.blocks ≡ true = same_looped fl i ∙ looped in
    let code : Coded = variant_code fl.version fl.blocks (variants_of fl.blocks) i b in
    let same : code.code ≡ c = same_Some code.code c (sym (variant_at fl.version fl.blocks i b there loops) ∙ coded) in
    let codes = codes_are_there g well in
    let past : slice_get fl.blocks own ≡ None = slice_get_past fl.blocks own (codes.others i b there looped) in
    let zeroless : 0 + i ≡ i = omega arith in
    record {
      inputs = ap (λ (x : CodeBlock). x.inputs) (sym same);
      outputs = ap (λ (x : CodeBlock). x.outputs) (sym same);
      instrs = ap (λ (x : CodeBlock). x.instrs) (sym same);
      marks = turn_marks_at fl i b there loops (number_is g well i (slice_get_within fl.blocks i b there));
      holds = code_holds g well own c coded;
      last = (variant_build (turn_scope fl i b) own).opened;
      lasts =
          subst (λ is. AreLast 0 is (variant_build (turn_scope fl i b) own).opened) (ap (λ (x : CodeBlock). x.instrs) same)
          (code_lasts (turn_scope fl i b) (Some own));
      wiring = ap (λ o. wiring_of b (variant_parts (turn_scope fl i b) own) (instrs_in o)) (sym coded)
          ∙ sym (found fl i b loops (λ j l e. codes.differ j i (sym (same_looped fl j) ∙ l) looped e) 0 i fl.blocks there zeroless)
          ∙ ap (wiring_from fl own) (sym past);
    }
