-- Each code block of a plan is there: that of each block, and that of its turns where a loop names it.
use Rattle.std.proofs.Common.{◌≡◌, ℕ, zero, suc, ◌+◌, ◌-◌, ◌<◌, ◌≤◌, ◌⊎◌, inl, inr, Bool, true, false, List, length, ap, ◌∙◌, arith, if◌then◌else◌, None}
use Rattle.std.proofs.Common.{nat_lt}
use Rattle.std.specs.Prelude.{slice_get}
use Rattle.std.proofs.lemmas.Bool.{cases_lt, le-ltb}
use Rattle.std.proofs.lemmas.Option.{slice_get_within}
use Rattle.semantics.specs.Graph.{Block, Flow, Graph, flow_of, node_at}
use Rattle.semantics.specs.WellFormed.{WellFormed}
use Rattle.semantics.specs.Meaning as Meaning
use Rattle.semantics.specs.Cause.{is_looped}
use Rattle.law_confluence.proofs.OutcomeResolved.{flow_well}
use Rattle.schemas.specs.Variants.{some_block_loops, next_variant}
use Rattle.law_wiring.proofs.FactsCodes.{some_loop, plain_at, variant_at, variant_number}
use Rattle.law_wiring.proofs.BoundsWholes.{same_looped}
use Rattle.law_net.specs.ContextsExpanded.{CodesAreThere, variant_in}

-- NUMBERS OF VARIANTS
variants_past : (bs : List (Block ℕ)) (f : ℕ) → length bs ≤ next_variant bs f
variants_past bs zero = omega arith
variants_past bs (suc f) = go (some_block_loops f bs) (variants_past bs f)
  where
    go : (t : Bool) → length bs ≤ next_variant bs f → length bs ≤ (if t then next_variant bs f + 1 else next_variant bs f)
    go true h = omega (arith, h)
    go false h = h

variants_grow : (bs : List (Block ℕ)) (f d : ℕ) → next_variant bs f ≤ next_variant bs (d + f)
variants_grow bs f zero = let same : 0 + f ≡ f = omega arith in let e = ap (next_variant bs) same in omega (arith, e)
variants_grow bs f (suc d) =
    let same : suc d + f ≡ suc (d + f) = omega arith in
    let e = ap (next_variant bs) same in
    let h = go (some_block_loops (d + f) bs) (variants_grow bs f d) in
    omega (arith, e, h)
  where
    go : (t : Bool) → next_variant bs f ≤ next_variant bs (d + f) → next_variant bs f ≤ (if t then next_variant bs (d + f) + 1 else next_variant bs (d + f))
    go true h = omega (arith, h)
    go false h = h

variants_rise : (bs : List (Block ℕ)) (f g : ℕ) → f < g → some_block_loops f bs ≡ true → next_variant bs f < next_variant bs g
variants_rise bs f g l h =
    let step : next_variant bs (suc f) ≡ next_variant bs f + 1 = ap (λ t. if t then next_variant bs f + 1 else next_variant bs f) h in
    let more = variants_grow bs (suc f) (g - suc f) in
    let at : (g - suc f) + suc f ≡ g = omega (arith, l) in
    let e = ap (next_variant bs) at in
    omega (arith, step, more, e)

module _ (g : Graph) (well : WellFormed g) where
  abbrev fl : Flow
  fl = flow_of g

  looped : (i : ℕ) → is_looped fl i ≡ true → some_block_loops i fl.blocks ≡ true
  looped i h = same_looped fl i ∙ h

  -- a looped block is there
  looped_there : (i : ℕ) → is_looped fl i ≡ true → i < length fl.blocks
  looped_there i h =
      let x = some_loop i fl.blocks (looped i h) in
      let b : Block ℕ = x.1 in
      let line = (flow_well g well).lines x.0 b x.5 (b.inputs + x.2) x.3 (node_line b x.2 ∙ x.6) in
      let c = line.invokes i (ap Meaning.callee x.7) in
      slice_get_within fl.blocks i c.0 c.1
    where
      node_line : (b : Block ℕ) (j : ℕ) → node_at b (b.inputs + j) ≡ slice_get b.nodes j
      node_line b j =
          let past : nat_lt (b.inputs + j) b.inputs ≡ false = le-ltb (b.inputs + j) b.inputs (omega arith) in
          let at : (b.inputs + j) - b.inputs ≡ j = omega arith in
          ap (λ t. if t then None else slice_get b.nodes ((b.inputs + j) - b.inputs)) past ∙ ap (slice_get b.nodes) at

  pub number_is : (i : ℕ) → i < length fl.blocks → variant_in fl i ≡ next_variant fl.blocks i
  number_is i l = variant_number fl.blocks (length fl.blocks) i l

  pub codes_are_there : CodesAreThere fl
  codes_are_there = record {
    plain = λ i b e. (_, plain_at fl.version fl.blocks i b e);
    turns = λ i b e l. (_, variant_at fl.version fl.blocks i b e (looped i l));
    others = λ i b e l. let past = variants_past fl.blocks i in let same = number_is i (looped_there i l) in omega (arith, past, same);
    differ = λ i j k l e. apart i j k l e (cases_lt i j) (cases_lt j i);
  }
    where
      apart : (i j : ℕ) → is_looped fl i ≡ true → is_looped fl j ≡ true → variant_in fl i ≡ variant_in fl j → (i < j) ⊎ (j ≤ i) → (j < i) ⊎ (i ≤ j) → i ≡ j
      apart i j k l e (inr a) (inr c) = omega (arith, a, c)
      apart i j k l e (inl a) y =
          let less = variants_rise fl.blocks i j a (looped i k) in
          let x = number_is i (looped_there i k) in
          let z = number_is j (looped_there j l) in
          absurd (omega (arith, less, x, z, e))
      apart i j k l e (inr a) (inl c) =
          let less = variants_rise fl.blocks j i c (looped j l) in
          let x = number_is i (looped_there i k) in
          let z = number_is j (looped_there j l) in
          absurd (omega (arith, less, x, z, e))
