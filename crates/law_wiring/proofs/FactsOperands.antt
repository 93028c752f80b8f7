-- What the instructions of a plan name is there.
use Rattle.std.proofs.Common.{◌≡◌, ℕ, zero, suc, ◌+◌, ◌<◌, ◌≤◌, ◌⊎◌, Bool, true, false, List, [], length, refl, sym, ap, ◌∙◌, subst, arith}
use Rattle.std.proofs.Common.{inl, inr, Option, Some, None, nat_lt, if◌then◌else◌}
use Rattle.std.specs.Prelude.{slice_get, slice_index_or}
use Rattle.std.proofs.lemmas.List.{length_push, length-set}
use Rattle.std.proofs.lemmas.Option.{slice_get_within}
use Rattle.lemmas.proofs.SliceGet.{map_get}
use Rattle.tags.specs.declared.value.Origin.{Origin}
use Rattle.tags.specs.declared.value.Origin.TheVariants.{Untold, At}
use Rattle.tags.specs.declared.token.Port.{Port}
use Rattle.semantics.specs.declared.graph.Region.{Region}
use Rattle.semantics.specs.declared.graph.Region.TheVariants.{Root}
use Rattle.semantics.specs.declared.graph.Kind.{Kind}
use Rattle.semantics.specs.declared.graph.Kind.TheVariants.{Lit, Apply1, Apply2, Cond, Enter, Merge, Fetch, Store, Call, StrictCall, Loop}
use Rattle.semantics.specs.declared.program.Mark.{Mark}
use Rattle.semantics.specs.declared.program.Op.{Op}
use Rattle.semantics.specs.Graph.{Node, Block, Flow, node_count}
use Rattle.semantics.specs.Meaning.{origin_in}
use Rattle.semantics.specs.Cause.{loop_bounds}
use Rattle.semantics.specs.Program.{Instr, CodeBlock, Program}
use Rattle.code.specs.Sound.{NamesRightly, IsPlace}
use Rattle.schemas.specs.declared.builder.Outlet.{Outlet}
use Rattle.schemas.specs.Builds.{Build, nothing, bare, slot_in, added, quieted, connected, with_dest, no_instr, dest_of}
use Rattle.schemas.specs.Scopes.{Scope}
use Rattle.schemas.specs.Variants.{some_block_loops, variants_of}
use Rattle.schemas.specs.Blocks.{entries, with_inputs, variant_of, code_of}
use Rattle.schemas.specs.Expanded.{scope_of, plain_code, variant_code, expanded}
use Rattle.law_wiring.specs.BoundsKeeping.{Fits}
use Rattle.law_wiring.specs.Facts.{NamesAndArrivesRightly, NamesBlockRightly, NamesAllRightly}
use Rattle.law_wiring.proofs.FactsHeads.{push_cases, same_at, head, heads, heads_connected, heads_added}
use Rattle.law_wiring.proofs.KeepingSteps.{Stage, Idle, Step, Basics, Invokes, AllowsKind, Allows, SendsOn, code_build, entries_keep, code_keeps}
use Rattle.law_wiring.proofs.FactsFlows.{Takes, Turns, KindFits, BlockFits, FlowFits}
use Rattle.law_wiring.proofs.FactsCodes.{all_codes, code_cases, plain_at, variant_at, codes_count, is_looped, some_loop}

basics : (p : Program) → Basics (NamesRightly p) 255
basics p = record {
  copy = tt;
  sync = tt;
  switch = tt;
  frame = tt;
  literal = λ z. tt;
  one = λ op. tt;
  two = λ op. tt;
  return = λ o l. l;
  ask = λ o l. l;
  release = λ o l. l;
}

-- NAMES, as instructions are added
abbrev Names : Program → Stage → Build → Type 0
Names p s b = (n : ℕ) (x : Instr) → slice_get (heads b.instrs) n ≡ Some x → NamesAndArrivesRightly p x

adds_names : (p : Program) (s t : Stage) (b : Build) (op : Op) (o : Origin) (m : Mark) (r : Region) → Step s op t → Fits op m → NamesRightly p op → IsPlace o
    → Names p s b → Names p t (added b op o m r)
adds_names p s t b op o m r e w k f h n x g =
    let i : Instr = bare op o (slot_in b op) in
    go (push_cases (heads b.instrs) i x n (ap (λ hs. slice_get hs n) (sym (heads_added b.instrs op o (slot_in b op))) ∙ g))
  where
    go : (slice_get (heads b.instrs) n ≡ Some x) ⊎ ((n ≡ length (heads b.instrs)) × (bare op o (slot_in b op) ≡ x)) → NamesAndArrivesRightly p x
    go (inl a) = h n x a
    go (inr a) = subst (NamesAndArrivesRightly p) a.1 (k, f)

links_names : (p : Program) (s : Stage) (b : Build) (o : Outlet) (to : ℕ) (q : Port) → Names p s b → Names p s (connected b o to q)
links_names p s b o to q h n x g = h n x (ap (λ hs. slice_get hs n) (sym (heads_connected b.instrs o to q)) ∙ g)

-- SIZES
abbrev HasMany : ℕ → Stage → Build → Type 0
HasMany m s b = m ≤ length b.instrs

adds_many : (k : ℕ) (s t : Stage) (b : Build) (op : Op) (o : Origin) (m : Mark) (r : Region) → HasMany k s b → HasMany k t (added b op o m r)
adds_many k s t b op o m r h = let l = length_push b.instrs (bare op o (slot_in b op)) in omega (arith, l, h)

links_many : (k : ℕ) (s : Stage) (b : Build) (o : Outlet) (to : ℕ) (q : Port) → HasMany k s b → HasMany k s (connected b o to q)
links_many k s b o to q h =
    let l = length-set b.instrs (o.place + o.port) (with_dest (slice_index_or b.instrs (o.place + o.port) no_instr) o.second (dest_of o to q)) in
    omega (arith, l, h)

inputs_length : (b : Build) (s : Scope) (n : ℕ) → length (with_inputs b s n).instrs ≡ length b.instrs + n
inputs_length b s zero = omega arith
inputs_length b s (suc n) =
    let c : Build = with_inputs b s n in
    let l = length_push c.instrs (bare Op.Copy (origin_in s.version (Some s.number) n) (slot_in c Op.Copy)) in
    let m = inputs_length b s n in
    omega (arith, l, m)

entries_length : (s : Scope) → s.block.inputs + 1 ≤ length (entries s).instrs
unfolding entries
entries_length s =
    let l : length (with_inputs (quieted nothing Op.Copy Root) s s.block.inputs).instrs ≡ 1 + s.block.inputs =
    inputs_length (quieted nothing Op.Copy Root) s s.block.inputs in
    omega (arith, l)

-- THE CODE OF A FLOW WITHIN ITS RANGES
module _ (fl : Flow) (fits : FlowFits fl) where
  abbrev prog : Program
  prog = (expanded fl).program

  abbrev vars : List ℕ
  vars = variants_of fl.blocks

  abbrev Ok : Op → Type 0
  Ok op = NamesRightly (expanded fl).program op

  plain_inputs : (f : ℕ) (b : Block ℕ) → (plain_code fl.version fl.blocks vars f b).code.inputs ≡ b.inputs
  unfolding plain_code
  plain_inputs f b = refl

  variant_inputs : (f : ℕ) (b : Block ℕ) → (variant_code fl.version fl.blocks vars f b).code.inputs ≡ b.inputs
  unfolding variant_code
  variant_inputs f b = refl

  -- INVOCATIONS
  invokes_plain : (f n : ℕ) → Takes fl f n → Invokes Ok f n
  invokes_plain f n h =
      let c : CodeBlock = (plain_code fl.version fl.blocks vars f h.0).code in
      let at : slice_get (all_codes fl.version fl.blocks) f ≡ Some c = plain_at fl.version fl.blocks f h.0 h.1 in
      let inputs : c.inputs ≡ h.0.inputs = plain_inputs f h.0 in
      let same = h.2 in
      (slice_get_within (all_codes fl.version fl.blocks) f c at, λ e l. (c, at, omega (arith, inputs, same, l)))

  invokes_variant : (f n : ℕ) → Takes fl f n → some_block_loops f fl.blocks ≡ true → Invokes Ok (variant_of vars f) n
  invokes_variant f n h loops =
      let c : CodeBlock = (variant_code fl.version fl.blocks vars f h.0).code in
      let at : slice_get (all_codes fl.version fl.blocks) (variant_of vars f) ≡ Some c = variant_at fl.version fl.blocks f h.0 h.1 loops in
      let inputs : c.inputs ≡ h.0.inputs = variant_inputs f h.0 in
      let same = h.2 in
      (slice_get_within (all_codes fl.version fl.blocks) (variant_of vars f) c at, λ e l. (c, at, omega (arith, inputs, same, l)))

  allows_kind : (i : ℕ) (b : Block ℕ) (k : ℕ) (n : Node ℕ) → slice_get fl.blocks i ≡ Some b → slice_get b.nodes k ≡ Some n → (m : ℕ) (kind : Kind ℕ)
      → n.kind ≡ kind → KindFits fl kind m → AllowsKind Ok vars kind m
  allows_kind i b k n e g m (Lit z) q h = tt
  allows_kind i b k n e g m (Apply1 op) q h = tt
  allows_kind i b k n e g m (Apply2 op) q h = tt
  allows_kind i b k n e g m Cond q h = tt
  allows_kind i b k n e g m Enter q h = tt
  allows_kind i b k n e g m (Merge x) q h = tt
  allows_kind i b k n e g m (Fetch a) q h = h
  allows_kind i b k n e g m (Store a) q h = h
  allows_kind i b k n e g m (Call f) q h = invokes_plain f m h
  allows_kind i b k n e g m (StrictCall f) q h = invokes_plain f m h
  allows_kind i b k n e g m (Loop f bound) q h =
      let t : Turns fl f m = h.0 in
      (invokes_variant f m (t.0, t.1, t.2) (is_looped f fl.blocks i b k n bound e g q), (h.1, h.2), (h.1, h.2), (h.1, h.2), (h.1, h.2))

  allows : (i : ℕ) (b : Block ℕ) (turns : Bool) → slice_get fl.blocks i ≡ Some b → Allows Ok IsPlace 255 (scope_of fl.version fl.blocks vars i b turns)
  allows i b turns e =
      let fit : BlockFits fl b = fits.blocks i b e in
      let few = fits.few in
      let at = slice_get_within fl.blocks i b e in
      let number : i < 256 = omega (arith, few, at) in
      let size = fit.size in
      let inputs = fit.inputs.1 in
      let outputs = fit.outputs.1 in
      let results = fit.results in
      record {
        origins = λ n l. let below : n < node_count b = l in place n (nat_lt fl.version 2) number (omega (arith, below, size));
        kinds = λ k n g. allows_kind i b k n e g (length n.sources) n.kind refl (fit.nodes k n g);
        inputs = omega (arith, inputs);
        outputs = omega (arith, outputs);
        results = omega (arith, outputs, results);
      }
    where
      place : (n : ℕ) (t : Bool) → i < 256 → n < 1024 → IsPlace (if t then Untold else At i n)
      place n true p q = tt
      place n false p q = (p, q)

  -- BLOCKS
  abbrev in_scope : ℕ → Block ℕ → Bool → Scope
  in_scope i b turns = scope_of fl.version fl.blocks vars i b turns

  code_names : (i : ℕ) (b : Block ℕ) (turns : Bool) (turn : Option ℕ) → slice_get fl.blocks i ≡ Some b → SendsOn Ok (in_scope i b turns) turn
      → NamesBlockRightly prog (code_of b (code_build (in_scope i b turns) turn)).code
  code_names i b turns turn e k =
      let s : Scope = in_scope i b turns in
      let a : Allows Ok IsPlace 255 s = allows i b turns e in
      let fit : BlockFits fl b = fits.blocks i b e in
      let begun : Names prog (Idle []) (entries s)
      = entries_keep (Names prog) Ok IsPlace 255 (basics prog) tt (adds_names prog) (links_names prog) (λ i c o h. h) s a (λ n x g. absurd (cc)) in
      let names : Names prog (Idle (loop_bounds b)) (code_build s turn)
      = code_keeps (Names prog) Ok IsPlace 255 (basics prog) tt (adds_names prog) (links_names prog) (λ i c o h. h) s turn a k begun in
      record {
        inputs = fit.inputs;
        outputs = fit.outputs;
        size =
            code_keeps (HasMany (b.inputs + 1)) Ok IsPlace 255 (basics prog) tt (λ s t c op o m r x w f g h. adds_many (b.inputs + 1) s t c op o m r h)
            (links_many (b.inputs + 1)) (λ i c o h. h) s turn a k (entries_length s);
        instrs = λ n x g. names n (head x) (map_get head (code_build s turn).instrs n x g);
      }

  -- an iteration sends the next one what its loop has sources for
  sends_on : (i : ℕ) (b : Block ℕ) → slice_get fl.blocks i ≡ Some b → some_block_loops i fl.blocks ≡ true → (e : ℕ) → e < length b.results
      → Ok (Op.Send (variant_of vars i) e)
  sends_on i b at loops e l =
      let m = some_loop i fl.blocks loops in
      let n : Node ℕ = m.3 in
      let fit : KindFits fl n.kind (length n.sources) = (fits.blocks m.0 m.1 m.5).nodes m.2 n m.6 in
      let turn : Turns fl i (length n.sources) = (subst (λ k. KindFits fl k (length n.sources)) m.7 fit).0 in
      let same : turn.0 ≡ b = same_at fl.blocks i i turn.0 b refl turn.1 at in
      let outputs : b.outputs ≡ length n.sources + 1 = ap (λ (x : Block ℕ). x.outputs) (sym same) ∙ turn.3 in
      let results = (fits.blocks i b at).results in
      (invokes_variant i (length n.sources) (turn.0, turn.1, turn.2) loops).1 e (omega (arith, l, outputs, results))

  pub names_blocks : (b : ℕ) (c : CodeBlock) → slice_get prog.blocks b ≡ Some c → NamesBlockRightly prog c
  unfolding plain_code variant_code
  names_blocks b c e = go (code_cases fl.version fl.blocks b c e)
    where
      go : ((x : Block ℕ) × (slice_get fl.blocks b ≡ Some x) × ((plain_code fl.version fl.blocks vars b x).code ≡ c))
          ⊎ ((f : ℕ) × (x : Block ℕ) × (slice_get fl.blocks f ≡ Some x) × (some_block_loops f fl.blocks ≡ true)
          × ((variant_code fl.version fl.blocks vars f x).code ≡ c)) → NamesBlockRightly prog c
      go (inl h) = subst (NamesBlockRightly prog) h.2 (code_names b h.0 false None h.1 tt)
      go (inr h) = subst (NamesBlockRightly prog) h.4 (code_names h.0 h.1 true (Some (variant_of vars h.0)) h.2 (sends_on h.0 h.1 h.2 h.3))

  pub names_all : NamesAllRightly prog
  names_all =
      let few = fits.few in
      let main = fits.main in
      let count = codes_count fl.version fl.blocks in
      let least = count.0 in
      let most = count.1 in
      record {
        some_block = (omega (arith, main, least), omega (arith, few, most));
        main = omega (arith, main, least);
        few_arrays = fits.few_arrays;
        arrays = fits.arrays;
        cells = fits.cells;
        blocks = names_blocks;
      }
