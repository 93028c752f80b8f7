-- What each step of a builder keeps holds of the code of each block: the one induction over how code is built. A builder adds
-- instructions, links them, and notes where nodes leave. What a step keeps may depend on the loops so far (`Stage`), and may rest
-- on what is allowed to be added (`Allows`).
use Rattle.std.proofs.Common.{◌≡◌, ℕ, zero, suc, ◌+◌, ◌<◌, ◌≤◌, Bool, true, false, List, [], ◌∷◌, ◌++◌, length, refl, sym, ap, ◌∙◌, subst, arith}
use Rattle.std.proofs.Common.{append-nil, append_assoc, if◌then◌else◌, Option, Some, None}
use Rattle.std.specs.Prelude.{slice_get, flat_map, ⊤}
use Rattle.tags.specs.declared.value.Origin.{Origin}
use Rattle.tags.specs.declared.value.Origin.TheVariants.{Untold}
use Rattle.tags.specs.declared.token.Port.{Port}
use Rattle.tags.specs.declared.token.Port.TheVariants.{Left, Right}
use Rattle.operators.specs.declared.Unary.{Unary}
use Rattle.operators.specs.declared.Binary.{Binary}
use Rattle.semantics.specs.declared.graph.Region.{Region}
use Rattle.semantics.specs.declared.graph.Region.TheVariants.{Root, Arm}
use Rattle.semantics.specs.declared.graph.Source.{Source}
use Rattle.semantics.specs.declared.graph.Kind.{Kind}
use Rattle.semantics.specs.declared.graph.Kind.TheVariants.{Lit, Apply1, Apply2, Cond, Enter, Merge, Fetch, Store, Call, StrictCall, Loop}
use Rattle.semantics.specs.declared.program.Mark.{Mark}
use Rattle.semantics.specs.declared.program.Mark.TheVariants.{Unmarked, OfCond, OfFlag}
use Rattle.semantics.specs.declared.program.Op.{Op}
use Rattle.semantics.specs.Graph.{Node, Block, node_count}
use Rattle.semantics.specs.Meaning.{origin_in}
use Rattle.semantics.specs.Cause.{bounds_of, loop_bounds, opened_by}
use Rattle.semantics.specs.Wired.{NoPart, part_of}
use Rattle.law_wiring.specs.BoundsKeeping.{Fits}
use Rattle.schemas.specs.declared.builder.Outlet.{Outlet}
use Rattle.schemas.specs.declared.ends.End.{End}
use Rattle.schemas.specs.declared.tail.Turn.{Turn}
use Rattle.schemas.specs.Scopes.{Scope, predicate_of}
use Rattle.schemas.specs.Triggers.{has_trigger}
use Rattle.schemas.specs.UseCounts.{is_often, uses_at}
use Rattle.schemas.specs.Builds.{Build, nothing, nowhere, outlet, first_of, second_of, added, quieted, connected, outlet_of, trigger_of, exited, behind}
use Rattle.schemas.specs.Builds.{meeting, side, operands, alternatives, copies, first_source}
use Rattle.schemas.specs.Rows.{operator, shared_answer, trigger_switch, conditional, enter, merge, sends, landed, linked, invoke, called, Joined}
use Rattle.schemas.specs.Rows.{join_sources, strict_call, credits, repeat}
use Rattle.schemas.specs.Tails.{returns, switches, next_values, last_values, turned_continuation, turned_flag, turning, turn_of, go_on, stop, iterate}
use Rattle.schemas.specs.Ends.{same_region, Signalled, join_with, join_end, join_ends, signalled, Closing, closing, copied, ended, closed, closed_kind}
use Rattle.schemas.specs.Ends.{closed_nodes, released, ends_of}
use Rattle.schemas.specs.Blocks.{answered, entered, repeated, with_kind, with_node, with_nodes, with_inputs, entries, body, finished, plain_build}
use Rattle.schemas.specs.Blocks.{variant_build, outputs_of, variant_of}

-- STAGES: the bounds of the loops so far, and which of the last loop's instructions was added last
pub data Stage : Type 0 where
  Idle : (bounds : List ℕ) → Stage
  Opening : (bounds : List ℕ) (bound : ℕ) → Stage
  Giving : (bounds : List ℕ) (bound : ℕ) → Stage
  Taking : (bounds : List ℕ) (bound : ℕ) → Stage

abbrev pub bounds_at : Stage → List ℕ
bounds_at (Idle xs) = xs
bounds_at (Opening xs k) = xs ++ k ∷ []
bounds_at (Giving xs k) = xs ++ k ∷ []
bounds_at (Taking xs k) = xs ++ k ∷ []

-- the stage before an instruction is added and the one after it
pub data Step (s : Stage) (op : Op) (t : Stage) : Type 0 where
  Plain : (part : part_of op ≡ NoPart) (same : s ≡ t) → Step s op t
  Opened : (xs : List ℕ) (k : ℕ) (part : op ≡ Op.Open k) (before : s ≡ Idle xs) (after : t ≡ Opening xs k) → Step s op t
  Given : (xs : List ℕ) (k : ℕ) (part : op ≡ Op.Give k) (before : s ≡ Opening xs k) (after : t ≡ Giving xs k) → Step s op t
  Taken : (xs : List ℕ) (k : ℕ) (part : op ≡ Op.Take k) (before : s ≡ Giving xs k) (after : t ≡ Taking xs k) → Step s op t
  Drained : (xs : List ℕ) (k : ℕ) (part : op ≡ Op.Drain k) (before : s ≡ Taking xs k) (after : t ≡ Idle (xs ++ k ∷ [])) → Step s op t

no_opened : (op : Op) → part_of op ≡ NoPart → opened_by op ≡ []
no_opened (Op.Open k) e = absurd (cc)
no_opened op e = refl

same_bounds : (s : Stage) (xs : List ℕ) (op : Op) → bounds_at s ≡ xs → opened_by op ≡ [] → bounds_at s ≡ xs ++ opened_by op
same_bounds s xs op e f = e ∙ sym (append-nil xs) ∙ ap (λ ys. xs ++ ys) (sym f)

-- the bounds of the instructions that open
pub step_bounds : (s : Stage) (op : Op) (t : Stage) → Step s op t → bounds_at t ≡ bounds_at s ++ opened_by op
step_bounds s op t (Plain part same) = same_bounds t (bounds_at s) op (ap bounds_at (sym same)) (no_opened op part)
step_bounds s op t (Opened xs k part before after) = ap bounds_at after ∙ ap (λ o. xs ++ opened_by o) (sym part)
    ∙ ap (λ u. bounds_at u ++ opened_by op) (sym before)
step_bounds s op t (Given xs k part before after) = same_bounds t (bounds_at s) op (ap bounds_at after ∙ ap bounds_at (sym before)) (ap opened_by part)
step_bounds s op t (Taken xs k part before after) = same_bounds t (bounds_at s) op (ap bounds_at after ∙ ap bounds_at (sym before)) (ap opened_by part)
step_bounds s op t (Drained xs k part before after) = same_bounds t (bounds_at s) op (ap bounds_at after ∙ ap bounds_at (sym before)) (ap opened_by part)

-- with those of more nodes
abbrev after_kind : List ℕ → Kind ℕ → List ℕ
after_kind xs (Loop f k) = xs ++ k ∷ []
after_kind xs kind = xs

abbrev after_nodes : List ℕ → List (Node ℕ) → List ℕ
after_nodes xs [] = xs
after_nodes xs (n ∷ ns) = after_nodes (after_kind xs n.kind) ns

after_bounds : (xs : List ℕ) (k : Kind ℕ) → after_kind xs k ≡ xs ++ bounds_of k
after_bounds xs (Loop f k) = refl
after_bounds xs kind = sym (append-nil xs)

abbrev bounds_in : List (Node ℕ) → List ℕ
bounds_in ns = flat_map (λ (n : Node ℕ). bounds_of n.kind) ns

nodes_bounds : (xs : List ℕ) (ns : List (Node ℕ)) → after_nodes xs ns ≡ xs ++ bounds_in ns
nodes_bounds xs [] = sym (append-nil xs)
nodes_bounds xs (n ∷ ns) =
    nodes_bounds (after_kind xs n.kind) ns ∙ ap (λ ys. ys ++ bounds_in ns) (after_bounds xs n.kind) ∙ append_assoc xs (bounds_of n.kind) (bounds_in ns)

-- WHAT IS ALLOWED. Operations that name nothing, and offsets up to a greatest one
pub record Basics (Ok : Op → Type 0) (most : ℕ) : Type 0 where
  pub copy : Ok Op.Copy
  pub sync : Ok Op.Sync
  pub switch : Ok Op.Switch
  pub frame : Ok Op.Frame
  pub literal : (z : _) → Ok (Op.Lit z)
  pub one : (op : Unary) → Ok (Op.Apply1 op)
  pub two : (op : Binary) → Ok (Op.Apply2 op)
  pub return : (o : ℕ) → o ≤ most → Ok (Op.Return o)
  pub ask : (o : ℕ) → o ≤ most → Ok (Op.Ask o)
  pub release : (o : ℕ) → o ≤ most → Ok (Op.Release o)

-- an invocation of code block f with n arguments
abbrev pub Invokes : (Op → Type 0) → ℕ → ℕ → Type 0
Invokes Ok f n = Ok (Op.Link f) × ((e : ℕ) → e ≤ n → Ok (Op.Send f e))

-- a node of that kind with n sources
abbrev pub AllowsKind : (Op → Type 0) → List ℕ → Kind ℕ → ℕ → Type 0
AllowsKind Ok vars (Fetch a) n = Ok (Op.Fetch a)
AllowsKind Ok vars (Store a) n = Ok (Op.Store a)
AllowsKind Ok vars (Call f) n = Invokes Ok f n
AllowsKind Ok vars (StrictCall f) n = Invokes Ok f n
AllowsKind Ok vars (Loop f k) n = Invokes Ok (variant_of vars f) n × Ok (Op.Open k) × Ok (Op.Give k) × Ok (Op.Take k) × Ok (Op.Drain k)
AllowsKind Ok vars kind n = ⊤

pub record Allows (Ok : Op → Type 0) (Fit : Origin → Type 0) (most : ℕ) (s : Scope) : Type 0 where
  pub origins : (n : ℕ) → n < node_count s.block → Fit (origin_in s.version (Some s.number) n)
  pub kinds : (k : ℕ) (node : Node ℕ) → slice_get s.block.nodes k ≡ Some node → AllowsKind Ok s.variants node.kind (length node.sources)
  pub inputs : s.block.inputs ≤ most
  pub outputs : s.block.outputs ≤ most
  pub results : length s.block.results + 1 ≤ most

-- THE BUILDS: the code of a block, or with its number that of its turns
abbrev pub code_build : Scope → Option ℕ → Build
code_build s None = plain_build s
code_build s (Some code) = variant_build s code

-- a turn sends the next one what its loop has sources for
abbrev pub SendsOn : (Op → Type 0) → Scope → Option ℕ → Type 0
SendsOn Ok s None = ⊤
SendsOn Ok s (Some code) = (e : ℕ) → e < length s.block.results → Ok (Op.Send code e)

module _ (Inv : Stage → Build → Type 0) (Ok : Op → Type 0) (Fit : Origin → Type 0) (most : ℕ) (base : Basics Ok most) (untold : Fit Untold)
    (adds : (s t : Stage) (b : Build) (op : Op) (o : Origin) (m : Mark) (r : Region) → Step s op t → Fits op m → Ok op → Fit o → Inv s b
    → Inv t (added b op o m r))
    (links : (s : Stage) (b : Build) (o : Outlet) (to : ℕ) (p : Port) → Inv s b → Inv s (connected b o to p))
    (exits : (s : Stage) (b : Build) (o : Outlet) → Inv s b → Inv s (exited b o)) where
  -- AT ONE STAGE: all but loops
  module _ (s : Stage) where
    -- SMALL PARTS
    plain : (b : Build) (op : Op) (r : Region) → part_of op ≡ NoPart → Fits op Unmarked → Ok op → Inv s b → Inv s (quieted b op r)
    plain b op r e f k h = adds s s b op Untold Unmarked r (Plain e refl) f k untold h

    plain_behind : (b : Build) (from : Outlet) (op : Op) (r : Region) → part_of op ≡ NoPart → Fits op Unmarked → Ok op → Inv s b → Inv s (behind b from op r)
    plain_behind b from op r e f k h = links s (quieted b op r) from (length b.instrs) Left (plain b op r e f k h)

    meets : (b : Build) (op : Op) (m : Mark) (r : Region) (l q : Outlet) → part_of op ≡ NoPart → Fits op m → Ok op → Inv s b
        → Inv s (meeting b op m r l q)
    meets b op m r l q e f k h =
        links s (connected (added b op Untold m r) l (length b.instrs) Left) q (length b.instrs) Right
        (links s (added b op Untold m r) l (length b.instrs) Left (adds s s b op Untold m r (Plain e refl) f k untold h))

    copy_behind : (b : Build) (from : Outlet) (r : Region) → Inv s b → Inv s (behind b from Op.Copy r)
    copy_behind b from r h = plain_behind b from Op.Copy r refl refl base.copy h

    operands_keep : (b : Build) (place from : ℕ) (ss : List Source) → Inv s b → Inv s (operands b place from ss)
    operands_keep b place from [] h = h
    operands_keep b place from (x ∷ ss) h =
        operands_keep (connected b (outlet_of b x) place (side from)) place (from + 1) ss (links s b (outlet_of b x) place (side from) h)

    alternatives_keep : (b : Build) (place : ℕ) (ss : List Source) → Inv s b → Inv s (alternatives b place ss)
    alternatives_keep b place [] h = h
    alternatives_keep b place (x ∷ ss) h = alternatives_keep (connected b (outlet_of b x) place Left) place ss (links s b (outlet_of b x) place Left h)

    copies_keep : (b : Build) (r : Region) (n : ℕ) → Inv s b → Inv s (copies b r n)
    copies_keep b r zero h = h
    copies_keep b r (suc n) h = plain (copies b r n) Op.Copy r refl refl base.copy (copies_keep b r n h)

    -- NODES
    operator_keeps : (b : Build) (op : Op) (o : Origin) (r : Region) (ss : List Source) → part_of op ≡ NoPart → Fits op Unmarked → Ok op → Fit o
        → Inv s b → Inv s (operator b op o r ss)
    operator_keeps b op o r ss e m k f h =
        exits s (operands (added b op o Unmarked r) (length b.instrs) 0 ss) (first_of (length b.instrs))
        (operands_keep (added b op o Unmarked r) (length b.instrs) 0 ss (adds s s b op o Unmarked r (Plain e refl) m k f h))

    shared_keeps : (b : Build) (op : Op) (o : Origin) (r : Region) (ss : List Source) → part_of op ≡ NoPart → Fits op Unmarked → Ok op → Fit o
        → Inv s b → Inv s (shared_answer b op o r ss)
    shared_keeps b op o r ss e m k f h =
        let c : Build = operands (added b op o Unmarked r) (length b.instrs) 0 ss in
        exits s (behind c (first_of (length b.instrs)) Op.Copy r) (first_of (length c.instrs))
        (copy_behind c (first_of (length b.instrs)) r
        (operands_keep (added b op o Unmarked r) (length b.instrs) 0 ss (adds s s b op o Unmarked r (Plain e refl) m k f h)))

    answered_keeps : (b : Build) (c : Scope) (op : Op) (n : ℕ) (r : Region) (ss : List Source) → part_of op ≡ NoPart → Fits op Unmarked → Ok op
        → Fit (origin_in c.version (Some c.number) n) → Inv s b → Inv s (answered b c op n r ss)
    answered_keeps b c op n r ss e m k f h = go (is_often (uses_at c.uses n))
      where
        go : (t : Bool) → Inv s (if t then shared_answer b op (origin_in c.version (Some c.number) n) r ss
            else operator b op (origin_in c.version (Some c.number) n) r ss)
        go true = shared_keeps b op (origin_in c.version (Some c.number) n) r ss e m k f h
        go false = operator_keeps b op (origin_in c.version (Some c.number) n) r ss e m k f h

    switch_keeps : (b : Build) (k : ℕ) (r : Region) (ss : List Source) → Inv s b → Inv s (trigger_switch b k r ss)
    switch_keeps b k r ss h =
        exits s (meeting b Op.Switch (OfCond k) r (outlet_of b (first_source ss)) (outlet_of b (first_source ss))) (first_of (length b.instrs))
        (meets b Op.Switch (OfCond k) r (outlet_of b (first_source ss)) (outlet_of b (first_source ss)) refl refl base.switch h)

    conditional_keeps : (b : Build) (t : Bool) (k : ℕ) (r : Region) (ss : List Source) → Inv s b → Inv s (conditional b t k r ss)
    conditional_keeps b true k r ss h = switch_keeps b k r ss h
    conditional_keeps b false k r ss h = exits s b nowhere h

    enter_keeps : (b : Build) (k : ℕ) (e : Bool) (ss : List Source) (p : Source) → Inv s b → Inv s (enter b k e ss p)
    enter_keeps b k e ss p h =
        exits s (meeting b Op.Switch (OfCond k) (Arm k e) (outlet_of b (first_source ss)) (outlet_of b p))
        (if e then first_of (length b.instrs) else second_of (length b.instrs))
        (meets b Op.Switch (OfCond k) (Arm k e) (outlet_of b (first_source ss)) (outlet_of b p) refl refl base.switch h)

    entered_keeps : (b : Build) (c : Scope) (r : Region) (ss : List Source) → Inv s b → Inv s (entered b c r ss)
    entered_keeps b c Root ss h = h
    entered_keeps b c (Arm k side) ss h = enter_keeps b k side ss (predicate_of c.block k) h

    merge_keeps : (b : Build) (r : Region) (ss : List Source) → Inv s b → Inv s (merge b r ss)
    merge_keeps b r ss h =
        exits s (alternatives (quieted b Op.Copy r) (length b.instrs) ss) (first_of (length b.instrs))
        (alternatives_keep (quieted b Op.Copy r) (length b.instrs) ss (plain b Op.Copy r refl refl base.copy h))

    -- INVOCATIONS
    sends_keep : (b : Build) (frame : Outlet) (block : ℕ) (r : Region) (from : ℕ) (ss : List Source) (n : ℕ) → Invokes Ok block n
        → from + length ss ≤ n → Inv s b → Inv s (sends b frame block r from ss)
    sends_keep b frame block r from [] n k l h = h
    sends_keep b frame block r from (x ∷ ss) n k l h =
        let first : from + 1 ≤ n = omega (arith, l) in
        sends_keep (meeting b (Op.Send block (from + 1)) Unmarked r frame (outlet_of b x)) frame block r (from + 1) ss n k (omega (arith, l))
        (meets b (Op.Send block (from + 1)) Unmarked r frame (outlet_of b x) refl refl (k.1 (from + 1) first) h)

    landed_keeps : (b : Build) (link outputs : ℕ) (r : Region) → Inv s b → Inv s (landed b link outputs r)
    landed_keeps b link outputs r h =
        exits s (connected (copies b r outputs) (first_of link) (length b.instrs) Left) (first_of (length b.instrs))
        (links s (copies b r outputs) (first_of link) (length b.instrs) Left (copies_keep b r outputs h))

    linked_keeps : (b : Build) (copy block outputs : ℕ) (r : Region) (ss : List Source) → Invokes Ok block (length ss) → Inv s b
        → Inv s (linked b copy block outputs r ss)
    linked_keeps b copy block outputs r ss k h =
        landed_keeps (sends (behind b (first_of copy) (Op.Link block) r) (first_of copy) block r 0 ss) (length b.instrs) outputs r
        (sends_keep (behind b (first_of copy) (Op.Link block) r) (first_of copy) block r 0 ss (length ss) k (omega arith)
        (plain_behind b (first_of copy) (Op.Link block) r refl refl k.0 h))

    invoke_keeps : (b : Build) (frame block outputs : ℕ) (r : Region) (ss : List Source) → Invokes Ok block (length ss) → Inv s b
        → Inv s (invoke b frame block outputs r ss)
    invoke_keeps b frame block outputs r ss k h =
        linked_keeps (behind b (first_of frame) Op.Copy r) (length b.instrs) block outputs r ss k (copy_behind b (first_of frame) r h)

    called_keeps : (b : Build) (signal : Outlet) (block outputs : ℕ) (r : Region) (ss : List Source) → Invokes Ok block (length ss) → Inv s b
        → Inv s (called b signal block outputs r ss)
    unfolding called
    called_keeps b signal block outputs r ss k h =
        plain (invoke (behind b signal Op.Frame r) (length b.instrs) block outputs r ss) Op.Copy r refl refl base.copy
        (invoke_keeps (behind b signal Op.Frame r) (length b.instrs) block outputs r ss k (plain_behind b signal Op.Frame r refl refl base.frame h))

    join_sources_keep : (b : Build) (signal : Outlet) (r : Region) (ss : List Source) → Inv s b → Inv s (join_sources b signal r ss).build
    join_sources_keep b signal r [] h = h
    join_sources_keep b signal r (x ∷ ss) h =
        join_sources_keep (meeting b Op.Sync Unmarked r signal (outlet_of b x)) (first_of (length b.instrs)) r ss
        (meets b Op.Sync Unmarked r signal (outlet_of b x) refl refl base.sync h)

    strict_keeps : (b : Build) (block outputs : ℕ) (r : Region) (ss : List Source) → Invokes Ok block (length ss) → Inv s b
        → Inv s (strict_call b block outputs r ss)
    strict_keeps b block outputs r [] k h = h
    strict_keeps b block outputs r (x ∷ ss) k h =
        let j : Joined = join_sources b (outlet_of b x) r ss in
        called_keeps j.build j.signal block outputs r (x ∷ ss) k (join_sources_keep b (outlet_of b x) r ss h)

    -- ENTRIES
    inputs_keep : (b : Build) (c : Scope) (n : ℕ) → ((k : ℕ) → k < n → Fit (origin_in c.version (Some c.number) k)) → Inv s b → Inv s (with_inputs b c n)
    inputs_keep b c zero f h = h
    inputs_keep b c (suc n) f h =
        let d : Build = with_inputs b c n in
        exits s (added d Op.Copy (origin_in c.version (Some c.number) n) Unmarked Root) (first_of (length d.instrs))
        (adds s s d Op.Copy (origin_in c.version (Some c.number) n) Unmarked Root (Plain refl refl) refl base.copy (f n (omega arith))
        (inputs_keep b c n (λ k l. f k (omega (arith, l))) h))

    -- OUTPUTS
    returns_keep : (b : Build) (from : ℕ) (ss : List Source) → from + length ss ≤ most → Inv s b → Inv s (returns b from ss)
    returns_keep b from [] l h = h
    returns_keep b from (x ∷ ss) l h =
        returns_keep (meeting b (Op.Return from) Unmarked Root (first_of 0) (outlet_of b x)) (from + 1) ss (omega (arith, l))
        (meets b (Op.Return from) Unmarked Root (first_of 0) (outlet_of b x) refl refl (base.return from (omega (arith, l))) h)

    switches_keep : (b : Build) (flag : Outlet) (ss : List Source) → Inv s b → Inv s (switches b flag ss)
    switches_keep b flag [] h = h
    switches_keep b flag (x ∷ ss) h =
        switches_keep (meeting b Op.Switch OfFlag Root (outlet_of b x) flag) flag ss
        (meets b Op.Switch OfFlag Root (outlet_of b x) flag refl refl base.switch h)

    next_keep : (b : Build) (block : ℕ) (r : Region) (frame : Outlet) (values n last : ℕ) → ((e : ℕ) → e ≤ last → Ok (Op.Send block e)) → n ≤ last → Inv s b
        → Inv s (next_values b block r frame values n)
    next_keep b block r frame values zero last k l h = h
    next_keep b block r frame values (suc n) last k l h =
        let here : n + 1 ≤ last = omega (arith, l) in
        meets (next_values b block r frame values n) (Op.Send block (n + 1)) Unmarked r frame (outlet values n false) refl refl (k (n + 1) here)
        (next_keep b block r frame values n last k (omega (arith, l)) h)

    last_keep : (b : Build) (r : Region) (c : Outlet) (values n : ℕ) → n ≤ most → Inv s b → Inv s (last_values b r c values n)
    last_keep b r c values zero l h = h
    last_keep b r c values (suc n) l h =
        meets (last_values b r c values n) (Op.Return n) Unmarked r c (outlet values n true) refl refl (base.return n (omega (arith, l)))
        (last_keep b r c values n (omega (arith, l)) h)

    turning_keeps : (b : Build) (flag : Outlet) (ss : List Source) → Inv s b → Inv s (turning b flag ss)
    unfolding turning
    turning_keeps b flag ss h =
        switches_keep (turned_flag b flag) flag ss
        (meets (turned_continuation b flag) Op.Switch OfFlag Root flag flag refl refl base.switch
        (meets b Op.Switch OfFlag Root (first_of 0) flag refl refl base.switch h))

    go_on_keeps : (b : Build) (block : ℕ) (r : Region) (t : Turn) → t.count + 2 ≤ most → ((e : ℕ) → e ≤ t.count → Ok (Op.Send block e)) → Inv s b
        → Inv s (go_on b block r t)
    unfolding go_on
    go_on_keeps b block r t l k h =
        let ask : Build = meeting b (Op.Ask (t.count + 1)) Unmarked Root (first_of t.continuation) (first_of t.flag) in
        let frame : Build = behind ask (first_of (length b.instrs)) Op.Frame Root in
        let copy : Build = behind frame (first_of (length ask.instrs)) Op.Copy Root in
        let entry : Build = meeting copy (Op.Send block 0) Unmarked r (first_of (length frame.instrs)) (first_of t.continuation) in
        next_keep entry block r (first_of (length frame.instrs)) t.values t.count t.count k (omega arith)
        (meets copy (Op.Send block 0) Unmarked r (first_of (length frame.instrs)) (first_of t.continuation) refl refl (k 0 (omega arith))
        (copy_behind frame (first_of (length ask.instrs)) Root
        (plain_behind ask (first_of (length b.instrs)) Op.Frame Root refl refl base.frame
        (meets b (Op.Ask (t.count + 1)) Unmarked Root (first_of t.continuation) (first_of t.flag) refl refl (base.ask (t.count + 1) (omega (arith, l))) h))))

    stop_keeps : (b : Build) (r : Region) (t : Turn) → t.count + 2 ≤ most → Inv s b → Inv s (stop b r t)
    unfolding stop
    stop_keeps b r t l h =
        meets (last_values b r (second_of t.continuation) t.values t.count) (Op.Return (t.count + 2)) Unmarked r (second_of t.continuation)
        (second_of t.flag) refl refl (base.return (t.count + 2) (omega (arith, l)))
        (last_keep b r (second_of t.continuation) t.values t.count (omega (arith, l)) h)

    iterate_keeps : (b : Build) (block k : ℕ) (ss : List Source) → length ss + 1 ≤ most → ((e : ℕ) → e < length ss → Ok (Op.Send block e)) → Inv s b
        → Inv s (iterate b block k ss)
    unfolding turn_of
    iterate_keeps b block k [] l a h = h
    iterate_keeps b block k (x ∷ ss) l a h =
        let t : Turn = turn_of b (outlet_of b x) (length ss) in
        let begun : Build = turning b (outlet_of b x) ss in
        let few : length ss + 2 ≤ most = omega (arith, l) in
        stop_keeps (go_on begun block (Arm k true) t) (Arm k false) t few
        (go_on_keeps begun block (Arm k true) t few (λ e m. a e (omega (arith, m))) (turning_keeps b (outlet_of b x) ss h))

    -- ENDS
    join_with_keeps : (b : Build) (signal : Option Outlet) (o : Outlet) (r : Region) → Inv s b → Inv s (join_with b signal o r).build
    join_with_keeps b None o r h = h
    join_with_keeps b (Some w) o r h = meets b Op.Sync Unmarked r w o refl refl base.sync h

    join_end_keeps : (b : Build) (signal : Option Outlet) (e : End) (r : Region) → Inv s b → Inv s (join_end b signal e r).build
    join_end_keeps b signal e r h = go (same_region e.region r)
      where
        left : Signalled
        left = record { build = b; signal = signal }

        go : (t : Bool) → Inv s (if t then join_with b signal e.outlet r else left).build
        go true = join_with_keeps b signal e.outlet r h
        go false = h

    join_ends_keep : (b : Build) (signal : Option Outlet) (r : Region) (es : List End) → Inv s b → Inv s (join_ends b signal r es).build
    unfolding join_ends
    join_ends_keep b signal r [] h = h
    join_ends_keep b signal r (e ∷ es) h = join_ends_keep (join_end b signal e r).build (join_end b signal e r).signal r es (join_end_keeps b signal e r h)

    signalled_keeps : (b : Build) (signal : Option Outlet) (place : ℕ) (p : Port) → Inv s b → Inv s (signalled b signal place p)
    signalled_keeps b None place p h = h
    signalled_keeps b (Some o) place p h = links s b o place p h

    copied_keeps : (b : Build) (f g : Option Outlet) (es : List End) (r : Region) → Inv s b → Inv s (copied b f g es r).build
    copied_keeps b f g es r h =
        let n : ℕ = length b.instrs in
        let copy : Build = quieted b Op.Copy r in
        signalled_keeps (signalled copy f n Left) g n Left (signalled_keeps copy f n Left (plain b Op.Copy r refl refl base.copy h))

    ended_keeps : (b : Build) (f g : Option Outlet) (es : List End) (r : Region) → Inv s b → Inv s (ended b f g es r).build
    ended_keeps b None None es r h = h
    ended_keeps b None (Some o) es r h = copied_keeps b None (Some o) es r h
    ended_keeps b (Some o) g es r h = copied_keeps b (Some o) g es r h

    closed_keeps : (b : Build) (es : List End) (k : ℕ) (r : Region) → Inv s b → Inv s (closed b es k r).build
    unfolding closed
    closed_keeps b es k r h =
        let one : Signalled = join_ends b None (Arm k true) es in
        let two : Signalled = join_ends one.build None (Arm k false) es in
        ended_keeps two.build one.signal two.signal es r (join_ends_keep one.build None (Arm k false) es (join_ends_keep b None (Arm k true) es h))

    closed_kind_keeps : (c : Closing) (n : ℕ) (k : Kind ℕ) (r : Region) → Inv s c.build → Inv s (closed_kind c n k r).build
    closed_kind_keeps c n (Lit z) r h = h
    closed_kind_keeps c n (Apply1 op) r h = h
    closed_kind_keeps c n (Apply2 op) r h = h
    closed_kind_keeps c n Cond r h = closed_keeps c.build c.ends n r h
    closed_kind_keeps c n Enter r h = h
    closed_kind_keeps c n (Merge k) r h = h
    closed_kind_keeps c n (Fetch a) r h = h
    closed_kind_keeps c n (Store a) r h = h
    closed_kind_keeps c n (Call f) r h = h
    closed_kind_keeps c n (StrictCall f) r h = h
    closed_kind_keeps c n (Loop f k) r h = h

    closed_nodes_keep : (c : Closing) (n : ℕ) (ns : List (Node ℕ)) → Inv s c.build → Inv s (closed_nodes c n ns).build
    unfolding closed_nodes
    closed_nodes_keep c n [] h = h
    closed_nodes_keep c n (x ∷ ns) h = closed_kind_keeps (closed_nodes c (n + 1) ns) n x.kind x.region (closed_nodes_keep c (n + 1) ns h)

    released_keeps : (b : Build) (es : List End) (offset : ℕ) → offset ≤ most → Inv s b → Inv s (released b es offset)
    unfolding released
    released_keeps b es offset l h =
        let made : Signalled = join_ends b None Root es in
        signalled_keeps (behind made.build (first_of 0) (Op.Release offset) Root) made.signal (length made.build.instrs) Right
        (plain_behind made.build (first_of 0) (Op.Release offset) Root refl refl (base.release offset l) (join_ends_keep b None Root es h))

    finished_keeps : (c : Closing) (block : Block ℕ) (offset : ℕ) → offset ≤ most → Inv s c.build → Inv s (finished c block offset)
    unfolding finished
    finished_keeps c block offset l h =
        let d : Closing = closed_nodes c block.inputs block.nodes in released_keeps d.build d.ends offset l (closed_nodes_keep c block.inputs block.nodes h)

  -- LOOPS
  quiets : (s t : Stage) (b : Build) (op : Op) (r : Region) → Step s op t → Fits op Unmarked → Ok op → Inv s b → Inv t (quieted b op r)
  quiets s t b op r e f k h = adds s t b op Untold Unmarked r e f k untold h

  credits_keep : (xs : List ℕ) (b : Build) (k : ℕ) (r : Region) → Ok (Op.Give k) → Ok (Op.Take k) → Ok (Op.Drain k) → Inv (Opening xs k) b
      → Inv (Idle (xs ++ k ∷ [])) (credits b k r)
  credits_keep xs b k r g t d h =
      let done : Stage = Idle (xs ++ k ∷ []) in
      let give : Build = quieted b (Op.Give k) r in
      let take : Build = quieted give (Op.Take k) r in
      let drain : Build = quieted take (Op.Drain k) r in
      links done (behind drain (first_of (length b.instrs)) Op.Copy r) (first_of (length take.instrs)) (length drain.instrs) Left
      (copy_behind done drain (first_of (length b.instrs)) r
      (quiets (Taking xs k) done take (Op.Drain k) r (Drained xs k refl refl refl) refl d
      (quiets (Giving xs k) (Taking xs k) give (Op.Take k) r (Taken xs k refl refl refl) refl t
      (quiets (Opening xs k) (Giving xs k) b (Op.Give k) r (Given xs k refl refl refl) refl g h))))

  repeat_keeps : (xs : List ℕ) (b : Build) (block k : ℕ) (r : Region) (ss : List Source) → Invokes Ok block (length ss) → Ok (Op.Open k) → Ok (Op.Give k)
      → Ok (Op.Take k) → Ok (Op.Drain k) → Inv (Idle xs) b → Inv (Idle (xs ++ k ∷ [])) (repeat b block k r ss)
  repeat_keeps xs b block k r ss i o g t d h =
      let begins : Stage = Opening xs k in
      let begun : Build = behind b (trigger_of b r) (Op.Open k) r in
      let frame : Build = behind begun (first_of (length b.instrs)) Op.Frame r in
      credits_keep xs (invoke frame (length begun.instrs) block (length ss) r ss) k r g t d
      (invoke_keeps begins frame (length begun.instrs) block (length ss) r ss i
      (plain_behind begins begun (first_of (length b.instrs)) Op.Frame r refl refl base.frame
      (links begins (quieted b (Op.Open k) r) (trigger_of b r) (length b.instrs) Left
      (quiets (Idle xs) begins b (Op.Open k) r (Opened xs k refl refl refl) refl o h))))

  -- BODIES
  kind_keeps : (xs : List ℕ) (b : Build) (s : Scope) (n : ℕ) (k : Kind ℕ) (r : Region) (ss : List Source) → AllowsKind Ok s.variants k (length ss)
      → Fit (origin_in s.version (Some s.number) n) → Inv (Idle xs) b → Inv (Idle (after_kind xs k)) (with_kind b s n k r ss)
  unfolding with_kind repeated
  kind_keeps xs b s n (Lit z) r ss a f h =
      operator_keeps (Idle xs) b (Op.Lit z) (origin_in s.version (Some s.number) n) r ss refl refl (base.literal z) f h
  kind_keeps xs b s n (Apply1 op) r ss a f h =
      operator_keeps (Idle xs) b (Op.Apply1 op) (origin_in s.version (Some s.number) n) r ss refl refl (base.one op) f h
  kind_keeps xs b s n (Apply2 op) r ss a f h =
      operator_keeps (Idle xs) b (Op.Apply2 op) (origin_in s.version (Some s.number) n) r ss refl refl (base.two op) f h
  kind_keeps xs b s n Cond r ss a f h = conditional_keeps (Idle xs) b (has_trigger s.triggers n) n r ss h
  kind_keeps xs b s n Enter r ss a f h = entered_keeps (Idle xs) b s r ss h
  kind_keeps xs b s n (Merge k) r ss a f h = merge_keeps (Idle xs) b r ss h
  kind_keeps xs b s n (Fetch x) r ss a f h = answered_keeps (Idle xs) b s (Op.Fetch x) n r ss refl refl a f h
  kind_keeps xs b s n (Store x) r ss a f h = answered_keeps (Idle xs) b s (Op.Store x) n r ss refl refl a f h
  kind_keeps xs b s n (Call g) r ss a f h = called_keeps (Idle xs) b (trigger_of b r) g (outputs_of s.blocks g) r ss a h
  kind_keeps xs b s n (StrictCall g) r ss a f h = strict_keeps (Idle xs) b g (outputs_of s.blocks g) r ss a h
  kind_keeps xs b s n (Loop g k) r ss a f h = repeat_keeps xs b (variant_of s.variants g) k r ss a.0 a.1 a.2 a.3 a.4 h

  nodes_keep : (xs : List ℕ) (b : Build) (s : Scope) (n : ℕ) (ns : List (Node ℕ))
      → ((k : ℕ) (x : Node ℕ) → slice_get ns k ≡ Some x → AllowsKind Ok s.variants x.kind (length x.sources))
      → ((k : ℕ) → k < n + length ns → Fit (origin_in s.version (Some s.number) k))
      → Inv (Idle xs) b → Inv (Idle (after_nodes xs ns)) (with_nodes b s n ns)
  unfolding with_nodes
  nodes_keep xs b s n [] a f h = h
  nodes_keep xs b s n (x ∷ ns) a f h =
      nodes_keep (after_kind xs x.kind) (with_node b s n x) s (n + 1) ns (λ k y e. a (suc k) y e) (λ k l. f k (omega (arith, l)))
      (kind_keeps xs b s n x.kind x.region x.sources (a 0 x refl) (f n (omega arith)) h)

  pub entries_keep : (s : Scope) → Allows Ok Fit most s → Inv (Idle []) nothing → Inv (Idle []) (entries s)
  unfolding entries
  entries_keep s a h =
      inputs_keep (Idle []) (quieted nothing Op.Copy Root) s s.block.inputs (λ k l. a.origins k (omega (arith, l)))
      (plain (Idle []) nothing Op.Copy Root refl refl base.copy h)

  body_keeps : (s : Scope) → Allows Ok Fit most s → Inv (Idle []) (entries s) → Inv (Idle (loop_bounds s.block)) (body s)
  body_keeps s a h =
      subst (λ xs. Inv (Idle xs) (body s)) (nodes_bounds [] s.block.nodes)
      (nodes_keep [] (entries s) s s.block.inputs s.block.nodes a.kinds a.origins h)

  -- BLOCKS
  pub code_keeps : (s : Scope) (turn : Option ℕ) → Allows Ok Fit most s → SendsOn Ok s turn → Inv (Idle []) (entries s)
      → Inv (Idle (loop_bounds s.block)) (code_build s turn)
  unfolding plain_build variant_build
  code_keeps s None a k h =
      let i : Stage = Idle (loop_bounds s.block) in
      let b : Build = returns (body s) 0 s.block.results in
      let few = a.results in
      finished_keeps i (closing b (ends_of b)) s.block s.block.outputs a.outputs
      (returns_keep i (body s) 0 s.block.results (omega (arith, few)) (body_keeps s a h))
  code_keeps s (Some code) a k h =
      let i : Stage = Idle (loop_bounds s.block) in
      let b : Build = iterate (body s) code (node_count s.block) s.block.results in
      finished_keeps i (closed b (ends_of b) (node_count s.block) Root) s.block s.block.inputs a.inputs
      (closed_keeps i b (ends_of b) (node_count s.block) Root
      (iterate_keeps i (body s) code (node_count s.block) s.block.results a.results k (body_keeps s a h)))

-- OF ANY FLOW all is allowed, and no offset of a block exceeds its greatest one
abbrev pub Any : Op → Type 0
Any op = ⊤

abbrev Anywhere : Origin → Type 0
Anywhere o = ⊤

pub any : (most : ℕ) → Basics Any most
any most = record {
  copy = tt;
  sync = tt;
  switch = tt;
  frame = tt;
  literal = λ z. tt;
  one = λ op. tt;
  two = λ op. tt;
  return = λ o l. tt;
  ask = λ o l. tt;
  release = λ o l. tt;
}

any_kind : (vars : List ℕ) (k : Kind ℕ) (n : ℕ) → AllowsKind Any vars k n
any_kind vars (Call f) n = (tt, λ e l. tt)
any_kind vars (StrictCall f) n = (tt, λ e l. tt)
any_kind vars (Loop f k) n = ((tt, λ e l. tt), tt, tt, tt, tt)
any_kind vars kind n = tt

abbrev pub greatest : Block ℕ → ℕ
greatest b = b.inputs + b.outputs + length b.results + 1

pub any_allows : (Fit : Origin → Type 0) (s : Scope) → ((n : ℕ) → n < node_count s.block → Fit (origin_in s.version (Some s.number) n))
    → Allows Any Fit (greatest s.block) s
any_allows Fit s origins = record {
  origins = origins;
  kinds = λ k n e. any_kind s.variants n.kind (length n.sources);
  inputs = omega arith;
  outputs = omega arith;
  results = omega arith;
}

pub any_sends : (s : Scope) (turn : Option ℕ) → SendsOn Any s turn
any_sends s None = tt
any_sends s (Some code) = λ e l. tt

-- what each step keeps whatever is added, the code of every block has
pub all_keep : (Inv : Stage → Build → Type 0)
    → ((s t : Stage) (b : Build) (op : Op) (o : Origin) (m : Mark) (r : Region) → Step s op t → Fits op m → Inv s b → Inv t (added b op o m r))
    → ((s : Stage) (b : Build) (o : Outlet) (to : ℕ) (p : Port) → Inv s b → Inv s (connected b o to p))
    → ((s : Stage) (b : Build) (o : Outlet) → Inv s b → Inv s (exited b o)) → Inv (Idle []) nothing
    → (s : Scope) (turn : Option ℕ) → Inv (Idle (loop_bounds s.block)) (code_build s turn)
all_keep Inv adds links exits begins s turn =
    let most : ℕ = greatest s.block in
    let base : Basics Any most = any most in
    let allows : Allows Any Anywhere most s = any_allows Anywhere s (λ n l. tt) in
    code_keeps Inv Any Anywhere most base tt (λ i j b op o m r e f k w h. adds i j b op o m r e f h) links exits s turn allows (any_sends s turn)
    (entries_keep Inv Any Anywhere most base tt (λ i j b op o m r e f k w h. adds i j b op o m r e f h) links exits s allows begins)
