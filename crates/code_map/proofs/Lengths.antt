-- How many instructions each schema adds, and in which region: by its counts, without its code.
use Rattle.std.proofs.Common.{◌≡◌, ℕ, zero, suc, ◌+◌, ◌-◌, Bool, true, false, List, [], ◌∷◌, ◌++◌, length, replicate, refl, sym, ap, subst, ◌∙◌, arith, Some}
use Rattle.std.specs.Prelude.{if◌then◌else◌}
use Rattle.std.proofs.lemmas.List.{append_assoc, append-nil, length-append, length-set, length-replicate, replicate-append-replicate}
use Rattle.tags.specs.declared.value.Origin.{Origin}
use Rattle.tags.specs.declared.token.Port.{Port}
use Rattle.semantics.specs.declared.graph.Region.{Region}
use Rattle.semantics.specs.declared.graph.Region.TheVariants.{Root, Arm}
use Rattle.semantics.specs.declared.graph.Source.{Source}
use Rattle.semantics.specs.declared.graph.Kind.{Kind}
use Rattle.tags.specs.declared.value.Origin.TheVariants.{Untold}
use Rattle.tags.specs.declared.token.Port.TheVariants.{Left}
use Rattle.semantics.specs.declared.program.Mark.{Mark}
use Rattle.semantics.specs.declared.program.Mark.TheVariants.{Unmarked, OfCond}
use Rattle.semantics.specs.declared.program.Op.{Op}
use Rattle.semantics.specs.Meaning.{origin_in}
use Rattle.semantics.specs.Graph.{Node, Block}
use Rattle.schemas.specs.Scopes.{Scope, predicate_of}
use Rattle.schemas.specs.Triggers.{has_trigger}
use Rattle.schemas.specs.declared.uses.Uses.{Uses}
use Rattle.schemas.specs.UseCounts.{is_often, uses_at}
use Rattle.schemas.specs.Builds.{Build, added, quieted, connected, exited, behind, meeting, operands, alternatives, copies, outlet_of, side, first_of, trigger_of}
use Rattle.schemas.specs.Builds.{slot_in, bare}
use Rattle.schemas.specs.Builds.{nowhere, first_source, second_of}
use Rattle.schemas.specs.Rows as Schemas
use Rattle.schemas.specs.Blocks.{entered, outputs_of, variant_of, with_kind, with_node, with_nodes, with_inputs, entries, body, repeated}
use Rattle.code_map.specs.declared.part.Part.{Part}
use Rattle.code_map.specs.Parts.{filled, continuation, input_parts, entry_parts, node_parts, body_parts}
use Rattle.code_map.specs.Laws.{BodiesHaveOwners}
use Rattle.code_map.specs.Counts.{Rows, no_rows, laid, one_if, gates_of, laid_call, laid_strict, laid_kind, laid_node, laid_nodes, laid_inputs, laid_entries, laid_body}

abbrev pub type_of : {X : Type 0} → X → Type 0
type_of {X} x = X

-- where a value leaves
abbrev pub Outlet : Type 0
Outlet = type_of nowhere

-- A build with so many instructions more, all in one region
pub record Grows (b : Build) (count : ℕ) (region : Region) (c : Build) : Type 0 where
  pub instrs : length c.instrs ≡ length b.instrs + count
  pub marks : length c.marks ≡ length b.marks + count
  pub regions : c.regions ≡ b.regions ++ replicate count region

pub grows_none : (b : Build) (r : Region) → Grows b 0 r b
grows_none b r = record { instrs = omega arith; marks = omega arith; regions = sym (append-nil b.regions) }

pub grows_then : (b c d : Build) (m n : ℕ) (r : Region) → Grows b m r c → Grows c n r d → Grows b (m + n) r d
grows_then b c d m n r x y = record {
  instrs = let p = x.instrs in let q = y.instrs in omega (arith, p, q);
  marks = let p = x.marks in let q = y.marks in omega (arith, p, q);
  regions = y.regions ∙ ap (λ rs. rs ++ replicate n r) x.regions ∙ append_assoc b.regions (replicate m r) (replicate n r)
      ∙ ap (λ rs. b.regions ++ rs) (replicate-append-replicate m n r);
}

pub grows_as : (b c : Build) (m n : ℕ) (r : Region) → m ≡ n → Grows b m r c → Grows b n r c
grows_as b c m n r e x = subst (λ k. Grows b k r c) e x

pub grows_added : (b : Build) (op : Op) (origin : Origin) (mark : Mark) (r : Region) → Grows b 1 r (added b op origin mark r)
grows_added b op origin mark r = record {
  instrs = length-append b.instrs (bare op origin (slot_in b op) ∷ []);
  marks = length-append b.marks (mark ∷ []);
  regions = refl;
}

pub grows_connected : (b c : Build) (k : ℕ) (r : Region) → Grows b k r c → (o : Outlet) (to : ℕ) (port : Port) → Grows b k r (connected c o to port)
grows_connected b c k r x o to port = record {
  instrs = length-set c.instrs (o.place + o.port) _ ∙ x.instrs;
  marks = x.marks;
  regions = x.regions;
}

pub grows_exited : (b c : Build) (k : ℕ) (r : Region) → Grows b k r c → (o : Outlet) → Grows b k r (exited c o)
grows_exited b c k r x o = record { instrs = x.instrs; marks = x.marks; regions = x.regions }

pub grows_behind : (b : Build) (from : Outlet) (op : Op) (r : Region) → Grows b 1 r (behind b from op r)
grows_behind b from op r = grows_connected b (quieted b op r) 1 r (grows_added b op _ _ r) from (length b.instrs) _

pub grows_meeting : (b : Build) (op : Op) (mark : Mark) (r : Region) (left right : Outlet) → Grows b 1 r (meeting b op mark r left right)
grows_meeting b op mark r left right = grows_connected b (connected (added b op _ mark r) left (length b.instrs) _) 1 r
    (grows_connected b (added b op _ mark r) 1 r (grows_added b op _ mark r) left (length b.instrs) _) right (length b.instrs) _

pub grows_operands : (b c : Build) (k : ℕ) (r : Region) → Grows b k r c → (place from : ℕ) (ss : List Source) → Grows b k r (operands c place from ss)
grows_operands b c k r x place from [] = x
grows_operands b c k r x place from (s ∷ ss) = grows_operands b (connected c (outlet_of c s) place (side from)) k r
    (grows_connected b c k r x (outlet_of c s) place (side from)) place (from + 1) ss

pub grows_alternatives : (b c : Build) (k : ℕ) (r : Region) → Grows b k r c → (place : ℕ) (ss : List Source) → Grows b k r (alternatives c place ss)
grows_alternatives b c k r x place [] = x
grows_alternatives b c k r x place (s ∷ ss) = grows_alternatives b (connected c (outlet_of c s) place Left) k r
    (grows_connected b c k r x (outlet_of c s) place Left) place ss

pub grows_copies : (b : Build) (r : Region) (n : ℕ) → Grows b n r (copies b r n)
grows_copies b r zero = grows_none b r
grows_copies b r (suc n) = grows_as b (copies b r (suc n)) (n + 1) (suc n) r (omega arith)
    (grows_then b (copies b r n) (copies b r (suc n)) n 1 r (grows_copies b r n) (grows_added (copies b r n) Op.Copy _ _ r))

-- CALLS
pub grows_sends : (b c : Build) (k : ℕ) (r : Region) → Grows b k r c → (frame : Outlet) (f from : ℕ) (ss : List Source)
    → Grows b (k + length ss) r (Schemas.sends c frame f r from ss)
grows_sends b c k r x frame f from [] = grows_as b c k (k + 0) r (omega arith) x
grows_sends b c k r x frame f from (s ∷ ss) =
    let d = meeting c (Op.Send f (from + 1)) Unmarked r frame (outlet_of c s) in
    grows_as b (Schemas.sends c frame f r from (s ∷ ss)) (k + 1 + length ss) (k + length (s ∷ ss)) r (omega arith)
    (grows_sends b d (k + 1) r (grows_then b c d k 1 r x (grows_meeting c (Op.Send f (from + 1)) Unmarked r frame (outlet_of c s))) frame f (from + 1) ss)

pub grows_landed : (b c : Build) (k : ℕ) (r : Region) → Grows b k r c → (link outputs : ℕ) → Grows b (k + outputs) r (Schemas.landed c link outputs r)
grows_landed b c k r x link outputs =
    let d = copies c r outputs in
    grows_exited b (connected d (first_of link) (length c.instrs) Left) (k + outputs) r
    (grows_connected b d (k + outputs) r (grows_then b c d k outputs r x (grows_copies c r outputs)) (first_of link) (length c.instrs) Left)
    (first_of (length c.instrs))

pub grows_linked : (b c : Build) (k : ℕ) (r : Region) → Grows b k r c → (copy f outputs : ℕ) (ss : List Source)
    → Grows b (k + 1 + length ss + outputs) r (Schemas.linked c copy f outputs r ss)
grows_linked b c k r x copy f outputs ss =
    let d = behind c (first_of copy) (Op.Link f) r in
    let e = Schemas.sends d (first_of copy) f r 0 ss in
    grows_landed b e (k + 1 + length ss) r
    (grows_sends b d (k + 1) r (grows_then b c d k 1 r x (grows_behind c (first_of copy) (Op.Link f) r)) (first_of copy) f 0 ss) (length c.instrs) outputs

pub grows_invoke : (b c : Build) (k : ℕ) (r : Region) → Grows b k r c → (frame f outputs : ℕ) (ss : List Source)
    → Grows b (k + 1 + 1 + length ss + outputs) r (Schemas.invoke c frame f outputs r ss)
grows_invoke b c k r x frame f outputs ss =
    let d = behind c (first_of frame) Op.Copy r in
    grows_linked b d (k + 1) r (grows_then b c d k 1 r x (grows_behind c (first_of frame) Op.Copy r)) (length c.instrs) f outputs ss

pub grows_called : (b c : Build) (k : ℕ) (r : Region) → Grows b k r c → (signal : Outlet) (f outputs : ℕ) (ss : List Source)
    → Grows b (k + (4 + length ss + outputs)) r (Schemas.called c signal f outputs r ss)
unfolding Schemas.called
grows_called b c k r x signal f outputs ss =
    let d = behind c signal Op.Frame r in
    let e = Schemas.invoke d (length c.instrs) f outputs r ss in
    grows_as b (quieted e Op.Copy r) (k + 1 + 1 + 1 + length ss + outputs + 1) (k + (4 + length ss + outputs)) r (omega arith)
    (grows_then b e (quieted e Op.Copy r) (k + 1 + 1 + 1 + length ss + outputs) 1 r
    (grows_invoke b d (k + 1) r (grows_then b c d k 1 r x (grows_behind c signal Op.Frame r)) (length c.instrs) f outputs ss)
    (grows_added e Op.Copy Untold Unmarked r))

pub grows_joins : (b c : Build) (k : ℕ) (r : Region) → Grows b k r c → (signal : Outlet) (ss : List Source)
    → Grows b (k + length ss) r (Schemas.join_sources c signal r ss).build
grows_joins b c k r x signal [] = grows_as b c k (k + 0) r (omega arith) x
grows_joins b c k r x signal (s ∷ ss) =
    let d = meeting c Op.Sync Unmarked r signal (outlet_of c s) in
    grows_as b (Schemas.join_sources c signal r (s ∷ ss)).build (k + 1 + length ss) (k + length (s ∷ ss)) r (omega arith)
    (grows_joins b d (k + 1) r (grows_then b c d k 1 r x (grows_meeting c Op.Sync Unmarked r signal (outlet_of c s))) (first_of (length c.instrs)) ss)

pub grows_loop : (b : Build) (r : Region) (f bound : ℕ) (ss : List Source) → Grows b (4 + (4 + length ss + length ss)) r (Schemas.repeat b f bound r ss)
grows_loop b r f bound ss =
    let c = behind b (trigger_of b r) (Op.Open bound) r in
    let d = behind c (first_of (length b.instrs)) Op.Frame r in
    let e = Schemas.invoke d (length c.instrs) f (length ss) r ss in
    let g = quieted e (Op.Give bound) r in
    let t = quieted g (Op.Take bound) r in
    let q = quieted t (Op.Drain bound) r in
    let z = behind q (first_of (length e.instrs)) Op.Copy r in
    let n = 1 + 1 + 1 + 1 + length ss + length ss in
    grows_as b (connected z (first_of (length t.instrs)) (length q.instrs) Left) (n + 1 + 1 + 1 + 1) (4 + (4 + length ss + length ss)) r (omega arith)
    (grows_connected b z (n + 1 + 1 + 1 + 1) r
    (grows_then b q z (n + 1 + 1 + 1) 1 r
    (grows_then b t q (n + 1 + 1) 1 r
    (grows_then b g t (n + 1) 1 r
    (grows_then b e g n 1 r
    (grows_invoke b d (1 + 1) r (grows_then b c d 1 1 r (grows_behind b (trigger_of b r) (Op.Open bound) r)
    (grows_behind c (first_of (length b.instrs)) Op.Frame r)) (length c.instrs) f (length ss) ss)
    (grows_added e (Op.Give bound) Untold Unmarked r)) (grows_added g (Op.Take bound) Untold Unmarked r)) (grows_added t (Op.Drain bound) Untold Unmarked r))
    (grows_behind q (first_of (length e.instrs)) Op.Copy r)) (first_of (length t.instrs)) (length q.instrs) Left)

-- NODES: the count of each kind, with that number of sources
abbrev strict_count : ℕ → ℕ → ℕ
strict_count zero q = 0
strict_count (suc m) q = m + (4 + suc m + q)

abbrev pub kind_count : List (Block ℕ) → List Bool → List Uses → ℕ → Kind ℕ → Region → ℕ → ℕ
kind_count bs ts us n (Kind.Lit z) region m = 1
kind_count bs ts us n (Kind.Apply1 op) region m = 1
kind_count bs ts us n (Kind.Apply2 op) region m = 1
kind_count bs ts us n Kind.Cond region m = one_if (has_trigger ts n)
kind_count bs ts us n Kind.Enter region m = gates_of region
kind_count bs ts us n (Kind.Merge k) region m = 1
kind_count bs ts us n (Kind.Fetch a) region m = 1 + one_if (is_often (uses_at us n))
kind_count bs ts us n (Kind.Store a) region m = 1 + one_if (is_often (uses_at us n))
kind_count bs ts us n (Kind.Call f) region m = 4 + m + outputs_of bs f
kind_count bs ts us n (Kind.StrictCall f) region m = strict_count m (outputs_of bs f)
kind_count bs ts us n (Kind.Loop f k) region m = 4 + (4 + m + m)

grows_operator : (b : Build) (op : Op) (origin : Origin) (r : Region) (ss : List Source) → Grows b 1 r (Schemas.operator b op origin r ss)
grows_operator b op origin r ss =
    let c = added b op origin Unmarked r in
    grows_exited b (operands c (length b.instrs) 0 ss) 1 r (grows_operands b c 1 r (grows_added b op origin Unmarked r) (length b.instrs) 0 ss)
    (first_of (length b.instrs))

grows_shared : (b : Build) (op : Op) (origin : Origin) (r : Region) (ss : List Source) → Grows b (1 + 1) r (Schemas.shared_answer b op origin r ss)
grows_shared b op origin r ss =
    let c = operands (added b op origin Unmarked r) (length b.instrs) 0 ss in
    let d = behind c (first_of (length b.instrs)) Op.Copy r in
    grows_exited b d (1 + 1) r
    (grows_then b c d 1 1 r (grows_operands b (added b op origin Unmarked r) 1 r (grows_added b op origin Unmarked r) (length b.instrs) 0 ss)
    (grows_behind c (first_of (length b.instrs)) Op.Copy r)) (first_of (length c.instrs))

grows_answered : (b : Build) (op : Op) (origin : Origin) (r : Region) (ss : List Source) (t : Bool)
    → Grows b (1 + one_if t) r (if t then Schemas.shared_answer b op origin r ss else Schemas.operator b op origin r ss)
grows_answered b op origin r ss true = grows_shared b op origin r ss
grows_answered b op origin r ss false = grows_operator b op origin r ss

grows_conditional : (b : Build) (n : ℕ) (r : Region) (ss : List Source) (t : Bool) → Grows b (one_if t) r (Schemas.conditional b t n r ss)
grows_conditional b n r ss true =
    let o = outlet_of b (first_source ss) in
    grows_exited b (meeting b Op.Switch (OfCond n) r o o) 1 r (grows_meeting b Op.Switch (OfCond n) r o o) (first_of (length b.instrs))
grows_conditional b n r ss false = grows_exited b b 0 r (grows_none b r) nowhere

grows_entered : (b : Build) (s : Scope) (r : Region) (ss : List Source) → Grows b (gates_of r) r (entered b s r ss)
grows_entered b s Root ss = grows_none b Root
grows_entered b s (Arm k t) ss =
    let o = outlet_of b (first_source ss) in
    let p = outlet_of b (predicate_of s.block k) in
    grows_exited b (meeting b Op.Switch (OfCond k) (Arm k t) o p) 1 (Arm k t) (grows_meeting b Op.Switch (OfCond k) (Arm k t) o p)
    (if t then first_of (length b.instrs) else second_of (length b.instrs))

grows_merge : (b : Build) (r : Region) (ss : List Source) → Grows b 1 r (Schemas.merge b r ss)
grows_merge b r ss =
    let c = quieted b Op.Copy r in
    grows_exited b (alternatives c (length b.instrs) ss) 1 r (grows_alternatives b c 1 r (grows_added b Op.Copy Untold Unmarked r) (length b.instrs) ss)
    (first_of (length b.instrs))

grows_strict : (b : Build) (f outputs : ℕ) (r : Region) (ss : List Source) → Grows b (strict_count (length ss) outputs) r (Schemas.strict_call b f outputs r ss)
grows_strict b f outputs r [] = grows_none b r
grows_strict b f outputs r (s ∷ ss) =
    let j = Schemas.join_sources b (outlet_of b s) r ss in
    grows_called b j.build (length ss) r
    (grows_as b j.build (0 + length ss) (length ss) r (omega arith) (grows_joins b b 0 r (grows_none b r) (outlet_of b s) ss)) j.signal f outputs (s ∷ ss)

pub grows_kind : (b : Build) (s : Scope) (n : ℕ) (k : Kind ℕ) (r : Region) (ss : List Source)
    → Grows b (kind_count s.blocks s.triggers s.uses n k r (length ss)) r (with_kind b s n k r ss)
unfolding with_kind repeated
grows_kind b s n (Kind.Lit z) r ss = grows_operator b (Op.Lit z) (origin_in s.version (Some s.number) n) r ss
grows_kind b s n (Kind.Apply1 op) r ss = grows_operator b (Op.Apply1 op) (origin_in s.version (Some s.number) n) r ss
grows_kind b s n (Kind.Apply2 op) r ss = grows_operator b (Op.Apply2 op) (origin_in s.version (Some s.number) n) r ss
grows_kind b s n Kind.Cond r ss = grows_conditional b n r ss (has_trigger s.triggers n)
grows_kind b s n Kind.Enter r ss = grows_entered b s r ss
grows_kind b s n (Kind.Merge k) r ss = grows_merge b r ss
grows_kind b s n (Kind.Fetch a) r ss = grows_answered b (Op.Fetch a) (origin_in s.version (Some s.number) n) r ss (is_often (uses_at s.uses n))
grows_kind b s n (Kind.Store a) r ss = grows_answered b (Op.Store a) (origin_in s.version (Some s.number) n) r ss (is_often (uses_at s.uses n))
grows_kind b s n (Kind.Call f) r ss =
    let q = outputs_of s.blocks f in
    grows_as b (Schemas.call b f q r ss) (0 + (4 + length ss + q)) (4 + length ss + q) r (omega arith)
    (grows_called b b 0 r (grows_none b r) (trigger_of b r) f q ss)
grows_kind b s n (Kind.StrictCall f) r ss = grows_strict b f (outputs_of s.blocks f) r ss
grows_kind b s n (Kind.Loop f k) r ss = grows_loop b r (variant_of s.variants f) k ss

-- ROWS: those that are laid are the parts and the regions of a build
pub laid_more : (r : Rows) (m n : ℕ) (p : Part) (g : Region) → laid (laid r m p g) n p g ≡ laid r (m + n) p g
laid_more r m n p g =
    ap (λ ps. record { parts = ps; regions = (r.regions ++ replicate m g) ++ replicate n g })
    (append_assoc r.parts (replicate m p) (replicate n p) ∙ ap (λ qs. r.parts ++ qs) (replicate-append-replicate m n p))
    ∙ ap (λ gs. record { parts = r.parts ++ replicate (m + n) p; regions = gs })
    (append_assoc r.regions (replicate m g) (replicate n g) ∙ ap (λ hs. r.regions ++ hs) (replicate-append-replicate m n g))

call_laid : (r : Rows) (m q n : ℕ) (g : Region) → laid_call r m q n g ≡ laid r (4 + m + q) (Part.Node n) g
call_laid r m q n g = ap (λ x. laid x q (Part.Node n) g) (laid_more r 4 m (Part.Node n) g) ∙ laid_more r (4 + m) q (Part.Node n) g

none_laid : (r : Rows) (p : Part) (g : Region) → r ≡ laid r 0 p g
none_laid r p g = ap (λ ps. record { parts = ps; regions = r.regions }) (sym (append-nil r.parts))
    ∙ ap (λ gs. record { parts = r.parts ++ []; regions = gs }) (sym (append-nil r.regions))

strict_laid : (r : Rows) (m q n : ℕ) (g : Region) → laid_strict r m q n g ≡ laid r (strict_count m q) (Part.Node n) g
strict_laid r zero q n g = none_laid r (Part.Node n) g
strict_laid r (suc m) q n g = call_laid (laid r m (Part.Node n) g) (suc m) q n g ∙ laid_more r m (4 + suc m + q) (Part.Node n) g

pub kind_laid : (r : Rows) (bs : List (Block ℕ)) (ts : List Bool) (us : List Uses) (n : ℕ) (k : Kind ℕ) (g : Region) (m : ℕ)
    → laid_kind r bs ts us n k g m ≡ laid r (kind_count bs ts us n k g m) (Part.Node n) g
kind_laid r bs ts us n (Kind.Lit z) g m = refl
kind_laid r bs ts us n (Kind.Apply1 op) g m = refl
kind_laid r bs ts us n (Kind.Apply2 op) g m = refl
kind_laid r bs ts us n Kind.Cond g m = refl
kind_laid r bs ts us n Kind.Enter g m = refl
kind_laid r bs ts us n (Kind.Merge k) g m = refl
kind_laid r bs ts us n (Kind.Fetch a) g m = refl
kind_laid r bs ts us n (Kind.Store a) g m = refl
kind_laid r bs ts us n (Kind.Call f) g m = call_laid r m (outputs_of bs f) n g
kind_laid r bs ts us n (Kind.StrictCall f) g m = strict_laid r m (outputs_of bs f) n g
kind_laid r bs ts us n (Kind.Loop f k) g m = call_laid (laid r 4 (Part.Node n) g) m m n g ∙ laid_more r 4 (4 + m + m) (Part.Node n) g

-- The rows are those of a build with these parts.
pub record Tracks (r : Rows) (b : Build) (ps : List Part) : Type 0 where
  pub parts : r.parts ≡ ps
  pub regions : r.regions ≡ b.regions
  pub instrs : length b.instrs ≡ length ps
  pub marks : length b.marks ≡ length ps
  pub places : length b.regions ≡ length ps

count_left : (m n k : ℕ) → m ≡ n + k → m - n ≡ k
count_left m n k e = omega (arith, e)

pub tracks_more : (r : Rows) (b c : Build) (ps : List Part) (k : ℕ) (p : Part) (g : Region) → Tracks r b ps → Grows b k g c
    → Tracks (laid r k p g) c (filled ps c p)
tracks_more r b c ps k p g t x =
    let more : length c.instrs - length ps ≡ k = count_left (length c.instrs) (length ps) k (x.instrs ∙ ap (λ n. n + k) t.instrs) in
    let same : filled ps c p ≡ ps ++ replicate k p = ap (λ n. ps ++ replicate n p) more in
    let long : length (filled ps c p) ≡ length ps + k = ap length same ∙ length-append ps (replicate k p) ∙ ap (λ n. length ps + n) (length-replicate k p) in
    record {
      parts = ap (λ qs. qs ++ replicate k p) t.parts ∙ sym same;
      regions = ap (λ gs. gs ++ replicate k g) t.regions ∙ sym x.regions;
      instrs = x.instrs ∙ ap (λ n. n + k) t.instrs ∙ sym long;
      marks = x.marks ∙ ap (λ n. n + k) t.marks ∙ sym long;
      places = ap length x.regions ∙ length-append b.regions (replicate k g) ∙ ap (λ n. length b.regions + n) (length-replicate k g)
          ∙ ap (λ n. n + k) t.places ∙ sym long;
    }

pub tracks_node : (s : Scope) (n : ℕ) (x : Node ℕ) (r : Rows) (b : Build) (ps : List Part) → Tracks r b ps
    → Tracks (laid_node r s.blocks s.triggers s.uses n x) (with_node b s n x) (filled ps (with_node b s n x) (Part.Node n))
tracks_node s n x r b ps t = subst (λ q. Tracks q (with_node b s n x) (filled ps (with_node b s n x) (Part.Node n)))
    (sym (kind_laid r s.blocks s.triggers s.uses n x.kind x.region (length x.sources)))
    (tracks_more r b (with_node b s n x) ps (kind_count s.blocks s.triggers s.uses n x.kind x.region (length x.sources)) (Part.Node n) x.region t
    (grows_kind b s n x.kind x.region x.sources))

pub tracks_nodes : (s : Scope) (n : ℕ) (xs : List (Node ℕ)) (r : Rows) (b : Build) (ps : List Part) → Tracks r b ps
    → Tracks (laid_nodes r s.blocks s.triggers s.uses n xs) (with_nodes b s n xs) (node_parts ps b s n xs)
unfolding with_nodes
tracks_nodes s n [] r b ps t = t
tracks_nodes s n (x ∷ xs) r b ps t = tracks_nodes s (n + 1) xs (laid_node r s.blocks s.triggers s.uses n x) (with_node b s n x)
    (filled ps (with_node b s n x) (Part.Node n)) (tracks_node s n x r b ps t)

-- ENTRIES
tracks_start : Tracks (laid no_rows 1 Part.Continuation Root) continuation (filled [] continuation Part.Continuation)
tracks_start = record { parts = refl; regions = refl; instrs = refl; marks = refl; places = refl }

tracks_inputs : (s : Scope) (b : Build) (r : Rows) (ps : List Part) → Tracks r b ps → (n : ℕ)
    → Tracks (laid_inputs r n) (with_inputs b s n) (input_parts ps b s n)
tracks_inputs s b r ps t zero = t
tracks_inputs s b r ps t (suc n) =
    let c = with_inputs b s n in
    tracks_more (laid_inputs r n) c (with_inputs b s (suc n)) (input_parts ps b s n) 1 (Part.Node n) Root (tracks_inputs s b r ps t n)
    (grows_exited c (added c Op.Copy (origin_in s.version (Some s.number) n) Unmarked Root) 1 Root
    (grows_added c Op.Copy (origin_in s.version (Some s.number) n) Unmarked Root) (first_of (length c.instrs)))

pub tracks_entries : (s : Scope) → Tracks (laid_entries s.block.inputs) (entries s) (entry_parts s)
unfolding entries
tracks_entries s =
    tracks_inputs s continuation (laid no_rows 1 Part.Continuation Root) (filled [] continuation Part.Continuation) tracks_start s.block.inputs

-- THE BODY of a block: as many instructions of each part as the rows have, in the same order
pub tracks_body : (s : Scope) → Tracks (laid_body s.blocks s.triggers s.uses s.block) (body s) (body_parts s)
tracks_body s = tracks_nodes s s.block.inputs s.block.nodes (laid_entries s.block.inputs) (entries s) (entry_parts s) (tracks_entries s)

pub bodies_have_owners : BodiesHaveOwners
bodies_have_owners s = let t = tracks_body s in (sym t.instrs, t.parts, t.regions)
