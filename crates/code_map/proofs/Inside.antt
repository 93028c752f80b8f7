-- What the code of a block has before its ends are joined sends to instructions that it has itself.
use Rattle.std.proofs.Common.{◌≡◌, ℕ, zero, suc, ◌+◌, ◌<◌, ◌≤◌, Bool, true, false, List, [], ◌∷◌, ◌++◌, length, refl, sym, ap, subst, arith, Some, get_or, set, inl, inr, eqb, eqb-true, length-set, get_or-set_same, get_or-set_other}
use Rattle.std.specs.Prelude.{if◌then◌else◌, ⊤}
use Rattle.std.proofs.lemmas.Bool.{cases_lt, eqb-false}
use Rattle.tags.specs.declared.value.Origin.{Origin}
use Rattle.tags.specs.declared.value.Origin.TheVariants.{Untold}
use Rattle.tags.specs.declared.token.Port.{Port}
use Rattle.tags.specs.declared.token.Port.TheVariants.{Left, Right}
use Rattle.semantics.specs.declared.graph.Region.{Region}
use Rattle.semantics.specs.declared.graph.Region.TheVariants.{Root, Arm}
use Rattle.semantics.specs.declared.graph.Source.{Source}
use Rattle.semantics.specs.declared.graph.Kind.{Kind}
use Rattle.semantics.specs.declared.program.Dest.{Dest}
use Rattle.semantics.specs.declared.program.Mark.{Mark}
use Rattle.semantics.specs.declared.program.Mark.TheVariants.{Unmarked, OfCond, OfFlag}
use Rattle.semantics.specs.declared.program.Op.{Op}
use Rattle.semantics.specs.Program.{Instr}
use Rattle.semantics.specs.Meaning.{origin_in}
use Rattle.semantics.specs.Graph.{Node}
use Rattle.schemas.specs.Scopes.{Scope, predicate_of}
use Rattle.schemas.specs.Triggers.{has_trigger}
use Rattle.schemas.specs.UseCounts.{is_often, uses_at}
use Rattle.schemas.specs.Builds.{Build, nothing, added, quieted, connected, behind, meeting, operands, alternatives, copies, outlet_of, side, first_of, second_of, trigger_of}
use Rattle.schemas.specs.Builds.{first_source, no_instr, with_dest, dest_of, bare, slot_in, outlet}
use Rattle.schemas.specs.Rows as Schemas
use Rattle.schemas.specs.Tails.{returns, switches, next_values, last_values, turned_continuation, turned_flag, turning, turn_of, go_on, stop, iterate}
use Rattle.schemas.specs.declared.tail.Turn.{Turn}
use Rattle.schemas.specs.Blocks.{entered, outputs_of, variant_of, with_kind, with_node, with_nodes, with_inputs, entries, body, repeated}
use Rattle.code_map.proofs.Lengths.{Outlet, grows_added, grows_behind, grows_copies}

abbrev pub at : Build → ℕ → Instr
at b n = get_or b.instrs n no_instr

-- the first one of these destinations of what is at a place is before a limit
abbrev pub Low : ℕ → ℕ → List Dest → Type 0
Low limit n [] = ⊤
Low limit n (d ∷ ds) = n + d.ahead < limit

abbrev pub LowInstr : ℕ → ℕ → Instr → Type 0
LowInstr limit n i = Low limit n i.firsts × Low limit n i.seconds

abbrev pub Inside : ℕ → Build → Type 0
Inside limit b = (n : ℕ) → LowInstr limit n (at b n)

-- before its end, and at its end at most
abbrev pub In : Build → Type 0
In b = Inside (length b.instrs) b

abbrev pub Weak : Build → Type 0
Weak b = Inside (length b.instrs + 1) b

low_more : (m k n : ℕ) → m ≤ k → (ds : List Dest) → Low m n ds → Low k n ds
low_more m k n l [] h = tt
low_more m k n l (d ∷ ds) h = omega (arith, l, h)

inside_more : (m k : ℕ) → m ≤ k → (b : Build) → Inside m b → Inside k b
inside_more m k l b h n = (low_more m k n l (at b n).firsts (h n).0, low_more m k n l (at b n).seconds (h n).1)

weaker : (b : Build) → In b → Weak b
weaker b h = inside_more (length b.instrs) (length b.instrs + 1) (omega arith) b h

-- one element more
get_push : (P : ℕ → Instr → Type 0) (xs : List Instr) (x d : Instr) → ((n : ℕ) → P n x) → ((n : ℕ) → P n d) → ((n : ℕ) → P n (get_or xs n d))
    → (n : ℕ) → P n (get_or (xs ++ x ∷ []) n d)
get_push P [] x d a b h zero = a zero
get_push P [] x d a b h (suc n) = b (suc n)
get_push P (y ∷ ys) x d a b h zero = h zero
get_push P (y ∷ ys) x d a b h (suc n) = get_push (λ m z. P (suc m) z) ys x d (λ m. a (suc m)) (λ m. b (suc m)) (λ m. h (suc m)) n

in_added : (b : Build) → Weak b → (op : Op) (origin : Origin) (mark : Mark) (r : Region) → In (added b op origin mark r)
in_added b h op origin mark r =
    inside_more (length b.instrs + 1) (length (added b op origin mark r).instrs) (let e = (grows_added b op origin mark r).instrs in omega (arith, e))
    (added b op origin mark r)
    (get_push (LowInstr (length b.instrs + 1)) b.instrs (bare op origin (slot_in b op)) no_instr (λ n. (tt, tt)) (λ n. (tt, tt)) h)

low_dest : (limit n : ℕ) (ds : List Dest) (d : Dest) → n + d.ahead < limit → Low limit n ds → Low limit n (ds ++ d ∷ [])
low_dest limit n [] d l h = l
low_dest limit n (x ∷ ds) d l h = h

low_instr : (limit n : ℕ) (i : Instr) (second : Bool) (d : Dest) → n + d.ahead < limit → LowInstr limit n i → LowInstr limit n (with_dest i second d)
low_instr limit n i true d l h = (h.0, low_dest limit n i.seconds d l h.1)
low_instr limit n i false d l h = (low_dest limit n i.firsts d l h.0, h.1)

set_past : (xs : List Instr) (n : ℕ) (x : Instr) → length xs ≤ n → set xs n x ≡ xs
set_past [] n x l = refl
set_past (y ∷ ys) zero x l = absurd (omega (arith, l))
set_past (y ∷ ys) (suc n) x l = ap (λ zs. y ∷ zs) (set_past ys n x (omega (arith, l)))

inside_connected : (limit : ℕ) (b : Build) → length b.instrs ≤ limit → Inside limit b → (o : Outlet) (to : ℕ) (port : Port) → to < limit
    → Inside limit (connected b o to port)
inside_connected limit b long h o to port near = elim (cases_lt (o.place + o.port) (length b.instrs)) as (λ z. Inside limit (connected b o to port)) [
  | inl l ↦ (λ n. go l n (eqb n (o.place + o.port)) refl)
  | inr l ↦ subst (λ is. (n : ℕ) → LowInstr limit n (get_or is n no_instr)) (sym (set_past b.instrs (o.place + o.port)
      (with_dest (at b (o.place + o.port)) o.second (dest_of o to port)) l)) h
]
  where
    place : ℕ
    place = o.place + o.port

    changed : Instr
    changed = with_dest (at b place) o.second (dest_of o to port)

    go : place < length b.instrs → (n : ℕ) (t : Bool) → eqb n place ≡ t → LowInstr limit n (at (connected b o to port) n)
    go l n true e =
        let same : n ≡ place = eqb-true n place e in
        let there : at (connected b o to port) place ≡ changed = get_or-set_same b.instrs place changed no_instr l in
        subst (λ m. LowInstr limit m (at (connected b o to port) m)) (sym same)
        (subst (LowInstr limit place) (sym there) (low_instr limit place (at b place) o.second (dest_of o to port) (omega (arith, near, l, long)) (h place)))
    go l n false e = subst (LowInstr limit n) (sym (get_or-set_other b.instrs place n changed no_instr (eqb-false n place e))) (h n)

in_connected : (b : Build) → In b → (o : Outlet) (to : ℕ) (port : Port) → to < length b.instrs → In (connected b o to port)
in_connected b h o to port near = inside_more (length b.instrs) (length (connected b o to port).instrs)
    (let e = length-set b.instrs (o.place + o.port) (with_dest (at b (o.place + o.port)) o.second (dest_of o to port)) in omega (arith, e)) (connected b o to port)
    (inside_connected (length b.instrs) b (omega arith) h o to port near)

in_behind : (b : Build) → Weak b → (from : Outlet) (op : Op) (r : Region) → In (behind b from op r)
in_behind b h from op r = in_connected (quieted b op r) (in_added b h op Untold Unmarked r) from (length b.instrs) Left
    (let e = (grows_added b op Untold Unmarked r).instrs in omega (arith, e))

in_meeting : (b : Build) → In b → (op : Op) (mark : Mark) (r : Region) (left right : Outlet) → In (meeting b op mark r left right)
in_meeting b h op mark r left right =
    let c = added b op Untold mark r in
    let d = connected c left (length b.instrs) Left in
    let e = (grows_added b op Untold mark r).instrs in
    let f = length-set c.instrs (left.place + left.port) (with_dest (at c (left.place + left.port)) left.second (dest_of left (length b.instrs) Left)) in
    in_connected d (in_connected c (in_added b (weaker b h) op Untold mark r) left (length b.instrs) Left (omega (arith, e))) right (length b.instrs) Right
    (omega (arith, e, f))

connected_long : (b : Build) (o : Outlet) (to : ℕ) (port : Port) → length (connected b o to port).instrs ≡ length b.instrs
connected_long b o to port = length-set b.instrs (o.place + o.port) (with_dest (at b (o.place + o.port)) o.second (dest_of o to port))

in_operands : (c : Build) → In c → (place from : ℕ) (ss : List Source) → place < length c.instrs → In (operands c place from ss)
in_operands c h place from [] l = h
in_operands c h place from (s ∷ ss) l =
    let e = connected_long c (outlet_of c s) place (side from) in
    in_operands (connected c (outlet_of c s) place (side from)) (in_connected c h (outlet_of c s) place (side from) l) place (from + 1) ss (omega (arith, e, l))

in_alternatives : (c : Build) → In c → (place : ℕ) (ss : List Source) → place < length c.instrs → In (alternatives c place ss)
in_alternatives c h place [] l = h
in_alternatives c h place (s ∷ ss) l =
    let e = connected_long c (outlet_of c s) place Left in
    in_alternatives (connected c (outlet_of c s) place Left) (in_connected c h (outlet_of c s) place Left l) place ss (omega (arith, e, l))

in_copies : (b : Build) → In b → (r : Region) (n : ℕ) → In (copies b r n)
in_copies b h r zero = h
in_copies b h r (suc n) = in_added (copies b r n) (weaker (copies b r n) (in_copies b h r n)) Op.Copy Untold Unmarked r

-- CALLS. The landing of no results is past the code so far.
in_sends : (b : Build) → In b → (frame : Outlet) (f : ℕ) (r : Region) (from : ℕ) (ss : List Source) → In (Schemas.sends b frame f r from ss)
in_sends b h frame f r from [] = h
in_sends b h frame f r from (s ∷ ss) = in_sends (meeting b (Op.Send f (from + 1)) Unmarked r frame (outlet_of b s))
    (in_meeting b h (Op.Send f (from + 1)) Unmarked r frame (outlet_of b s)) frame f r (from + 1) ss

weak_landed : (b : Build) → In b → (link outputs : ℕ) (r : Region) → Weak (Schemas.landed b link outputs r)
weak_landed b h link outputs r =
    let d = copies b r outputs in
    let e = connected_long d (first_of link) (length b.instrs) Left in
    let g = (grows_copies b r outputs).instrs in
    inside_more (length d.instrs + 1) (length (Schemas.landed b link outputs r).instrs + 1) (omega (arith, e)) (Schemas.landed b link outputs r)
    (inside_connected (length d.instrs + 1) d (omega arith) (weaker d (in_copies b h r outputs)) (first_of link) (length b.instrs) Left (omega (arith, g)))

weak_linked : (b : Build) → In b → (copy f outputs : ℕ) (r : Region) (ss : List Source) → Weak (Schemas.linked b copy f outputs r ss)
weak_linked b h copy f outputs r ss =
    let d = behind b (first_of copy) (Op.Link f) r in
    weak_landed (Schemas.sends d (first_of copy) f r 0 ss)
    (in_sends d (in_behind b (weaker b h) (first_of copy) (Op.Link f) r) (first_of copy) f r 0 ss) (length b.instrs) outputs r

weak_invoke : (b : Build) → In b → (frame f outputs : ℕ) (r : Region) (ss : List Source) → Weak (Schemas.invoke b frame f outputs r ss)
weak_invoke b h frame f outputs r ss =
    weak_linked (behind b (first_of frame) Op.Copy r) (in_behind b (weaker b h) (first_of frame) Op.Copy r) (length b.instrs) f outputs r ss

in_called : (b : Build) → In b → (signal : Outlet) (f outputs : ℕ) (r : Region) (ss : List Source) → In (Schemas.called b signal f outputs r ss)
unfolding Schemas.called
in_called b h signal f outputs r ss =
    let d = behind b signal Op.Frame r in
    let e = Schemas.invoke d (length b.instrs) f outputs r ss in
    in_added e (weak_invoke d (in_behind b (weaker b h) signal Op.Frame r) (length b.instrs) f outputs r ss) Op.Copy Untold Unmarked r

in_joins : (b : Build) → In b → (signal : Outlet) (r : Region) (ss : List Source) → In (Schemas.join_sources b signal r ss).build
in_joins b h signal r [] = h
in_joins b h signal r (s ∷ ss) = in_joins (meeting b Op.Sync Unmarked r signal (outlet_of b s)) (in_meeting b h Op.Sync Unmarked r signal (outlet_of b s))
    (first_of (length b.instrs)) r ss

in_loop : (b : Build) → In b → (r : Region) (f bound : ℕ) (ss : List Source) → In (Schemas.repeat b f bound r ss)
in_loop b h r f bound ss =
    let c = behind b (trigger_of b r) (Op.Open bound) r in
    let d = behind c (first_of (length b.instrs)) Op.Frame r in
    let e = Schemas.invoke d (length c.instrs) f (length ss) r ss in
    let g = quieted e (Op.Give bound) r in
    let t = quieted g (Op.Take bound) r in
    let q = quieted t (Op.Drain bound) r in
    let z = behind q (first_of (length e.instrs)) Op.Copy r in
    let hc = in_behind b (weaker b h) (trigger_of b r) (Op.Open bound) r in
    let hd = in_behind c (weaker c hc) (first_of (length b.instrs)) Op.Frame r in
    let hg = in_added e (weak_invoke d hd (length c.instrs) f (length ss) r ss) (Op.Give bound) Untold Unmarked r in
    let ht = in_added g (weaker g hg) (Op.Take bound) Untold Unmarked r in
    let hq = in_added t (weaker t ht) (Op.Drain bound) Untold Unmarked r in
    let long = (grows_behind q (first_of (length e.instrs)) Op.Copy r).instrs in
    in_connected z (in_behind q (weaker q hq) (first_of (length e.instrs)) Op.Copy r) (first_of (length t.instrs)) (length q.instrs) Left (omega (arith, long))

-- NODES
in_operator : (b : Build) → In b → (op : Op) (origin : Origin) (r : Region) (ss : List Source) → In (Schemas.operator b op origin r ss)
in_operator b h op origin r ss = in_operands (added b op origin Unmarked r) (in_added b (weaker b h) op origin Unmarked r) (length b.instrs) 0 ss
    (let e = (grows_added b op origin Unmarked r).instrs in omega (arith, e))

in_answered : (b : Build) → In b → (op : Op) (origin : Origin) (r : Region) (ss : List Source) (t : Bool)
    → In (if t then Schemas.shared_answer b op origin r ss else Schemas.operator b op origin r ss)
in_answered b h op origin r ss true =
    let c = operands (added b op origin Unmarked r) (length b.instrs) 0 ss in
    in_behind c (weaker c (in_operator b h op origin r ss)) (first_of (length b.instrs)) Op.Copy r
in_answered b h op origin r ss false = in_operator b h op origin r ss

in_conditional : (b : Build) → In b → (n : ℕ) (r : Region) (ss : List Source) (t : Bool) → In (Schemas.conditional b t n r ss)
in_conditional b h n r ss true = in_meeting b h Op.Switch (OfCond n) r (outlet_of b (first_source ss)) (outlet_of b (first_source ss))
in_conditional b h n r ss false = h

in_entered : (b : Build) → In b → (s : Scope) (r : Region) (ss : List Source) → In (entered b s r ss)
in_entered b h s Root ss = h
in_entered b h s (Arm k t) ss = in_meeting b h Op.Switch (OfCond k) (Arm k t) (outlet_of b (first_source ss)) (outlet_of b (predicate_of s.block k))

in_strict : (b : Build) → In b → (f outputs : ℕ) (r : Region) (ss : List Source) → In (Schemas.strict_call b f outputs r ss)
in_strict b h f outputs r [] = h
in_strict b h f outputs r (s ∷ ss) =
    let j = Schemas.join_sources b (outlet_of b s) r ss in
    in_called j.build (in_joins b h (outlet_of b s) r ss) j.signal f outputs r (s ∷ ss)

in_kind : (b : Build) → In b → (s : Scope) (n : ℕ) (k : Kind ℕ) (r : Region) (ss : List Source) → In (with_kind b s n k r ss)
unfolding with_kind repeated
in_kind b h s n (Kind.Lit z) r ss = in_operator b h (Op.Lit z) (origin_in s.version (Some s.number) n) r ss
in_kind b h s n (Kind.Apply1 op) r ss = in_operator b h (Op.Apply1 op) (origin_in s.version (Some s.number) n) r ss
in_kind b h s n (Kind.Apply2 op) r ss = in_operator b h (Op.Apply2 op) (origin_in s.version (Some s.number) n) r ss
in_kind b h s n Kind.Cond r ss = in_conditional b h n r ss (has_trigger s.triggers n)
in_kind b h s n Kind.Enter r ss = in_entered b h s r ss
in_kind b h s n (Kind.Merge k) r ss = in_alternatives (quieted b Op.Copy r) (in_added b (weaker b h) Op.Copy Untold Unmarked r) (length b.instrs) ss
    (let e = (grows_added b Op.Copy Untold Unmarked r).instrs in omega (arith, e))
in_kind b h s n (Kind.Fetch a) r ss = in_answered b h (Op.Fetch a) (origin_in s.version (Some s.number) n) r ss (is_often (uses_at s.uses n))
in_kind b h s n (Kind.Store a) r ss = in_answered b h (Op.Store a) (origin_in s.version (Some s.number) n) r ss (is_often (uses_at s.uses n))
in_kind b h s n (Kind.Call f) r ss = in_called b h (trigger_of b r) f (outputs_of s.blocks f) r ss
in_kind b h s n (Kind.StrictCall f) r ss = in_strict b h f (outputs_of s.blocks f) r ss
in_kind b h s n (Kind.Loop f k) r ss = in_loop b h r (variant_of s.variants f) k ss

in_nodes : (s : Scope) (n : ℕ) (xs : List (Node ℕ)) (b : Build) → In b → In (with_nodes b s n xs)
unfolding with_nodes
in_nodes s n [] b h = h
in_nodes s n (x ∷ xs) b h = in_nodes s (n + 1) xs (with_node b s n x) (in_kind b h s n x.kind x.region x.sources)

in_inputs : (s : Scope) (b : Build) → In b → (n : ℕ) → In (with_inputs b s n)
in_inputs s b h zero = h
in_inputs s b h (suc n) =
    let c = with_inputs b s n in
    in_added c (weaker c (in_inputs s b h n)) Op.Copy (origin_in s.version (Some s.number) n) Unmarked Root

in_nothing : Weak nothing
in_nothing n = (tt, tt)

pub in_body : (s : Scope) → In (body s)
unfolding entries
in_body s = in_nodes s s.block.inputs s.block.nodes (entries s)
    (in_inputs s (quieted nothing Op.Copy Root) (in_added nothing in_nothing Op.Copy Untold Unmarked Root) s.block.inputs)

pub in_returns : (b : Build) → In b → (from : ℕ) (ss : List Source) → In (returns b from ss)
in_returns b h from [] = h
in_returns b h from (s ∷ ss) = in_returns (meeting b (Op.Return from) Unmarked Root (first_of 0) (outlet_of b s))
    (in_meeting b h (Op.Return from) Unmarked Root (first_of 0) (outlet_of b s)) (from + 1) ss

-- THE TURN
in_switches : (b : Build) → In b → (flag : Outlet) (ss : List Source) → In (switches b flag ss)
in_switches b h flag [] = h
in_switches b h flag (s ∷ ss) = in_switches (meeting b Op.Switch OfFlag Root (outlet_of b s) flag) (in_meeting b h Op.Switch OfFlag Root (outlet_of b s) flag) flag ss

in_turning : (b : Build) → In b → (flag : Outlet) (ss : List Source) → In (turning b flag ss)
unfolding turning
in_turning b h flag ss =
    let c = turned_continuation b flag in
    in_switches (turned_flag b flag) (in_meeting c (in_meeting b h Op.Switch OfFlag Root (first_of 0) flag) Op.Switch OfFlag Root flag flag) flag ss

in_next : (b : Build) → In b → (f : ℕ) (r : Region) (frame : Outlet) (values n : ℕ) → In (next_values b f r frame values n)
in_next b h f r frame values zero = h
in_next b h f r frame values (suc n) =
    in_meeting (next_values b f r frame values n) (in_next b h f r frame values n) (Op.Send f (n + 1)) Unmarked r frame (outlet values n false)

in_last : (b : Build) → In b → (r : Region) (continuation : Outlet) (values n : ℕ) → In (last_values b r continuation values n)
in_last b h r continuation values zero = h
in_last b h r continuation values (suc n) =
    in_meeting (last_values b r continuation values n) (in_last b h r continuation values n) (Op.Return n) Unmarked r continuation (outlet values n true)

in_go_on : (b : Build) → In b → (f : ℕ) (r : Region) (t : Turn) → In (go_on b f r t)
unfolding go_on
in_go_on b h f r t =
    let b2 = meeting b (Op.Ask (t.count + 1)) Unmarked Root (first_of t.continuation) (first_of t.flag) in
    let b3 = behind b2 (first_of (length b.instrs)) Op.Frame Root in
    let b4 = behind b3 (first_of (length b2.instrs)) Op.Copy Root in
    let b5 = meeting b4 (Op.Send f 0) Unmarked r (first_of (length b3.instrs)) (first_of t.continuation) in
    let h2 = in_meeting b h (Op.Ask (t.count + 1)) Unmarked Root (first_of t.continuation) (first_of t.flag) in
    let h3 = in_behind b2 (weaker b2 h2) (first_of (length b.instrs)) Op.Frame Root in
    let h4 = in_behind b3 (weaker b3 h3) (first_of (length b2.instrs)) Op.Copy Root in
    in_next b5 (in_meeting b4 h4 (Op.Send f 0) Unmarked r (first_of (length b3.instrs)) (first_of t.continuation)) f r (first_of (length b3.instrs)) t.values t.count

in_stop : (b : Build) → In b → (r : Region) (t : Turn) → In (stop b r t)
unfolding stop
in_stop b h r t = in_meeting (last_values b r (second_of t.continuation) t.values t.count) (in_last b h r (second_of t.continuation) t.values t.count)
    (Op.Return (t.count + 2)) Unmarked r (second_of t.continuation) (second_of t.flag)

pub in_iterate : (b : Build) → In b → (f k : ℕ) (ss : List Source) → In (iterate b f k ss)
in_iterate b h f k [] = h
in_iterate b h f k (s ∷ ss) =
    let t = turn_of b (outlet_of b s) (length ss) in
    let c = turning b (outlet_of b s) ss in
    in_stop (go_on c f (Arm k true) t) (in_go_on c (in_turning b h (outlet_of b s) ss) f (Arm k true) t) (Arm k false) t
