-- The joins of a block's ends: as many as the regions of the ends say, and they change nothing of what an instruction before them
-- has for destinations before them.
use Rattle.std.proofs.Common.{◌≡◌, ℕ, ◌+◌, ◌-◌, ◌<◌, ◌≤◌, Bool, true, false, List, [], ◌∷◌, ◌++◌, length, map, replicate, refl, sym, ap, subst, ◌∙◌, arith, Option, Some, None}
use Rattle.std.proofs.Common.{eqb, eqb-true, length-set, get_or-set_same, get_or-set_other}
use Rattle.std.specs.Prelude.{if◌then◌else◌, nat_lt}
use Rattle.std.proofs.lemmas.List.{append_assoc, append-nil, length-append, length-replicate, get_or_append_left}
use Rattle.std.proofs.lemmas.Bool.{eqb-false, le-ltb, lt-ltb, ltb-true, ltb-false}
use Rattle.std.proofs.lemmas.List.{replicate-append-replicate}
use Rattle.lemmas.proofs.Lists.{map_append}
use Rattle.tags.specs.declared.value.Origin.{Origin}
use Rattle.tags.specs.declared.value.Origin.TheVariants.{Untold}
use Rattle.tags.specs.declared.token.Port.{Port}
use Rattle.tags.specs.declared.token.Port.TheVariants.{Left, Right}
use Rattle.semantics.specs.declared.graph.Region.{Region}
use Rattle.semantics.specs.declared.graph.Region.TheVariants.{Root, Arm}
use Rattle.semantics.specs.declared.program.Dest.{Dest}
use Rattle.semantics.specs.declared.program.Mark.{Mark}
use Rattle.semantics.specs.declared.program.Mark.TheVariants.{Unmarked}
use Rattle.semantics.specs.declared.program.Op.{Op}
use Rattle.semantics.specs.Program.{Instr}
use Rattle.semantics.specs.declared.graph.Kind.{Kind}
use Rattle.semantics.specs.Graph.{Node, Block}
use Rattle.schemas.specs.Builds.{nowhere, Build, added, quieted, connected, behind, meeting, first_of, no_instr, with_dest, dest_of, bare, slot_in}
use Rattle.schemas.specs.Ends.{Signalled, Closing, closing, end_at, same_region, join_ends, signalled, copied, ended, closed, closed_kind, closed_nodes, released}
use Rattle.schemas.specs.Blocks.{finished}
use Rattle.code_map.specs.Ends.{all_behind}
use Rattle.code_map.specs.declared.part.Part.{Part}
use Rattle.code_map.specs.Parts.{filled, join_parts, finished_parts}
use Rattle.code_map.specs.Laws.{JoinsHaveOwners}
use Rattle.code_map.specs.Joins as Joins
use Rattle.code_map.specs.Joins.{Joined, ends_in, closed_parts}
use Rattle.code_map.proofs.Inside.{at}
use Rattle.code_map.proofs.Lengths.{Outlet, grows_added, grows_behind, grows_meeting, type_of}

-- an end of a region
abbrev pub End : Type 0
End = type_of (end_at Root nowhere)

-- An instruction at a place that sends to the same places before a limit
pub record Like (limit n : ℕ) (i j : Instr) : Type 0 where
  pub op : j.op ≡ i.op
  pub firsts : all_behind limit n j.firsts ≡ all_behind limit n i.firsts
  pub seconds : all_behind limit n j.seconds ≡ all_behind limit n i.seconds

-- A build with more instructions, where those before a limit do
pub record Later (limit : ℕ) (b c : Build) : Type 0 where
  pub long : length b.instrs ≤ length c.instrs
  pub like : (n : ℕ) → n < limit → Like limit n (at b n) (at c n)
  pub marks : (ms : List Mark) × (c.marks ≡ b.marks ++ ms)

pub later_none : (limit : ℕ) (b : Build) → Later limit b b
later_none limit b = record { long = omega arith; like = λ n l. record { op = refl; firsts = refl; seconds = refl }; marks = ([], sym (append-nil b.marks)) }

pub later_then : (limit : ℕ) (b c d : Build) → Later limit b c → Later limit c d → Later limit b d
later_then limit b c d x y = record {
  long = let p = x.long in let q = y.long in omega (arith, p, q);
  like = λ n l. let i = x.like n l in let j = y.like n l in record { op = j.op ∙ i.op; firsts = j.firsts ∙ i.firsts; seconds = j.seconds ∙ i.seconds };
  marks = (x.marks.0 ++ y.marks.0, y.marks.1 ∙ ap (λ ms. ms ++ y.marks.0) x.marks.1 ∙ append_assoc b.marks x.marks.0 y.marks.0);
}

pub later_added : (limit : ℕ) (b : Build) → limit ≤ length b.instrs → (op : Op) (origin : Origin) (mark : Mark) (r : Region)
    → Later limit b (added b op origin mark r)
later_added limit b low op origin mark r = record {
  long = let e = length-append b.instrs (bare op origin (slot_in b op) ∷ []) in omega (arith, e);
  like = λ n l.
      let e : at (added b op origin mark r) n ≡ at b n = get_or_append_left b.instrs (bare op origin (slot_in b op) ∷ []) no_instr n (omega (arith, l, low)) in
      record { op = ap (λ i. i.op) e; firsts = ap (λ i. all_behind limit n i.firsts) e; seconds = ap (λ i. all_behind limit n i.seconds) e };
  marks = (mark ∷ [], refl);
}

-- a destination more, at the limit or behind it
behind_more : (limit n : ℕ) (ds : List Dest) (d : Dest) → nat_lt d.ahead (limit - n) ≡ false → all_behind limit n (ds ++ d ∷ []) ≡ all_behind limit n ds
behind_more limit n [] d e = ap (λ t. if t then false else true) e
behind_more limit n (x ∷ ds) d e = ap (λ t. if nat_lt x.ahead (limit - n) then false else t) (behind_more limit n ds d e)

like_more : (limit n : ℕ) (i : Instr) (second : Bool) (d : Dest) → nat_lt d.ahead (limit - n) ≡ false → Like limit n i (with_dest i second d)
like_more limit n i true d e = record { op = refl; firsts = refl; seconds = behind_more limit n i.seconds d e }
like_more limit n i false d e = record { op = refl; firsts = behind_more limit n i.firsts d e; seconds = refl }

pub later_connected : (limit : ℕ) (b : Build) → limit ≤ length b.instrs → (o : Outlet) (to : ℕ) (port : Port) → limit ≤ to
    → Later limit b (connected b o to port)
later_connected limit b low o to port far = record {
  long = let e = length-set b.instrs place changed in omega (arith, e);
  like = λ n l. go n l (eqb n place) refl;
  marks = ([], sym (append-nil b.marks));
}
  where
    place : ℕ
    place = o.place + o.port

    changed : Instr
    changed = with_dest (at b place) o.second (dest_of o to port)

    ahead_far : nat_lt (dest_of o to port).ahead (limit - place) ≡ false
    ahead_far = le-ltb ((to - o.place) - o.port) (limit - (o.place + o.port)) (omega (arith, far))

    go : (n : ℕ) → n < limit → (t : Bool) → eqb n place ≡ t → Like limit n (at b n) (at (connected b o to port) n)
    go n l true e =
        let same : n ≡ place = eqb-true n place e in
        let there : at (connected b o to port) place ≡ changed = get_or-set_same b.instrs place changed no_instr (omega (arith, l, low, same)) in
        subst (λ m. Like limit m (at b m) (at (connected b o to port) m)) (sym same)
        (subst (λ j. Like limit place (at b place) j) (sym there) (like_more limit place (at b place) o.second (dest_of o to port) ahead_far))
    go n l false e =
        let there : at (connected b o to port) n ≡ at b n = get_or-set_other b.instrs place n changed no_instr (eqb-false n place e) in
        record { op = ap (λ i. i.op) there; firsts = ap (λ i. all_behind limit n i.firsts) there; seconds = ap (λ i. all_behind limit n i.seconds) there }

pub later_meeting : (limit : ℕ) (b : Build) → limit ≤ length b.instrs → (op : Op) (mark : Mark) (r : Region) (left right : Outlet)
    → Later limit b (meeting b op mark r left right)
later_meeting limit b low op mark r left right =
    let c = added b op Untold mark r in
    let d = connected c left (length b.instrs) Left in
    let x = later_added limit b low op Untold mark r in
    let y = later_connected limit c (let p = x.long in omega (arith, p, low)) left (length b.instrs) Left low in
    let z = later_connected limit d (let p = x.long in let q = y.long in omega (arith, p, q, low)) right (length b.instrs) Right low in
    later_then limit b d (meeting b op mark r left right) (later_then limit b c d x y) z

-- JOINS
abbrev pub is_some : Option Outlet → Bool
is_some None = false
is_some (Some o) = true

abbrev pub regions : List End → List Region
regions es = map (λ e. e.region) es

-- what the joins of so many ends are
pub record IsJoined (limit : ℕ) (b : Build) (s : Signalled) (count : ℕ) (some : Bool) : Type 0 where
  pub long : length s.build.instrs ≡ length b.instrs + count
  pub signal : is_some s.signal ≡ some
  pub later : Later limit b s.build

abbrev picked : Bool → Signalled → Signalled → Signalled
picked t x y = if t then x else y

module _ (limit : ℕ) (r : Region) where
  joins_some : (b : Build) → limit ≤ length b.instrs → (o : Outlet) (es : List End)
      → IsJoined limit b (join_ends b (Some o) r es) (ends_in r (regions es)) true
  unfolding join_ends
  joins_some b low o [] = record { long = omega arith; signal = refl; later = later_none limit b }
  joins_some b low o (e ∷ es) = go (same_region e.region r) (λ c l q. joins_some c l q es)
    where
      c : Build
      c = meeting b Op.Sync Unmarked r o e.outlet

      go : (t : Bool)
          → ((d : Build) → limit ≤ length d.instrs → (q : Outlet) → IsJoined limit d (join_ends d (Some q) r es) (ends_in r (regions es)) true)
          → IsJoined limit b (join_ends (picked t (record { build = c; signal = Some (first_of (length b.instrs)) }) (record { build = b; signal = Some o })).build
          (picked t (record { build = c; signal = Some (first_of (length b.instrs)) }) (record { build = b; signal = Some o })).signal r es)
          (if t then ends_in r (regions es) + 1 else ends_in r (regions es)) true
      go true rest =
          let x = later_meeting limit b low Op.Sync Unmarked r o e.outlet in
          let one : length c.instrs ≡ length b.instrs + 1 = (grows_meeting b Op.Sync Unmarked r o e.outlet).instrs in
          let y = rest c (let p = x.long in omega (arith, p, low)) (first_of (length b.instrs)) in
          record { long = let p = y.long in omega (arith, p, one); signal = y.signal; later = later_then limit b c (join_ends c (Some (first_of (length b.instrs))) r es).build x y.later }
      go false rest = rest b low o

  pub joins_all : (b : Build) → limit ≤ length b.instrs → (es : List End)
      → IsJoined limit b (join_ends b None r es) (ends_in r (regions es) - 1) (nat_lt 0 (ends_in r (regions es)))
  unfolding join_ends
  joins_all b low [] = record { long = omega arith; signal = refl; later = later_none limit b }
  joins_all b low (e ∷ es) = go (same_region e.region r) (joins_all b low es)
    where
      go : (t : Bool)
          → IsJoined limit b (join_ends b None r es) (ends_in r (regions es) - 1) (nat_lt 0 (ends_in r (regions es)))
          → IsJoined limit b (join_ends (picked t (record { build = b; signal = Some e.outlet }) (record { build = b; signal = None })).build
          (picked t (record { build = b; signal = Some e.outlet }) (record { build = b; signal = None })).signal r es)
          ((if t then ends_in r (regions es) + 1 else ends_in r (regions es)) - 1) (nat_lt 0 (if t then ends_in r (regions es) + 1 else ends_in r (regions es)))
      go true rest =
          let y = joins_some b low e.outlet es in
          let n = ends_in r (regions es) in
          record { long = let p = y.long in omega (arith, p); signal = y.signal ∙ sym (lt-ltb 0 (n + 1) (omega arith)); later = y.later }
      go false rest = rest

-- CONDITIONALS
-- the copy in which a conditional ends
record IsEnded (limit : ℕ) (b : Build) (es : List End) (region : Region) (z : Closing) (some : Bool) : Type 0 where
  ends : regions z.ends ≡ (if some then regions es ++ region ∷ [] else regions es)
  long : length z.build.instrs ≡ length b.instrs + (if some then 1 else 0)
  later : Later limit b z.build

pub later_signalled : (limit : ℕ) (b : Build) → limit ≤ length b.instrs → (o : Option Outlet) (to : ℕ) (port : Port) → limit ≤ to → Later limit b (signalled b o to port)
later_signalled limit b low None to port far = later_none limit b
later_signalled limit b low (Some o) to port far = later_connected limit b low o to port far

signalled_length : (b : Build) (o : Option Outlet) (to : ℕ) (port : Port) → length (signalled b o to port).instrs ≡ length b.instrs
signalled_length b None to port = refl
signalled_length b (Some o) to port = length-set b.instrs (o.place + o.port) _

module _ (limit : ℕ) (b : Build) (low : limit ≤ length b.instrs) (es : List End) (region : Region) where
  is_copied : (f s : Option Outlet) → IsEnded limit b es region (copied b f s es region) true
  is_copied f s =
      let c = quieted b Op.Copy region in
      let d = signalled c f (length b.instrs) Left in
      let x = later_added limit b low Op.Copy Untold Unmarked region in
      let one : length c.instrs ≡ length b.instrs + 1 = (grows_added b Op.Copy Untold Unmarked region).instrs in
      let two = signalled_length c f (length b.instrs) Left in
      let three = signalled_length d s (length b.instrs) Left in
      let y = later_signalled limit c (omega (arith, one, low)) f (length b.instrs) Left low in
      let z = later_signalled limit d (omega (arith, one, two, low)) s (length b.instrs) Left low in
      record {
        ends = map_append (λ e. e.region) es (end_at region (first_of (length b.instrs)) ∷ []);
        long = three ∙ two ∙ one;
        later = later_then limit b d (signalled d s (length b.instrs) Left) (later_then limit b c d x y) z;
      }

  is_ended : (f s : Option Outlet) (on off : ℕ) → is_some f ≡ nat_lt 0 on → is_some s ≡ nat_lt 0 off
      → IsEnded limit b es region (ended b f s es region) (nat_lt 0 (on + off))
  is_ended None None on off x y =
      let p = ltb-false 0 on (sym x) in
      let q = ltb-false 0 off (sym y) in
      subst (IsEnded limit b es region (closing b es)) (sym (le-ltb 0 (on + off) (omega (arith, p, q))))
      (record { ends = refl; long = omega arith; later = later_none limit b })
  is_ended None (Some o) on off x y =
      let q = ltb-true 0 off (sym y) in
      subst (IsEnded limit b es region (copied b None (Some o) es region)) (sym (lt-ltb 0 (on + off) (omega (arith, q)))) (is_copied None (Some o))
  is_ended (Some o) s on off x y =
      let p = ltb-true 0 on (sym x) in
      subst (IsEnded limit b es region (copied b (Some o) s es region)) (sym (lt-ltb 0 (on + off) (omega (arith, p)))) (is_copied (Some o) s)

-- What is joined so far is what is counted.
pub record Matches (limit : ℕ) (b : Build) (c : Closing) (j : Joined) (ps : List Part) : Type 0 where
  pub ends : regions c.ends ≡ j.ends
  pub parts : j.parts ≡ ps
  pub long : length c.build.instrs ≡ length ps
  pub later : Later limit b c.build

none_more : (k : ℕ) → k ≡ k + 0
none_more k = omega arith

parts_more : (ps : List Part) (m n : ℕ) (some : Bool) (p : Part)
    → (ps ++ replicate m p) ++ replicate n p ++ (if some then p ∷ [] else []) ≡ ps ++ replicate (m + n + (if some then 1 else 0)) p
parts_more ps m n true p =
    ap (λ qs. qs ++ p ∷ []) (append_assoc ps (replicate m p) (replicate n p) ∙ ap (λ qs. ps ++ qs) (replicate-append-replicate m n p))
    ∙ append_assoc ps (replicate (m + n) p) (replicate 1 p) ∙ ap (λ qs. ps ++ qs) (replicate-append-replicate (m + n) 1 p)
parts_more ps m n false p =
    append-nil ((ps ++ replicate m p) ++ replicate n p) ∙ append_assoc ps (replicate m p) (replicate n p) ∙ ap (λ qs. ps ++ qs) (replicate-append-replicate m n p)
    ∙ ap (λ k. ps ++ replicate k p) (none_more (m + n))

assoc : (l a b c : ℕ) → l + a + b + c ≡ l + (a + b + c)
assoc l a b c = omega arith

filled_by : (ps : List Part) (c : Build) (k : ℕ) (p : Part) → length c.instrs ≡ length ps + k → filled ps c p ≡ ps ++ replicate k p
filled_by ps c k p e = ap (λ n. ps ++ replicate n p) (omega (arith, e))

filled_length : (ps : List Part) (c : Build) (k : ℕ) (p : Part) → length c.instrs ≡ length ps + k → length c.instrs ≡ length (filled ps c p)
filled_length ps c k p e = e ∙ sym (ap length (filled_by ps c k p e) ∙ length-append ps (replicate k p) ∙ ap (λ n. length ps + n) (length-replicate k p))

module _ (limit : ℕ) (b : Build) (low : limit ≤ length b.instrs) where
  pub matches_closed : (c : Closing) (j : Joined) (ps : List Part) → Matches limit b c j ps → (k : ℕ) (region : Region) (p : Part)
      → Matches limit b (closed c.build c.ends k region) (Joins.closed j k region p) (filled ps (closed c.build c.ends k region).build p)
  unfolding closed
  matches_closed c j ps m k region p =
      let es = regions c.ends in
      let on = ends_in (Arm k true) es in
      let off = ends_in (Arm k false) es in
      let s1 = join_ends c.build None (Arm k true) c.ends in
      let s2 = join_ends s1.build None (Arm k false) c.ends in
      let z = ended s2.build s1.signal s2.signal c.ends region in
      let some = nat_lt 0 (on + off) in
      let x1 = joins_all limit (Arm k true) c.build (let l = m.later.long in omega (arith, l, low)) c.ends in
      let x2 = joins_all limit (Arm k false) s1.build (let l = m.later.long in let q = x1.later.long in omega (arith, l, q, low)) c.ends in
      let x3 = is_ended limit s2.build (let l = m.later.long in let q = x1.later.long in let r = x2.later.long in omega (arith, l, q, r, low)) c.ends region s1.signal
      s2.signal on off x1.signal x2.signal in
      let more = on - 1 + (off - 1) + (if some then 1 else 0) in
      let long : length z.build.instrs ≡ length ps + more = x3.long ∙ ap (λ n. n + (if some then 1 else 0)) (x2.long ∙ ap (λ n. n + (off - 1)) x1.long)
      ∙ ap (λ n. n + (on - 1) + (off - 1) + (if some then 1 else 0)) m.long ∙ assoc (length ps) (on - 1) (off - 1) (if some then 1 else 0) in
      record {
        ends = x3.ends ∙ ap (λ rs. if nat_lt 0 (ends_in (Arm k true) rs + ends_in (Arm k false) rs) then rs ++ region ∷ [] else rs) m.ends;
        parts = ap (λ rs. closed_parts j.parts (ends_in (Arm k true) rs) (ends_in (Arm k false) rs) (nat_lt 0 (ends_in (Arm k true) rs + ends_in (Arm k false) rs)) p)
            (sym m.ends)
            ∙ ap (λ qs. closed_parts qs on off some p) m.parts ∙ parts_more ps (on - 1) (off - 1) some p ∙ sym (filled_by ps z.build more p long);
        long = filled_length ps z.build more p long;
        later = later_then limit b c.build z.build m.later
            (later_then limit c.build s2.build z.build (later_then limit c.build s1.build s2.build x1.later x2.later) x3.later);
      }

  none_filled : (c : Closing) (j : Joined) (ps : List Part) → Matches limit b c j ps → (p : Part) → ps ≡ filled ps c.build p
  none_filled c j ps m p = sym (filled_by ps c.build 0 p (m.long ∙ omega arith) ∙ append-nil ps)

  kept : (c : Closing) (j : Joined) (ps : List Part) → Matches limit b c j ps → (p : Part) → Matches limit b c j (filled ps c.build p)
  kept c j ps m p = subst (Matches limit b c j) (none_filled c j ps m p) m

  matches_kind : (c : Closing) (j : Joined) (ps : List Part) → Matches limit b c j ps → (n : ℕ) (kind : Kind ℕ) (region : Region)
      → Matches limit b (closed_kind c n kind region) (Joins.closed_kind j n kind region) (filled ps (closed_kind c n kind region).build (Part.Joins n))
  matches_kind c j ps m n Kind.Cond region = matches_closed c j ps m n region (Part.Joins n)
  matches_kind c j ps m n (Kind.Lit z) region = kept c j ps m (Part.Joins n)
  matches_kind c j ps m n (Kind.Apply1 op) region = kept c j ps m (Part.Joins n)
  matches_kind c j ps m n (Kind.Apply2 op) region = kept c j ps m (Part.Joins n)
  matches_kind c j ps m n Kind.Enter region = kept c j ps m (Part.Joins n)
  matches_kind c j ps m n (Kind.Merge k) region = kept c j ps m (Part.Joins n)
  matches_kind c j ps m n (Kind.Fetch a) region = kept c j ps m (Part.Joins n)
  matches_kind c j ps m n (Kind.Store a) region = kept c j ps m (Part.Joins n)
  matches_kind c j ps m n (Kind.Call f) region = kept c j ps m (Part.Joins n)
  matches_kind c j ps m n (Kind.StrictCall f) region = kept c j ps m (Part.Joins n)
  matches_kind c j ps m n (Kind.Loop f k) region = kept c j ps m (Part.Joins n)

  pub matches_nodes : (c : Closing) (j : Joined) (ps : List Part) → Matches limit b c j ps → (n : ℕ) (nodes : List (Node ℕ))
      → Matches limit b (closed_nodes c n nodes) (Joins.closed_nodes j n nodes) (join_parts ps c n nodes)
  unfolding closed_nodes
  matches_nodes c j ps m n [] = m
  matches_nodes c j ps m n (node ∷ nodes) = matches_kind (closed_nodes c (n + 1) nodes) (Joins.closed_nodes j (n + 1) nodes) (join_parts ps c (n + 1) nodes)
      (matches_nodes c j ps m (n + 1) nodes) n node.kind node.region

  -- THE RELEASE
  release_grows : (c : Closing) (j : Joined) (ps : List Part) → Matches limit b c j ps → (offset : ℕ)
      → length (released c.build c.ends offset).instrs ≡ length ps + (ends_in Root (regions c.ends) - 1 + 1)
  unfolding released
  release_grows c j ps m offset =
      let n = ends_in Root (regions c.ends) in
      let s = join_ends c.build None Root c.ends in
      let x = joins_all limit Root c.build (let l = m.later.long in omega (arith, l, low)) c.ends in
      let d = behind s.build (first_of 0) (Op.Release offset) Root in
      let one = (grows_behind s.build (first_of 0) (Op.Release offset) Root).instrs in
      let two = signalled_length d s.signal (length s.build.instrs) Right in
      two ∙ one ∙ ap (λ k. k + 1) (x.long ∙ ap (λ k. k + (n - 1)) m.long) ∙ omega arith

  pub matches_released : (c : Closing) (j : Joined) (ps : List Part) → Matches limit b c j ps → (offset : ℕ)
      → (Joins.released j).parts ≡ filled ps (released c.build c.ends offset) Part.Release
  matches_released c j ps m offset =
      let n = ends_in Root (regions c.ends) in
      ap (λ qs. (j.parts ++ replicate (ends_in Root qs - 1) Part.Release) ++ Part.Release ∷ []) (sym m.ends)
      ∙ ap (λ qs. (qs ++ replicate (n - 1) Part.Release) ++ Part.Release ∷ []) m.parts
      ∙ append_assoc ps (replicate (n - 1) Part.Release) (replicate 1 Part.Release)
      ∙ ap (λ qs. ps ++ qs) (replicate-append-replicate (n - 1) 1 Part.Release)
      ∙ sym (filled_by ps (released c.build c.ends offset) (n - 1 + 1) Part.Release (release_grows c j ps m offset))

  pub matches_finished : (c : Closing) (j : Joined) (ps : List Part) → Matches limit b c j ps → (block : Block ℕ) (offset : ℕ)
      → (Joins.released (Joins.closed_nodes j block.inputs block.nodes)).parts ≡ finished_parts ps c block offset
  unfolding finished
  matches_finished c j ps m block offset = matches_released (closed_nodes c block.inputs block.nodes) (Joins.closed_nodes j block.inputs block.nodes)
      (join_parts ps c block.inputs block.nodes) (matches_nodes c j ps m block.inputs block.nodes) offset

  -- as many parts as instructions
  pub finished_long : (c : Closing) (j : Joined) (ps : List Part) → Matches limit b c j ps → (block : Block ℕ) (offset : ℕ)
      → length (finished_parts ps c block offset) ≡ length (finished c block offset).instrs
  unfolding finished
  finished_long c j ps m block offset =
      let d = closed_nodes c block.inputs block.nodes in
      let qs = join_parts ps c block.inputs block.nodes in
      let k = Joins.closed_nodes j block.inputs block.nodes in
      sym (filled_length qs (released d.build d.ends offset) (ends_in Root (regions d.ends) - 1 + 1) Part.Release
      (release_grows d k qs (matches_nodes c j ps m block.inputs block.nodes) offset))

pub joins_have_owners : JoinsHaveOwners
joins_have_owners c ps block offset e = matches_finished (length c.build.instrs) c.build (omega arith) c (record { parts = ps; ends = regions c.ends }) ps
    (record { ends = refl; parts = refl; long = e; later = later_none (length c.build.instrs) c.build }) block offset
