-- The regions of a block's ends are seen in its finished code.
use Rattle.std.proofs.Common.{◌≡◌, ℕ, zero, suc, ◌+◌, ◌-◌, ◌<◌, ◌≤◌, Bool, true, false, not, ◌&&◌, List, [], ◌∷◌, length, refl, sym, ap, ◌∙◌, arith, get_or}
use Rattle.std.specs.Prelude.{if◌then◌else◌}
use Rattle.std.proofs.lemmas.Bool.{le-ltb, lt-ltb}
use Rattle.std.proofs.lemmas.List.{get_or_append_left}
use Rattle.lemmas.proofs.Lists.{map_append}
use Rattle.semantics.specs.declared.graph.Region.{Region}
use Rattle.semantics.specs.declared.graph.Region.TheVariants.{Arm}
use Rattle.semantics.specs.declared.program.Dest.{Dest}
use Rattle.semantics.specs.declared.program.Mark.{Mark}
use Rattle.semantics.specs.declared.program.Mark.TheVariants.{Unmarked, OfCond, OfFlag}
use Rattle.semantics.specs.Program.{Instr}
use Rattle.schemas.specs.Builds.{Build, no_instr, mark_of, region_of, first_of, second_of}
use Rattle.schemas.specs.Ends.{is_empty, is_take, is_end, end_at}
use Rattle.schemas.specs.Ends as Schemas
use Rattle.code_map.specs.Ends as Ends
use Rattle.code_map.specs.Ends.{all_behind}
use Rattle.code_map.proofs.Lengths.{Outlet}
use Rattle.code_map.proofs.Closing.{End, regions, Later}
use Rattle.code_map.proofs.Inside.{at, Low, In}

behind_low : (limit n : ℕ) (ds : List Dest) → Low limit n ds → all_behind limit n ds ≡ is_empty ds
behind_low limit n [] h = refl
behind_low limit n (d ∷ ds) h = ap (λ t. if t then false else all_behind limit n ds) (lt-ltb d.ahead (limit - n) (omega (arith, h)))

pushed_same : (es : List End) (t : Bool) (r : Region) (o : Outlet) → regions (Schemas.pushed_if es t r o) ≡ Ends.pushed_if (regions es) t r
pushed_same es true r o = map_append (λ e. e.region) es (end_at r o ∷ [])
pushed_same es false r o = refl

noted_same : (mk : Mark) (es : List End) (r : Region) (i j : Instr) (n limit : ℕ) → j.op ≡ i.op → all_behind limit n j.firsts ≡ is_empty i.firsts
    → all_behind limit n j.seconds ≡ is_empty i.seconds → regions (Schemas.noted es mk r i n) ≡ Ends.noted (regions es) mk r j n limit
noted_same (OfCond k) es r i j n limit op firsts seconds =
    pushed_same (Schemas.pushed_if es (is_empty i.firsts) (Arm k true) (first_of n)) (is_empty i.seconds) (Arm k false) (second_of n)
    ∙ ap (λ rs. Ends.pushed_if rs (is_empty i.seconds) (Arm k false)) (pushed_same es (is_empty i.firsts) (Arm k true) (first_of n))
    ∙ ap (λ t. Ends.pushed_if (Ends.pushed_if (regions es) t (Arm k true)) (is_empty i.seconds) (Arm k false)) (sym firsts)
    ∙ ap (λ t. Ends.pushed_if (Ends.pushed_if (regions es) (all_behind limit n j.firsts) (Arm k true)) t (Arm k false)) (sym seconds)
noted_same OfFlag es r i j n limit op firsts seconds = refl
noted_same Unmarked es r i j n limit op firsts seconds =
    pushed_same es (is_end i) r (first_of n)
    ∙ ap (λ o. Ends.pushed_if (regions es) (not (is_take o) && is_empty i.firsts) r) (sym op)
    ∙ ap (λ t. Ends.pushed_if (regions es) (not (is_take j.op) && t) r) (sym firsts)

-- what is behind all that has regions
past : (rs gs : List Region) (ms : List Mark) (n : ℕ) (js : List Instr) → length gs ≤ n → Ends.ends_from rs ms gs n js ≡ rs
past rs gs ms n [] l = refl
past rs gs ms n (j ∷ js) l =
    ap (λ t. Ends.ends_from (if t then Ends.noted rs (Ends.mark_at ms n) (region_of gs n) j n (length gs) else rs) ms gs (n + 1) js) (le-ltb n (length gs) l)
    ∙ past rs gs ms (n + 1) js (omega (arith, l))

module _ (b c : Build) (inside : In b) (later : Later (length b.instrs) b c) (all_regions : length b.regions ≡ length b.instrs)
    (all_marks : length b.marks ≡ length b.instrs) where
  noted_here : (es : List End) (n : ℕ) → n < length b.instrs → (i j : Instr) → i ≡ at b n → j ≡ at c n
      → regions (Schemas.noted es (mark_of b.marks n) (region_of b.regions n) i n) ≡ Ends.noted_within (regions es) c.marks b.regions n j
  noted_here es n l i j x y =
      let same = later.like n l in
      let marks : Ends.mark_at c.marks n ≡ mark_of b.marks n
      = ap (λ ms. get_or ms n Unmarked) later.marks.1 ∙ get_or_append_left b.marks later.marks.0 Unmarked n (omega (arith, l, all_marks)) in
      let op : j.op ≡ i.op = ap (λ z. z.op) y ∙ same.op ∙ ap (λ z. z.op) (sym x) in
      let firsts : all_behind (length b.instrs) n j.firsts ≡ is_empty i.firsts
      = ap (λ z. all_behind (length b.instrs) n z.firsts) y ∙ same.firsts ∙ behind_low (length b.instrs) n (at b n).firsts (inside n).0
      ∙ ap (λ z. is_empty z.firsts) (sym x) in
      let seconds : all_behind (length b.instrs) n j.seconds ≡ is_empty i.seconds
      = ap (λ z. all_behind (length b.instrs) n z.seconds) y ∙ same.seconds ∙ behind_low (length b.instrs) n (at b n).seconds (inside n).1
      ∙ ap (λ z. is_empty z.seconds) (sym x) in
      noted_same (mark_of b.marks n) es (region_of b.regions n) i j n (length b.instrs) op firsts seconds
      ∙ ap (λ mk. Ends.noted (regions es) mk (region_of b.regions n) j n (length b.instrs)) (sym marks)
      ∙ ap (λ limit. Ends.noted (regions es) (Ends.mark_at c.marks n) (region_of b.regions n) j n limit) (sym all_regions)
      ∙ ap (λ t. if t then Ends.noted (regions es) (Ends.mark_at c.marks n) (region_of b.regions n) j n (length b.regions) else regions es)
      (sym (lt-ltb n (length b.regions) (omega (arith, l, all_regions))))

  seen : (es : List End) (n : ℕ) (is js : List Instr) → ((m : ℕ) → m < length is → get_or is m no_instr ≡ at b (n + m))
      → ((m : ℕ) → m < length is → get_or js m no_instr ≡ at c (n + m)) → length is ≤ length js → n + length is ≡ length b.instrs
      → regions (Schemas.ends_from es b n is) ≡ Ends.ends_from (regions es) c.marks b.regions n js
  seen es n [] js x y l e = sym (past (regions es) b.regions c.marks n js (omega (arith, e, all_regions)))
  seen es n (i ∷ is) [] x y l e = absurd (omega (arith, l))
  seen es n (i ∷ is) (j ∷ js) x y l e =
      seen (Schemas.noted es (mark_of b.marks n) (region_of b.regions n) i n) (n + 1) is js
      (λ m k. x (suc m) (omega (arith, k)) ∙ ap (at b) (next n m)) (λ m k. y (suc m) (omega (arith, k)) ∙ ap (at c) (next n m)) (omega (arith, l)) (omega (arith, e))
      ∙ ap (λ rs. Ends.ends_from rs c.marks b.regions (n + 1) js)
      (noted_here es n (omega (arith, e)) i j (x zero (omega arith) ∙ ap (at b) (first n)) (y zero (omega arith) ∙ ap (at c) (first n)))
    where
      next : (k m : ℕ) → k + suc m ≡ k + 1 + m
      next k m = omega arith

      first : (k : ℕ) → k + zero ≡ k
      first k = omega arith

  pub ends_seen : regions (Schemas.ends_of b) ≡ Ends.ends_of c.instrs c.marks b.regions
  ends_seen = seen [] 0 b.instrs c.instrs (λ m k. ap (at b) (from m)) (λ m k. ap (at c) (from m)) later.long (omega arith)
    where
      from : (m : ℕ) → m ≡ 0 + m
      from m = omega arith
