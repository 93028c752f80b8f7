-- One more block in the loops over blocks.
use Rattle.std.proofs.Common.{◌≡◌, ℕ, ◌+◌, ◌<◌, ◌≤◌, ℤ, Option, List, [], ◌∷◌, ◌++◌, length, get_or, drop, refl, ap, sym, ◌∙◌, subst, append_assoc, arith}
use Rattle.std.specs.Prelude.{Some, None, nat_lt, false, slice_get}
use Rattle.std.specs.Ordering.{int_cmp}
use Rattle.std.specs.BTreeSet.{insert_key}
use Rattle.std.proofs.lemmas.Grind.{common_steps}
use Rattle.std.proofs.lemmas.Option.{slice_get_within, get_or_from_slice_get}
use Rattle.lemmas.proofs.SliceGet.{get_none}
use Rattle.lemmas.proofs.Lists.{drop_opens}
use Rattle.semantics.specs.Program.{CodeBlock}
use Rattle.semantics.specs.Sharing.{placed_instrs}
use Rattle.semantics.specs.Placed.{needed, placed_blocks}
use Rattle.select.specs.Emitted.{emitted_block, emitted_blocks}
use Rattle.select.specs.Literals.{used_by, used_in, entered, first_too_far}

pub entered_append : (xs ys table : List ℤ) → entered table (xs ++ ys) ≡ entered (entered table xs) ys
entered_append [] ys table = refl
entered_append (x ∷ xs) ys table = entered_append xs ys (insert_key int_cmp table x)

pub not_over : (m n : ℕ) → n ≤ m → nat_lt m n ≡ false
not_over m n le = grind arith

pub table_step : (table more all : List ℤ) (n : ℕ) (bs : List CodeBlock) (b : CodeBlock) → n < length bs → b ≡ get_or bs n b
    → more ≡ entered table (used_by b.instrs) → entered table (used_in (drop n bs)) ≡ all → entered more (used_in (drop (n + 1) bs)) ≡ all
table_step table more all n bs b lt is made so_far =
    let e = drop_opens bs n b lt is in
    ap (λ t. entered t (used_in (drop (n + 1) bs))) made ∙ sym (entered_append (used_by b.instrs) (used_in (drop (n + 1) bs)) table)
    ∙ ap (λ (cs : List CodeBlock). entered table (used_in cs)) (sym e) ∙ so_far

far_on : (n : ℕ) (table : List ℤ) (b : CodeBlock) (rest : List CodeBlock) → nat_lt 32768 (length b.instrs) ≡ false
    → nat_lt 65536 (length (entered table (used_by b.instrs))) ≡ false → first_too_far n table (b ∷ rest)
    ≡ first_too_far (n + 1) (entered table (used_by b.instrs)) rest
far_on n table b rest small few = rw (small, few) refl

pub far_step : (table more : List ℤ) (far : Option ℕ) (n : ℕ) (bs : List CodeBlock) (b : CodeBlock) → n < length bs → b ≡ get_or bs n b
    → more ≡ entered table (used_by b.instrs) → length b.instrs ≤ 32768 → length more ≤ 65536
    → first_too_far n table (drop n bs) ≡ far → first_too_far (n + 1) more (drop (n + 1) bs) ≡ far
far_step table more far n bs b lt is made small few so_far =
    let e = drop_opens bs n b lt is in
    let few_made : length (entered table (used_by b.instrs)) ≤ 65536 = subst (λ t. length t ≤ 65536) made few in
    ap (λ t. first_too_far (n + 1) t (drop (n + 1) bs)) made
    ∙ sym (far_on n table b (drop (n + 1) bs) (not_over 32768 (length b.instrs) small) (not_over 65536 _ few_made))
    ∙ ap (λ (cs : List CodeBlock). first_too_far n table cs) (sym e) ∙ so_far

pub blocks_step : (v n : ℕ) (done more all : List CodeBlock) (slots : List (List ℕ)) (bs : List CodeBlock) (ss : List ℕ) (b x : CodeBlock)
    → n < length bs → b ≡ get_or bs n b
    → slice_get slots n ≡ Some ss → more ≡ done ++ x ∷ [] → x ≡ emitted_block v (record b { slots = needed ss; instrs = placed_instrs ss b.instrs })
    → done ++ emitted_blocks v (placed_blocks (drop n slots) (drop n bs)) ≡ all
    → more ++ emitted_blocks v (placed_blocks (drop (n + 1) slots) (drop (n + 1) bs)) ≡ all
blocks_step v n done more all slots bs ss b x lt is there made same so_far =
    let rest = emitted_blocks v (placed_blocks (drop (n + 1) slots) (drop (n + 1) bs)) in
    let e = drop_opens bs n b lt is in
    let f = drop_opens slots n ss (slice_get_within slots n ss there) (sym (get_or_from_slice_get slots n ss ss there)) in
    ap (λ zs. zs ++ rest) made ∙ append_assoc done (x ∷ []) rest ∙ ap (λ z. done ++ z ∷ rest) same
    ∙ ap (λ (ts : List (List ℕ)). done ++ emitted_blocks v (placed_blocks ts (b ∷ drop (n + 1) bs))) (sym f)
    ∙ ap (λ (cs : List CodeBlock). done ++ emitted_blocks v (placed_blocks (drop n slots) cs)) (sym e) ∙ so_far

no_blocks : (slots : List (List ℕ)) → placed_blocks slots [] ≡ []
no_blocks [] = refl
no_blocks (ss ∷ more) = refl

pub blocks_end : (v n : ℕ) (done all : List CodeBlock) (slots : List (List ℕ)) (bs : List CodeBlock) → length bs ≤ n
    → done ++ emitted_blocks v (placed_blocks (drop n slots) (drop n bs)) ≡ all → done ≡ all
blocks_end v n done all slots bs le so_far =
    let e : drop n bs ≡ [] = grind (arith, common_steps) in
    let f : emitted_blocks v (placed_blocks (drop n slots) (drop n bs))
    ≡ [] = ap (λ (cs : List CodeBlock). emitted_blocks v (placed_blocks (drop n slots) cs)) e ∙ ap (emitted_blocks v) (no_blocks (drop n slots)) in
    let g : done ++ emitted_blocks v (placed_blocks (drop n slots) (drop n bs)) ≡ done = ap (λ zs. done ++ zs) f ∙ append_nil done in
    sym g ∙ so_far
  where
    append_nil : (xs : List CodeBlock) → xs ++ [] ≡ xs
    append_nil [] = refl
    append_nil (x ∷ xs) = ap (λ zs. x ∷ zs) (append_nil xs)

pub slots_end : (v n : ℕ) (done all : List CodeBlock) (slots : List (List ℕ)) (bs : List CodeBlock) → slice_get slots n ≡ None
    → done ++ emitted_blocks v (placed_blocks (drop n slots) (drop n bs)) ≡ all → done ≡ all
slots_end v n done all slots bs none so_far =
    let le = get_none slots n none in
    let e : drop n slots ≡ [] = grind (arith, common_steps) in
    let f : emitted_blocks v (placed_blocks (drop n slots) (drop n bs)) ≡ [] = ap (λ (ts : List (List ℕ)). emitted_blocks v (placed_blocks ts (drop n bs))) e in
    let g : done ++ emitted_blocks v (placed_blocks (drop n slots) (drop n bs)) ≡ done = ap (λ zs. done ++ zs) f ∙ append_nil done in
    sym g ∙ so_far
  where
    append_nil : (xs : List CodeBlock) → xs ++ [] ≡ xs
    append_nil [] = refl
    append_nil (x ∷ xs) = ap (λ zs. x ∷ zs) (append_nil xs)
