-- THE HEADS of items, taken apart.
use Rattle.std.proofs.Common.{◌≡◌, ◌+◌, ◌<◌, ◌≤◌, ◌&&◌, nat_le, nat_lt, not, Bool, true, false, List, [], ◌∷◌, length, drop, Option, None, Some, Ok, refl}
use Rattle.std.proofs.Common.{arith, ltb-true}
use Rattle.std.proofs.lemmas.Bool.{leb-true}
use Rattle.std.proofs.lemmas.List.{length-drop}
use Rattle.lemmas.proofs.Bools.{first_of_and, second_of_and}
use Rattle.source.specs.declared.fault.FaultKind.TheVariants.{SameName, TooMany, BadCount}
use Rattle.source.specs.Tree.{NameAt, NumberAt, Function, Cells, Defines}
use Rattle.source.specs.Outside.{is_in}
use Rattle.source.specs.First.{◌>>=◌, must}
use Rattle.source.specs.Rules.{Heads, head, few_params, written_or_one, good_results}
use Rattle.source.proofs.Steps.{then_ok, must_ok, ok_same}

not_so : (t : Bool) → not t ≡ true → t ≡ false
not_so true h = cc
not_so false h = refl

-- OF AN ARRAY: its name is new, and it has some cells, for which there is room.
abbrev pub with_cells : Heads → NameAt → NumberAt → Heads
with_cells before x len = record { names = x.name ∷ before.names; arrays = before.arrays + 1; cells = before.cells + len.number }

pub record IsCellsHead (before next : Heads) (x : NameAt) (len : NumberAt) : Type 0 where
  pub new : is_in x.name before.names ≡ false
  pub few : before.arrays < 64
  pub some : 1 ≤ len.number
  pub fits : len.number ≤ 65536
  pub room : before.cells + len.number ≤ 65536
  pub is : with_cells before x len ≡ next

pub cells_head : (before next : Heads) (x : NameAt) (len : NumberAt) → head before (Cells x len) ≡ Ok next → IsCellsHead before next x len
cells_head before next x len e =
    let new : Bool = not (is_in x.name before.names) in
    let few : Bool = nat_lt before.arrays 64 in
    let fits : Bool = nat_le 1 len.number && nat_le len.number 65536 in
    let room : Bool = nat_le (before.cells + len.number) 65536 in
    let after : Heads = with_cells before x len in
    let s = then_ok (must new SameName x.at) (λ t. must few TooMany x.at >>=
    (λ t. must fits BadCount len.at >>= (λ t. must room TooMany len.at >>= (λ t. Ok after)))) next e in
    let t = then_ok (must few TooMany x.at) (λ t. must fits BadCount len.at >>= (λ t. must room TooMany len.at >>= (λ t. Ok after))) next s.2 in
    let u = then_ok (must fits BadCount len.at) (λ t. must room TooMany len.at >>= (λ t. Ok after)) next t.2 in
    let v = then_ok (must room TooMany len.at) (λ t. Ok after) next u.2 in
    let both = must_ok fits BadCount len.at u.0 u.1 in
    record {
      new = not_so (is_in x.name before.names) (must_ok new SameName x.at s.0 s.1);
      few = ltb-true before.arrays 64 (must_ok few TooMany x.at t.0 t.1);
      some = leb-true 1 len.number (first_of_and (nat_le 1 len.number) (nat_le len.number 65536) both);
      fits = leb-true len.number 65536 (second_of_and (nat_le 1 len.number) (nat_le len.number 65536) both);
      room = leb-true (before.cells + len.number) 65536 (must_ok room TooMany len.at v.0 v.1);
      is = ok_same after next v.2;
    }

-- OF A FUNCTION: its name is new, and its parameters and its results are few.
abbrev pub with_function : Heads → Function → Heads
with_function before h = record { names = h.name.name ∷ before.names; arrays = before.arrays; cells = before.cells }

pub record IsFunctionHead (before next : Heads) (h : Function) : Type 0 where
  pub new : is_in h.name.name before.names ≡ false
  pub few : length h.params ≤ 16
  pub one : 1 ≤ written_or_one h.results
  pub narrow : written_or_one h.results ≤ 16
  pub is : with_function before h ≡ next

no_more : (xs : List NameAt) → few_params xs ≡ Ok tt → length xs ≡ 0
no_more [] h = refl
no_more (x ∷ xs) h = cc

few_written : (o : Option NumberAt) → good_results o ≡ Ok tt → (1 ≤ written_or_one o) × (written_or_one o ≤ 16)
few_written None h = (omega arith, omega arith)
few_written (Some n) h =
    let both = must_ok (nat_le 1 n.number && nat_le n.number 16) BadCount n.at tt h in (
      leb-true 1 n.number (first_of_and (nat_le 1 n.number) (nat_le n.number 16) both),
      leb-true n.number 16
          (second_of_and (nat_le 1 n.number) (nat_le n.number 16) both),
    )

pub function_head : (before next : Heads) (h : Function) → head before (Defines h) ≡ Ok next → IsFunctionHead before next h
function_head before next h e =
    let new : Bool = not (is_in h.name.name before.names) in
    let after : Heads = with_function before h in
    let s = then_ok (must new SameName h.name.at) (λ t. few_params (drop 16 h.params) >>= (λ t. good_results h.results >>= (λ t. Ok after))) next e in
    let t = then_ok (few_params (drop 16 h.params)) (λ t. good_results h.results >>= (λ t. Ok after)) next s.2 in
    let u = then_ok (good_results h.results) (λ t. Ok after) next t.2 in
    let none = no_more (drop 16 h.params) t.1 in
    let written = few_written h.results u.1 in
    record {
      new = not_so (is_in h.name.name before.names) (must_ok new SameName h.name.at s.0 s.1);
      few = omega (arith, none, length-drop 16 h.params);
      one = written.0;
      narrow = written.1;
      is = ok_same after next u.2;
    }
