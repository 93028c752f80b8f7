-- A TABLE OF NAMES after a name was looked up.
use Rattle.std.proofs.Common.{◌≡◌, ℕ, ◌+◌, ◌-◌, ◌<◌, ◌≤◌, Bool, true, false, nat_lt, List, [], ◌∷◌, ◌++◌, length, All, Option, Some, None, refl}
use Rattle.std.proofs.Common.{sym, ap, ◌∙◌, subst, append-nil, append_assoc, arith, ltb-true, ltb-false, Bor}
use Rattle.std.specs.BTreeMap.{BTreeMap, get_by, UpdatesBy}
use Rattle.std.specs.Cmp.Lexicographic.{slice_cmp}
use Rattle.std.specs.Ordering.{nat_cmp}
use Rattle.std.proofs.lemmas.List.{get_or_append_left, get_or-append_right, length-append}
use Rattle.std.proofs.lemmas.List.Elements.{All-nil, All-cons, All-append}
use Rattle.std.proofs.lemmas.Option.{get_or_from_slice_get, slice_get-get_or}
use Rattle.semantics.specs.Graph.{place_of}
use Rattle.graph_check.specs.Names.{is_name}
use Rattle.graph_check.proofs.Places.{place_some, place_none, index_more}
use Rattle.graph_check.proofs.Shapes.{is_name_at, at_is_name}
use Rattle.source.specs.Tree.{Name}
use Rattle.source.specs.Tokens.{IsSpelledName}
use Rattle.source.specs.Words.{name_of}
use Rattle.surface_text.specs.Naming.{IsDistinct, IsTable, Extends, IsNumberOf, IsNumbered}

abbrev looked_up : Name → BTreeMap (Bor (List ℕ)) ℕ → Option ℕ
looked_up name numbers = get_by (λ k. slice_cmp nat_cmp name k.now) numbers

pub extends_itself : (names : List Name) → Extends names names
extends_itself names = record { more = []; is = sym (append-nil names) }

pub extends_twice : (a b c : List Name) → Extends a b → Extends b c → Extends a c
extends_twice a b c e f = record { more = e.more ++ f.more; is = f.is ∙ ap (λ xs. xs ++ f.more) e.is ∙ append_assoc a e.more f.more }

pub extended_name : (a b : List Name) (n : ℕ) → Extends a b → n < length a → name_of b n ≡ name_of a n
extended_name a b n e h = ap (λ xs. name_of xs n) e.is ∙ get_or_append_left a e.more [] n h

-- an old name
pub found_name : (numbers : BTreeMap (Bor (List ℕ)) ℕ) (names : List Name) (name : Name) (n : ℕ) (o : Option ℕ) → o ≡ looked_up name numbers → o ≡ Some n
    → IsTable numbers names
    → IsNumbered names numbers names name n
found_name numbers names name n o looked is table =
    let place = place_some name names n (sym (looked ∙ table.index name) ∙ is) in
    record {
      table = table;
      extends = extends_itself names;
      within = subst (λ k. k < length names) (sym place.0) (ltb-true (place_of name names) (length names) place.1);
      is = ap (name_of names) place.0 ∙ get_or_from_slice_get names (place_of name names) name [] (is_name_at name names place.1);
      spelled = λ all one. all;
    }

-- a name that was read recently
pub recent_name : (numbers : BTreeMap (Bor (List ℕ)) ℕ) (names : List Name) (name : Name) (n : ℕ) → IsNumberOf names name n → IsTable numbers names
    → IsNumbered names numbers names name n
recent_name numbers names name n known table = record {
  table = table;
  extends = extends_itself names;
  within = known.within;
  is = known.is;
  spelled = λ all one. all;
}

-- a new name
absent_from : (names : List Name) (name : Name) → is_name name names ≡ false → (i : ℕ) → i < length names → name_of names i ≡ name → ⊥
absent_from names name absent i h e =
    let there = at_is_name name names i (slice_get-get_or names i [] h ∙ ap Some e) in
    cc

length_more : (names : List Name) (name : Name) → length (names ++ name ∷ []) ≡ length names + 1
length_more names name = length-append names (name ∷ [])

last_name : (names : List Name) (name : Name) (i : ℕ) → i ≡ length names → name_of (names ++ name ∷ []) i ≡ name
last_name names name i e =
    let none : i - length names ≡ 0 = omega (arith, e) in
    get_or-append_right names (name ∷ []) (length names) i [] refl (omega (arith, e)) ∙ ap (λ k. name_of (name ∷ []) k) none

distinct_more : (names : List Name) (name : Name) → IsDistinct names → is_name name names ≡ false → IsDistinct (names ++ name ∷ [])
distinct_more names name distinct absent i j hi hj e = go (nat_lt i (length names)) refl (nat_lt j (length names)) refl
  where
    old : (k : ℕ) → k < length names → name_of (names ++ name ∷ []) k ≡ name_of names k
    old k h = get_or_append_left names (name ∷ []) [] k h

    last : (k : ℕ) → length names ≤ k → k < length (names ++ name ∷ []) → k ≡ length names
    last k h l = omega (arith, length_more names name)

    go : (s : Bool) → nat_lt i (length names) ≡ s → (t : Bool) → nat_lt j (length names) ≡ t → i ≡ j
    go true p true q =
        let a = ltb-true i (length names) p in
        let b = ltb-true j (length names) q in
        distinct i j a b (sym (old i a) ∙ e ∙ old j b)
    go true p false q =
        let a = ltb-true i (length names) p in
        let b = last j (ltb-false j (length names) q) hj in
        absurd (absent_from names name absent i a (sym (old i a) ∙ e ∙ last_name names name j b))
    go false p true q =
        let a = last i (ltb-false i (length names) p) hi in
        let b = ltb-true j (length names) q in
        absurd (absent_from names name absent j b (sym (old j b) ∙ sym e ∙ last_name names name i a))
    go false p false q = last i (ltb-false i (length names) p) hi ∙ sym (last j (ltb-false j (length names) q) hj)

pub new_name : (numbers new : BTreeMap (Bor (List ℕ)) ℕ) (names table : List Name) (name : Name) (n : ℕ) (o : Option ℕ) → o ≡ looked_up name numbers → o ≡ None
    → n ≡ length names → table ≡ names ++ name ∷ []
    → UpdatesBy (λ x y. slice_cmp nat_cmp x.now y.now) (λ k. slice_cmp nat_cmp name k.now) numbers new (Some n)
    → IsTable numbers names → IsNumbered names new table name n
new_name numbers new names table name n o looked none count is updates old =
    let absent = (place_none name names (sym (looked ∙ old.index name) ∙ none)).1 in
    record {
      table = subst (IsTable new) (sym is) (record
          { index = index_more numbers new names name n old.index absent count updates; distinct = distinct_more names name old.distinct absent });
      extends = record { more = name ∷ []; is = is };
      within = subst (λ t. n < length t) (sym is) (omega (arith, count, length_more names name));
      is = ap (λ t. name_of t n) is ∙ last_name names name n count;
      spelled = λ all one. subst (All IsSpelledName) (sym is) (All-append IsSpelledName names (name ∷ []) all
          (All-cons IsSpelledName name [] one (All-nil IsSpelledName)));
    }
