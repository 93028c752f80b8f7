-- Names, sources and regions: what is read is what is written, and what is written is read again.
use Rattle.std.proofs.Common.{◌≡◌, ℕ, ◌+◌, ◌-◌, ◌^◌, ◌<◌, ◌≤◌, ◌&&◌, ◌||◌, eqb, ltb, leb, Bool, true, false, cond, List, [], ◌∷◌, ◌++◌, length}
use Rattle.std.proofs.Common.{get_or, take, Option, Some, None, refl, sym, ap, subst, ◌∙◌, append_assoc, arith, inl, inr}
use Rattle.std.specs.Prelude.{codes}
use Rattle.std.specs.Fmt.{decimal}
use Rattle.std.specs.List.{list_all, join_with_byte}
use Rattle.std.specs.Str.{bytes_eq}
use Rattle.std.proofs.lemmas.Bool.{false≢true, lt-ltb, ltb-true, le-leb, leb-true, eqb-true, eq-eqb, and_parts, and_from, or_cases, or_left, or_right}
use Rattle.std.proofs.lemmas.List.{length-append}
use Rattle.std.proofs.lemmas.List.Elements.{All-weaker}
use Rattle.std.proofs.lemmas.List.Folds.{list_all-append}
use Rattle.std.proofs.lemmas.List.Sums.{AllPass-from_list_all, list_all-from_AllPass}
use Rattle.std.proofs.lemmas.List.Splits.{slice_split_none, slice_split_at, join_with_byte-slice_split}
use Rattle.std.proofs.lemmas.Slice.Eq.{bytes_eq-Decides}
use Rattle.std.proofs.lemmas.Fmt.{decimal_nonempty}
use Rattle.lemmas.proofs.Bools.{cond_cases}
use Rattle.lemmas.proofs.Lists.{front_of, last_of, front_and_last}
use Rattle.semantics.specs.declared.graph.Region.{Region}
use Rattle.semantics.specs.declared.graph.Region.TheVariants.{Root, Arm}
use Rattle.semantics.specs.declared.graph.Source.{Source}
use Rattle.semantics.specs.Text.{region_text, IsLetter, IsNameRest, IsName, IsWrittenSource, IsWrittenRegion}
use Rattle.graph_file.specs.Lines.{parts}
use Rattle.graph_file.specs.Fields.{number_of, is_letter, is_name_rest, is_name, pair_of, source_parts, source_of, arm_of, region_parts, region_of}
use Rattle.graph_file.proofs.Marks.{weaker, is_plain, IsField, number_is, number_again, decimal_field, decimal_no_dot}

-- ---- names

between : (a b c : ℕ) → (leb a c && leb c b) ≡ true → (a ≤ c) × (c ≤ b)
between a b c e = let p = and_parts (leb a c) (leb c b) e in (leb-true _ _ p.0, leb-true _ _ p.1)

is_between : (a b c : ℕ) → a ≤ c → c ≤ b → (leb a c && leb c b) ≡ true
is_between a b c h k = and_from (leb a c) (leb c b) (le-leb _ _ h) (le-leb _ _ k)

letter_is : (c : ℕ) → is_letter c ≡ true → IsLetter c
letter_is c e = elim (or_cases (leb 65 c && leb c 90) (leb 97 c && leb c 122) e) as (λ _. IsLetter c) [
  | inl h ↦ inl (between 65 90 c h)
  | inr h
      ↦ inr (between 97 122 c h)
]

letter_from : (c : ℕ) → IsLetter c → is_letter c ≡ true
letter_from c (inl h) = or_left (leb 65 c && leb c 90) (leb 97 c && leb c 122) (is_between 65 90 c h.0 h.1)
letter_from c (inr h) = or_right (leb 65 c && leb c 90) (leb 97 c && leb c 122) (is_between 97 122 c h.0 h.1)

rest_is : (c : ℕ) → is_name_rest c ≡ true → IsNameRest c
rest_is c e = elim (or_cases (is_letter c || (leb 48 c && leb c 57)) (eqb c 95) e) as (λ _. IsNameRest c) [
  | inl h ↦ elim (or_cases (is_letter c) (leb 48 c && leb c 57) h) as (λ _. IsNameRest c) [
    | inl k ↦ inl (letter_is c k)
    | inr k
        ↦ inr (inl (between 48 57 c k))
  ]
  | inr h ↦ inr (inr (eqb-true c 95 h))
]

rest_from : (c : ℕ) → IsNameRest c → is_name_rest c ≡ true
rest_from c (inl h) = or_left (is_letter c || (leb 48 c && leb c 57)) (eqb c 95) (or_left (is_letter c) (leb 48 c && leb c 57) (letter_from c h))
rest_from c (inr (inl h)) = or_left (is_letter c || (leb 48 c && leb c 57)) (eqb c 95)
    (or_right (is_letter c) (leb 48 c && leb c 57) (is_between 48 57 c h.0 h.1))
rest_from c (inr (inr h)) = or_right (is_letter c || (leb 48 c && leb c 57)) (eqb c 95) (eq-eqb c 95 h)

pub name_is : (bs : List ℕ) → is_name bs ≡ true → IsName bs
unfolding is_name
name_is [] e = absurd (false≢true e)
name_is (c ∷ cs) e =
    let p = and_parts (is_letter c && list_all is_name_rest cs) (ltb (length cs) 32) e in
    let q = and_parts (is_letter c) (list_all is_name_rest cs) p.0 in
    (letter_is c q.0, All-weaker (λ b. is_name_rest b ≡ true) IsNameRest rest_is cs (AllPass-from_list_all is_name_rest cs q.1), ltb-true _ _ p.1)

pub name_from : (bs : List ℕ) → IsName bs → is_name bs ≡ true
unfolding is_name
name_from [] h = absurd h
name_from (c ∷ cs) h =
    and_from (is_letter c && list_all is_name_rest cs) (ltb (length cs) 32)
    (and_from (is_letter c) (list_all is_name_rest cs) (letter_from c h.0)
    (list_all-from_AllPass is_name_rest cs (All-weaker IsNameRest (λ b. is_name_rest b ≡ true) rest_from cs h.1)))
    (lt-ltb _ _ h.2)

rest_plain : (b : ℕ) → is_name_rest b ≡ true → is_plain b ≡ true
rest_plain b e = go (rest_is b e)
  where
    go : IsNameRest b → is_plain b ≡ true
    go (inl (inl h)) = is_between 33 126 b (omega (arith, h)) (omega (arith, h))
    go (inl (inr h)) = is_between 33 126 b (omega (arith, h)) (omega (arith, h))
    go (inr (inl h)) = is_between 33 126 b (omega (arith, h)) (omega (arith, h))
    go (inr (inr h)) = is_between 33 126 b (omega (arith, h)) (omega (arith, h))

pub name_field : (bs : List ℕ) → IsName bs → IsField bs
name_field [] h = absurd h
name_field (c ∷ cs) h = record {
  some = omega arith;
  plain = weaker is_name_rest is_plain rest_plain (c ∷ cs) (and_from (is_name_rest c) (list_all is_name_rest cs) (rest_from c (inl h.0))
      (list_all-from_AllPass is_name_rest cs (All-weaker IsNameRest (λ b. is_name_rest b ≡ true) rest_from cs h.1)));
}

-- ---- sources

abbrev pub source_text : Source → List ℕ
source_text s = decimal s.node ++ codes "." ++ decimal s.port

dotted : (s : Source) → source_text s ≡ decimal s.node ++ (46 ∷ decimal s.port)
dotted s = append_assoc (decimal s.node) (46 ∷ []) (decimal s.port)

pair_is : (n p : List ℕ) (s : Source) → pair_of (number_of n) (number_of p) ≡ Some s → (number_of n ≡ Some s.node) × (number_of p ≡ Some s.port)
pair_is n p s e = go (number_of n) (number_of p) e
  where
    go : (a b : Option ℕ) → pair_of a b ≡ Some s → (a ≡ Some s.node) × (b ≡ Some s.port)
    go None b h = absurd cc
    go (Some x) None h = absurd cc
    go (Some x) (Some y) h =
        let made : Source = record { node = x; port = y } in
        let k : made ≡ s = cc in
        (ap (λ (t : Source). Some t.node) k, ap (λ (t : Source). Some t.port) k)

pub source_is : (bs : List ℕ) (s : Source) → source_of bs ≡ Some s → (bs ≡ source_text s) × IsWrittenSource s
unfolding source_of
source_is bs s e = go (parts 46 bs) (join_with_byte-slice_split 46 bs) e
  where
    go : (ps : List (List ℕ)) → join_with_byte 46 ps ≡ bs → source_parts ps ≡ Some s → (bs ≡ source_text s) × IsWrittenSource s
    go [] j h = absurd cc
    go (n ∷ []) j h = absurd cc
    go (n ∷ p ∷ []) j h =
        let q = pair_is n p s h in
        let a = number_is n s.node q.0 in
        let b = number_is p s.port q.1 in
        (sym j ∙ ap (λ (xs : List ℕ). xs ++ (46 ∷ p)) a.0 ∙ ap (λ (xs : List ℕ). decimal s.node ++ (46 ∷ xs)) b.0 ∙ sym (dotted s), (a.1, b.1))
    go (n ∷ p ∷ q ∷ ps) j h = absurd cc

pub source_again : (s : Source) → IsWrittenSource s → source_of (source_text s) ≡ Some s
unfolding source_of
source_again s h =
    let first : parts 46 (decimal s.node ++ (46 ∷ decimal s.port)) ≡ decimal s.node ∷ parts 46 (decimal s.port) = slice_split_at (λ b. eqb b 46)
    (decimal s.node) 46 (decimal s.port) (decimal_no_dot s.node (let k = h.0 in omega arith)) refl in
    let second : parts 46 (decimal s.port) ≡ decimal s.port ∷ [] = slice_split_none (λ b. eqb b 46) (decimal s.port)
    (decimal_no_dot s.port (let k = h.1 in omega arith)) in
    ap (λ (xs : List ℕ). source_parts (parts 46 xs)) (dotted s) ∙ ap source_parts (first ∙ ap (λ (ps : List (List ℕ)). decimal s.node ∷ ps) second)
    ∙ rw (number_again s.node h.0, number_again s.port h.1) refl

pub source_field : (s : Source) → IsWrittenSource s → IsField (source_text s)
source_field s h =
    let a = decimal_field s.node (let k = h.0 in omega arith) in
    let b = decimal_field s.port (let k = h.1 in omega arith) in
    let made : IsField (decimal s.node ++ (46 ∷ decimal s.port)) = record {
      some = let k = a.some in omega (arith, k, length-append (decimal s.node) (46 ∷ decimal s.port));
      plain = list_all-append is_plain (decimal s.node) (46 ∷ decimal s.port) ∙ and_from (list_all is_plain (decimal s.node))
          (list_all is_plain (46 ∷ decimal s.port)) a.plain b.plain;
    } in
    subst IsField (sym (dotted s)) made

-- ---- regions

arm_is : (side : Bool) (o : Option ℕ) (r : Region) → arm_of side o ≡ Some r → (k : ℕ) × (o ≡ Some k) × (r ≡ Arm k side)
arm_is side None r e = absurd cc
arm_is side (Some k) r e = let h : Arm k side ≡ r = cc in (k, refl, sym h)

sign_of : Bool → ℕ
sign_of true = 43
sign_of false = 45

abbrev arm_text : ℕ → Bool → ℕ → List ℕ
arm_text k side c = decimal k ++ c ∷ []

arm_reads : (bs front : List ℕ) (c : ℕ) (side : Bool) (r : Region) → region_text (Arm 0 side) ≡ arm_text 0 side c
    → ((k : ℕ) → region_text (Arm k side) ≡ arm_text k side c) → bs ≡ front ++ c ∷ [] → arm_of side (number_of front) ≡ Some r → (bs ≡ region_text r)
    × IsWrittenRegion r
arm_reads bs front c side r zero-is text b e =
    let a = arm_is side (number_of front) r e in
    let n = number_is front a.0 a.1 in
    let made : (bs ≡ region_text (Arm a.0 side)) × IsWrittenRegion (Arm a.0 side) = (b ∙ ap (λ (xs : List ℕ). xs ++ c ∷ []) n.0 ∙ sym (text a.0), n.1) in
    subst (λ (q : Region). (bs ≡ region_text q) × IsWrittenRegion q) (sym a.2) made

parts_reads : (bs front : List ℕ) (c : ℕ) (r : Region) → bs ≡ front ++ c ∷ [] → region_parts front c ≡ Some r → (bs ≡ region_text r) × IsWrittenRegion r
parts_reads bs front c r b e =
    elim (cond_cases (eqb c 43) (arm_of true (number_of front)) (cond (eqb c 45) (arm_of false (number_of front)) None) (Some r) e) as
    (λ _. (bs ≡ region_text r) × IsWrittenRegion r) [
      | inl h ↦ arm_reads bs front 43 true r refl (λ k. refl) (b ∙ ap (λ (x : ℕ). front ++ x ∷ []) (eqb-true c 43 h.0)) h.1
      | inr h ↦ elim (cond_cases (eqb c 45) (arm_of false (number_of front)) None (Some r) h.1) as (λ _. (bs ≡ region_text r) × IsWrittenRegion r) [
        | inl k ↦ arm_reads bs front 45 false r refl (λ k. refl) (b ∙ ap (λ (x : ℕ). front ++ x ∷ []) (eqb-true c 45 k.0)) k.1
        | inr k ↦ absurd (let q = k.1 in cc)
      ]
    ]

pub region_is : (bs : List ℕ) (r : Region) → region_of bs ≡ Some r → (bs ≡ region_text r) × IsWrittenRegion r
unfolding region_of
region_is bs r e =
    elim (cond_cases (bytes_eq bs (codes "-")) (Some Root) (region_parts (take (length bs - 1) bs) (get_or bs (length bs - 1) 0)) (Some r) e) as
    (λ _. (bs ≡ region_text r) × IsWrittenRegion r) [
      | inl h ↦
          let k : Root ≡ r = let q = h.1 in cc in
          let made : (bs ≡ region_text Root) × IsWrittenRegion Root = ((bytes_eq-Decides bs (codes "-")).0 h.0, tt) in
          subst (λ (q : Region). (bs ≡ region_text q) × IsWrittenRegion q) k made
      | inr h ↦ split bs r h.1
    ]
  where
    split : (xs : List ℕ) (q : Region) → region_parts (take (length xs - 1) xs) (get_or xs (length xs - 1) 0) ≡ Some q → (xs ≡ region_text q)
        × IsWrittenRegion q
    split [] q h = absurd cc
    split (x ∷ xs) q h = parts_reads (x ∷ xs) (take (length (x ∷ xs) - 1) (x ∷ xs)) (get_or (x ∷ xs) (length (x ∷ xs) - 1) 0) q
        (front_and_last (x ∷ xs) (omega arith)) h

arm_again : (k c : ℕ) (side : Bool) → k < 2 ^ 32 → region_parts (decimal k) c ≡ arm_of side (number_of (decimal k)) → region_of (decimal k ++ c ∷ [])
    ≡ Some (Arm k side)
unfolding region_of
arm_again k c side h e =
    let n = decimal_nonempty k (omega arith) in
    let not_root : bytes_eq (decimal k ++ c ∷ []) (codes "-") ≡ false = go (bytes_eq (decimal k ++ c ∷ []) (codes "-")) refl in
    rw (not_root, front_of (decimal k) c, last_of (decimal k) c, e, number_again k h) refl
  where
    go : (t : Bool) → bytes_eq (decimal k ++ c ∷ []) (codes "-") ≡ t → bytes_eq (decimal k ++ c ∷ []) (codes "-") ≡ false
    go true t =
        let z = ap (λ (xs : List ℕ). length xs) ((bytes_eq-Decides (decimal k ++ c ∷ []) (codes "-")).0 t) in
        absurd (omega (arith, z, length-append (decimal k) (c ∷ []), decimal_nonempty k (omega arith)))
    go false t = t

pub region_again : (r : Region) → IsWrittenRegion r → region_of (region_text r) ≡ Some r
region_again Root h = unfold region_of in refl
region_again (Arm k true) h = arm_again k 43 true h refl
region_again (Arm k false) h = arm_again k 45 false h refl

arm_field : (k c : ℕ) → k < 2 ^ 32 → is_plain c ≡ true → IsField (decimal k ++ c ∷ [])
arm_field k c h p =
    let a = decimal_field k (omega arith) in
    record {
      some = let s = a.some in omega (arith, s, length-append (decimal k) (c ∷ []));
      plain = list_all-append is_plain (decimal k) (c ∷ []) ∙ and_from (list_all is_plain (decimal k)) (list_all is_plain (c ∷ [])) a.plain
          (and_from (is_plain c) true p refl);
    }

pub region_field : (r : Region) → IsWrittenRegion r → IsField (region_text r)
region_field Root h = record { some = omega arith; plain = refl }
region_field (Arm k true) h = arm_field k 43 h refl
region_field (Arm k false) h = arm_field k 45 h refl
