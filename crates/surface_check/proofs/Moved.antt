-- States with other names in place of each.
use Rattle.std.specs.Prelude.{◌≡◌, refl, ℕ, Bool, true, false, List, [], ◌∷◌, length, map, ◌-◌, drop, Option, None, Some, Result, Ok, Err, if◌then◌else◌}
use Rattle.std.proofs.Common.{◌∙◌, ap}
use Rattle.std.proofs.lemmas.List.{length-map, take-map, drop-map}
use Rattle.source.specs.declared.fault.FaultKind.{FaultKind as CoreKind}
use Rattle.surface.specs.declared.fault.Fault.{Fault}
use Rattle.surface.specs.First.{◌>>=◌, must_be}
use Rattle.source_check.specs.Steps.{since, back, onto}
use Rattle.surface_check.specs.declared.frame.Kind.{Kind}
use Rattle.surface_check.specs.declared.frame.Kind.TheVariants as kind
use Rattle.surface_check.specs.declared.frame.Last.{Last}
use Rattle.surface_check.specs.Heads.{Names}
use Rattle.surface_check.specs.Steps.{Items, Open, State, Plain, Passing, Measuring, Skipping, NamePart}

abbrev pub kind_moved : {N M : Type 0} → (N → M) → Kind N → Kind M
kind_moved f kind.Written = kind.Written
kind_moved f kind.Constant = kind.Constant
kind_moved f (kind.Variable x) = kind.Variable (f x)
kind_moved f kind.Other = kind.Other

abbrev pub last_moved : {N M : Type 0} → (N → M) → Last N → Last M
last_moved f l = record { count = l.count; at = l.at; kind = kind_moved f l.kind }

-- the name of an array, with its dimensions
abbrev pub array_moved : {N M : Type 0} → (N → M) → N × ℕ → M × ℕ
array_moved f e = (f e.0, e.1)

abbrev pub part_moved : {N M : Type 0} → (N → M) → Option (NamePart N) → Option (NamePart M)
part_moved f None = None
part_moved f (Some p) = Some (record { at = p.at; name = f p.name })

abbrev pub moved : {N M : Type 0} → (N → M) → Open N → Open M
moved f s = record {
  scope = map f s.scope;
  pending = map f s.pending;
  used = map f s.used;
  arrays = map (array_moved f) s.arrays;
  found = s.found;
  ends = map (kind_moved f) s.ends;
  turn = s.turn;
  frames = s.frames;
  last = last_moved f s.last;
}

abbrev pub state_moved : {N M : Type 0} → (N → M) → State N → State M
state_moved f (Plain s) = Plain (moved f s)
state_moved f (Passing s start) = Passing (moved f s) start
state_moved f (Measuring s at rank c) = Measuring (moved f s) at rank c
state_moved f (Skipping s) = Skipping (moved f s)

-- the items by the one names, where these are the items by the other ones
abbrev pub items_by : {N M : Type 0} → (N → M) → Items M → Items N
items_by f k = record { item = λ x. k.item (f x); ranks = k.ranks }

-- For steps the names of one are those of the other.
pub record StepsAlike {N M : Type 0} (f : N → M) (t : Names N) (r : Names M) : Type 0 where
  pub same : (x y : N) → r.same (f x) (f y) ≡ t.same x y
  pub built_in : (x : N) → r.built_in (f x) ≡ t.built_in x

-- ANSWERS
abbrev pub mapped : {A B : Type 0} → (A → B) → Result A Fault → Result B Fault
mapped g (Ok x) = Ok (g x)
mapped g (Err e) = Err e

pub must_mapped : {S U : Type 0} (g : S → U) (b : Bool) (kind : CoreKind) (at : ℕ) (s : S) (u : U) → u ≡ g s
    → (must_be b kind at >>= λ x. Ok u) ≡ mapped g (must_be b kind at >>= λ x. Ok s)
must_mapped g true kind at s u e = ap (λ z. Ok z) e
must_mapped g false kind at s u e = refl

pub must_moved : {S U : Type 0} (g : S → U) (b c : Bool) (kind : CoreKind) (at : ℕ) (s : S) (u : U) → c ≡ b → u ≡ g s
    → (must_be c kind at >>= λ x. Ok u) ≡ mapped g (must_be b kind at >>= λ x. Ok s)
must_moved g b c kind at s u e h = ap (λ (z : Bool). must_be z kind at >>= λ x. Ok u) e ∙ must_mapped g b kind at s u h

pub must_first : {S U : Type 0} (g : S → U) (b : Bool) (kind : CoreKind) (at : ℕ) (s : Result S Fault) (u : Result U Fault) → u ≡ mapped g s
    → (must_be b kind at >>= λ x. u) ≡ mapped g (must_be b kind at >>= λ x. s)
must_first g true kind at s u e = e
must_first g false kind at s u e = refl

pub bind_mapped : {A S U : Type 0} (g : S → U) (q : Result A Fault) (k : A → Result S Fault) (h : A → Result U Fault) → ((x : A) → h x ≡ mapped g (k x))
    → (q >>= h) ≡ mapped g (q >>= k)
bind_mapped g (Ok x) k h e = e x
bind_mapped g (Err y) k h e = refl

pub if_mapped : {S U : Type 0} (g : S → U) (b : Bool) (q p : Result S Fault) (u v : Result U Fault) → u ≡ mapped g q → v ≡ mapped g p
    → (if b then u else v) ≡ mapped g (if b then q else p)
if_mapped g true q p u v e h = e
if_mapped g false q p u v e h = h

-- STACKS
pub since_moved : {N M : Type 0} (f : N → M) (n : ℕ) (xs : List N) → since n (map f xs) ≡ map f (since n xs)
since_moved f n xs = rw (length-map xs f) (take-map f (length xs - n) xs)

pub back_moved : {N M : Type 0} (f : N → M) (n : ℕ) (xs : List N) → back n (map f xs) ≡ map f (back n xs)
back_moved f n xs = rw (length-map xs f) (drop-map f (length xs - n) xs)

pub onto_moved : {N M : Type 0} (f : N → M) (xs ys : List N) → onto (map f xs) (map f ys) ≡ map f (onto xs ys)
onto_moved f [] ys = refl
onto_moved f (x ∷ xs) ys = onto_moved f xs (x ∷ ys)

pub length_since : {N M : Type 0} (f : N → M) (n : ℕ) (xs : List N) → length (since n (map f xs)) ≡ length (since n xs)
length_since f n xs = ap length (since_moved f n xs) ∙ length-map (since n xs) f

pub drop_one : {A B : Type 0} (g : A → B) (xs : List A) → drop 1 (map g xs) ≡ map g (drop 1 xs)
drop_one g [] = refl
drop_one g (x ∷ xs) = refl
