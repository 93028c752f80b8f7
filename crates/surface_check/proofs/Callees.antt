-- What is called by a number in a table of names.
use Rattle.std.specs.Prelude.{◌≡◌, refl, ℕ, ◌<◌, nat_le, Bool, true, false, List, [], length, min, take, drop, slice_index_or, Option}
use Rattle.std.proofs.Common.{◌∙◌, ap, sym, arith}
use Rattle.std.proofs.lemmas.Bool.{leb-true, leb-false}
use Rattle.std.proofs.lemmas.List.{take_min, drop_all, get_or_read}
use Rattle.source.specs.Tree.{Name}
use Rattle.source.specs.Words.{name_of}
use Rattle.surface.specs.Known.{Known, Callee, Signature, built_in, callee, lookup}
use Rattle.surface_check.specs.declared.entry.Entry.{Entry}
use Rattle.surface_check.specs.Callees.{CalleesAreKnown}
use Rattle.surface_check.specs.Pins.{callee_in, signature_in}
use Rattle.surface_check.specs.Table.{IsTable}
use Rattle.surface_check.proofs.OverCalls.{callee_as, callee_is}

drop_min : (n : ℕ) (xs : List ℕ) → drop (min n (length xs)) xs ≡ drop n xs
drop_min n xs = go (nat_le n (length xs)) refl
  where
    go : (b : Bool) → nat_le n (length xs) ≡ b → drop (min n (length xs)) xs ≡ drop n xs
    go true h = ap (λ (i : ℕ). drop i xs) (omega (arith, leb-true n (length xs) h))
    go false h = ap (λ (i : ℕ). drop i xs) (omega (arith, leb-false n (length xs) h)) ∙ drop_all (length xs) xs (omega arith) ∙ sym (drop_all n xs (omega (arith, leb-false n (length xs) h)))

pub within : (ranks : List ℕ) (first params : ℕ) (rest own : List ℕ) → rest ≡ drop (min first (length ranks)) ranks → own ≡ take (min params (length rest)) rest
    → own ≡ take params (drop first ranks)
within ranks first params rest own e d = d ∙ take_min params rest ∙ ap (λ (xs : List ℕ). take params xs) (e ∙ drop_min first ranks)

-- a name that is read from the table
pub named_is : (names : List Name) (n : ℕ) (x : Name) → n < length names → x ≡ slice_index_or names n x → x ≡ name_of names n
named_is names n x l e = get_or_read names n x l e []

pub callee_known : (names : List Name) (item : ℕ → Option Entry) (ranks : List ℕ) (strict : Bool) (n : ℕ) (c : Callee)
    → c ≡ callee_in strict (built_in (name_of names n)) (signature_in ranks (item n)) → (k : Known) → IsTable names item ranks k → n < length names
    → c ≡ callee k strict (name_of names n)
callee_known names item ranks strict n c e k t l = e ∙ ap (λ (o : Option Signature). callee_in strict (built_in (name_of names n)) o) (t.functions n l)
    ∙ callee_as strict (name_of names n) (lookup k.functions (name_of names n))

pub callees_are_known : CalleesAreKnown
callees_are_known item ranks known p strict f = callee_is (record { items = record { item = item; ranks = ranks }; known = known; pins = p }) strict f
