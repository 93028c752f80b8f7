-- THE WORDS OF CODE are checked as the rules check the program whose words they are.
use Rattle.std.specs.Prelude.{◌≡◌, refl, ℕ, ◌+◌, ◌<◌, nat_lt, Bool, true, false, List, [], ◌∷◌, ◌++◌, length, map, All, Result, Ok, Err, ⊤}
use Rattle.std.proofs.Common.{◌∙◌, ap, sym, arith, inl, inr}
use Rattle.std.proofs.lemmas.Bool.{ltb-true, ltb-false}
use Rattle.std.proofs.lemmas.List.{length-append}
use Rattle.std.proofs.lemmas.List.Elements.{All-head, All-tail}
use Rattle.std.proofs.Math.ListN.{get_or-append}
use Rattle.std.proofs.Math.Seq.{get_or-append_seam}
use Rattle.semantics.specs.Graph.{same_name}
use Rattle.source.specs.declared.fault.FaultKind.TheVariants.{NoMain}
use Rattle.source.specs.declared.word.Word.TheVariants as core_word
use Rattle.source.specs.Tree.{Name}
use Rattle.source.specs.Words.{name_of}
use Rattle.source.specs.Rules.{main_name}
use Rattle.surface.specs.declared.fault.Fault.{Fault}
use Rattle.surface.specs.declared.word.Word.{Word}
use Rattle.surface.specs.declared.word.Word.TheVariants as word
use Rattle.surface.specs.Tree.{Program}
use Rattle.surface.specs.Fits.{FitsProgram}
use Rattle.surface.specs.Words.{numbers_of, program_words}
use Rattle.surface.specs.First.{◌>>=◌, must_be}
use Rattle.surface.specs.Known.{built_in}
use Rattle.surface.specs.Rules.{checked}
use Rattle.surface_check.specs.declared.heads.Head.{Head}
use Rattle.surface_check.specs.declared.heads.Head.TheVariants as open_head
use Rattle.surface_check.specs.Heads.{Names, Heads, no_heads, heads_read}
use Rattle.surface_check.specs.Steps.{State, Plain, begun, steps}
use Rattle.surface_check.specs.Checks.{by_bytes, is_function, words_checked}
use Rattle.surface_check.specs.Renamed.{renamed, numbers_in}
use Rattle.surface_check.specs.NumbersChecked.{NumbersAreChecked}
use Rattle.surface_check.proofs.Moved.{state_moved, items_by, StepsAlike, mapped}
use Rattle.surface_check.proofs.RenamedHeads.{Alike, low, high, Both, heads_alike}
use Rattle.surface_check.proofs.RenamedLoops.{steps_moved}
use Rattle.surface_check.proofs.OtherMain.{IsNamed, AreNamed, heads_same}
use Rattle.surface_check.proofs.Numbering.{named_by, within, none_beyond, Distinct, numbers_alike, all_renamed}
use Rattle.surface_check.proofs.OverFunctions.{words_are_checked}

-- RENAMED
abbrev done : Result ⊤ Fault
done = Ok tt

answers_nothing : {N M : Type 0} (f : N → M) (q : Result (State N) Fault)
    → (mapped (state_moved f) q >>= λ (last : State M). done) ≡ (q >>= λ (last : State N). done)
answers_nothing f (Ok s) = refl
answers_nothing f (Err e) = refl

-- once the heads are read
abbrev after : {N : Type 0} → Names N → N → ℕ → List (Word N) → Heads N → Result ⊤ Fault
after t main end ws h = must_be (is_function (h.item main)) NoMain end >>= λ there. steps t (record { item = h.item; ranks = h.ranks }) (Plain begun) ws >>= λ last. Ok tt

after_moved : {N M : Type 0} (f : N → M) (t : Names N) (r : Names M) → StepsAlike f t r → (main : N) (end : ℕ) (ws : List (Word N)) (h : Heads M) (o : Head N)
    → after r (f main) end (map (renamed f) ws) (high f h o) ≡ after t main end ws (low f h o)
after_moved {N} {M} f t r a main end ws h o =
    ap (λ (q : Result ⊤ Fault). must_be (is_function (h.item (f main))) NoMain end >>= λ there. q)
    (ap (λ (q : Result (State M) Fault). q >>= λ last. done) (steps_moved f t r a (record { item = h.item; ranks = h.ranks }) ws (Plain begun))
    ∙ answers_nothing f (steps t (items_by f (record { item = h.item; ranks = h.ranks })) (Plain begun) ws))

-- The heads may be read by other names than those of the steps.
check_renamed : {N M : Type 0} (f : N → M) (t u : Names N) (r : Names M) → Alike f u r → StepsAlike f t r → (main : N) (end : ℕ) (ws : List (Word N))
    → words_checked r (f main) end (map (renamed f) ws) ≡ (heads_read u no_heads ws >>= λ h. after t main end ws h)
check_renamed {N} {M} f t u r a b main end ws =
    go (heads_read u no_heads ws) (heads_read r no_heads (map (renamed f) ws)) (heads_alike f u r a ws no_heads no_heads (record {
      heads = no_heads;
      open_now = open_head.Outside;
      lower = refl;
      higher = refl;
    }))
  where
    go : (q : Result (Heads N) Fault) (s : Result (Heads M) Fault) → Both f q s
        → (s >>= λ h. after r (f main) end (map (renamed f) ws) h) ≡ (q >>= λ h. after t main end ws h)
    go (Ok l) (Ok k) c =
        ap (λ (z : Heads M). after r (f main) end (map (renamed f) ws) z) c.higher ∙ after_moved f t r b main end ws c.heads c.open_now
        ∙ sym (ap (λ (z : Heads N). after t main end ws z) c.lower)
    go (Err e) (Err d) c = ap (λ (z : Fault). Err z) (sym c)
    go (Ok l) (Err d) c = absurd c
    go (Err e) (Ok k) c = absurd c

in_steps : {N M : Type 0} (f : N → M) (t : Names N) (r : Names M) → Alike f t r → StepsAlike f t r
in_steps f t r a = record { same = a.same; built_in = a.built_in }

-- where the words are those of a program, and this is its `main`
as_rules_say : (nm : ℕ → Name) (t u : Names ℕ) → Alike nm u by_bytes → StepsAlike nm t by_bytes → (ws : List (Word ℕ)) (main end : ℕ) (p : Program) → FitsProgram p
    → map (renamed nm) ws ≡ program_words p → nm main ≡ main_name → (heads_read u no_heads ws >>= λ h. after t main end ws h) ≡ checked end p
as_rules_say nm t u a b ws main end p fits w m =
    sym (check_renamed nm t u by_bytes a b main end ws)
    ∙ ap (λ (x : Name). words_checked by_bytes x end (map (renamed nm) ws)) m
    ∙ ap (words_checked by_bytes main_name end) w ∙ words_are_checked end p fits

-- the table with `main`
abbrev more : List Name → List Name
more names = names ++ main_name ∷ []

same_place : (names : List Name) (n : ℕ) → n < length names → name_of (more names) n ≡ name_of names n
same_place names n h = get_or-append names (main_name ∷ []) [] n h

main_place : (names : List Name) → name_of (more names) (length names) ≡ main_name
main_place names = get_or-append_seam names main_name [] []

longer : (names : List Name) → length (more names) ≡ length names + 1
longer names = length-append names (main_name ∷ [])

at_the_end : (names : List Name) (n : ℕ) → n < length (more names) → nat_lt n (length names) ≡ false → n ≡ length names
at_the_end names n h f = omega (arith, h, longer names, ltb-false n (length names) f)

abbrev HasNoMain : List Name → Type 0
HasNoMain names = (n : ℕ) → n < length names → name_of names n ≡ main_name → ⊥

more_distinct : (names : List Name) → Distinct names → HasNoMain names → Distinct (more names)
more_distinct names d none i j x y e = go (nat_lt i (length names)) (nat_lt j (length names)) refl refl
  where
    go : (b c : Bool) → nat_lt i (length names) ≡ b → nat_lt j (length names) ≡ c → i ≡ j
    go true true p q =
        let u : i < length names = ltb-true i (length names) p in let v : j < length names = ltb-true j (length names) q in
        d i j u v (sym (same_place names i u) ∙ e ∙ same_place names j v)
    go true false p q =
        let u : i < length names = ltb-true i (length names) p in
        absurd (none i u (sym (same_place names i u) ∙ e ∙ ap (name_of (more names)) (at_the_end names j y q) ∙ main_place names))
    go false true p q =
        let v : j < length names = ltb-true j (length names) q in
        absurd (none j v (sym (same_place names j v) ∙ sym e ∙ ap (name_of (more names)) (at_the_end names i x p) ∙ main_place names))
    go false false p q = at_the_end names i x p ∙ sym (at_the_end names j y q)

-- `main` is not built in
built_in_same : (names : List Name) (n : ℕ) → built_in (name_of (more names) n) ≡ built_in (name_of names n)
built_in_same names n = go (nat_lt n (length names)) (nat_lt n (length (more names))) refl refl
  where
    go : (b c : Bool) → nat_lt n (length names) ≡ b → nat_lt n (length (more names)) ≡ c → built_in (name_of (more names) n) ≡ built_in (name_of names n)
    go true c p q = ap (λ (x : Name). built_in x) (same_place names n (ltb-true n (length names) p))
    go false true p q =
        let e : n ≡ length names = at_the_end names n (ltb-true n (length (more names)) q) p in
        let there : built_in (name_of (more names) n) ≡ built_in [] = ap (λ (i : ℕ). built_in (name_of (more names) i)) e
        ∙ ap (λ (x : Name). built_in x) (main_place names) in
        there ∙ sym (ap (λ (x : Name). built_in x) (none_beyond names n (ltb-false n (length names) p)))
    go false false p q = ap (λ (x : Name). built_in x) (none_beyond (more names) n (ltb-false n (length (more names)) q)
        ∙ sym (none_beyond names n (ltb-false n (length names) p)))

is_named : (names : List Name) (w : Word ℕ) → All (λ n. n < length names) (numbers_of w) → IsNamed (λ n. n < length names) w
is_named names (word.Core (core_word.Function at x)) a = All-head (λ n. n < length names) x [] a
is_named names w a = tt

are_named : (names : List Name) (ws : List (Word ℕ)) → All (λ w. All (λ n. n < length names) (numbers_of w)) ws → AreNamed (λ n. n < length names) ws
are_named names [] a = tt
are_named names (w ∷ ws) a = (
  is_named names w (All-head (λ v. All (λ n. n < length names) (numbers_of v)) w ws a),
  are_named names ws (All-tail (λ v. All (λ n. n < length names) (numbers_of v)) w ws a),
)

more_heads : (names : List Name) (ws : List (Word ℕ)) → All (λ w. All (λ n. n < length names) (numbers_of w)) ws
    → heads_read (numbers_in (more names)) no_heads ws ≡ heads_read (numbers_in names) no_heads ws
more_heads names ws a =
    heads_same (λ n. n < length names) (numbers_in names) (numbers_in (more names)).is_main (numbers_in (more names)).built_in
    (λ n l. ap (λ (x : Name). same_name x main_name) (same_place names n l)) ws no_heads (are_named names ws a) tt

-- WHAT A CHECK OF WORDS ANSWERS is what the rules say of the program.
pub numbers_are_checked : NumbersAreChecked
numbers_are_checked names ws p main end a fits (inl (h, e)) =
    let alike = numbers_alike names a.distinct in
    as_rules_say (named_by names) (numbers_in names) (numbers_in names) alike (in_steps (named_by names) (numbers_in names) by_bytes alike) ws main end p fits
    (sym (all_renamed names (named_by names) (λ n l. sym (within names n l)) ws a.known) ∙ a.words) (within names main h ∙ e)
numbers_are_checked names ws p main end a fits (inr (e, none)) =
    let inside : (n : ℕ) → n < length names → n < length (more names) = λ n l. omega (arith, l, longer names) in
    let there : length names < length (more names) = omega (arith, longer names) in
    let alike = numbers_alike (more names) (more_distinct names a.distinct none) in
    ap (λ (r : Result (Heads ℕ) Fault). r >>= λ h. after (numbers_in names) main end ws h) (sym (more_heads names ws a.known))
    ∙ as_rules_say (named_by (more names)) (numbers_in names) (numbers_in (more names)) alike (record {
      same = alike.same;
      built_in = λ n. alike.built_in n ∙ built_in_same names n;
    }) ws main end p fits
    (sym (all_renamed names (named_by (more names)) (λ n l. sym (within (more names) n (inside n l) ∙ same_place names n l)) ws a.known) ∙ a.words)
    (ap (named_by (more names)) e ∙ within (more names) (length names) there ∙ main_place names)
