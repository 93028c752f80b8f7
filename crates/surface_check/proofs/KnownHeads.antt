-- What is read from the words of code is what is known of the program.
use Rattle.std.specs.Prelude.{◌≡◌, refl, ℕ, ◌<◌, ◌⊎◌, List, length, map, Option, Result, Ok, Err, IfOk, IfErr, MatchResult}
use Rattle.std.proofs.Common.{◌∙◌, ap, sym, subst, inl, inr}
use Rattle.source.specs.Tree.{Name}
use Rattle.source.specs.Words.{name_of}
use Rattle.surface.specs.declared.fault.Fault.{Fault}
use Rattle.surface.specs.declared.word.Word.{Word}
use Rattle.surface.specs.Tree.{Program}
use Rattle.surface.specs.Words.{program_words, IsProgram}
use Rattle.surface.specs.Known.{Known, nothing, lookup}
use Rattle.surface.specs.Rules.{heads}
use Rattle.surface_check.specs.declared.entry.Entry.{Entry}
use Rattle.surface_check.specs.declared.heads.Head.TheVariants as open_head
use Rattle.surface_check.specs.Checks.{AsKnown, HeadsAreRead}
use Rattle.surface_check.specs.Heads.{Heads, no_heads, heads_read}
use Rattle.surface_check.specs.Pins.{constant_in, array_in, signature_in}
use Rattle.surface_check.specs.Renamed.{numbers_in, renamed}
use Rattle.surface_check.specs.Table.{TableView, item_in, IsTable, Knows, HeadsGive, out_of_memory}
use Rattle.surface_check.proofs.HeadsRead.{by_bytes, ReadAs, KnowsAll, heads_are_read}
use Rattle.surface_check.proofs.RenamedHeads.{Both, IsBoth, heads_alike}
use Rattle.surface_check.proofs.Numbering.{named_by, within, numbers_alike, all_renamed}

abbrev pub TableAs : List Name → Result (Heads ℕ) Fault → Result Known Fault → Type 0
TableAs names (Ok h) (Ok known) = IsTable names h.item h.ranks known
TableAs names (Err f) (Err g) = f ≡ g
TableAs names r q = ⊥

pinned : {A : Type 0} (names : List Name) (f : Option Entry → Option A) (item : ℕ → Option Entry) (above : Name → Option Entry) (entries : Name → Option A)
    → item ≡ (λ n. above (named_by names n)) → ((x : Name) → f (above x) ≡ entries x) → (n : ℕ) → n < length names
    → f (item n) ≡ entries (name_of names n)
pinned {A} names f item above entries e h n l = ap (λ (i : ℕ → Option Entry). f (i n)) e ∙ h (named_by names n) ∙ ap entries (within names n l)

table_is : (names : List Name) (l : Heads ℕ) (k : Heads Name) (known : Known) → IsBoth (named_by names) l k
    → KnowsAll k.item k.ranks k.arrays k.cells known → IsTable names l.item l.ranks known
table_is names l k known b a =
    let e : l.item ≡ (λ n. k.item (named_by names n)) = ap (λ (h : Heads ℕ). h.item) b.lower ∙ sym (ap (λ (h : Heads Name). λ (n : ℕ). h.item (named_by names
    n)) b.higher) in
    let r : l.ranks ≡ k.ranks = ap (λ (h : Heads ℕ). h.ranks) b.lower ∙ sym (ap (λ (h : Heads Name). h.ranks) b.higher) in
    record {
      constants = pinned names constant_in l.item k.item (lookup known.constants) e a.pins.constants;
      arrays = pinned names array_in l.item k.item (lookup known.arrays) e a.pins.arrays;
      functions = λ n h. ap (λ (rs : List ℕ). signature_in rs (l.item n)) r ∙ pinned names (signature_in k.ranks) l.item k.item (lookup known.functions) e
          a.pins.functions n h;
    }

together : (names : List Name) (r : Result (Heads ℕ) Fault) (s : Result (Heads Name) Fault) (q : Result Known Fault) → Both (named_by names) r s → ReadAs s q
    → TableAs names r q
together names (Ok l) (Ok k) (Ok known) b a = table_is names l k known b a.0
together names (Err e) (Err d) (Err f) b a = b ∙ a
together names (Ok l) (Ok k) (Err f) b a = absurd a
together names (Err e) (Err d) (Ok known) b a = absurd a
together names (Ok l) (Err d) q b a = absurd b
together names (Err e) (Ok k) q b a = absurd b

pub heads_are_known : (names : List Name) (ws : List (Word ℕ)) (p : Program) → IsProgram names ws p
    → TableAs names (heads_read (numbers_in names) no_heads ws) (heads nothing p)
heads_are_known names ws p i =
    let e : map (renamed (named_by names)) ws ≡ program_words p = sym (all_renamed names (named_by names) (λ n l. sym (within names n l)) ws i.words.known)
    ∙ i.words.words in
    together names (heads_read (numbers_in names) no_heads ws) (heads_read by_bytes no_heads (map (renamed (named_by names)) ws)) (heads nothing p)
    (heads_alike (named_by names) (numbers_in names) by_bytes (numbers_alike names i.words.distinct) ws no_heads no_heads (record {
      heads = no_heads;
      open_now = open_head.Outside;
      lower = refl;
      higher = refl;
    }))
    (subst (λ (us : List (Word Name)). ReadAs (heads_read by_bytes no_heads us) (heads nothing p)) (sym e) (heads_are_read p i.fits))

known_from : (names : List Name) (t : TableView) (r : Result (Heads ℕ) Fault) (q : Result Known Fault) → TableAs names r q → HeadsGive t r
    → (known : Known) × (q ≡ Ok known) × IsTable names (item_in t.entries) t.ranks known
known_from names t (Ok h) (Ok known) a g = (
  known,
  refl,
  subst (λ (rs : List ℕ). IsTable names (item_in t.entries) rs known) g.1
      (subst (λ (item : ℕ → Option Entry). IsTable names item h.ranks known) g.0 a),
)
known_from names t (Err f) q a g = absurd g
known_from names t (Ok h) (Err f) a g = absurd a

pub table_is_known : (names seen : List Name) (ws gone : List (Word ℕ)) (t : TableView) → seen ≡ names → gone ≡ ws
    → HeadsGive t (heads_read (numbers_in seen) no_heads gone) → Knows names ws t
table_is_known names seen ws gone t e d g = λ p i. known_from names t (heads_read (numbers_in names) no_heads ws) (heads nothing p) (heads_are_known names ws p i)
    (subst (λ us. HeadsGive t (heads_read (numbers_in names) no_heads us)) d (subst (λ xs. HeadsGive t (heads_read (numbers_in xs) no_heads gone)) e g))

same_fault : (names : List Name) (r : Result (Heads ℕ) Fault) (q : Result Known Fault) (f : Fault) → TableAs names r q → r ≡ Err f → q ≡ Err f
same_fault names (Err e) (Err d) f a h = let k : e ≡ f = cc in ap Err (sym a ∙ k)
same_fault names (Ok l) q f a h = absurd (cc)
same_fault names (Err e) (Ok known) f a h = absurd a

pub first_fault : (names seen : List Name) (ws gone : List (Word ℕ)) (f : Fault) → seen ≡ names → gone ≡ ws
    → (f ≡ out_of_memory) ⊎ (heads_read (numbers_in seen) no_heads gone ≡ Err f) → (p : Program) → IsProgram names ws p
    → (f ≡ out_of_memory) ⊎ (heads nothing p ≡ Err f)
first_fault names seen ws gone f e d (inl h) p i = inl h
first_fault names seen ws gone f e d (inr h) p i = inr (same_fault names (heads_read (numbers_in names) no_heads ws) (heads nothing p) f
    (heads_are_known names ws p i) (subst (λ us. heads_read (numbers_in names) no_heads us ≡ Err f) d (subst (λ xs. heads_read (numbers_in xs) no_heads gone ≡
    Err f) e h)))

-- what the answers of code say
abbrev pub Reads : List Name → List (Word ℕ) → Result TableView Fault → Type 0
Reads names ws r = MatchResult r (λ t. HeadsGive t (heads_read (numbers_in names) no_heads ws))
    (λ f. (f ≡ out_of_memory) ⊎ (heads_read (numbers_in names) no_heads ws ≡ Err f))

pub known_when : (names : List Name) (ws : List (Word ℕ)) (r : Result TableView Fault) → Reads names ws r → IfOk r (λ t. Knows names ws t)
known_when names ws (Ok t) h = table_is_known names names ws ws t refl refl h
known_when names ws (Err f) h = tt

pub refused_when : (names : List Name) (ws : List (Word ℕ)) (r : Result TableView Fault) → Reads names ws r → (p : Program) → IsProgram names ws p
    → IfErr r (λ f. (f ≡ out_of_memory) ⊎ (heads nothing p ≡ Err f))
refused_when names ws (Ok t) h p i = tt
refused_when names ws (Err f) h p i = first_fault names names ws ws f refl refl h p i

as_known : (r : Result (Heads Name) Fault) (q : Result Known Fault) → ReadAs r q → AsKnown r q
as_known (Ok h) (Ok known) a = a.0.pins
as_known (Err f) (Err g) a = a
as_known (Ok h) (Err g) a = absurd a
as_known (Err f) (Ok known) a = absurd a

pub read_as_known : HeadsAreRead
read_as_known p f = as_known (heads_read by_bytes no_heads (program_words p)) (heads nothing p) (heads_are_read p f)
