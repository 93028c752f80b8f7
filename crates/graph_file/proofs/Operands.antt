-- A node line is what is written of its node, and what is written is read again.
use Rattle.std.proofs.Common.{◌≡◌, ℕ, ◌^◌, ◌<◌, Bool, true, false, List, [], ◌∷◌, ◌++◌, map, All, Option, Some, None, Ok, Err, ℤ, refl, sym, ap, subst, ◌∙◌}
use Rattle.std.specs.Prelude.{codes, ok_or, option_map, ⊤, if◌then◌else◌}
use Rattle.std.specs.Int.{w64}
use Rattle.std.specs.Int.RustNames.{FitsSigned}
use Rattle.std.specs.Fmt.{decimal}
use Rattle.std.specs.Str.{bytes_eq}
use Rattle.std.proofs.lemmas.List.Elements.{All-nil, All-cons, All-head, All-tail}
use Rattle.std.proofs.lemmas.Slice.Eq.{bytes_eq-Decides}
use Rattle.operators.specs.declared.Unary.TheVariants.{Neg, Not}
use Rattle.operators.specs.declared.Binary.{Binary}
use Rattle.operators.proofs.Every.{all_binary}
use Rattle.semantics.specs.declared.graph.Source.{Source}
use Rattle.semantics.specs.declared.graph.Kind.{Kind}
use Rattle.semantics.specs.declared.graph.Kind.TheVariants as kinds
use Rattle.semantics.specs.declared.words.Operator.{Operator}
use Rattle.semantics.specs.declared.words.Operator.TheVariants as operators
use Rattle.semantics.specs.Words.{operator_word, operator_of as operators_of}
use Rattle.semantics.proofs.OperatorWords.{operator_is as word_is_operator, operator_again}
use Rattle.semantics.specs.Text.{literal, unary_word, binary_word, IsName, IsNumber, IsWrittenSource}
use Rattle.semantics.specs.declared.version.Version.{Version}
use Rattle.semantics.specs.declared.version.Version.TheVariants.{One, Two}
use Rattle.graph_file.specs.declared.fault.ReadFaultKind.TheVariants.{BadNumber, BadName}
use Rattle.graph_file.specs.declared.words.Word.{Word}
use Rattle.graph_file.specs.declared.words.Word.TheVariants.{Lit, Apply1, Apply2, Cond, Enter, Merge, Fetch, Store, Call, StrictCall, Loop}
use Rattle.graph_file.specs.Giving.{◌>>=◌}
use Rattle.graph_file.specs.Fields.{number_of, literal_of, is_name, source_of, field_from, number_from, literal_from, name_from, sources_from}
use Rattle.graph_file.specs.Words.{common_words, word_in, word_for, operator_of, common_of, word_of}
use Rattle.graph_file.specs.Nodes.{kind_from}
use Rattle.graph_file.proofs.Binds.{bind_ok, done, ok_is, ok_or_is}
use Rattle.graph_file.proofs.Marks.{number_is, number_again, literal_is, literal_again}
use Rattle.graph_file.proofs.Names.{name_is, name_from as is_name_from, source_text, source_is, source_again}

-- ---- words

abbrev pub word_text : Word → List ℕ
word_text Lit = codes "lit"
word_text (Apply1 op) = unary_word op
word_text (Apply2 op) = binary_word op
word_text Cond = codes "cond"
word_text Enter = codes "enter"
word_text Merge = codes "merge"
word_text Fetch = codes "fetch"
word_text Store = codes "store"
word_text Call = codes "call"
word_text StrictCall = codes "scall"
word_text Loop = codes "loop"

-- the version has the word
abbrev pub IsWordIn : Word → Version → Type 0
IsWordIn Lit v = ⊤
IsWordIn (Apply1 op) v = ⊤
IsWordIn (Apply2 op) v = ⊤
IsWordIn Cond v = ⊤
IsWordIn Enter v = ⊤
IsWordIn Merge v = ⊤
IsWordIn Fetch v = ⊤
IsWordIn Store v = ⊤
IsWordIn Call v = ⊤
IsWordIn StrictCall One = ⊥
IsWordIn StrictCall Two = ⊤
IsWordIn Loop v = ⊤

abbrev AreWords : Version → List (List ℕ × Word) → Type 0
AreWords v [] = ⊤
AreWords v (e ∷ es) = ((e.0 ≡ word_text e.1) × IsWordIn e.1 v) × AreWords v es

abbrev Spells : Version → List ℕ → Word → Type 0
Spells v bs w = (bs ≡ word_text w) × IsWordIn w v

word_in_is : (v : Version) (table : List (List ℕ × Word)) (otherwise : Option Word) (bs : List ℕ) (w : Word) → AreWords v table
    → (otherwise ≡ Some w → Spells v bs w) → word_in table otherwise bs ≡ Some w → Spells v bs w
word_in_is v [] otherwise bs w h k e = k e
word_in_is v (x ∷ xs) otherwise bs w h k e = go (bytes_eq bs x.0) refl (word_in_is v xs otherwise bs w h.1 k)
  where
    go : (t : Bool) → bytes_eq bs x.0 ≡ t → (word_in xs otherwise bs ≡ Some w → Spells v bs w) → Spells v bs w
    go true t rec =
        let same : Some x.1 ≡ Some w = rw t at e in
        let is : x.1 ≡ w = cc in
        subst (λ (u : Word). Spells v bs u) is ((bytes_eq-Decides bs x.0).0 t ∙ h.0.0, h.0.1)
    go false t rec = rec (let k : word_in xs otherwise bs ≡ Some w = rw t at e in k)

operator_is : (v : Version) (bs : List ℕ) (w : Word) → operator_of bs ≡ Some w → Spells v bs w
unfolding operator_of
operator_is v bs w e = go (operators_of bs) refl
  where
    spells : (o : Operator) → Spells v (operator_word o) (word_for o)
    spells (operators.One op) = (refl, tt)
    spells (operators.Two op) = (refl, tt)

    go : (o : Option Operator) → operators_of bs ≡ o → Spells v bs w
    go None t = absurd (let k : None ≡ Some w = rw t at e in cc)
    go (Some o) t =
        let k : Some (word_for o) ≡ Some w = rw t at e in
        let same : word_for o ≡ w = cc in
        subst (λ (u : Word). Spells v bs u) same (subst (λ (x : List ℕ). Spells v x (word_for o)) (sym (word_is_operator bs o t)) (spells o))

common_is : (v : Version) (bs : List ℕ) (w : Word) → common_of bs ≡ Some w → Spells v bs w
unfolding common_of
common_is v bs w e = word_in_is v common_words (operator_of bs) bs w
    ((refl, tt), ((refl, tt), ((refl, tt), ((refl, tt), ((refl, tt), ((refl, tt), ((refl, tt), ((refl, tt), tt))))))))
    (operator_is v bs w) e

pub word_is : (v : Version) (bs : List ℕ) (w : Word) → word_of v bs ≡ Some w → Spells v bs w
unfolding word_of
word_is One bs w e = common_is One bs w e
word_is Two bs w e = word_in_is Two ((codes "scall", StrictCall) ∷ []) (common_of bs) bs w ((refl, tt), tt) (common_is Two bs w) e

-- the word is none of the table
abbrev is_other : List (List ℕ × Word) → List ℕ → Bool
is_other [] w = true
is_other (e ∷ es) w = if bytes_eq w e.0 then false else is_other es w

other_in : (table : List (List ℕ × Word)) (otherwise : Option Word) (w : List ℕ) → is_other table w ≡ true → word_in table otherwise w ≡ otherwise
other_in [] otherwise w e = refl
other_in (x ∷ xs) otherwise w e = go (bytes_eq w x.0) refl (other_in xs otherwise w)
  where
    go : (t : Bool) → bytes_eq w x.0 ≡ t → (is_other xs w ≡ true → word_in xs otherwise w ≡ otherwise)
        → (if t then Some x.1 else word_in xs otherwise w) ≡ otherwise
    go true t rec = absurd (let k : false ≡ true = rw t at e in cc)
    go false t rec = rec (let k : is_other xs w ≡ true = rw t at e in k)

operator_common : (op : Binary) → common_of (binary_word op) ≡ Some (Apply2 op)
unfolding common_of operator_of
operator_common op =
    other_in common_words (operator_of (binary_word op)) (binary_word op) (all_binary (λ o. is_other common_words (binary_word o)) refl op)
    ∙ ap (λ (o : Option Operator). option_map word_for o) (operator_again (operators.Two op))

pub word_again : (w : Word) (v : Version) → IsWordIn w v → word_of v (word_text w) ≡ Some w
unfolding word_of common_of operator_of operators_of
word_again Lit One h = refl
word_again Lit Two h = refl
word_again Cond One h = refl
word_again Cond Two h = refl
word_again Enter One h = refl
word_again Enter Two h = refl
word_again Merge One h = refl
word_again Merge Two h = refl
word_again Fetch One h = refl
word_again Fetch Two h = refl
word_again Store One h = refl
word_again Store Two h = refl
word_again Call One h = refl
word_again Call Two h = refl
word_again StrictCall One h = absurd h
word_again StrictCall Two h = refl
word_again Loop One h = refl
word_again Loop Two h = refl
word_again (Apply1 Neg) One h = refl
word_again (Apply1 Neg) Two h = refl
word_again (Apply1 Not) One h = refl
word_again (Apply1 Not) Two h = refl
word_again (Apply2 op) One h = operator_common op
word_again (Apply2 op) Two h = other_in ((codes "scall", StrictCall) ∷ []) (common_of (binary_word op)) (binary_word op)
    (all_binary (λ o. is_other ((codes "scall", StrictCall) ∷ []) (binary_word o)) refl op) ∙ operator_common op

-- ---- kinds

abbrev pub word_kind : Kind (List ℕ) → Word
word_kind (kinds.Lit z) = Lit
word_kind (kinds.Apply1 op) = Apply1 op
word_kind (kinds.Apply2 op) = Apply2 op
word_kind kinds.Cond = Cond
word_kind kinds.Enter = Enter
word_kind (kinds.Merge k) = Merge
word_kind (kinds.Fetch a) = Fetch
word_kind (kinds.Store a) = Store
word_kind (kinds.Call f) = Call
word_kind (kinds.StrictCall f) = StrictCall
word_kind (kinds.Loop f k) = Loop

abbrev pub operand_fields : Kind (List ℕ) → List (List ℕ)
operand_fields (kinds.Lit z) = literal z ∷ []
operand_fields (kinds.Apply1 op) = []
operand_fields (kinds.Apply2 op) = []
operand_fields kinds.Cond = []
operand_fields kinds.Enter = []
operand_fields (kinds.Merge k) = decimal k ∷ []
operand_fields (kinds.Fetch a) = a ∷ []
operand_fields (kinds.Store a) = a ∷ []
operand_fields (kinds.Call f) = f ∷ []
operand_fields (kinds.StrictCall f) = f ∷ []
operand_fields (kinds.Loop f k) = f ∷ decimal k ∷ []

abbrev pub HasOperands : Kind (List ℕ) → Type 0
HasOperands (kinds.Lit z) = FitsSigned w64 z
HasOperands (kinds.Apply1 op) = ⊤
HasOperands (kinds.Apply2 op) = ⊤
HasOperands kinds.Cond = ⊤
HasOperands kinds.Enter = ⊤
HasOperands (kinds.Merge k) = IsNumber k
HasOperands (kinds.Fetch a) = IsName a
HasOperands (kinds.Store a) = IsName a
HasOperands (kinds.Call f) = IsName f
HasOperands (kinds.StrictCall f) = IsName f
HasOperands (kinds.Loop f k) = IsName f × IsNumber k

mark_is : {X : Type 0} (of : List ℕ → Option X) (fs : List (List ℕ)) (x : X × List (List ℕ))
    → (field_from fs >>= λ f. ok_or (of f.0) BadNumber >>= λ n. Ok (n, f.1)) ≡ Ok x → (f : List ℕ) × (fs ≡ f ∷ x.1) × (of f ≡ Some x.0)
unfolding field_from
mark_is of [] x e = absurd cc
mark_is of (f ∷ fs) x e =
    let b = bind_ok (ok_or (of f) BadNumber) (λ n. Ok (n, fs)) x e in
    let o = ok_or_is (of f) BadNumber b.0 b.1 in
    let is = ok_is (b.0, fs) x b.2 in
    (f, ap (λ (y : List (List ℕ)). f ∷ y) (ap (λ p. p.1) is), o ∙ ap (λ p. Some p.0) is)

pub number_takes : (fs : List (List ℕ)) (x : ℕ × List (List ℕ)) → number_from fs ≡ Ok x → (fs ≡ decimal x.0 ∷ x.1) × (x.0 < 2 ^ 32)
unfolding number_from
number_takes fs x e =
    let m = mark_is number_of fs x e in
    let n = number_is m.0 x.0 m.2 in
    (m.1 ∙ ap (λ (f : List ℕ). f ∷ x.1) n.0, n.1)

pub number_gives : (n : ℕ) (fs : List (List ℕ)) → n < 2 ^ 32 → number_from (decimal n ∷ fs) ≡ Ok (n, fs)
unfolding number_from field_from
number_gives n fs h = rw (number_again n h) refl

literal_takes : (fs : List (List ℕ)) (x : ℤ × List (List ℕ)) → literal_from fs ≡ Ok x → (fs ≡ literal x.0 ∷ x.1) × FitsSigned w64 x.0
unfolding literal_from
literal_takes fs x e =
    let m = mark_is literal_of fs x e in
    let n = literal_is m.0 x.0 m.2 in
    (m.1 ∙ ap (λ (f : List ℕ). f ∷ x.1) n.0, n.1)

literal_gives : (z : ℤ) (fs : List (List ℕ)) → FitsSigned w64 z → literal_from (literal z ∷ fs) ≡ Ok (z, fs)
unfolding literal_from field_from
literal_gives z fs h = rw (literal_again z h) refl

pub name_takes : (fs : List (List ℕ)) (x : List ℕ × List (List ℕ)) → name_from fs ≡ Ok x → (fs ≡ x.0 ∷ x.1) × IsName x.0
unfolding name_from field_from
name_takes [] x e = absurd cc
name_takes (f ∷ fs) x e = go (is_name f) refl
  where
    go : (t : Bool) → is_name f ≡ t → (f ∷ fs ≡ x.0 ∷ x.1) × IsName x.0
    go true t =
        let k : Ok (f, fs) ≡ Ok x = rw t at e in
        let is = ok_is (f, fs) x k in
        (ap (λ p. p.0 ∷ p.1) is, subst (λ p. IsName p.0) is (name_is f t))
    go false t = absurd (let k : Err BadName ≡ Ok x = rw t at e in cc)

pub name_gives : (f : List ℕ) (fs : List (List ℕ)) → IsName f → name_from (f ∷ fs) ≡ Ok (f, fs)
unfolding name_from field_from
name_gives f fs h = rw (is_name_from f h) refl

-- what a kind's operands are
abbrev Takes : Word → List (List ℕ) → Kind (List ℕ) × List (List ℕ) → Type 0
Takes w fs x = (fs ≡ operand_fields x.0 ++ x.1) × (word_kind x.0 ≡ w) × HasOperands x.0

named : (w : Word) (make : List ℕ → Kind (List ℕ)) → ((f : List ℕ) → IsName f → (fs : List (List ℕ)) → Takes w (f ∷ fs) (make f, fs))
    → (fs : List (List ℕ)) (x : Kind (List ℕ) × List (List ℕ)) → (name_from fs >>= λ a. Ok (make a.0, a.1)) ≡ Ok x → Takes w fs x
named w make h fs x e =
    let b = bind_ok (name_from fs) (λ a. Ok (make a.0, a.1)) x e in
    let n = name_takes fs b.0 b.1 in
    let is = ok_is (make b.0.0, b.0.1) x b.2 in
    subst (Takes w fs) is (subst (λ y. Takes w y (make b.0.0, b.0.1)) (sym n.0) (h b.0.0 n.1 b.0.1))

plain_kind : (w : Word) (k : Kind (List ℕ)) → ((fs : List (List ℕ)) → Takes w fs (k, fs)) → (fs : List (List ℕ)) (x : Kind (List ℕ) × List (List ℕ))
    → done (k, fs) ≡ done x → Takes w fs x
plain_kind w k h fs x e = subst (Takes w fs) (ok_is (k, fs) x e) (h fs)

pub kind_takes : (w : Word) (fs : List (List ℕ)) (x : Kind (List ℕ) × List (List ℕ)) → kind_from w fs ≡ Ok x → Takes w fs x
unfolding kind_from
kind_takes Lit fs x e =
    let b = bind_ok (literal_from fs) (λ z. Ok (kinds.Lit z.0, z.1)) x e in
    let n = literal_takes fs b.0 b.1 in
    subst (Takes Lit fs) (ok_is (kinds.Lit b.0.0, b.0.1) x b.2) (n.0, refl, n.1)
kind_takes (Apply1 op) fs x e = plain_kind (Apply1 op) (kinds.Apply1 op) (λ ys. (refl, refl, tt)) fs x e
kind_takes (Apply2 op) fs x e = plain_kind (Apply2 op) (kinds.Apply2 op) (λ ys. (refl, refl, tt)) fs x e
kind_takes Cond fs x e = plain_kind Cond kinds.Cond (λ ys. (refl, refl, tt)) fs x e
kind_takes Enter fs x e = plain_kind Enter kinds.Enter (λ ys. (refl, refl, tt)) fs x e
kind_takes Merge fs x e =
    let b = bind_ok (number_from fs) (λ k. Ok (kinds.Merge k.0, k.1)) x e in
    let n = number_takes fs b.0 b.1 in
    subst (Takes Merge fs) (ok_is (kinds.Merge b.0.0, b.0.1) x b.2) (n.0, refl, n.1)
kind_takes Fetch fs x e = named Fetch (λ a. kinds.Fetch a) (λ f h ys. (refl, refl, h)) fs x e
kind_takes Store fs x e = named Store (λ a. kinds.Store a) (λ f h ys. (refl, refl, h)) fs x e
kind_takes Call fs x e = named Call (λ a. kinds.Call a) (λ f h ys. (refl, refl, h)) fs x e
kind_takes StrictCall fs x e = named StrictCall (λ a. kinds.StrictCall a) (λ f h ys. (refl, refl, h)) fs x e
kind_takes Loop fs x e =
    let b = bind_ok (name_from fs) (λ f. number_from f.1 >>= λ k. Ok (kinds.Loop f.0 k.0, k.1)) x e in
    let c = bind_ok (number_from b.0.1) (λ k. Ok (kinds.Loop b.0.0 k.0, k.1)) x b.2 in
    let n = name_takes fs b.0 b.1 in
    let m = number_takes b.0.1 c.0 c.1 in
    subst (Takes Loop fs) (ok_is (kinds.Loop b.0.0 c.0.0, c.0.1) x c.2) (n.0 ∙ ap (λ (y : List (List ℕ)). b.0.0 ∷ y) m.0, refl, (n.1, m.1))

pub kind_gives : (k : Kind (List ℕ)) (fs : List (List ℕ)) → HasOperands k → kind_from (word_kind k) (operand_fields k ++ fs) ≡ Ok (k, fs)
unfolding kind_from
kind_gives (kinds.Lit z) fs h = rw (literal_gives z fs h) refl
kind_gives (kinds.Apply1 op) fs h = refl
kind_gives (kinds.Apply2 op) fs h = refl
kind_gives kinds.Cond fs h = refl
kind_gives kinds.Enter fs h = refl
kind_gives (kinds.Merge k) fs h = rw (number_gives k fs h) refl
kind_gives (kinds.Fetch a) fs h = rw (name_gives a fs h) refl
kind_gives (kinds.Store a) fs h = rw (name_gives a fs h) refl
kind_gives (kinds.Call f) fs h = rw (name_gives f fs h) refl
kind_gives (kinds.StrictCall f) fs h = rw (name_gives f fs h) refl
kind_gives (kinds.Loop f k) fs h = rw (name_gives f (decimal k ∷ fs) h.0, number_gives k fs h.1) refl

-- ---- sources

pub sources_take : (fs : List (List ℕ)) (ss : List Source) → sources_from fs ≡ Ok ss → (fs ≡ map source_text ss) × All IsWrittenSource ss
unfolding sources_from
sources_take [] ss e = let k : [] ≡ ss = ok_is [] ss e in subst (λ (y : List Source). ([] ≡ map source_text y) × All IsWrittenSource y) k
    (refl, All-nil IsWrittenSource)
sources_take (f ∷ fs) ss e =
    let b = bind_ok (ok_or (source_of f) BadNumber) (λ s. sources_from fs >>= λ rest. Ok (s ∷ rest)) ss e in
    let c = bind_ok (sources_from fs) (λ rest. Ok (b.0 ∷ rest)) ss b.2 in
    let s = source_is f b.0 (ok_or_is (source_of f) BadNumber b.0 b.1) in
    let rest = sources_take fs c.0 c.1 in
    subst (λ (y : List Source). (f ∷ fs ≡ map source_text y) × All IsWrittenSource y) (ok_is (b.0 ∷ c.0) ss c.2)
    (ap (λ (x : List ℕ). x ∷ fs) s.0 ∙ ap (λ (xs : List (List ℕ)). source_text b.0 ∷ xs) rest.0, All-cons IsWrittenSource b.0 c.0 s.1 rest.1)

pub sources_give : (ss : List Source) → All IsWrittenSource ss → sources_from (map source_text ss) ≡ Ok ss
unfolding sources_from
sources_give [] h = refl
sources_give (s ∷ ss) h = rw (source_again s (All-head IsWrittenSource s ss h), sources_give ss (All-tail IsWrittenSource s ss h)) refl
