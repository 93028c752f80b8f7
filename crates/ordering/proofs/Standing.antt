-- What is left of a log stands for blocks.
use Rattle.std.proofs.Common.{◌≡◌, refl, sym, ◌∙◌, ap, ap₂, subst, ℕ, List, [], ◌∷◌, ◌++◌, length, take, drop, map, append_assoc, append-nil}
use Rattle.std.specs.Prelude.{All}
use Rattle.std.specs.List.{flat_map}
use Rattle.std.proofs.lemmas.List.{length-map}
use Rattle.std.proofs.lemmas.List.Elements.{All-head, All-tail}
use Rattle.tags.specs.declared.token.Token.{Token}
use Rattle.rounds.specs.Turns.{by}
use Rattle.law_linearization.specs.History.{Act, Block, by_element}
use Rattle.ordering.specs.declared.log.Counts.{Counts}
use Rattle.ordering.specs.declared.rest.Rest.{Rest}
use Rattle.ordering.specs.Noted.{Noted}
use Rattle.ordering.specs.Logs.{taken_in, made_in, counts_of, SpendsOldest, Logs}
use Rattle.ordering.specs.Rests.{first_spent, IsLogOf, IsWhole, IsRestOf}

abbrev Tokens : Type 0
Tokens = List Token

take_all_of : (xs ys : Tokens) → take (length xs) (xs ++ ys) ≡ xs
take_all_of [] ys = refl
take_all_of (x ∷ xs) ys = ap (λ (l : Tokens). x ∷ l) (take_all_of xs ys)

drop_all_of : (xs ys : Tokens) → drop (length xs) (xs ++ ys) ≡ ys
drop_all_of [] ys = refl
drop_all_of (x ∷ xs) ys = drop_all_of xs ys

take_front : (n : ℕ) (xs ys : Tokens) → length xs ≡ n → take n (xs ++ ys) ≡ xs
take_front n xs ys e = subst (λ (k : ℕ). take k (xs ++ ys) ≡ xs) e (take_all_of xs ys)

drop_front : (n : ℕ) (xs ys : Tokens) → length xs ≡ n → drop n (xs ++ ys) ≡ ys
drop_front n xs ys e = subst (λ (k : ℕ). drop k (xs ++ ys) ≡ ys) e (drop_all_of xs ys)

-- the lists of a log stand for its blocks
stand : (blocks : List Block) (taken made : Tokens) (counts : List Counts) → taken ≡ flat_map taken_in blocks → made ≡ flat_map made_in blocks
    → counts ≡ map counts_of blocks → All SpendsOldest blocks
    → IsLogOf (first_spent taken counts) taken made counts blocks
stand [] taken made counts t m c oldest = (ap (first_spent taken) c, c)
stand (b ∷ later) taken made counts t m c oldest =
    let ts : Tokens = flat_map taken_in later in
    let ms : Tokens = flat_map made_in later in
    let size : length (taken_in b) ≡ length b.acts = length-map b.acts (λ (a : Act). a.token) in
    let old : SpendsOldest b = All-head SpendsOldest b later oldest in
    let spent : first_spent taken counts ≡ b.spent
    = ap₂ (λ (l : Tokens) (cs : List Counts). first_spent l cs) t c ∙ ap (λ (l : Tokens). take (length b.spent) (l ++ ts)) old.1
    ∙ ap (take (length b.spent)) (append_assoc b.spent old.0 ts) ∙ take_front (length b.spent) b.spent (old.0 ++ ts) refl in (
      spent,
      counts_of b,
      map counts_of later,
      c,
      ap (take (length b.acts)) t ∙ take_front (length b.acts) (taken_in b) ts size,
      ap (take (length b.made)) m ∙ take_front (length b.made) b.made ms refl,
      stand later (drop (length b.acts) taken) (drop (length b.made) made) (map counts_of later)
          (ap (drop (length b.acts)) t ∙ drop_front (length b.acts) (taken_in b) ts size)
          (ap (drop (length b.made)) m ∙ drop_front (length b.made) b.made ms refl)
          refl (All-tail SpendsOldest b later oldest),
    )

-- lists that are others
pub stands_same : (n m t s d f : Tokens) (c k : List Counts) (blocks : List Block) → n ≡ m → t ≡ s → d ≡ f → c ≡ k → IsLogOf m s f k blocks
    → IsLogOf n t d c blocks
stands_same n m t s d f c k blocks a b e g stands =
    subst (λ (l : Tokens). IsLogOf l t d c blocks) (sym a) (subst (λ (l : Tokens). IsLogOf m l d c blocks) (sym b)
    (subst (λ (l : Tokens). IsLogOf m s l c blocks) (sym e) (subst (λ (l : List Counts). IsLogOf m s f l blocks) (sym g) stands)))

pub stands_whole : (r : Rest) (taken made : Tokens) (counts : List Counts) (blocks : List Block) → IsWhole taken made counts r
    → IsLogOf (first_spent taken counts) taken made counts blocks → IsRestOf r blocks
stands_whole r taken made counts blocks whole stands = stands_same r.needed.now (first_spent taken counts) r.taken.now taken r.made.now made
    r.blocks.now counts blocks whole.0 whole.1 whole.2 whole.3 stands

-- all of a log stands for its blocks
pub log_stands : (r : Rest) (n : Noted) (blocks : List Block) → IsWhole n.taken n.made n.blocks r → Logs n blocks → IsRestOf r blocks
log_stands r n blocks whole logs =
    stands_whole r n.taken n.made n.blocks blocks whole
    (stand blocks n.taken n.made n.blocks (logs.taken ∙ append-nil (flat_map taken_in blocks)) (logs.made ∙ append-nil (flat_map made_in blocks))
    logs.counts logs.oldest)

-- the events of a block
pub by_tokens : (e : ℕ) (acts : List Act) → by e (map (λ (a : Act). a.token) acts) ≡ by_element e acts
by_tokens e [] = refl
by_tokens e (a ∷ later) = ap (λ (l : List (ℕ × Token)). (e, a.token) ∷ l) (by_tokens e later)
