-- What lanes, accounts and boxes hold, element by element.
use Rattle.std.proofs.Common.{◌≡◌, refl, sym, ◌∙◌, ap, ℕ, zero, suc, ◌<◌, List, [], ◌∷◌, ◌++◌, length, get_or, drop, append_assoc, arith}
use Rattle.std.proofs.lemmas.List.{append-nil, drop_at}
use mathlib.Core.Option.{some}
use mathlib.Core.List.{IsPrefix}
use lib.ListN.{get_elem?}
use Rattle.tags.specs.declared.token.Token.{Token}
use Rattle.mesh.specs.Deeds.{Bundle}
use Rattle.mesh.specs.Seats.{Account}
use Rattle.element.specs.Holding.{Holding}
use Rattle.schedule.specs.State.{tokens_in}
use Rattle.law_linearization.specs.HistoryLaws.{joined, all_of}

-- ACCOUNTS
abbrev pub no_account : Account
no_account = record { element = 0; deeds = []; held = []; last = [] }

pub at_account : (seats : List Account) (i : ℕ) → i < length seats → get_elem? seats i ≡ some (get_or seats i no_account)
at_account [] i low = absurd (let no : ⊥ = omega (arith, low) in no)
at_account (a ∷ later) zero low = refl
at_account (a ∷ later) (suc i) low = let within : i < length later = omega (arith, low) in at_account later i within

-- LANES
-- the tokens of the first n + 1 are those of the first one and then those of the n others
all_first : (n : ℕ) (f : ℕ → List Token) → all_of (suc n) f ≡ f 0 ++ all_of n (λ e. f (suc e))
all_first zero f = sym (append-nil (f 0))
all_first (suc n) f = ap (λ (l : List Token). l ++ f (suc n)) (all_first n f) ∙ append_assoc (f 0) (all_of n (λ e. f (suc e))) (f (suc n))

-- the tokens of lanes are those of each place
pub tokens_by : (d : Holding) (lanes : List Holding) → tokens_in lanes ≡ all_of (length lanes) (λ e. (get_or lanes e d).queue)
tokens_by d [] = refl
tokens_by d (h ∷ hs) = ap (λ (l : List Token). h.queue ++ l) (tokens_by d hs) ∙ sym (all_first (length hs) (λ e. (get_or (h ∷ hs) e d).queue))

-- BOXES
-- what was sent and not taken
abbrev pub box : List Bundle → List Bundle → List Token
box took sent = joined (drop (length took) sent)

pub joined_append : (xs ys : List Bundle) → joined (xs ++ ys) ≡ joined xs ++ joined ys
joined_append [] ys = refl
joined_append (x ∷ xs) ys = ap (λ (l : List Token). x ++ l) (joined_append xs ys) ∙ sym (append_assoc x (joined xs) (joined ys))

pub box_is : (took sent : List Bundle) → IsPrefix took sent → joined sent ≡ joined took ++ box took sent
box_is took sent (left, is) =
    let beyond : left ≡ drop (length took) sent = sym (drop_at took left (length took) refl) ∙ ap (λ (l : List Bundle). drop (length took) l) is in
    ap (λ (l : List Bundle). joined l) (sym is) ∙ joined_append took left ∙ ap (λ (l : List Bundle). joined took ++ joined l) beyond
