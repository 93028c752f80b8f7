-- WHERE A FITTING PROGRAM GOES ON, the automaton does: it takes that token, where enough may be open.
use Rattle.std.proofs.Common.{◌≡◌, ℕ, ◌+◌, ◌≤◌, List, [], ◌∷◌, ◌++◌, map, Option, None, Some, Result, Ok, Err, refl, sym, ap, ◌∙◌, subst}
use Rattle.std.specs.Prelude.{◌⊎◌}
use Rattle.lemmas.proofs.Lists.{map_append}
use Rattle.source.specs.declared.fault.FaultKind.{FaultKind}
use Rattle.source.specs.Tree.{Name, Program}
use Rattle.source.specs.Spelled.{Lexeme, Spelling, IsPlace, program_tokens}
use Rattle.source.specs.Fits.{FitsProgram, program_depth}
use Rattle.source.specs.Words.{Words}
use Rattle.source.specs.Parses.{says}
use Rattle.law_language.specs.declared.symbol.Symbol.{Symbol}
use Rattle.law_language.specs.declared.symbol.Symbol.TheVariants.{Items}
use Rattle.law_language.specs.GrammarAutomaton.{Stack, Placed, Moved, moved_after, advance, ended, ended_then, finish}
use Rattle.law_language.proofs.GrammarRuns.{Spells, moved_by, advance_all}
use Rattle.law_language.proofs.GrammarSound.{said, ready_so_far}
use Rattle.law_language.proofs.GrammarLeads.{advance_append}
use Rattle.law_language.proofs.GrammarComplete.{program_advances}
use Rattle.law_language.proofs.GrammarAlike.{AlikeSymbol, same, emits, targets_alike, let_ends, names, indexes, call_ends, bounds, AlikeStacks, both_empty}
use Rattle.law_language.proofs.GrammarAlike.{on_top, alike_self}
use Rattle.law_language.proofs.GrammarTwoRuns.{LikeMoved, like_advance, alike_run}

-- AT THE END
pub data AlikeOption : Option Words → Option Words → Type 0 where
  none_both : AlikeOption None None
  some_both : (ws vs : Words) → AlikeOption (Some ws) (Some vs)

pub alike_itself : (o : Option Words) → AlikeOption o o
alike_itself None = none_both
alike_itself (Some ws) = some_both ws ws

pub alike_ended : (s t : Symbol Name) → AlikeSymbol s t → AlikeOption (ended s) (ended t)
alike_ended _ _ (same s) = alike_itself (ended s)
alike_ended _ _ (emits w v) = some_both _ _
alike_ended _ _ (targets_alike a b d) = none_both
alike_ended _ _ (let_ends a b d) = none_both
alike_ended _ _ (names a b x m d) = none_both
alike_ended _ _ (indexes a b x m d) = none_both
alike_ended _ _ (call_ends a b strict f d) = none_both
alike_ended _ _ (bounds a b d) = none_both

pub alike_then : (o p q r : Option Words) → AlikeOption o p → AlikeOption q r → AlikeOption (ended_then o q) (ended_then p r)
alike_then _ _ q r none_both h = none_both
alike_then _ _ _ _ (some_both ws vs) none_both = none_both
alike_then _ _ _ _ (some_both ws vs) (some_both us ts) = some_both _ _

pub alike_finish : (S T : Stack) → AlikeStacks S T → AlikeOption (finish S) (finish T)
alike_finish _ _ both_empty = some_both [] []
alike_finish _ _ (on_top {s = s} {t = t} {S = S} {T = T} a h) = alike_then (ended s) (ended t) (finish S) (finish T) (alike_ended s t a) (alike_finish S T h)

pub not_both : (o : Option Words) (ws : Words) → AlikeOption None o → o ≡ Some ws → ⊥
not_both _ ws none_both e = cc

-- TOKENS OF A TREE, at its places
pub place_or : Option ℕ → ℕ
place_or None = 0
place_or (Some at) = at

pub is_place : (place : Option ℕ) → IsPlace place (place_or place)
unfolding place_or
is_place None = tt
is_place (Some at) = refl

pub placed_of : List Spelling → List Placed
placed_of [] = []
placed_of (s ∷ ss) = record { at = place_or s.place; lexeme = s.lexeme } ∷ placed_of ss

pub spells_itself : (ss : List Spelling) → Spells ss (placed_of ss)
unfolding placed_of
spells_itself [] = tt
spells_itself (s ∷ ss) = ((refl, is_place s.place), spells_itself ss)

pub said_of : (ss : List Spelling) → map (λ (s : Spelling). s.lexeme) ss ≡ said (placed_of ss)
unfolding placed_of
said_of [] = refl
said_of (s ∷ ss) = ap (λ ls. s.lexeme ∷ ls) (said_of ss)

-- what is before a token, and after it
pub record SaidSplit (ps : List Placed) (ls : List Lexeme) (l : Lexeme) : Type 0 where
  pub left : List Placed
  pub token : Placed
  pub right : List Placed
  pub is : ps ≡ left ++ token ∷ right
  pub before : said left ≡ ls
  pub says : token.lexeme ≡ l

pub one_more : (p : Placed) (ps : List Placed) (k : Lexeme) (ls : List Lexeme) (l : Lexeme) → p.lexeme ≡ k → SaidSplit ps ls l → SaidSplit (p ∷ ps) (k ∷ ls) l
one_more p ps k ls l head s =
    record { left = p ∷ s.left; token = s.token; right = s.right; is = ap (λ qs. p ∷ qs) s.is; before = (λ i. head i ∷ s.before i); says = s.says }

pub said_split : (ps : List Placed) (ls : List Lexeme) (l : Lexeme) (rest : List Lexeme) → said ps ≡ ls ++ l ∷ rest → SaidSplit ps ls l
said_split [] [] l rest e = absurd cc
said_split [] (k ∷ ls) l rest e = absurd cc
said_split (p ∷ ps) [] l rest e = record { left = []; token = p; right = ps; is = refl; before = refl; says = cc }
said_split (p ∷ ps) (k ∷ ls) l rest e =
    let tail : said ps ≡ ls ++ l ∷ rest = cc in
    let head : p.lexeme ≡ k = cc in
    one_more p ps k ls l head (said_split ps ls l rest tail)

pub record AdvanceSplit (limit : ℕ) (S : Stack) (ps : List Placed) (p : Placed) : Type 0 where
  pub early : Moved
  pub next : Moved
  pub begun : advance_all limit S ps ≡ Ok early
  pub taken : advance limit early.stack p.at p.lexeme ≡ Ok next

pub advance_split : (limit : ℕ) (S : Stack) (ps : List Placed) (p : Placed) (qs : List Placed) (m : Moved) → advance_all limit S (ps ++ p ∷ qs) ≡ Ok m
    → AdvanceSplit limit S ps p
advance_split limit S ps p qs m e = go (advance_all limit S ps) refl (sym (advance_append limit S ps (p ∷ qs)) ∙ e)
  where
    go : (r : Result Moved FaultKind) → advance_all limit S ps ≡ r → moved_by r (λ stack. advance_all limit stack (p ∷ qs)) ≡ Ok m → AdvanceSplit limit S ps p
    go (Err kind) f g = absurd cc
    go (Ok n) f g = later (advance limit n.stack p.at p.lexeme) refl g
      where
        later : (r : Result Moved FaultKind) → advance limit n.stack p.at p.lexeme ≡ r
            → moved_after n.appended (moved_by r (λ stack. advance_all limit stack qs)) ≡ Ok m → AdvanceSplit limit S ps p
        later (Err kind) h i = absurd cc
        later (Ok k) h i = record { early = n; next = k; begun = f; taken = h }

-- one token more
pub said_more : (ps : List Placed) (p : Placed) → said (ps ++ p ∷ []) ≡ said ps ++ p.lexeme ∷ []
said_more ps p = map_append (λ (p : Placed). p.lexeme) ps (p ∷ [])

pub advance_more : (limit : ℕ) (S : Stack) (ps : List Placed) (p : Placed) (m n : Moved) → advance_all limit S ps ≡ Ok m
    → advance limit m.stack p.at p.lexeme ≡ Ok n
    → advance_all limit S (ps ++ p ∷ []) ≡ Ok (record { appended = m.appended ++ (n.appended ++ []); stack = n.stack })
advance_more limit S ps p m n e f = advance_append limit S ps (p ∷ []) ∙ rw (e, f) refl

module _ (limit most : ℕ) (wide : (most ≡ limit) ⊎ (limit + 3 ≤ most)) (some : 1 ≤ limit) (before : List Placed) (m : Moved)
    (read : advance_all limit (Items ∷ []) before ≡ Ok m) where
  -- A fitting program goes on with this token: so does the automaton, where enough may be open.
  pub record Further (l : Lexeme) : Type 0 where
    pub stack : Stack
    pub to : ℕ
    pub next : Moved
    pub alike : AlikeStacks m.stack stack
    pub is : advance most stack to l ≡ Ok next

  pub further : (q : Program) → FitsProgram q → program_depth q ≤ most → (l : Lexeme) (rest : List Lexeme) → says q ≡ said before ++ l ∷ rest → Further l
  further q fits deep l rest e =
      let qs = placed_of (program_tokens q) in
      let all = program_advances most q qs fits deep (spells_itself (program_tokens q)) in
      let s = said_split qs (said before) l rest (sym (said_of (program_tokens q)) ∙ e) in
      let c = advance_split most (Items ∷ []) s.left s.token s.right all.moved (ap (advance_all most (Items ∷ [])) (sym s.is) ∙ all.is) in
      let r = alike_run limit most wide before s.left (Items ∷ []) (Items ∷ []) m (sym s.before) (alike_self (Items ∷ [])) (some, tt) read in
      let one : r.moved ≡ c.early = let p = r.is in let q = c.begun in cc in
      record {
        stack = c.early.stack;
        to = s.token.at;
        next = c.next;
        alike = subst (λ (x : Moved). AlikeStacks m.stack x.stack) one r.alike;
        is = subst (λ x. advance most c.early.stack s.token.at x ≡ Ok c.next) s.says c.taken;
      }

  pub like_further : (l : Lexeme) (at : ℕ) (f : Further l) → LikeMoved limit most l (advance limit m.stack at l) (Ok f.next)
  like_further l at f = subst (λ r. LikeMoved limit most l (advance limit m.stack at l) r) f.is
      (like_advance limit most wide m.stack f.stack f.alike (ready_so_far limit some before m read) at f.to l)
