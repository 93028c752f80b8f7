-- The machine on lists, calls and bodies.
use Rattle.std.proofs.Common.{◌≡◌, ℕ, Bool, false, List, [], ◌∷◌, ◌++◌, map, refl, sym, ◌∙◌, ap, subst, append_assoc, append-nil}
use Rattle.source.specs.declared.word.Word.TheVariants as word
use Rattle.source.specs.Tree.{Name, NameAt, Target, Bind, Drop, Expr, Call, Exprs, One, More, Body, Let, Do, Give, Chain, Program}
use Rattle.source.specs.Words.{words, part_words, first_words, body_words, target_word}
use Rattle.source.specs.Rules.{function_in}
use Rattle.source.specs.Lowered.{Lowered, lower, lower_list, lower_body, spot_after, let_scoped, call_kind, results_of}
use Rattle.lowering.specs.Plans.{Plan, plans, list_plans, body_plans}
use Rattle.lowering.specs.State.{State, Frame, Firsts, InList, Targets, Begun, after, planned, noted}
use Rattle.lowering.specs.Machine.{run}
use Rattle.lowering.proofs.Algebra.{and_then, both_plans, after_joined, after_followed, after_ended, quiet}
use Rattle.lowering.proofs.Says.{Says, SaysAll, SaysBody, SaysFirsts, with_names}

pub one_says : (p : Program) (e : Expr) → Says p e → SaysAll p (One e)
one_says p e ih s ps = and_then p _ _ _ (words e) (word.Part ∷ []) (ih s ps) refl

pub more_says : (p : Program) (e : Expr) (es : Exprs) → Says p e → SaysAll p es → SaysAll p (More e es)
more_says p e es ih jh s ps =
    let l : Lowered = lower p s.site s.spot s.scope e in
    both_plans p s _ (plans e) (list_plans es) ps (part_words (More e es))
    (and_then p _ _ _ (words e) (word.Part ∷ part_words es) (ih s (list_plans es ++ ps)) (jh (noted false (after s l)) ps)
    ∙ ap (λ (t : State). noted false (planned t ps)) (after_joined s l (lower_list p s.site (spot_after s.spot l) s.scope es)))

pub call_says : (p : Program) (at : ℕ) (strict : Bool) (f : Name) (es : Exprs) → SaysAll p es → Says p (Call at strict f es)
call_says p at strict f es ih s ps =
    let l : Lowered = lower_list p s.site s.spot s.scope es in
    and_then p _ _ _ (part_words es) (word.Call at strict f ∷ [])
    (ih (record s { number = false; frames = InList s.sources ∷ s.frames; sources = [] }) ps)
    (ap (λ (t : State). noted false (planned t ps)) (after_ended s l at (call_kind strict f) l.sources (results_of (function_in p f))))

-- a list within a body, whose values are dropped
abbrev pub listed : State → State
listed s = record s { number = false; frames = InList s.sources ∷ s.frames; sources = [] }

pub do_says : (p : Program) (es : Exprs) (b : Body) → SaysAll p es → SaysBody p b → SaysBody p (Do es b)
do_says p es b ih jh s ps =
    let l : Lowered = lower_list p s.site s.spot s.scope es in
    let rest = jh (noted false (quiet s l)) ps in (
      rest.0,
      both_plans p s _ (list_plans es) (body_plans b) ps (body_words (Do es b))
          (and_then p _ _ _ (part_words es) (word.Do ∷ body_words b) (ih (listed s) (body_plans b ++ ps)) rest.1
          ∙ ap (λ (t : State). record t { scope = rest.0; plans = ps; number = false })
          (after_followed s l (lower_body p s.site (spot_after s.spot l) s.scope b))),
    )

pub give_says : (p : Program) (es : Exprs) → SaysAll p es → SaysBody p (Give es)
give_says p es ih s ps = (s.scope, and_then p _ _ _ (part_words es) (word.Give ∷ []) (ih (listed s) ps) refl)

pub chain_says : (p : Program) (e : Expr) → Says p e → SaysBody p (Chain e)
chain_says p e ih s ps = (s.scope, and_then p _ _ _ (words e) (word.Chain ∷ []) (ih s ps) refl)

-- the targets of a `let`
targets_say : (p : Program) (s : State) (ts targets : List Target) (fs : List Frame)
    → run p (record s { frames = Targets ts ∷ fs; number = false }) (map target_word targets)
    ≡ record s { frames = Targets (ts ++ targets) ∷ fs; number = false }
targets_say p s ts [] fs = ap (λ (us : List Target). record s { frames = Targets us ∷ fs; number = false }) (sym (append-nil ts))
targets_say p s ts (Drop ∷ targets) fs = targets_say p s (ts ++ Drop ∷ []) targets fs
    ∙ ap (λ (us : List Target). record s { frames = Targets us ∷ fs; number = false }) (append_assoc ts (Drop ∷ []) targets)
targets_say p s ts (Bind x ∷ targets) fs = targets_say p s (ts ++ Bind x ∷ []) targets fs
    ∙ ap (λ (us : List Target). record s { frames = Targets us ∷ fs; number = false }) (append_assoc ts (Bind x ∷ []) targets)

pub let_says : (p : Program) (at : ℕ) (targets : List Target) (es : Exprs) (b : Body) → SaysAll p es → SaysBody p b → SaysBody p (Let at targets es b)
let_says p at targets es b ih jh s ps =
    let l : Lowered = lower_list p s.site s.spot s.scope es in
    let bound : State = record s { frames = Targets targets ∷ s.frames } in
    let rest = jh (record (quiet s l) { scope = let_scoped targets l.sources s.scope; number = false }) ps in
    let begun : State = planned s (list_plans es ++ (body_plans b ++ ps)) in (
      rest.0,
      both_plans p s _ (list_plans es) (body_plans b) ps (body_words (Let at targets es b))
          (and_then p begun _ _ (word.Let at ∷ map target_word targets ++ word.List ∷ part_words es) (word.EndLet at ∷ body_words b)
          (and_then p begun _ _ (word.Let at ∷ map target_word targets) (word.List ∷ part_words es)
          (targets_say p begun [] targets s.frames)
          (ih (listed bound) (body_plans b ++ ps)))
          rest.1
          ∙ ap (λ (t : State). record t { scope = rest.0; plans = ps; number = false })
          (after_followed s l (lower_body p s.site (spot_after s.spot l) (let_scoped targets l.sources s.scope) b))),
    )

-- the first values of a loop's names
pub one_first_says : (p : Program) (x : NameAt) (e : Expr) → Says p e → SaysFirsts p (x ∷ []) (One e)
one_first_says p x e ih s b fs ps =
    and_then p _ _ _ (words e) (word.First ∷ []) (ih (record s { number = false; frames = Firsts (with_names b (x ∷ [])) ∷ fs }) ps) refl

pub more_first_says : (p : Program) (x : NameAt) (xs : List NameAt) (e : Expr) (es : Exprs) → Says p e → SaysFirsts p xs es → SaysFirsts p (x ∷ xs) (More e es)
more_first_says p x xs e es ih jh s b fs ps =
    let l : Lowered = lower p s.site s.spot s.scope e in
    let named : Begun = with_names b (x ∷ []) in
    let t : State = record s { number = false; frames = Firsts named ∷ fs } in
    subst (λ (q : List Plan). run p (record s { plans = q; frames = Firsts b ∷ fs }) (first_words (x ∷ xs) (More e es))
    ≡ record (after s (lower_list p s.site s.spot s.scope (More e es))) { plans = ps; frames = Firsts (with_names b (x ∷ xs)) ∷ fs; number = false })
    (sym (append_assoc (plans e) (list_plans es) ps))
    (and_then p _ _ _ (words e) (word.First ∷ first_words xs es) (ih t (list_plans es ++ ps)) (jh (noted false (after s l)) named fs ps)
    ∙ ap (λ (u : State). record u { plans = ps; frames = Firsts (with_names named xs) ∷ fs; number = false })
    (after_joined s l (lower_list p s.site (spot_after s.spot l) s.scope es))
    ∙ ap (λ (ys : List NameAt). record (after s (lower_list p s.site s.spot s.scope (More e es))) {
      plans = ps;
      frames = Firsts (record { at = b.at; outer = b.outer; names = ys; outs = b.outs }) ∷ fs;
      number = false;
    })
    (append_assoc b.names (x ∷ []) xs))
