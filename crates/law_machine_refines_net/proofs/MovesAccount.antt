-- THE ACCOUNT of an event: by which moves the net goes on, what fires, what that takes and makes, and what waits then.
use Rattle.std.proofs.Common.{◌≡◌, Bool, false, List, [], ◌∷◌, ◌++◌, length, refl, sym, ap, ◌∙◌, subst, inl, inr, ◌⊎◌, append-nil, append_assoc}
use Rattle.std.specs.Prelude.{IsPermutation, Contains, flat_map, count_by}
use Rattle.std.proofs.lemmas.List.Concat.{flat_map-append}
use Rattle.std.proofs.lemmas.List.Elements.{Contains-append_left, Contains-append_right, Contains-append_cases}
use Rattle.std.proofs.lemmas.List.Sorted.{IsPermutation-refl, IsPermutation-trans, IsPermutation-sym, IsPermutation-append, IsPermutation-append_left}
use Rattle.std.proofs.lemmas.List.Sorted.{IsPermutation-append_right, Contains-permutation}
use Rattle.lemmas.proofs.Permutations.{permutation_same}
use Rattle.lemmas.proofs.Contains.{contains_cases, contains_head, contains_tail}
use Rattle.semantics.specs.Graph.{Flow}
use Rattle.law_confluence.proofs.Orders.{shuffled, Part as Piece, ◌⊕◌, at_first}
use Rattle.law_confluence.proofs.Net.{Waits, Fires}
use Rattle.law_net.specs.ContextsParts.{Item, Firing}
use Rattle.law_net.specs.Contexts.{Wires}
use Rattle.law_net.specs.ContextsFirings.{Config, Move, begin, takes, own_takes, renewed, makes, IsProper, IsProperMove, ProperMoves, Still, Then}
use Rattle.law_net.specs.ContextsMirror.{only, came}
use Rattle.law_machine_refines_net.specs.MovesCases.{Taking, net_of}
use Rattle.law_machine_refines_net.proofs.MovesLists.{kept_no, kept_but, count_kept}

-- one move more
pub one_more : (fl : Flow) (w : Wires) (a b c : Config) → ProperMoves fl w a b → (m : Move fl w b c) → IsProperMove fl w b.fired b c m → ProperMoves fl w a c
one_more fl w a b c (Still e) m k = Then b c c m k (Still c)
one_more fl w a b c (Then x mid y n l more) m k = Then a mid c n l (one_more fl w mid b c more m k)

-- what firings take for good, and what they take only to make it anew
abbrev pub owns : Flow → List Firing → List Item
owns fl fired = flat_map (λ (f : Firing). own_takes fl f f.part) fired

abbrev pub renews : Flow → List Firing → List Item
renews fl fired = flat_map (λ (f : Firing). renewed fl f f.part) fired

takes_parted : (fl : Flow) (fired : List Firing) → IsPermutation (flat_map (takes fl) fired) (owns fl fired ++ renews fl fired)
takes_parted fl [] = IsPermutation-refl []
takes_parted fl (f ∷ fired) = IsPermutation-trans _ _ _ (IsPermutation-append_right (takes fl f) _ _ (takes_parted fl fired))
    (shuffled (own_takes fl f f.part ∷ renewed fl f f.part ∷ owns fl fired ∷ renews fl fired ∷ []) ((Piece 0 ⊕ Piece 1) ⊕ (Piece 2 ⊕ Piece 3))
    ((Piece 0 ⊕ Piece 2) ⊕ (Piece 1 ⊕ Piece 3)) refl)

pub none_renewed : (fl : Flow) (fired : List Firing) → ((f : Firing) → Contains fired f → renewed fl f f.part ≡ []) → renews fl fired ≡ []
none_renewed fl [] none = refl
none_renewed fl (f ∷ fired) none =
    let a = none f (contains_head f fired) in let b = none_renewed fl fired (λ h c. none h (contains_tail f fired h c)) in λ t. a t ++ b t

module _ (s : Taking) where
  abbrev net : Config
  net = net_of s

  -- a test that passes no item of a kind
  abbrev pub Spares : (Item → Type 0) → (Item → Bool) → Type 0
  Spares T test = (j : Item) → T j → test j ≡ false

  -- nothing begins or ceases to wait
  abbrev pub Nothing : Item → Type 0
  Nothing j = ⊥

  -- firings `new` lead to d and make the items `made`, and only items of one kind begin or cease to wait
  pub record Account (T : Item → Type 0) (d : Config) (new : List Firing) (made : List Item) : Type 0 where
    pub moves : ProperMoves s.fl s.w (begin s.inputs) d
    pub fired : d.fired ≡ new ++ (net_of s).fired
    pub marks : IsPermutation (d.pending ++ (d.waiting ++ flat_map (takes s.fl) new)) (made ++ ((net_of s).pending ++ (net_of s).waiting))
    pub spared : (test : Item → Bool) → Spares T test → only test d.waiting ≡ only test (net_of s).waiting
    pub left : (j : Item) → Contains d.waiting j → Contains (net_of s).waiting j ⊎ T j

  -- NO MOVE
  pub no_move : (T : Item → Type 0) → Account T net [] []
  no_move T = record {
    moves = s.keeps.tracks.moves;
    fired = refl;
    marks = permutation_same _ _ (ap (λ l. net.pending ++ l) (append-nil net.waiting));
    spared = λ test spares. refl;
    left = λ j h. inl h;
  }

module _ {s : Taking} {T : Item → Type 0} {d : Config} {new : List Firing} {made : List Item} (l : Account s T d new made) where
  -- AN ITEM WAITS
  module _ (i : Item) (rest : List Item) (perm : IsPermutation d.pending (i ∷ rest)) (kind : T i) where
    abbrev pub waited : Config
    waited = record { pending = rest; waiting = i ∷ d.waiting; fired = d.fired }

    pub item_waits : Account s T waited new made
    item_waits = record {
      moves = one_more s.fl s.w (begin s.inputs) d waited l.moves (Waits i rest perm refl) tt;
      fired = l.fired;
      marks = IsPermutation-trans _ _ _
          (shuffled ((i ∷ []) ∷ rest ∷ d.waiting ∷ flat_map (takes s.fl) new ∷ []) (Piece 1 ⊕ ((Piece 0 ⊕ Piece 2) ⊕ Piece 3))
          ((Piece 0 ⊕ Piece 1) ⊕ (Piece 2 ⊕ Piece 3)) refl)
          (IsPermutation-trans _ _ _ (IsPermutation-append_left (d.waiting ++ flat_map (takes s.fl) new) _ _ (IsPermutation-sym _ _ perm)) l.marks);
      spared = λ test spares. kept_no test i d.waiting (spares i kind) ∙ l.spared test spares;
      left = λ j h. left j (contains_cases i d.waiting j h);
    }
      where
        left : (j : Item) → (i ≡ j) ⊎ Contains d.waiting j → Contains (net_of s).waiting j ⊎ T j
        left j (inl e) = inr (subst T e kind)
        left j (inr h) = l.left j h

  -- A PART FIRES with items that arrive now and items that waited
  module _ (f : Firing) (now rest kept others : List Item) (pending : IsPermutation d.pending (now ++ rest))
      (waiting : IsPermutation d.waiting (kept ++ others)) (took : IsPermutation (now ++ kept) (takes s.fl f)) (proper : IsProper s.fl d.fired f)
      (spared : (test : Item → Bool) → Spares s T test → only test others ≡ only test d.waiting) where
    abbrev pub gone : Config
    gone = record { pending = makes s.fl s.w f ++ rest; waiting = others; fired = f ∷ d.fired }

    laid_out : (more : List Item) → IsPermutation (d.pending ++ (d.waiting ++ more)) ((now ++ kept) ++ (rest ++ (others ++ more)))
    laid_out more = IsPermutation-trans _ _ _ (IsPermutation-append _ _ _ _ pending (IsPermutation-append_left more _ _ waiting))
        (shuffled (now ∷ rest ∷ kept ∷ others ∷ more ∷ []) ((Piece 0 ⊕ Piece 1) ⊕ ((Piece 2 ⊕ Piece 3) ⊕ Piece 4))
        ((Piece 0 ⊕ Piece 2) ⊕ (Piece 1 ⊕ (Piece 3 ⊕ Piece 4))) refl)

    pub part_fires : Account s T gone (f ∷ new) (makes s.fl s.w f ++ made)
    part_fires = record {
      moves = one_more s.fl s.w (begin s.inputs) d gone l.moves (Fires f now kept rest others pending waiting took refl) proper;
      fired = ap (λ fs. f ∷ fs) l.fired;
      marks =
          let M = makes s.fl s.w f in let X = flat_map (takes s.fl) new in
          IsPermutation-trans _ _ _ (shuffled (M ∷ rest ∷ others ∷ takes s.fl f ∷ X ∷ []) ((Piece 0 ⊕ Piece 1) ⊕ (Piece 2 ⊕ (Piece 3 ⊕ Piece 4)))
          (Piece 0 ⊕ (Piece 3 ⊕ (Piece 1 ⊕ (Piece 2 ⊕ Piece 4)))) refl)
          (IsPermutation-trans _ _ _ (IsPermutation-append_right M _ _
          (IsPermutation-trans _ _ _ (IsPermutation-append_left (rest ++ (others ++ X)) _ _ (IsPermutation-sym _ _ took))
          (IsPermutation-trans _ _ _ (IsPermutation-sym _ _ (laid_out X)) l.marks)))
          (shuffled (M ∷ made ∷ ((net_of s).pending ++ (net_of s).waiting) ∷ []) (Piece 0 ⊕ (Piece 1 ⊕ Piece 2))
          ((Piece 0 ⊕ Piece 1) ⊕ Piece 2) refl));
      spared = λ test spares. spared test spares ∙ l.spared test spares;
      left = λ j h. l.left j (Contains-permutation _ _ j (IsPermutation-sym _ _ waiting) (Contains-append_right kept others j h));
    }

  -- with some that waited side by side
  module _ (f : Firing) (now rest before kept later : List Item) (pending : IsPermutation d.pending (now ++ rest))
      (waiting : d.waiting ≡ before ++ (kept ++ later)) (kind : (j : Item) → Contains kept j → T j)
      (took : IsPermutation (now ++ kept) (takes s.fl f)) (proper : IsProper s.fl d.fired f) where
    pub kept_fires : Account s T (record { pending = makes s.fl s.w f ++ rest; waiting = before ++ later; fired = f ∷ d.fired }) (f ∷ new)
        (makes s.fl s.w f ++ made)
    kept_fires =
        part_fires f now rest kept (before ++ later) pending
        (at_first waiting (shuffled (before ∷ kept ∷ later ∷ []) (Piece 0 ⊕ (Piece 1 ⊕ Piece 2)) (Piece 1 ⊕ (Piece 0 ⊕ Piece 2)) refl)) took proper
        (λ test spares. sym (ap (only test) waiting ∙ kept_but test before kept later (λ j h. spares j (kind j h))))

  -- what is made, in another order
  pub reordered : (items : List Item) → IsPermutation made items → Account s T d new items
  reordered items perm = record {
    moves = l.moves;
    fired = l.fired;
    marks = IsPermutation-trans _ _ _ l.marks (IsPermutation-append_left ((net_of s).pending ++ (net_of s).waiting) _ _ perm);
    spared = l.spared;
    left = l.left;
  }

  -- WHAT IS THERE is new, or was there
  marks_more : (more : List Item) → IsPermutation (d.pending ++ (d.waiting ++ (flat_map (takes s.fl) new ++ more)))
      (made ++ ((net_of s).pending ++ ((net_of s).waiting ++ more)))
  marks_more more =
      IsPermutation-trans _ _ _ (shuffled (d.pending ∷ d.waiting ∷ flat_map (takes s.fl) new ∷ more ∷ []) (Piece 0 ⊕ (Piece 1 ⊕ (Piece 2 ⊕ Piece 3)))
      ((Piece 0 ⊕ (Piece 1 ⊕ Piece 2)) ⊕ Piece 3) refl)
      (IsPermutation-trans _ _ _ (IsPermutation-append_left more _ _ l.marks)
      (shuffled (made ∷ (net_of s).pending ∷ (net_of s).waiting ∷ more ∷ []) ((Piece 0 ⊕ (Piece 1 ⊕ Piece 2)) ⊕ Piece 3)
      (Piece 0 ⊕ (Piece 1 ⊕ (Piece 2 ⊕ Piece 3))) refl))

  pub here : (j : Item) → Contains (d.pending ++ d.waiting) j → Contains made j ⊎ Contains ((net_of s).pending ++ (net_of s).waiting) j
  here j h =
      Contains-append_cases made ((net_of s).pending ++ (net_of s).waiting) j
      (Contains-permutation _ _ j l.marks (subst (λ x. Contains x j) (append_assoc d.pending d.waiting (flat_map (takes s.fl) new))
      (Contains-append_left (d.pending ++ d.waiting) (flat_map (takes s.fl) new) j h)))

  pub all : (j : Item) → Contains (d.pending ++ (d.waiting ++ flat_map (takes s.fl) d.fired)) j
      → Contains made j ⊎ Contains ((net_of s).pending ++ ((net_of s).waiting ++ flat_map (takes s.fl) (net_of s).fired)) j
  all j h =
      let e = ap (flat_map (takes s.fl)) l.fired ∙ flat_map-append (takes s.fl) new (net_of s).fired in
      Contains-append_cases made ((net_of s).pending ++ ((net_of s).waiting ++ flat_map (takes s.fl) (net_of s).fired)) j
      (Contains-permutation _ _ j (marks_more (flat_map (takes s.fl) (net_of s).fired)) (subst (λ x. Contains (d.pending ++ (d.waiting ++ x)) j) e h))

  -- all that came, with what is made anew
  pub came_is : IsPermutation (came s.fl d ++ renews s.fl new) (made ++ came s.fl (net_of s))
  came_is =
      let O = owns s.fl (net_of s).fired in let R = renews s.fl new in
      let e = ap (owns s.fl) l.fired ∙ flat_map-append (λ (f : Firing). own_takes s.fl f f.part) new (net_of s).fired in
      at_first (ap (λ x. (d.pending ++ (d.waiting ++ x)) ++ R) e)
      (IsPermutation-trans _ _ _ (shuffled (d.pending ∷ d.waiting ∷ owns s.fl new ∷ O ∷ R ∷ []) ((Piece 0 ⊕ (Piece 1 ⊕ (Piece 2 ⊕ Piece 3))) ⊕ Piece 4)
      (Piece 0 ⊕ (Piece 1 ⊕ ((Piece 2 ⊕ Piece 4) ⊕ Piece 3))) refl)
      (IsPermutation-trans _ _ _ (IsPermutation-append_right d.pending _ _ (IsPermutation-append_right d.waiting _ _
      (IsPermutation-append_left O _ _ (IsPermutation-sym _ _ (takes_parted s.fl new))))) (marks_more O)))

  -- counts of what waits
  pub count_spared : (test : Item → Bool) → Spares s T test → count_by test d.waiting ≡ count_by test (net_of s).waiting
  count_spared test spares = count_kept test d.waiting ∙ ap length (l.spared test spares) ∙ sym (count_kept test (net_of s).waiting)

-- A PART FIRES with the event's item alone
module _ (s : Taking) (T : Item → Type 0) (f : Firing) (took : takes s.fl f ≡ s.i ∷ []) (proper : IsProper s.fl (net_of s).fired f) where
  abbrev pub gone_alone : Config
  gone_alone = record { pending = makes s.fl s.w f ++ s.others; waiting = (net_of s).waiting; fired = f ∷ (net_of s).fired }

  pub alone_fires : Account s T gone_alone (f ∷ []) (makes s.fl s.w f)
  alone_fires =
      reordered (part_fires (no_move s T) f (s.i ∷ []) s.others [] (net_of s).waiting s.perm (IsPermutation-refl (net_of s).waiting)
      (permutation_same _ _ (sym took)) proper (λ test spares. refl)) (makes s.fl s.w f) (permutation_same _ _ (append-nil (makes s.fl s.w f)))
