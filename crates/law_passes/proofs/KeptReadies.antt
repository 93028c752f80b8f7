-- What results from two lists of destinations is what results from each; and an operator keeps the word that it takes.
use Rattle.std.proofs.Common.{refl, ℕ, ◌⊎◌, inl, inr, List, [], ◌∷◌, ◌++◌}
use Rattle.std.proofs.lemmas.List.Elements.{Contains-append_left, Contains-append_right}
use Rattle.std.specs.Prelude.{⊤}
use Rattle.tags.specs.declared.token.Word.{Word}
use Rattle.tags.specs.declared.token.Token.{Token}
use Rattle.semantics.specs.Program.{Program}
use Rattle.law_confluence.proofs.Orders.{shuffled, Part, ◌⊕◌}
use Rattle.law_passes.proofs.KeptLeading.{stand_join, settles_join}
use Rattle.law_simulation.specs.Simulates.{Clumped, IsValue, Pairs, Ready, Sends}
use Rattle.law_simulation.proofs.SimulationRules.{sends_grow, settles_after, settles_beside, settles_map, settles_then}

module _ (p q : Program) (g h : ℕ → ℕ) where
  clumped_join : (new more old others : List Token) → Clumped p q g h new old → Clumped p q g h more others → Clumped p q g h (new ++ more) (old ++ others)
  clumped_join new more old others A B = record {
    meant = A.meant ++ B.meant;
    stand = stand_join IsValue p q g h new more A.meant B.meant A.stand B.stand;
    settles =
        settles_join IsValue p q g h (Sends p q h (new ++ more)) old others A.meant B.meant
        (settles_map (Sends p q h new) (Sends p q h (new ++ more))
        (sends_grow p q h new (new ++ more) (λ t c. Contains-append_left new more t c)) p old A.meant A.settles)
        (settles_map (Sends p q h more) (Sends p q h (new ++ more))
        (sends_grow p q h more (new ++ more) (λ t c. Contains-append_right new more t c)) p others B.meant B.settles);
  }

  pairs_left : (w : Word) (old others : List Token) → Pairs p old w → Pairs p (old ++ others) w
  pairs_left w old others A = record {
    frame = A.frame;
    a = A.a;
    r = A.r;
    v = A.v;
    i = A.i;
    o = A.o;
    rest = A.rest ++ others;
    at = A.at;
    op = A.op;
    settles = settles_beside (λ f l. ⊤) p old _ others A.settles;
  }

  pairs_right : (w : Word) (old others : List Token) → Pairs p others w → Pairs p (old ++ others) w
  pairs_right w old others A = record {
    frame = A.frame;
    a = A.a;
    r = A.r;
    v = A.v;
    i = A.i;
    o = A.o;
    rest = old ++ A.rest;
    at = A.at;
    op = A.op;
    settles =
        settles_then (λ f l. ⊤) p (old ++ others) (old ++ (_ ∷ _ ∷ A.rest)) (_ ∷ _ ∷ (old ++ A.rest))
        (settles_after (λ f l. ⊤) p others (_ ∷ _ ∷ A.rest) old A.settles)
        (shuffled (old ∷ (_ ∷ _ ∷ []) ∷ A.rest ∷ []) (Part 0 ⊕ (Part 1 ⊕ Part 2)) (Part 1 ⊕ (Part 0 ⊕ Part 2)) refl);
  }

  pub ready_join : (w : Word) (new more old others : List Token) → Ready p q g h w new old → Ready p q g h w more others
      → Ready p q g h w (new ++ more) (old ++ others)
  ready_join w new more old others A B = record { value = λ v. clumped_join new more old others (A.value v) (B.value v); tells = go A.tells B.tells }
    where
      go : Clumped p q g h new old ⊎ Pairs p old w → Clumped p q g h more others ⊎ Pairs p others w
          → Clumped p q g h (new ++ more) (old ++ others) ⊎ Pairs p (old ++ others) w
      go (inr P) o = inr (pairs_left w old others P)
      go (inl C) (inr P) = inr (pairs_right w old others P)
      go (inl C) (inl D) = inl (clumped_join new more old others C D)
