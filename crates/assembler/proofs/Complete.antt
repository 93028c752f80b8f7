-- Every listing of an object is assembled, as this object.
use Rattle.std.proofs.Common.{◌≡◌, ℕ, ◌<◌, true, List, [], ◌∷◌, ◌++◌, length, All, Some, None, Result, Ok, Err, ℤ, refl, sym, ap, subst, ◌∙◌, arith, inl, inr}
use Rattle.std.specs.Prelude.{IfOk, MatchResult}
use Rattle.semantics.specs.Program.{Code}
use Rattle.semantics.specs.Bytes.{IsCode, IsObject}
use Rattle.object_view.specs.declared.fault.ObjectFault.{ObjectFault}
use Rattle.object_view.specs.Reading.{Opened, opened}
use Rattle.object_view.specs.Checks.{first_refusal}
use Rattle.disassembler.specs.Listing.{listing, listing_with_literals}
use Rattle.assembler.specs.declared.fault.AsmFault.{AsmFault}
use Rattle.assembler.specs.declared.fault.AsmFaultKind.TheVariants.{Memory}
use Rattle.assembler.specs.Grammar.{head_words, array_words, numbered_lines, block_lines, table_lines, IsListingOf, IsOperand, AllOperands, with_operands}
use Rattle.assembler.specs.Assembling.{IsFirstFault, assembled}
use Rattle.assembler.specs.Laws.{IsExact, IsUnique, AllHaveListings, Reassembles, RoundTrips}
use Rattle.assembler.proofs.Placed.{given}
use Rattle.assembler.proofs.Steps.{text_restored}
use Rattle.assembler.proofs.CodeAgain.{listing_again}
use Rattle.assembler.proofs.Lawful.{lawful_passes}
use Rattle.assembler.proofs.Signed.{all_sound}
use Rattle.assembler.proofs.Listings.{lines_has_listing, lines_with_literals}
use Rattle.assembler.proofs.Table.{table_reread, reread_itself, code_reread}

all_assembled : (text : List ℕ) (version : ℕ) (c : Code) → IsListingOf text version c → IsCode version c → assembled text ≡ Ok (version, c)
all_assembled text version c is has = given text (version, c) (text_restored text (version, c) (listing_again text version c is has))
    (lawful_passes version c has)

pub exact : IsExact
exact text version c = (λ e. all_sound text version c e, λ h. all_assembled text version c h.0 h.1)

whole_has_listing : (version : ℕ) (c : Code) → IsCode version c → IsListingOf (listing_with_literals version c) version c
unfolding numbered_lines
whole_has_listing version c is = go c.literals refl
  where
    none : [] ≡ c.literals → AllOperands c
    none e = subst (λ (zs : List ℤ). All (IsOperand c.program.blocks) zs) e (λ k d lt. absurd (omega arith))

    go : (table : List ℤ) → c.literals ≡ table → IsListingOf (listing_with_literals version c) version c
    go [] e = inr (
      table_reread version c is (none (sym e)),
      lines_with_literals version c is ∙ ap (λ (zs : List ℤ). head_words version c.program.main
          ∷ (block_lines 0 c.program.blocks ++ (numbered_lines array_words 0 c.program.arrays ++ table_lines true zs))) e,
    )
    go (z ∷ zs) e = inl (subst (λ (t : List ℤ). 0 < length t) (sym e) (omega arith), lines_with_literals version c is)

same_code : (version : ℕ) (c : Code) → IsCode version c → AllOperands c → with_operands c ≡ c
same_code version c is reread = ap (λ (table : List ℤ). record c { literals = table }) (sym (table_reread version c is reread))

pub all_has_listing : AllHaveListings
all_has_listing version c is = record {
  whole = whole_has_listing version c is;
  program = inr (refl, lines_has_listing version c is);
  object = code_reread version c is;
  same = (λ e. subst AllOperands e (reread_itself c), same_code version c is);
}

pub round_trips : RoundTrips
round_trips bytes version c is =
    let listing_is_whole = all_has_listing version c is.1 in
    let text = listing version c.program in
    let program = all_assembled text version (with_operands c) listing_is_whole.program listing_is_whole.object in
    record {
      whole = all_assembled (listing_with_literals version c) version c listing_is_whole.whole is.1;
      reread = λ reread. program ∙ ap (λ (d : Code). Ok (version, d)) (same_code version c is.1 reread);
      program = program;
      spelling = sym is.0;
    }

abbrev done : ℕ × Code → Result (ℕ × Code) AsmFault
done r = Ok r

same_parts : (v w : ℕ) (c d : Code) → done (v, c) ≡ done (w, d) → (v ≡ w) × (c ≡ d)
same_parts v w c d e =
    let k : (v, c) ≡ (w, d) = cc in
    (ap (λ (r : ℕ × Code). r.0) k, ap (λ (r : ℕ × Code). r.1) k)

pub unique : IsUnique
unique text v w c d a h b k = same_parts v w c d (sym (all_assembled text v c a h) ∙ all_assembled text w d b k)

-- ---- what an answer says
pub only_code : (text : List ℕ) (v w : ℕ) (c d : Code) → assembled text ≡ Ok (v, c) → IsListingOf text w d → IsCode w d → (v ≡ w) × (c ≡ d)
only_code text v w c d e h k = same_parts v w c d (sym e ∙ all_assembled text w d h k)

pub only_memory : (text : List ℕ) (w : ℕ) (d : Code) (f : AsmFault) → IsFirstFault f (assembled text) → IsListingOf text w d → IsCode w d → f.kind ≡ Memory
only_memory text w d f (inl e) h k = e
only_memory text w d f (inr e) h k = differ (sym (all_assembled text w d h k) ∙ e)
  where
    differ : done (w, d) ≡ Err f → f.kind ≡ Memory
    differ q = absurd cc

-- what opened the bytes says that they are an object
pub opened_back : (bytes : List ℕ) (r : Result Opened ObjectFault) → MatchResult r (λ o. first_refusal bytes ≡ None) (λ e. first_refusal bytes
    ≡ Some e) → IfOk r (λ o. o ≡ opened bytes) → IfOk r (λ o. IsObject bytes o.version o.code)
    → first_refusal bytes ≡ None → Reassembles bytes (opened bytes).version (opened bytes).code
opened_back bytes (Ok o) refused same is e = subst (λ (p : Opened). Reassembles bytes p.version p.code) same (round_trips bytes o.version o.code is)
opened_back bytes (Err f) refused same is e = absurd (differ (sym refused ∙ e))
  where
    differ : Some f ≡ None → ⊥
    differ q = cc
