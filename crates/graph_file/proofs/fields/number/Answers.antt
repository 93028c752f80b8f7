use Rattle.std.proofs.Common.{◌≡◌, List, ℕ, true, sym, subst, ◌∙◌}
use Rattle.std.specs.Str.{IsUtf8, IsValidUpTo, valid_up_to}
use Rattle.std.specs.Str.Parse.{ParsesUnsigned}
use Rattle.graph_file.specs.Fields.{is_numeral}
use Rattle.graph_file.proofs.Numbers.{numeral_is_utf8, number_parsed, no_text, some_text}
use Rattle.graph_file.proofs.fields.number.Goals as goal

pub returns-in_err-ok : goal.returns-in_err-ok
returns-in_err-ok c =
    let bytes = c.args.bytes.now in
    let e : is_numeral bytes ≡ true = cc in
    absurd (no_text c.from_utf8.result (λ s. (s.now ≡ bytes) × IsUtf8 bytes) (IsUtf8 bytes) (λ d. IsValidUpTo bytes (valid_up_to d))
    c.from_utf8.ensures.cases (numeral_is_utf8 bytes e) (sym c.ok.ensures.value ∙ c.in_err-ok.was))

pub returns : goal.returns
returns c =
    let bytes = c.args.bytes.now in
    let e : is_numeral bytes ≡ true = cc in
    let same = some_text c.from_utf8.result (λ s. (s.now ≡ bytes) × IsUtf8 bytes) _ c.in_ok-ok.field-0 c.from_utf8.ensures.cases
    (sym c.ok.ensures.value ∙ c.in_ok-ok.was) in
    let parsed = subst (λ (xs : List ℕ). ParsesUnsigned 32 10 xs c.parse.result) same.0 c.parse.ensures.value.0 in
    c.ok-2.ensures.value ∙ number_parsed bytes c.parse.result parsed e
