use Rattle.std.proofs.Common.{◌≡◌, ℕ, List, Some, sym, ap, ◌∙◌}
use Rattle.surface.specs.Tokens.{Beginning, comment_len, comment_read}
use Rattle.surface_tokens.proofs.Slices.{slice_from}
use Rattle.surface_tokens.proofs.WithForms.{with_comment, as_in_core}
use Rattle.surface_tokens.proofs.beginning.Beginning.of.Goals as goal

pub returns-then-begins_comment : goal.returns-then-begins_comment
returns-then-begins_comment c =
    let text = c.args.text.now in
    let read = c.read_comment.ensures ∙ ap (λ (xs : List ℕ). comment_read (comment_len xs)) (slice_from 2 text) in
    ap (λ (x : Beginning). Some x) read ∙ sym (with_comment text (sym c.begins_comment.ensures ∙ c.if-begins_comment.true))

pub returns : goal.returns
returns c =
    let found : c.of.result ≡ Some c.in_ok-of.field-0 = c.in_ok-of.was in
    as_in_core c.args.text.now c.of.result c.in_ok-of.field-0 _
    (sym c.begins_comment.ensures ∙ c.if-begins_comment.false) (sym c.begins_range.ensures ∙ c.if-begins_range.false)
    c.of.ensures found c.with_forms.ensures
