use Rattle.std.proofs.Common.{◌≡◌, length, Some, sym, ap, ◌∙◌, subst}
use Rattle.std.specs.Prelude.{unwrap_or}
use Rattle.std.specs.HashMap.{Updates}
use Rattle.oracle.specs.Running.{made_from, more_if, with_made}
use Rattle.oracle.specs.Numbering.{IsNumbering}
use Rattle.oracle.proofs.Numbers.{numbers_more, kept_new, made_last}
use Rattle.oracle.proofs.MadeEqual.{equal, equal_apart}
use Rattle.oracle.proofs.invocations.Invocations.number_at.Goals as goal

pub invariant_of-self-else-number-next : goal.invariant_of-self-else-number-next
invariant_of-self-else-number-next g c =
    let xs = c.self.inside.table.items in
    let m = c.self.inside.numbers in
    let n = c.kept_at.new.numbers in
    let made = c.args.made.now in
    let k = c.in-Ok.number in
    let count = c.len-next.ensures ∙ ap length (sym c.self.view_is) in
    let is : k ≡ unwrap_or (made_from made 0 xs) (length xs) = c.in-Ok.ensures.number ∙ ap (λ o. unwrap_or o c.len-next.result)
    (c.self.invariant.0 made) ∙ ap (λ k. unwrap_or (made_from made 0 xs) k) count in
    let next : k ≡ length xs = c.if-number-next.false ∙ count in
    let absent = kept_new xs made k is next in
    let updates : Updates equal m n made (Some (length xs)) = subst (λ k. Updates equal m n made (Some k)) next c.in-Ok.ensures.kept in
    let numbers = subst (λ ys. IsNumbering equal n ys) (sym c.in_ok-push.ensures.items) (numbers_more equal m n xs made c.args.block equal_apart
    c.self.invariant.0 absent updates) in
    let last = ap (made_from made 0) c.in_ok-push.ensures.items ∙ made_last xs made c.args.block absent ∙ ap (λ k. Some k) (sym next) in
    (numbers, last)

pub returns-else-number-next-clause-added : goal.returns-else-number-next-clause-added
returns-else-number-next-clause-added g c =
    let xs = c.self.inside.table.items in
    let made = c.args.made.now in
    let k = c.in-Ok.number in
    let count = c.len-next.ensures ∙ ap length (sym c.self.view_is) in
    let is : k ≡ unwrap_or (made_from made 0 xs) (length xs) = c.in-Ok.ensures.number ∙ ap (λ o. unwrap_or o c.len-next.result)
    (c.self.invariant.0 made) ∙ ap (λ k. unwrap_or (made_from made 0 xs) k) count in
    let next : k ≡ length xs = c.if-number-next.false ∙ count in
    let absent = kept_new xs made k is next in
    c.in_ok-push.ensures.items ∙ sym (ap (λ ys. with_made ys made c.args.block) (sym c.self.view_is) ∙ ap (more_if xs made c.args.block) absent)
