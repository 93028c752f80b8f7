use Rattle.std.proofs.Common.{◌≡◌, ◌++◌, ℕ, List, Option, subst}
use Rattle.std.proofs.lemmas.Result.{err_from_is_err_and}
use Rattle.std.specs.Io.KnownBytes.{Appends}
use Rattle.object_view.specs.Reading.{Opened}
use Rattle.sink.specs.Sends.{Sends}
use Rattle.disassembler.specs.Listing.{listing_with_literals}
use Rattle.driver.proofs.OpenedObjects.{is_opened}
use Rattle.driver.proofs.objects.disassemble_with_literals.Goals as goal

pub returns : goal.returns
unfolding Sends
returns g c =
    let w0 : Option (List ℕ) = g.W.Write.contents c.args.writer.now in
    let w1 : Option (List ℕ) = g.W.Write.contents c.list_with_literals.new.writer in (
      is_opened c.args.bytes.now c.in_ok-object.object c.in_ok-object.ensures.opened c.in_ok-object.ensures.refused c.in_ok-object.ensures.object
          c.in_ok-object.ensures.complete,
      subst (λ (o : Opened). Appends w0 w1 (listing_with_literals o.version o.code)) c.in_ok-object.ensures.opened
          c.in_ok-list_with_literals.ensures,
    )

pub returns-in_err-list_with_literals : goal.returns-in_err-list_with_literals
unfolding Sends
returns-in_err-list_with_literals g c =
    let w0 : Option (List ℕ) = g.W.Write.contents c.args.writer.now in
    let w1 : Option (List ℕ) = g.W.Write.contents c.list_with_literals.new.writer in
    let p = err_from_is_err_and c.from_residual-in_err-list_with_literals.result c.from_residual-in_err-list_with_literals.ensures.1 in
    rw (p.1, p.2) (
      is_opened c.args.bytes.now c.in_ok-object.object c.in_ok-object.ensures.opened c.in_ok-object.ensures.refused
          c.in_ok-object.ensures.object c.in_ok-object.ensures.complete,
      subst (λ (o : Opened). (front : List ℕ) × (rest : List ℕ)
          × (listing_with_literals o.version o.code ≡ front ++ rest) × Appends w0 w1 front) c.in_ok-object.ensures.opened c.in_err-list_with_literals.ensures,
    )
