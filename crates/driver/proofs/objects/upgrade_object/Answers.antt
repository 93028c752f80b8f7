use Rattle.std.proofs.Common.{◌≡◌, ◌++◌, ℕ, List, Option, subst}
use Rattle.std.proofs.lemmas.Result.{err_from_is_err_and}
use Rattle.std.specs.Io.KnownBytes.{Appends}
use Rattle.semantics.specs.Bytes.{bytes_of}
use Rattle.object_view.specs.Reading.{Opened}
use Rattle.sink.specs.Sends.{Sends}
use Rattle.driver.proofs.OpenedObjects.{is_opened}
use Rattle.driver.proofs.objects.upgrade_object.Goals as goal

pub returns : goal.returns
unfolding Sends
returns g c =
    let w0 : Option (List ℕ) = g.W.Write.contents c.args.writer.now in
    let w1 : Option (List ℕ) = g.W.Write.contents c.upgrade.new.writer in (
      is_opened c.args.bytes.now c.in_ok-old.old c.in_ok-old.ensures.opened c.in_ok-old.ensures.refused c.in_ok-old.ensures.object
          c.in_ok-old.ensures.complete,
      subst (λ (o : Opened). Appends w0 w1 (bytes_of 2 o.code)) c.in_ok-old.ensures.opened c.in_ok-upgrade.ensures,
    )

pub returns-in_err-upgrade : goal.returns-in_err-upgrade
unfolding Sends
returns-in_err-upgrade g c =
    let w0 : Option (List ℕ) = g.W.Write.contents c.args.writer.now in
    let w1 : Option (List ℕ) = g.W.Write.contents c.upgrade.new.writer in
    let p = err_from_is_err_and c.from_residual-in_err-upgrade.result c.from_residual-in_err-upgrade.ensures.1 in
    rw (p.1, p.2) (
      is_opened c.args.bytes.now c.in_ok-old.old c.in_ok-old.ensures.opened c.in_ok-old.ensures.refused c.in_ok-old.ensures.object
          c.in_ok-old.ensures.complete,
      subst (λ (o : Opened). (front : List ℕ) × (rest : List ℕ) × (bytes_of 2 o.code ≡ front ++ rest)
          × Appends w0 w1 front) c.in_ok-old.ensures.opened c.in_err-upgrade.ensures,
    )
