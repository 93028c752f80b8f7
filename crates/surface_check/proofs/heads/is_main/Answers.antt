use Rattle.std.proofs.Common.{◌≡◌, ◌↔◌, IsTrue, [], arith, subst}
use Rattle.std.proofs.lemmas.List.{get_or_read}
use Rattle.source.specs.Rules.{main_name}
use Rattle.source.specs.Tree.{Name}
use Rattle.source.specs.Words.{name_of}
use Rattle.surface_check.proofs.Places.{is_same_name}
use Rattle.surface_check.proofs.heads.is_main.Goals as goal

pub returns-then-name-names : goal.returns-then-name-names
returns-then-name-names c =
    let names = c.args.names.now in
    let x : Name = c.index-names-name.result in
    let read : x ≡ name_of names c.args.name = get_or_read names c.args.name x (omega (arith, c.if-name-names.true)) c.index-names-name.is [] in
    is_same_name c.is_main_name.result (name_of names c.args.name) main_name (subst (λ (y : Name). IsTrue c.is_main_name.result ↔ (y ≡ main_name)) read c.is_main_name.ensures)
