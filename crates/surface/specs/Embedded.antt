-- A PROGRAM OF THE CORE is one without derived forms.
use Rattle.std.specs.Prelude.{map, option_map}
use Rattle.source.specs.Tree as core
use Rattle.source.specs.Tree.{NameAt, NumberAt}
use Rattle.surface.specs.Tree.{Count, Written, Expr, Number, Named, Bracket, Prefix, Infix, Fetch, Store, Call, If, Loop}
use Rattle.surface.specs.Tree.{Exprs, One, More, Body, Let, Do, Give, Chain, Turn, Before, After, Param, Item, Cells, Defines, Program}

abbrev pub written : NumberAt → Count
written n = Written n.at n.number

abbrev mutual
  pub embedded_expr : core.Expr → Expr
  embedded_expr (core.Number at n) = Number at n
  embedded_expr (core.Named at x) = Named at x
  embedded_expr (core.Bracket e) = Bracket (embedded_expr e)
  embedded_expr (core.Prefix at op e) = Prefix at op (embedded_expr e)
  embedded_expr (core.Infix at s l r) = Infix at s (embedded_expr l) (embedded_expr r)
  embedded_expr (core.Fetch at a e) = Fetch at a (One (embedded_expr e))
  embedded_expr (core.Store at a e d) = Store at a (One (embedded_expr e)) (embedded_expr d)
  embedded_expr (core.Call at strict f es) = Call at strict f (embedded_exprs es)
  embedded_expr (core.If at p l r) = If at (embedded_expr p) (embedded_body l) (embedded_body r)
  embedded_expr (core.Loop at bound firsts turn) = Loop at (written bound) (embedded_exprs firsts) (embedded_turn turn)

  pub embedded_exprs : core.Exprs → Exprs
  embedded_exprs (core.One e) = One (embedded_expr e)
  embedded_exprs (core.More e es) = More (embedded_expr e) (embedded_exprs es)

  pub embedded_body : core.Body → Body
  embedded_body (core.Let at targets es rest) = Let at targets (embedded_exprs es) (embedded_body rest)
  embedded_body (core.Do es rest) = Do (embedded_exprs es) (embedded_body rest)
  embedded_body (core.Give es) = Give (embedded_exprs es)
  embedded_body (core.Chain e) = Chain (embedded_expr e)

  pub embedded_turn : core.Turn → Turn
  embedded_turn (core.Before xs p body) = Before xs (embedded_expr p) (embedded_body body)
  embedded_turn (core.After xs body p) = After xs (embedded_body body) (embedded_expr p)

abbrev pub value_param : NameAt → Param
value_param x = record { name = x; rank = 0 }

abbrev pub embedded_item : core.Item → Item
embedded_item (core.Cells x len) = Cells x (One (Number len.at len.number))
embedded_item (core.Defines f) = Defines (record {
  name = f.name;
  params = map value_param f.params;
  results = option_map written f.results;
  body_at = f.body_at;
  body = embedded_body f.body;
})

abbrev pub embedded : core.Program → Program
embedded p = map embedded_item p
