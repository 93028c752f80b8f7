use Rattle.std.proofs.Common.{◌≡◌, refl, arith}
use Rattle.operators.specs.declared.Unary.TheVariants.{Neg, Not}
use Rattle.semantics.specs.declared.opcode.Opcode.TheVariants.{Apply1, Lit, Copy, Sync, Switch, Fetch, Store, Frame, Link, Send, Return, Ask, Open}
use Rattle.semantics.specs.declared.opcode.Opcode.TheVariants.{Take, Give, Drain, Release}
use Rattle.object_view.proofs.Codes.{plain_known}
use Rattle.object_view.proofs.words.Head.known_opcode.Goals as goal

pub returns-in-15 : goal.returns-in-15
returns-in-15 c = plain_known c.args.self.word c.known_code.result (Apply1 Neg) c.requires c.known_code.ensures.code c.in-15.is refl refl

pub returns-in-16 : goal.returns-in-16
returns-in-16 c = plain_known c.args.self.word c.known_code.result (Apply1 Not) c.requires c.known_code.ensures.code c.in-16.is refl refl

pub returns-in-17 : goal.returns-in-17
returns-in-17 c = plain_known c.args.self.word c.known_code.result Lit c.requires c.known_code.ensures.code c.in-17.is refl refl

pub returns-in-18 : goal.returns-in-18
returns-in-18 c = plain_known c.args.self.word c.known_code.result Copy c.requires c.known_code.ensures.code c.in-18.is refl refl

pub returns-in-19 : goal.returns-in-19
returns-in-19 c = plain_known c.args.self.word c.known_code.result Sync c.requires c.known_code.ensures.code c.in-19.is refl refl

pub returns-in-20 : goal.returns-in-20
returns-in-20 c = plain_known c.args.self.word c.known_code.result Switch c.requires c.known_code.ensures.code c.in-20.is refl refl

pub returns-in-21 : goal.returns-in-21
returns-in-21 c = plain_known c.args.self.word c.known_code.result Fetch c.requires c.known_code.ensures.code c.in-21.is refl refl

pub returns-in-22 : goal.returns-in-22
returns-in-22 c = plain_known c.args.self.word c.known_code.result Store c.requires c.known_code.ensures.code c.in-22.is refl refl

pub returns-in-23 : goal.returns-in-23
returns-in-23 c = plain_known c.args.self.word c.known_code.result Frame c.requires c.known_code.ensures.code c.in-23.is refl refl

pub returns-in-24 : goal.returns-in-24
returns-in-24 c = plain_known c.args.self.word c.known_code.result Link c.requires c.known_code.ensures.code c.in-24.is refl refl

pub returns-in-25 : goal.returns-in-25
returns-in-25 c = plain_known c.args.self.word c.known_code.result Send c.requires c.known_code.ensures.code c.in-25.is refl refl

pub returns-in-26 : goal.returns-in-26
returns-in-26 c = plain_known c.args.self.word c.known_code.result Return c.requires c.known_code.ensures.code c.in-26.is refl refl

pub returns-in-27 : goal.returns-in-27
returns-in-27 c = plain_known c.args.self.word c.known_code.result Ask c.requires c.known_code.ensures.code c.in-27.is refl refl

pub returns-in-28 : goal.returns-in-28
returns-in-28 c = plain_known c.args.self.word c.known_code.result Open c.requires c.known_code.ensures.code c.in-28.is refl refl

pub returns-in-29 : goal.returns-in-29
returns-in-29 c = plain_known c.args.self.word c.known_code.result Take c.requires c.known_code.ensures.code c.in-29.is refl refl

pub returns-in-30 : goal.returns-in-30
returns-in-30 c = plain_known c.args.self.word c.known_code.result Give c.requires c.known_code.ensures.code c.in-30.is refl refl

pub returns-in-31 : goal.returns-in-31
returns-in-31 c = plain_known c.args.self.word c.known_code.result Drain c.requires c.known_code.ensures.code c.in-31.is refl refl

pub returns-in_default : goal.returns-in_default
returns-in_default c =
    let is : c.known_code.result ≡ 32 = omega (arith, c.known_code.ensures.there, c.known_code.ensures.within, c.in_default) in
    plain_known c.args.self.word c.known_code.result Release c.requires c.known_code.ensures.code is refl refl
