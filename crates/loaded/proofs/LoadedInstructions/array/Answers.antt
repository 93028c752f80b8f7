use Rattle.std.proofs.Common.{arith}
use Rattle.loaded.proofs.Seen.{ready}
use Rattle.loaded.proofs.Tables.{array_found, array_beyond}
use Rattle.loaded.proofs.Short.{few_cells}
use Rattle.loaded.proofs.LoadedInstructions.array.Goals as goal

pub returns-in-Some-clause-base : goal.returns-in-Some-clause-base
returns-in-Some-clause-base g c =
    let r = ready _ _ _ _ _ _ _ c.self.view_is c.self.invariant in
    let found = c.in-Some.ensures.lookup in
    (array_found c.args.self.now.code.program c.deref.result.now c.self.inside.arrays.items c.args.number c.in-Some.array.now c.deref.ensures.value
    r.arrays_parsed found.3.0 found.1).0

pub returns-in-Some-clause-len : goal.returns-in-Some-clause-len
returns-in-Some-clause-len g c =
    let r = ready _ _ _ _ _ _ _ c.self.view_is c.self.invariant in
    let found = c.in-Some.ensures.lookup in
    (array_found c.args.self.now.code.program c.deref.result.now c.self.inside.arrays.items c.args.number c.in-Some.array.now c.deref.ensures.value
    r.arrays_parsed found.3.0 found.1).1

pub returns-in-Some-clause-short : goal.returns-in-Some-clause-short
returns-in-Some-clause-short g c =
    let r = ready _ _ _ _ _ _ _ c.self.view_is c.self.invariant in
    omega (
      arith,
      few_cells c.args.self.now.version c.args.self.now.code c.args.number r.lawful,
      returns-in-Some-clause-base g c,
      returns-in-Some-clause-len g c,
    )

pub returns-in-None-clause-base : goal.returns-in-None-clause-base
returns-in-None-clause-base g c =
    let r = ready _ _ _ _ _ _ _ c.self.view_is c.self.invariant in
    let found = c.in-None.ensures.lookup in
    (array_beyond c.args.self.now.code.program c.deref.result.now c.self.inside.arrays.items c.args.number c.self.inside.cells c.deref.ensures.value
    r.arrays_parsed r.cells_parsed found.3).0

pub returns-in-None-clause-len : goal.returns-in-None-clause-len
returns-in-None-clause-len g c =
    let r = ready _ _ _ _ _ _ _ c.self.view_is c.self.invariant in
    let found = c.in-None.ensures.lookup in
    (array_beyond c.args.self.now.code.program c.deref.result.now c.self.inside.arrays.items c.args.number c.self.inside.cells c.deref.ensures.value
    r.arrays_parsed r.cells_parsed found.3).1
