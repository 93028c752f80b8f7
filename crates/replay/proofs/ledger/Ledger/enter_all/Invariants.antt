use Rattle.std.proofs.Common.{◌≡◌, ◌*◌, take}
use Rattle.semantics.specs.Machine.{Size}
use Rattle.replay.specs.Books.{Book, AreEntries}
use Rattle.replay.specs.Entering.{IsWhole, IsReady, Records}
use Rattle.replay.proofs.ledger.Ledger.enter_all.Given as goal

-- All books that the ledger had are these now.
abbrev pub invariant-loop-event : goal.invariant-loop-event
invariant-loop-event g l = record {
  whole : IsWhole (g.C.Instructions.program l.code) l.self.extent l.self.lane;
  extent : l.self.extent ≡ l.fn.self.extent;
  ready : IsReady l.self;
  so_far : (z : Size) (b : Book) → z.elements ≡ l.fn.self.extent.elements → z.elements * z.frames ≡ l.fn.self.extent.frames
      → Records l.fn.self.lane l.fn.self.places.items b
      → (n : Book) × AreEntries (g.C.Instructions.program l.code) z b (take l.event-index l.events) l.entries.items n
      × Records l.self.lane l.self.places.items n;
}
